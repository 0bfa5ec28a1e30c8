-- What gave something.
use Rattle.std.proofs.Common.{◌≡◌, Bool, true, false, if◌then◌else◌, Option, None, Some, option_map, option_and_then, is_some, refl, true≢false}

pub if_some : {A : Type 0} {x y : A} (b : Bool) → (if b then Some x else None) ≡ Some y → (b ≡ true) × (x ≡ y)
if_some true h = (refl, cc)
if_some false h = absurd (cc)

pub record Gave {A B : Type 0} (f : A → Option B) (o : Option A) (y : B) : Type 0 where
  pub value : A
  pub was : o ≡ Some value
  pub gives : f value ≡ Some y

pub and_then_some : {A B : Type 0} (f : A → Option B) (o : Option A) (y : B) → option_and_then f o ≡ Some y → Gave f o y
and_then_some f None y h = absurd (cc)
and_then_some f (Some x) y h = record { value = x; was = refl; gives = h }

pub record Mapped {A B : Type 0} (f : A → B) (o : Option A) (y : B) : Type 0 where
  pub value : A
  pub was : o ≡ Some value
  pub gives : f value ≡ y

pub map_some : {A B : Type 0} (f : A → B) (o : Option A) (y : B) → option_map f o ≡ Some y → Mapped f o y
map_some f None y h = absurd (cc)
map_some f (Some x) y h = record { value = x; was = refl; gives = cc }

pub some_is : {A : Type 0} {x y : A} → Some x ≡ Some y → x ≡ y
some_is h = cc

pub none_is : {A : Type 0} (o : Option A) → is_some o ≡ false → o ≡ None
none_is None h = refl
none_is (Some x) h = absurd (true≢false h)
