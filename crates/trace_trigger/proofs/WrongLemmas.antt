-- Lists in which no element is wrong, each judged by those before it.
use Rattle.std.proofs.Common.{◌≡◌, refl, suc, Bool, true, false, ◌||◌, if◌then◌else◌, List, [], ◌∷◌, ◌++◌, map, sym, ◌∙◌, arith}
use Rattle.std.specs.List.{All, AllByRecursion, AllPairs, list_any}
use Rattle.std.proofs.lemmas.Bool.{or_parts, or_from}
use Rattle.std.proofs.lemmas.List.Elements.{All-from_recursion, recursion_from_All}
use Rattle.std.proofs.lemmas.List.Folds.{list_any-append}
use Rattle.std.proofs.lemmas.List.Kept.{AllPairs-cons}
use Rattle.trace_trigger.specs.private.MistakeOffsets.{wrong_after}

-- ---- all, and each with those after it

abbrev pub Apart : {X : Type 0} → (X → X → Type 0) → List X → Type 0
Apart R [] = Unit {0}
Apart R (x ∷ xs) = AllByRecursion (R x) xs × Apart R xs

pub pairs_from : {X : Type 0} (R : X → X → Type 0) (xs : List X) → Apart R xs → AllPairs R xs
pairs_from R [] apart = λ i j d l k. absurd (omega (arith, k))
pairs_from R (x ∷ xs) apart = AllPairs-cons R x xs (All-from_recursion (R x) xs apart.0) (pairs_from R xs apart.1)

pub pairs_tail : {X : Type 0} (R : X → X → Type 0) (x : X) (xs : List X) → AllPairs R (x ∷ xs) → AllPairs R xs
pairs_tail R x xs pairs = λ i j d l k. pairs (suc i) (suc j) d (omega (arith, l)) (omega (arith, k))

pub pairs_head : {X : Type 0} (R : X → X → Type 0) (x : X) (xs : List X) → AllPairs R (x ∷ xs) → All (R x) xs
pairs_head R x xs pairs = λ k d l. pairs 0 (suc k) d (omega arith) (omega (arith, l))

pub from_pairs : {X : Type 0} (R : X → X → Type 0) (xs : List X) → AllPairs R xs → Apart R xs
from_pairs R [] pairs = tt
from_pairs R (x ∷ xs) pairs = (recursion_from_All (R x) xs (pairs_head R x xs pairs), from_pairs R xs (pairs_tail R x xs pairs))

pub each_weaker : {X : Type 0} (P Q : X → Type 0) → ((x : X) → P x → Q x) → (xs : List X) → AllByRecursion P xs → AllByRecursion Q xs
each_weaker P Q f [] all = tt
each_weaker P Q f (x ∷ xs) all = (f x all.0, each_weaker P Q f xs all.1)

pub apart_weaker : {X : Type 0} (R S : X → X → Type 0) → ((x y : X) → R x y → S x y) → (xs : List X) → Apart R xs → Apart S xs
apart_weaker R S f [] apart = tt
apart_weaker R S f (x ∷ xs) apart = (each_weaker (R x) (S x) (f x) xs apart.0, apart_weaker R S f xs apart.1)

pub each_map : {X Y : Type 0} (P : Y → Type 0) (f : X → Y) (xs : List X) → AllByRecursion (λ x. P (f x)) xs → AllByRecursion P (map f xs)
each_map P f [] all = tt
each_map P f (x ∷ xs) all = (all.0, each_map P f xs all.1)

pub each_unmap : {X Y : Type 0} (P : Y → Type 0) (f : X → Y) (xs : List X) → AllByRecursion P (map f xs) → AllByRecursion (λ x. P (f x)) xs
each_unmap P f [] all = tt
each_unmap P f (x ∷ xs) all = (all.0, each_unmap P f xs all.1)

pub apart_map : {X Y : Type 0} (R : Y → Y → Type 0) (f : X → Y) (xs : List X) → Apart (λ x y. R (f x) (f y)) xs → Apart R (map f xs)
apart_map R f [] apart = tt
apart_map R f (x ∷ xs) apart = (each_map (R (f x)) f xs apart.0, apart_map R f xs apart.1)

pub apart_unmap : {X Y : Type 0} (R : Y → Y → Type 0) (f : X → Y) (xs : List X) → Apart R (map f xs) → Apart (λ x y. R (f x) (f y)) xs
apart_unmap R f [] apart = tt
apart_unmap R f (x ∷ xs) apart = (each_unmap (R (f x)) f xs apart.0, apart_unmap R f xs apart.1)

-- ---- none wrong

abbrev pub NoneWrong : {X : Type 0} → (List X → X → Bool) → List X → List X → Type 0
NoneWrong wrong before [] = Unit {0}
NoneWrong wrong before (x ∷ xs) = (wrong before x ≡ false) × NoneWrong wrong (before ++ x ∷ []) xs

pub none_from : {X : Type 0} (wrong : List X → X → Bool) (before xs : List X) → wrong_after wrong before xs ≡ [] → NoneWrong wrong before xs
none_from wrong before [] e = tt
none_from {X} wrong before (x ∷ xs) e = by (wrong before x) refl e (none_from wrong (before ++ x ∷ []) xs)
  where
    by : (b : Bool) → wrong before x ≡ b → (if b then x ∷ wrong_after wrong (before ++ x ∷ []) xs else wrong_after wrong (before ++ x ∷ []) xs) ≡ []
        → (wrong_after wrong (before ++ x ∷ []) xs ≡ [] → NoneWrong wrong (before ++ x ∷ []) xs) → NoneWrong wrong before (x ∷ xs)
    by true f e next = absurd (cc)
    by false f e next = (f, next e)

pub from_none : {X : Type 0} (wrong : List X → X → Bool) (before xs : List X) → NoneWrong wrong before xs → wrong_after wrong before xs ≡ []
from_none wrong before [] none = refl
from_none wrong before (x ∷ xs) none = rw (none.0) (from_none wrong (before ++ x ∷ []) xs none.1)

pub none_weaker : {X : Type 0} (one other : List X → X → Bool) → ((before : List X) (x : X) → one before x ≡ false → other before x ≡ false) → (before xs : List X) → NoneWrong one before xs → NoneWrong other before xs
none_weaker one other f before [] none = tt
none_weaker one other f before (x ∷ xs) none = (f before x none.0, none_weaker one other f (before ++ x ∷ []) xs none.1)

pub none_each : {X : Type 0} (wrong : X → Bool) (before xs : List X) → NoneWrong (λ _ x. wrong x) before xs → AllByRecursion (λ x. wrong x ≡ false) xs
none_each wrong before [] none = tt
none_each wrong before (x ∷ xs) none = (none.0, none_each wrong (before ++ x ∷ []) xs none.1)

pub each_none : {X : Type 0} (wrong : X → Bool) (before xs : List X) → AllByRecursion (λ x. wrong x ≡ false) xs → NoneWrong (λ _ x. wrong x) before xs
each_none wrong before [] all = tt
each_none wrong before (x ∷ xs) all = (all.0, each_none wrong (before ++ x ∷ []) xs all.1)

-- neither for itself nor for those before it
pub none_or : {X : Type 0} (one other : List X → X → Bool) (before xs : List X) → NoneWrong one before xs → NoneWrong other before xs → NoneWrong (λ bs x. one bs x || other bs x) before xs
none_or one other before [] none never = tt
none_or one other before (x ∷ xs) none never = (or_from (one before x) (other before x) none.0 never.0, none_or one other (before ++ x ∷ []) xs none.1 never.1)

pub none_left : {X : Type 0} (one other : List X → X → Bool) (before xs : List X) → NoneWrong (λ bs x. one bs x || other bs x) before xs → NoneWrong one before xs
none_left one other = none_weaker (λ bs x. one bs x || other bs x) one (λ bs x e. (or_parts (one bs x) (other bs x) e).0)

pub none_right : {X : Type 0} (one other : List X → X → Bool) (before xs : List X) → NoneWrong (λ bs x. one bs x || other bs x) before xs → NoneWrong other before xs
none_right one other = none_weaker (λ bs x. one bs x || other bs x) other (λ bs x e. (or_parts (one bs x) (other bs x) e).1)

-- ---- none like one before it

module _ {X : Type 0} (like : X → X → Bool) where
  abbrev pub likes : List X → X → Bool
  likes before x = list_any (λ other. like other x) before

  likes_more : (before : List X) (x y : X) → likes (before ++ x ∷ []) y ≡ false → (likes before y ≡ false) × (like x y ≡ false)
  likes_more before x y e =
      let parts = or_parts (likes before y) (likes (x ∷ []) y) (sym (list_any-append (λ other. like other y) before (x ∷ [])) ∙ e) in
      (parts.0, (or_parts (like x y) false parts.1).0)

  more_likes : (before : List X) (x y : X) → likes before y ≡ false → like x y ≡ false → likes (before ++ x ∷ []) y ≡ false
  more_likes before x y e f = list_any-append (λ other. like other y) before (x ∷ []) ∙ or_from (likes before y) (likes (x ∷ []) y) e (or_from (like x y) false f refl)

  abbrev pub Unlike : X → X → Type 0
  Unlike x y = like x y ≡ false

  split : (before : List X) (x : X) (xs : List X) → AllByRecursion (λ y. likes (before ++ x ∷ []) y ≡ false) xs → AllByRecursion (λ y. likes before y ≡ false) xs × AllByRecursion (Unlike x) xs
  split before x [] all = (tt, tt)
  split before x (y ∷ ys) all =
      let parts = likes_more before x y all.0 in
      let rest = split before x ys all.1 in
      ((parts.0, rest.0), (parts.1, rest.1))

  joined : (before : List X) (x : X) (xs : List X) → AllByRecursion (λ y. likes before y ≡ false) xs → AllByRecursion (Unlike x) xs → AllByRecursion (λ y. likes (before ++ x ∷ []) y ≡ false) xs
  joined before x [] all other = tt
  joined before x (y ∷ ys) all other = (more_likes before x y all.0 other.0, joined before x ys all.1 other.1)

  unlike_before : (before xs : List X) → NoneWrong likes before xs → AllByRecursion (λ y. likes before y ≡ false) xs × Apart Unlike xs
  unlike_before before [] none = (tt, tt)
  unlike_before before (x ∷ xs) none =
      let rest = unlike_before (before ++ x ∷ []) xs none.1 in
      let parts = split before x xs rest.0 in
      ((none.0, parts.0), (parts.1, rest.1))

  before_unlike : (before xs : List X) → AllByRecursion (λ y. likes before y ≡ false) xs → Apart Unlike xs → NoneWrong likes before xs
  before_unlike before [] all apart = tt
  before_unlike before (x ∷ xs) all apart = (all.0, before_unlike (before ++ x ∷ []) xs (joined before x xs all.1 apart.0) apart.1)

  none_before : (xs : List X) → AllByRecursion (λ y. likes [] y ≡ false) xs
  none_before [] = tt
  none_before (x ∷ xs) = (refl, none_before xs)

  pub unlike_each_other : (xs : List X) → NoneWrong likes [] xs → Apart Unlike xs
  unlike_each_other xs none = (unlike_before [] xs none).1

  pub none_alike : (xs : List X) → Apart Unlike xs → NoneWrong likes [] xs
  none_alike xs apart = before_unlike [] xs (none_before xs) apart
