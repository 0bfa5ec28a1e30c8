-- Parts that follow one another.
use Rattle.std.proofs.Common.{◌≡◌, ℕ, ◌+◌, ◌≤◌, Bool, true, false, List, [], ◌∷◌, ◌++◌, length, take, drop, refl, sym, ap, subst, ◌∙◌, arith, length-append, length-take, length-drop}
use Rattle.std.specs.Prelude.{◌&&◌}
use Rattle.std.proofs.lemmas.Bool.{and_parts}
use Rattle.std.proofs.lemmas.List.{length-replicate, take_at, drop_at, drop_all, take-append-drop, drop-drop, append-nil}
use Rattle.fuse_wire.specs.Parts.{Part, U16, U32, U64, Ignored, Name, Bytes, Anything, IsPart, Are, nothing, followed, part_bytes, bytes_of}
use Rattle.fuse_wire.proofs.NumberLemmas.{length-number_16, length-number_32, length-number_64}

-- how many bytes a part takes, if that is told by the part
abbrev pub size_of : Part → ℕ
size_of (U16 number) = 2
size_of (U32 number) = 4
size_of (U64 number) = 8
size_of (Ignored count) = count
size_of (Name name) = length name + 1
size_of (Bytes own) = length own
size_of Anything = 0

abbrev pub has_size : Part → Bool
has_size (U16 number) = true
has_size (U32 number) = true
has_size (U64 number) = true
has_size (Ignored count) = true
has_size (Name name) = true
has_size (Bytes own) = true
has_size Anything = false

abbrev pub total : List Part → ℕ
total [] = 0
total (part ∷ parts) = size_of part + total parts

abbrev pub all_sized : List Part → Bool
all_sized [] = true
all_sized (part ∷ parts) = has_size part && all_sized parts

pub length-part : (part : Part) (bytes : List ℕ) → has_size part ≡ true → IsPart part bytes → length bytes ≡ size_of part
length-part (U16 number) bytes s (fits, is) = ap length is ∙ length-number_16 number
length-part (U32 number) bytes s (fits, is) = ap length is ∙ length-number_32 number
length-part (U64 number) bytes s (fits, is) = ap length is ∙ length-number_64 number
length-part (Ignored count) bytes s is = is
length-part (Name name) bytes s (named, is) = ap length is ∙ length-append name (0 ∷ [])
length-part (Bytes own) bytes s is = ap length is
length-part Anything bytes s is = absurd cc

-- the first part, and those after it
pub first_part : (part : Part) (parts : List Part) (bytes : List ℕ) → has_size part ≡ true → Are (part ∷ parts) bytes
    → IsPart part (take (size_of part) bytes) × Are parts (drop (size_of part) bytes) × (size_of part ≤ length bytes)
first_part part parts bytes s (followed first rest is are) =
    let size = length-part part first s is in
    let front : take (size_of part) (first ++ rest) ≡ first = take_at first rest (size_of part) size in
    let back : drop (size_of part) (first ++ rest) ≡ rest = drop_at first rest (size_of part) size in
    (subst (λ (x : List ℕ). IsPart part x) (sym front) is, subst (λ (x : List ℕ). Are parts x) (sym back) are, omega (arith, length-append first rest))

-- a part that lies at an offset, and those after it
pub part_at : (part : Part) (parts : List Part) (bytes : List ℕ) (at size after : ℕ) → after ≡ at + size → IsPart part (take size (drop at bytes)) → Are parts (drop after bytes) → Are (part ∷ parts) (drop at bytes)
part_at part parts bytes at size after e is are =
    let rest : drop size (drop at bytes) ≡ drop after bytes = drop-drop size at bytes ∙ ap (λ (k : ℕ). drop k bytes) (sym e) in
    let whole : take size (drop at bytes) ++ drop after bytes ≡ drop at bytes = ap (λ (x : List ℕ). take size (drop at bytes) ++ x) (sym rest) ∙ take-append-drop size (drop at bytes) in
    subst (λ (x : List ℕ). Are (part ∷ parts) x) whole (followed (take size (drop at bytes)) (drop after bytes) is are)

pub ignored_at : (count : ℕ) (parts : List Part) (bytes : List ℕ) (at after : ℕ) → after ≡ at + count → after ≤ length bytes → Are parts (drop after bytes) → Are (Ignored count ∷ parts) (drop at bytes)
ignored_at count parts bytes at after e l are =
    part_at (Ignored count) parts bytes at count after e (omega (arith, length-take count (drop at bytes), length-drop at bytes)) are

-- nothing follows
pub end_at : (bytes : List ℕ) (at : ℕ) → length bytes ≤ at → Are [] (drop at bytes)
end_at bytes at l = subst (λ (x : List ℕ). Are [] x) (sym (drop_all at bytes l)) nothing

-- one part is all
pub alone : (part : Part) (bytes : List ℕ) → IsPart part bytes → Are (part ∷ []) bytes
alone part bytes is = subst (λ (x : List ℕ). Are (part ∷ []) x) (append-nil bytes) (followed bytes [] is nothing)

pub only_part : (part : Part) (bytes : List ℕ) → Are (part ∷ []) bytes → IsPart part bytes
only_part part bytes (followed first rest is nothing) = subst (λ (x : List ℕ). IsPart part x) (sym (append-nil first)) is

-- parts that tell their sizes have as many bytes together
pub length-parts : (parts : List Part) (bytes : List ℕ) → all_sized parts ≡ true → Are parts bytes → length bytes ≡ total parts
length-parts [] bytes s nothing = refl
length-parts (part ∷ parts) bytes s (followed first rest is are) =
    let both = and_parts (has_size part) (all_sized parts) s in
    omega (arith, length-append first rest, length-part part first both.0 is, length-parts parts rest both.1 are)

-- a part has as many bytes at least
part_fits : (part : Part) (bytes : List ℕ) → IsPart part bytes → size_of part ≤ length bytes
part_fits (U16 number) bytes is = omega (arith, length-part (U16 number) bytes refl is)
part_fits (U32 number) bytes is = omega (arith, length-part (U32 number) bytes refl is)
part_fits (U64 number) bytes is = omega (arith, length-part (U64 number) bytes refl is)
part_fits (Ignored count) bytes is = omega (arith, is)
part_fits (Name name) bytes is = omega (arith, length-part (Name name) bytes refl is)
part_fits (Bytes own) bytes is = omega (arith, ap length is)
part_fits Anything bytes is = omega arith

pub parts_fit : (parts : List Part) (bytes : List ℕ) → Are parts bytes → total parts ≤ length bytes
parts_fit [] bytes nothing = omega arith
parts_fit (part ∷ parts) bytes (followed first rest is are) = omega (arith, length-append first rest, part_fits part first is, parts_fit parts rest are)

-- as many bytes are written
length-part_bytes : (part : Part) → length (part_bytes part) ≡ size_of part
length-part_bytes (U16 number) = length-number_16 number
length-part_bytes (U32 number) = length-number_32 number
length-part_bytes (U64 number) = length-number_64 number
length-part_bytes (Ignored count) = length-replicate count 0
length-part_bytes (Name name) = length-append name (0 ∷ [])
length-part_bytes (Bytes own) = refl
length-part_bytes Anything = refl

pub length-bytes_of : (parts : List Part) → length (bytes_of parts) ≡ total parts
length-bytes_of [] = refl
length-bytes_of (part ∷ parts) = omega (arith, length-append (part_bytes part) (bytes_of parts), length-part_bytes part, length-bytes_of parts)
