-- A body is of one operation of its opcode: the one whose fields lie in it.
use Rattle.std.proofs.Common.{◌≡◌, ℕ, ◌+◌, ◌-◌, false, List, [], ◌∷◌, ◌++◌, length, take, drop, refl, sym, ap, subst, ◌∙◌, arith, length-append}
use Rattle.std.specs.Prelude.{if◌then◌else◌, ◌==◌}
use Rattle.std.specs.Int.{w32, w64}
use Rattle.std.specs.List.{list_any}
use Rattle.std.proofs.lemmas.Bool.{or_from, ne_eqb}
use Rattle.std.proofs.lemmas.List.{take_at, drop-drop}
use Rattle.fuse_wire.specs.Parts.{Part, U32, U64, Ignored, Name, Bytes, Are}
use Rattle.fuse_wire.specs.Requests.{opcode_of, is_known, HasOwnOpcode, body}
use Rattle.fuse_wire.specs.declared.request.Operation.{Operation}
use Rattle.fuse_wire.specs.declared.request.Operation.TheVariants.{Lookup, Forget, GetAttr, SetAttr, MkDir, RmDir, Open, Read, Write, StatFs, Release, Fsync, GetXAttr, ListXAttr, Flush, Init, OpenDir, ReadDir, ReleaseDir, Access, Interrupt, Destroy, Poll, BatchForget, Other}
use Rattle.fuse_wire.proofs.NumberLemmas.{value, value_32, value_64}
use Rattle.fuse_wire.proofs.PartLemmas.{first_part, only_part}

-- all but the last byte
abbrev pub name_of : List ℕ → List ℕ
name_of bytes = take (length bytes - 1) bytes

abbrev pub first_32 : List ℕ → ℕ
first_32 bytes = value w32 (take 4 bytes)

abbrev pub first_64 : List ℕ → ℕ
first_64 bytes = value w64 (take 8 bytes)

abbrev pub known_at : ℕ → List ℕ → Operation
known_at opcode bytes =
    if opcode == 1 then Lookup (name_of bytes)
    else if opcode == 2 then Forget
    else if opcode == 3 then GetAttr
    else if opcode == 4 then SetAttr (first_32 bytes) (first_64 (drop 16 bytes))
    else if opcode == 9 then MkDir (name_of (drop 8 bytes))
    else if opcode == 11 then RmDir (name_of bytes)
    else if opcode == 14 then Open (first_32 bytes)
    else if opcode == 15 then Read (first_64 bytes) (first_64 (drop 8 bytes)) (first_32 (drop 16 bytes)) (first_32 (drop 20 bytes)) (first_32 (drop 32 bytes))
    else if opcode == 16 then Write (first_64 bytes) (first_64 (drop 8 bytes)) (first_64 (drop 24 bytes)) (drop 40 bytes)
    else if opcode == 17 then StatFs
    else if opcode == 18 then Release (first_64 bytes)
    else if opcode == 20 then Fsync
    else if opcode == 22 then GetXAttr (name_of (drop 8 bytes))
    else if opcode == 23 then ListXAttr
    else if opcode == 25 then Flush (first_64 bytes) (first_64 (drop 16 bytes))
    else if opcode == 26 then Init (first_32 bytes) (first_32 (drop 4 bytes)) (first_32 (drop 8 bytes)) (first_32 (drop 12 bytes))
    else if opcode == 27 then OpenDir
    else if opcode == 28 then ReadDir (first_64 bytes) (first_64 (drop 8 bytes)) (first_32 (drop 16 bytes))
    else if opcode == 29 then ReleaseDir (first_64 bytes)
    else if opcode == 34 then Access (first_32 bytes)
    else if opcode == 36 then Interrupt (first_64 bytes)
    else if opcode == 38 then Destroy
    else if opcode == 40 then Poll (first_64 bytes) (first_64 (drop 8 bytes)) (first_32 (drop 16 bytes)) (first_32 (drop 20 bytes))
    else BatchForget (first_32 bytes)

-- the operation of this opcode whose fields lie in the bytes
abbrev pub operation_at : ℕ → List ℕ → Operation
operation_at opcode bytes = if is_known opcode then known_at opcode bytes else Other opcode

pub name_is : (name bytes : List ℕ) → Are (Name name ∷ []) bytes → name_of bytes ≡ name
name_is name bytes are =
    let whole : bytes ≡ name ++ 0 ∷ [] = (only_part (Name name) bytes are).1 in
    let size : length name ≡ length (name ++ 0 ∷ []) - 1 = omega (arith, length-append name (0 ∷ [])) in
    rw whole (take_at name (0 ∷ []) _ size)

-- what lies at an offset, and the parts after it
pub number_at : (number : ℕ) (parts : List Part) (bytes : List ℕ) (at after : ℕ) → after ≡ at + 4 → Are (U32 number ∷ parts) (drop at bytes) → (first_32 (drop at bytes) ≡ number) × Are parts (drop after bytes)
number_at number parts bytes at after e are =
    let p = first_part (U32 number) parts (drop at bytes) refl are in
    (value_32 number (take 4 (drop at bytes)) p.0, subst (λ (x : List ℕ). Are parts x) (drop-drop 4 at bytes ∙ ap (λ (k : ℕ). drop k bytes) (sym e)) p.1)

pub long_at : (number : ℕ) (parts : List Part) (bytes : List ℕ) (at after : ℕ) → after ≡ at + 8 → Are (U64 number ∷ parts) (drop at bytes) → (first_64 (drop at bytes) ≡ number) × Are parts (drop after bytes)
long_at number parts bytes at after e are =
    let p = first_part (U64 number) parts (drop at bytes) refl are in
    (value_64 number (take 8 (drop at bytes)) p.0, subst (λ (x : List ℕ). Are parts x) (drop-drop 8 at bytes ∙ ap (λ (k : ℕ). drop k bytes) (sym e)) p.1)

pub after_ignored : (count : ℕ) (parts : List Part) (bytes : List ℕ) (at after : ℕ) → after ≡ at + count → Are (Ignored count ∷ parts) (drop at bytes) → Are parts (drop after bytes)
after_ignored count parts bytes at after e are =
    subst (λ (x : List ℕ). Are parts x) (drop-drop count at bytes ∙ ap (λ (k : ℕ). drop k bytes) (sym e)) (first_part (Ignored count) parts (drop at bytes) refl are).1

pub operation_is : (operation : Operation) (bytes : List ℕ) → HasOwnOpcode operation → Are (body operation) bytes → operation_at (opcode_of operation) bytes ≡ operation
operation_is (Lookup name) bytes own are = ap Lookup (name_is name bytes are)
operation_is Forget bytes own are = refl
operation_is GetAttr bytes own are = refl
operation_is (SetAttr valid size) bytes own are =
    let a = number_at valid _ bytes 0 4 refl are in
    let b = after_ignored 12 _ bytes 4 16 refl a.1 in
    let c = long_at size _ bytes 16 24 refl b in
    cc (a.0, c.0)
operation_is (MkDir name) bytes own are = ap MkDir (name_is name (drop 8 bytes) (after_ignored 8 _ bytes 0 8 refl are))
operation_is (RmDir name) bytes own are = ap RmDir (name_is name bytes are)
operation_is (Open flags) bytes own are = ap Open (number_at flags _ bytes 0 4 refl are).0
operation_is (Read handle offset size read_flags flags) bytes own are =
    let a = long_at handle _ bytes 0 8 refl are in
    let b = long_at offset _ bytes 8 16 refl a.1 in
    let c = number_at size _ bytes 16 20 refl b.1 in
    let d = number_at read_flags _ bytes 20 24 refl c.1 in
    let e = after_ignored 8 _ bytes 24 32 refl d.1 in
    let f = number_at flags _ bytes 32 36 refl e in
    cc (a.0, b.0, c.0, d.0, f.0)
operation_is (Write handle offset lock_owner written) bytes own are =
    let a = long_at handle _ bytes 0 8 refl are in
    let b = long_at offset _ bytes 8 16 refl a.1 in
    let c = number_at (length written) _ bytes 16 20 refl b.1 in
    let d = after_ignored 4 _ bytes 20 24 refl c.1 in
    let e = long_at lock_owner _ bytes 24 32 refl d in
    let f = after_ignored 8 _ bytes 32 40 refl e.1 in
    let g = only_part (Bytes written) (drop 40 bytes) f in
    cc (a.0, b.0, e.0, g)
operation_is StatFs bytes own are = refl
operation_is (Release handle) bytes own are = ap Release (long_at handle _ bytes 0 8 refl are).0
operation_is Fsync bytes own are = refl
operation_is (GetXAttr name) bytes own are = ap GetXAttr (name_is name (drop 8 bytes) (after_ignored 8 _ bytes 0 8 refl are))
operation_is ListXAttr bytes own are = refl
operation_is (Flush handle lock_owner) bytes own are =
    let a = long_at handle _ bytes 0 8 refl are in
    let b = after_ignored 8 _ bytes 8 16 refl a.1 in
    let c = long_at lock_owner _ bytes 16 24 refl b in
    cc (a.0, c.0)
operation_is (Init major minor max_readahead flags) bytes own are =
    let a = number_at major _ bytes 0 4 refl are in
    let b = number_at minor _ bytes 4 8 refl a.1 in
    let c = number_at max_readahead _ bytes 8 12 refl b.1 in
    let d = number_at flags _ bytes 12 16 refl c.1 in
    cc (a.0, b.0, c.0, d.0)
operation_is OpenDir bytes own are = refl
operation_is (ReadDir handle offset size) bytes own are =
    let a = long_at handle _ bytes 0 8 refl are in
    let b = long_at offset _ bytes 8 16 refl a.1 in
    let c = number_at size _ bytes 16 20 refl b.1 in
    cc (a.0, b.0, c.0)
operation_is (ReleaseDir handle) bytes own are = ap ReleaseDir (long_at handle _ bytes 0 8 refl are).0
operation_is (Access mask) bytes own are = ap Access (number_at mask _ bytes 0 4 refl are).0
operation_is (Interrupt unique) bytes own are = ap Interrupt (long_at unique _ bytes 0 8 refl are).0
operation_is Destroy bytes own are = refl
operation_is (Poll handle wakeup flags events) bytes own are =
    let a = long_at handle _ bytes 0 8 refl are in
    let b = long_at wakeup _ bytes 8 16 refl a.1 in
    let c = number_at flags _ bytes 16 20 refl b.1 in
    let d = number_at events _ bytes 20 24 refl c.1 in
    cc (a.0, b.0, c.0, d.0)
operation_is (BatchForget count) bytes own are = ap BatchForget (number_at count _ bytes 0 4 refl are).0
operation_is (Other opcode) bytes own are = rw own refl

-- an opcode that is none of these
abbrev pub DiffersFrom : List ℕ → ℕ → Type 0
DiffersFrom [] opcode = Unit {0}
DiffersFrom (known ∷ others) opcode = (opcode ≡ known → ⊥) × DiffersFrom others opcode

pub none_of : (known : List ℕ) (opcode : ℕ) → DiffersFrom known opcode → list_any (λ k. opcode == k) known ≡ false
none_of [] opcode differs = refl
none_of (known ∷ others) opcode differs = or_from (opcode == known) (list_any (λ k. opcode == k) others) (ne_eqb opcode known differs.0) (none_of others opcode differs.1)
