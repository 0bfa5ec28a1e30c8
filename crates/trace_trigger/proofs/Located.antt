-- The parts of a string, and its attributes, end where the string ends or before.
use Rattle.std.proofs.Common.{◌≡◌, refl, ℕ, ◌+◌, ◌-◌, ◌<◌, ◌≤◌, ◌^◌, Bool, true, false, ◌==◌, if◌then◌else◌, List, [], ◌∷◌, length, sym, subst, arith}
use Rattle.std.specs.List.{All}
use Rattle.std.proofs.lemmas.Bool.Decides.{nat_tests}
use Rattle.std.proofs.lemmas.List.{length-drop}
use Rattle.std.proofs.lemmas.List.Elements.{All-nil, All-cons, All-map}
use Rattle.std.proofs.lemmas.List.Sums.{prefix_len-le-length}
use Rattle.trace_lex.specs.Prefixes.{is_not}
use Rattle.trace_trigger.specs.declared.attribute.Attribute.{Attribute}
use Rattle.trace_trigger.specs.declared.piece.ListItem.{ListItem}
use Rattle.trace_trigger.specs.HistPieces.{lengthened, pieces_of}
use Rattle.trace_trigger.specs.HistAttributes.{head_len, attribute_of, attributes_at, IsLocated}

abbrev IsWithin : ℕ → ListItem → Type 0
IsWithin end piece = piece.at + length piece.bytes ≤ end

-- the first of the parts begins at an offset
abbrev BeginAt : ℕ → ℕ → List ListItem → Type 0
BeginAt end at [] = Unit {0}
BeginAt end at (piece ∷ pieces) = (piece.at ≡ at) × (at + length piece.bytes ≤ end) × All (IsWithin end) pieces

all_within : (end at : ℕ) (pieces : List ListItem) → BeginAt end at pieces → All (IsWithin end) pieces
all_within end at [] h = All-nil (IsWithin end)
all_within end at (piece ∷ pieces) h = All-cons (IsWithin end) piece pieces (omega (arith, h.0, h.1)) h.2

lengthened_within : (end at byte : ℕ) (pieces : List ListItem) → BeginAt end (at + 1) pieces → BeginAt end at (lengthened at byte pieces)
lengthened_within end at byte [] h = tt
lengthened_within end at byte (piece ∷ pieces) h = (refl, omega (arith, h.1), h.2)

pieces_begin : (separator end at : ℕ) (bytes : List ℕ) → at + length bytes ≤ end → BeginAt end at (pieces_of separator at bytes)
pieces_begin separator end at [] h = (refl, omega (arith, h), All-nil (IsWithin end))
pieces_begin separator end at (byte ∷ bytes) h = by (byte == separator) (pieces_begin separator end (at + 1) bytes (omega (arith, h)))
  where
    by : (ends : Bool) → BeginAt end (at + 1) (pieces_of separator (at + 1) bytes)
        → BeginAt end at (if ends then record { at = at; bytes = [] } ∷ pieces_of separator (at + 1) bytes else lengthened at byte (pieces_of separator (at + 1) bytes))
    by true rest = (refl, omega (arith, h), all_within end (at + 1) (pieces_of separator (at + 1) bytes) rest)
    by false rest = lengthened_within end at byte (pieces_of separator (at + 1) bytes) rest

pub pieces_within : (separator end at : ℕ) (bytes : List ℕ) → at + length bytes ≤ end → All (IsWithin end) (pieces_of separator at bytes)
pieces_within separator end at bytes h = all_within end at (pieces_of separator at bytes) (pieces_begin separator end at bytes h)

-- an attribute's value ends where the attribute ends
located : (piece : ListItem) → IsWithin (2 ^ 64 - 1) piece → IsLocated (attribute_of piece)
located piece h = omega (arith, h, length-drop (head_len piece.bytes) piece.bytes, head_within piece.bytes)
  where
    head_within : (written : List ℕ) → head_len written ≤ length written
    head_within written = grind (arith, nat_tests, prefix_len-le-length (is_not 61) written)

attributes_located : (at : ℕ) (text : List ℕ) → at + length text < 2 ^ 64 → All IsLocated (attributes_at at text)
attributes_located at text h =
    let within : All (IsWithin (2 ^ 64 - 1)) (pieces_of 58 at text) = pieces_within 58 (2 ^ 64 - 1) at text (omega (arith, h)) in
    All-map IsLocated attribute_of (pieces_of 58 at text) (λ k d inside. located _ (within k d inside))

pub found_located : (found : List Attribute) (at : ℕ) (text : List ℕ) → found ≡ attributes_at at text → at + length text < 2 ^ 64 → All IsLocated found
found_located found at text is h = subst (All IsLocated) (sym is) (attributes_located at text h)
