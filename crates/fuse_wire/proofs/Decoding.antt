-- What is answered for a body is the one operation, or there is none.
use Rattle.std.proofs.Common.{◌≡◌, ℕ, ◌-◌, ◌≤◌, true, List, [], ◌∷◌, ◌++◌, length, take, drop, Option, Some, None, refl, sym, ap, subst, ◌∙◌}
use Rattle.std.proofs.lemmas.List.{same_from_push, take_rest}
use Rattle.std.proofs.lemmas.Option.{none-some}
use Rattle.fuse_wire.specs.Parts.{Ignored, Name, IsName, Are}
use Rattle.fuse_wire.specs.Requests.{body}
use Rattle.fuse_wire.specs.private.Answers.{IsBody, Decodes, ReadsName}
use Rattle.fuse_wire.specs.declared.request.Operation.{Operation}
use Rattle.fuse_wire.proofs.Opcodes.{operation_at, operation_is, after_ignored}
use Rattle.fuse_wire.proofs.PartLemmas.{total, all_sized, length-parts, parts_fit, alone, only_part, ignored_at}

pub only_one : (opcode : ℕ) (bytes : List ℕ) (operation : Operation) → IsBody opcode bytes operation → operation_at opcode bytes ≡ operation
only_one opcode bytes operation is =
    ap (λ (k : ℕ). operation_at k bytes) (sym is.opcode_is) ∙ operation_is operation bytes is.own_opcode is.parts

-- an operation whose body the bytes are
pub decodes : (opcode : ℕ) (bytes : List ℕ) (operation : Operation) → IsBody opcode bytes operation → Decodes opcode bytes (Some operation)
decodes opcode bytes operation is = record {
  found = is;
  only = λ other other_is. ap (λ (o : Operation). Some o) (sym (only_one opcode bytes operation is) ∙ only_one opcode bytes other other_is);
}

-- no operation, if it can't be the one whose fields lie in the bytes
pub none_decoded : (opcode : ℕ) (bytes : List ℕ) → (Are (body (operation_at opcode bytes)) bytes → ⊥) → Decodes opcode bytes None
none_decoded opcode bytes wrong = record {
  found = tt;
  only = λ operation is. absurd (wrong (subst (λ (o : Operation). Are (body o) bytes) (sym (only_one opcode bytes operation is)) is.parts));
}

-- none, if the bytes are not as many as its body
pub of_another_length : (opcode : ℕ) (bytes : List ℕ) → all_sized (body (operation_at opcode bytes)) ≡ true → (length bytes ≡ total (body (operation_at opcode bytes)) → ⊥) → Decodes opcode bytes None
of_another_length opcode bytes sized wrong =
    none_decoded opcode bytes (λ are. wrong (length-parts (body (operation_at opcode bytes)) bytes sized are))

-- none, if the bytes are fewer than its body has at least
pub too_few : (opcode : ℕ) (bytes : List ℕ) → (total (body (operation_at opcode bytes)) ≤ length bytes → ⊥) → Decodes opcode bytes None
too_few opcode bytes wrong = none_decoded opcode bytes (λ are. wrong (parts_fit (body (operation_at opcode bytes)) bytes are))

-- ---- names

-- a name, and the zero byte after it
pub reads_name : (bytes rest : List ℕ) (last : ℕ) → bytes ≡ rest ++ last ∷ [] → last ≡ 0 → IsName rest → ReadsName bytes (Some rest)
reads_name bytes rest last e zero named = record {
  found = alone (Name rest) bytes (named, e ∙ ap (λ (x : ℕ). rest ++ x ∷ []) zero);
  only = λ name are. ap (λ (x : List ℕ). Some x) (same_from_push rest name last 0 (sym e ∙ (only_part (Name name) bytes are).1)).0;
}

-- what is read of the bytes from the eighth on
pub named : (bytes : List ℕ) (answer : Option (List ℕ)) → ReadsName (take (length bytes - 8) (drop 8 bytes)) answer → ReadsName (drop 8 bytes) answer
named bytes answer reads = subst (λ (x : List ℕ). ReadsName x answer) (take_rest bytes 8) reads

-- a name after eight bytes of other fields
pub after_eight : (bytes name : List ℕ) (answer : Option (List ℕ)) → 8 ≤ length bytes → ReadsName (take (length bytes - 8) (drop 8 bytes)) answer → answer ≡ Some name → Are (Ignored 8 ∷ Name name ∷ []) bytes
after_eight bytes name answer l reads is =
    let found = (named bytes answer reads).found in
    ignored_at 8 (Name name ∷ []) bytes 0 8 refl l (rw is at found)

pub none_after_eight : (bytes name : List ℕ) (answer : Option (List ℕ)) → ReadsName (take (length bytes - 8) (drop 8 bytes)) answer → answer ≡ None → Are (Ignored 8 ∷ Name name ∷ []) bytes → ⊥
none_after_eight bytes name answer reads is are =
    none-some name (sym is ∙ (named bytes answer reads).only name (after_ignored 8 (Name name ∷ []) bytes 0 8 refl are))
