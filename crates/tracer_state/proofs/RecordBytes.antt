-- The bytes of a record.
use Rattle.std.proofs.Common.{◌≡◌, ℕ, ℤ, ◌+◌, ◌-◌, ◌≤◌, List, ◌++◌, length, take, drop, replicate, refl, sym, ap, ◌∙◌, subst, arith, append_assoc, drop-drop}
use Rattle.std.proofs.Math.Seq.{drop-append_seam}
use Rattle.std.proofs.lemmas.List.{length-take, drop-replicate}
use Rattle.trace_record.specs.Record.{head_bytes, padding, record_size}
use Rattle.trace_format.specs.Cells.{Cells, payload_of}
use Rattle.tracer_specification.specs.Emissions.{record_bytes}

-- what stands behind a front of so many bytes
behind : (n : ℕ) (front rest : List ℕ) → length front ≡ n → drop n (front ++ rest) ≡ rest
behind n front rest is = subst (λ (k : ℕ). drop k (front ++ rest) ≡ rest) is (drop-append_seam front rest)

-- what stands behind a part of a front
behind-part : (n k : ℕ) (front rest : List ℕ) → length front ≡ n → drop (n + k) (front ++ rest) ≡ drop k rest
behind-part n k front rest is = sym (drop-drop k n (front ++ rest)) ∙ ap (λ (bytes : List ℕ). drop k bytes) (behind n front rest is)

-- where the last eight bytes of a record are zeros, so are those after the payload
pub zeros-after : (out cleared : List ℕ) (size : ℕ) → length out ≡ record_size size → cleared ≡ take (length out - 8) out ++ replicate 8 0
    → drop (16 + size) cleared ≡ replicate (padding size) 0
zeros-after out cleared size long is =
    let front : List ℕ = take (length out - 8) out in
    let short : length front ≡ length out - 8 = omega (arith, length-take (length out - 8) out) in
    let split : 16 + size ≡ (length out - 8) + (16 + size - (length out - 8)) = omega (arith, long) in
    let rest : 8 - (16 + size - (length out - 8)) ≡ padding size = omega (arith, long) in
    ap (λ (bytes : List ℕ). drop (16 + size) bytes) is
    ∙ ap (λ (n : ℕ). drop n (front ++ replicate 8 0)) split
    ∙ behind-part (length out - 8) (16 + size - (length out - 8)) front (replicate 8 0) short
    ∙ drop-replicate {X = ℕ} (16 + size - (length out - 8)) 8 0
    ∙ ap (λ (n : ℕ). let zs : List ℕ = replicate n 0 in zs) rest

-- a payload written over bytes that end in zeros, and then the head
pub filled : (head payload out : List ℕ) (size : ℕ) → 16 ≤ length out → drop (16 + size) out ≡ replicate (padding size) 0
    → head ++ drop 16 (take 16 out ++ payload ++ drop (16 + size) out) ≡ head ++ payload ++ replicate (padding size) 0
filled head payload out size room rest =
    let long : length (take 16 out) ≡ 16 = omega (arith, length-take 16 out, room) in
    rw (append_assoc (take 16 out) payload (drop (16 + size) out), behind 16 (take 16 out) (payload ++ drop (16 + size) out) long, rest)
    (sym (append_assoc head payload (replicate (padding size) 0)))

-- the head has the payload's length
pub record_bytes-is : (timestamp : ℕ) (pid : ℤ) (id size : ℕ) (row : Cells) → length (payload_of row) ≡ size
    → head_bytes (record { ts = timestamp; pid = pid; event = id; payload = size }) ++ payload_of row ++ replicate (padding size) 0
    ≡ record_bytes timestamp pid id row
unfolding record_bytes
record_bytes-is timestamp pid id size row is = rw is refl
