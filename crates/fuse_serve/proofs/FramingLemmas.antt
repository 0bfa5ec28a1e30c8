-- What bytes begin with, by the length that they tell.
use Rattle.std.proofs.Common.{◌≡◌, ℕ, ◌<◌, ◌≤◌, min, List, length, get_or, take, sym, ◌∙◌, arith, length-take, get_or-take}
use Rattle.fuse_serve.specs.Framing.{told_length, IsRequest, BeginsNoRequest}

-- a front of four bytes or more tells the same length
told_length-take : (size : ℕ) (bytes : List ℕ) → 4 ≤ size → told_length (take size bytes) ≡ told_length bytes
told_length-take size bytes h =
    let a : get_or (take size bytes) 0 0 ≡ get_or bytes 0 0 = get_or-take size bytes 0 0 (omega arith) in
    let b : get_or (take size bytes) 1 0 ≡ get_or bytes 1 0 = get_or-take size bytes 1 0 (omega arith) in
    let c : get_or (take size bytes) 2 0 ≡ get_or bytes 2 0 = get_or-take size bytes 2 0 (omega arith) in
    let d : get_or (take size bytes) 3 0 ≡ get_or bytes 3 0 = get_or-take size bytes 3 0 (omega arith) in
    omega (arith, a, b, c, d)

-- a request within the bytes tells their length, and is no longer than they are
inside : (bytes : List ℕ) (size : ℕ) → IsRequest (take size bytes) → (40 ≤ length bytes) × (told_length bytes ≤ length bytes)
inside bytes size request =
    let n : length (take size bytes) ≡ min size (length bytes) = length-take size bytes in
    let h : 40 ≤ length (take size bytes) = request.header in
    let t : told_length (take size bytes) ≡ told_length bytes = told_length-take size bytes (omega (arith, n, h)) in
    let same : told_length (take size bytes) ≡ length (take size bytes) = request.told in
    (omega (arith, n, h), omega (arith, n, t, same))

pub too_few : (bytes : List ℕ) → length bytes < 4 → BeginsNoRequest bytes
too_few bytes h size request = omega (arith, h, (inside bytes size request).0)

pub too_long : (bytes : List ℕ) → length bytes < told_length bytes → BeginsNoRequest bytes
too_long bytes h size request = omega (arith, h, (inside bytes size request).1)

pub whole : (bytes : List ℕ) (size : ℕ) → size ≡ told_length bytes → 40 ≤ size → size ≤ 135168 → size ≤ length bytes → IsRequest (take size bytes)
whole bytes size told header most fits =
    let n : length (take size bytes) ≡ size = length-take size bytes ∙ omega (arith, fits) in
    record {
      told = told_length-take size bytes (omega (arith, header)) ∙ (sym told ∙ sym n);
      header = omega (arith, n, header);
      most = omega (arith, n, most);
    }
