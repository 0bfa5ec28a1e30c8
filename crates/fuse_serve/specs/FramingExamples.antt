-- Bytes, and what they are.
use Rattle.std.specs.Prelude.{◌≡◌, [], ◌∷◌, replicate}
use Rattle.fuse_serve.specs.Framing.{told_length, IsRequest, IsUnframed, BeginsNoRequest}

pub record Examples : Type 0 where
  -- the low byte is the first
  pub low_first : told_length (56 ∷ 1 ∷ 0 ∷ 0 ∷ []) ≡ 312
  -- a header alone
  pub header : IsRequest (40 ∷ 0 ∷ 0 ∷ 0 ∷ replicate 36 7)
  -- one with a byte too few is none, and neither is its beginning
  pub part : BeginsNoRequest (40 ∷ 0 ∷ 0 ∷ 0 ∷ replicate 35 7)
  pub nothing : BeginsNoRequest []
  -- lengths that no request has: 39, and 135,169
  pub small : IsUnframed (39 ∷ 0 ∷ 0 ∷ 0 ∷ [])
  pub large : IsUnframed (1 ∷ 16 ∷ 2 ∷ 0 ∷ [])
