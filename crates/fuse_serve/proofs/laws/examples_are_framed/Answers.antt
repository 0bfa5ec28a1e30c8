use Rattle.std.proofs.Common.{◌∷◌, replicate, refl, inl, inr}
use Rattle.std.proofs.Common.{lit<, lit≤}
use Rattle.fuse_serve.proofs.CutLemmas.{none_in_none}
use Rattle.fuse_serve.proofs.FramingLemmas.{too_long}
use Rattle.fuse_serve.proofs.laws.examples_are_framed.Goals as goal

pub returns : goal.returns
returns c = record {
  low_first = refl;
  header = record { told = refl; header = lit≤ tt; most = lit≤ tt };
  part = too_long (40 ∷ 0 ∷ 0 ∷ 0 ∷ replicate 35 7) (lit< tt);
  nothing = none_in_none;
  small = record { told = lit≤ tt; wrong = inl (lit< tt) };
  large = record { told = lit≤ tt; wrong = inr (lit< tt) };
}
