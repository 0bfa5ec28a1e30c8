use Rattle.std.proofs.Common.{◌≡◌, List, [], ◌∷◌, Some, refl, sym, ap, subst, ◌∙◌, arith}
use Rattle.fuse_wire.specs.Parts.{Part, Ignored, Are}
use Rattle.fuse_wire.specs.Requests.{body}
use Rattle.fuse_wire.specs.declared.request.Operation.{Operation}
use Rattle.fuse_wire.proofs.PartLemmas.{ignored_at, end_at, length-parts}
use Rattle.fuse_wire.proofs.bodies.unread.Goals as goal

pub returns-then-body-size : goal.returns-then-body-size
returns-then-body-size c = record {
  found = tt;
  only = λ other is.
      let bytes = c.args.body.now in
      let parts : body other ≡ Ignored c.args.size ∷ [] = ap body (c.requires.only bytes other is) ∙ c.requires.parts in
      let size = length-parts (Ignored c.args.size ∷ []) bytes refl (subst (λ (ps : List Part). Are ps bytes) parts is.parts) in
      absurd (omega (arith, size));
}

pub returns : goal.returns
returns c =
    let bytes = c.args.body.now in
    let size = c.args.size in
    record {
      found = record {
        opcode_is = c.requires.opcode;
        own_opcode = c.requires.own;
        parts = subst (λ (ps : List Part). Are ps bytes) (sym c.requires.parts) (ignored_at size [] bytes 0 size (omega arith) (omega arith) (end_at bytes size (omega arith)));
      };
      only = λ other is. ap (λ (o : Operation). Some o) (sym (c.requires.only bytes other is));
    }
