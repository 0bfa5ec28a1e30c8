use Rattle.library_tracer.proofs.PassLemmas.{back_of, index_of, sound_with}
use Rattle.library_tracer.proofs.passes.Passes.put_back.Goals as goal

pub invariant_of-self : goal.invariant_of-self
invariant_of-self c =
    let p = c.self.inside in
    sound_with p.tracer p.callers.items _ c.args.caller _ c.requires c.self.view_is c.self.invariant (index_of _ _ _ c.names.ensures.start c.requires.names.low)

pub returns : goal.returns
returns c =
    let p = c.self.inside in
    back_of p.tracer p.callers.items _ c.args.caller _ c.requires c.self.view_is c.self.invariant (index_of _ _ _ c.names.ensures.start c.requires.names.low)
