use Rattle.std.proofs.Common.{◌≡◌, ap, ◌∙◌, rules}
use Rattle.trace_trigger.specs.private.Meant.{rules_of}
use Rattle.trace_trigger.proofs.MeantLaws.{few_meant, spec_meant}
use Rattle.trace_trigger.proofs.read.spec_from.Goals as goal

pub assemble-requires : goal.assemble-requires
assemble-requires c = few_meant _ _ _ c.args.written _ _ 3 c.without_hitcount-written.ensures c.in_ok-meaning.ensures c.requires.few

pub returns : goal.returns
returns c =
    let keys_is : c.deref.result.now ≡ c.in_ok-meaning.meaning.keys = search rules in
    spec_meant _ _ c.args.written _ c.requires.condition _ c.without_hitcount-written.ensures _ _ _ _ _ c.in_ok-meaning.ensures
    c.in_ok-shown.ensures.values c.in_ok-shown.ensures.sort (c.in_ok-shown.ensures.rules ∙ ap (λ keys. rules_of keys c.without_hitcount-written.result) keys_is) c.assemble.ensures
