use Rattle.std.proofs.Common.{◌≡◌, inr, rules, subst, sym}
use Rattle.trace_command.specs.Refusals.{number_of}
use Rattle.library_tracer.specs.ConsolesSeen.{ConsoleSeen}
use Rattle.library_tracer.specs.PassesSeen.{HasTaken}
use Rattle.library_tracer.specs.declared.passes.JoinError.TheVariants.{NoPass}
use Rattle.tracectl_c.proofs.PassLemmas.{one_was_there}
use Rattle.tracectl_c.proofs.handles.join.Goals as goal

pub returns-in-Err : goal.returns-in-Err
unfolding number_of
returns-in-Err c =
    let status : c.from.result ≡ 23 = search rules in
    let taken : HasTaken c.args.passes.now c.join.new.self c.in-Err.failed.value =
    subst (λ (console : ConsoleSeen). HasTaken c.args.passes.now c.join.new.self console) (sym c.in-Err.ensures.value_returned) c.in-Ok.ensures.taken in
    rw c.requires (c.put_back.ensures c.args.passes.now taken, inr (status, one_was_there c.args.passes.now c.join.new.self c.in-Err.failed.value taken))

pub returns-in-Err-Memory : goal.returns-in-Err-Memory
unfolding number_of
returns-in-Err-Memory c =
    let status : c.from-in-Err-Memory.result ≡ 23 = search rules in
    rw c.requires (c.in-Err-Memory.ensures.err.0, inr (status, λ none. let e : c.in-Err-Memory.field-0 ≡ NoPass = c.in-Err-Memory.ensures.none none in cc))
