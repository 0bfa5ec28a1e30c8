use Rattle.library_tracer.specs.Inner.{known_by}
use Rattle.tracectl_c.proofs.PassLemmas.{all_again}
use Rattle.tracectl_c.proofs.handles.put_back.Goals as goal

pub returns-in-Some : goal.returns-in-Some
returns-in-Some c = λ before taken.
    all_again before c.args.passes.now c.put_back.new.self c.args.console c.leave.new.self (known_by c.in-Some.caller) taken c.in-Some.ensures.gone
    c.put_back.ensures
