use Rattle.std.proofs.Common.{◌≡◌, ◌∙◌, true, false, None, Some, Err, option_copied, sym, ap, rules}
use Rattle.trace_command.specs.declared.refusal.Limit.TheVariants.{Triggers}
use Rattle.trace_command.specs.declared.refusal.Refusal.TheVariants.{TooMany}
use Rattle.trace_instance.specs.private.Attaching as attaching
use Rattle.trace_instance.specs.private.Attaching.{same_left}
use Rattle.trace_instance.specs.private.SharedTables as sharing
use Rattle.trace_instance.proofs.HistAnswering.{ask-again, ask-full, ask-lacks}
use Rattle.trace_instance.proofs.HistAttaching.{ask-joined, ask-made}
use Rattle.trace_instance.proofs.attach.EventTriggers.asked.Goals as goal

pub returns-in-Some : goal.returns-in-Some
returns-in-Some c =
    let found : same_left c.args.spec c.args.self c.args.written.append ≡ Some c.in-Some.hist.now = sym c.matching.ensures ∙ ap option_copied c.in-Some.is in
    rw (c.asked_again.ensures, c.action.ensures) (ask-again c.args.spec c.args.self c.args.written c.in-Some.hist.now found)

pub returns-then-not-attaches : goal.returns-then-not-attaches
returns-then-not-attaches c =
    let none : same_left c.args.spec c.args.self c.args.written.append ≡ None = search (rules, c.matching.ensures) in
    let lacking : attaching.attaches c.args.spec.action ≡ false = search rules in
    ask-lacks c.args.spec c.args.self c.args.written none lacking

pub returns-in_err-check_room : goal.returns-in_err-check_room
returns-in_err-check_room c =
    let none : same_left c.args.spec c.args.self c.args.written.append ≡ None = search (rules, c.matching.ensures) in
    let attaches : attaching.attaches c.args.spec.action ≡ true = search rules in
    let out : c.from_residual.result ≡ Err (TooMany Triggers) = search rules in
    rw out (ask-full c.args.spec c.args.self c.args.written none attaches c.in_err-check_room.ensures.full.1)

pub returns-in-Some-named_by : goal.returns-in-Some-named_by
returns-in-Some-named_by c =
    let none : same_left c.args.spec c.args.self c.args.written.append ≡ None = search (rules, c.matching.ensures) in
    let attaches : attaching.attaches c.args.spec.action ≡ true = search rules in
    let found : sharing.named_in c.args.spec (sharing.left_of c.args.self c.args.written.append) ≡ Some c.in-Some-named_by.other.now =
    sym c.named_by.ensures ∙ ap option_copied c.in-Some-named_by.is in
    ask-joined c.args.spec c.args.self c.args.written none attaches c.in_ok-check_room.ensures.room
    c.in-Some-named_by.other.now found c.joined.result c.joined.ensures

pub returns-in-None : goal.returns-in-None
returns-in-None c =
    let none : same_left c.args.spec c.args.self c.args.written.append ≡ None = search (rules, c.matching.ensures) in
    let attaches : attaching.attaches c.args.spec.action ≡ true = search rules in
    let lost : sharing.named_in c.args.spec (sharing.left_of c.args.self c.args.written.append) ≡ None = sym c.named_by.ensures ∙ ap option_copied c.in-None.is in
    ask-made c.args.spec c.args.self c.args.written none attaches c.in_ok-check_room.ensures.room lost c.made.result c.made.ensures
