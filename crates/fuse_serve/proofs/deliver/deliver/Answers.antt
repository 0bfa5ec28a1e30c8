use Rattle.std.proofs.Common.{◌∷◌, ◌++◌, ℕ, List, [], Ok, Err, refl, sym, subst, ◌∙◌, arith, length-append}
use Rattle.std.proofs.lemmas.Bool.Decides.{nat_tests}
use Rattle.std.proofs.lemmas.List.{take_rest}
use Rattle.fuse_serve.proofs.Delivering.{IsBegun, begun_again, begun_none, begun_took, finished, given_up, rest_some}
use Rattle.fuse_serve.proofs.Transfers.{Appends_nothing}
use Rattle.fuse_serve.specs.Calls.{write_call}
use Rattle.fuse_serve.proofs.deliver.deliver.Goals as goal

pub loop-rest-init : goal.loop-rest-init
loop-rest-init g c =
    let device = g.D.Device in (
      [],
      record {
        begun = begun_none c.args.reply.now (device.calls c.args.device.now) (device.contents c.args.device.now) (Appends_nothing (device.contents c.args.device.now));
        tries = omega arith;
        remaining = refl;
      },
    )

pub loop-rest-preserved-in-Took : goal.loop-rest-preserved-in-Took
loop-rest-preserved-in-Took g c =
    let device = g.D.Device in
    let kept = c.loop-rest.invariant in
    let rest = c.loop-rest.rest.now in
    let count = c.in-Took.count in
    let does = c.in-Took.ensures.does in
    let some = rest_some rest (grind (arith, nat_tests, c.is_empty.ensures, c.loop-rest-test.true)) in (
      kept.0 ++ write_call rest (Ok count) ∷ [],
      record {
        begun = subst (λ (xs : List ℕ). IsBegun c.args.reply.now xs (kept.0 ++ write_call rest (Ok count) ∷ []) (device.calls c.args.device.now) (device.calls c.write_some.new.device) (device.contents c.args.device.now) (device.contents c.write_some.new.device))
            (sym (take_rest rest count))
            (begun_took c.args.reply.now rest kept.0 (device.calls c.args.device.now) (device.calls c.loop-rest.device) (device.contents c.args.device.now) (device.contents c.loop-rest.device) kept.1.begun some
            (device.calls c.write_some.new.device) (device.contents c.write_some.new.device) count does.0 does.1 does.2 does.3);
        tries = omega (arith, kept.1.tries, length-append kept.0 (write_call rest (Ok count) ∷ []));
        remaining = c.in-Took.ensures.remaining ∙ kept.1.remaining;
      },
    )

pub loop-rest-preserved : goal.loop-rest-preserved
loop-rest-preserved g c =
    let device = g.D.Device in
    let kept = c.loop-rest.invariant in
    let rest = c.loop-rest.rest.now in
    let does = c.in-Again.ensures.does in
    let some = rest_some rest (grind (arith, nat_tests, c.is_empty.ensures, c.loop-rest-test.true)) in (
      kept.0 ++ write_call rest (Err does.0) ∷ [],
      record {
        begun = begun_again c.args.reply.now rest kept.0 (device.calls c.args.device.now) (device.calls c.loop-rest.device) (device.contents c.args.device.now) (device.contents c.loop-rest.device) kept.1.begun some
            (device.calls c.write_some.new.device) (device.contents c.write_some.new.device) does.0 does.1 does.2 does.3;
        tries = omega (arith, kept.1.tries, c.if-tries-gt0.true, length-append kept.0 (write_call rest (Err does.0) ∷ []));
        remaining = c.in-Again.ensures.remaining ∙ kept.1.remaining;
      },
    )

pub returns-in-Again-2-clause-delivered : goal.returns-in-Again-2-clause-delivered
returns-in-Again-2-clause-delivered g c =
    let device = g.D.Device in
    let kept = c.loop-rest.invariant in
    let rest = c.loop-rest.rest.now in
    let does = c.in-Again.ensures.does in
    given_up c.args.reply.now rest kept.0 (device.calls c.args.device.now) (device.calls c.loop-rest.device) (device.contents c.args.device.now) (device.contents c.loop-rest.device) kept.1.begun
    (rest_some rest (grind (arith, nat_tests, c.is_empty.ensures, c.loop-rest-test.true)))
    (device.calls c.write_some.new.device) (device.contents c.write_some.new.device) does.0 does.1 does.2 does.3 (omega (arith, kept.1.tries, c.if-tries-gt0.false))

pub returns-in-Last-clause-delivered : goal.returns-in-Last-clause-delivered
returns-in-Last-clause-delivered g c =
    let device = g.D.Device in
    let kept = c.loop-rest.invariant in
    let rest = c.loop-rest.rest.now in
    finished c.args.reply.now rest kept.0 (device.calls c.args.device.now) (device.calls c.loop-rest.device) (device.contents c.args.device.now) (device.contents c.loop-rest.device) kept.1.begun
    (rest_some rest (grind (arith, nat_tests, c.is_empty.ensures, c.loop-rest-test.true)))
    (device.calls c.write_some.new.device) (device.contents c.write_some.new.device) _ refl c.in-Last.fate c.in-Last.ensures.does
