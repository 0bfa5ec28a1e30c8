use Rattle.std.proofs.Common.{◌≡◌, ℕ, List, [], ◌++◌, ◌∷◌, take, Option, Ok, Some, refl, sym, inl, inr, ap, subst, ◌∙◌, arith, length-append, rules}
use Rattle.std.proofs.lemmas.Result.{err_from_is_err_and}
use Rattle.fuse_serve.specs.Calls.{read_call}
use Rattle.fuse_serve.specs.Framing.{BeginsNoRequest, IsRequest, IsUnframed}
use Rattle.fuse_serve.specs.declared.fate.Fate.TheVariants.{Cut}
use Rattle.fuse_serve.specs.declared.fault.Ended.{Ended}
use Rattle.fuse_serve.specs.private.Turns.{Received}
use Rattle.fuse_serve.proofs.Serving.{cut_at_last, ended, exchanged, on_none, on_read, on_writes, owed_next, request_next, served_more, served_none, served_read, stopped, turn_read, turn_writes, whole_more, whole_none, without_first}
use Rattle.fuse_serve.proofs.service.serve.Goals as goal
use Rattle.fuse_serve.proofs.service.serve.Goals.{then-owes+else-eq, else-owes+in_ok-size+in-Some+else-eq-2, else-owes+in_ok-size+in_default+in_ok-ended+in_default-2}

pub returns-in_err-inbox-clause-service : goal.returns-in_err-inbox-clause-service
returns-in_err-inbox-clause-service g c =
    let p = err_from_is_err_and c.from_residual.result c.from_residual.ensures.1 in
    let server = g.S.Server in
    let device = g.D.Device in (
      [],
      [],
      [],
      served_none server.answers server.ends server.owes c.args.server.now (device.calls c.args.device.now) (device.remaining c.args.device.now) (device.contents c.args.device.now),
      rw (p.1, p.2) (refl, refl),
    )

pub returns-in_err-reply-clause-service : goal.returns-in_err-reply-clause-service
returns-in_err-reply-clause-service g c =
    let p = err_from_is_err_and c.from_residual-in_err-reply.result c.from_residual-in_err-reply.ensures.1 in
    let server = g.S.Server in
    let device = g.D.Device in (
      [],
      [],
      [],
      served_none server.answers server.ends server.owes c.args.server.now (device.calls c.args.device.now) (device.remaining c.args.device.now) (device.contents c.args.device.now),
      rw (p.1, p.2) (refl, refl),
    )

pub loop-init : goal.loop-init
loop-init g c =
    let server = g.S.Server in
    let device = g.D.Device in (
      [],
      [],
      record {
        served = rw c.in_ok-inbox.ensures (served_none server.answers server.ends server.owes c.args.server.now (device.calls c.args.device.now) (device.remaining c.args.device.now) (device.contents c.args.device.now));
        reads = on_none;
        writes = whole_none;
        turns = omega arith;
        room = c.in_ok-reply.ensures.capacity;
      },
    )

pub returns-then-eq-clause-service : goal.returns-then-eq-clause-service
returns-then-eq-clause-service g c =
    let server = g.S.Server in
    let device = g.D.Device in
    let kept = c.loop.invariant in
    let told = c.tell_next.ensures.answered in (
      kept.0 ++ told.delivered.writes,
      kept.1 ++ exchanged [] c.tell_next.result told ∷ [],
      c.loop.inbox,
      served_more server.answers server.ends server.owes c.args.server.now c.loop.server (device.calls c.args.device.now) (device.calls c.loop.device) (device.remaining c.args.device.now) (device.remaining c.loop.device)
          (device.contents c.args.device.now) (device.contents c.loop.device) kept.0 kept.1 c.loop.inbox kept.2.served
          c.tell_next.new.server [] c.loop.inbox c.tell_next.result (device.calls c.tell_next.new.device) (device.remaining c.tell_next.new.device) (device.contents c.tell_next.new.device) c.tell_next.ensures.remaining
          (sym c.has_ended.ensures ∙ c.if-has_ended.false) (owed_next (server.owes c.loop.server) (sym c.owes.ensures ∙ c.if-owes.true)) refl told,
      (
        cut_at_last kept.0 kept.1 (exchanged [] c.tell_next.result told) kept.2.writes (let cut : c.tell_next.result ≡ Cut = search rules in cut),
        on_writes kept.0 told.delivered.writes kept.2.reads told.delivered.delivered.writes_only,
      ),
    )

pub returns-in_err-size-clause-service : goal.returns-in_err-size-clause-service
returns-in_err-size-clause-service g c =
    let p = err_from_is_err_and c.from_residual-in_err-size.result c.from_residual-in_err-size.ensures.1 in
    let kept = c.loop.invariant in
    let wrong = c.in_err-size.ensures.unframed in
    let unframed : IsUnframed c.loop.inbox = subst IsUnframed c.waiting.ensures wrong.1 in (
      kept.0,
      kept.1,
      c.loop.inbox,
      kept.2.served,
      rw (p.1, p.2, wrong.0) ((sym c.has_ended.ensures ∙ c.if-has_ended.false, sym c.owes.ensures ∙ c.if-owes.false), kept.2.writes, inl (unframed, kept.2.reads)),
    )

pub returns-then-eq-2-clause-service : goal.returns-then-eq-2-clause-service
returns-then-eq-2-clause-service g c =
    let server = g.S.Server in
    let device = g.D.Device in
    let kept = c.loop.invariant in
    let told = c.answer_first.ensures.answered in
    let whole : IsRequest (take c.in-Some.size c.loop.inbox) =
    subst (λ (xs : List ℕ). IsRequest (take c.in-Some.size xs)) c.waiting.ensures (rw c.in-Some.is at c.in_ok-size.ensures.whole) in (
      kept.0 ++ told.delivered.writes,
      kept.1 ++ exchanged (take c.in-Some.size c.loop.inbox) c.answer_first.result told ∷ [],
      c.answer_first.new.inbox,
      served_more server.answers server.ends server.owes c.args.server.now c.loop.server (device.calls c.args.device.now) (device.calls c.loop.device) (device.remaining c.args.device.now) (device.remaining c.loop.device)
          (device.contents c.args.device.now) (device.contents c.loop.device) kept.0 kept.1 c.loop.inbox kept.2.served
          c.answer_first.new.server (take c.in-Some.size c.loop.inbox) c.answer_first.new.inbox c.answer_first.result (device.calls c.answer_first.new.device) (device.remaining c.answer_first.new.device) (device.contents c.answer_first.new.device) c.answer_first.ensures.remaining
          (sym c.has_ended.ensures ∙ c.if-has_ended.false) (request_next (server.owes c.loop.server) (take c.in-Some.size c.loop.inbox) (sym c.owes.ensures ∙ c.if-owes.false) whole)
          (without_first c.in-Some.size c.loop.inbox c.answer_first.new.inbox c.answer_first.ensures.rest) told,
      (
        cut_at_last kept.0 kept.1 (exchanged (take c.in-Some.size c.loop.inbox) c.answer_first.result told) kept.2.writes (let cut : c.answer_first.result ≡ Cut = search rules in cut),
        on_writes kept.0 told.delivered.writes kept.2.reads told.delivered.delivered.writes_only,
      ),
    )

pub returns-in_err-ended-clause-service : goal.returns-in_err-ended-clause-service
returns-in_err-ended-clause-service g c =
    let p = err_from_is_err_and c.from_residual-in_err-ended.result c.from_residual-in_err-ended.ensures.1 in
    let server = g.S.Server in
    let device = g.D.Device in
    let kept = c.loop.invariant in
    let came = c.in_err-ended.ensures.read in
    let none : BeginsNoRequest c.loop.inbox = subst BeginsNoRequest c.waiting.ensures (c.in_ok-size.ensures.part (ap Ok c.in_default.is)) in (
      kept.0 ++ read_call came.1.buffer came.0 ∷ [],
      kept.1,
      c.receive.new.inbox,
      served_read server.answers server.ends server.owes c.args.server.now c.loop.server (device.calls c.args.device.now) (device.calls c.loop.device) (device.remaining c.args.device.now) (device.remaining c.loop.device)
          (device.contents c.args.device.now) (device.contents c.loop.device) kept.0 kept.1 c.loop.inbox kept.2.served
          came.0 c.receive.new.inbox (device.calls c.receive.new.device) (device.remaining c.receive.new.device) (device.contents c.receive.new.device) c.in_err-ended.ensures.contents came.1 none
          (sym c.has_ended.ensures ∙ c.if-has_ended.false, sym c.owes.ensures ∙ c.if-owes.false),
      rw (p.1, p.2) (stopped kept.0 came.0 c.loop.inbox c.receive.new.inbox (device.calls c.loop.device) (device.calls c.receive.new.device) (device.remaining c.loop.device) (device.remaining c.receive.new.device) came.1
          (server.ends c.loop.server) (server.owes c.loop.server) kept.1 kept.2.reads kept.2.writes (sym c.has_ended.ensures ∙ c.if-has_ended.false, sym c.owes.ensures ∙ c.if-owes.false) none
          c.in_err-ended.field-0.0 came.2),
    )

pub returns-in-Some-2-clause-service : goal.returns-in-Some-2-clause-service
returns-in-Some-2-clause-service g c =
    let server = g.S.Server in
    let device = g.D.Device in
    let kept = c.loop.invariant in
    let came = c.in_ok-ended.ensures.read in
    let none : BeginsNoRequest c.loop.inbox = subst BeginsNoRequest c.waiting.ensures (c.in_ok-size.ensures.part (ap Ok c.in_default.is)) in
    let how : Received (Ok (Some c.in-Some-2.ended)) came.0 c.receive.new.inbox (device.remaining c.receive.new.device) =
    subst (λ (found : Option Ended). Received (Ok found) came.0 c.receive.new.inbox (device.remaining c.receive.new.device)) c.in-Some-2.is came.2 in (
      kept.0 ++ read_call came.1.buffer came.0 ∷ [],
      kept.1,
      c.receive.new.inbox,
      served_read server.answers server.ends server.owes c.args.server.now c.loop.server (device.calls c.args.device.now) (device.calls c.loop.device) (device.remaining c.args.device.now) (device.remaining c.loop.device)
          (device.contents c.args.device.now) (device.contents c.loop.device) kept.0 kept.1 c.loop.inbox kept.2.served
          came.0 c.receive.new.inbox (device.calls c.receive.new.device) (device.remaining c.receive.new.device) (device.contents c.receive.new.device) c.in_ok-ended.ensures.contents came.1 none
          (sym c.has_ended.ensures ∙ c.if-has_ended.false, sym c.owes.ensures ∙ c.if-owes.false),
      ended kept.0 came.0 c.loop.inbox c.receive.new.inbox (device.calls c.loop.device) (device.calls c.receive.new.device) (device.remaining c.loop.device) (device.remaining c.receive.new.device) came.1
          (server.ends c.loop.server) (server.owes c.loop.server) kept.1 kept.2.reads kept.2.writes (sym c.has_ended.ensures ∙ c.if-has_ended.false, sym c.owes.ensures ∙ c.if-owes.false) none
          c.in-Some-2.ended how,
    )

pub loop-preserved : goal.loop-preserved
loop-preserved g c =
    let server = g.S.Server in
    let device = g.D.Device in
    let kept = c.loop.invariant in
    elim c.if-owes.branch [
      | then-owes+else-eq w ↦
          let told = w.tell_next.ensures.answered in
          rw (w.server-is, w.device-is, w.inbox-is, w.reply-is) (
            kept.0 ++ told.delivered.writes,
            kept.1 ++ exchanged [] w.tell_next.result told ∷ [],
            record {
              served = served_more server.answers server.ends server.owes c.args.server.now c.loop.server (device.calls c.args.device.now) (device.calls c.loop.device) (device.remaining c.args.device.now) (device.remaining c.loop.device)
                  (device.contents c.args.device.now) (device.contents c.loop.device) kept.0 kept.1 c.loop.inbox kept.2.served
                  w.tell_next.new.server [] c.loop.inbox w.tell_next.result (device.calls w.tell_next.new.device) (device.remaining w.tell_next.new.device) (device.contents w.tell_next.new.device) w.tell_next.ensures.remaining
                  (sym c.has_ended.ensures ∙ c.if-has_ended.false) (owed_next (server.owes c.loop.server) (sym c.owes.ensures ∙ w.if-owes.true)) refl told;
              reads = on_writes kept.0 told.delivered.writes kept.2.reads told.delivered.delivered.writes_only;
              writes = whole_more kept.1 (exchanged [] w.tell_next.result told) kept.2.writes (let uncut : w.tell_next.result ≡ Cut → ⊥ = search rules in uncut);
              turns = omega (arith, kept.2.turns, length-append kept.1 (exchanged [] w.tell_next.result told ∷ []), turn_writes kept.0 told.delivered.writes told.delivered.delivered.writes_only);
              room = w.tell_next.ensures.room;
            },
          )
      | else-owes+in_ok-size+in-Some+else-eq-2 w ↦
          let told = w.answer_first.ensures.answered in
          let whole : IsRequest (take w.in-Some.size c.loop.inbox) =
          subst (λ (xs : List ℕ). IsRequest (take w.in-Some.size xs)) w.waiting.ensures (rw w.in-Some.is at w.in_ok-size.ensures.whole) in
          rw (w.server-is, w.device-is, w.inbox-is, w.reply-is) (
            kept.0 ++ told.delivered.writes,
            kept.1 ++ exchanged (take w.in-Some.size c.loop.inbox) w.answer_first.result told ∷ [],
            record {
              served = served_more server.answers server.ends server.owes c.args.server.now c.loop.server (device.calls c.args.device.now) (device.calls c.loop.device) (device.remaining c.args.device.now) (device.remaining c.loop.device)
                  (device.contents c.args.device.now) (device.contents c.loop.device) kept.0 kept.1 c.loop.inbox kept.2.served
                  w.answer_first.new.server (take w.in-Some.size c.loop.inbox) w.answer_first.new.inbox w.answer_first.result (device.calls w.answer_first.new.device) (device.remaining w.answer_first.new.device) (device.contents w.answer_first.new.device) w.answer_first.ensures.remaining
                  (sym c.has_ended.ensures ∙ c.if-has_ended.false)
                  (request_next (server.owes c.loop.server) (take w.in-Some.size c.loop.inbox) (sym c.owes.ensures ∙ w.if-owes.false) whole)
                  (without_first w.in-Some.size c.loop.inbox w.answer_first.new.inbox w.answer_first.ensures.rest) told;
              reads = on_writes kept.0 told.delivered.writes kept.2.reads told.delivered.delivered.writes_only;
              writes = whole_more kept.1 (exchanged (take w.in-Some.size c.loop.inbox) w.answer_first.result told) kept.2.writes (let uncut : w.answer_first.result ≡ Cut → ⊥ = search rules in uncut);
              turns = omega (arith, kept.2.turns, length-append kept.1 (exchanged (take w.in-Some.size c.loop.inbox) w.answer_first.result told ∷ []), turn_writes kept.0 told.delivered.writes told.delivered.delivered.writes_only);
              room = w.answer_first.ensures.room;
            },
          )
      | else-owes+in_ok-size+in_default+in_ok-ended+in_default-2 w ↦
          let came = w.in_ok-ended.ensures.read in
          let none : BeginsNoRequest c.loop.inbox = subst BeginsNoRequest w.waiting.ensures (w.in_ok-size.ensures.part (ap Ok w.in_default.is)) in
          rw (w.server-is, w.device-is, w.inbox-is, w.reply-is) (
            kept.0 ++ read_call came.1.buffer came.0 ∷ [],
            kept.1,
            record {
              served = served_read server.answers server.ends server.owes c.args.server.now c.loop.server (device.calls c.args.device.now) (device.calls c.loop.device) (device.remaining c.args.device.now) (device.remaining c.loop.device)
                  (device.contents c.args.device.now) (device.contents c.loop.device) kept.0 kept.1 c.loop.inbox kept.2.served
                  came.0 w.receive.new.inbox (device.calls w.receive.new.device) (device.remaining w.receive.new.device) (device.contents w.receive.new.device) w.in_ok-ended.ensures.contents came.1 none
                  (sym c.has_ended.ensures ∙ c.if-has_ended.false, sym c.owes.ensures ∙ w.if-owes.false);
              reads = on_read kept.0 came.1.buffer came.0 kept.2.reads (rw w.in_default-2.is at came.2);
              writes = kept.2.writes;
              turns = omega (arith, kept.2.turns, turn_read kept.0 came.1.buffer came.0);
              room = kept.2.room;
            },
          )
    ]

pub returns-clause-service : goal.returns-clause-service
returns-clause-service g c =
    let kept = c.loop.invariant in (kept.0, kept.1, c.loop.inbox, kept.2.served, (kept.2.writes, inr (omega (arith, kept.2.turns), kept.2.reads)))
