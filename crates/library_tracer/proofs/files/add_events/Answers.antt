use Rattle.std.proofs.Common.{sym, ap, ◌∙◌, arith}
use Rattle.std.specs.Option.{option_copied}
use Rattle.library_tracer.proofs.ListedLemmas.{all_events, event_at, no_event, no_more, one_more, with_fields}
use Rattle.library_tracer.specs.ListedFiles.{event_names}
use Rattle.library_tracer.proofs.files.add_events.Goals as goal

pub returns-in_default : goal.returns-in_default
returns-in_default c = λ past lives.
    with_fields c.loop-index.names _ _ _
    (no_more c.args.names.now.events c.loop-index.names.events (event_names past) c.loop-index.index (c.loop-index.invariant.0 past lives)
    (no_event past c.loop-index.index (sym (c.event.ensures past lives) ∙ ap option_copied c.in_default.is)))
    c.loop-index.invariant.1 c.loop-index.invariant.2

pub loop-index-preserved : goal.loop-index-preserved
loop-index-preserved c =
    rw c.in_ok-add_event.ensures.ok (
      λ past lives.
          one_more c.args.names.now.events c.loop-index.names.events (event_names past) c.loop-index.index c.name.result.now
          (c.loop-index.invariant.0 past lives)
          (event_at past c.loop-index.index c.in-Some.event.now c.name.result.now (sym (c.event.ensures past lives) ∙ ap option_copied c.in-Some.is)
          c.name.ensures),
      c.loop-index.invariant.1,
      c.loop-index.invariant.2,
    )

pub returns : goal.returns
returns c = λ past lives.
    with_fields c.loop-index.names _ _ _
    (all_events past c.args.names.now.events c.loop-index.names.events c.loop-index.index
    (omega (arith, c.loop-index-test.false, lives.stands.few_events)) (c.loop-index.invariant.0 past lives))
    c.loop-index.invariant.1 c.loop-index.invariant.2
