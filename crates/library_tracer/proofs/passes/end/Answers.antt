use Rattle.std.proofs.Common.{List, subst}
use Rattle.shared_mount.specs.MountCallers.{caller_view, terms_of}
use Rattle.shared_mount.specs.MountEntries.{EntrySeen}
use Rattle.shared_mount.specs.MountHistories.{IsOneHistory}
use Rattle.library_tracer.proofs.passes.end.Goals as goal

pub returns-in-Some : goal.returns-in-Some
returns-in-Some c = (
  (caller_view c.in-Some.root).seen,
  subst (λ (es : List EntrySeen). IsOneHistory (terms_of c.args.tracer) es) c.close-ended.ensures.seen c.close-ended.ensures.history,
  c.in-Some.ensures.all.continues,
)
