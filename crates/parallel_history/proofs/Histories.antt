-- The whole history of a book over which one block ran.
use Rattle.std.proofs.Common.{◌≡◌, List, [], ◌++◌, All, Any, sym, ap, ◌∙◌, subst}
use Rattle.ticket_lock.specs.declared.views.View.{View}
use Rattle.tracer_specification.specs.History.{IsLegal}
use Rattle.tracer_specification.specs.Blocks.{Trail, StandsIn, IsBlock}
use Rattle.shared_book.specs.Bases.{numbers_of}
use Rattle.trace_workers.specs.BlockRuns.{IsAfterBlock}
use Rattle.trace_command.specs.declared.command.Config.{Config}
use Rattle.trace_command.specs.declared.command.Entry.{Entry}

-- what a block did over a book whose history was empty before it is all
pub is_history : (g : Config) (v w : View Entry) (trails : List Trail) (entries : List Entry) → v.seen ≡ [] → v.base ≡ numbers_of g → entries ≡ w.seen
    → IsAfterBlock v w trails → IsLegal g entries → IsBlock g [] entries trails
is_history g v w trails entries none base all after legal =
    let is : entries ≡ after.after = all ∙ after.seen ∙ ap (λ (es : List Entry). es ++ after.after) none in
    record {
      each = subst (λ (es : List Entry). All (StandsIn g [] es) trails) (sym is)
          (subst (λ (es : List Entry). All (StandsIn g es after.after) trails) none (after.each g (sym base)));
      distinct = after.distinct;
      callers = subst (λ (es : List Entry). All (λ (entry : Entry). Any (λ (trail : Trail). trail.by ≡ entry.by) trails) es) (sym is) (after.callers g (sym base));
      legal = legal;
    }
