use Rattle.std.proofs.Common.{◌≡◌, [], sym, ap, subst}
use Rattle.trace_command.specs.declared.command.Config.{Config}
use Rattle.tracer_specification.specs.History.{IsLegal, past_of}
use Rattle.command_log.specs.HistorySeen.{HistorySeen}
use Rattle.tracer.specs.Lives.{IsLive}
use Rattle.trace_book.proofs.book.Book.new.Goals as goal

pub invariant_of-result : goal.invariant_of-result
unfolding IsLegal past_of
invariant_of-result c =
    let items : c.new-2.result.entries ≡ [] = ap (λ (h : HistorySeen). h.entries) c.new-2.ensures in
    let live = c.in_ok-live.live in
    let lives : IsLive live.config [] live = subst (λ (g : Config). IsLive g [] live) (sym c.in_ok-live.ensures.made.0) c.in_ok-live.ensures.made.1 in
    record { legal = rw items tt; lives = rw items lives }
