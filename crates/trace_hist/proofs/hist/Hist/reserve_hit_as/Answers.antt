use Rattle.std.proofs.Common.{◌≡◌, sym, ap, ◌∙◌}
use Rattle.trace_hist.specs.Hists.{Seen}
use Rattle.trace_hist.proofs.Histograms.{idle-reserved, told-reserved, told-unchanged, told-needed}
use Rattle.trace_hist.proofs.hist.Hist.reserve_hit_as.Goals as goal

pub returns-then-self-clause-reserved : goal.returns-then-self-clause-reserved
returns-then-self-clause-reserved c = idle-reserved c.args.self.now c.args.by.now _ (sym (ap (λ (s : Seen). s.paused) c.self.view_is) ∙ c.if-self.true)

pub returns-clause-reserved : goal.returns-clause-reserved
returns-clause-reserved c =
    let h = c.self.inside in
    told-reserved h.spec h.paused h.counts c.self.invariant c.args.self.now c.self.view_is c.reserve.new.self c.args.by.now c.args.emission.now
    c.reserve.result c.reserve.ensures.table c.reserve.ensures.place

pub returns-clause-err : goal.returns-clause-err
returns-clause-err c =
    let h = c.self.inside in
    told-unchanged h.spec h.paused h.counts c.self.invariant c.args.self.now c.self.view_is c.reserve.new.self c.args.by.now c.args.emission.now
    c.reserve.result c.reserve.ensures.table c.reserve.ensures.err

pub returns-clause-memory : goal.returns-clause-memory
returns-clause-memory c =
    let h = c.self.inside in
    told-needed h.spec h.paused h.counts c.self.invariant c.args.self.now c.self.view_is c.reserve.new.self c.args.by.now c.args.emission.now
    c.reserve.result c.reserve.ensures.table c.if-self.false c.reserve.ensures.room c.reserve.ensures.new c.reserve.ensures.unreserved
