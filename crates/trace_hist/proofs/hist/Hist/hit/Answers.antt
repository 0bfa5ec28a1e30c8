use Rattle.std.proofs.Common.{◌≡◌, true, sym, subst, rules}
use Rattle.trace_format.specs.Operands.{Emission}
use Rattle.trace_hist.specs.TriggerHits.{hit_of}
use Rattle.trace_hist.specs.Hists.{Seen, IsCountedFor, IsReservedAs}
use Rattle.trace_hist.specs.Stored.{seen_of}
use Rattle.trace_hist.specs.private.Steps.{after_hit}
use Rattle.trace_hist.proofs.Histograms.{idle-counted, place-reserved, told-counted}
use Rattle.trace_hist.proofs.hist.Hist.hit.Goals as goal

pub count-requires-clause-place : goal.count-requires-clause-place
count-requires-clause-place c =
    let h = c.self.inside in
    let emission : Emission = record { values = c.args.row.now.values; cpu = c.args.cpu; pid = c.args.pid } in
    let reserved : IsReservedAs c.args.self.now h.spec emission = subst (λ (s : Seen). IsReservedAs c.args.self.now s.spec emission) (sym c.self.view_is) c.requires.reserved in
    let place = place-reserved h.spec h.paused h.counts c.self.invariant c.args.self.now c.self.view_is h.spec emission c.if-not-self.true reserved in
    search rules

pub returns-then-not-self : goal.returns-then-not-self
returns-then-not-self c =
    let h = c.self.inside in
    let emission : Emission = record { values = c.args.row.now.values; cpu = c.args.cpu; pid = c.args.pid } in
    let reserved : IsReservedAs c.args.self.now h.spec emission = subst (λ (s : Seen). IsReservedAs c.args.self.now s.spec emission) (sym c.self.view_is) c.requires.reserved in
    let came : c.count.new.self ≡ after_hit h.counts (hit_of h.spec emission) = search rules in
    subst (λ (s : Seen). IsCountedFor s.spec emission c.args.self.now (seen_of h.spec h.paused c.count.new.self)) c.self.view_is
    (told-counted h.spec h.paused h.counts c.self.invariant c.args.self.now c.self.view_is c.count.new.self h.spec emission c.if-not-self.true came reserved)

pub returns-else-not-self : goal.returns-else-not-self
returns-else-not-self c =
    let emission : Emission = record { values = c.args.row.now.values; cpu = c.args.cpu; pid = c.args.pid } in
    let paused : c.args.self.now.paused ≡ true = search rules in
    idle-counted c.args.self.now c.args.self.now.spec emission paused
