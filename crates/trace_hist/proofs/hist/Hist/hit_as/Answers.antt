use Rattle.std.proofs.Common.{◌≡◌, true, rules}
use Rattle.trace_hist.specs.TriggerHits.{hit_of}
use Rattle.trace_hist.specs.Hists.{IsReservedAs}
use Rattle.trace_hist.specs.private.Steps.{after_hit}
use Rattle.trace_hist.proofs.Histograms.{idle-counted, place-reserved, told-counted}
use Rattle.trace_hist.proofs.hist.Hist.hit_as.Goals as goal

pub count-requires-clause-place : goal.count-requires-clause-place
count-requires-clause-place c =
    let h = c.self.inside in
    let reserved : IsReservedAs c.args.self.now c.args.by.now c.args.emission.now = c.requires.reserved in
    let place = place-reserved h.spec h.paused h.counts c.self.invariant c.args.self.now c.self.view_is c.args.by.now c.args.emission.now c.if-self.false reserved in
    search rules

pub returns : goal.returns
returns c =
    let h = c.self.inside in
    let reserved : IsReservedAs c.args.self.now c.args.by.now c.args.emission.now = c.requires.reserved in
    let came : c.count.new.self ≡ after_hit h.counts (hit_of c.args.by.now c.args.emission.now) = search rules in
    told-counted h.spec h.paused h.counts c.self.invariant c.args.self.now c.self.view_is c.count.new.self c.args.by.now c.args.emission.now c.if-self.false came reserved

pub returns-then-self : goal.returns-then-self
returns-then-self c =
    let paused : c.args.self.now.paused ≡ true = search rules in
    idle-counted c.args.self.now c.args.by.now c.args.emission.now paused
