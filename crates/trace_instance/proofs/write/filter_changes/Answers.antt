use Rattle.std.proofs.Common.{◌≡◌, ◌<◌, [], ◌∷◌, ◌++◌, length, rules}
use Rattle.trace_instance.proofs.Filtering.{any-step, map-step}
use Rattle.trace_instance.specs.Changes.{change_of, is_set}
use Rattle.trace_format.specs.Definitions.{Definition}
use Rattle.trace_instance.proofs.write.filter_changes.Goals as goal

pub loop-i-preserved : goal.loop-i-preserved
loop-i-preserved c =
    let event = c.event_at.result.now in
    let inside : c.loop-i.i < length c.args.events.now = search rules in
    let pushed : c.push.new.self.items ≡ c.loop-i.changes.items ++ change_of c.args.text.now event ∷ [] = search rules in
    let set : c.sets-some.result ≡ is_set (change_of c.args.text.now event) = search rules in
    record {
      changes = map-step (change_of c.args.text.now) c.args.events.now c.loop-i.i event c.loop-i.changes.items _ _ inside c.event_at.ensures pushed
          c.loop-i.invariant.changes;
      some = rw set (any-step (λ (e : Definition). is_set (change_of c.args.text.now e)) c.args.events.now c.loop-i.i event c.loop-i.some _ inside
          c.event_at.ensures c.loop-i.invariant.some);
    }
