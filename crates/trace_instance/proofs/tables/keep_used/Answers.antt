use Rattle.std.proofs.Common.{◌≡◌, ◌∙◌, sym, rules}
use Rattle.std.specs.List.{list_any}
use Rattle.std.proofs.lemmas.Fn.{filter_same}
use Rattle.trace_instance.specs.KeptHists.{is_used, uses_table}
use Rattle.trace_instance.specs.EventLists.{all_hists}
use Rattle.trace_instance.specs.declared.event.InstanceEvent.{InstanceEvent}
use Rattle.trace_instance.specs.declared.tables.Table.{Table}
use Rattle.trace_instance.proofs.EachEvent.{any-map}
use Rattle.trace_instance.proofs.tables.keep_used.Goals as goal

pub returns : goal.returns
returns c = filter_same _ (λ (t : Table). is_used t.number (all_hists c.args.events.now)) _ (λ t b f called.
    let told : b ≡ list_any (λ (e : InstanceEvent). uses_table t.number e.triggers.hists) c.args.events.now = search rules in
    (told ∙ sym (any-map (uses_table t.number) (λ (e : InstanceEvent). e.triggers.hists) c.args.events.now), search rules)) _ _ c.retain.ensures.filtered
