use Rattle.std.proofs.Common.{◌≡◌, suc, [], Option, Some, option_map, sym, ap, ◌∙◌, subst, arith}
use Rattle.trace_format.specs.Catalogs.{event_of, AreEvents}
use Rattle.trace_format.specs.Definitions.{Definition}
use Rattle.trace_format.proofs.CatalogLemmas.{Entry, event_at, IsFound, found_event}
use Rattle.trace_format.proofs.catalog.Catalog.def.Goals as goal

event_is : (c : goal.In_ok-_name) → ◌≡◌ {A = Option Definition} (Some c.in_ok-_name.def.now) (event_of c.args.self.now c.args.id)
event_is c =
    let id : suc c.in_ok-index.index ≡ c.args.id = omega arith in
    ap (option_map (λ (e : Entry). e.1)) c.in_ok-_name.ensures.entry ∙ sym (event_at c.self.inside.events.entries c.in_ok-index.index)
    ∙ (λ i. event_of (c.self.view_is i) (id i))

found : (c : goal.In_ok-_name) → IsFound c.args.self.now c.args.id c.in_ok-_name.def.now
found c = found_event c.args.self.now c.args.id c.in_ok-_name.def.now (subst (AreEvents []) c.self.view_is c.self.invariant.events) (sym (event_is c))

pub returns-clause-event : goal.returns-clause-event
returns-clause-event c = event_is c

pub returns-clause-definition : goal.returns-clause-definition
returns-clause-definition c = (found c).defined

pub returns-clause-few : goal.returns-clause-few
returns-clause-few c = (found c).few

pub returns-clause-named : goal.returns-clause-named
returns-clause-named c = (found c).named
