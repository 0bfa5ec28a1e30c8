use Rattle.std.proofs.Common.{◌≡◌, ◌+◌, List, Some, option_map, sym, ap, ◌∙◌}
use Rattle.trace_format.specs.Definitions.{Definition}
use Rattle.trace_format.specs.Catalogs.{id_of}
use Rattle.trace_format.proofs.CatalogLemmas.{id_is, id_named}
use Rattle.trace_format.proofs.catalog.Catalog.find.Goals as goal

id_found : (c : goal.In-Some) → Some (c.in-Some.index + 1) ≡ id_of c.args.self.now c.args.name.now
id_found c =
    ap (option_map (λ index. index + 1)) c.in-Some.ensures.index
    ∙ sym (id_is c.args.name.now c.self.inside.events.entries c.self.invariant.named) ∙ ap (λ (events : List Definition). id_of events c.args.name.now) c.self.view_is

pub returns-in-Some-clause-id : goal.returns-in-Some-clause-id
returns-in-Some-clause-id c = id_found c

pub returns-in-Some-clause-named : goal.returns-in-Some-clause-named
returns-in-Some-clause-named c = id_named c.args.self.now c.args.name.now (c.in-Some.index + 1) (sym (id_found c))

pub returns-in-None-clause-id : goal.returns-in-None-clause-id
returns-in-None-clause-id c =
    ap (option_map (λ index. index + 1)) c.in-None.ensures.index
    ∙ sym (id_is c.args.name.now c.self.inside.events.entries c.self.invariant.named) ∙ ap (λ (events : List Definition). id_of events c.args.name.now) c.self.view_is
