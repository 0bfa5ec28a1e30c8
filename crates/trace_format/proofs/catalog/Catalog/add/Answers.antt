use Rattle.std.proofs.Common.{sym, ◌∙◌, subst}
use Rattle.trace_format.specs.Definitions.{IsDefinition}
use Rattle.trace_format.proofs.CatalogLemmas.{id_for_fits, id_for_next, put_catalog, put_events}
use Rattle.trace_format.proofs.catalog.Catalog.add.Goals as goal

pub invariant_of-self-2 : goal.invariant_of-self-2
invariant_of-self-2 c =
    put_catalog (record {
      is = c.self.invariant;
      view = c.self.view_is;
      next = id_for_next c.args.self.now c.args.def _ c.in_ok-id.id (sym c.next_id.ensures ∙ c.in_ok-id.was);
      named = c.in_ok-name.ensures.items ∙ c.name.ensures;
      put = c.in_ok-insert.ensures.entries;
    }) (subst IsDefinition c.def.view_is c.def.invariant.0)

pub returns-clause-ok : goal.returns-clause-ok
returns-clause-ok c =
    put_events (record {
      is = c.self.invariant;
      view = c.self.view_is;
      next = id_for_next c.args.self.now c.args.def _ c.in_ok-id.id (sym c.next_id.ensures ∙ c.in_ok-id.was);
      named = c.in_ok-name.ensures.items ∙ c.name.ensures;
      put = c.in_ok-insert.ensures.entries;
    })

pub returns-clause-fits : goal.returns-clause-fits
returns-clause-fits c = id_for_fits c.args.self.now c.args.def _ c.in_ok-id.id (sym c.next_id.ensures ∙ c.in_ok-id.was)
