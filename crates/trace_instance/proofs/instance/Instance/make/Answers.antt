use Rattle.std.proofs.Common.{◌≡◌, ◌∷◌, ◌∙◌, ap, refl, rules}
use Rattle.trace_instance.specs.KeptHists.{kept_at, table_numbered}
use Rattle.trace_instance.specs.declared.tables.Table.{Table}
use Rattle.trace_instance.proofs.HistChanges.{are_set, made-one, same_sides}
use Rattle.trace_instance.proofs.instance.Instance.make.Goals as goal

pub returns-clause-made : goal.returns-clause-made
returns-clause-made c =
    let made = c.args.made.value in
    let table : Table = record { number = made.attached.table; hist = made.hist } in
    let more : c.insert.new.self.items ≡ table ∷ c.self.inside.tables.items = search rules in
    are_set c.args.event c.args.append _ c.args.self.now c.self.inside c.index_mut.result.now _ _ _ c.self.view_is c.requires.hists c.index_mut.ensures.value
    (record {
      snapshot = c.attach.ensures.snapshot ∙ c.reserve_one.ensures.snapshot;
      hists = rw (c.into_inner-attached.ensures, c.reserve_one.ensures.hists) at c.attach.ensures.hists;
    })
    (λ n. ap (kept_at n) more ∙ made-one made.attached made.hist n (table_numbered n c.self.inside.tables.items)) (same_sides _ _ _ _ (λ f. refl))
