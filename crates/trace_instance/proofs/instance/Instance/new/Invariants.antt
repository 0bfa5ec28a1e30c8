use Rattle.std.proofs.Common.{◌≡◌, true, false, None, [], replicate}
use Rattle.trace_snapshot.specs.Sides.{IsNewSide}
use Rattle.trace_instance.proofs.instance.Instance.new.Given as goal

abbrev pub invariant-loop-event : goal.invariant-loop-event
invariant-loop-event l = record {
  enabled : l.instance.enabled ≡ replicate l._event false;
  filters : l.instance.filters ≡ replicate l._event None;
  triggers : l.instance.triggers ≡ replicate l._event None;
  hists : l.instance.hists ≡ replicate l._event [];
  tables : l.instance.tables ≡ [];
  overwrite : l.instance.overwrite ≡ true;
  tracing : l.instance.tracing ≡ true;
  live : IsNewSide l.cpus l.pages l.page_bytes l.instance.sides.live;
  spare : l.instance.sides.spare ≡ None;
  cpus : l.instance.sides.cpus ≡ l.cpus;
  pages : l.instance.sides.pages ≡ l.pages;
  page_bytes : l.instance.sides.page_bytes ≡ l.page_bytes;
}
