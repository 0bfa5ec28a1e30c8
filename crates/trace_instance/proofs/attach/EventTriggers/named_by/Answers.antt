use Rattle.std.proofs.Common.{◌≡◌, ◌⊎◌, inl, inr, true, false, is_some, option_copied, sym, ap, ◌∙◌, rules}
use Rattle.std.specs.List.{find}
use Rattle.trace_instance.specs.private.SharedTables.{names_table_of}
use Rattle.trace_instance.specs.declared.event.InstanceEvent.{InstanceEvent}
use Rattle.trace_instance.proofs.NamedIn.{copied-some, named-further, named-here, named-past}
use Rattle.trace_instance.proofs.attach.EventTriggers.named_by.Goals as goal
use Rattle.trace_instance.proofs.attach.EventTriggers.named_by.Goals.{then-append+else-is_some, then-append-via-then-append, then-append-via-else-append+then-i-self, else-append+else-i-self}

pub returns-then-is_some : goal.returns-then-is_some
returns-then-is_some c =
    let one = c.index-self-i.result in
    let which : (c.args.append ≡ true) ⊎ (c.loop-i.i ≡ c.args.self.event → ⊥) = elim c.then-append.branch [
      | then-append-via-then-append w ↦ inl w.if-append.true
      | then-append-via-else-append+then-i-self w ↦ inr w.if-i-self.true
    ] in
    let found : option_copied c.named_by-named.result ≡ find (names_table_of c.args.spec.now) one.triggers.hists =
    c.named_by-named.ensures ∙ sym (ap (λ (e : InstanceEvent). find (names_table_of c.args.spec.now) e.triggers.hists) c.index-self-i.is) in
    let is : is_some c.named_by-named.result ≡ true = search rules in
    let some : is_some (find (names_table_of c.args.spec.now) one.triggers.hists) ≡ true =
    ap is_some (sym found) ∙ copied-some c.named_by-named.result ∙ is in
    found
    ∙ sym (named-here c.args.spec.now c.args.self c.args.append c.loop-i.i one c.loop-i-test.true c.index-self-i.is which some)
    ∙ c.loop-i.invariant

pub loop-i-preserved : goal.loop-i-preserved
loop-i-preserved c = elim c.if-append.branch [
  | then-append+else-is_some w ↦
      let one = w.index-self-i.result in
      let which : (c.args.append ≡ true) ⊎ (c.loop-i.i ≡ c.args.self.event → ⊥) = elim w.then-append.branch [
        | then-append-via-then-append v ↦ inl v.if-append.true
        | then-append-via-else-append+then-i-self v ↦ inr v.if-i-self.true
      ] in
      let found : option_copied w.named_by-named.result ≡ find (names_table_of c.args.spec.now) one.triggers.hists =
      w.named_by-named.ensures ∙ sym (ap (λ (e : InstanceEvent). find (names_table_of c.args.spec.now) e.triggers.hists) w.index-self-i.is) in
      let is : is_some w.named_by-named.result ≡ false = search rules in
      let none : is_some (find (names_table_of c.args.spec.now) one.triggers.hists) ≡ false =
      ap is_some (sym found) ∙ copied-some w.named_by-named.result ∙ is in
      sym (named-further c.args.spec.now c.args.self c.args.append c.loop-i.i one c.loop-i-test.true w.index-self-i.is which none)
      ∙ c.loop-i.invariant
  | else-append+else-i-self w ↦
      sym (named-past c.args.spec.now c.args.self c.args.append c.loop-i.i c.loop-i-test.true w.if-append.false w.if-i-self.false)
      ∙ c.loop-i.invariant
]
