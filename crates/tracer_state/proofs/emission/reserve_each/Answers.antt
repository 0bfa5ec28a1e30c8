use Rattle.std.proofs.Common.{◌≡◌, ◌≢◌, ◌<◌, false, [], ◌∷◌, get_or, length, length-set, get_or-set_other, refl, ◌∙◌, arith, rules}
use Rattle.std.proofs.lemmas.List.{get_or_default}
use Rattle.trace_instance.specs.Instances.{IsAlike, passed_in}
use Rattle.trace_instance.specs.Deliveries.{CanCountRow}
use Rattle.tracer_state.specs.declared.state.Named.{Named}
use Rattle.tracer_state.proofs.EachInstance.{came_more, held_more, names_more, reached_more}
use Rattle.tracer_state.proofs.ReservedEach.{alike-past, counted-past, known-here, needed-here, no-hists, none-known}
use Rattle.tracer_state.proofs.emission.reserve_each.Goals as goal
use Rattle.tracer_state.proofs.emission.reserve_each.Goals.{then-has_hists+in_ok-passed, else-has_hists}

pub loop-i-init : goal.loop-i-init
loop-i-init c = record {
  many = refl;
  places = search rules;
  names = λ k d. refl;
  alike = λ k d below. absurd (omega (arith, below));
  counted = λ k d below. absurd (omega (arith, below));
  known = λ k below n. absurd (omega (arith, below));
  left = λ k d above. refl;
}

pub returns-clause-alike : goal.returns-clause-alike
returns-clause-alike c =
    let was = c.loop-i.invariant in record {
      many = was.many;
      names = λ k d inside. was.names k d;
      came = λ k d inside. was.alike k d (omega (arith, inside, was.many));
    }

pub returns-in_err-passed-clause-memory : goal.returns-in_err-passed-clause-memory
returns-in_err-passed-clause-memory c =
    let was = c.loop-i.invariant in
    let old = c.args.instances.now in
    let now = c.loop-i.instances in
    let i = c.loop-i.i in
    let e = c.args.emission.now in
    let inside : i < length old = omega (arith, was.many) in
    let within : i < length now = omega (arith, was.many) in
    let at = c.index-instances-i-then-has_hists.result in
    let here = get_or now i at in
    needed-here e c.args.event old now i here c.from_residual.result inside (get_or_default now i at here within) (was.left i here (omega arith))
    c.in_err-passed.ensures.memory

pub loop-i-preserved : goal.loop-i-preserved
loop-i-preserved c =
    let was = c.loop-i.invariant in
    let old = c.args.instances.now in
    let now = c.loop-i.instances in
    let i = c.loop-i.i in
    let event = c.args.event in
    let e = c.args.emission.now in
    let inside : i < length now = omega (arith, was.many) in
    elim c.if-has_hists.branch [
      | then-has_hists+in_ok-passed w ↦
          let at = w.index-instances-i-then-has_hists.result in
          let here = get_or now i at in
          let found = known-here e event old now w.in_ok-passed.field-0 i here inside (get_or_default now i at here inside) was.left
          w.in_ok-passed.ensures.passed in
          rw (w.instances-is, w.passed-is) (record {
            many = length-set _ _ _ ∙ was.many;
            places = length-set _ _ _ ∙ was.places;
            names = names_more old now i at _ inside refl was.names;
            alike = came_more (λ k. IsAlike) old now i at _ inside w.reserve.ensures.alike was.alike was.left;
            counted = held_more (λ k j. CanCountRow e event j) now i _ inside w.in_ok-passed.ensures.ready was.counted;
            known = reached_more [] (λ k known. (n : Named) → known ≡ passed_in e event (get_or old k n).instance) c.loop-i.passed i
                w.in_ok-passed.field-0 (omega (arith, was.places, was.many, inside, c.requires.few)) found was.known;
            left = λ k d above. let other : k ≢ i = omega arith in rw get_or-set_other (was.left k d (omega arith));
          })
      | else-has_hists w ↦
          let here = get_or now i c.index-instances-i.result in
          let is = get_or_default now i c.index-instances-i.result here inside in
          let none : get_or here.instance.hists event [] ≡ [] = no-hists _ c.has_hists.result c.has_hists.ensures w.if-has_hists.false in
          rw (w.instances-is, w.passed-is) (record {
            many = was.many;
            places = length-set _ _ _ ∙ was.places;
            names = was.names;
            alike = alike-past old now i was.alike was.left;
            counted = counted-past e event now i here inside is none was.counted;
            known = reached_more [] (λ k known. (n : Named) → known ≡ passed_in e event (get_or old k n).instance) c.loop-i.passed i
                (false ∷ false ∷ false ∷ false ∷ []) (omega (arith, was.places, was.many, inside, c.requires.few))
                (none-known e event old now i here inside is none was.left) was.known;
            left = λ k d above. was.left k d (omega arith);
          })
    ]
