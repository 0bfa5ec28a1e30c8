use Rattle.std.proofs.Common.{◌≡◌, ◌<◌, ◌≤◌, ℕ, Bool, false, true, ◌&&◌, List, [], length, map, get_or, is_some, None, refl, sym, ap, ◌∙◌, arith}
use Rattle.std.proofs.lemmas.List.{get_or_past, length-map}
use Rattle.trace_instance.proofs.EachEvent.{read, view_of}
use Rattle.trace_instance.specs.Instances.{InstanceSeen}
use Rattle.trace_instance.specs.Plans.{plan_of, planned}
use Rattle.trace_instance.specs.declared.event.InstanceEvent.{InstanceEvent}
use Rattle.trace_instance.specs.declared.instance.Instance.TheInside.{Inside}
use Rattle.trace_instance.specs.declared.plan.Plan.{Plan}
use Rattle.trace_instance.specs.declared.plan.Plan.TheVariants.{Nothing}
use Rattle.trace_instance.proofs.instance.Instance.plan.Goals as goal

-- an event past the last one
past : {A : Type 0} (f : InstanceEvent → A) (events : List InstanceEvent) (at : ℕ) (d : A) → length events ≤ at → get_or (map f events) at d ≡ d
past f events at d beyond = get_or_past (map f events) at d (omega (arith, beyond, length-map events f))

unplanned : (tracing : Bool) → planned (tracing && false) None false [] ≡ Nothing
unplanned true = refl
unplanned false = refl

none-there : (value : InstanceSeen) (old : Inside) (at : ℕ) → view_of old ≡ value → length old.events.items ≤ at → Nothing ≡ plan_of value at
none-there value old at view beyond =
    let events = old.events.items in
    let e = past (λ (e : InstanceEvent). e.enabled) events at false beyond in
    let f = past (λ (e : InstanceEvent). e.filter) events at None beyond in
    let t = past (λ (e : InstanceEvent). e.triggers.snapshot) events at None beyond in
    let h = past (λ (e : InstanceEvent). e.triggers.hists) events at [] beyond in
    let same : plan_of (view_of old) at ≡ planned (old.tracing && false) None false [] =
    λ k. planned (old.tracing && e k) (f k) (is_some (t k)) (h k) in
    sym (unplanned old.tracing) ∙ sym same ∙ ap (λ (v : InstanceSeen). plan_of v at) view

one-there : (value : InstanceSeen) (old : Inside) (at : ℕ) (one : InstanceEvent) (plan : Plan) → view_of old ≡ value → at < length old.events.items
    → one ≡ get_or old.events.items at one → plan ≡ planned (old.tracing && one.enabled) one.filter (is_some one.triggers.snapshot) one.triggers.hists
    → plan ≡ plan_of value at
one-there value old at one plan view inside is found =
    let events = old.events.items in
    let e = read (λ (e : InstanceEvent). e.enabled) events at one false is inside in
    let f = read (λ (e : InstanceEvent). e.filter) events at one None is inside in
    let t = read (λ (e : InstanceEvent). e.triggers.snapshot) events at one None is inside in
    let h = read (λ (e : InstanceEvent). e.triggers.hists) events at one [] is inside in
    let same : planned (old.tracing && one.enabled) one.filter (is_some one.triggers.snapshot) one.triggers.hists ≡ plan_of (view_of old) at =
    λ k. planned (old.tracing && e k) (f k) (is_some (t k)) (h k) in
    found ∙ same ∙ ap (λ (v : InstanceSeen). plan_of v at) view

pub returns-then-event-len : goal.returns-then-event-len
returns-then-event-len c = none-there c.args.self.now c.self.inside c.args.event c.self.view_is (omega arith)

pub returns : goal.returns
returns c = one-there c.args.self.now c.self.inside c.args.event c.index.result.now c.plan.result c.self.view_is (omega arith) c.index.ensures c.plan.ensures
