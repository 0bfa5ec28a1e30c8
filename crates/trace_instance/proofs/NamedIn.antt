-- The first hist trigger whose table a text names, list after list.
use Rattle.std.proofs.Common.{◌≡◌, ◌⊎◌, inl, inr, ℕ, suc, ◌+◌, ◌<◌, Bool, true, false, List, [], length, drop, get_or, set, is_some, Bor, Option, None, Some, refl, sym, ap, ◌∙◌, arith}
use Rattle.std.specs.List.{find, flat_map}
use Rattle.std.specs.Option.{option_copied, option_or}
use Rattle.std.proofs.Math.Seq.{drop-cons}
use Rattle.std.proofs.lemmas.List.{get_or-set_other, get_or-set_same, length-map, length-set}
use Rattle.std.proofs.lemmas.List.Folds.{find-append}
use Rattle.trace_trigger.specs.HistSpecs.{SpecSeen}
use Rattle.trace_instance.specs.private.SharedTables.{left_of, named_in, names_table_of}
use Rattle.trace_instance.specs.EventLists.{all_hists}
use Rattle.trace_instance.specs.declared.attach.EventTriggers.{EventTriggers}
use Rattle.trace_instance.specs.declared.event.InstanceEvent.{InstanceEvent}
use Rattle.trace_instance.specs.declared.hists.AttachedHist.{AttachedHist}
use Rattle.trace_instance.proofs.EachEvent.{read}

-- what is found from a list on is found in that one, or else from the next one on
named-next : (spec : SpecSeen) (lists : List (List AttachedHist)) (i : ℕ) → i < length lists
    → named_in spec (drop i lists) ≡ option_or (find (names_table_of spec) (get_or lists i [])) (named_in spec (drop (i + 1) lists))
named-next spec lists i inside =
    let next : suc i ≡ i + 1 = omega arith in
    ap (named_in spec) (drop-cons lists i [] inside)
    ∙ find-append (names_table_of spec) (get_or lists i []) (flat_map (λ (hists : List AttachedHist). hists) (drop (suc i) lists))
    ∙ ap (λ (k : ℕ). option_or (find (names_table_of spec) (get_or lists i [])) (named_in spec (drop k lists))) next

-- the lists of which one is to be left out
many-left : (triggers : EventTriggers) (append : Bool) → length (left_of triggers append) ≡ length triggers.all.now
many-left triggers true = length-map triggers.all.now (λ (e : InstanceEvent). e.triggers.hists)
many-left triggers false =
    length-set (all_hists triggers.all.now) triggers.event [] ∙ length-map triggers.all.now (λ (e : InstanceEvent). e.triggers.hists)

-- one that is left
left-at : (triggers : EventTriggers) (append : Bool) (i : ℕ) → (append ≡ true) ⊎ (i ≡ triggers.event → ⊥)
    → get_or (left_of triggers append) i [] ≡ get_or (all_hists triggers.all.now) i []
left-at triggers true i which = refl
left-at triggers false i (inl is) = absurd (cc)
left-at triggers false i (inr other) = get_or-set_other (all_hists triggers.all.now) triggers.event i [] [] other

list-next : (spec : SpecSeen) (triggers : EventTriggers) (append : Bool) (i : ℕ) (one : InstanceEvent)
    → i < length triggers.all.now → one ≡ get_or triggers.all.now i one → (append ≡ true) ⊎ (i ≡ triggers.event → ⊥)
    → named_in spec (drop i (left_of triggers append))
    ≡ option_or (find (names_table_of spec) one.triggers.hists) (named_in spec (drop (i + 1) (left_of triggers append)))
list-next spec triggers append i one inside at which =
    let within : i < length (left_of triggers append) = omega (arith, inside, many-left triggers append) in
    let here : get_or (left_of triggers append) i [] ≡ one.triggers.hists =
    left-at triggers append i which ∙ sym (read (λ (e : InstanceEvent). e.triggers.hists) triggers.all.now i one [] at inside) in
    named-next spec (left_of triggers append) i within
    ∙ ap (λ (l : List AttachedHist). option_or (find (names_table_of spec) l) (named_in spec (drop (i + 1) (left_of triggers append)))) here

-- what is found in a list
some-first : {A : Type 0} (one other : Option A) → is_some one ≡ true → option_or one other ≡ one
some-first None other is = absurd (cc)
some-first (Some x) other is = refl

none-first : {A : Type 0} (one other : Option A) → is_some one ≡ false → option_or one other ≡ other
none-first None other is = refl
none-first (Some x) other is = absurd (cc)

-- one that is found there is the first
pub named-here : (spec : SpecSeen) (triggers : EventTriggers) (append : Bool) (i : ℕ) (one : InstanceEvent)
    → i < length triggers.all.now → one ≡ get_or triggers.all.now i one → (append ≡ true) ⊎ (i ≡ triggers.event → ⊥)
    → is_some (find (names_table_of spec) one.triggers.hists) ≡ true → named_in spec (drop i (left_of triggers append)) ≡ find (names_table_of spec) one.triggers.hists
named-here spec triggers append i one inside at which found =
    list-next spec triggers append i one inside at which
    ∙ some-first (find (names_table_of spec) one.triggers.hists) (named_in spec (drop (i + 1) (left_of triggers append))) found

-- where none of it is named, the next ones are looked through
pub named-further : (spec : SpecSeen) (triggers : EventTriggers) (append : Bool) (i : ℕ) (one : InstanceEvent)
    → i < length triggers.all.now → one ≡ get_or triggers.all.now i one → (append ≡ true) ⊎ (i ≡ triggers.event → ⊥)
    → is_some (find (names_table_of spec) one.triggers.hists) ≡ false
    → named_in spec (drop i (left_of triggers append)) ≡ named_in spec (drop (i + 1) (left_of triggers append))
named-further spec triggers append i one inside at which none =
    list-next spec triggers append i one inside at which
    ∙ none-first (find (names_table_of spec) one.triggers.hists) (named_in spec (drop (i + 1) (left_of triggers append))) none

-- and so it is with a list that is left out
pub named-past : (spec : SpecSeen) (triggers : EventTriggers) (append : Bool) (i : ℕ) → i < length triggers.all.now → append ≡ false → i ≡ triggers.event
    → named_in spec (drop i (left_of triggers append)) ≡ named_in spec (drop (i + 1) (left_of triggers append))
named-past spec triggers true i inside anew is = absurd (cc)
named-past spec triggers false i inside anew is =
    let lists : List (List AttachedHist) = set (all_hists triggers.all.now) triggers.event [] in
    let within : i < length lists = omega (arith, inside, many-left triggers false) in
    let many = length-map triggers.all.now (λ (e : InstanceEvent). e.triggers.hists) in
    let gone : get_or lists i [] ≡ [] =
    ap (λ (k : ℕ). get_or lists k []) is ∙ get_or-set_same (all_hists triggers.all.now) triggers.event [] [] (omega (arith, inside, is, many)) in
    named-next spec lists i within ∙ ap (λ (l : List AttachedHist). option_or (find (names_table_of spec) l) (named_in spec (drop (i + 1) lists))) gone

pub copied-some : {A : Type 0} (o : Option (Bor A)) → is_some (option_copied o) ≡ is_some o
copied-some None = refl
copied-some (Some r) = refl
