-- Names listed one after another.
use Rattle.std.proofs.Common.{◌≡◌, ◌≤◌, ℕ, ◌+◌, zero, suc, List, [], ◌∷◌, ◌++◌, length, drop, Some, None, refl, ap, sym, ◌∙◌, arith}
use Rattle.std.proofs.lemmas.List.{append-nil, append_assoc, drop_all, length-map}
use Rattle.std.proofs.lemmas.Option.{slice_get-map}
use Rattle.std.specs.List.{slice_get}
use Rattle.std.specs.Option.{option_map}
use Rattle.trace_command.specs.Requests.{Request}
use Rattle.trace_format.specs.Definitions.{Definition}
use Rattle.library_tracer.specs.ListedFiles.{event_names}
use Rattle.file_list.specs.Names.{NamesSeen}
use Rattle.tracer_specification.specs.Settings.{declared_events}

-- ---- a list taken one by one

drop_next : {X : Type 0} (xs : List X) (i : ℕ) (x : X) → slice_get xs i ≡ Some x → drop i xs ≡ x ∷ drop (i + 1) xs
drop_next [] zero x e = absurd (cc)
drop_next [] (suc i) x e = absurd (cc)
drop_next (y ∷ ys) zero x e = ap (λ z. z ∷ ys) (let same : y ≡ x = cc in same)
drop_next (y ∷ ys) (suc i) x e = let more : suc i + 1 ≡ suc (i + 1) = omega arith in rw more (drop_next ys i x e)

past_end : {X : Type 0} (xs : List X) (i : ℕ) → slice_get xs i ≡ None → drop i xs ≡ []
past_end [] zero e = refl
past_end [] (suc i) e = refl
past_end (y ∷ ys) zero e = absurd (cc)
past_end (y ∷ ys) (suc i) e = past_end ys i e

-- one more was added
pub one_more : (old now xs : List (List ℕ)) (i : ℕ) (x : List ℕ) → now ++ drop i xs ≡ old ++ xs → slice_get xs i ≡ Some x
    → (now ++ x ∷ []) ++ drop (i + 1) xs ≡ old ++ xs
one_more old now xs i x so_far is = append_assoc now (x ∷ []) (drop (i + 1) xs) ∙ ap (λ rest. now ++ rest) (sym (drop_next xs i x is)) ∙ so_far

-- there are no more
pub no_more : (old now xs : List (List ℕ)) (i : ℕ) → now ++ drop i xs ≡ old ++ xs → slice_get xs i ≡ None → now ≡ old ++ xs
no_more old now xs i so_far none = sym (append-nil now) ∙ ap (λ rest. now ++ rest) (sym (past_end xs i none)) ∙ so_far

pub all_added : (old now xs : List (List ℕ)) (i : ℕ) → now ++ drop i xs ≡ old ++ xs → length xs ≤ i → now ≡ old ++ xs
all_added old now xs i so_far all = sym (append-nil now) ∙ ap (λ rest. now ++ rest) (sym (drop_all i xs all)) ∙ so_far

-- ---- how many there are

-- all events were added
pub all_events : (past : List Request) (old now : List (List ℕ)) (i : ℕ) → length (declared_events past) ≤ i
    → now ++ drop i (event_names past) ≡ old ++ event_names past → now ≡ old ++ event_names past
all_events past old now i few so_far =
    all_added old now (event_names past) i so_far (omega (arith, few, length-map (declared_events past) (λ (e : Definition). e.name)))

-- the name of the event at an index
pub event_at : (past : List Request) (i : ℕ) (event : Definition) (name : List ℕ) → slice_get (declared_events past) i ≡ Some event → name ≡ event.name
    → slice_get (event_names past) i ≡ Some name
event_at past i event name is e = slice_get-map (λ (d : Definition). d.name) (declared_events past) i ∙ ap (option_map (λ (d : Definition). d.name)) is ∙ ap Some (sym e)

pub no_event : (past : List Request) (i : ℕ) → slice_get (declared_events past) i ≡ None → slice_get (event_names past) i ≡ None
no_event past i is = slice_get-map (λ (d : Definition). d.name) (declared_events past) i ∙ ap (option_map (λ (d : Definition). d.name)) is

-- names as their fields
abbrev seen : List (List ℕ) → List (List ℕ) → List (List ℕ) → NamesSeen
seen events instances gone = record { events = events; instances = instances; gone = gone }

pub with_fields : (names : NamesSeen) (events instances gone : List (List ℕ)) → names.events ≡ events → names.instances ≡ instances → names.gone ≡ gone
    → names ≡ record { events = events; instances = instances; gone = gone }
with_fields names events instances gone a b c =
    ap (λ e. seen e names.instances names.gone) a ∙ ap (λ i. seen events i names.gone) b ∙ ap (λ g. seen events instances g) c
