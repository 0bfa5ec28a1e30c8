-- The names of the files whose text is made late: a path to one ends in one of them.
use Rattle.std.proofs.Common.{◌≡◌, ◌⊎◌, inl, inr, ℕ, Bool, true, false, ◌&&◌, List, [], ◌∷◌, ◌++◌, append_assoc, take, drop, length, Option, Some, None, bytes_eq, codes, if◌then◌else◌, refl, sym, ap, subst, ◌∙◌}
use Rattle.std.proofs.lemmas.List.{take-append-drop}
use Rattle.std.proofs.lemmas.List.Splits.{join_with_byte-slice_split}
use Rattle.std.proofs.lemmas.Slice.Eq.{bytes_eq-Decides}
use Rattle.std.specs.List.{join_with_byte}
use Rattle.std.specs.Option.{option_and_then, option_map}
use Rattle.trace_lex.specs.Names.{is_name}
use Rattle.trace_command.specs.Paths.{Address, File, OfCpu, OfEvent, OfInstance, SyntheticEvents, address_in, address_of, below_mount_point, cpu_file, cpu_number, event_file, events_file, file_in, file_of_instance, is_instance, mount_point, option_file, parts, system_file, top_file}
use Rattle.library_tracer.specs.LateTexts.{has_late_text}

-- ---- names

abbrev pub IsLateName : List ℕ → Type 0
IsLateName name = (name ≡ codes "trace") ⊎ ((name ≡ codes "snapshot") ⊎ (name ≡ codes "hist"))

-- the text of this file, if it is one, is made late
record IsLate (file : Option File) : Type 0 where
  is : has_late_text file ≡ true

none_late : (P : Type 0) → IsLate None → P
none_late P late = let is = late.is in absurd (cc)

-- the file of a word, or of another one
by_word : {A : Type 0} (of : Option A → Option File) (name word : List ℕ) (this : A) (other : Option A) (P : Type 0)
    → IsLate (of (if bytes_eq name word then Some this else other)) → (name ≡ word → IsLate (of (Some this)) → P)
    → (IsLate (of other) → P) → P
by_word of name word this other P late is_this is_other = by (bytes_eq name word) (bytes_eq-Decides name word).0 late
  where
    by : (b : Bool) → (b ≡ true → name ≡ word) → IsLate (of (if b then Some this else other)) → P
    by true is late = is_this (is refl) late
    by false is late = is_other late

top_late : (name : List ℕ) → IsLate (top_file name) → IsLateName name
unfolding top_file
top_late name late =
    let same : Option File → Option File = λ file. file in
    by_word same name (codes "trace") _ _ _ late (λ is on. inl is) (λ late.
    by_word same name (codes "trace_pipe") _ _ _ late (λ is on. let no = on.is in absurd (cc)) (λ late.
    by_word same name (codes "trace_options") _ _ _ late (λ is on. let no = on.is in absurd (cc)) (λ late.
    by_word same name (codes "tracing_on") _ _ _ late (λ is on. let no = on.is in absurd (cc)) (λ late.
    by_word same name (codes "snapshot") _ _ _ late (λ is on. inr (inl is)) (λ late.
    by_word same name (codes "synthetic_events") _ _ _ late (λ is on. let no = on.is in absurd (cc)) (none_late _))))))

option_late : (name : List ℕ) → IsLate (option_map OfInstance (option_file name)) → IsLateName name
unfolding option_file
option_late name late = by_word (option_map OfInstance) name (codes "overwrite") _ _ _ late (λ is on. let no = on.is in absurd (cc)) (none_late _)

events_late : (name : List ℕ) → IsLate (option_map OfInstance (events_file name)) → IsLateName name
unfolding events_file
events_late name late = by_word (option_map OfInstance) name (codes "enable") _ _ _ late (λ is on. let no = on.is in absurd (cc)) (none_late _)

system_late : (name : List ℕ) → IsLate (option_map OfInstance (system_file name)) → IsLateName name
unfolding system_file
system_late name late =
    by_word (option_map OfInstance) name (codes "enable") _ _ _ late (λ is on. let no = on.is in absurd (cc)) (λ late.
    by_word (option_map OfInstance) name (codes "filter") _ _ _ late (λ is on. let no = on.is in absurd (cc)) (none_late _))

cpu_late : (cpu : ℕ) (name : List ℕ) → IsLate (option_map (OfCpu cpu) (cpu_file name)) → IsLateName name
unfolding cpu_file
cpu_late cpu name late =
    by_word (option_map (OfCpu cpu)) name (codes "stats") _ _ _ late (λ is on. let no = on.is in absurd (cc)) (λ late.
    by_word (option_map (OfCpu cpu)) name (codes "trace") _ _ _ late (λ is on. inl is) (λ late.
    by_word (option_map (OfCpu cpu)) name (codes "trace_pipe") _ _ _ late (λ is on. let no = on.is in absurd (cc)) (none_late _)))

event_late : (event name : List ℕ) → IsLate (option_map (OfEvent event) (event_file name)) → IsLateName name
unfolding event_file
event_late event name late =
    by_word (option_map (OfEvent event)) name (codes "enable") _ _ _ late (λ is on. let no = on.is in absurd (cc)) (λ late.
    by_word (option_map (OfEvent event)) name (codes "filter") _ _ _ late (λ is on. let no = on.is in absurd (cc)) (λ late.
    by_word (option_map (OfEvent event)) name (codes "trigger") _ _ _ late (λ is on. let no = on.is in absurd (cc)) (λ late.
    by_word (option_map (OfEvent event)) name (codes "hist") _ _ _ late (λ is on. inr (inr is)) (λ late.
    by_word (option_map (OfEvent event)) name (codes "format") _ _ _ late (λ is on. let no = on.is in absurd (cc)) (none_late _)))))

-- ---- parts

-- the last part, nothing of no parts
abbrev last_of : List (List ℕ) → List ℕ
last_of [] = []
last_of (name ∷ []) = name
last_of (first ∷ second ∷ rest) = last_of (second ∷ rest)

-- one of two, by a test
either : (b : Bool) (one other : Option File) (P : Type 0) → IsLate (if b then one else other) → (IsLate one → P)
    → (IsLate other → P) → P
either true one other P late is_one is_other = is_one late
either false one other P late is_one is_other = is_other late

numbered : (number : Option ℕ) (name : List ℕ) → IsLate (option_and_then (λ cpu. option_map (OfCpu cpu) (cpu_file name)) number) → IsLateName name
numbered None name late = none_late _ late
numbered (Some cpu) name late = cpu_late cpu name late

file_late : (names : List (List ℕ)) → IsLate (file_in names) → IsLateName (last_of names)
file_late [] late = none_late _ late
file_late (name ∷ []) late = top_late name late
file_late (first ∷ name ∷ []) late =
    let events = if bytes_eq first (codes "events") then option_map OfInstance (events_file name) else None in
    either (bytes_eq first (codes "options")) (option_map OfInstance (option_file name)) events (IsLateName name) late (option_late name)
    (λ (late : IsLate events). either (bytes_eq first (codes "events")) (option_map OfInstance (events_file name)) None (IsLateName name) late (events_late name)
    (none_late (IsLateName name)))
file_late (first ∷ second ∷ name ∷ []) late =
    let is_system = bytes_eq first (codes "events") && bytes_eq second (codes "synthetic") in
    let system = if is_system then option_map OfInstance (system_file name) else None in
    either (bytes_eq first (codes "per_cpu")) (option_and_then (λ cpu. option_map (OfCpu cpu) (cpu_file name)) (cpu_number second)) system (IsLateName name) late
    (numbered (cpu_number second) name)
    (λ (late : IsLate system). either is_system (option_map OfInstance (system_file name)) None (IsLateName name) late (system_late name)
    (none_late (IsLateName name)))
file_late (first ∷ second ∷ event ∷ name ∷ []) late =
    either (bytes_eq first (codes "events") && (bytes_eq second (codes "synthetic") && is_name event)) (option_map (OfEvent event) (event_file name)) None
    (IsLateName name) late (event_late event name) (none_late (IsLateName name))
file_late (first ∷ second ∷ third ∷ fourth ∷ fifth ∷ rest) late = none_late _ late

of_instance : (file : Option File) → IsLate (file_of_instance file) → IsLate file
of_instance None late = late
of_instance (Some SyntheticEvents) late = none_late _ late
of_instance (Some (OfInstance file)) late = late
of_instance (Some (OfCpu cpu file)) late = late
of_instance (Some (OfEvent event file)) late = late

address_late : (names : List (List ℕ)) → IsLate (address_in names).file → IsLateName (last_of names)
address_late [] late = file_late [] late
address_late (name ∷ []) late = file_late (name ∷ []) late
address_late (first ∷ name ∷ []) late = file_late (first ∷ name ∷ []) late
address_late (first ∷ name ∷ part ∷ rest) late = by (is_instance first name) late
  where
    by : (b : Bool) → IsLate ((if◌then◌else◌ {A = Address} b (record { instance = Some name; file = file_of_instance (file_in (part ∷ rest)) })
        (record { instance = None; file = file_in (first ∷ name ∷ part ∷ rest) })).file) → IsLateName (last_of (part ∷ rest))
    by true late = file_late (part ∷ rest) (of_instance (file_in (part ∷ rest)) late)
    by false late = file_late (first ∷ name ∷ part ∷ rest) late

-- ---- ends of paths

abbrev pub EndsIn : List ℕ → List ℕ → Type 0
EndsIn path word = (front : List ℕ) × (path ≡ front ++ word)

joined_ends : (names : List (List ℕ)) → EndsIn (join_with_byte 47 names) (last_of names)
joined_ends [] = ([], refl)
joined_ends (name ∷ []) = ([], refl)
joined_ends (first ∷ second ∷ rest) =
    let (front, is) = joined_ends (second ∷ rest) in
    (first ++ (47 ∷ front), ap (λ (end : List ℕ). first ++ (47 ∷ end)) is ∙ sym (append_assoc first (47 ∷ front) (last_of (second ∷ rest))))

parts_end : (path : List ℕ) → EndsIn path (last_of (parts path))
parts_end path = subst (λ (whole : List ℕ). EndsIn whole (last_of (parts path))) (join_with_byte-slice_split 47 path) (joined_ends (parts path))

below_ends : (path word : List ℕ) → EndsIn (below_mount_point path) word → EndsIn path word
unfolding below_mount_point
below_ends path word ends = by (bytes_eq (take (length mount_point) path) mount_point) ends
  where
    by : (b : Bool) → EndsIn (if b then drop (length mount_point) path else path) word → EndsIn path word
    by true (front, is) =
        let mount = take (length mount_point) path in
        (mount ++ front, sym (take-append-drop (length mount_point) path) ∙ ap (λ (rest : List ℕ). mount ++ rest) is ∙ sym (append_assoc mount front word))
    by false ends = ends

abbrev pub EndsLate : List ℕ → Type 0
EndsLate path = EndsIn path (codes "trace") ⊎ (EndsIn path (codes "snapshot") ⊎ EndsIn path (codes "hist"))

named : (path name : List ℕ) → EndsIn path name → IsLateName name → EndsLate path
named path name ends (inl is) = inl (subst (λ (word : List ℕ). EndsIn path word) is ends)
named path name ends (inr (inl is)) = inr (inl (subst (λ (word : List ℕ). EndsIn path word) is ends))
named path name ends (inr (inr is)) = inr (inr (subst (λ (word : List ℕ). EndsIn path word) is ends))

-- a path to a file whose text is made late
pub ends_late : (path : List ℕ) → has_late_text (address_of path).file ≡ true → EndsLate path
unfolding address_of
ends_late path late =
    let below = below_mount_point path in
    named path (last_of (parts below)) (below_ends path (last_of (parts below)) (parts_end below)) (address_late (parts below) (record { is = late }))
