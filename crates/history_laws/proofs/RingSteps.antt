-- What a request does to a CPU's ring of either side of an instance.
use Rattle.std.proofs.Common.{◌≡◌, ◌⊎◌, inl, inr, ℕ, zero, suc, ◌==◌, Bool, true, false, ◌&&◌, if◌then◌else◌, List, [], ◌∷◌, ◌++◌, length, map, replicate, Option, None, Some, refl, sym, ap, ◌∙◌, subst, ℤ, eq-eqb, eqb-true, arith, ltb-true, nat_lt, set, ◌<◌, ◌≤◌}
use Rattle.std.proofs.lemmas.Bool.{false≢true, ltb-false}
use Rattle.std.proofs.lemmas.List.{get_or_past, length-set}
use Rattle.page_ring.specs.Account.{readings_of}
use Rattle.page_ring.specs.Events as ring
use Rattle.page_ring.specs.Laws.{LeastIsRead}
use Rattle.trace_buffer.specs.Families.{CpuReading, on_cpu, events_of, with_events, with_cleared, all_cleared, cpu_readings, kept_count}
use Rattle.trace_buffer.specs.Orders.{consume_any}
use Rattle.trace_buffer.proofs.Consumed.{consumed_by_reads, read_on}
use Rattle.trace_buffer.proofs.PipeLaws.{events_of-other, events_of-with_events}
use Rattle.trace_command.specs.Paths.{File, OfInstance, OfCpu}
use Rattle.trace_command.specs.Requests.{Request, Emission, MakeInstance, RemoveInstance, WriteFile, ReadFile}
use Rattle.trace_command.specs.declared.command.Config.{Config}
use Rattle.trace_command.specs.declared.file_name.CpuFile.TheVariants as per_cpu
use Rattle.trace_command.specs.declared.file_name.TopFile.TheVariants as top
use Rattle.trace_format.specs.declared.pair.Pair.{Pair}
use Rattle.tracer_specification.specs.Emissions.{Emitted, emitted, emitted_bytes, is_recorded}
use Rattle.tracer_specification.specs.Laws.{those_of, PipeReadsConsumeWhatTheyShow, WholePipeReadsConsumeWhatTheyShow}
use Rattle.tracer_specification.specs.Rings.{up_to_limit, pipe_read, cpu_pipe_read, with_emitted, rings_after_write, rings_after_read, rings_after, spare_after, rings}
use Rattle.tracer_specification.specs.Settings.{is_same, makes, overwrites}
use Rattle.tracer_specification.specs.Snapshots.{clears_spare, live_side, written_snapshot}
use Rattle.tracer_specification.proofs.Families.{set-at, at-replicate}
use Rattle.tracer_specification.proofs.PipeReads.{is_same-self}
use Rattle.tracer_specification.proofs.Sides.{rings-stay, side-has_all_cpus}
use Rattle.history_laws.specs.AccountedFor.{empties_live, empties_spare, is_recorded_on}
use Rattle.history_laws.specs.ReadOnce.{taken_by}
use Rattle.history_laws.proofs.RingReads.{IsReadOnly, reads-only, reads-then, same-events}

-- ---- what a request may do to a ring

-- it takes what pipes show of it, or nothing
pub record IsRead (g : Config) (instance : Option (List ℕ)) (cpu : ℕ) (past : List Request) (request : Request) (old new : List ring.Event) : Type 0 where
  pub keeps : empties_live instance cpu request ≡ false
  pub taken : map (on_cpu cpu) (readings_of g.pages g.page_bytes old) ≡ taken_by g instance cpu past request ++ map (on_cpu cpu) (readings_of g.pages g.page_bytes new)
  pub only : IsReadOnly g.pages g.page_bytes old new
  pub unrecorded : cpu < g.cpus → is_recorded_on instance cpu past (emitted past request) ≡ false

-- it puts the record of an emission
pub record IsPut (g : Config) (instance : Option (List ℕ)) (cpu : ℕ) (past : List Request) (request : Request) (old new : List ring.Event) : Type 0 where
  pub keeps : empties_live instance cpu request ≡ false
  pub e : Emitted
  pub overwrite : Bool
  pub emission : emitted past request ≡ Some e
  pub recorded : is_recorded_on instance cpu past (emitted past request) ≡ true
  pub none : taken_by g instance cpu past request ≡ []
  pub is : new ≡ old ++ ring.Put (emitted_bytes e) overwrite ∷ []

-- or it empties it
pub record IsEmptied (g : Config) (instance : Option (List ℕ)) (cpu : ℕ) (past : List Request) (request : Request) (new : List ring.Event) : Type 0 where
  pub empties : empties_live instance cpu request ≡ true
  pub none : taken_by g instance cpu past request ≡ []
  pub is : new ≡ []

abbrev pub IsStep : Config → Option (List ℕ) → ℕ → List Request → Request → List ring.Event → List ring.Event → Type 0
IsStep g instance cpu past request old new =
    IsRead g instance cpu past request old new ⊎ (IsPut g instance cpu past request old new ⊎ IsEmptied g instance cpu past request new)

stays : (g : Config) (instance : Option (List ℕ)) (cpu : ℕ) (past : List Request) (request : Request) (old new : List ring.Event)
    → empties_live instance cpu request ≡ false → taken_by g instance cpu past request ≡ []
    → (cpu < g.cpus → is_recorded_on instance cpu past (emitted past request) ≡ false) → new ≡ old → IsStep g instance cpu past request old new
stays g instance cpu past request old new keeps none unrecorded same = inl (record {
  keeps = keeps;
  taken = ap (λ (es : List ring.Event). map (on_cpu cpu) (readings_of g.pages g.page_bytes es)) (sym same)
      ∙ ap (λ (rs : List CpuReading). rs ++ map (on_cpu cpu) (readings_of g.pages g.page_bytes new)) (sym none);
  only = same-events g.pages g.page_bytes old new same;
  unrecorded = unrecorded;
})

-- ---- reads of pipes

only-with_takes : LeastIsRead → (pages page_bytes reads other cpu : ℕ) (family : List (List ring.Event))
    → IsReadOnly pages page_bytes (events_of family cpu) (events_of (with_events other (replicate reads ring.Take) family) cpu)
only-with_takes least pages page_bytes reads other cpu family = by (set-at family other cpu (events_of family other ++ takes) [])
  where
    takes : List ring.Event
    takes = replicate reads ring.Take

    by : (events_of (with_events other takes family) cpu ≡ events_of family cpu)
        ⊎ ((cpu ≡ other) × (events_of (with_events other takes family) cpu ≡ events_of family other ++ takes))
        → IsReadOnly pages page_bytes (events_of family cpu) (events_of (with_events other takes family) cpu)
    by (inl e) = same-events pages page_bytes (events_of family cpu) (events_of (with_events other takes family) cpu) e
    by (inr e) =
        let here : events_of (with_events other takes family) cpu ≡ events_of family cpu ++ takes
        = e.1 ∙ ap (λ (n : ℕ). events_of family n ++ takes) (sym e.0) in
        subst (IsReadOnly pages page_bytes (events_of family cpu)) (sym here) (reads-only least pages page_bytes (events_of family cpu) reads)

only-consumed : LeastIsRead → (pages page_bytes reads cpu : ℕ) (family : List (List ring.Event))
    → IsReadOnly pages page_bytes (events_of family cpu) (events_of (consume_any pages page_bytes reads family).family cpu)
only-consumed least pages page_bytes reads cpu family =
    consumed_by_reads pages page_bytes (λ n before after. IsReadOnly pages page_bytes (events_of before cpu) (events_of after.family cpu))
    (λ before. same-events pages page_bytes (events_of before cpu) (events_of before cpu) refl)
    (λ n before e. same-events pages page_bytes (events_of before cpu) (events_of before cpu) refl)
    (λ n before c e rest.
    reads-then pages page_bytes (events_of before cpu) (events_of (read_on c.cpu before) cpu)
    (events_of (consume_any pages page_bytes n (read_on c.cpu before)).family cpu) (only-with_takes least pages page_bytes 1 c.cpu cpu before) rest)
    reads family

-- a read of the instance's file, whatever it was called by
after-own : (g : Config) (past : List Request) (instance : Option (List ℕ)) (file : Option File) (limit : Option ℕ)
    → rings g instance (ReadFile instance file limit ∷ past) ≡ rings_after_read g limit file (rings g instance past)
after-own g past instance file limit =
    (rings-stay g instance past (ReadFile instance file limit) refl refl).live
    ∙ ap (λ (same : Bool). if same then rings_after_read g limit file (rings g instance past) else rings g instance past) (is_same-self instance)

pub record AreConsumed : Type 0 where
  pub all : WholePipeReadsConsumeWhatTheyShow
  pub one : PipeReadsConsumeWhatTheyShow
  pub least : LeastIsRead

read-step : AreConsumed → (g : Config) (instance other : Option (List ℕ)) (cpu : ℕ) (past : List Request) (file : Option File) (limit : Option ℕ)
    → (same : Bool) → is_same instance other ≡ same
    → IsStep g instance cpu past (ReadFile other file limit) (events_of (rings g instance past) cpu)
    (events_of (if same then rings_after_read g limit file (rings g instance past) else rings g instance past) cpu)
read-step consumed g instance other cpu past (Some (OfInstance top.TracePipe)) limit true same = inl (record {
  keeps = refl;
  taken = rw same (consumed.all g past instance cpu limit
      ∙ ap (λ (f : List (List ring.Event)). those_of cpu (pipe_read g limit (rings g instance past)).taken ++ map (on_cpu cpu) (cpu_readings g.pages g.page_bytes f cpu))
      (after-own g past instance (Some (OfInstance top.TracePipe)) limit));
  only = only-consumed consumed.least g.pages g.page_bytes
      (up_to_limit limit (kept_count g.pages g.page_bytes (rings g instance past))) cpu (rings g instance past);
  unrecorded = λ inside. refl;
})
read-step consumed g instance other cpu past (Some (OfCpu of_cpu per_cpu.TracePipe)) limit true same = inl (record {
  keeps = refl;
  taken = rw same (consumed.one g past instance of_cpu cpu limit
      ∙ ap (λ (f : List (List ring.Event)). those_of cpu (cpu_pipe_read g of_cpu limit (rings g instance past)).taken ++ map (on_cpu cpu) (cpu_readings g.pages g.page_bytes f cpu))
      (after-own g past instance (Some (OfCpu of_cpu per_cpu.TracePipe)) limit));
  only = only-with_takes consumed.least g.pages g.page_bytes
      (up_to_limit limit (length (cpu_readings g.pages g.page_bytes (rings g instance past) of_cpu))) of_cpu cpu (rings g instance past);
  unrecorded = λ inside. refl;
})
read-step consumed g instance other cpu past (Some (OfInstance top.TracePipe)) limit false same =
    stays g instance cpu past (ReadFile other (Some (OfInstance top.TracePipe)) limit) (events_of (rings g instance past) cpu)
    (events_of (rings g instance past) cpu) refl (rw same refl) (λ inside. refl) refl
read-step consumed g instance other cpu past (Some (OfCpu of_cpu per_cpu.TracePipe)) limit false same =
    stays g instance cpu past (ReadFile other (Some (OfCpu of_cpu per_cpu.TracePipe)) limit) (events_of (rings g instance past) cpu)
    (events_of (rings g instance past) cpu) refl (rw same refl) (λ inside. refl) refl
read-step consumed g instance other cpu past file limit true same =
    stays g instance cpu past (ReadFile other file limit) (events_of (rings g instance past) cpu) (events_of (rings g instance past) cpu) refl refl (λ inside. refl) refl
read-step consumed g instance other cpu past file limit false same =
    stays g instance cpu past (ReadFile other file limit) (events_of (rings g instance past) cpu) (events_of (rings g instance past) cpu) refl refl (λ inside. refl) refl

-- ---- writes

cleared-own : (cpu : ℕ) (family : List (List ring.Event)) → events_of (with_cleared cpu family) cpu ≡ []
cleared-own cpu [] = refl
cleared-own zero (events ∷ family) = refl
cleared-own (suc cpu) (events ∷ family) = cleared-own cpu family

cleared-other : (cpu other : ℕ) (family : List (List ring.Event)) → (other == cpu) ≡ false → events_of (with_cleared other family) cpu ≡ events_of family cpu
cleared-other cpu other family apart = by (set-at family other cpu [] [])
  where
    by : (events_of (with_cleared other family) cpu ≡ events_of family cpu) ⊎ ((cpu ≡ other) × (events_of (with_cleared other family) cpu ≡ []))
        → events_of (with_cleared other family) cpu ≡ events_of family cpu
    by (inl e) = e
    by (inr e) = absurd (false≢true (sym apart ∙ eq-eqb other cpu (sym e.0)))

keeps-elsewhere : (instance other : Option (List ℕ)) (cpu : ℕ) (append : Bool) (file : Option File) (text : List ℕ) → is_same instance other ≡ false
    → empties_live instance cpu (WriteFile other file append text) ≡ false
keeps-elsewhere instance other cpu append (Some (OfInstance top.Trace)) text apart = rw apart refl
keeps-elsewhere instance other cpu append (Some (OfCpu of_cpu per_cpu.Trace)) text apart = rw apart refl
keeps-elsewhere instance other cpu append file text apart = refl

write-own : (g : Config) (instance other : Option (List ℕ)) (cpu : ℕ) (past : List Request) (append : Bool) (file : Option File) (text : List ℕ)
    (family : List (List ring.Event)) → is_same instance other ≡ true
    → IsStep g instance cpu past (WriteFile other file append text) (events_of family cpu) (events_of (rings_after_write append file family) cpu)
write-own g instance other cpu past false (Some (OfInstance top.Trace)) text family same = inr (inr (record {
  empties = rw same refl;
  none = refl;
  is = let none : List ring.Event = [] in at-replicate (length family) cpu none;
}))
write-own g instance other cpu past false (Some (OfCpu of_cpu per_cpu.Trace)) text family same = by (of_cpu == cpu) refl
  where
    request : Request
    request = WriteFile other (Some (OfCpu of_cpu per_cpu.Trace)) false text

    by : (here : Bool) → (of_cpu == cpu) ≡ here
        → IsStep g instance cpu past request (events_of family cpu) (events_of (with_cleared of_cpu family) cpu)
    by true is = inr (inr (record {
      empties = rw (same, is) refl;
      none = refl;
      is = ap (λ (n : ℕ). events_of (with_cleared n family) cpu) (eqb-true of_cpu cpu is) ∙ cleared-own cpu family;
    }))
    by false is =
        stays g instance cpu past request (events_of family cpu) (events_of (with_cleared of_cpu family) cpu) (rw (same, is) refl) refl (λ inside. refl)
        (cleared-other cpu of_cpu family is)
write-own g instance other cpu past true (Some (OfInstance top.Trace)) text family same =
    stays g instance cpu past (WriteFile other (Some (OfInstance top.Trace)) true text) (events_of family cpu) (events_of family cpu) (rw same refl) refl (λ inside. refl) refl
write-own g instance other cpu past true (Some (OfCpu of_cpu per_cpu.Trace)) text family same =
    stays g instance cpu past (WriteFile other (Some (OfCpu of_cpu per_cpu.Trace)) true text) (events_of family cpu) (events_of family cpu) (rw same refl) refl (λ inside. refl) refl
write-own g instance other cpu past append file text family same =
    stays g instance cpu past (WriteFile other file append text) (events_of family cpu) (events_of family cpu) refl refl (λ inside. refl) refl

write-step : (g : Config) (instance other : Option (List ℕ)) (cpu : ℕ) (past : List Request) (append : Bool) (file : Option File) (text : List ℕ)
    (family : List (List ring.Event)) → (same : Bool) → is_same instance other ≡ same
    → IsStep g instance cpu past (WriteFile other file append text) (events_of family cpu)
    (events_of (if same then rings_after_write append file family else family) cpu)
write-step g instance other cpu past append file text family true same = write-own g instance other cpu past append file text family same
write-step g instance other cpu past append file text family false same =
    stays g instance cpu past (WriteFile other file append text) (events_of family cpu) (events_of family cpu)
    (keeps-elsewhere instance other cpu append file text same) refl (λ inside. refl) refl

-- ---- emissions

none-recorded : (here : Bool) → (here && false) ≡ false
none-recorded true = refl
none-recorded false = refl

emission-step : (g : Config) (instance : Option (List ℕ)) (cpu : ℕ) (past : List Request) (name : List ℕ) (event_cpu : ℕ) (pid : ℤ) (pairs : List Pair)
    (family : List (List ring.Event)) → length family ≡ g.cpus
    → let request = Emission name event_cpu pid pairs in
    IsStep g instance cpu past request (events_of family cpu) (events_of (with_emitted instance past (emitted past request) family) cpu)
emission-step g instance cpu past name event_cpu pid pairs family all = by (emitted past request) refl
  where
    request : Request
    request = Emission name event_cpu pid pairs

    put : Emitted → List ring.Event
    put e = ring.Put (emitted_bytes e) (overwrites instance past) ∷ []

    recorded : (e : Emitted) → emitted past request ≡ Some e
        → is_recorded_on instance cpu past (emitted past request) ≡ (e.cpu == cpu && is_recorded instance past e)
    recorded e is = ap (is_recorded_on instance cpu past) is

    -- there is no such CPU
    beyond : (e : Emitted) → length family ≤ cpu → events_of (with_events cpu (put e) family) cpu ≡ events_of family cpu
    beyond e out =
        let more = events_of family cpu ++ put e in
        get_or_past (set family cpu more) cpu [] (omega (arith, length-set family cpu more, out)) ∙ sym (get_or_past family cpu [] out)

    by_inside : (e : Emitted) → emitted past request ≡ Some e → is_recorded instance past e ≡ true → e.cpu ≡ cpu → (inside : Bool)
        → nat_lt cpu (length family) ≡ inside → IsStep g instance cpu past request (events_of family cpu) (events_of (with_events cpu (put e) family) cpu)
    by_inside e is on same true within = inr (inl (record {
      keeps = refl;
      e = e;
      overwrite = overwrites instance past;
      emission = is;
      recorded = recorded e is ∙ rw (eq-eqb e.cpu cpu same, on) refl;
      none = refl;
      is = events_of-with_events cpu (put e) family (ltb-true cpu (length family) within);
    }))
    by_inside e is on same false within =
        let out = ltb-false cpu (length family) within in
        stays g instance cpu past request (events_of family cpu) (events_of (with_events cpu (put e) family) cpu) refl refl
        (λ inside. absurd (omega (arith, all, out, inside))) (beyond e out)

    by_place : (e : Emitted) → emitted past request ≡ Some e → is_recorded instance past e ≡ true → (here : Bool) → (e.cpu == cpu) ≡ here
        → IsStep g instance cpu past request (events_of family cpu) (events_of (with_events e.cpu (put e) family) cpu)
    by_place e is on true here =
        let same : e.cpu ≡ cpu = eqb-true e.cpu cpu here in
        subst (λ (n : ℕ). IsStep g instance cpu past request (events_of family cpu) (events_of (with_events n (put e) family) cpu)) (sym same)
        (by_inside e is on same (nat_lt cpu (length family)) refl)
    by_place e is on false here =
        stays g instance cpu past request (events_of family cpu) (events_of (with_events e.cpu (put e) family) cpu) refl refl
        (λ inside. recorded e is ∙ rw here refl)
        (events_of-other e.cpu cpu (put e) family (λ s. absurd (false≢true (sym here ∙ eq-eqb e.cpu cpu (sym s)))))

    by_on : (e : Emitted) → emitted past request ≡ Some e → (on : Bool) → is_recorded instance past e ≡ on
        → IsStep g instance cpu past request (events_of family cpu) (events_of (if on then with_events e.cpu (put e) family else family) cpu)
    by_on e is true on = by_place e is on (e.cpu == cpu) refl
    by_on e is false on =
        stays g instance cpu past request (events_of family cpu) (events_of family cpu) refl refl
        (λ inside. recorded e is ∙ rw on (none-recorded (e.cpu == cpu))) refl

    by : (e : Option Emitted) → emitted past request ≡ e
        → IsStep g instance cpu past request (events_of family cpu) (events_of (with_emitted instance past e family) cpu)
    by None is =
        stays g instance cpu past request (events_of family cpu) (events_of family cpu) refl refl (λ inside. ap (is_recorded_on instance cpu past) is) refl
    by (Some e) is = by_on e is (is_recorded instance past e) refl

-- ---- either side

-- the side that is live
pub live-step : AreConsumed → (g : Config) (instance : Option (List ℕ)) (cpu : ℕ) (past : List Request) (request : Request) → makes instance request ≡ false
    → IsStep g instance cpu past request (events_of (rings g instance past) cpu)
    (events_of (rings_after g instance past request (rings g instance past)) cpu)
live-step consumed g instance cpu past (WriteFile other file append text) alive =
    write-step g instance other cpu past append file text (rings g instance past) (is_same instance other) refl
live-step consumed g instance cpu past (ReadFile other file limit) alive =
    read-step consumed g instance other cpu past file limit (is_same instance other) refl
live-step consumed g instance cpu past (Emission name event_cpu pid pairs) alive =
    emission-step g instance cpu past name event_cpu pid pairs (rings g instance past) (side-has_all_cpus g instance (live_side instance past) past)
live-step consumed g instance cpu past (MakeInstance name) alive =
    stays g instance cpu past (MakeInstance name) (events_of (rings g instance past) cpu)
    (events_of (rings_after g instance past (MakeInstance name) (rings g instance past)) cpu) refl refl (λ inside. refl) (rw alive refl)
live-step consumed g instance cpu past (RemoveInstance name) alive =
    stays g instance cpu past (RemoveInstance name) (events_of (rings g instance past) cpu) (events_of (rings g instance past) cpu) refl refl (λ inside. refl) refl

-- the other one stays, or is emptied
abbrev pub IsSpareStep : Option (List ℕ) → Request → List ring.Event → List ring.Event → Type 0
IsSpareStep instance request old new =
    ((empties_spare instance request ≡ false) × (new ≡ old)) ⊎ ((empties_spare instance request ≡ true) × (new ≡ []))

pub spare-step : (g : Config) (instance : Option (List ℕ)) (cpu : ℕ) (request : Request) (family : List (List ring.Event)) → makes instance request ≡ false
    → IsSpareStep instance request (events_of family cpu) (events_of (spare_after g instance request family) cpu)
spare-step g instance cpu (WriteFile other (Some (OfInstance top.Snapshot)) append text) family alive =
    by (is_same instance other && clears_spare (written_snapshot text))
  where
    by : (clears : Bool) → ((clears ≡ false) × (events_of (if clears then all_cleared family else family) cpu ≡ events_of family cpu))
        ⊎ ((clears ≡ true) × (events_of (if clears then all_cleared family else family) cpu ≡ []))
    by true = let none : List ring.Event = [] in inr (refl, at-replicate (length family) cpu none)
    by false = inl (refl, refl)
spare-step g instance cpu (MakeInstance name) family alive = inl (refl, rw alive refl)
spare-step g instance cpu request family alive = inl (refl, refl)
