-- What is kept after pipe reads.
use Rattle.std.proofs.Common.{◌≡◌, ℕ, zero, suc, ◌≤◌, ◌==◌, Bool, true, false, nat_lt, if◌then◌else◌, List, [], ◌∷◌, ◌++◌, length, map, replicate, set, take, None, Some, Option, refl, sym, ap, ◌∙◌, subst, arith, eq-eqb, eqb-true, ltb-true}
use Rattle.std.proofs.lemmas.List.{get_or_past, length-set}
use Rattle.std.proofs.lemmas.Bool.{ltb-false}
use Rattle.std.proofs.lemmas.Slice.Eq.{bytes_eq-Decides}
use Rattle.page_ring.specs.Account.{Reading, account, readings_of}
use Rattle.page_ring.specs.Cut.{cut}
use Rattle.page_ring.specs.Events.{Event, Take}
use Rattle.trace_buffer.specs.Families.{CpuReading, on_cpu, events_of, cpu_readings, kept_count}
use Rattle.trace_buffer.specs.Laws.{ReadsConsumeWhatTheyTake, CpuReadsConsumeWhatTheyTake, OtherCpusStay}
use Rattle.trace_buffer.specs.Orders.{taken_of_cpu, after_cpu_reads}
use Rattle.tracer_specification.specs.Laws.{those_of, PipeReadsConsumeWhatTheyShow, WholePipeReadsConsumeWhatTheyShow}
use Rattle.tracer_specification.specs.Rings.{up_to_limit, pipe_read, cpu_pipe_read, rings_after_read, rings}
use Rattle.tracer_specification.specs.Settings.{is_same}
use Rattle.trace_command.specs.Paths.{File, OfInstance, OfCpu}
use Rattle.trace_command.specs.Requests.{Request, ReadFile}
use Rattle.trace_command.specs.declared.command.Config.{Config}
use Rattle.trace_command.specs.declared.file_name.CpuFile.TheVariants as per_cpu
use Rattle.trace_command.specs.declared.file_name.TopFile.TheVariants as top
use Rattle.tracer_specification.proofs.Sides.{rings-stay}

-- ---- one CPU's readings among those of all

those_of-other : (cpu other : ℕ) (readings : List Reading) → (cpu == other) ≡ false → those_of other (map (on_cpu cpu) readings) ≡ []
those_of-other cpu other [] apart = refl
those_of-other cpu other (r ∷ readings) apart = rw apart (those_of-other cpu other readings apart)

those_of-same : (cpu : ℕ) (readings : List Reading) → those_of cpu (map (on_cpu cpu) readings) ≡ map (on_cpu cpu) readings
those_of-same cpu [] = refl
those_of-same cpu (r ∷ readings) =
    let same : (cpu == cpu) ≡ true = eq-eqb cpu cpu refl in
    rw same (ap (λ (rest : List CpuReading). on_cpu cpu r ∷ rest) (those_of-same cpu readings))

-- ---- reads of one CPU

none_kept : (pages page_bytes : ℕ) → readings_of pages page_bytes [] ≡ []
unfolding readings_of account cut
none_kept pages page_bytes = refl

take-none : {A : Type 0} (n : ℕ) → let none : List A = [] in take n none ≡ none
take-none zero = refl
take-none (suc n) = refl

-- what a CPU's ring kept, what reads of another CPU or of this one take of it, and what it then keeps
abbrev IsShown : ℕ → ℕ → ℕ → List (List Event) → ℕ → ℕ → Type 0
IsShown pages page_bytes cpu family reads other =
    map (on_cpu other) (cpu_readings pages page_bytes family other)
    ≡ those_of other (taken_of_cpu pages page_bytes cpu reads family)
    ++ map (on_cpu other) (cpu_readings pages page_bytes (after_cpu_reads cpu reads family) other)

-- there is no ring of this CPU
none-shown : (pages page_bytes cpu : ℕ) (family : List (List Event)) (reads : ℕ) → length family ≤ cpu → IsShown pages page_bytes cpu family reads cpu
none-shown pages page_bytes cpu family reads past =
    let before : events_of family cpu ≡ [] = get_or_past family cpu [] past in
    let more : List Event = events_of family cpu ++ replicate reads Take in
    let after : events_of (after_cpu_reads cpu reads family) cpu ≡ [] = get_or_past (set family cpu more) cpu [] (omega (arith, length-set family cpu more)) in
    rw (after, before, none_kept pages page_bytes, take-none reads) refl

one-shown : CpuReadsConsumeWhatTheyTake → OtherCpusStay → (pages page_bytes cpu : ℕ) (family : List (List Event)) (reads other : ℕ)
    → IsShown pages page_bytes cpu family reads other
one-shown consumed stay pages page_bytes cpu family reads other = by (cpu == other) refl
  where
    by_inside : (inside : Bool) → nat_lt cpu (length family) ≡ inside → IsShown pages page_bytes cpu family reads cpu
    by_inside true is =
        rw (those_of-same cpu (take reads (cpu_readings pages page_bytes family cpu)))
        (consumed pages page_bytes cpu reads family (ltb-true cpu (length family) is))
    by_inside false is = none-shown pages page_bytes cpu family reads (ltb-false cpu (length family) is)

    by : (same : Bool) → (cpu == other) ≡ same → IsShown pages page_bytes cpu family reads other
    by true is = subst (IsShown pages page_bytes cpu family reads) (eqb-true cpu other is) (by_inside (nat_lt cpu (length family)) refl)
    by false apart =
        let as_before : events_of (after_cpu_reads cpu reads family) other ≡ events_of family other =
        stay cpu other reads family (λ e. absurd (let h = eq-eqb cpu other (sym e) in cc)) in
        rw (those_of-other cpu other (take reads (cpu_readings pages page_bytes family cpu)) apart, as_before) refl

-- ---- the theorems

pub is_same-self : (instance : Option (List ℕ)) → is_same instance instance ≡ true
is_same-self None = refl
is_same-self (Some name) = (bytes_eq-Decides name name).1 refl

-- a read of a file of the instance neither makes it nor exchanges its sides
after_read : (g : Config) (past : List Request) (instance : Option (List ℕ)) (file : Option File) (limit : Option ℕ)
    → rings g instance (ReadFile instance file limit ∷ past) ≡ rings_after_read g limit file (rings g instance past)
after_read g past instance file limit =
    (rings-stay g instance past (ReadFile instance file limit) refl refl).live
    ∙ ap (λ (same : Bool). if same then rings_after_read g limit file (rings g instance past) else rings g instance past) (is_same-self instance)

pub pipe_reads_consume_what_they_show : CpuReadsConsumeWhatTheyTake → OtherCpusStay → PipeReadsConsumeWhatTheyShow
pipe_reads_consume_what_they_show consumed stay g past instance cpu other limit =
    let family = rings g instance past in
    one-shown consumed stay g.pages g.page_bytes cpu family (up_to_limit limit (length (cpu_readings g.pages g.page_bytes family cpu))) other
    ∙ ap (λ (after : List (List Event)). those_of other (cpu_pipe_read g cpu limit family).taken
    ++ map (on_cpu other) (cpu_readings g.pages g.page_bytes after other)) (sym (after_read g past instance (Some (OfCpu cpu per_cpu.TracePipe)) limit))

pub whole_pipe_reads_consume_what_they_show : ReadsConsumeWhatTheyTake → WholePipeReadsConsumeWhatTheyShow
whole_pipe_reads_consume_what_they_show consumed g past instance cpu limit =
    let family = rings g instance past in
    consumed g.pages g.page_bytes (up_to_limit limit (kept_count g.pages g.page_bytes family)) cpu family
    ∙ ap (λ (after : List (List Event)). those_of cpu (pipe_read g limit family).taken
    ++ map (on_cpu cpu) (cpu_readings g.pages g.page_bytes after cpu)) (sym (after_read g past instance (Some (OfInstance top.TracePipe)) limit))
