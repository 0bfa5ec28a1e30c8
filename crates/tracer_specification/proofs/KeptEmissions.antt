-- Each record that a ring keeps was brought by an emission.
use Rattle.std.proofs.Common.{◌≡◌, ◌⊎◌, inl, inr, ℕ, suc, ◌-◌, ◌^◌, ◌<◌, ◌==◌, Bool, true, false, ◌&&◌, ◌||◌, if◌then◌else◌, List, [], ◌∷◌, ◌++◌, length, get_or, bytes_eq, All, Option, None, Some, refl, sym, ap, ◌∙◌, subst, arith, length-append, eq-eqb, eqb-true}
use Rattle.std.specs.List.{AllByRecursion, list_any}
use Rattle.std.proofs.lemmas.Bool.{or_cases, and_parts, false≢true}
use Rattle.std.proofs.lemmas.List.Elements.{All-from_recursion}
use Rattle.std.proofs.lemmas.Slice.Eq.{bytes_eq-Decides}
use Rattle.page_ring.specs.Account.{Reading}
use Rattle.page_ring.specs.Events as ring
use Rattle.page_ring.specs.Laws.{puts_pass, KeptWerePut}
use Rattle.trace_buffer.specs.Families.{events_of, with_events, all_cleared, cpu_readings, kept_count}
use Rattle.record_text.specs.RecordText.{record_line}
use Rattle.trace_command.specs.Configs.{IsInRange}
use Rattle.trace_command.specs.Paths.{File, OfInstance, OfCpu}
use Rattle.trace_command.specs.declared.file_name.CpuFile.TheVariants as per_cpu
use Rattle.trace_command.specs.declared.file_name.TopFile.TheVariants as top
use Rattle.tracer_specification.specs.Pasts.{AreDone}
use Rattle.tracer_specification.specs.Laws.{ShowsEmission, KeptRecordsShowEmissions, KeptSpareRecordsShowEmissions}
use Rattle.trace_command.specs.Requests.{Request, Emission, MakeInstance, RemoveInstance, WriteFile, ReadFile, FitsItsTypes}
use Rattle.tracer_specification.specs.Emissions.{Emitted, emitted, emitted_bytes, is_recorded}
use Rattle.tracer_specification.specs.Rings.{up_to_limit, with_emitted, rings_after_write, rings_after_read, rings_after, spare_after, rings_of_side}
use Rattle.tracer_specification.specs.Settings.{is_same, makes, declared_events, overwrites}
use Rattle.tracer_specification.specs.Snapshots.{clears_spare, live_side, written_snapshot}
use Rattle.trace_command.specs.declared.command.Config.{Config}
use Rattle.tracer_specification.proofs.Families.{with_events-are, with_takes-are, with_cleared-are, replicate-are_none, consumed-are}
use Rattle.tracer_specification.proofs.ShownRecords.{records_show_their_rows}
use Rattle.tracer_specification.proofs.Sides.{side-made}

-- ---- what was put

-- the record that an emission brings to a CPU's ring of an instance
abbrev brought_by : Option (List ℕ) → ℕ → List Request → Option Emitted → Option (List ℕ)
brought_by instance cpu past None = None
brought_by instance cpu past (Some e) = if e.cpu == cpu && is_recorded instance past e then Some (emitted_bytes e) else None

-- whether bytes are those of a record
abbrev is_that : List ℕ → Option (List ℕ) → Bool
is_that bytes None = false
is_that bytes (Some other) = bytes_eq bytes other

-- whether some request of the instance's life brought the bytes
abbrev was_brought : Option (List ℕ) → ℕ → List Request → List ℕ → Bool
was_brought instance cpu [] bytes = false
was_brought instance cpu (request ∷ past) bytes =
    if makes instance request then false
    else is_that bytes (brought_by instance cpu past (emitted past request)) || was_brought instance cpu past bytes

-- a read, or a put that was brought
abbrev IsBrought : Option (List ℕ) → ℕ → List Request → ring.Event → Type 0
IsBrought instance cpu past e = puts_pass (was_brought instance cpu past) e ≡ true

abbrev AreBrought : Option (List ℕ) → ℕ → List Request → List ring.Event → Type 0
AreBrought instance cpu past events = AllByRecursion (IsBrought instance cpu past) events

or-right : (x y : Bool) → y ≡ true → (x || y) ≡ true
or-right true y h = refl
or-right false y h = h

older-are : (instance : Option (List ℕ)) (cpu : ℕ) (past : List Request) (request : Request) (events : List ring.Event) → makes instance request ≡ false
    → AreBrought instance cpu past events → AreBrought instance cpu (request ∷ past) events
older-are instance cpu past request [] alive are = tt
older-are instance cpu past request (ring.Put bytes overwrite ∷ events) alive are = (
  rw alive (or-right (is_that bytes (brought_by instance cpu past (emitted past request))) (was_brought instance cpu past bytes) are.0),
  older-are instance cpu past request events alive are.1,
)
older-are instance cpu past request (ring.Take ∷ events) alive are = (refl, older-are instance cpu past request events alive are.1)

-- ---- what each request leaves

emitted-are : (instance : Option (List ℕ)) (cpu : ℕ) (past : List Request) (request : Request) (family : List (List ring.Event))
    → makes instance request ≡ false → AreBrought instance cpu (request ∷ past) (events_of family cpu)
    → AreBrought instance cpu (request ∷ past) (events_of (with_emitted instance past (emitted past request) family) cpu)
emitted-are instance cpu past request family alive all = by (emitted past request) refl
  where
    is_put : (e : Emitted) → emitted past request ≡ Some e → is_recorded instance past e ≡ true → cpu ≡ e.cpu
        → was_brought instance cpu (request ∷ past) (emitted_bytes e) ≡ true
    is_put e is on same =
        let there : (e.cpu == cpu) ≡ true = eq-eqb e.cpu cpu (sym same) in
        let bytes : bytes_eq (emitted_bytes e) (emitted_bytes e) ≡ true = (bytes_eq-Decides (emitted_bytes e) (emitted_bytes e)).1 refl in
        rw (alive, is, there, on, bytes) refl

    by_on : (e : Emitted) → emitted past request ≡ Some e → (on : Bool) → is_recorded instance past e ≡ on
        → AreBrought instance cpu (request ∷ past)
        (events_of (if on then with_events e.cpu (ring.Put (emitted_bytes e) (overwrites instance past) ∷ []) family else family) cpu)
    by_on e is true on =
        with_events-are (IsBrought instance cpu (request ∷ past)) family e.cpu cpu (ring.Put (emitted_bytes e) (overwrites instance past) ∷ []) all
        (λ same. (is_put e is on same, tt))
    by_on e is false on = all

    by : (e : Option Emitted) → emitted past request ≡ e
        → AreBrought instance cpu (request ∷ past) (events_of (with_emitted instance past e family) cpu)
    by None is = all
    by (Some e) is = by_on e is (is_recorded instance past e) refl

written-are : (P : ring.Event → Type 0) (append : Bool) (file : Option File) (family : List (List ring.Event)) (cpu : ℕ)
    → AllByRecursion P (events_of family cpu) → AllByRecursion P (events_of (rings_after_write append file family) cpu)
written-are P false (Some (OfInstance top.Trace)) family cpu all = replicate-are_none P (length family) cpu
written-are P false (Some (OfCpu other per_cpu.Trace)) family cpu all = with_cleared-are P family other cpu all
written-are P append file family cpu all = all

read-are : (P : ring.Event → Type 0) (g : Config) (limit : Option ℕ) (file : Option File) (family : List (List ring.Event)) (cpu : ℕ) → P ring.Take
    → AllByRecursion P (events_of family cpu) → AllByRecursion P (events_of (rings_after_read g limit file family) cpu)
read-are P g limit (Some (OfInstance top.TracePipe)) family cpu take all =
    consumed-are P g.pages g.page_bytes (up_to_limit limit (kept_count g.pages g.page_bytes family)) family cpu take all
read-are P g limit (Some (OfCpu other per_cpu.TracePipe)) family cpu take all =
    with_takes-are P family other cpu (up_to_limit limit (length (cpu_readings g.pages g.page_bytes family other))) take all
read-are P g limit file family cpu take all = all

-- of two families one
either-are : (P : ring.Event → Type 0) (one : Bool) (family other : List (List ring.Event)) (cpu : ℕ) → AllByRecursion P (events_of family cpu)
    → AllByRecursion P (events_of other cpu) → AllByRecursion P (events_of (if one then family else other) cpu)
either-are P true family other cpu all others = all
either-are P false family other cpu all others = others

-- in a life of the instance
after-are : (g : Config) (instance : Option (List ℕ)) (cpu : ℕ) (past : List Request) (request : Request) (family : List (List ring.Event))
    → makes instance request ≡ false → AreBrought instance cpu (request ∷ past) (events_of family cpu)
    → AreBrought instance cpu (request ∷ past) (events_of (rings_after g instance past request family) cpu)
after-are g instance cpu past (WriteFile other file append text) family alive all =
    either-are (IsBrought instance cpu (WriteFile other file append text ∷ past)) (is_same instance other) (rings_after_write append file family) family cpu
    (written-are (IsBrought instance cpu (WriteFile other file append text ∷ past)) append file family cpu all) all
after-are g instance cpu past (ReadFile other file limit) family alive all =
    either-are (IsBrought instance cpu (ReadFile other file limit ∷ past)) (is_same instance other) (rings_after_read g limit file family) family cpu
    (read-are (IsBrought instance cpu (ReadFile other file limit ∷ past)) g limit file family cpu refl all) all
after-are g instance cpu past (Emission name event_cpu pid pairs) family alive all =
    emitted-are instance cpu past (Emission name event_cpu pid pairs) family alive all
after-are g instance cpu past (MakeInstance name) family alive all = rw alive all
after-are g instance cpu past (RemoveInstance name) family alive all = all

-- what `snapshot` leaves of the spare
spare-are : (g : Config) (instance : Option (List ℕ)) (cpu : ℕ) (past : List Request) (request : Request) (family : List (List ring.Event))
    → makes instance request ≡ false → AreBrought instance cpu (request ∷ past) (events_of family cpu)
    → AreBrought instance cpu (request ∷ past) (events_of (spare_after g instance request family) cpu)
spare-are g instance cpu past (WriteFile other (Some (OfInstance top.Snapshot)) append text) family alive all =
    let P = IsBrought instance cpu (WriteFile other (Some (OfInstance top.Snapshot)) append text ∷ past) in
    either-are P (is_same instance other && clears_spare (written_snapshot text)) (all_cleared family) family cpu
    (replicate-are_none P (length family) cpu) all
spare-are g instance cpu past (MakeInstance name) family alive all = rw alive all
spare-are g instance cpu past request family alive all = all

-- what either side keeps was put there by emissions that the instance recorded in this life
rings-are : (g : Config) (instance : Option (List ℕ)) (cpu side : ℕ) (past : List Request)
    → AreBrought instance cpu past (events_of (rings_of_side g instance side past) cpu)
rings-are g instance cpu side [] = replicate-are_none (IsBrought instance cpu []) g.cpus cpu
rings-are g instance cpu side (request ∷ past) = by (makes instance request) refl (rings-are g instance cpu side past)
  where
    family : List (List ring.Event)
    family = rings_of_side g instance side past

    by : (new : Bool) → makes instance request ≡ new → AreBrought instance cpu past (events_of family cpu)
        → AreBrought instance cpu (request ∷ past) (events_of (rings_of_side g instance side (request ∷ past)) cpu)
    by true new before =
        subst (λ (f : List (List ring.Event)). AreBrought instance cpu (request ∷ past) (events_of f cpu)) (sym (side-made g instance side past request new))
        (replicate-are_none (IsBrought instance cpu (request ∷ past)) g.cpus cpu)
    by false alive before =
        let older = older-are instance cpu past request (events_of family cpu) alive before in
        either-are (IsBrought instance cpu (request ∷ past)) (side == live_side instance past) (rings_after g instance past request family)
        (spare_after g instance request family) cpu
        (after-are g instance cpu past request family alive older) (spare-are g instance cpu past request family alive older)

-- ---- the emission that brought it

-- an emission among the requests, in the instance's life
record IsEmitted (instance : Option (List ℕ)) (cpu : ℕ) (past : List Request) (bytes : List ℕ) : Type 0 where
  later : List Request
  request : Request
  before : List Request
  cut : past ≡ later ++ request ∷ before
  alive : list_any (makes instance) later ≡ false
  e : Emitted
  emission : emitted before request ≡ Some e
  there : e.cpu ≡ cpu
  recorded : is_recorded instance before e ≡ true
  written : bytes ≡ emitted_bytes e

here-emitted : (instance : Option (List ℕ)) (cpu : ℕ) (request : Request) (past : List Request) (bytes : List ℕ)
    → is_that bytes (brought_by instance cpu past (emitted past request)) ≡ true
    → IsEmitted instance cpu (request ∷ past) bytes
here-emitted instance cpu request past bytes is = by (emitted past request) refl is
  where
    by_on : (e : Emitted) → emitted past request ≡ Some e → (on : Bool)
        → (e.cpu == cpu && is_recorded instance past e) ≡ on → is_that bytes (if on then Some (emitted_bytes e) else None) ≡ true
        → IsEmitted instance cpu (request ∷ past) bytes
    by_on e emission false test h = absurd (false≢true h)
    by_on e emission true test h =
        let parts = and_parts (e.cpu == cpu) (is_recorded instance past e) test in
        record {
          later = [];
          request = request;
          before = past;
          cut = refl;
          alive = refl;
          e = e;
          emission = emission;
          there = eqb-true e.cpu cpu parts.0;
          recorded = parts.1;
          written = (bytes_eq-Decides bytes (emitted_bytes e)).0 h;
        }

    by : (e : Option Emitted) → emitted past request ≡ e
        → is_that bytes (brought_by instance cpu past e) ≡ true → IsEmitted instance cpu (request ∷ past) bytes
    by None emission h = absurd (false≢true h)
    by (Some e) emission h = by_on e emission (e.cpu == cpu && is_recorded instance past e) refl h

later-emitted : (instance : Option (List ℕ)) (cpu : ℕ) (request : Request) (past : List Request) (bytes : List ℕ) → makes instance request ≡ false
    → IsEmitted instance cpu past bytes → IsEmitted instance cpu (request ∷ past) bytes
later-emitted instance cpu request past bytes alive found = record {
  later = request ∷ found.later;
  request = found.request;
  before = found.before;
  cut = ap (λ (rs : List Request). request ∷ rs) found.cut;
  alive = rw (alive, found.alive) refl;
  e = found.e;
  emission = found.emission;
  there = found.there;
  recorded = found.recorded;
  written = found.written;
}

brought-emitted : (instance : Option (List ℕ)) (cpu : ℕ) (past : List Request) (bytes : List ℕ) → was_brought instance cpu past bytes ≡ true
    → IsEmitted instance cpu past bytes
brought-emitted instance cpu [] bytes is = absurd (false≢true is)
brought-emitted instance cpu (request ∷ past) bytes is =
    by_life (makes instance request) refl is (brought-emitted instance cpu past bytes)
  where
    here : Bool
    here = is_that bytes (brought_by instance cpu past (emitted past request))

    before : Bool
    before = was_brought instance cpu past bytes

    by : makes instance request ≡ false → (here ≡ true) ⊎ (before ≡ true) → (before ≡ true → IsEmitted instance cpu past bytes)
        → IsEmitted instance cpu (request ∷ past) bytes
    by alive (inl this) others = here-emitted instance cpu request past bytes this
    by alive (inr older) others = later-emitted instance cpu request past bytes alive (others older)

    by_life : (new : Bool) → makes instance request ≡ new → (if new then false else here || before) ≡ true
        → (before ≡ true → IsEmitted instance cpu past bytes) → IsEmitted instance cpu (request ∷ past) bytes
    by_life true new h others = absurd (false≢true h)
    by_life false alive h others = by alive (or_cases here before h) others

-- ---- its line

-- the requests before some request were done, too
done-before : (g : Config) (later before : List Request) → AreDone g (later ++ before) → AreDone g before
done-before g [] before done = done
done-before g (request ∷ later) before done = done-before g later before done.1

fits-there : (later : List Request) (request : Request) (before : List Request) → All FitsItsTypes (later ++ request ∷ before) → FitsItsTypes request
fits-there [] request before all = all 0 request (omega arith)
fits-there (first ∷ later) request before all = fits-there later request before (λ k d within. all (suc k) d (omega (arith, within)))

emitted-shows : (g : Config) (past : List Request) (instance : Option (List ℕ)) (cpu : ℕ) (bytes : List ℕ) → IsInRange g → AreDone g past
    → length past < 2 ^ 64 → All FitsItsTypes past
    → IsEmitted instance cpu past bytes → ShowsEmission instance cpu past (record_line (declared_events past) cpu bytes)
emitted-shows g past instance cpu bytes in_range done short fits found =
    record {
      later = found.later;
      request = found.request;
      before = found.before;
      cut = found.cut;
      alive = found.alive;
      e = found.e;
      emission = found.emission;
      there = found.there;
      recorded = found.recorded;
      shown = ap (λ (rs : List Request). record_line (declared_events rs) cpu bytes) found.cut
          ∙ ap (record_line (declared_events whole) cpu) found.written
          ∙ ap (λ (c : ℕ). record_line (declared_events whole) c (emitted_bytes found.e)) (sym found.there)
          ∙ records_show_their_rows g found.request found.before found.later found.e in_range done_then.1 short_then
          (fits-there found.later found.request found.before (subst (All FitsItsTypes) found.cut fits)) found.emission;
    }
  where
    whole : List Request
    whole = found.later ++ found.request ∷ found.before

    done_then : AreDone g (found.request ∷ found.before)
    done_then = done-before g found.later (found.request ∷ found.before) (subst (AreDone g) found.cut done)

    short_then : length (found.request ∷ found.before) < 2 ^ 64
    short_then =
        let both = length-append found.later (found.request ∷ found.before) in
        let all = ap length found.cut in
        omega (arith, both, all, short)

side_records_show_emissions : KeptWerePut → (g : Config) (past : List Request) (instance : Option (List ℕ)) (side cpu : ℕ) → IsInRange g
    → AreDone g past → length past < 2 ^ 64 → All FitsItsTypes past
    → All (λ (r : Reading). ShowsEmission instance cpu past (record_line (declared_events past) cpu r.rec))
    (cpu_readings g.pages g.page_bytes (rings_of_side g instance side past) cpu)
side_records_show_emissions kept_were_put g past instance side cpu in_range done short fits = λ i r inside.
    let test : List ℕ → Bool = was_brought instance cpu past in
    let events : List ring.Event = events_of (rings_of_side g instance side past) cpu in
    let put : All (λ (e : ring.Event). puts_pass test e ≡ true) events =
    All-from_recursion (λ (e : ring.Event). puts_pass test e ≡ true) events (rings-are g instance cpu side past) in
    let readings = cpu_readings g.pages g.page_bytes (rings_of_side g instance side past) cpu in
    emitted-shows g past instance cpu (get_or readings i r).rec in_range done short fits
    (brought-emitted instance cpu past (get_or readings i r).rec (kept_were_put g.pages g.page_bytes events test put i r inside))

pub kept_records_show_emissions : KeptWerePut → KeptRecordsShowEmissions
kept_records_show_emissions kept_were_put g past instance cpu in_range done short fits =
    side_records_show_emissions kept_were_put g past instance (live_side instance past) cpu in_range done short fits

pub kept_spare_records_show_emissions : KeptWerePut → KeptSpareRecordsShowEmissions
kept_spare_records_show_emissions kept_were_put g past instance cpu in_range done short fits =
    side_records_show_emissions kept_were_put g past instance (1 - live_side instance past) cpu in_range done short fits
