-- What the words of the answers mean after requests that were done, and after any requests what pipe reads consume and which records snapshots move. The
-- newest request comes first.
use Rattle.std.specs.Prelude.{◌≡◌, ◌↔◌, ℕ, ◌^◌, ◌==◌, ◌<◌, ◌≤◌, nat_lt, ℤ, Bool, IsTrue, true, false, not, ◌&&◌, ◌||◌, List, [], ◌∷◌, ◌++◌, length, map, All, Option, Some, None, Result, Ok}
use Rattle.std.specs.List.{AllPairs, Contains, filter, list_any}
use Rattle.std.specs.Result.{result_err}
use Rattle.page_ring.specs.Account.{Reading}
use Rattle.trace_buffer.specs.Families.{CpuReading, on_cpu, cpu_readings}
use Rattle.trace_lex.specs.Decimals.{written_number}
use Rattle.trace_filter.specs.Filters.{IsFilter, Passes}
use Rattle.trace_format.specs.Cells.{Cells, IsRowOf, payload_of}
use Rattle.trace_format.specs.Definitions.{Definition}
use Rattle.trace_trigger.specs.SameSpecs.{IsSame}
use Rattle.record_text.specs.RecordText.{record_line, row_line}
use Rattle.trace_trigger.specs.TriggerTexts.{said_of}
use Rattle.trace_trigger.specs.declared.fault.TriggerFault.{TriggerFault}
use Rattle.trace_trigger.specs.declared.trigger.TriggerText.{TriggerText}
use Rattle.trace_trigger.specs.declared.trigger.TriggerText.TheVariants.{Hist, RemoveHist}
use Rattle.trace_command.specs.Configs.{IsInRange}
use Rattle.tracer_specification.specs.History.{answer_with_room, trigger_count}
use Rattle.tracer_specification.specs.Pasts.{AreDone}
use Rattle.trace_command.specs.Paths.{File, OfInstance, OfCpu}
use Rattle.trace_command.specs.Requests.{Request, WriteFile, ReadFile, FitsItsTypes}
use Rattle.trace_command.specs.declared.file_name.CpuFile.TheVariants as per_cpu
use Rattle.trace_command.specs.declared.file_name.TopFile.TheVariants as top
use Rattle.tracer_specification.specs.Emissions.{Emitted, emitted, emitted_bytes, filter_holds, is_recorded}
use Rattle.tracer_specification.specs.Rings.{new_rings, with_emitted, rings, other_rings, pipe_read, cpu_pipe_read}
use Rattle.tracer_specification.specs.Settings.{NumberedEvent, event_named, declared_events, filter_of, is_same, makes}
use Rattle.tracer_specification.specs.Snapshots.{exchanges, has_spare}
use Rattle.tracer_specification.specs.Triggers.{acts, snapshot_trigger_of, has_snapshot_trigger}
use Rattle.tracer_specification.specs.Waiting.{waiting, waits_in}
use Rattle.tracer_specification.specs.HistTriggers.{HistTrigger, Written, hist_triggers, hists_of, is_of, says_same, has_same, kept_by, left_by, new_hist, written_to}
use Rattle.trace_command.specs.declared.command.Config.{Config}

-- the filter that an event has in an instance is one of the event, by the grammar and the event's fields
abbrev pub FiltersAreOfTheirEvents : Type 0
FiltersAreOfTheirEvents =
    (g : Config) (past : List Request) (instance : Option (List ℕ)) (name : List ℕ) (k : NumberedEvent) (text : List ℕ)
    → AreDone g past → event_named name past ≡ Some k
    → filter_of instance name past ≡ Some text → IsFilter k.event text

-- and it holds of just those emissions of which a tree that its text spells holds
abbrev pub FiltersHoldAsTheirTrees : Type 0
FiltersHoldAsTheirTrees =
    (g : Config) (past : List Request) (instance : Option (List ℕ)) (name : List ℕ) (k : NumberedEvent) (text : List ℕ) (row : Cells) (cpu : ℕ) (pid : ℤ)
    → AreDone g past → event_named name past ≡ Some k
    → filter_of instance name past ≡ Some text → IsRowOf k.event row
    → IsTrue (filter_holds k.event (Some text) row cpu pid) ↔ Passes k.event text (record { values = row.values; cpu = cpu; pid = pid })

-- the line that shows an emission
abbrev pub emitted_line : Emitted → List ℕ
emitted_line e =
    row_line e.cpu (record { ts = e.timestamp; pid = e.pid; event = e.k.id; payload = length (payload_of e.row) }) e.k.event e.row.values

-- the line of an emission's record shows the row that was emitted, then and whatever is done later: with numbers in range, as a book's are,
-- each number of the record's head fits its place, while there are fewer than 2^64 requests
abbrev pub RecordsShowTheirRows : Type 0
RecordsShowTheirRows =
    (g : Config) (request : Request) (before later : List Request) (e : Emitted)
    → IsInRange g → AreDone g before → length (request ∷ before) < 2 ^ 64 → FitsItsTypes request → emitted before request ≡ Some e
    → record_line (declared_events (later ++ request ∷ before)) e.cpu (emitted_bytes e) ≡ emitted_line e

-- the records that a CPU's ring of an instance's live side keeps, as consuming reads find them
abbrev pub kept_readings : Config → Option (List ℕ) → ℕ → List Request → List Reading
kept_readings g instance cpu past = cpu_readings g.pages g.page_bytes (rings g instance past) cpu

-- and those that a ring of the other side keeps
abbrev pub spare_readings : Config → Option (List ℕ) → ℕ → List Request → List Reading
spare_readings g instance cpu past = cpu_readings g.pages g.page_bytes (other_rings g instance past) cpu

-- a line shows an emission of a past: one on this CPU, in this life of the instance, that the instance recorded. The line is that of the
-- emission's row, with the number of its process and the time at which it came.
pub record ShowsEmission (instance : Option (List ℕ)) (cpu : ℕ) (past : List Request) (line : List ℕ) : Type 0 where
  pub later : List Request
  pub request : Request
  pub before : List Request
  pub cut : past ≡ later ++ request ∷ before
  pub alive : list_any (makes instance) later ≡ false
  pub e : Emitted
  pub emission : emitted before request ≡ Some e
  pub there : e.cpu ≡ cpu
  pub recorded : IsTrue (is_recorded instance before e)
  pub shown : line ≡ emitted_line e

-- the line of each record that the live side keeps shows an emission, with numbers that fit their types, and while there are fewer than 2^64 requests
abbrev pub KeptRecordsShowEmissions : Type 0
KeptRecordsShowEmissions =
    (g : Config) (past : List Request) (instance : Option (List ℕ)) (cpu : ℕ) → IsInRange g → AreDone g past → length past < 2 ^ 64 → All FitsItsTypes past
    → All (λ (r : Reading). ShowsEmission instance cpu past (record_line (declared_events past) cpu r.rec))
    (kept_readings g instance cpu past)

-- and so does the line of each record that the other side keeps
abbrev pub KeptSpareRecordsShowEmissions : Type 0
KeptSpareRecordsShowEmissions =
    (g : Config) (past : List Request) (instance : Option (List ℕ)) (cpu : ℕ) → IsInRange g → AreDone g past → length past < 2 ^ 64 → All FitsItsTypes past
    → All (λ (r : Reading). ShowsEmission instance cpu past (record_line (declared_events past) cpu r.rec))
    (spare_readings g instance cpu past)

-- ---- snapshots

-- A write of 1 to `snapshot` exchanges the sides. What was live is the other side now and what was the other side is live, each with all of its
-- records and counts. Nothing is copied or emptied.
abbrev pub SnapshotsSwapTheSides : Type 0
SnapshotsSwapTheSides =
    (g : Config) (past : List Request) (instance : Option (List ℕ)) (append : Bool) (text : List ℕ) → written_number text ≡ Some 1
    → (rings g instance (WriteFile instance (Some (OfInstance top.Snapshot)) append text ∷ past) ≡ other_rings g instance past)
    × (other_rings g instance (WriteFile instance (Some (OfInstance top.Snapshot)) append text ∷ past) ≡ rings g instance past)

-- An emission that makes a trigger act exchanges them too. The record that it brings, if it is recorded, goes to the side that was live.
abbrev pub TriggersSwapTheSides : Type 0
TriggersSwapTheSides =
    (g : Config) (past : List Request) (instance : Option (List ℕ)) (request : Request) (e : Emitted) → emitted past request ≡ Some e
    → acts past e (snapshot_trigger_of instance e.k.event past) ≡ true
    → (rings g instance (request ∷ past) ≡ other_rings g instance past)
    × (other_rings g instance (request ∷ past) ≡ with_emitted instance past (Some e) (rings g instance past))

-- whether a request writes to `snapshot` of an instance
abbrev pub writes_snapshot : Option (List ℕ) → Request → Bool
writes_snapshot instance (WriteFile other (Some (OfInstance top.Snapshot)) append text) = is_same instance other
writes_snapshot instance request = false

-- nothing else reaches the other side: it stays as it is until a number is written to `snapshot`, a trigger acts or the instance is made anew
abbrev pub SnapshotsStay : Type 0
SnapshotsStay =
    (g : Config) (past : List Request) (instance : Option (List ℕ)) (request : Request)
    → makes instance request ≡ false → writes_snapshot instance request ≡ false → exchanges instance past request ≡ false
    → other_rings g instance (request ∷ past) ≡ other_rings g instance past

-- after requests that were done a spare is there to exchange with where an event has a trigger for snapshots
abbrev pub TriggersHaveTheirSpare : Type 0
TriggersHaveTheirSpare =
    (g : Config) (past : List Request) (instance : Option (List ℕ)) → AreDone g past
    → has_snapshot_trigger instance past ≡ true → has_spare instance past ≡ true

-- and where there is none the other side is empty, so a spare that is made is as new
abbrev pub SparesBeginEmpty : Type 0
SparesBeginEmpty =
    (g : Config) (past : List Request) (instance : Option (List ℕ)) → AreDone g past
    → has_spare instance past ≡ false → other_rings g instance past ≡ new_rings g

-- ---- pipe reads

-- of records of all CPUs those of one
abbrev pub those_of : ℕ → List CpuReading → List CpuReading
those_of cpu readings = filter (λ r. r.cpu == cpu) readings

-- a read of a CPU's pipe consumes the records that it shows and no others: on each CPU what was kept before is what the read shows of that
-- CPU and then what is kept. (The rings of other instances stay as they are by definition.)
abbrev pub PipeReadsConsumeWhatTheyShow : Type 0
PipeReadsConsumeWhatTheyShow =
    (g : Config) (past : List Request) (instance : Option (List ℕ)) (cpu other : ℕ) (limit : Option ℕ)
    → map (on_cpu other) (kept_readings g instance other past)
    ≡ those_of other (cpu_pipe_read g cpu limit (rings g instance past)).taken
    ++ map (on_cpu other) (kept_readings g instance other (ReadFile instance (Some (OfCpu cpu per_cpu.TracePipe)) limit ∷ past))

-- and so does a read of the pipe of all CPUs
abbrev pub WholePipeReadsConsumeWhatTheyShow : Type 0
WholePipeReadsConsumeWhatTheyShow =
    (g : Config) (past : List Request) (instance : Option (List ℕ)) (cpu : ℕ) (limit : Option ℕ)
    → map (on_cpu cpu) (kept_readings g instance cpu past)
    ≡ those_of cpu (pipe_read g limit (rings g instance past)).taken
    ++ map (on_cpu cpu) (kept_readings g instance cpu (ReadFile instance (Some (OfInstance top.TracePipe)) limit ∷ past))

-- ---- hist triggers

-- after requests that were done an event has at most four triggers in an instance, those of both kinds together
abbrev pub AtMostFourTriggers : Type 0
AtMostFourTriggers =
    (g : Config) (past : List Request) (instance : Option (List ℕ)) (name : List ℕ) (k : NumberedEvent)
    → AreDone g past → event_named name past ≡ Some k
    → trigger_count (snapshot_trigger_of instance k.event past) (hists_of instance k.event past) ≤ 4

-- no two hist triggers of an event say the same
abbrev pub HistTriggersDiffer : Type 0
HistTriggersDiffer =
    (instance : Option (List ℕ)) (event : Definition) (past : List Request)
    → AllPairs (λ earlier later. IsSame earlier.spec later.spec → ⊥) (hists_of instance event past)

-- they are in the order in which they were attached
abbrev pub HistTriggersAreInOrder : Type 0
HistTriggersAreInOrder =
    (instance : Option (List ℕ)) (event : Definition) (past : List Request)
    → AllPairs (λ earlier later. earlier.number < later.number) (hists_of instance event past)
    × All (λ t. t.number < length past) (hists_of instance event past)

-- whether one of later requests does something, each after those before it
abbrev pub some_later : (List Request → Request → Bool) → List Request → List Request → Bool
some_later test [] past = false
some_later test (request ∷ later) past = test (later ++ past) request || some_later test later past

-- a request attaches a hist trigger: what it writes for the trigger's event says what the trigger says, and none says the same of those that are left.
-- Its table is the one of its name, if one of those that are left has that name
pub record IsAttachedBy (instance : Option (List ℕ)) (t : HistTrigger) (past : List Request) (request : Request) : Type 0 where
  pub alive : makes instance request ≡ false
  pub append : Bool
  pub text : List ℕ
  pub written : written_to instance past request ≡ Some (record { event = t.event; append = append; text = text })
  pub said : said_of t.event text ≡ Ok (Hist t.spec)
  pub new : has_same t.spec (kept_by append (hists_of instance t.event past)) ≡ false
  pub is : t ≡ new_hist (length past) t.event (left_by t.event append (hist_triggers instance past)) t.spec

-- whether a text removes a hist trigger
abbrev pub removes : HistTrigger → Result TriggerText TriggerFault → Bool
removes t (Ok (RemoveHist spec)) = says_same spec t
removes t said = false

-- whether what is written takes a hist trigger away: it is for its event, and by `>`, or it removes the trigger
abbrev pub takes : HistTrigger → Option Written → Bool
takes t None = false
takes t (Some w) = is_of w.event t && (not w.append || removes t (said_of w.event w.text))

-- whether a request does, which may also make the instance anew
abbrev pub takes_away : Option (List ℕ) → HistTrigger → List Request → Request → Bool
takes_away instance t past request = makes instance request || takes t (written_to instance past request)

-- a hist trigger was attached, and not taken away since
pub record IsAttached (instance : Option (List ℕ)) (t : HistTrigger) (past : List Request) : Type 0 where
  pub later : List Request
  pub request : Request
  pub before : List Request
  pub cut : past ≡ later ++ request ∷ before
  pub by : IsAttachedBy instance t before request
  pub stays : some_later (takes_away instance t) later (request ∷ before) ≡ false

-- the hist triggers that are there are just those that were attached and not taken away since
abbrev pub HistTriggersAreThoseAttached : Type 0
HistTriggersAreThoseAttached =
    (instance : Option (List ℕ)) (t : HistTrigger) (past : List Request) → Contains (hist_triggers instance past) t ↔ IsAttached instance t past

-- a look at a pipe tells whether a read of it takes a record, unless its limit is 0
abbrev pub LooksTellWhatReadsTake : Type 0
LooksTellWhatReadsTake =
    (g : Config) (instance : Option (List ℕ)) (past : List Request) (limit : ℕ) → 0 < limit
    → waits_in g instance past (OfInstance top.TracePipe) ≡ Ok (nat_lt 0 (length (pipe_read g (Some limit) (rings g instance past)).taken))

abbrev pub CpuLooksTellWhatReadsTake : Type 0
CpuLooksTellWhatReadsTake =
    (g : Config) (instance : Option (List ℕ)) (past : List Request) (cpu limit : ℕ) → 0 < limit
    → waits_in g instance past (OfCpu cpu per_cpu.TracePipe) ≡ Ok (nat_lt 0 (length (cpu_pipe_read g cpu (Some limit) (rings g instance past)).taken))

-- and it is refused as a read with a limit is, were there no limit on the history
abbrev pub LooksAreRefusedAsReads : Type 0
LooksAreRefusedAsReads =
    (g : Config) (past : List Request) (instance : Option (List ℕ)) (file : Option File) (limit : ℕ)
    → result_err (waiting g past instance file) ≡ result_err (answer_with_room g past (ReadFile instance file (Some limit)))
