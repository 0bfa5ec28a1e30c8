-- What two reads of a pipe show and leave.
use Rattle.std.proofs.Common.{◌≡◌, ℕ, ◌+◌, ◌-◌, min, Bool, true, false, if◌then◌else◌, List, [], ◌∷◌, ◌++◌, length, map, take, drop, Option, Some, None, Ok, Err, IsOk, refl, sym, ap, ◌∙◌, arith}
use Rattle.std.proofs.lemmas.Bool.{false≢true}
use Rattle.std.proofs.lemmas.Grind.{flat_map-append}
use Rattle.std.proofs.lemmas.List.{append-nil, length-drop}
use Rattle.std.specs.List.{list_any}
use Rattle.std.specs.Str.{bytes_eq}
use Rattle.page_ring.specs.Account.{Reading}
use Rattle.page_ring.specs.Events as ring
use Rattle.page_ring.specs.Laws.{ReadingsAreAhead, TakesLeaveTheRest}
use Rattle.trace_buffer.specs.Families.{CpuReading, on_cpu, cpu_readings, kept_count}
use Rattle.trace_buffer.specs.Orders.{Consumed, consume_any, after_cpu_reads}
use Rattle.trace_buffer.proofs.Consumed.{kept_count-consumed}
use Rattle.trace_format.specs.Definitions.{Definition}
use Rattle.record_text.specs.BufferText.{pipe_text, taken_lines}
use Rattle.trace_command.specs.Paths.{File, OfInstance, OfCpu}
use Rattle.trace_command.specs.Requests.{Request, ReadFile}
use Rattle.trace_command.specs.declared.command.Config.{Config}
use Rattle.trace_command.specs.declared.command.Reply.TheVariants.{Text}
use Rattle.trace_command.specs.declared.file_name.CpuFile.TheVariants as per_cpu
use Rattle.trace_command.specs.declared.file_name.TopFile.TheVariants as top
use Rattle.trace_command.specs.declared.refusal.Refusal.{Refusal}
use Rattle.trace_command.specs.declared.refusal.Refusal.TheVariants.{NoSuchInstance}
use Rattle.tracer_specification.specs.FileTexts.{shown_pipe, shown_cpu_pipe}
use Rattle.tracer_specification.specs.History.{answer_with_room, missing, read_answer, unless_refused}
use Rattle.tracer_specification.specs.Rings.{up_to_limit, pipe_read, cpu_pipe_read, rings_after_read, rings, other_rings}
use Rattle.tracer_specification.specs.Settings.{declared_events, instance_names, is_same, is_there}
use Rattle.tracer_specification.proofs.PipeReads.{is_same-self}
use Rattle.tracer_specification.proofs.Sides.{rings-stay}
use Rattle.history_laws.specs.ReadsInParts.{is_pipe, in_all, ReadsShowInTurn, ReadsLeaveTheSame}
use Rattle.history_laws.proofs.JoinedTakes.{joined, consumed-joined, cpu_reads-joined, cpu_taken-joined, readings-left}

-- ---- the rings of one side

-- the reads that two limits allow, of so many records, are those that both together allow
limits-joined : (first : ℕ) (second : Option ℕ) (kept : ℕ)
    → up_to_limit (Some first) kept + up_to_limit second (kept - up_to_limit (Some first) kept) ≡ up_to_limit (in_all first second) kept
limits-joined first None kept =
    let e : min first kept + (kept - min first kept) ≡ kept = omega arith in e
limits-joined first (Some second) kept =
    let e : min first kept + min second (kept - min first kept) ≡ min (first + second) kept = omega arith in e

pipe-joined : ReadingsAreAhead → (g : Config) (first : ℕ) (second : Option ℕ) (family : List (List ring.Event))
    → joined (pipe_read g (Some first) family) (pipe_read g second (pipe_read g (Some first) family).family) ≡ pipe_read g (in_all first second) family
pipe-joined ahead g first second family =
    let kept = kept_count g.pages g.page_bytes family in
    let m = up_to_limit (Some first) kept in
    let before = pipe_read g (Some first) family in
    let left : kept_count g.pages g.page_bytes before.family ≡ kept - m = kept_count-consumed ahead g.pages g.page_bytes m family in
    ap (λ (k : ℕ). joined before (consume_any g.pages g.page_bytes (up_to_limit second k) before.family)) left
    ∙ sym (consumed-joined g.pages g.page_bytes m (up_to_limit second (kept - m)) family)
    ∙ ap (λ (k : ℕ). consume_any g.pages g.page_bytes k family) (limits-joined first second kept)

cpu_pipe-joined : TakesLeaveTheRest → (g : Config) (cpu first : ℕ) (second : Option ℕ) (family : List (List ring.Event))
    → joined (cpu_pipe_read g cpu (Some first) family) (cpu_pipe_read g cpu second (cpu_pipe_read g cpu (Some first) family).family)
    ≡ cpu_pipe_read g cpu (in_all first second) family
cpu_pipe-joined rest g cpu first second family =
    let readings = cpu_readings g.pages g.page_bytes family cpu in
    let m = up_to_limit (Some first) (length readings) in
    let after = after_cpu_reads cpu m family in
    let n = up_to_limit second (length readings - m) in
    let left : cpu_readings g.pages g.page_bytes after cpu ≡ drop m readings = readings-left rest g.pages g.page_bytes cpu m family in
    let so_many : length (drop m readings) ≡ length readings - m = length-drop m readings in
    ap (λ (rs : List Reading). both m family readings after (up_to_limit second (length rs)) rs) left
    ∙ ap (λ (k : ℕ). both m family readings after (up_to_limit second k) (drop m readings)) so_many
    ∙ ap (λ (taken : List CpuReading). let c : Consumed = record { taken = taken; family = after_cpu_reads cpu n after } in c) (sym (cpu_taken-joined cpu m n readings))
    ∙ ap (λ (f : List (List ring.Event)). let c : Consumed = record { taken = map (on_cpu cpu) (take (m + n) readings); family = f } in c) (cpu_reads-joined cpu m n family)
    ∙ ap (λ (k : ℕ). let c : Consumed = record { taken = map (on_cpu cpu) (take k readings); family = after_cpu_reads cpu k family } in c)
    (limits-joined first second (length readings))
  where
    both : ℕ → List (List ring.Event) → List Reading → List (List ring.Event) → ℕ → List Reading → Consumed
    both m family readings after k rs =
        record { taken = map (on_cpu cpu) (take m readings) ++ map (on_cpu cpu) (take k rs); family = after_cpu_reads cpu k after }

-- ---- those of an instance

pub read-joined : ReadingsAreAhead → TakesLeaveTheRest → (g : Config) (pipe : File) (first : ℕ) (second : Option ℕ) (family : List (List ring.Event))
    → is_pipe pipe ≡ true
    → rings_after_read g second (Some pipe) (rings_after_read g (Some first) (Some pipe) family) ≡ rings_after_read g (in_all first second) (Some pipe) family
read-joined ahead rest g (OfInstance top.TracePipe) first second family is = ap (λ (c : Consumed). c.family) (pipe-joined ahead g first second family)
read-joined ahead rest g (OfCpu cpu per_cpu.TracePipe) first second family is = ap (λ (c : Consumed). c.family) (cpu_pipe-joined rest g cpu first second family)
read-joined ahead rest g _ first second family is = absurd (false≢true is)

-- a read of a file of an instance changes no other's rings, and no side is exchanged
after-read : (g : Config) (past : List Request) (instance other : Option (List ℕ)) (file : Option File) (limit : Option ℕ)
    → rings g other (ReadFile instance file limit ∷ past)
    ≡ (if is_same other instance then rings_after_read g limit file (rings g other past) else rings g other past)
after-read g past instance other file limit = (rings-stay g other past (ReadFile instance file limit) refl refl).live

other-read : (g : Config) (past : List Request) (instance other : Option (List ℕ)) (file : Option File) (limit : Option ℕ)
    → other_rings g other (ReadFile instance file limit ∷ past) ≡ other_rings g other past
other-read g past instance other file limit = (rings-stay g other past (ReadFile instance file limit) refl refl).spare

pub reads_leave_the_same : ReadingsAreAhead → TakesLeaveTheRest → ReadsLeaveTheSame
reads_leave_the_same ahead rest g past instance other pipe first second is = (live, spare)
  where
    one : Request
    one = ReadFile instance (Some pipe) (Some first)

    by : (same : Bool)
        → (if same then rings_after_read g second (Some pipe) (if same then rings_after_read g (Some first) (Some pipe) (rings g other past) else rings g other past)
        else (if same then rings_after_read g (Some first) (Some pipe) (rings g other past) else rings g other past))
        ≡ (if same then rings_after_read g (in_all first second) (Some pipe) (rings g other past) else rings g other past)
    by true = read-joined ahead rest g pipe first second (rings g other past) is
    by false = refl

    live : rings g other (ReadFile instance (Some pipe) second ∷ one ∷ past) ≡ rings g other (ReadFile instance (Some pipe) (in_all first second) ∷ past)
    live =
        after-read g (one ∷ past) instance other (Some pipe) second
        ∙ ap (λ (f : List (List ring.Event)). if is_same other instance then rings_after_read g second (Some pipe) f else f)
        (after-read g past instance other (Some pipe) (Some first))
        ∙ by (is_same other instance) ∙ sym (after-read g past instance other (Some pipe) (in_all first second))

    spare : other_rings g other (ReadFile instance (Some pipe) second ∷ one ∷ past)
        ≡ other_rings g other (ReadFile instance (Some pipe) (in_all first second) ∷ past)
    spare =
        other-read g (one ∷ past) instance other (Some pipe) second ∙ other-read g past instance other (Some pipe) (Some first)
        ∙ sym (other-read g past instance other (Some pipe) (in_all first second))

-- ---- what they show

pipe_text-joined : (events : List Definition) (before after : List CpuReading) → pipe_text events (before ++ after) ≡ pipe_text events before ++ pipe_text events after
unfolding pipe_text
pipe_text-joined events before after = flat_map-append (taken_lines events) before after

-- a read declares no event and makes no instance
events-read : (past : List Request) (instance : Option (List ℕ)) (file : Option File) (limit : Option ℕ)
    → declared_events (ReadFile instance file limit ∷ past) ≡ declared_events past
events-read past instance file limit = append-nil (declared_events past)

there-read : (past : List Request) (instance other : Option (List ℕ)) (file : Option File) (limit : Option ℕ)
    → is_there other (ReadFile instance file limit ∷ past) ≡ is_there other past
there-read past instance None file limit = refl
there-read past instance (Some name) file limit = ap (list_any (bytes_eq name)) (append-nil (instance_names past))

-- what a read of a pipe takes
abbrev taken_of : Config → File → Option ℕ → List (List ring.Event) → Consumed
taken_of g (OfInstance top.TracePipe) limit family = pipe_read g limit family
taken_of g (OfCpu cpu per_cpu.TracePipe) limit family = cpu_pipe_read g cpu limit family
taken_of g file limit family = record { taken = []; family = family }

pipe-shows : (g : Config) (past : List Request) (instance : Option (List ℕ)) (pipe : File) (limit : Option ℕ) → is_pipe pipe ≡ true
    → read_answer g instance past limit pipe ≡ Ok (Text (pipe_text (declared_events past) (taken_of g pipe limit (rings g instance past)).taken))
unfolding shown_pipe shown_cpu_pipe
pipe-shows g past instance (OfInstance top.TracePipe) limit is = refl
pipe-shows g past instance (OfCpu cpu per_cpu.TracePipe) limit is = refl
pipe-shows g past instance _ limit is = absurd (false≢true is)

taken-joined : ReadingsAreAhead → TakesLeaveTheRest → (g : Config) (pipe : File) (first : ℕ) (second : Option ℕ) (family : List (List ring.Event))
    → is_pipe pipe ≡ true
    → (taken_of g pipe (Some first) family).taken ++ (taken_of g pipe second (rings_after_read g (Some first) (Some pipe) family)).taken
    ≡ (taken_of g pipe (in_all first second) family).taken
taken-joined ahead rest g (OfInstance top.TracePipe) first second family is = ap (λ (c : Consumed). c.taken) (pipe-joined ahead g first second family)
taken-joined ahead rest g (OfCpu cpu per_cpu.TracePipe) first second family is = ap (λ (c : Consumed). c.taken) (cpu_pipe-joined rest g cpu first second family)
taken-joined ahead rest g _ first second family is = absurd (false≢true is)

-- a pipe is missing in the same pasts
missing-read : (g : Config) (past : List Request) (request : Request) (pipe : File) → is_pipe pipe ≡ true → missing g (request ∷ past) pipe ≡ missing g past pipe
missing-read g past request (OfInstance top.TracePipe) is = refl
missing-read g past request (OfCpu cpu per_cpu.TracePipe) is = refl
missing-read g past request _ is = absurd (false≢true is)

-- a read that was done: its instance is there, and its file
record IsAnswered (g : Config) (past : List Request) (instance : Option (List ℕ)) (pipe : File) : Type 0 where
  there : is_there instance past ≡ true
  found : missing g past pipe ≡ None

answered : (g : Config) (past : List Request) (instance : Option (List ℕ)) (pipe : File) (limit : Option ℕ)
    → IsOk (answer_with_room g past (ReadFile instance (Some pipe) limit)) → IsAnswered g past instance pipe
answered g past instance pipe limit done = by (is_there instance past) refl (missing g past pipe) refl done
  where
    by : (there : Bool) → is_there instance past ≡ there → (absent : Option Refusal) → missing g past pipe ≡ absent
        → IsOk (if there then unless_refused absent (read_answer g instance past limit pipe) else Err NoSuchInstance) → IsAnswered g past instance pipe
    by true there None found h = record { there = there; found = found }
    by true there (Some refusal) found h = absurd (false≢true h)
    by false there absent found h = absurd (false≢true h)

answer-is : (g : Config) (past : List Request) (instance : Option (List ℕ)) (pipe : File) (limit : Option ℕ) → IsAnswered g past instance pipe
    → answer_with_room g past (ReadFile instance (Some pipe) limit) ≡ read_answer g instance past limit pipe
answer-is g past instance pipe limit h = rw (h.there, h.found) refl

pub reads_show_in_turn : ReadingsAreAhead → TakesLeaveTheRest → ReadsShowInTurn
reads_show_in_turn ahead rest g past instance pipe first second is done = record {
  text = text;
  rest = more;
  begins = answer-is g past instance pipe (Some first) here ∙ pipe-shows g past instance pipe (Some first) is;
  goes_on = answer-is g (one ∷ past) instance pipe second here_then ∙ pipe-shows g (one ∷ past) instance pipe second is
      ∙ ap (λ (l : List ℕ). Ok (Text l)) more_is;
  whole = answer-is g past instance pipe (in_all first second) here ∙ pipe-shows g past instance pipe (in_all first second) is
      ∙ ap (λ (l : List ℕ). Ok (Text l)) (sym all);
}
  where
    one : Request
    one = ReadFile instance (Some pipe) (Some first)

    family : List (List ring.Event)
    family = rings g instance past

    events : List Definition
    events = declared_events past

    text : List ℕ
    text = pipe_text events (taken_of g pipe (Some first) family).taken

    more : List ℕ
    more = pipe_text events (taken_of g pipe second (rings_after_read g (Some first) (Some pipe) family)).taken

    here : IsAnswered g past instance pipe
    here = answered g past instance pipe (Some first) done

    here_then : IsAnswered g (one ∷ past) instance pipe
    here_then = record {
      there = there-read past instance instance (Some pipe) (Some first) ∙ here.there;
      found = missing-read g past one pipe is ∙ here.found;
    }

    left : rings g instance (one ∷ past) ≡ rings_after_read g (Some first) (Some pipe) family
    left =
        after-read g past instance instance (Some pipe) (Some first)
        ∙ ap (λ (same : Bool). if same then rings_after_read g (Some first) (Some pipe) family else family) (is_same-self instance)

    more_is : pipe_text (declared_events (one ∷ past)) (taken_of g pipe second (rings g instance (one ∷ past))).taken ≡ more
    more_is =
        ap (λ (ds : List Definition). pipe_text ds (taken_of g pipe second (rings g instance (one ∷ past))).taken) (events-read past instance (Some pipe) (Some first))
        ∙ ap (λ (f : List (List ring.Event)). pipe_text events (taken_of g pipe second f).taken) left

    all : text ++ more ≡ pipe_text events (taken_of g pipe (in_all first second) family).taken
    all =
        sym (pipe_text-joined events (taken_of g pipe (Some first) family).taken (taken_of g pipe second (rings_after_read g (Some first) (Some pipe) family)).taken)
        ∙ ap (pipe_text events) (taken-joined ahead rest g pipe first second family is)
