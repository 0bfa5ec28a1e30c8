-- Two reads of a pipe and one of both, and all that is answered after them.
use Rattle.std.proofs.Common.{◌≡◌, ℕ, ◌%◌, ◌==◌, Bool, true, false, if◌then◌else◌, List, ◌∷◌, ◌++◌, length, Option, Some, refl, sym, ap, ◌∙◌, arith}
use Rattle.std.proofs.lemmas.List.{append-nil}
use Rattle.page_ring.specs.Events as ring
use Rattle.page_ring.specs.Laws.{ReadingsAreAhead, TakesLeaveTheRest}
use Rattle.trace_command.specs.Paths.{File}
use Rattle.trace_command.specs.Requests.{Request, ReadFile}
use Rattle.trace_command.specs.declared.command.Config.{Config}
use Rattle.tracer_specification.specs.Rings.{rings_after_read, rings_of_side}
use Rattle.tracer_specification.specs.Settings.{declared_events, instance_names, is_same}
use Rattle.tracer_specification.specs.Snapshots.{exchange_count, live_side}
use Rattle.history_laws.specs.ReadsInParts.{in_all, is_pipe, ReadsLeaveAnswers, ReadsLeaveWaiting}
use Rattle.history_laws.proofs.AlikePasts.{answer-same, waiting-same}
use Rattle.history_laws.proofs.LookedTables.{are-alike, hits-read}
use Rattle.history_laws.proofs.Looks.{IsOneMore, met-read}
use Rattle.history_laws.proofs.PartedReads.{read-joined}

module _ (ahead : ReadingsAreAhead) (rest : TakesLeaveTheRest) (past : List Request) (instance : Option (List ℕ)) (pipe : File) (first : ℕ) (second : Option ℕ)
    (is : is_pipe pipe ≡ true) where
  abbrev one : Request
  one = ReadFile instance (Some pipe) (Some first)

  abbrev two : Request
  two = ReadFile instance (Some pipe) second

  abbrev both : Request
  both = ReadFile instance (Some pipe) (in_all first second)

  -- no read exchanges the sides
  count-read : (other : Option (List ℕ)) (limit : Option ℕ) → exchange_count other (ReadFile instance (Some pipe) limit ∷ past) ≡ exchange_count other past
  count-read other limit = omega arith

  sides-read : (g : Config) (other : Option (List ℕ)) (side : ℕ)
      → rings_of_side g other side (two ∷ one ∷ past) ≡ rings_of_side g other side (both ∷ past)
  sides-read g other side =
      let stays : live_side other (one ∷ past) ≡ live_side other past = ap (λ (n : ℕ). n % 2) (count-read other (Some first)) in
      ap (λ (s : ℕ). let before = rings_of_side g other side (one ∷ past) in
      if side == s then (if is_same other instance then rings_after_read g second (Some pipe) before else before) else before) stays
      ∙ by (side == live_side other past) (is_same other instance)
    where
      family : List (List ring.Event)
      family = rings_of_side g other side past

      after : Bool → Bool → Option ℕ → List (List ring.Event) → List (List ring.Event)
      after live same limit before = if live then (if same then rings_after_read g limit (Some pipe) before else before) else before

      by : (live same : Bool) → after live same second (after live same (Some first) family) ≡ after live same (in_all first second) family
      by true true = read-joined ahead rest g pipe first second family is
      by true false = refl
      by false same = refl

  two-one_more : IsOneMore (two ∷ one ∷ past) (both ∷ past)
  two-one_more = record {
    number = refl;
    events = append-nil (declared_events (one ∷ past));
    instances = append-nil (instance_names (one ∷ past));
    now = omega arith;
    enabled = λ other event. refl;
    filters = λ other event. refl;
    overwriting = λ other. refl;
    tracing = λ other. refl;
    spare = λ other. refl;
    trigger = λ other event. refl;
    meets = λ event filter n.
        met-read (one ∷ past) instance (Some pipe) second event filter n ∙ met-read past instance (Some pipe) (Some first) event filter n
        ∙ sym (met-read past instance (Some pipe) (in_all first second) event filter n);
    count = λ other. omega arith;
    sides = sides-read;
    hists = λ other. refl;
    paused = λ other table. refl;
    hits = λ other table.
        hits-read (one ∷ past) instance (Some pipe) second other table ∙ hits-read past instance (Some pipe) (Some first) other table
        ∙ sym (hits-read past instance (Some pipe) (in_all first second) other table);
  }

pub reads_leave_answers : ReadingsAreAhead → TakesLeaveTheRest → ReadsLeaveAnswers
reads_leave_answers ahead rest g past later instance pipe first second next is =
    let more = ReadFile instance (Some pipe) second ∷ ReadFile instance (Some pipe) (Some first) ∷ past in
    let less = ReadFile instance (Some pipe) (in_all first second) ∷ past in
    answer-same (length less) (later ++ more) (later ++ less)
    (are-alike more less (two-one_more ahead rest past instance pipe first second is) later) g next

pub reads_leave_waiting : ReadingsAreAhead → TakesLeaveTheRest → ReadsLeaveWaiting
reads_leave_waiting ahead rest g past later instance at pipe first second file is =
    let more = ReadFile instance (Some pipe) second ∷ ReadFile instance (Some pipe) (Some first) ∷ past in
    let less = ReadFile instance (Some pipe) (in_all first second) ∷ past in
    waiting-same (length less) (later ++ more) (later ++ less)
    (are-alike more less (two-one_more ahead rest past instance pipe first second is) later) g at file
