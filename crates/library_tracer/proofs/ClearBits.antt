-- Emissions of events whose bits of a mask are clear.
use Rattle.std.proofs.Common.{◌≡◌, ◌↔◌, ℕ, zero, suc, ◌+◌, ◌-◌, ◌<◌, ◌≤◌, ℤ, Bool, true, ◌&&◌, List, [], ◌∷◌, ◌++◌, length, map, append-nil, append_assoc, All, Option, Some, IsBitSet, get_or, refl, sym, ap, ◌∙◌, subst, arith}
use Rattle.std.specs.List.{list_all}
use Rattle.std.proofs.lemmas.List.{length-append}
use Rattle.std.proofs.lemmas.List.Elements.{All-head, All-tail}
use Rattle.std.proofs.lemmas.Option.{get_or_from_slice_get, slice_get_within}
use Rattle.trace_command.specs.Requests.{Request, Emission}
use Rattle.trace_command.specs.declared.command.Config.{Config}
use Rattle.trace_format.specs.Catalogs.{event_of}
use Rattle.trace_format.specs.Definitions.{Definition}
use Rattle.trace_format.specs.Values.{pairs_given}
use Rattle.trace_format.specs.declared.field_value.FieldValue.{FieldValue}
use Rattle.trace_format.specs.declared.pair.Pair.{Pair}
use Rattle.tracer_specification.specs.IdleEvents.{emits_idle, is_found_idle, is_idle}
use Rattle.tracer_specification.specs.Pasts.{AreDone}
use Rattle.tracer_specification.specs.Settings.{NumberedEvent, declared_events, event_named}
use Rattle.tracer_specification.proofs.EventLists.{named_at}
use Rattle.tracer_specification.proofs.LegalEvents.{done-events}
use Rattle.history_laws.specs.IdleEmissions.{OnlyTicks}
use Rattle.history_laws.proofs.IdleEvents.{idle_emissions_leave_wants, idle_emissions_only_tick}
use Rattle.tracer_state.specs.ValueEmissions.{emission_of}
use Rattle.tracer.specs.LiveMasks.{IsMaskAfter}
use Rattle.mount_replies.specs.Calls.{TakesTurns, Turn}
use Rattle.mount_replies.specs.PastLaws.{WasDone, just_mounted}
use Rattle.mount_replies.specs.Services.{Service}
use Rattle.mount_replies.proofs.DoneLemmas.{pasts_are_done}
use Rattle.shared_mount.specs.LiveMountSeen.{SharedTerms}
use Rattle.shared_mount.specs.MountEntries.{EntrySeen, commands_of, done_in, turn_of}
use Rattle.shared_mount.specs.MountHistories.{AreLed, WereTaken}
use Rattle.library_tracer.specs.ClearBits.{ByName, ByNumber, ClearBitsKeepNumbers, ClearBitsKeepTheMask, ClearBitsOnlyTick, EmitsUnwanted, IsQuietAfter}
use Rattle.library_tracer.specs.Masks.{IsMaskOf}
use Rattle.library_tracer.specs.declared.mask.Mask.{Mask}

-- ---- events by their numbers

-- the event of a number is the one of its name, since no two have one
named-of : (g : Config) (past : List Request) (number : ℕ) (event : Definition) → AreDone g past → event_of (declared_events past) number ≡ Some event
    → event_named event.name past ≡ Some (record { id = number; event = event })
named-of g past zero event done there = absurd cc
named-of g past (suc index) event done there =
    let events = declared_events past in
    let inside : index < length events = slice_get_within events index event there in
    let is : get_or events index event ≡ event = get_or_from_slice_get events index event event there in
    let found = named_at events index event (done-events g past done).are inside in
    subst (λ (e : Definition). event_named e.name past ≡ Some (let k : NumberedEvent = record { id = suc index; event = e } in k)) is found

module _ (g : Config) (past : List Request) (mask : ℕ) (done : AreDone g past) (is : IsMaskAfter past mask) where
  -- an emission of an event whose bit is clear is one of an idle event
  clear-idle : (number : ℕ) (event : Definition) (cpu : ℕ) (pid : ℤ) (pairs : List Pair) → event_of (declared_events past) number ≡ Some event
      → ¬ IsBitSet mask (number - 1) → emits_idle past (Emission event.name cpu pid pairs) ≡ true
  clear-idle number event cpu pid pairs there clear =
      ap (λ (found : Option NumberedEvent). is_found_idle found past) (named-of g past number event done there) ∙ (is.declared number event there).0 clear

  -- the mask after emissions of idle events
  same-mask : (emissions : List Request) → list_all (emits_idle past) emissions ≡ true → IsMaskAfter (emissions ++ past) mask
  same-mask emissions idle = record { declared = declared; others = others }
    where
      events : declared_events (emissions ++ past) ≡ declared_events past
      events = (idle_emissions_only_tick past emissions idle).events

      declared : (number : ℕ) (event : Definition) → event_of (declared_events (emissions ++ past)) number ≡ Some event
          → (¬ IsBitSet mask (number - 1)) ↔ (is_idle event (emissions ++ past) ≡ true)
      declared number event there =
          let before : event_of (declared_events past) number ≡ Some event = ap (λ (es : List Definition). event_of es number) (sym events) ∙ there in
          let k : NumberedEvent = record { id = number; event = event } in
          let kept = idle_emissions_leave_wants past emissions event.name k idle (named-of g past number event done before) in
          subst (λ (b : Bool). (¬ IsBitSet mask (number - 1)) ↔ (b ≡ true)) (sym kept.1) (is.declared number event before)

      others : (index : ℕ) → length (declared_events (emissions ++ past)) ≤ index → index < 64 → ¬ IsBitSet mask index
      others index beyond = is.others index (let same = ap (λ (es : List Definition). length es) events in omega (arith, beyond, same))

-- ---- commands

-- an emission by values is one by name
by-values : (found : Option Definition) (event : Definition) (cpu : ℕ) (pid : ℤ) (values : List FieldValue) → found ≡ Some event
    → emission_of found cpu pid values ≡ Emission event.name cpu pid (pairs_given event.fields values)
by-values found event cpu pid values is = ap (λ (f : Option Definition). emission_of f cpu pid values) is

unwanted-idle : (g : Config) (entries : List EntrySeen) (mask : Mask) (request : Request) → AreDone g (done_in entries) → IsMaskOf entries mask
    → EmitsUnwanted entries mask request → emits_idle (done_in entries) request ≡ true
unwanted-idle g entries mask request done is (ByName number event cpu pid pairs bit same) =
    ap (emits_idle (done_in entries)) same ∙ clear-idle g (done_in entries) mask.events done is.events number event cpu pid pairs bit.declared bit.clear
unwanted-idle g entries mask request done is (ByNumber number event cpu pid values bit same) =
    ap (emits_idle (done_in entries)) same
    ∙ ap (emits_idle (done_in entries)) (by-values _ event cpu pid values bit.declared)
    ∙ clear-idle g (done_in entries) mask.events done is.events number event cpu pid (pairs_given event.fields values) bit.declared bit.clear

-- ---- histories that go on

done-append : (entries more : List EntrySeen) → done_in (entries ++ more) ≡ done_in more ++ done_in entries
done-append [] more = sym (append-nil (done_in more))
done-append (entry ∷ entries) more =
    ap (λ (past : List Request). past ++ commands_of entry.deed) (done-append entries more)
    ∙ append_assoc (done_in more) (done_in entries) (commands_of entry.deed)

-- turns of callers are turns of a mounted tracer
abbrev turns_in : SharedTerms → List EntrySeen → List Turn
turns_in g entries = map (λ (entry : EntrySeen). turn_of g.limit entry.deed) entries

led-turns : (g : SharedTerms) (before : Service) (entries : List EntrySeen) (after : Service) → AreLed g before entries after
    → TakesTurns g.mount before (turns_in g entries) after
led-turns g before [] after led = led
led-turns g before (entry ∷ entries) after led = (led.0, led.1.turned, led-turns g led.0 entries after led.2)

all-done : (g : SharedTerms) (entries : List EntrySeen) → WereTaken g entries → AreDone g.mount.config (done_in entries)
all-done g entries taken =
    let was : WasDone g.mount taken.after.past =
    pasts_are_done g.mount (turns_in g entries) taken.after (led-turns g just_mounted entries taken.after taken.led.led) in
    subst (AreDone g.mount.config) taken.led.past was.done

all-pass : (test : Request → Bool) (requests : List Request) → All (λ (r : Request). test r ≡ true) requests → list_all test requests ≡ true
all-pass test [] all = refl
all-pass test (request ∷ requests) all =
    let P : Request → Type 0 = λ r. test r ≡ true in
    let first : test request ≡ true = All-head P request requests all in
    let rest : list_all test requests ≡ true = all-pass test requests (All-tail P request requests all) in
    (λ i. first i && rest i)

module _ (g : SharedTerms) (entries more : List EntrySeen) (mask : Mask) (quiet : IsQuietAfter g entries more mask) where
  done : AreDone g.mount.config (done_in entries)
  done = all-done g entries quiet.taken

  idle : list_all (emits_idle (done_in entries)) (done_in more) ≡ true
  idle = all-pass (emits_idle (done_in entries)) (done_in more)
      (λ k d inside. unwanted-idle g.mount.config entries mask _ done quiet.is (quiet.all k d inside))

  same-ticks : OnlyTicks (length (done_in more)) (done_in entries) (done_in (entries ++ more))
  same-ticks =
      subst (OnlyTicks (length (done_in more)) (done_in entries)) (sym (done-append entries more)) (idle_emissions_only_tick (done_in entries) (done_in more) idle)

  kept-mask : IsMaskOf (entries ++ more) (record mask { entries = mask.entries + length (done_in more) })
  kept-mask =
      let count = quiet.is.count in
      let both : length (done_in more ++ done_in entries) ≡ length (done_in more) + length (done_in entries) = length-append (done_in more) (done_in entries) in
      record {
        count = (omega (arith, count, both)) ∙ sym (ap (λ (past : List Request). length past) (done-append entries more));
        events = subst (λ (past : List Request). IsMaskAfter past mask.events) (sym (done-append entries more))
            (same-mask g.mount.config (done_in entries) mask.events done quiet.is.events (done_in more) idle);
      }

pub clear_bits_only_tick : ClearBitsOnlyTick
clear_bits_only_tick g entries more mask quiet = same-ticks g entries more mask quiet

pub clear_bits_keep_the_mask : ClearBitsKeepTheMask
clear_bits_keep_the_mask g entries more mask quiet = kept-mask g entries more mask quiet

pub clear_bits_keep_numbers : ClearBitsKeepNumbers
clear_bits_keep_numbers g entries more mask number cpu pid values quiet =
    ap (λ (events : List Definition). emission_of (event_of events number) cpu pid values) (same-ticks g entries more mask quiet).events
