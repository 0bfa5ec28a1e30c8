-- What is prepared for a write or a read, once its path was looked up.
use Rattle.std.proofs.Common.{◌≡◌, ℕ, ◌+◌, ◌<◌, Bool, true, false, nat_lt, nat_le, not, ◌&&◌, if◌then◌else◌, List, [], length, get_or, is_some, Option, Some, None, Result, Ok, Err, refl, sym, ap, ◌∙◌, subst, arith}
use Rattle.std.proofs.lemmas.Bool.{ltb-false, leb-false}
use Rattle.trace_format.specs.Catalogs.{AreEvents, id_for, id_of}
use Rattle.trace_format.specs.Cells.{record_size_of}
use Rattle.trace_format.specs.Definitions.{Definition, IsDefinition}
use Rattle.trace_format.specs.Reading.{definition_of, cause_in}
use Rattle.trace_format.specs.declared.fault.CatalogFault.TheVariants as catalog
use Rattle.trace_format.proofs.CatalogLemmas.{new_event}
use Rattle.trace_command.specs.Paths as paths
use Rattle.trace_command.specs.Paths.{Address}
use Rattle.trace_command.specs.Refusals.{IsRefusal}
use Rattle.trace_command.specs.Requests.{Request, WriteFile, ReadFile}
use Rattle.trace_command.specs.declared.command.Config.{Config}
use Rattle.trace_command.specs.declared.command.Reply.{Reply}
use Rattle.trace_command.specs.declared.command.Reply.TheVariants.{Done, Text}
use Rattle.trace_command.specs.declared.refusal.Refusal.{Refusal}
use Rattle.tracer_specification.specs.FileTexts.{declarations_text}
use Rattle.tracer_specification.specs.History.{added_answer, answer_with_room, declaration_answer, file_answer, instance_answer, missing, read_answer, read_declaration_answer, write_answer}
use Rattle.tracer_specification.specs.Settings.{declared_events, instance_names, is_there, is_same}
use Rattle.trace_instance.specs.Changes.{IsEffect}
use Rattle.trace_instance.specs.FileAnswers.{IsRead, IsReadable, IsSource, IsWriteChange}
use Rattle.trace_instance.specs.Files.{IsThere, file_at}
use Rattle.tracer_state.specs.private.Files.{IsAt, IsResolved}
use Rattle.trace_instance.specs.Instances.{InstanceSeen, InstanceStandsFor, IsUsableInstance}
use Rattle.tracer_state.specs.States.{IsChanged, IsChangeOf, IsFresh, IsPlain, IsPrepared, IsUsable, StandsFor}
use Rattle.tracer_state.specs.declared.change.Change.TheVariants.{Declare, Instance}
use Rattle.trace_instance.specs.declared.change.InstanceChange.{InstanceChange}
use Rattle.trace_instance.specs.declared.change.InstanceChange.TheVariants.{Keep}
use Rattle.trace_instance.specs.declared.read.Shown.{Shown}
use Rattle.trace_instance.specs.declared.read.FileSource.{FileSource}
use Rattle.trace_instance.specs.declared.file.File.{File}
use Rattle.trace_instance.specs.declared.file.File.TheVariants as file
use Rattle.tracer_state.specs.declared.resolve.Target.TheVariants as target
use Rattle.tracer_state.specs.declared.state.Named.{Named}
use Rattle.tracer_state.specs.declared.state.State.{State}
use Rattle.tracer_state.proofs.EachInstance.{length-names_of}
use Rattle.trace_instance.proofs.Effects.{declaration_effect, declarations_read, lawful_read, nothing_missing, other_read, other_write, own_read}

-- ---- requests that change one instance alone

-- a write to a file that is none of declarations declares nothing
pub plain_write : (name : Option (List ℕ)) (events : List Definition) (found : File) (append : Bool) (text : List ℕ)
    → IsPlain (WriteFile name (Some (file_at events found)) append text)
plain_write name events (file.OfInstance named) append text = record { declares = refl; made = refl; removed = refl; ticks = refl }
plain_write name events (file.OfCpu cpu named) append text = record { declares = refl; made = refl; removed = refl; ticks = refl }
plain_write name events (file.OfEvent event named) append text = record { declares = refl; made = refl; removed = refl; ticks = refl }

pub plain_read : (name : Option (List ℕ)) (named : Option paths.File) (limit : Option ℕ) → IsPlain (ReadFile name named limit)
plain_read name named limit = record { declares = refl; made = refl; removed = refl; ticks = refl }

-- ---- what was found is there

-- it can be read of an instance
pub readable : (g : Config) (source : FileSource) (found : File) → IsUsableInstance g (length source.catalog.now) source.instance.now
    → IsThere g.cpus source.catalog.now found → IsReadable source found
readable g source (file.OfInstance named) usable there = tt
readable g source (file.OfCpu cpu named) usable there = omega (arith, there, usable.shaped.live.cpus)
readable g source (file.OfEvent event named) usable there = record {
  declared = there;
  enabled = omega (arith, there, usable.enabled);
  filters = omega (arith, there, usable.filters);
  triggers = omega (arith, there, usable.triggers);
  hists = omega (arith, there, usable.hists);
  tables = usable.tables event [] (omega (arith, there, usable.hists));
}

-- ---- what an address answers

-- a file that is there is answered
answered-there : {A : Type 0} (g : Config) (past : List Request) (name : Option (List ℕ)) (answered : paths.File → Result A Refusal) (named : paths.File)
    → is_there name past ≡ true → missing g past named ≡ None
    → instance_answer name past (file_answer g past answered (Some named)) ≡ answered named
answered-there g past name answered named is none = rw (is, none) refl

-- the instance at an index is what the requests say of the one of this name
pub stands-at : (g : Config) (state : State) (past : List Request) (index : ℕ) (name : Option (List ℕ)) (n : Named)
    → StandsFor g state past → IsAt state index name → n ≡ get_or state.instances.items index n → InstanceStandsFor g name past n.instance
stands-at g state past index name n stands at is =
    let called : n.name ≡ name = ap (λ (m : Named). m.name) is ∙ at.1 n in
    let own : InstanceStandsFor g n.name past n.instance =
    subst (λ (m : Named). InstanceStandsFor g m.name past m.instance) (sym is) (stands.each index n at.0) in
    subst (λ (o : Option (List ℕ)). InstanceStandsFor g o past n.instance) called own

-- a file of an instance that was found for an address
module _ (g : Config) (state : State) (past : List Request) (a : Address) (index : ℕ) (found : File) (stands : StandsFor g state past)
    (resolved : IsResolved g state past a (Ok (target.Of index found))) where
  abbrev named : paths.File
  named = file_at state.catalog found

  -- it is answered
  pub answered-found : {A : Type 0} (answered : paths.File → Result A Refusal)
      → instance_answer a.instance past (file_answer g past answered a.file) ≡ answered named
  answered-found answered =
      ap (λ (f : Option paths.File). instance_answer a.instance past (file_answer g past answered f)) resolved.2
      ∙ answered-there g past a.instance answered named resolved.0
      (nothing_missing g past state.catalog found stands.events
      (subst (λ (events : List Definition). AreEvents [] events) (sym stands.events) stands.distinct) resolved.3)

  -- or refused, whatever is asked of it
  pub refused-found : (answered : paths.File → Result Reply Refusal) (refused : Refusal) → IsRefusal refused (answered named)
      → IsRefusal refused (instance_answer a.instance past (file_answer g past answered a.file))
  refused-found answered refused is = subst (λ (r : Result Reply Refusal). IsRefusal refused r) (sym (answered-found answered)) is

  -- a request that changes it changes no other instance
  changes-found : (request : Request) (change : InstanceChange) → IsPlain request
      → ((other : Option (List ℕ)) → is_same other a.instance ≡ false → IsEffect g other past request Keep)
      → IsEffect g a.instance past request change → IsChangeOf g state past request (Instance index change)
  changes-found request change plain others own = λ d.
      let changed : IsChanged g past request a.instance = record { plain = plain; others = others } in
      subst (λ (n : Option (List ℕ)). IsChanged g past request n × IsEffect g n past request change) (sym (resolved.1.1 d)) (changed, own)

  pub writes-found : (append : Bool) (text : List ℕ) (change : InstanceChange) → IsWriteChange g a.instance past append text named (Ok change)
      → IsPrepared g past (WriteFile a.instance a.file append text) state (Ok (record { change = Instance index change; reply = Done }))
  writes-found append text change write = (
    answered-found (write_answer g a.instance past append text) ∙ write.0,
    rw resolved.2 (changes-found (WriteFile a.instance (Some named) append text) change (plain_write a.instance state.catalog found append text)
        (λ other differ. other_write g other a.instance past named append text differ) write.1),
    (
      resolved.1.0,
      λ d. write.2 (get_or state.instances.items index d).instance
          (subst (λ (o : Option (List ℕ)). InstanceStandsFor g o past (get_or state.instances.items index d).instance) (resolved.1.1 d)
          (stands.each index d resolved.1.0)),
    ),
  )

  pub reads-found : (limit : Option ℕ) (shown : Shown) → IsUsable g state → IsRead g a.instance past limit named (Ok shown)
      → IsPrepared g past (ReadFile a.instance a.file limit) state (Ok (record { change = Instance index shown.change; reply = shown.reply }))
  reads-found limit shown usable read = (
    answered-found (read_answer g a.instance past limit) ∙ read.0,
    rw resolved.2 (changes-found (ReadFile a.instance (Some named) limit) shown.change (plain_read a.instance (Some named) limit)
        (λ other differ. other_read g other a.instance past (Some named) limit differ)
        (own_read g a.instance past named limit shown.change read.1 read.2)),
    (
      resolved.1.0,
      λ d. lawful_read g (length state.catalog) (get_or state.instances.items index d).instance shown.change (usable.each index d resolved.1.0) read.1,
    ),
  )

-- ---- declarations

-- an event that may be added
fresh_event : (g : Config) (past : List Request) (event : Definition) (id : ℕ) → IsDefinition event → id_for (declared_events past) event g.page_bytes ≡ Ok id
    → IsFresh g past event
fresh_event g past event id defined is =
    by (is_some (id_of events event.name)) (nat_lt 16 (length event.fields)) (nat_le 64 (length events)) (nat_lt g.page_bytes (record_size_of event)) refl refl refl refl is
  where
    events : List Definition
    events = declared_events past

    by : (there many full big : Bool) → is_some (id_of events event.name) ≡ there → nat_lt 16 (length event.fields) ≡ many
        → nat_le 64 (length events) ≡ full → nat_lt g.page_bytes (record_size_of event) ≡ big
        → (if there then Err catalog.EventExists else if many then Err catalog.TooManyFields else if full then Err catalog.TooManyEvents else if big then Err catalog.TooBig else Ok (length events + 1)) ≡ Ok id
        → IsFresh g past event
    by true many full big a b c e done = absurd (cc)
    by false true full big a b c e done = absurd (cc)
    by false false true big a b c e done = absurd (cc)
    by false false false true a b c e done = absurd (cc)
    by false false false false a b c e done =
        let few = ltb-false 16 (length event.fields) b in
        let is_event = new_event events event defined few a in
        record {
          unknown = rw is_event.new refl;
          few = leb-false 64 (length events) c;
          fit = record { fields = few; size = ltb-false g.page_bytes (record_size_of event) e };
          is_event = is_event;
        }

-- events are there or not, and a declaration may begin anew or not
pub free-appended : (append : Bool) (events : ℕ) → append ≡ true → (not append && nat_lt 0 events) ≡ false
free-appended append events is = rw is refl

pub free-empty : (append : Bool) (events : ℕ) → events ≡ 0 → (not append && nat_lt 0 events) ≡ false
free-empty true events none = refl
free-empty false events none = rw none refl

-- where it may, the catalog says whether the event can be added
new-answers : (g : Config) (state : State) (past : List Request) (name : Option (List ℕ)) (append : Bool) (text : List ℕ) (event : Definition)
    → StandsFor g state past → is_there name past ≡ true → definition_of text ≡ Ok event
    → (not append && nat_lt 0 (length state.catalog)) ≡ false
    → answer_with_room g past (WriteFile name (Some paths.SyntheticEvents) append text) ≡ added_answer (id_for state.catalog event g.page_bytes)
unfolding declaration_answer
new-answers g state past name append text event stands is read free =
    let same : (not append && nat_lt 0 (length (declared_events past))) ≡ false = rw (← stands.events) free in
    answered-there g past name (write_answer g name past append text) paths.SyntheticEvents is refl ∙ ap (read_declaration_answer g past append (cause_in text)) read
    ∙ rw (same, stands.events) refl

pub added : (g : Config) (state : State) (past : List Request) (name : Option (List ℕ)) (append : Bool) (text : List ℕ) (event : Definition)
    (id : ℕ) → StandsFor g state past → is_there name past ≡ true → definition_of text ≡ Ok event → IsDefinition event
    → (not append && nat_lt 0 (length state.catalog)) ≡ false → id_for state.catalog event g.page_bytes ≡ Ok id
    → IsPrepared g past (WriteFile name (Some paths.SyntheticEvents) append text) state (Ok (record { change = Declare event; reply = Done }))
added g state past name append text event id stands is read defined free given =
    let fresh = fresh_event g past event id defined (rw (← stands.events) given) in (
      new-answers g state past name append text event stands is read free ∙ ap added_answer given,
      record {
        declares = rw read refl;
        made = refl;
        removed = refl;
        ticks = refl;
        fresh = fresh;
        effect = λ other. declaration_effect g other name past append text;
      },
      (rw stands.events fresh.few, rw given refl),
    )

-- the declarations are read whole, and nothing is changed
pub declarations-shown : (g : Config) (state : State) (past : List Request) (name : Option (List ℕ)) (limit : Option ℕ) (text : List ℕ)
    → StandsFor g state past → is_there name past ≡ true → limit ≡ None → text ≡ declarations_text past
    → IsPrepared g past (ReadFile name (Some paths.SyntheticEvents) limit) state (Ok (record { change = Instance 0 Keep; reply = Text text }))
declarations-shown g state past name limit text stands is none shown =
    let some : 0 < length state.instances.items = omega (arith, length-names_of state.instances.items (instance_names past) stands.names) in (
      rw (is, none, shown) refl,
      λ d. (
        record { plain = plain_read name (Some paths.SyntheticEvents) limit; others = λ other differ. declarations_read g other name past limit },
        declarations_read g (get_or state.instances.items 0 d).name name past limit,
      ),
      (some, λ d. tt),
    )

-- what the instance at an index is read from
pub is-source : (g : Config) (state : State) (past : List Request) (source : FileSource) (index : ℕ) (name : Option (List ℕ)) (n : Named)
    → StandsFor g state past → IsAt state index name → source.catalog.now ≡ state.catalog → source.clock ≡ state.clock
    → n ≡ get_or state.instances.items index n → source.instance.now ≡ n.instance → IsSource g name past source
is-source g state past source index name n stands at catalog clock is instance = record {
  events = catalog ∙ stands.events;
  distinct = stands.distinct;
  clock = clock ∙ stands.clock;
  instance = subst (λ (i : InstanceSeen). InstanceStandsFor g name past i) (sym instance) (stands-at g state past index name n stands at is);
}
