-- What writes to files, reads and declarations change of each instance.
use Rattle.std.proofs.Common.{◌≡◌, ℕ, ◌<◌, Bool, true, false, List, [], ◌∷◌, length, map, is_some, Option, Some, None, refl, sym, ap, ◌∙◌, arith}
use Rattle.std.proofs.lemmas.Bool.{lt-ltb}
use Rattle.std.proofs.lemmas.Slice.Eq.{bytes_eq-Decides}
use Rattle.std.specs.Option.{option_map}
use Rattle.page_ring.specs.Events.{Event}
use Rattle.trace_filter.specs.Filters.{parsed_of}
use Rattle.trace_format.specs.Catalogs.{AreEvents}
use Rattle.trace_format.specs.Definitions.{Definition}
use Rattle.trace_command.specs.Paths as paths
use Rattle.trace_command.specs.Requests.{Request, WriteFile, ReadFile}
use Rattle.trace_command.specs.declared.command.Config.{Config}
use Rattle.tracer_specification.proofs.EventLists.{named_at}
use Rattle.tracer_specification.specs.History.{missing}
use Rattle.tracer_specification.specs.Rings.{rings, rings_after_read, rings_after_write}
use Rattle.tracer_specification.specs.Settings.{declared_events, event_named, event_named_in, filter_of, is_enabled, is_same, is_tracing, overwrites}
use Rattle.trace_instance.specs.Changes.{IsEffect, filters_after, IsLawful, rings_changed}
use Rattle.trace_instance.specs.FileAnswers.{IsReading}
use Rattle.trace_instance.specs.Files.{IsThere, file_at, name_at}
use Rattle.trace_instance.specs.Instances.{IsUsableInstance, InstanceSeen}
use Rattle.trace_instance.specs.declared.change.InstanceChange.{InstanceChange}
use Rattle.trace_instance.specs.declared.change.InstanceChange.TheVariants.{Keep, Take, TakeCpu}
use Rattle.trace_instance.specs.declared.file.File.{File}
use Rattle.trace_instance.specs.declared.file.File.TheVariants as file
use Rattle.trace_instance.proofs.Calm.{IsQuiet, IsQuietFile, IsWriteEffect, calm-effect, calm-other_write, calm-read, calm-write, either-same, no_event, quiet-keep}
use Rattle.trace_instance.proofs.EventReads.{name-at_place}

-- an instance is the same as itself
pub same_instance : (name : Option (List ℕ)) → is_same name name ≡ true
same_instance None = refl
same_instance (Some name) = (bytes_eq-Decides name name).1 refl

-- ---- writes

-- a write to a file of an instance changes no other
pub other_write : (g : Config) (other name : Option (List ℕ)) (past : List Request) (named : paths.File) (append : Bool) (text : List ℕ)
    → is_same other name ≡ false → IsEffect g other past (WriteFile name (Some named) append text) Keep
other_write g other name past named append text is =
    let kept : map (λ (event : Definition). option_map (parsed_of event) (filter_of other event.name (WriteFile name (Some named) append text ∷ past))) (declared_events past)
    ≡ map (λ (event : Definition). option_map (parsed_of event) (filter_of other event.name past)) (declared_events past) = rw is refl in
    calm-effect g other past (WriteFile name (Some named) append text) Keep (calm-other_write name other past named append text is) quiet-keep
    (record {
      enabled = rw is refl;
      filters = kept;
      overwrite = rw is refl;
      tracing = rw is refl;
      rings = rw is refl;
    })

-- and it changes this one as the file says, if that is neither of snapshots nor of triggers
pub own_write : (g : Config) (name : Option (List ℕ)) (past : List Request) (named : paths.File) (append : Bool) (text : List ℕ) (change : InstanceChange)
    → IsQuietFile named → IsQuiet change → IsWriteEffect g past append text named change
    → IsEffect g name past (WriteFile name (Some named) append text) change
own_write g name past named append text change file quiet is =
    let same = same_instance name in
    let kept : map (λ (event : Definition). option_map (parsed_of event) (filter_of name event.name (WriteFile name (Some named) append text ∷ past))) (declared_events past)
    ≡ filters_after change (map (λ (event : Definition). option_map (parsed_of event) (filter_of name event.name past)) (declared_events past)) =
    rw same (is.filters (λ event. filter_of name event past)) in
    calm-effect g name past (WriteFile name (Some named) append text) change (calm-write name name past named append text file) quiet
    (record {
      enabled = rw same (is.enabled (λ event. is_enabled name event past));
      filters = kept;
      overwrite = rw same (is.overwrite (overwrites name past));
      tracing = rw same (is.tracing (is_tracing name past));
      rings = rw same (is.rings (rings g name past));
    })

-- a declaration empties no ring
declared_rings : (append : Bool) (family : List (List Event)) → rings_after_write append (Some paths.SyntheticEvents) family ≡ family
declared_rings true family = refl
declared_rings false family = refl

-- a declaration changes nothing of the instance with its file
declared_here : (g : Config) (other name : Option (List ℕ)) (past : List Request) (append : Bool) (text : List ℕ)
    → is_same other name ≡ true → IsEffect g other past (WriteFile name (Some paths.SyntheticEvents) append text) Keep
declared_here g other name past append text is =
    let request = WriteFile name (Some paths.SyntheticEvents) append text in
    let kept : map (λ (event : Definition). option_map (parsed_of event) (filter_of other event.name (request ∷ past))) (declared_events past)
    ≡ map (λ (event : Definition). option_map (parsed_of event) (filter_of other event.name past)) (declared_events past) = rw is refl in
    calm-effect g other past request Keep (calm-write name other past paths.SyntheticEvents append text tt) quiet-keep
    (record { enabled = rw is refl; filters = kept; overwrite = rw is refl; tracing = rw is refl; rings = rw is (declared_rings append (rings g other past)) })

-- a declaration changes no instance
pub declaration_effect : (g : Config) (other name : Option (List ℕ)) (past : List Request) (append : Bool) (text : List ℕ)
    → IsEffect g other past (WriteFile name (Some paths.SyntheticEvents) append text) Keep
declaration_effect g other name past append text = by (is_same other name) refl
  where
    by : (same : Bool) → is_same other name ≡ same → IsEffect g other past (WriteFile name (Some paths.SyntheticEvents) append text) Keep
    by true is = declared_here g other name past append text is
    by false is = other_write g other name past paths.SyntheticEvents append text is

-- ---- reads

-- a read of a file of an instance changes no other
pub other_read : (g : Config) (other name : Option (List ℕ)) (past : List Request) (named : Option paths.File) (limit : Option ℕ)
    → is_same other name ≡ false → IsEffect g other past (ReadFile name named limit) Keep
other_read g other name past named limit is =
    calm-effect g other past (ReadFile name named limit) Keep (calm-read name other past named limit) quiet-keep
    (record { enabled = refl; filters = refl; overwrite = refl; tracing = refl; rings = rw is refl })

-- and it changes of this one the rings alone
pub own_read : (g : Config) (name : Option (List ℕ)) (past : List Request) (named : paths.File) (limit : Option ℕ) (change : InstanceChange)
    → IsReading g.cpus change
    → rings_after_read g limit (Some named) (rings g name past) ≡ rings_changed g.pages g.page_bytes change (rings g name past)
    → IsEffect g name past (ReadFile name (Some named) limit) change
own_read g name past named limit Keep reading is =
    calm-effect g name past (ReadFile name (Some named) limit) Keep (calm-read name name past (Some named) limit) quiet-keep
    (record { enabled = refl; filters = refl; overwrite = refl; tracing = refl; rings = rw (same_instance name) is })
own_read g name past named limit (Take counts) reading is =
    calm-effect g name past (ReadFile name (Some named) limit) (Take counts) (calm-read name name past (Some named) limit)
    (record { triggers = λ old. refl; hists = λ old. refl; asks = λ table. refl; joined = λ name past. tt; sides = λ cpus pages page_bytes f. refl })
    (record { enabled = refl; filters = refl; overwrite = refl; tracing = refl; rings = rw (same_instance name) is })
own_read g name past named limit (TakeCpu cpu most) reading is =
    calm-effect g name past (ReadFile name (Some named) limit) (TakeCpu cpu most) (calm-read name name past (Some named) limit)
    (record { triggers = λ old. refl; hists = λ old. refl; asks = λ table. refl; joined = λ name past. tt; sides = λ cpus pages page_bytes f. refl })
    (record { enabled = refl; filters = refl; overwrite = refl; tracing = refl; rings = rw (same_instance name) is })
own_read g name past named limit change reading is = absurd reading

-- a read of the declarations changes no instance
pub declarations_read : (g : Config) (other name : Option (List ℕ)) (past : List Request) (limit : Option ℕ)
    → IsEffect g other past (ReadFile name (Some paths.SyntheticEvents) limit) Keep
declarations_read g other name past limit =
    calm-effect g other past (ReadFile name (Some paths.SyntheticEvents) limit) Keep (calm-read name other past (Some paths.SyntheticEvents) limit) quiet-keep
    (record { enabled = refl; filters = refl; overwrite = refl; tracing = refl; rings = either-same (is_same other name) (rings g other past) })

-- such a change can be made of every instance
pub lawful_read : (g : Config) (events : ℕ) (i : InstanceSeen) (change : InstanceChange) → IsUsableInstance g events i → IsReading g.cpus change
    → IsLawful i change
lawful_read g events i Keep usable reading = tt
lawful_read g events i (Take counts) usable reading = tt
lawful_read g events i (TakeCpu cpu most) usable reading = omega (arith, reading, usable.shaped.live.cpus)
lawful_read g events i change usable reading = absurd reading

-- ---- nothing that was found is missing

event_there : (past : List Request) (events : List Definition) (index : ℕ) → events ≡ declared_events past → AreEvents [] events → index < length events
    → is_some (event_named (name_at events index) past) ≡ true
event_there past events index is are inside =
    let named : is_some (event_named_in events (name_at events index)) ≡ true =
    rw (name-at_place events index no_event inside, named_at events index no_event are inside) refl in
    ap (λ (es : List Definition). is_some (event_named_in es (name_at events index))) (sym is) ∙ named

pub nothing_missing : (g : Config) (past : List Request) (events : List Definition) (found : File) → events ≡ declared_events past → AreEvents [] events
    → IsThere g.cpus events found → missing g past (file_at events found) ≡ None
nothing_missing g past events (file.OfInstance named) is are there = refl
nothing_missing g past events (file.OfCpu cpu named) is are there = rw (lt-ltb cpu g.cpus there) refl
nothing_missing g past events (file.OfEvent event named) is are there = rw (event_there past events event is are there) refl
