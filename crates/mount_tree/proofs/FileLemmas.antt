-- Each file that commands name is one of the tree's.
use Rattle.std.proofs.Common.{◌≡◌, ℕ, eqb, true, Option, Some, None, is_some, List, refl}
use Rattle.std.specs.List.{find}
use Rattle.std.specs.Str.{bytes_eq}
use Rattle.std.proofs.lemmas.Bool.{eq-eqb, false≢true, lt-ltb}
use Rattle.std.proofs.lemmas.Slice.Eq.{bytes_eq-Decides}
use Rattle.trace_command.specs.Paths as paths
use Rattle.trace_command.specs.declared.file_name.EventFile.{EventFile}
use Rattle.trace_command.specs.declared.file_name.TopFile.{TopFile}
use Rattle.trace_command.specs.declared.file_name.TopFile.TheVariants as top
use Rattle.file_list.specs.FileTable.{top_file_parent}
use Rattle.file_list.specs.declared.file.File.TheVariants.{SyntheticEvents, OfInstance, OfCpu, OfEvent}
use Rattle.mount_tree.specs.Children.{folder_is_there}
use Rattle.mount_tree.specs.FileLaws.{HasFile, IsOfTree}
use Rattle.mount_tree.specs.Scenes.{SceneSeen, event_at}
use Rattle.mount_tree.specs.TreeLaws.{IsSound}
use Rattle.mount_tree.specs.declared.node.Owner.TheVariants.{Top}
use Rattle.mount_tree.specs.declared.scene.Event.{Event}
use Rattle.mount_tree.proofs.ListLemmas.{found_one, found_passes, self_found}

top_there : (scene : SceneSeen) (file : TopFile) → folder_is_there scene Top (top_file_parent file) ≡ true
top_there scene top.Trace = refl
top_there scene top.TracePipe = refl
top_there scene top.Overwrite = refl
top_there scene top.TraceOptions = refl
top_there scene top.TracingOn = refl
top_there scene top.Snapshot = refl
top_there scene top.EventsEnable = refl
top_there scene top.EventsFilter = refl

pub of_tree : (scene : SceneSeen) (named : paths.File) → IsSound scene → HasFile scene named → IsOfTree scene named
of_tree scene paths.SyntheticEvents sound has = record { file = SyntheticEvents; there = refl; means = refl }
of_tree scene (paths.OfInstance file) sound has = record { file = OfInstance file; there = top_there scene file; means = refl }
of_tree scene (paths.OfCpu cpu file) sound has = record { file = OfCpu cpu file; there = lt-ltb cpu scene.cpus has; means = refl }
of_tree scene (paths.OfEvent name file) sound has = by (find (λ (e : Event). bytes_eq e.name name) scene.events) refl has
  where
    by : (found : Option Event) → find (λ (e : Event). bytes_eq e.name name) scene.events ≡ found → is_some found ≡ true
        → IsOfTree scene (paths.OfEvent name file)
    by None is some = absurd (false≢true some)
    by (Some e) is some =
        let named : e.name ≡ name =
        (bytes_eq-Decides e.name name).0 (found_passes (λ (x : Event). bytes_eq x.name name) scene.events e is) in
        let at : event_at e.index scene.events ≡ Some e =
        found_one (λ (x : Event). event_at x.index scene.events ≡ Some x) (λ (x : Event). bytes_eq x.name name) scene.events e
        (self_found eqb (λ (x : Event). x.index) scene.events (λ k. eq-eqb k k refl) sound.distinct_indexes) is in
        record { file = OfEvent e.index file; there = rw at refl; means = rw (at, named) refl }
