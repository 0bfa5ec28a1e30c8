-- The instance of an owner that is there.
use Rattle.std.proofs.Common.{◌≡◌, ℕ, eqb, Bool, true, false, ◌||◌, cond, List, [], ◌∷◌, Option, Some, None, option_map, is_some, Result, Ok, Err, IfOk, refl, ap, ◌∙◌, subst, sym}
use Rattle.std.specs.List.{find, list_any}
use Rattle.std.specs.Str.{bytes_eq}
use Rattle.std.proofs.lemmas.Bool.{false≢true}
use Rattle.std.proofs.lemmas.Slice.Eq.{bytes_eq-Decides}
use Rattle.trace_command.specs.Requests.{Request}
use Rattle.tracer_specification.specs.Settings.{is_there}
use Rattle.trace_command.specs.declared.command.Config.{Config}
use Rattle.mount_tree.specs.Children.{owner_is_there}
use Rattle.mount_tree.specs.Children.{is_there as files_there}
use Rattle.mount_tree.specs.NodePaths.{owner_name}
use Rattle.mount_tree.specs.Scenes.{SceneSeen, instance_at}
use Rattle.mount_tree.specs.ScenesAfter.{instances_after, scene_after}
use Rattle.file_list.specs.declared.file.File.{File}
use Rattle.mount_tree.specs.declared.node.Node.TheVariants as nodes
use Rattle.mount_tree.specs.declared.node.Owner.{Owner}
use Rattle.mount_tree.specs.declared.node.Owner.TheVariants.{Top, Made}
use Rattle.mount_tree.specs.declared.scene.Instance.{Instance}
use Rattle.mount_tree.proofs.SerialLemmas.{instance_names_of, names-instances_after}
use Rattle.mount_stub_files.specs.ToolTexts.{text_there, tool_text}

found_named : (test : Instance → Bool) (instances : List Instance) (i : Instance) → find test instances ≡ Some i
    → list_any (bytes_eq i.name) (instance_names_of instances) ≡ true
found_named test [] i is = absurd (cc)
found_named test (first ∷ instances) i is = by (test first) (found_named test instances i) is
  where
    itself : (name : List ℕ) → bytes_eq name name ≡ true
    itself name = (bytes_eq-Decides name name).1 refl

    later : (b : Bool) → list_any (bytes_eq i.name) (instance_names_of instances) ≡ true
        → (b || list_any (bytes_eq i.name) (instance_names_of instances)) ≡ true
    later true rest = refl
    later false rest = rest

    by : (b : Bool) → (find test instances ≡ Some i → list_any (bytes_eq i.name) (instance_names_of instances) ≡ true)
        → cond b (Some first) (find test instances) ≡ Some i → list_any (bytes_eq i.name) (first.name ∷ instance_names_of instances) ≡ true
    by true rest e =
        let same : first ≡ i = cc in
        rw (ap (λ (x : Instance). bytes_eq i.name x.name) same ∙ itself i.name) refl
    by false rest e = later (bytes_eq i.name first.name) (rest e)

-- an owner that is there is an instance that is there
pub owner-there : (cpus : ℕ) (past : List Request) (owner : Owner) → owner_is_there (scene_after cpus past) owner ≡ true
    → is_there (owner_name (scene_after cpus past) owner) past ≡ true
owner-there cpus past Top there = refl
owner-there cpus past (Made serial) there = by (instance_at serial (instances_after past)) refl there
  where
    by : (o : Option Instance) → instance_at serial (instances_after past) ≡ o → is_some o ≡ true
        → is_there (option_map (λ (i : Instance). i.name) o) past ≡ true
    by None at some = absurd (false≢true some)
    by (Some i) at some =
        ap (λ (names : List (List ℕ)). list_any (bytes_eq i.name) names) (sym (names-instances_after past))
        ∙ found_named (λ (x : Instance). eqb x.serial serial) (instances_after past) i at

pub owner-named : (cpus : ℕ) (past : List Request) (scene : SceneSeen) (owner : Owner) → scene ≡ scene_after cpus past
    → owner_is_there scene owner ≡ true → is_there (owner_name scene owner) past ≡ true
owner-named cpus past scene owner is there =
    subst (λ (s : SceneSeen). owner_is_there s owner ≡ true → is_there (owner_name s owner) past ≡ true) (sym is) (owner-there cpus past owner) there

-- what a file that is there shows
pub shown_there : (g : Config) (past : List Request) (scene : SceneSeen) (owner : Owner) (file : File) → scene ≡ scene_after g.cpus past
    → files_there scene (nodes.File owner file) ≡ true → text_there g (owner_name scene owner) past file ≡ tool_text g past owner file
shown_there g past scene owner file is there =
    subst (λ (s : SceneSeen). files_there s (nodes.File owner file) ≡ true → text_there g (owner_name s owner) past file ≡ tool_text g past owner file)
    (sym is) (λ here. rw here refl) there

pub if_ok : {A E : Type 0} {P Q : A → Type 0} (r : Result A E) → ((x : A) → P x → Q x) → IfOk r P → IfOk r Q
if_ok (Ok x) more holds = more x holds
if_ok (Err e) more holds = tt
