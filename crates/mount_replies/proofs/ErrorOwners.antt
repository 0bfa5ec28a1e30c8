-- Only of instances that are there errors are kept.
use Rattle.std.proofs.Common.{◌≡◌, inl, inr, ℕ, ◌+◌, nat_lt, eqb, Bool, true, false, not, cond, if◌then◌else◌, List, [], ◌∷◌, ◌++◌, All, find, filter, count_by, take, drop, is_some, option_map, Option, Some, None, Result, Ok, Err, refl, sym, ap, subst, ◌∙◌, append-nil, arith}
use Rattle.std.specs.List.{AllByRecursion, position_or_len}
use Rattle.std.specs.Option.{option_or}
use Rattle.std.specs.Str.{bytes_eq}
use Rattle.std.proofs.lemmas.Bool.{false_from_ne_true, false≢true}
use Rattle.std.proofs.lemmas.List.Elements.{All-append, All-cons, All-drop, All-filter, All-head, All-nil, All-push, All-tail, All-take, All-weaker}
use Rattle.std.proofs.lemmas.List.Folds.{find-append}
use Rattle.std.proofs.lemmas.Slice.Eq.{bytes_eq-Decides}
use Rattle.fuse_wire.specs.declared.reply.Reply.{Reply}
use Rattle.fuse_wire.specs.declared.reply.Reply.TheVariants as replies
use Rattle.trace_command.specs.Requests.{Emission, MakeInstance, ReadFile, RemoveInstance, Request, WriteFile}
use Rattle.trace_command.specs.declared.command.Reply.{Reply as Answer}
use Rattle.trace_command.specs.declared.refusal.Refusal.{Refusal}
use Rattle.tracer_specification.specs.Settings.{made, removed}
use Rattle.error_log.specs.Errors.{ErrorSeen}
use Rattle.error_log.specs.Logs.{is_of, is_same, noted, without_first}
use Rattle.mount_tree.proofs.EntryLemmas.{named_instances}
use Rattle.mount_tree.proofs.ListLemmas.{found_one, found_passes, self_found}
use Rattle.mount_tree.proofs.SoundLemmas.{instances-sound}
use Rattle.mount_tree.specs.Children.{owner_is_there}
use Rattle.mount_tree.specs.Scenes.{instance_at, without_named}
use Rattle.mount_tree.specs.ScenesAfter.{instances_after, left_instances, made_after, made_instance, scene_after}
use Rattle.file_list.specs.declared.folder.Folder.TheVariants as folders
use Rattle.mount_tree.specs.declared.node.Node.{Node}
use Rattle.mount_tree.specs.declared.node.Node.TheVariants as nodes
use Rattle.mount_tree.specs.declared.node.Owner.{Owner}
use Rattle.mount_tree.specs.declared.node.Owner.TheVariants.{Top, Made}
use Rattle.mount_tree.specs.declared.scene.Instance.{Instance}
use Rattle.mount_replies.proofs.AskedSteps.{IsOfEach, IsOfThere, NotesThere, parked-is, step-is}
use Rattle.mount_replies.proofs.DoneLemmas.{turn-done}
use Rattle.mount_replies.proofs.RunLemmas.{lines-keep}
use Rattle.mount_replies.proofs.TurnLemmas.{call-keeps, call_step, turns-keep}
use Rattle.mount_replies.proofs.ShownTurns.{shown-there}
use Rattle.mount_replies.specs.Calls.{Called, Exchanged, IsTurned, Shows, Turn}
use Rattle.mount_replies.specs.Mounted.{AreServed, Does, IsExchanged, Right, TellsOwed, Unframed, Wrong, past_after}
use Rattle.mount_replies.specs.Owed.{Owed, ReplyAt, WakeupAt, owed, step_of_parked}
use Rattle.mount_replies.specs.PastLaws.{ErrorsAreOfInstances, WasDone, just_mounted}
use Rattle.mount_replies.specs.Served.{forgotten, step_of}
use Rattle.mount_replies.specs.Services.{Service, Terms, without_read}
use Rattle.mount_replies.specs.ShownTexts.{shown_step}
use Rattle.mount_replies.specs.Steps.{Asks, AsksLines, AsksNoting, Counts, Forgets, Interrupts, Keeps, Notes, Noting, Parks, Plain, Step, Takes, Tells, errors_after}
use Rattle.mount_replies.specs.Told.{found_in}
use Rattle.mount_replies.specs.declared.counted.Counted.{Counted}

-- ---- lists

-- where none is found, none passes
none-passes : {X : Type 0} (test : X → Bool) (xs : List X) → find test xs ≡ None → AllByRecursion (λ x. test x ≡ false) xs
none-passes test [] none = tt
none-passes {X} test (x ∷ xs) none = by (test x) refl (none-passes test xs) none
  where
    by : (b : Bool) → test x ≡ b → (find test xs ≡ None → AllByRecursion (λ y. test y ≡ false) xs) → cond b (Some x) (find test xs) ≡ None
        → AllByRecursion (λ y. test y ≡ false) (x ∷ xs)
    by true at rest e = absurd (let no : Some x ≡ None = e in cc)
    by false at rest e = (at, rest e)

-- what is found is still found where it is kept
still-found : {X : Type 0} (test keep : X → Bool) (xs : List X) (x : X) → find test xs ≡ Some x → keep x ≡ true → is_some (find test (filter keep xs)) ≡ true
still-found {X} test keep [] x is kept = absurd (let no : None ≡ Some x = is in cc)
still-found {X} test keep (y ∷ ys) x is kept = by (test y) refl (λ e. still-found test keep ys x e kept) is
  where
    either : (b : Bool) → is_some (find test (filter keep ys)) ≡ true → is_some (cond b (Some y) (find test (filter keep ys))) ≡ true
    either true rest = refl
    either false rest = rest

    skip : (b : Bool) → is_some (find test (filter keep ys)) ≡ true → is_some (find test (cond b (y ∷ filter keep ys) (filter keep ys))) ≡ true
    skip true rest = either (test y) rest
    skip false rest = rest

    by : (b : Bool) → test y ≡ b → (find test ys ≡ Some x → is_some (find test (filter keep ys)) ≡ true) → cond b (Some y) (find test ys) ≡ Some x
        → is_some (find test (cond (keep y) (y ∷ filter keep ys) (filter keep ys))) ≡ true
    by true at rest e =
        let same : y ≡ x = cc in
        let stays : keep y ≡ true = ap keep same ∙ kept in
        rw (stays, at) refl
    by false at rest e = skip (keep y) (rest e)

all-filtered : {X : Type 0} (P Q : X → Type 0) (keep : X → Bool) → ((x : X) → Q x → keep x ≡ true → P x) → (xs : List X) → All Q xs → All P (filter keep xs)
all-filtered P Q keep each [] all = All-nil P
all-filtered {X} P Q keep each (x ∷ xs) all = by (keep x) refl (all-filtered P Q keep each xs (All-tail Q x xs all))
  where
    by : (b : Bool) → keep x ≡ b → All P (filter keep xs) → All P (cond b (x ∷ filter keep xs) (filter keep xs))
    by true at rest = All-cons P x (filter keep xs) (each x (All-head Q x xs all) at) rest
    by false at rest = rest

-- ---- instances that stay

abbrev IsOwned : Terms → List Request → Owner → Type 0
IsOwned g past owner = owner_is_there (scene_after g.config.cpus past) owner ≡ true

abbrev AreOwned : Terms → List Request → List ErrorSeen → Type 0
AreOwned g past errors = All (λ (e : ErrorSeen). IsOwned g past e.owner) errors

first-some : (one other : Option Instance) → is_some one ≡ true → is_some (option_or one other) ≡ true
first-some None other some = absurd (false≢true some)
first-some (Some i) other some = refl

-- a request that takes no instance away
abbrev LeavesAll : Request → Type 0
LeavesAll request = removed request ≡ None

one-stays : (g : Terms) (past : List Request) (request : Request) (owner : Owner) → LeavesAll request → IsOwned g past owner → IsOwned g (request ∷ past) owner
one-stays g past request Top leaves there = refl
one-stays g past request (Made serial) leaves there =
    let new = made_instance (made_after past) (made request) in
    let after : instances_after (request ∷ past) ≡ instances_after past ++ new =
    ap (λ (r : Option (List ℕ)). left_instances r (instances_after past) ++ new) leaves in
    let found : instance_at serial (instances_after (request ∷ past)) ≡ option_or (instance_at serial (instances_after past)) (instance_at serial new) =
    ap (instance_at serial) after ∙ find-append (λ (i : Instance). eqb i.serial serial) (instances_after past) new in
    subst (λ (o : Option Instance). is_some o ≡ true) (sym found) (first-some (instance_at serial (instances_after past)) (instance_at serial new) there)

all-stay : (g : Terms) (past : List Request) (request : Request) (errors : List ErrorSeen) → LeavesAll request → AreOwned g past errors
    → AreOwned g (request ∷ past) errors
all-stay g past request errors leaves all =
    All-weaker (λ (e : ErrorSeen). IsOwned g past e.owner) (λ (e : ErrorSeen). IsOwned g (request ∷ past) e.owner)
    (λ e there. one-stays g past request e.owner leaves there) errors all

past-stays : (g : Terms) (past : List Request) (request : Request) (answer : Result Answer Refusal) (errors : List ErrorSeen) → LeavesAll request
    → AreOwned g past errors → AreOwned g (past_after answer request past) errors
past-stays g past request (Ok answer) errors leaves all = all-stay g past request errors leaves all
past-stays g past request (Err refusal) errors leaves all = all

-- ---- errors that are noted

noted-owned : (P : ErrorSeen → Type 0) (error : ErrorSeen) (errors : List ErrorSeen) → P error → All P errors → All P (noted error errors)
noted-owned P error errors new all = by (nat_lt 8 (count_by (is_of error.owner) longer))
  where
    longer : List ErrorSeen
    longer = errors ++ error ∷ []

    pushed : All P longer
    pushed = All-push P errors error all new

    by : (b : Bool) → All P (if b then without_first error.owner longer else longer)
    by true =
        All-append P (take (position_or_len (is_of error.owner) longer) longer) (drop (position_or_len (is_of error.owner) longer + 1) longer)
        (All-take P (position_or_len (is_of error.owner) longer) longer pushed)
        (All-drop P (position_or_len (is_of error.owner) longer + 1) longer pushed)
    by false = pushed

noting-owned : (g : Terms) (past : List Request) (noting : Noting) (errors : List ErrorSeen) → NotesThere (scene_after g.config.cpus past) noting
    → AreOwned g past errors → AreOwned g past (errors_after noting errors)
noting-owned g past Keeps errors notes all = all
noting-owned g past (Notes error) errors notes all = noted-owned (λ (e : ErrorSeen). IsOwned g past e.owner) error errors notes all
noting-owned g past (Forgets owner) errors notes all =
    All-filter (λ (e : ErrorSeen). not (is_of owner e)) (λ (e : ErrorSeen). IsOwned g past e.owner) errors all

-- ---- an instance that is removed

forgotten-notes : (g : Terms) (past : List Request) (target : Option Node) → NotesThere (scene_after g.config.cpus past) (forgotten target)
forgotten-notes g past None = tt
forgotten-notes g past (Some (nodes.Folder owner folder)) = tt
forgotten-notes g past (Some (nodes.File owner file)) = tt

-- the instances without that of a name, where no two have one name
module _ (g : Terms) (past : List Request) (name : List ℕ) (request : Request) (after-is : instances_after (request ∷ past) ≡ without_named name (instances_after past)) where
  abbrev has_name : Instance → Bool
  has_name i = bytes_eq i.name name

  -- an instance of another name is there still
  owner-left : (owner : Owner) → ((serial : ℕ) (i : Instance) → owner ≡ Made serial → instance_at serial (instances_after past) ≡ Some i → has_name i ≡ false)
      → IsOwned g past owner → IsOwned g (request ∷ past) owner
  owner-left Top apart there = refl
  owner-left (Made serial) apart there = by (instance_at serial (instances_after past)) refl there
    where
      by : (o : Option Instance) → instance_at serial (instances_after past) ≡ o → is_some o ≡ true → IsOwned g (request ∷ past) (Made serial)
      by None at some = absurd (false≢true some)
      by (Some i) at some =
          subst (λ (l : List Instance). is_some (instance_at serial l) ≡ true) (sym after-is)
          (still-found (λ (x : Instance). eqb x.serial serial) (λ (x : Instance). not (has_name x)) (instances_after past) i at (ap not (apart serial i refl at)))

  -- that of this name is one
  one-named : (serial : ℕ) (i j : Instance) → AllByRecursion (λ (x : Instance). find (λ (y : Instance). bytes_eq y.name x.name) (instances_after past) ≡ Some x) (instances_after past)
      → find has_name (instances_after past) ≡ Some j → instance_at serial (instances_after past) ≡ Some i → has_name i ≡ true → eqb j.serial serial ≡ true
  one-named serial i j selves found at named =
      let same : i.name ≡ name = (bytes_eq-Decides i.name name).0 named in
      let self = found_one (λ (x : Instance). find (λ (y : Instance). bytes_eq y.name x.name) (instances_after past) ≡ Some x) (λ (x : Instance). eqb x.serial serial)
      (instances_after past) i selves at in
      let both : Some j ≡ Some i = sym found ∙ subst (λ (n : List ℕ). find (λ (y : Instance). bytes_eq y.name n) (instances_after past) ≡ Some i) same self in
      let one : j ≡ i = cc in
      ap (λ (x : Instance). eqb x.serial serial) one ∙ found_passes (λ (x : Instance). eqb x.serial serial) (instances_after past) i at

  errors-left : (errors : List ErrorSeen) → AllByRecursion (λ (x : Instance). find (λ (y : Instance). bytes_eq y.name x.name) (instances_after past) ≡ Some x) (instances_after past)
      → AreOwned g past errors → (o : Option Instance) → find has_name (instances_after past) ≡ o
      → AreOwned g (request ∷ past) (errors_after (forgotten (option_map (λ (i : Instance). nodes.Folder (Made i.serial) folders.Root) o)) errors)
  errors-left errors selves all None none =
      All-weaker (λ (e : ErrorSeen). IsOwned g past e.owner) (λ (e : ErrorSeen). IsOwned g (request ∷ past) e.owner)
      (λ e there. owner-left e.owner
      (λ serial i whose at. found_one (λ (x : Instance). has_name x ≡ false) (λ (x : Instance). eqb x.serial serial) (instances_after past) i
      (none-passes has_name (instances_after past) none) at) there) errors all
  errors-left errors selves all (Some j) found =
      all-filtered (λ (e : ErrorSeen). IsOwned g (request ∷ past) e.owner) (λ (e : ErrorSeen). IsOwned g past e.owner) (λ (e : ErrorSeen). not (is_of (Made j.serial) e))
      (λ e there kept. owner-left e.owner
      (λ serial i whose at. false_from_ne_true (has_name i)
      (λ named.
      let same : is_of (Made j.serial) e ≡ true = ap (is_same (Made j.serial)) whose ∙ one-named serial i j selves found at named in
      false≢true (sym (ap not same) ∙ kept))) there) errors all

removal-owned : (g : Terms) (past : List Request) (name : List ℕ) (errors : List ErrorSeen) → WasDone g past → AreOwned g past errors
    → AreOwned g (RemoveInstance (Some name) ∷ past)
    (errors_after (forgotten (found_in (scene_after g.config.cpus past) name (Some (nodes.Folder Top folders.Instances)))) errors)
removal-owned g past name errors was all =
    let request = RemoveInstance (Some name) in
    let after : instances_after (request ∷ past) ≡ without_named name (instances_after past) = append-nil (without_named name (instances_after past)) in
    let selves = self_found bytes_eq (λ (i : Instance). i.name) (instances_after past) (λ k. (bytes_eq-Decides k k).1 refl)
    (instances-sound g.config past was.done).distinct in
    subst (λ (t : Option Node). AreOwned g (request ∷ past) (errors_after (forgotten t) errors)) (sym (named_instances name (instances_after past)))
    (errors-left g past name request after errors selves all (find (λ (i : Instance). bytes_eq i.name name) (instances_after past)) refl)

-- ---- steps

abbrev Owned : Terms → Service → Type 0
Owned g s = AreOwned g s.past s.errors

all-leave : (g : Terms) → IsOfEach g LeavesAll
all-leave g = record {
  whole = λ scene node. refl;
  some = λ scene node most few. refl;
  wrote = λ scene node append text. refl;
  made = λ name. refl;
  injected = λ pid event pairs. refl;
}

abbrev any_count : Counted → Type 0
any_count count = Unit {0}

does-owned : (g : Terms) (before : Service) (step : Step) (reply : Option Reply) (after : Service) → WasDone g before.past
    → IsOfThere LeavesAll any_count (scene_after g.config.cpus before.past) step → Owned g before → Does g before step reply after → Owned g after
does-owned g before (Plain outcome) reply after was of all does = subst (Owned g) (sym does.1) all
does-owned g before (Takes outcome) reply after was of all (inl does) = subst (Owned g) (sym does.1) all
does-owned g before (Takes outcome) reply after was of all (inr does) = subst (Owned g) (sym does.1) all
does-owned g before (Asks request outcome) reply after was of all (answer, answered, told, is) =
    subst (Owned g) (sym is) (past-stays g before.past request answer before.errors of all)
does-owned g before (Parks read) reply after was of all (inl does) = subst (Owned g) (sym does.1) all
does-owned g before (Parks read) reply after was of all (inr does) = subst (Owned g) (sym does.1) all
does-owned g before (Interrupts unique) reply after was of all does = subst (Owned g) (sym does.1) all
does-owned g before (AsksNoting request takes outcome noting) reply after was (inl of) all (answer, answered, told, is) =
    subst (Owned g) (sym is)
    (past-stays g before.past request answer (errors_after (noting answer) before.errors) of.0
    (noting-owned g before.past (noting answer) before.errors (of.1 answer) all))
does-owned g before (AsksNoting request takes outcome noting) reply after was (inr of) all (answer, answered, told, is) =
    subst (Owned g) (sym is) (by answer)
  where
    by : (a : Result Answer Refusal) → AreOwned g (past_after a request before.past) (errors_after (noting a) before.errors)
    by (Ok a) =
        subst (λ (asked : Request). AreOwned g (asked ∷ before.past) (errors_after (noting (Ok a)) before.errors)) (sym of.is)
        (subst (λ (notes : Result Answer Refusal → Noting). AreOwned g (RemoveInstance (Some of.name) ∷ before.past)
        (errors_after (notes (Ok a)) before.errors)) (sym of.notes) (removal-owned g before.past of.name before.errors was all))
    by (Err refusal) =
        subst (λ (notes : Result Answer Refusal → Noting). AreOwned g before.past (errors_after (notes (Err refusal)) before.errors)) (sym of.notes) all
does-owned g before (Tells noting takes outcome) reply after was of all (inl does) =
    subst (Owned g) (sym does.1) (noting-owned g before.past noting before.errors of all)
does-owned g before (Tells noting takes outcome) reply after was of all (inr (may, told, same)) = subst (Owned g) (sym same) all
does-owned g before (AsksLines lines outcome noting) reply after was of all (ran, runs, told, is) =
    let errors = errors_after (noting ran) before.errors in
    subst (Owned g) (sym is)
    (lines-keep g (λ (past : List Request). AreOwned g past errors) LeavesAll
    (λ now request answer owned leaves answered. all-stay g now request errors leaves owned) before.past lines ran of.0
    (noting-owned g before.past (noting ran) before.errors (of.1 ran) all) runs)
does-owned g before (Counts count outcome) reply after was of all (inl does) = subst (Owned g) (sym does.1) all
does-owned g before (Counts count outcome) reply after was of all (inr does) = subst (Owned g) (sym does.1) all

owed-owned : (g : Terms) (before : Service) (what : Option Owed) (bytes : List ℕ) (after : Service) → WasDone g before.past → Owned g before
    → TellsOwed g before what bytes after → Owned g after
owed-owned g before None bytes after was all told = absurd told
owed-owned g before (Some (ReplyAt index)) bytes after was all told =
    does-owned g (without_read index before) (step_of_parked g before told.read) (Some told.reply) after was (parked-is LeavesAll any_count g before (all-leave g) told.read) all told.does
owed-owned g before (Some (WakeupAt handle)) bytes after was all told = subst (Owned g) (sym told.now) all

served-owned : (g : Terms) (before : Service) (asked bytes : List ℕ) (after : Service) → WasDone g before.past → Owned g before
    → AreServed g before asked bytes after → Owned g after
served-owned g before asked bytes after was all (Right request is served) =
    does-owned g before (step_of g before request.unique request.pid served.node request.operation) served.reply after was
    (step-is LeavesAll any_count g before (all-leave g) (λ owner file there. tt) request.unique request.pid served.node request.operation) all served.does
served-owned g before asked bytes after was all (Wrong opcode unique framed none told same) = subst (Owned g) (sym same) all
served-owned g before asked bytes after was all (Unframed none told same) = subst (Owned g) (sym same) all

exchange-owned : (g : Terms) (before : Service) (asked bytes : List ℕ) (after : Service) → WasDone g before.past → Owned g before
    → IsExchanged g before asked bytes after → Owned g after
exchange-owned g before [] bytes after was all is = owed-owned g before (owed g before) bytes after was all is
exchange-owned g before (byte ∷ asked) bytes after was all is = served-owned g before (byte ∷ asked) bytes after was all is.1

-- a call removes an instance, or takes none away and notes nothing
call-leaves : (g : Terms) (s : Service) (request : Request) → IsOfThere LeavesAll any_count (scene_after g.config.cpus s.past) (call_step g s request)
call-leaves g s (Emission event cpu pid pairs) = inl (refl, λ answer. tt)
call-leaves g s (MakeInstance name) = inl (refl, λ answer. tt)
call-leaves g s (RemoveInstance None) = inl (refl, λ answer. tt)
call-leaves g s (RemoveInstance (Some name)) = inr (record { name = name; is = refl; notes = refl })
call-leaves g s (WriteFile instance file append text) = inl (refl, λ answer. tt)
call-leaves g s (ReadFile instance file limit) = inl (refl, λ answer. tt)

turn-owned : (g : Terms) (before : Service) (turn : Turn) (after : Service) → WasDone g before.past → Owned g before → IsTurned g before turn after
    → Owned g after
turn-owned g before (Exchanged asked bytes) after was all is = exchange-owned g before asked bytes after was all is
turn-owned g before (Called limit request answer) after was all is =
    call-keeps g (Owned g) before limit request answer after all
    (does-owned g before (call_step g before request) (Some replies.Done) after was (call-leaves g before request) all) is
turn-owned g before (Shows shown asked bytes) after was all is =
    does-owned g before (shown_step g before is.request.unique shown is.request.operation) is.reply after was
    (shown-there LeavesAll any_count (scene_after g.config.cpus before.past) g before is.request.unique shown is.request.operation tt) all is.does

pub errors_are_of_instances : ErrorsAreOfInstances
errors_are_of_instances g turns after is =
    (turns-keep g (λ (s : Service). WasDone g s.past × Owned g s)
    (λ before turn next both one. (turn-done g before turn next both.0 one, turn-owned g before turn next both.0 both.1 one)) just_mounted turns after
    (record { done = tt; few = omega arith }, All-nil (λ (e : ErrorSeen). IsOwned g [] e.owner)) is).1
