-- Numbers of nodes, unpacked.
use Rattle.std.proofs.Common.{◌≡◌, ℕ, zero, suc, Bool, true, false, map, ◌-◌, ◌/◌, ◌%◌, ◌<◌, ◌≤◌, ◌^◌, List, [], ◌∷◌, length, Option, Some, None, option_map, IfNone, slice_get, refl, sym, ap, ◌∙◌, subst, arith}
use Rattle.std.proofs.lemmas.Bool.{ltb-true}
use Rattle.std.specs.Prelude.{nat_lt, if◌then◌else◌}
use Rattle.std.proofs.lemmas.Option.{none-some, same_Some}
use Rattle.trace_command.specs.declared.file_name.CpuFile.TheVariants as per_cpu
use Rattle.trace_command.specs.declared.file_name.EventFile.TheVariants as per_event
use Rattle.trace_command.specs.declared.file_name.TopFile.TheVariants as top
use Rattle.mount_tree.specs.Nodes.{FitsItsTypes, index_of, number_from, number_of, owner_number, owner_of, place_of}
use Rattle.file_list.specs.FileTable.{file_at, file_of, folder_at, folder_of}
use Rattle.file_list.specs.declared.file.File.{File}
use Rattle.file_list.specs.declared.files.TheConstants.{FILES}
use Rattle.file_list.specs.declared.folder.Folder.{Folder}
use Rattle.file_list.specs.declared.file.File.TheVariants.{SyntheticEvents, OfInstance, SystemEnable, OfCpu, OfEvent, Inject, Tool, OfTop, CpuSize, EventId, ErrorLog, Layout, RawPipe}
use Rattle.file_list.specs.declared.folder.Folder.TheVariants.{Root, Instances, Options, PerCpu, Cpu, Events, Synthetic, Event, Ftrace, FtracePrint}
use Rattle.mount_tree.specs.declared.node.Node.{Node}
use Rattle.mount_tree.specs.declared.node.Node.TheVariants as nodes
use Rattle.mount_tree.specs.declared.node.Owner.{Owner}
use Rattle.mount_tree.specs.declared.node.Owner.TheVariants.{Top, Made}
use Rattle.mount_tree.specs.private.KindPlaces.{node_at}
use Rattle.file_list.specs.declared.files.LayoutFile.TheVariants as layouts
use Rattle.file_list.specs.declared.files.ToolFile.TheVariants as tools
use Rattle.file_list.specs.declared.files.TopTool.TheVariants as top_tools

-- the three numbers that are packed in one
pub record AreIn (number owner index place : ℕ) : Type 0 where
  pub whose : owner ≡ (number - 1) / 16384
  pub which : index ≡ (number - 1) / 64 % 256
  pub kind : place ≡ (number - 1) % 64

pub unpacked : (owner index place : ℕ) → index < 256 → place < 64 → AreIn (number_from owner index place) owner index place
unpacked owner index place few small = record { whose = omega arith; which = omega arith; kind = omega arith }

-- each node has its row in the tables
pub at_place : (node : Node) → node_at (owner_of node) (index_of node) (place_of node) ≡ Some node
at_place (nodes.Folder o Root) = refl
at_place (nodes.Folder o Instances) = refl
at_place (nodes.Folder o Options) = refl
at_place (nodes.Folder o PerCpu) = refl
at_place (nodes.Folder o (Cpu k)) = refl
at_place (nodes.Folder o Events) = refl
at_place (nodes.Folder o Synthetic) = refl
at_place (nodes.Folder o (Event k)) = refl
at_place (nodes.Folder o Ftrace) = refl
at_place (nodes.Folder o FtracePrint) = refl
at_place (nodes.File o SyntheticEvents) = refl
at_place (nodes.File o (OfInstance top.Trace)) = refl
at_place (nodes.File o (OfInstance top.TracePipe)) = refl
at_place (nodes.File o (OfInstance top.Overwrite)) = refl
at_place (nodes.File o (OfInstance top.TraceOptions)) = refl
at_place (nodes.File o (OfInstance top.TracingOn)) = refl
at_place (nodes.File o (OfInstance top.Snapshot)) = refl
at_place (nodes.File o (OfInstance top.EventsEnable)) = refl
at_place (nodes.File o (OfInstance top.EventsFilter)) = refl
at_place (nodes.File o SystemEnable) = refl
at_place (nodes.File o (OfCpu k per_cpu.Trace)) = refl
at_place (nodes.File o (OfCpu k per_cpu.TracePipe)) = refl
at_place (nodes.File o (OfCpu k per_cpu.Stats)) = refl
at_place (nodes.File o (OfEvent k per_event.Enable)) = refl
at_place (nodes.File o (OfEvent k per_event.Filter)) = refl
at_place (nodes.File o (OfEvent k per_event.Trigger)) = refl
at_place (nodes.File o (OfEvent k per_event.Hist)) = refl
at_place (nodes.File o (OfEvent k per_event.Format)) = refl
at_place (nodes.File o (Inject k)) = refl
at_place (nodes.File o (Tool tools.AvailableTracers)) = refl
at_place (nodes.File o (Tool tools.CurrentTracer)) = refl
at_place (nodes.File o (Tool tools.SetEvent)) = refl
at_place (nodes.File o (Tool tools.TraceClock)) = refl
at_place (nodes.File o (Tool tools.TimestampMode)) = refl
at_place (nodes.File o (Tool tools.BufferSizeKb)) = refl
at_place (nodes.File o (Tool tools.BufferTotalSizeKb)) = refl
at_place (nodes.File o (Tool tools.TracingCpumask)) = refl
at_place (nodes.File o (OfTop top_tools.AvailableEvents)) = refl
at_place (nodes.File o (OfTop top_tools.Readme)) = refl
at_place (nodes.File o (OfTop top_tools.SavedCmdlines)) = refl
at_place (nodes.File o (OfTop top_tools.PrintkFormats)) = refl
at_place (nodes.File o (OfTop top_tools.TracingThresh)) = refl
at_place (nodes.File o (CpuSize k)) = refl
at_place (nodes.File o (EventId k)) = refl
at_place (nodes.File o ErrorLog) = refl
at_place (nodes.File o (Layout layouts.HeaderPage)) = refl
at_place (nodes.File o (Layout layouts.HeaderEvent)) = refl
at_place (nodes.File o (Layout layouts.PrintFormat)) = refl
at_place (nodes.File o (RawPipe k)) = refl

-- so a kind's number is small
row-below : {X : Type 0} (xs : List X) (i : ℕ) (x : X) → slice_get xs i ≡ Some x → i < length xs
row-below [] i x at = absurd (cc)
row-below (y ∷ xs) zero x at = omega arith
row-below (y ∷ xs) (suc i) x at = let rest = row-below xs i x at in omega arith

pub place-below : (node : Node) → place_of node < 64
place-below node = by (nat_lt (place_of node) 10) refl (file_at (place_of node - 10)) refl (at_place node)
  where
    by : (early : Bool) → nat_lt (place_of node) 10 ≡ early → (file : Option File) → file_at (place_of node - 10) ≡ file
        → (if early then option_map (λ (folder : Folder). nodes.Folder (owner_of node) (folder_of (index_of node) folder)) (folder_at (place_of node))
        else option_map (λ (f : File). nodes.File (owner_of node) (file_of (index_of node) f)) file) ≡ Some node → place_of node < 64
    by true is file also at = let below = ltb-true (place_of node) 10 is in omega arith
    by false is (Some f) also at = let below = row-below (map (λ r. r.0) FILES) (place_of node - 10) f also in omega arith
    by false is None also at = absurd (cc)

-- the owner of a number is one
pub one_owner : (a b : Owner) → owner_number a ≡ owner_number b → a ≡ b
one_owner Top Top same = refl
one_owner Top (Made s) same = absurd (omega arith)
one_owner (Made s) Top same = absurd (omega arith)
one_owner (Made s) (Made t) same = ap Made (omega arith)

pub packed : (node : Node) (number : ℕ) → FitsItsTypes node → number_of node ≡ number
    → AreIn number (owner_number (owner_of node)) (index_of node) (place_of node)
unfolding number_of
packed node number fits is =
    rw (sym is) (unpacked (owner_number (owner_of node)) (index_of node) (place_of node) (omega (arith, fits.index)) (place-below node))

-- a node is the one that its number, unpacked, says
pub found_again : (node : Node) (number : ℕ) (owner : Owner) → FitsItsTypes node → number_of node ≡ number → owner_number owner ≡ (number - 1) / 16384
    → node_at owner ((number - 1) / 64 % 256) ((number - 1) % 64) ≡ Some node
found_again node number owner fits is whose =
    let are = packed node number fits is in
    let same : owner ≡ owner_of node = one_owner owner (owner_of node) (whose ∙ sym are.whose) in
    rw (same, sym are.which, sym are.kind) (at_place node)

pub same_number : (a b : Node) → FitsItsTypes a → FitsItsTypes b → number_of a ≡ number_of b → a ≡ b
same_number a b first second same =
    let are = packed b (number_of b) second refl in
    let one = found_again a (number_of b) (owner_of b) first same are.whose in
    let other = found_again b (number_of b) (owner_of b) second refl are.whose in
    let found : Some a ≡ Some b = sym one ∙ other in
    cc

-- ---- numbers that no node has

pub not_zero : (number : ℕ) → number < 1 → (node : Node) → FitsItsTypes node → number_of node ≡ number → ⊥
unfolding number_of
not_zero number none node fits is = absurd (omega (arith, is, none))

pub no_owner : (number : ℕ) → ((owner : Owner) → owner_number owner ≤ 2 ^ 32 → owner_number owner ≡ (number - 1) / 16384 → ⊥)
    → (node : Node) → FitsItsTypes node → number_of node ≡ number → ⊥
no_owner number none node fits is = none (owner_of node) fits.owner (packed node number fits is).whose

pub no_node : (number : ℕ) (owner : Owner) → owner_number owner ≡ (number - 1) / 16384
    → None ≡ node_at owner ((number - 1) / 64 % 256) ((number - 1) % 64)
    → (node : Node) → FitsItsTypes node → number_of node ≡ number → ⊥
no_node number owner whose none node fits is =
    none-some node (none ∙ found_again node number owner fits is whose)

pub other_number : (number : ℕ) (owner : Owner) (found : Node) → owner_number owner ≡ (number - 1) / 16384
    → Some found ≡ node_at owner ((number - 1) / 64 % 256) ((number - 1) % 64) → (number_of found ≡ number → ⊥)
    → (node : Node) → FitsItsTypes node → number_of node ≡ number → ⊥
other_number number owner found whose at differs node fits is =
    let same : found ≡ node = same_Some found node (at ∙ found_again node number owner fits is whose) in
    differs (subst (λ (n : Node). number_of n ≡ number) (sym same) is)

pub if_none : {A : Type 0} {P Q : Type 0} (o : Option A) → IfNone o P → (P → Q) → IfNone o Q
if_none None holds weaker = weaker holds
if_none (Some x) holds weaker = tt
