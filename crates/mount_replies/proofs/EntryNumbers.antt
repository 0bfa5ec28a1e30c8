-- The numbers by which look-ups tell nodes.
use Rattle.std.proofs.Common.{◌≡◌, ℕ, ◌+◌, ◌-◌, ◌*◌, ◌/◌, ◌%◌, ◌^◌, ◌<◌, ◌≤◌, arith}
use Rattle.file_list.specs.declared.file.File.TheVariants.{SyntheticEvents, OfInstance, SystemEnable, OfCpu, OfEvent, Inject, Tool, OfTop, CpuSize, EventId, ErrorLog, Layout, RawPipe}
use Rattle.mount_tree.proofs.NumberLemmas.{place-below}
use Rattle.mount_tree.specs.Nodes.{FitsItsTypes, index_of, number_from, number_of, owner_number, owner_of, place_of}
use Rattle.mount_tree.specs.declared.node.Node.{Node}
use Rattle.mount_tree.specs.declared.node.Node.TheVariants as nodes
use Rattle.mount_replies.specs.EntryNumbers.{EntryNumbersDiffer, EntryNumbersName}

-- the numbers of nodes have 47 bits
number-packed : (owner index place : ℕ) → owner ≤ 2 ^ 32 → index < 2 ^ 8 → place < 64 → number_from owner index place < 2 ^ 47
number-packed owner index place few small low = omega (arith, few, small, low)

pub number-low : (node : Node) → FitsItsTypes node → number_of node < 2 ^ 47
unfolding number_of
number-low node fits =
    number-packed (owner_number (owner_of node)) (index_of node) (place_of node) fits.owner fits.index (place-below node)

low-bits : (number : ℕ) → number < 2 ^ 47 → number ≡ number % 2 ^ 47
low-bits number low = omega (arith, low)

pub own-number : (node : Node) → FitsItsTypes node → number_of node ≡ number_of node % 2 ^ 47
own-number node fits = low-bits (number_of node) (number-low node fits)

-- the others come above them
above-bits : (number serial : ℕ) → number < 2 ^ 47 → number ≡ (number + serial * 2 ^ 47) % 2 ^ 47
above-bits number serial low = omega (arith, low)

-- ---- laws

pub entry_numbers_name : EntryNumbersName
entry_numbers_name unique (nodes.Folder owner folder) fits = (fits, own-number (nodes.Folder owner folder) fits)
entry_numbers_name unique (nodes.File owner SyntheticEvents) fits = (fits, own-number (nodes.File owner SyntheticEvents) fits)
entry_numbers_name unique (nodes.File owner (OfInstance file)) fits = (fits, own-number (nodes.File owner (OfInstance file)) fits)
entry_numbers_name unique (nodes.File owner SystemEnable) fits = (fits, own-number (nodes.File owner SystemEnable) fits)
entry_numbers_name unique (nodes.File owner (OfCpu cpu file)) fits = (fits, own-number (nodes.File owner (OfCpu cpu file)) fits)
entry_numbers_name unique (nodes.File owner (OfEvent event file)) fits = (fits, own-number (nodes.File owner (OfEvent event file)) fits)
entry_numbers_name unique (nodes.File owner (Inject event)) fits = (fits, own-number (nodes.File owner (Inject event)) fits)
entry_numbers_name unique (nodes.File owner (Tool file)) fits = (fits, own-number (nodes.File owner (Tool file)) fits)
entry_numbers_name unique (nodes.File owner (OfTop file)) fits = (fits, own-number (nodes.File owner (OfTop file)) fits)
entry_numbers_name unique (nodes.File owner (CpuSize cpu)) fits = (fits, own-number (nodes.File owner (CpuSize cpu)) fits)
entry_numbers_name unique (nodes.File owner (EventId event)) fits = (fits, own-number (nodes.File owner (EventId event)) fits)
entry_numbers_name unique (nodes.File owner ErrorLog) fits = (fits, own-number (nodes.File owner ErrorLog) fits)
entry_numbers_name unique (nodes.File owner (Layout file)) fits = (fits, own-number (nodes.File owner (Layout file)) fits)
entry_numbers_name unique (nodes.File owner (RawPipe cpu)) fits =
    (fits, above-bits (number_of (nodes.File owner (RawPipe cpu))) (unique / 2 % 2 ^ 17) (number-low (nodes.File owner (RawPipe cpu)) fits))

serials-differ : (one other : ℕ) → one < other → other - one < 2 ^ 17 → one % 2 ^ 17 ≡ other % 2 ^ 17 → ⊥
serials-differ one other later near same = absurd (omega (arith, later, near, same))

pub entry_numbers_differ : EntryNumbersDiffer
entry_numbers_differ unique later owner fellow cpu other fits fellow_fits after near same =
    serials-differ (unique / 2) (later / 2) after near
    (above-same (number_of (nodes.File owner (RawPipe cpu))) (number_of (nodes.File fellow (RawPipe other))) (unique / 2 % 2 ^ 17) (later / 2 % 2 ^ 17)
    (number-low (nodes.File owner (RawPipe cpu)) fits) (number-low (nodes.File fellow (RawPipe other)) fellow_fits) same)
  where
    above-same : (one two first second : ℕ) → one < 2 ^ 47 → two < 2 ^ 47 → one + first * 2 ^ 47 ≡ two + second * 2 ^ 47 → first ≡ second
    above-same one two first second low small is = omega (arith, low, small, is)
