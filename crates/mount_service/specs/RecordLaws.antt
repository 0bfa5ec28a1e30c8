-- What a mounted tracer recorded is accounted for, whatever was served, `stats` shows it, and no record goes to two readers.
use Rattle.std.specs.Prelude.{◌≡◌, ℕ, ◌+◌, ◌<◌, true, false, List, Option, Some}
use Rattle.fuse_wire.specs.declared.request.Operation.TheVariants as operations
use Rattle.fuse_wire.specs.declared.request.Request.{Request as Asked}
use Rattle.history_laws.specs.AccountedFor.{counted, emissions_of, not_read, recorded_count, shown_count, shown_of, was_emptied}
use Rattle.history_laws.specs.RingTotals.{since_new}
use Rattle.page_ring.specs.declared.rings.RingStats.{RingStats}
use Rattle.trace_buffer.specs.Families.{cpu_stats}
use Rattle.trace_command.specs.Configs.{IsInRange}
use Rattle.trace_command.specs.Paths as paths
use Rattle.trace_command.specs.Requests.{Request}
use Rattle.trace_command.specs.declared.file_name.CpuFile.TheVariants as per_cpu
use Rattle.tracer_specification.specs.Pasts.{AreDone}
use Rattle.tracer_specification.specs.Rings.{other_rings, rings, rings_of_side}
use Rattle.tracer_specification.specs.Settings.{now_of}
use Rattle.tracer_specification.specs.Snapshots.{exchange_count, live_side}
use Rattle.record_text.specs.StatsText.{stats_text}
use Rattle.mount_tree.specs.Children.{is_there}
use Rattle.file_list.specs.declared.file.File.TheVariants as files
use Rattle.mount_replies.specs.Mounted.{IsServed, Serves}
use Rattle.mount_replies.specs.PastLaws.{ReadsAnew, instance_of, just_mounted, read_whole}
use Rattle.mount_replies.specs.Served.{is_cached}
use Rattle.mount_replies.specs.Services.{OpenSeen, Service, Terms, file_at, node_of, scene_of}

-- the counts of a CPU's ring of the side that is live, and of the other side's
abbrev pub live_stats : Terms → Option (List ℕ) → ℕ → List Request → RingStats
live_stats g instance cpu past = cpu_stats g.config.pages g.config.page_bytes (rings g.config instance past) cpu

abbrev pub other_stats : Terms → Option (List ℕ) → ℕ → List Request → RingStats
other_stats g instance cpu past = cpu_stats g.config.pages g.config.page_bytes (other_rings g.config instance past) cpu

-- those of the ring of a side, 0 or 1
abbrev pub side_stats : Terms → Option (List ℕ) → ℕ → ℕ → List Request → RingStats
side_stats g instance side cpu past = cpu_stats g.config.pages g.config.page_bytes (rings_of_side g.config instance side past) cpu

-- A ring, a CPU's of one side: the records that were consumed, that it keeps, and that were overwritten or refused are together all that were
-- recorded in it since it was new or emptied; and so are those that pipes handed out of it, in place of those consumed.
pub record IsRingAccountedFor (g : Terms) (instance : Option (List ℕ)) (side cpu : ℕ) (past : List Request) : Type 0 where
  pub records : counted (side_stats g instance side cpu past) ≡ since_new (emissions_of instance cpu) instance side cpu past
  pub handed_out : since_new (shown_of g.config instance cpu) instance side cpu past + not_read (side_stats g instance side cpu past)
      ≡ since_new (emissions_of instance cpu) instance side cpu past

-- What was served by any moment: these commands were done, one after another. Each ring is accounted for, whatever emptied it; and if no ring of a CPU
-- was emptied, both sides are together, from the making of the instance on.
pub record IsAccountedFor (g : Terms) (past : List Request) : Type 0 where
  pub done : AreDone g.config past
  pub rings : (instance : Option (List ℕ)) (side cpu : ℕ) → cpu < g.config.cpus → IsRingAccountedFor g instance side cpu past
  pub records : (instance : Option (List ℕ)) (cpu : ℕ) → cpu < g.config.cpus → was_emptied instance cpu past ≡ false
      → counted (live_stats g instance cpu past) + counted (other_stats g instance cpu past) ≡ recorded_count instance cpu past
  pub handed_out : (instance : Option (List ℕ)) (cpu : ℕ) → cpu < g.config.cpus → was_emptied instance cpu past ≡ false
      → shown_count g.config instance cpu past + (not_read (live_stats g instance cpu past) + not_read (other_stats g instance cpu past))
      ≡ recorded_count instance cpu past

abbrev pub ServicesAreAccountedFor : Type 0
ServicesAreAccountedFor =
    (g : Terms) (requests messages : List (List ℕ)) (after : Service) → Serves g just_mounted requests messages after → IsAccountedFor g after.past

-- A READ of `stats` from its beginning, other than the page cache's, whatever was served before it: the counts that it shows are together the records
-- that were recorded by then in the CPU's ring that is live, since it was new or emptied. If it was not emptied and no snapshot taken, these are all
-- that the instance recorded on the CPU.
abbrev pub StatsTellAllRecords : Type 0
StatsTellAllRecords =
    (g : Terms) (requests messages : List (List ℕ)) (before after : Service) (request : Asked) (bytes : List ℕ) (handle size read_flags flags cpu : ℕ) (file : OpenSeen)
    → IsInRange g.config → Serves g just_mounted requests messages before → IsServed g before request bytes after
    → request.operation ≡ operations.Read handle 0 size read_flags flags → is_cached read_flags ≡ false → file_at handle before.files ≡ Some file
    → file.file ≡ files.OfCpu cpu per_cpu.Stats
    → is_there (scene_of g before) (node_of file) ≡ true
    → (stats : RingStats)
    × ReadsAnew g before (read_whole (instance_of g before file) (paths.OfCpu cpu per_cpu.Stats)) request.unique handle size (stats_text stats (now_of before.past)) bytes after
    × (let instance = instance_of g before file in
    (counted stats ≡ since_new (emissions_of instance cpu) instance (live_side instance before.past) cpu before.past)
    × (was_emptied instance cpu before.past ≡ false → exchange_count instance before.past ≡ 0 → counted stats ≡ recorded_count instance cpu before.past))
