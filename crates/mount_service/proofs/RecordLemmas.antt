-- Records of a mounted tracer are accounted for.
use Rattle.std.proofs.Common.{◌≡◌, ℕ, ◌<◌, nat_lt, ◌&&◌, Bool, true, false, List, refl, sym, ap, subst, ◌∙◌, ltb-true}
use Rattle.std.proofs.lemmas.Bool.{false≢true}
use Rattle.history_laws.specs.AccountedFor.{EmissionsAreAccountedFor, EmissionsAreShownOrCounted, ShownCountsAccountForEmissions}
use Rattle.history_laws.specs.RingTotals.{RingsAreAccountedFor, RingsCountEmissions}
use Rattle.trace_command.specs.Paths as paths
use Rattle.trace_command.specs.declared.file_name.CpuFile.TheVariants as per_cpu
use Rattle.tracer_specification.specs.FileTexts.{cpu_stats_text}
use Rattle.tracer_specification.specs.Settings.{now_of}
use Rattle.tracer_specification.specs.Snapshots.{live_side}
use Rattle.record_text.specs.StatsText.{stats_text}
use Rattle.mount_tree.specs.Children.{is_there, owner_is_there}
use Rattle.file_list.specs.declared.file.File.{File}
use Rattle.file_list.specs.declared.file.File.TheVariants as files
use Rattle.mount_tree.specs.declared.node.Node.TheVariants as nodes
use Rattle.mount_service.specs.RecordLaws.{ServicesAreAccountedFor, StatsTellAllRecords, live_stats}
use Rattle.mount_replies.proofs.TurnLemmas.{serves-turns}
use Rattle.mount_replies.specs.Calls.{turns_of}
use Rattle.mount_replies.specs.PastLaws.{PastsAreDone, ReadsAnew, StatsShowThePast, instance_of, just_mounted, read_whole}
use Rattle.mount_replies.specs.Services.{OpenSeen, Service, Terms, node_of, scene_of}

pub accounted_for : RingsCountEmissions → RingsAreAccountedFor → EmissionsAreAccountedFor → EmissionsAreShownOrCounted → PastsAreDone → ServicesAreAccountedFor
accounted_for counts accounts all shown pasts g requests messages after served = record {
  done = (pasts g (turns_of requests messages) after (serves-turns g just_mounted requests messages after served)).done;
  rings = λ instance side cpu within. record {
    records = counts g.config after.past instance side cpu within;
    handed_out = accounts g.config after.past instance side cpu within;
  };
  records = λ instance cpu within unemptied. all g.config after.past instance cpu within unemptied;
  handed_out = λ instance cpu within unemptied. shown g.config after.past instance cpu within unemptied;
}

and_second : (a b : Bool) → (a && b) ≡ true → b ≡ true
and_second true b h = h
and_second false b h = absurd (false≢true h)

-- a CPU whose file is there
cpu-there : (g : Terms) (s : Service) (file : OpenSeen) (cpu : ℕ) → file.file ≡ files.OfCpu cpu per_cpu.Stats → is_there (scene_of g s) (node_of file) ≡ true
    → cpu < g.config.cpus
cpu-there g s file cpu is there =
    let scene = scene_of g s in
    let at : is_there scene (nodes.File file.owner (files.OfCpu cpu per_cpu.Stats)) ≡ true =
    ap (λ (f : File). is_there scene (nodes.File file.owner f)) (sym is) ∙ there in
    ltb-true cpu g.config.cpus (and_second (owner_is_there scene file.owner) (nat_lt cpu g.config.cpus) at)

stats-are : (g : Terms) (s : Service) (file : OpenSeen) (cpu : ℕ)
    → cpu_stats_text g.config (instance_of g s file) s.past cpu ≡ stats_text (live_stats g (instance_of g s file) cpu s.past) (now_of s.past)
unfolding cpu_stats_text
stats-are g s file cpu = refl

pub tell_all : RingsCountEmissions → ShownCountsAccountForEmissions → StatsShowThePast → StatsTellAllRecords
tell_all counts shown stats g requests messages before after request bytes handle size read_flags flags cpu file ranges served is asks direct opened is_stats there = (
  live_stats g (instance_of g before file) cpu before.past,
  subst (λ (text : List ℕ). ReadsAnew g before (read_whole (instance_of g before file) (paths.OfCpu cpu per_cpu.Stats)) request.unique handle size text bytes after) (stats-are g before file cpu)
      (stats g (turns_of requests messages) before after request bytes handle size read_flags flags cpu file ranges
      (serves-turns g just_mounted requests messages before served) is asks direct opened is_stats there),
  (
    counts g.config before.past (instance_of g before file) (live_side (instance_of g before file) before.past) cpu (cpu-there g before file cpu is_stats there),
    shown g.config before.past (instance_of g before file) cpu (cpu-there g before file cpu is_stats there),
  ),
)
