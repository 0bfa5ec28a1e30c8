-- What looks at pipes tell, and that they are refused as reads are.
use Rattle.std.proofs.Common.{◌≡◌, ℕ, zero, suc, ◌<◌, nat_lt, min, Bool, true, false, if◌then◌else◌, List, length, Option, Some, None, Result, Ok, Err, refl, sym, ap, ◌∙◌, arith}
use Rattle.std.proofs.lemmas.Bool.{lt-ltb}
use Rattle.std.specs.Result.{result_err}
use Rattle.trace_buffer.specs.Families.{cpu_readings, kept_count}
use Rattle.trace_buffer.specs.Laws.{WaitingIsRead, CpuWaitingIsRead, ReadsTakeSoMany, CpuReadsTakeSoMany}
use Rattle.trace_command.specs.Paths.{File, OfInstance, OfCpu}
use Rattle.trace_command.specs.Requests.{Request}
use Rattle.trace_command.specs.declared.command.Config.{Config}
use Rattle.trace_command.specs.declared.command.Reply.{Reply}
use Rattle.trace_command.specs.declared.file_name.CpuFile.TheVariants as per_cpu
use Rattle.trace_command.specs.declared.file_name.TopFile.TheVariants as top
use Rattle.trace_command.specs.declared.refusal.Refusal.{Refusal}
use Rattle.trace_command.specs.declared.refusal.Refusal.TheVariants.{NoSuchInstance}
use Rattle.tracer_specification.specs.History.{file_answer, missing, read_answer, unless_refused}
use Rattle.tracer_specification.specs.Laws.{LooksTellWhatReadsTake, CpuLooksTellWhatReadsTake, LooksAreRefusedAsReads}
use Rattle.tracer_specification.specs.Rings.{rings}
use Rattle.tracer_specification.specs.Settings.{is_there}
use Rattle.tracer_specification.specs.Waiting.{waiting, waits_in}

-- ---- what they tell

-- one read takes a record where reads up to a limit do
one-read : (limit kept : ℕ) → 0 < limit → nat_lt 0 (min 1 kept) ≡ nat_lt 0 (min (min limit kept) kept)
one-read limit zero some = ap (λ k. nat_lt 0 k) (let e : min 1 0 ≡ min (min limit 0) 0 = omega arith in e)
one-read limit (suc n) some =
    let one : 0 < min 1 (suc n) = omega arith in
    let least : 0 < min (min limit (suc n)) (suc n) = omega (arith, some) in
    rw (lt-ltb 0 (min 1 (suc n)) one, lt-ltb 0 (min (min limit (suc n)) (suc n)) least) refl

pub looks_tell_what_reads_take : WaitingIsRead → ReadsTakeSoMany → LooksTellWhatReadsTake
looks_tell_what_reads_take waits many g instance past limit some =
    let family = rings g instance past in
    let kept = kept_count g.pages g.page_bytes family in
    ap (λ (b : Bool). Ok b)
    (waits g.pages g.page_bytes 1 family (omega arith) ∙ ap (λ k. nat_lt 0 k) (many g.pages g.page_bytes 1 family).taken
    ∙ one-read limit kept some ∙ ap (λ k. nat_lt 0 k) (sym (many g.pages g.page_bytes (min limit kept) family).taken))

pub cpu_looks_tell_what_reads_take : CpuWaitingIsRead → CpuReadsTakeSoMany → CpuLooksTellWhatReadsTake
cpu_looks_tell_what_reads_take waits many g instance past cpu limit some =
    let family = rings g instance past in
    let kept = length (cpu_readings g.pages g.page_bytes family cpu) in
    ap (λ (b : Bool). Ok b)
    (waits g.pages g.page_bytes cpu 1 family (omega arith) ∙ ap (λ k. nat_lt 0 k) (many g.pages g.page_bytes cpu 1 family)
    ∙ one-read limit kept some ∙ ap (λ k. nat_lt 0 k) (sym (many g.pages g.page_bytes cpu (min limit kept) family)))

-- ---- why they are refused

refused-file : (g : Config) (instance : Option (List ℕ)) (past : List Request) (limit : ℕ) (file : File)
    → result_err (waits_in g instance past file) ≡ result_err (read_answer g instance past (Some limit) file)
refused-file g instance past limit (OfInstance top.TracePipe) = refl
refused-file g instance past limit (OfInstance top.EventsFilter) = refl
refused-file g instance past limit (OfCpu cpu per_cpu.TracePipe) = refl
refused-file g instance past limit file = refl

refused-missing : (gone : Option Refusal) (told : Result Bool Refusal) (read : Result Reply Refusal) → result_err told ≡ result_err read
    → result_err (unless_refused gone told) ≡ result_err (unless_refused gone read)
refused-missing (Some refusal) told read same = refl
refused-missing None told read same = same

refused-path : (g : Config) (instance : Option (List ℕ)) (past : List Request) (limit : ℕ) (file : Option File)
    → result_err (file_answer g past (waits_in g instance past) file) ≡ result_err (file_answer g past (read_answer g instance past (Some limit)) file)
refused-path g instance past limit None = refl
refused-path g instance past limit (Some file) =
    refused-missing (missing g past file) (waits_in g instance past file) (read_answer g instance past (Some limit) file)
    (refused-file g instance past limit file)

refused-instance : (there : Bool) (told : Result Bool Refusal) (read : Result Reply Refusal) → result_err told ≡ result_err read
    → result_err (if there then told else Err NoSuchInstance) ≡ result_err (if there then read else Err NoSuchInstance)
refused-instance true told read same = same
refused-instance false told read same = refl

pub looks_are_refused_as_reads : LooksAreRefusedAsReads
unfolding waiting
looks_are_refused_as_reads g past instance file limit =
    refused-instance (is_there instance past) (file_answer g past (waits_in g instance past) file)
    (file_answer g past (read_answer g instance past (Some limit)) file) (refused-path g instance past limit file)
