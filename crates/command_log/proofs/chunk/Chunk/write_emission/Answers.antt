use Rattle.std.proofs.Common.{◌≡◌, ℤ, length, Ok, true, refl, ap, ◌∙◌, rules, to_z, of_z, w32}
use Rattle.std.proofs.lemmas.Int.{to_z-of_z}
use Rattle.trace_command.specs.declared.command.CommandOf.TheVariants.{Emit}
use Rattle.command_log.specs.EntryEncoding.{text_bytes, length_bytes, pairs_bytes, IsWritable}
use Rattle.command_log.proofs.WrittenEntries.{head_bytes, emission_written, one_write}
use Rattle.command_log.proofs.chunk.Chunk.write_emission.Goals as goal

pub returns-then-is_short-clause-entry : goal.returns-then-is_short-clause-entry
returns-then-is_short-clause-entry c =
    let event = c.args.event.now in
    let cpu = c.args.cpu in
    let pid = c.args.pid in
    let pairs = c.args.pairs.now in
    let head = head_bytes c.args.ticket c.args.by cpu pid in
    let fits : to_z w32 (of_z w32 pid) ≡ pid = to_z-of_z w32 pid (search rules) in
    let is_head : c.emission_head-head.result ≡ head = c.emission_head-head.ensures ∙ ap (λ (pid : ℤ). head_bytes c.args.ticket c.args.by cpu pid) fits in
    let was : c.write_short.result ≡ Ok true = c.in_ok-is_short.was ∙ ap Ok c.if-is_short.true in
    let short = c.write_short.ensures.short was in
    let writable : IsWritable (Emit event cpu pid pairs) = (short.0, search rules, search rules, short.1, short.2) in
    (emission_written c.args.ticket c.args.by event cpu pid pairs c.write_short.new.self.ahead
    (one_write c.args.self.now.ahead c.write_short.new.self.ahead _ c.emission_head-head.result head (text_bytes event) (length_bytes (length pairs)) (pairs_bytes pairs) c.requires (c.write_short.ensures.ahead was) refl is_head)
    c.ranges.ticket.fits c.ranges.by.fits writable)
