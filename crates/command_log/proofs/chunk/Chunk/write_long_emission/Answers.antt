use Rattle.std.proofs.Common.{◌≡◌, ℤ, length, ap, ◌∙◌, rules, to_z, of_z, w32}
use Rattle.std.proofs.lemmas.Int.{to_z-of_z}
use Rattle.std.proofs.lemmas.Result.{on_ok_weaker}
use Rattle.command_log.specs.EntryEncoding.{text_bytes, length_bytes, pairs_bytes}
use Rattle.command_log.proofs.WrittenEntries.{head_bytes, both_on_ok, emission_written, pieces_written}
use Rattle.command_log.proofs.chunk.Chunk.write_long_emission.Goals as goal

pub returns-clause-entry : goal.returns-clause-entry
returns-clause-entry c =
    let event = c.args.event.now in
    let cpu = c.args.cpu in
    let pid = c.args.pid in
    let pairs = c.args.pairs.now in
    let head = head_bytes c.args.ticket c.args.by cpu pid in
    let fits : to_z w32 (of_z w32 pid) ≡ pid = to_z-of_z w32 pid (search rules) in
    let is_head : c.emission_head-head.result ≡ head = c.emission_head-head.ensures ∙ ap (λ (pid : ℤ). head_bytes c.args.ticket c.args.by cpu pid) fits in
    (on_ok_weaker c.write_pieces.result
    (λ both. emission_written c.args.ticket c.args.by event cpu pid pairs c.write_pieces.new.self.ahead
    (pieces_written c.args.self.now.ahead c.write_pieces.new.self.ahead c.emission_head-head.result head (text_bytes event) (length_bytes (length pairs)) (pairs_bytes pairs) c.requires both.0 is_head)
    c.ranges.ticket.fits c.ranges.by.fits (both.1.0, search rules, search rules, both.1.1, both.1.2))
    (both_on_ok _ _ c.write_pieces.result c.write_pieces.ensures.ahead c.write_pieces.ensures.short))
