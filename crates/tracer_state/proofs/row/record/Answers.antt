use Rattle.std.proofs.Common.{◌≡◌, ◌++◌, ℤ, length, replicate, ap, ◌∙◌, to_z, of_z, w32, rules}
use Rattle.std.proofs.lemmas.Int.{to_z-of_z}
use Rattle.trace_record.specs.Record.{head_bytes, padding}
use Rattle.trace_format.specs.Cells.{payload_of}
use Rattle.tracer_state.proofs.Emitting.{written-over}
use Rattle.tracer_state.proofs.RecordBytes.{record_bytes-is}
use Rattle.tracer_state.proofs.row.record.Goals as goal

pub returns-clause-bytes : goal.returns-clause-bytes
returns-clause-bytes c =
    let same_pid : to_z w32 (of_z w32 c.args.pid) ≡ c.args.pid = to_z-of_z w32 c.args.pid (search rules) in
    let long : length c.write_record.new.out ≡ c.fit.new.bytes.len = search rules in
    written-over c.fit.new.bytes.len c.write_record.new.out _ long ∙ c.write_record.ensures.bytes
    ∙ ap (λ (pid : ℤ). head_bytes (record { ts = c.args.timestamp; pid = pid; event = c.args.id; payload = c.args.size })
    ++ payload_of c.args.row.now ++ replicate (padding c.args.size) 0) same_pid
    ∙ record_bytes-is c.args.timestamp c.args.pid c.args.id c.args.size c.args.row.now c.write_record.ensures.length
