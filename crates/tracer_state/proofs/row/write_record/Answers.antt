use Rattle.std.proofs.Common.{◌≡◌, ◌+◌, ◌≤◌, ◌++◌, ℕ, List, length, drop, replicate, ap, ◌∙◌, arith}
use Rattle.trace_record.specs.Record.{head_bytes, padding}
use Rattle.trace_format.specs.Cells.{payload_of}
use Rattle.tracer_state.proofs.RecordBytes.{filled, zeros-after}
use Rattle.tracer_state.proofs.row.write_record.Goals as goal

pub returns-clause-bytes : goal.returns-clause-bytes
returns-clause-bytes c =
    let cleared = c.clear_end.new.out in
    let zeros : drop (16 + c.args.size) cleared ≡ replicate (padding c.args.size) 0 =
    zeros-after c.args.out.now cleared c.args.size c.requires.length c.clear_end.ensures.bytes in
    let room : 16 ≤ length cleared = omega (arith, c.clear_end.ensures.length, c.requires.length) in
    c.write_head.ensures.bytes ∙ ap (λ (bytes : List ℕ). head_bytes c.args.head ++ drop 16 bytes) c.write_payload.ensures.bytes
    ∙ filled (head_bytes c.args.head) (payload_of c.args.row.now) cleared c.args.size room zeros
