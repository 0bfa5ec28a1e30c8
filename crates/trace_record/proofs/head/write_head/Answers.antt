use Rattle.std.proofs.Common.{rules, ℤ, ◌≡◌, to_z, of_z, ◌++◌, ap, ◌∙◌, List, ℕ, drop}
use Rattle.std.proofs.lemmas.Int.{to_z-of_z}
use Rattle.std.specs.Int.{w32, to_le_bytes, cast_unsigned}
use Rattle.trace_record.proofs.HeadBytes.{head_bytes-one_by_one, head_of-head_bytes, timestamp-head_bytes, length-with_head, is_record-with_head}
use Rattle.trace_record.proofs.head.write_head.Goals as goal

written : goal.returns-clause-bytes
written c =
    let fits : to_z w32 (of_z w32 c.args.head.pid) ≡ c.args.head.pid = to_z-of_z w32 c.args.head.pid (search rules) in
    ap (λ (bytes : List ℕ). bytes ++ drop 16 c.args.out.now)
    (c.copy_from_slice.ensures.after ∙ head_bytes-one_by_one c.args.head _ _ _ _ c.to_le_bytes-ts.ensures (c.to_le_bytes-pid.ensures ∙ ap (λ (z : ℤ). to_le_bytes w32 (cast_unsigned w32 z)) fits) c.to_le_bytes-event.ensures c.to_le_bytes-payload.ensures)

pub returns-clause-bytes : goal.returns-clause-bytes
returns-clause-bytes c = written c

pub returns-clause-head : goal.returns-clause-head
returns-clause-head c = rw (written c) (head_of-head_bytes c.args.head (drop 16 c.args.out.now) (search rules) (search rules) (search rules) (search rules))

pub returns-clause-timestamp : goal.returns-clause-timestamp
returns-clause-timestamp c = rw (written c) (timestamp-head_bytes c.args.head (drop 16 c.args.out.now) (search rules))

pub returns-clause-is_record : goal.returns-clause-is_record
returns-clause-is_record c = λ l.
    rw (written c)
    (is_record-with_head c.args.head _
    (head_of-head_bytes c.args.head (drop 16 c.args.out.now) (search rules) (search rules) (search rules) (search rules))
    (length-with_head c.args.head c.args.out.now c.requires ∙ l))
