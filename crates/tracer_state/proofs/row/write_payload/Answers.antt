use Rattle.std.proofs.Common.{◌≡◌, ◌+◌, ◌-◌, ◌++◌, take, drop, sym, ap, ◌∙◌, arith, append_assoc, drop-drop}
use Rattle.trace_format.specs.Cells.{payload_of}
use Rattle.tracer_state.proofs.row.write_payload.Goals as goal

pub returns-clause-bytes : goal.returns-clause-bytes
returns-clause-bytes c =
    let out = c.args.out.now in
    let size : 16 + c.args.size - 16 ≡ c.args.size = omega arith in
    (λ i. take 16 out ++ (c.encode.ensures i ++ drop (size i) (drop 16 out)))
    ∙ sym (append_assoc (take 16 out) (payload_of c.args.row.now) (drop c.args.size (drop 16 out)))
    ∙ ap (λ rest. take 16 out ++ payload_of c.args.row.now ++ rest) (drop-drop c.args.size 16 out)
