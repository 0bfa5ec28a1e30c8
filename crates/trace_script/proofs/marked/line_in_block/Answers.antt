use Rattle.std.proofs.Common.{ℕ, ◌∙◌, ◌+◌, ◌-◌, take, drop, ap, refl, arith}
use lib.Count.{count_trailing_zeros}
use Rattle.trace_script.specs.private.Bytes.{highest_rank}
use Rattle.trace_script.proofs.FirstLines.{bare_taken, ends_at_newline}
use Rattle.trace_script.proofs.MarkLemmas.{front_bits, run_in_block}
use Rattle.trace_script.proofs.marked.line_in_block.Goals as goal

pub returns-clause-text : goal.returns-clause-text
returns-clause-text g c =
    let text = c.args.text.now in
    let len = count_trailing_zeros 64 c.rare_bits.result in
    let run = run_in_block len g.row.N c.rare_bits.result text c.requires.0 c.requires.1 c.rare_bits.ensures refl (omega arith) in
    c.split_at.ensures.front ∙ ap (λ (n : ℕ). take n text) (ends_at_newline len text run c.if-text-len-ne10.false)

pub returns-clause-bare : goal.returns-clause-bare
returns-clause-bare g c =
    let text = c.args.text.now in
    let len = count_trailing_zeros 64 c.rare_bits.result in
    let run = run_in_block len g.row.N c.rare_bits.result text c.requires.0 c.requires.1 c.rare_bits.ensures refl (omega arith) in
    ap highest_rank c.split_at.ensures.front ∙ bare_taken len text run

pub returns-clause-marked : goal.returns-clause-marked
returns-clause-marked g c =
    let text = c.args.text.now in
    let len = count_trailing_zeros 64 c.rare_bits.result in
    let newline = c.if-text-len-ne10.false in
    rw c.split_at.ensures.front (record {
      after = take (g.row.N - (len + 1)) (drop (len + 1) text);
      low = front_bits _ len g.row.N _ text (omega arith) c.requires.0 c.requires.1 newline c.low_bits.ensures;
      equals = front_bits _ len g.row.N _ text (omega arith) c.requires.0 c.requires.1 newline c.equals_bits.ensures;
    })
