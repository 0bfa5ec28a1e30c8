use Rattle.std.proofs.Common.{sym, arith}
use Rattle.script_reader.proofs.ScriptLemmas.{len_le, line_then, line_last}
use Rattle.script_reader.proofs.script.line_of_len.Goals as goal

pub split_at-requires : goal.split_at-requires
split_at-requires c = omega (arith, c.requires, len_le c.args.text.now)

pub returns-then-is_empty-clause-lines : goal.returns-then-is_empty-clause-lines
returns-then-is_empty-clause-lines c =
    line_last _ _ _ _ c.requires c.split_at.ensures.front c.split_at.ensures.back (sym c.if-is_empty.ensures)

pub returns-clause-lines : goal.returns-clause-lines
returns-clause-lines c =
    line_then _ _ _ _ c.requires c.split_at.ensures.front c.split_at.ensures.back _ (sym c.if-is_empty.ensures) c.split_at-2.ensures.back
