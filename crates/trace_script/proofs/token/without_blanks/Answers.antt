use Rattle.trace_script.proofs.WordLemmas.{skipped, skipped_begins}
use Rattle.trace_script.proofs.token.without_blanks.Goals as goal

pub returns-clause-tokens : goal.returns-clause-tokens
returns-clause-tokens c = rw (c.split_at.ensures.back, c.blanks_len.ensures.value) (skipped c.args.line.now)

pub returns-clause-first : goal.returns-clause-first
returns-clause-first c = rw (c.split_at.ensures.back, c.blanks_len.ensures.value) (skipped_begins c.args.line.now)
