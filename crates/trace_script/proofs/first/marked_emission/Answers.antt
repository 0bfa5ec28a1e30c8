use Rattle.std.proofs.Common.{rules, sym, w32}
use Rattle.std.proofs.lemmas.Int.{to_z-of_z}
use Rattle.trace_script.proofs.BareEmissions.{rest_read, three_words}
use Rattle.trace_script.proofs.first.marked_emission.Goals as goal

pub returns : goal.returns
returns c =
    rw (to_z-of_z w32 c.in-Some-process_id.pid (search rules)) (rest_read _ _ _ _ _ _ _ _
    (three_words _ _ _ _ _ _ _ c.in-Some.ensures.word c.in-Some-marked_word.ensures.word c.in-Some-marked_word-2.ensures.word)
    (sym c.in-Some-cpu_number.ensures) (sym c.in-Some-process_id.ensures) (c.in_ok-marked_pairs.ensures.whole (search rules)) (c.in_ok-marked_pairs.ensures.some (search rules)))
