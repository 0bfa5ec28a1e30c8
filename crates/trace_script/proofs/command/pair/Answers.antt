use Rattle.trace_script.proofs.TakenCommands.{pair_cut, no_equals}
use Rattle.trace_script.proofs.command.pair.Goals as goal

pub returns-in_default : goal.returns-in_default
returns-in_default c = no_equals c.args.word.now c.in_default.ensures

pub returns : goal.returns
returns c =
    rw c.new.ensures (pair_cut c.args.word.now _ _ _ c.in-Some.at c.in-Some.ensures c.split_at.ensures.front c.split_at.ensures.back c.split_at-2.ensures.back)
