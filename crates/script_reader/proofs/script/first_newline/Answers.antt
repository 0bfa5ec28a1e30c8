use Rattle.script_reader.proofs.ScriptLemmas.{found_at}
use Rattle.script_reader.proofs.script.first_newline.Goals as goal

pub returns : goal.returns
returns c = found_at 10 c.args.text.now c.memchr.result c.memchr.ensures
