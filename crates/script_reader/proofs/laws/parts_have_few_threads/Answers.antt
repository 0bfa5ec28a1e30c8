use Rattle.script_reader.proofs.PartThreads.{parts_have_few_threads}
use Rattle.script_reader.proofs.laws.parts_have_few_threads.Goals as goal

pub returns : goal.returns
returns c = parts_have_few_threads
