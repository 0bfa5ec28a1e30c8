use Rattle.trace_command.specs.Requests.{request_of}
use Rattle.refusal_explanations.specs.Words.{command_words}
use Rattle.library_tracer.proofs.MaskLemmas.{masked}
use Rattle.library_tracer.proofs.console.Console.run_masked.Goals as goal

pub returns-clause-masked : goal.returns-clause-masked
returns-clause-masked c =
    masked (λ entries. request_of c.args.command) (command_words c.args.command) c.args.self.now c.ask-tried.new.self c.ask-tried.result.0 c.ask-tried.result.1 c.args.mask.now c.unwrap_or.result
    c.unwrap_or.ensures c.ask-tried.ensures.looked c.ask-tried.ensures.unlooked
