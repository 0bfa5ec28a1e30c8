-- What a call of a book comes to, in one word.
use Rattle.std.specs.Prelude.{◌≡◌, [], ◌∷◌, ◌++◌, Result, Err, IfErr, OnOk, OnErr}
use Rattle.trace_command.specs.Refusals.{IsFoundEarly, OrMemory}
use Rattle.trace_command.specs.Requests.{request_of}
use Rattle.trace_command.specs.declared.command.Entry.{Entry}
use Rattle.trace_command.specs.declared.command.Reply.{Reply}
use Rattle.trace_command.specs.declared.refusal.Refusal.{Refusal}
use Rattle.tracer_specification.specs.History.{answer_to, IsLegal}
use Rattle.tracer_specification.specs.LateMemory.{TakesMemoryLate}
use Rattle.trace_book.specs.BookSeen.{BookSeen}

-- the clauses of `Book::ask`, for the command of this entry
pub record IsBookCall (old new : BookSeen) (entry : Entry) (result : Result Reply Refusal) : Type 0 where
  pub reply : OrMemory result (answer_to old.config old.entries entry.command)
  pub early : IsFoundEarly (answer_to old.config old.entries entry.command) → result ≡ answer_to old.config old.entries entry.command
  pub late_memory : TakesMemoryLate (request_of entry.command)
      → IfErr (answer_to old.config old.entries entry.command) (λ refusal. result ≡ Err refusal)
  pub done : OnOk result (new.entries ≡ old.entries ++ entry ∷ [])
  pub refused : OnErr result (new.entries ≡ old.entries)
  pub config : new.config ≡ old.config
  pub legal : IsLegal new.config new.entries
