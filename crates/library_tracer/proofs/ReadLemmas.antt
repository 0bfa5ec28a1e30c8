-- What a try of a read leaves of a console.
use Rattle.std.proofs.Common.{◌≡◌, inl, inr, ℕ, Bool, true, List, Option, Some, None, Result, Ok, Err, refl, ap, subst, ◌∙◌}
use Rattle.refusal_explanations.specs.Words.{command_words}
use Rattle.trace_command.specs.Paths.{address_of}
use Rattle.trace_command.specs.Requests.{Request, request_of}
use Rattle.trace_command.specs.declared.command.CommandOf.TheVariants.{Read}
use Rattle.trace_command.specs.declared.command.Reply.{Reply}
use Rattle.trace_command.specs.declared.refusal.Refusal.{Refusal}
use Rattle.trace_command.specs.declared.refusal.Refusal.TheVariants.{Memory}
use Rattle.trace_script.specs.declared.outcome.Outcome.{Outcome}
use Rattle.trace_script.specs.declared.outcome.Outcome.TheVariants.{Refused, Replied}
use Rattle.shared_mount.specs.MountEntries.{EntrySeen}
use Rattle.library_tracer.specs.Consoles.{Comes, IsAnswered, says}
use Rattle.library_tracer.specs.ConsolesSeen.{ConsoleSeen}
use Rattle.library_tracer.specs.Inner.{words_in}
use Rattle.library_tracer.specs.LateTexts.{LosesText, MayLoseText, Reads, has_late_text}
use Rattle.library_tracer.specs.Statuses.{status_of}
use Rattle.library_tracer.specs.declared.console.Tried.{Tried}
use Rattle.library_tracer.specs.declared.console.Tried.TheVariants.{Told, Busy}
use Rattle.library_tracer.specs.declared.last.Last.{Last}
use Rattle.library_tracer.proofs.ConsoleLemmas.{Answers}

-- a read of a file to its end, and the words of its refusals
abbrev pub read_whole : List ℕ → List EntrySeen → Request
read_whole path entries = request_of (Read path None)

abbrev pub whole_words : List ℕ → Refusal → List ℕ
whole_words path = command_words (Read path None)

-- a console in which this is kept
abbrev pub keeping : ConsoleSeen → Last → ConsoleSeen
keeping console last = record console { last = last.outcome; words = words_in last }

-- one that was answered, but whose text was lost
loses : (path : List ℕ) (before console : ConsoleSeen) (last : Last) (reply : Reply) (owes : Bool) → has_late_text (address_of path).file ≡ true
    → IsAnswered (read_whole path) (whole_words path) (Ok reply) owes before console → Answers last (whole_words path) (Err Memory)
    → LosesText path owes before (keeping console last)
loses path before console last reply owes late answered is = record {
  late = late;
  was = answered.was;
  now = answered.now;
  reply = reply;
  had = answered.had;
  left = ap (λ (o : Outcome). record console { last = o; words = words_in last }) is.0
      ∙ ap (λ (w : List ℕ). record console { last = Refused Memory; words = w }) is.1
      ∙ ap (λ (c : ConsoleSeen). record c { last = Refused Memory; words = whole_words path Memory }) answered.left;
  base = answered.base;
  turn = answered.turn;
}

-- One that had its turn: whatever were kept of its answer would be told of it, and this is kept of what is told.
pub read_told : (path : List ℕ) (before console : ConsoleSeen) (last : Last) (answer told : Result Reply Refusal) (owes : Bool) (status : ℕ)
    → has_late_text (address_of path).file ≡ true
    → ((other : Last) → Answers other (whole_words path) answer → IsAnswered (read_whole path) (whole_words path) answer owes before (keeping console other))
    → MayLoseText answer told → Answers last (whole_words path) told → status ≡ status_of last.outcome
    → Reads path None before (keeping console last) (Told status owes)
read_told path before console last (Ok reply) told owes status late answers (inl same) is status_is =
    inl (inl (Ok reply, answers last (subst (λ (r : Result Reply Refusal). Answers last (whole_words path) r) same is)), status_is)
read_told path before console last (Ok reply) told owes status late answers (inr lost) is status_is =
    let other : Last = record last { outcome = Replied reply } in
    inr (
      loses path before (keeping console other) last reply owes late (answers other (refl, refl))
          (subst (λ (r : Result Reply Refusal). Answers last (whole_words path) r) lost is),
      status_is,
    )
read_told path before console last (Err refusal) told owes status late answers same is status_is =
    inl (inl (Err refusal, answers last (subst (λ (r : Result Reply Refusal). Answers last (whole_words path) r) same is)), status_is)

-- what any command comes to a read may come to
pub reads : (path : List ℕ) (limit : Option ℕ) (before after : ConsoleSeen) (tried : Tried) → Comes (says (Read path limit)) before after tried
    → Reads path limit before after tried
reads path None before after (Told status owes) comes = inl comes
reads path None before after Busy comes = comes
reads path (Some limit) before after (Told status owes) comes = comes
reads path (Some limit) before after Busy comes = comes
