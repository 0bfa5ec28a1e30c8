-- What calls of a book come to: the answer that its history gives, and its history afterwards.
use Rattle.std.proofs.Common.{◌≡◌, ℕ, ◌+◌, ◌<◌, ◌^◌, List, [], ◌∷◌, ◌++◌, length, All, Ok, Err, refl, sym, ap, ◌∙◌, subst, arith}
use Rattle.command_log.specs.HistorySeen.{HistorySeen}
use Rattle.trace_command.specs.Refusals.{IsFoundEarly, IsRefusal}
use Rattle.trace_command.specs.Requests.{request_of}
use Rattle.trace_command.specs.declared.command.Config.{Config}
use Rattle.trace_command.specs.declared.command.Entry.{Entry}
use Rattle.trace_command.specs.declared.command.Reply.{Reply}
use Rattle.trace_command.specs.declared.refusal.Refusal.{Refusal}
use Rattle.trace_command.specs.declared.refusal.Refusal.TheVariants.{Memory}
use Rattle.tracer_specification.specs.History.{answer, answer_with_room, past_of, IsEntry, IsLegal}
use Rattle.tracer_specification.specs.LateMemory.{TakesMemoryLate}
use Rattle.tracer_state.proofs.Histories.{IsLegal-push, length-past_of}
use Rattle.tracer.specs.LiveSeen.{LiveSeen}
use Rattle.tracer.specs.Lives.{IsLive, limited_answer}
use Rattle.tracer.proofs.BookAnswers.{book-answer}
use Rattle.tracer.proofs.Limits.{limited-done, limited-late}
use Rattle.trace_book.specs.BookSeen.{BookSeen}
use Rattle.trace_book.specs.private.BookCalls.{IsBookCall}

-- the history is as it was
legal_still : (old new : BookSeen) → IsLegal old.config old.entries → new.config ≡ old.config → new.entries ≡ old.entries → IsLegal new.config new.entries
legal_still old new legal config entries = rw (config, entries) legal

-- ---- a call that is refused

pub refused-call : (old new : BookSeen) (entry : Entry) (refusal : Refusal) → IsLegal old.config old.entries → new.config ≡ old.config
    → new.entries ≡ old.entries
    → IsRefusal refusal (limited_answer old.config.history_limit old.config (past_of old.entries) (request_of entry.command))
    → (TakesMemoryLate (request_of entry.command) → refusal ≡ Memory → ⊥) → IsBookCall old new entry (Err refusal)
refused-call old new entry refusal legal config entries given other =
    let past = past_of old.entries in
    let request = request_of entry.command in
    let is : IsRefusal refusal (answer old.config past request) = rw (book-answer old.config past request) given in record {
      reply = is.0;
      early = λ early. sym (is.1 early);
      late_memory = λ takes. rw (is.0 (other takes)) refl;
      done = tt;
      refused = entries;
      config = config;
      legal = legal_still old new legal config entries;
    }

-- ---- a call that was prepared

-- it would be done with this reply, and there is room for its entry
pub record IsGiven (old : BookSeen) (entry : Entry) (reply : Reply) : Type 0 where
  pub legal : IsLegal old.config old.entries
  pub given : answer_with_room old.config (past_of old.entries) (request_of entry.command) ≡ Ok reply
  pub room : length (past_of old.entries) < old.config.history_limit

answered : {old : BookSeen} {entry : Entry} {reply : Reply} → IsGiven old entry reply
    → answer old.config (past_of old.entries) (request_of entry.command) ≡ Ok reply
answered {old} {entry} {reply} is =
    book-answer _ _ _ ∙ limited-done old.config.history_limit old.config (past_of old.entries) (request_of entry.command) reply is.given is.room

late : {old : BookSeen} {entry : Entry} {reply : Reply} → IsGiven old entry reply
    → IsFoundEarly (answer old.config (past_of old.entries) (request_of entry.command)) → ⊥
late {old} {entry} {reply} is early =
    limited-late old.config.history_limit old.config (past_of old.entries) (request_of entry.command) reply is.given
    (subst IsFoundEarly (book-answer _ _ _) early)

-- the tracer was asked with the limit of its configuration, and has counted the commands done
pub is-given : (old : BookSeen) (entry : Entry) (reply : Reply) (g : Config) (count : ℕ) → IsLegal old.config old.entries
    → answer_with_room old.config (past_of old.entries) (request_of entry.command) ≡ Ok reply → g ≡ old.config
    → count ≡ length (past_of old.entries) → count < g.history_limit → IsGiven old entry reply
is-given old entry reply g count legal given same counted room =
    record { legal = legal; given = given; room = omega (arith, counted, room, ap (λ (k : Config). k.history_limit) same) }

-- memory is refused for it
pub memory-call : {old : BookSeen} {entry : Entry} {reply : Reply} (new : BookSeen) → IsGiven old entry reply → new.config ≡ old.config
    → new.entries ≡ old.entries → IsBookCall old new entry (Err Memory)
memory-call {old} new is config entries = record {
  reply = λ other. absurd (other refl);
  early = λ early. absurd (late is early);
  late_memory = λ takes. rw (answered is) tt;
  done = tt;
  refused = entries;
  config = config;
  legal = legal_still old new is.legal config entries;
}

-- the entry is written ahead, the change is made, and the entry counts
pub done-call : {old : BookSeen} {entry : Entry} {reply : Reply} (before : BookSeen) (g : Config) (written new : HistorySeen) → IsGiven old entry reply
    → old ≡ before → g ≡ old.config → written.entries ≡ old.entries → written.ahead ≡ entry ∷ []
    → new ≡ record { entries = written.entries ++ written.ahead; ahead = [] } → IsEntry entry
    → All (λ (e : Entry). e.ticket < entry.ticket) before.entries → IsBookCall old (record { config = g; entries = new.entries }) entry (Ok reply)
done-call {old} {entry} before g written new is same config entries ahead appended fits below =
    let items : new.entries ≡ old.entries ++ entry ∷ [] = ap (λ (h : HistorySeen). h.entries) appended ∙ rw (entries, ahead) refl in
    let rises : All (λ (e : Entry). e.ticket < entry.ticket) old.entries = rw same below in record {
      reply = answered is;
      early = λ early. absurd (late is early);
      late_memory = λ takes. rw (answered is) tt;
      done = items;
      refused = tt;
      config = config;
      legal = rw (config, items) (IsLegal-push old.config old.entries entry is.legal fits rises (rw (answered is) refl));
    }

-- there is room to append what was written ahead
pub can-append : (g : Config) (entries : List Entry) (live : LiveSeen) (written : HistorySeen) (entry : Entry) → IsLive g (past_of entries) live
    → written.entries ≡ entries → written.ahead ≡ entry ∷ [] → length written.entries + length written.ahead < 2 ^ 64
can-append g entries live written entry lives same ahead =
    rw (same, ahead) (omega (arith, length-past_of entries, lives.few))
