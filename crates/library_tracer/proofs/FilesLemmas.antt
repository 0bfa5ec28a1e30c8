-- A look that lists the files, and what is kept of it.
use Rattle.std.proofs.Common.{◌≡◌, inl, inr, ℕ, List, [], codes, sym, ap, subst, ◌∙◌}
use Rattle.trace_command.specs.declared.command.Reply.TheVariants.{Text}
use Rattle.trace_command.specs.declared.refusal.Refusal.{Refusal}
use Rattle.trace_command.specs.declared.refusal.Refusal.TheVariants.{Memory, Worn}
use Rattle.trace_script.specs.declared.outcome.Outcome.{Outcome}
use Rattle.trace_script.specs.declared.outcome.Outcome.TheVariants.{Refused, Replied}
use Rattle.shared_mount.specs.MountEntries.{EntrySeen, done_in}
use Rattle.library_tracer.specs.ConsolesSeen.{ConsoleSeen}
use Rattle.library_tracer.specs.Consoles.{with_last, Comes, HasSeen, IsListed, IsWornOut, Keeps, Lists, Tells}
use Rattle.library_tracer.specs.ListedFiles.{files_after}
use Rattle.library_tracer.specs.Sentences.{words_of}
use Rattle.library_tracer.specs.Statuses.{status_of}
use Rattle.library_tracer.specs.declared.console.Tried.{Tried}
use Rattle.library_tracer.specs.declared.console.Tried.TheVariants.{Busy, Told}
use Rattle.library_tracer.proofs.ConsoleLemmas.{seen_as}

-- what was kept of a call that looked before
kept_after : (before mid after : ConsoleSeen) (outcome : Outcome) (words : List ℕ) → mid.last ≡ before.last → mid.words ≡ before.words
    → after ≡ record mid { last = outcome; words = words } → with_last before after ≡ mid
kept_after before mid after outcome words last_is words_is is =
    ap (λ (c : ConsoleSeen). with_last before c) is ∙ ap (λ (o : Outcome). record mid { last = o; words = before.words }) (sym last_is)
    ∙ ap (λ (w : List ℕ). record mid { words = w }) (sym words_is)

-- what was seen, of the console before the call was kept
seen_before : (shown : List EntrySeen → Type 0) (before mid after : ConsoleSeen) (outcome : Outcome) (words : List ℕ) → HasSeen shown before mid
    → after ≡ record mid { last = outcome; words = words } → HasSeen shown before (with_last before after)
seen_before shown before mid after outcome words h is =
    let last_is : mid.last ≡ before.last = ap (λ (c : ConsoleSeen). c.last) h.left in
    let words_is : mid.words ≡ before.words = ap (λ (c : ConsoleSeen). c.words) h.left in
    subst (λ (c : ConsoleSeen). HasSeen shown before c) (sym (kept_after before mid after outcome words last_is words_is is)) h

worn_before : (before mid after : ConsoleSeen) (outcome : Outcome) (words : List ℕ) → IsWornOut before mid
    → after ≡ record mid { last = outcome; words = words } → IsWornOut before (with_last before after)
worn_before before mid after outcome words h is =
    let last_is : mid.last ≡ before.last = ap (λ (c : ConsoleSeen). c.last) h.left in
    let words_is : mid.words ≡ before.words = ap (λ (c : ConsoleSeen). c.words) h.left in
    subst (λ (c : ConsoleSeen). IsWornOut before c) (sym (kept_after before mid after outcome words last_is words_is is)) h

keeps_both : (mid after : ConsoleSeen) (outcome : Outcome) (words : List ℕ) → after ≡ record mid { last = outcome; words = words } → Keeps outcome words after
keeps_both mid after outcome words is = (ap (λ (c : ConsoleSeen). c.last) is, ap (λ (c : ConsoleSeen). c.words) is)

lists_by : (before mid after : ConsoleSeen) (tried : Tried) (outcome : Outcome) (words : List ℕ)
    → (after ≡ record mid { last = outcome; words = words_of outcome words } → IsListed before after) → Comes (Tells outcome words) mid after tried
    → Lists before after tried
lists_by before mid after Busy outcome words listed comes = absurd comes
lists_by before mid after (Told status owes) outcome words listed comes =
    (comes.1 ∙ ap (λ (o : Outcome). status_of o) (sym (ap (λ (c : ConsoleSeen). c.last) comes.0)), comes.2, listed comes.0)

-- a look that lists, of what was shown
pub lists_text : (before mid after : ConsoleSeen) (tried : Tried) (text : List ℕ) (shown : List EntrySeen → Type 0)
    → HasSeen shown before mid → ((entries : List EntrySeen) → shown entries → text ≡ files_after before.terms.mount.config (done_in entries))
    → Comes (Tells (Replied (Text text)) []) mid after tried → Lists before after tried
lists_text before mid after tried text shown saw means comes =
    lists_by before mid after tried (Replied (Text text)) []
    (λ is. inl (
      text,
      seen_before _ before mid after (Replied (Text text)) [] (seen_as shown _ means before mid saw) is,
      keeps_both mid after (Replied (Text text)) [] is,
    )) comes

pub lists_no_memory : (before mid after : ConsoleSeen) (tried : Tried) (shown : List EntrySeen → Type 0) → HasSeen shown before mid
    → Comes (Tells (Refused Memory) (codes "out of memory")) mid after tried → Lists before after tried
lists_no_memory before mid after tried shown saw comes =
    lists_by before mid after tried (Refused Memory) (codes "out of memory")
    (λ is. inr (inl (
      seen_before _ before mid after (Refused Memory) (codes "out of memory") (seen_as shown (λ entries. Unit {0}) (λ entries what. tt) before mid saw) is,
      keeps_both mid after (Refused Memory) (codes "out of memory") is,
    ))) comes

pub lists_worn : (before mid after : ConsoleSeen) (tried : Tried) (refusal : Refusal) → (refusal ≡ Worn) × IsWornOut before mid
    → Comes (Tells (Refused refusal) (codes "all tickets are drawn")) mid after tried → Lists before after tried
lists_worn before mid after tried refusal worn comes =
    let drawn = codes "all tickets are drawn" in
    lists_by before mid after tried (Refused Worn) drawn
    (λ is. inr (inr (worn_before before mid after (Refused Worn) drawn worn.1 is, keeps_both mid after (Refused Worn) drawn is)))
    (subst (λ (r : Refusal). Comes (Tells (Refused r) drawn) mid after tried) worn.0 comes)
