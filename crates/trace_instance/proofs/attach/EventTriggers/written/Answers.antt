use Rattle.std.proofs.Common.{◌≡◌, ◌∙◌, ◌⊎◌, inl, inr, true, false, Ok, Err, is_some, ap, rules}
use Rattle.trace_command.specs.Refusals.{refusal_of_trigger}
use Rattle.trace_trigger.specs.TriggerTexts.{HasFilter, is_hist_text, said_of}
use Rattle.trace_trigger.specs.declared.fault.TextCause.{TextCause}
use Rattle.trace_trigger.specs.declared.fault.TriggerFault.TheVariants as fault
use Rattle.trace_trigger.specs.declared.trigger.TriggerText.TheVariants as said
use Rattle.trace_instance.proofs.Answering.{text-detaches, text-lacks, text-nothing, text-refused}
use Rattle.trace_instance.proofs.LateTexts.{attaches-begins, hist-begins, other-fault, removed-begins}
use Rattle.trace_instance.proofs.attach.EventTriggers.written.Goals as goal

pub returns-in_err-parse-clause-change : goal.returns-in_err-parse-clause-change
returns-in_err-parse-clause-change c =
    let faulty = c.in_err-parse.field-0.0 in
    let told : ((cause : TextCause) → said_of c.args.event.now c.args.written.text.now ≡ Err (fault.BadText cause) → faulty ≡ fault.BadText cause) = search rules in
    let out : c.from_residual.result ≡ Err (refusal_of_trigger faulty) = search rules in
    rw out (text-refused c.args.event.now c.args.self c.args.written faulty c.in_err-parse.ensures.exact told)

pub returns-in-Nothing-clause-change : goal.returns-in-Nothing-clause-change
returns-in-Nothing-clause-change c =
    let read : said_of c.args.event.now c.args.written.text.now ≡ Ok said.Nothing = c.in_ok-parse.ensures.exact ∙ ap Ok c.in-Nothing.is in
    text-nothing c.args.event.now c.args.self c.args.written read

pub returns-in-AttachSnapshot-clause-change : goal.returns-in-AttachSnapshot-clause-change
returns-in-AttachSnapshot-clause-change c = λ name past number are.
    let read : said_of c.args.event.now c.args.written.text.now ≡ Ok (said.AttachSnapshot c.in-AttachSnapshot.trigger) = c.in_ok-parse.ensures.exact ∙ ap Ok c.in-AttachSnapshot.is in
    c.attached.ensures.change c.args.event.now name past number are read

pub returns-in-RemoveSnapshot-clause-change : goal.returns-in-RemoveSnapshot-clause-change
returns-in-RemoveSnapshot-clause-change c =
    let read : said_of c.args.event.now c.args.written.text.now ≡ Ok said.RemoveSnapshot = c.in_ok-parse.ensures.exact ∙ ap Ok c.in-RemoveSnapshot.is in
    let some : is_some c.args.self.own.now.triggers.snapshot ≡ true = search rules in
    text-detaches c.args.event.now c.args.self c.args.written read some

pub returns-in-RemoveSnapshot-2-clause-change : goal.returns-in-RemoveSnapshot-2-clause-change
returns-in-RemoveSnapshot-2-clause-change c =
    let read : said_of c.args.event.now c.args.written.text.now ≡ Ok said.RemoveSnapshot = c.in_ok-parse.ensures.exact ∙ ap Ok c.in-RemoveSnapshot-2.is in
    let none : is_some c.args.self.own.now.triggers.snapshot ≡ false = search rules in
    text-lacks c.args.event.now c.args.self c.args.written read none

pub returns-in-Hist-clause-change : goal.returns-in-Hist-clause-change
returns-in-Hist-clause-change c = λ name past number are.
    let read : said_of c.args.event.now c.args.written.text.now ≡ Ok (said.Hist c.in-Hist.spec) = c.in_ok-parse.ensures.exact ∙ ap Ok c.in-Hist.is in
    c.asked.ensures c.args.event.now name past number are read

pub returns-in-RemoveHist-clause-change : goal.returns-in-RemoveHist-clause-change
returns-in-RemoveHist-clause-change c = λ name past number are.
    let read : said_of c.args.event.now c.args.written.text.now ≡ Ok (said.RemoveHist c.in-RemoveHist.spec) = c.in_ok-parse.ensures.exact ∙ ap Ok c.in-RemoveHist.is in
    c.removed.ensures c.args.event.now name past number are read

pub returns-in_err-parse-clause-memory : goal.returns-in_err-parse-clause-memory
returns-in_err-parse-clause-memory c = λ unfiltered plain.
    let faulty = c.in_err-parse.field-0.0 in
    let taken : (faulty ≡ fault.Memory → HasFilter c.args.written.text.now ⊎ (is_hist_text c.args.written.text.now ≡ true)) = search rules in
    let neither : HasFilter c.args.written.text.now ⊎ (is_hist_text c.args.written.text.now ≡ true) → ⊥ =
    λ either. elim either [
      | inl filtered ↦ unfiltered filtered
      | inr hist ↦ cc (hist, plain)
    ] in
    let out : c.from_residual.result ≡ Err (refusal_of_trigger faulty) = search rules in
    rw out (other-fault faulty (λ is. neither (taken is)))

pub returns-in-RemoveHist-clause-memory : goal.returns-in-RemoveHist-clause-memory
returns-in-RemoveHist-clause-memory c = λ unfiltered plain.
    let read : said_of c.args.event.now c.args.written.text.now ≡ Ok (said.RemoveHist c.in-RemoveHist.spec) = c.in_ok-parse.ensures.exact ∙ ap Ok c.in-RemoveHist.is in
    let hist : is_hist_text c.args.written.text.now ≡ true = removed-begins c.args.event.now c.args.written.text.now c.in-RemoveHist.spec read in
    absurd (cc (hist, plain))

pub returns-in-Hist-clause-memory : goal.returns-in-Hist-clause-memory
returns-in-Hist-clause-memory c = λ unfiltered plain.
    let read : said_of c.args.event.now c.args.written.text.now ≡ Ok (said.Hist c.in-Hist.spec) = c.in_ok-parse.ensures.exact ∙ ap Ok c.in-Hist.is in
    let hist : is_hist_text c.args.written.text.now ≡ true = hist-begins c.args.event.now c.args.written.text.now c.in-Hist.spec read in
    absurd (cc (hist, plain))

pub returns-in-AttachSnapshot-clause-takes_none : goal.returns-in-AttachSnapshot-clause-takes_none
returns-in-AttachSnapshot-clause-takes_none c = λ plain none.
    let read : said_of c.args.event.now c.args.written.text.now ≡ Ok (said.AttachSnapshot c.in-AttachSnapshot.trigger) = c.in_ok-parse.ensures.exact ∙ ap Ok c.in-AttachSnapshot.is in
    absurd (attaches-begins c.args.event.now c.args.written.text.now c.in-AttachSnapshot.trigger read none)

pub returns-in-Hist-clause-takes_none : goal.returns-in-Hist-clause-takes_none
returns-in-Hist-clause-takes_none c = λ plain none.
    let read : said_of c.args.event.now c.args.written.text.now ≡ Ok (said.Hist c.in-Hist.spec) = c.in_ok-parse.ensures.exact ∙ ap Ok c.in-Hist.is in
    let hist : is_hist_text c.args.written.text.now ≡ true = hist-begins c.args.event.now c.args.written.text.now c.in-Hist.spec read in
    absurd (cc (hist, plain))

pub returns-in-RemoveHist-clause-takes_none : goal.returns-in-RemoveHist-clause-takes_none
returns-in-RemoveHist-clause-takes_none c = λ plain none.
    let read : said_of c.args.event.now c.args.written.text.now ≡ Ok (said.RemoveHist c.in-RemoveHist.spec) = c.in_ok-parse.ensures.exact ∙ ap Ok c.in-RemoveHist.is in
    let hist : is_hist_text c.args.written.text.now ≡ true = removed-begins c.args.event.now c.args.written.text.now c.in-RemoveHist.spec read in
    absurd (cc (hist, plain))
