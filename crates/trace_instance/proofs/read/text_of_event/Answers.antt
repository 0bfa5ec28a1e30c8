use Rattle.std.proofs.Common.{◌≡◌, List, [], ℕ, IfOk, None, get_or, option_copied, ap, ◌∙◌, subst, rules}
use Rattle.trace_format.specs.Definitions.{Definition}
use Rattle.tracer_specification.specs.FileTexts.{flag_text}
use Rattle.trace_instance.specs.private.Commands.{shown_filter}
use Rattle.trace_instance.proofs.EventReads.{enabled-at_place, filter-at_place, format-at_place, hists-at_place, triggers-at_place}
use Rattle.trace_instance.proofs.read.text_of_event.Goals as goal

pub returns-in-Enable : goal.returns-in-Enable
returns-in-Enable c = λ g name past is.
    let inside = c.requires.event.declared in
    rw c.in-Enable.is
    (subst (λ (t : List ℕ). IfOk c.flag_text.result (λ text. text ≡ t))
    (ap flag_text (c.is_enabled.ensures ∙ enabled-at_place g name past c.args.source c.args.event is inside)) c.flag_text.ensures)

pub returns-in-Filter : goal.returns-in-Filter
returns-in-Filter c = λ g name past is.
    let inside = c.requires.event.declared in
    let kept : option_copied c.as_ref.result ≡ get_or c.args.source.instance.now.filters c.args.event None = search rules in
    rw c.in-Filter.is
    (subst (λ (t : List ℕ). IfOk c.filter_text.result (λ text. text ≡ t))
    (ap shown_filter kept ∙ filter-at_place g name past c.args.source c.args.event is inside) c.filter_text.ensures)

pub returns-in-Trigger : goal.returns-in-Trigger
returns-in-Trigger c = λ g name past is.
    let inside = c.requires.event.declared in
    rw c.in-Trigger.is
    (subst (λ (t : List ℕ). IfOk c.triggers.result (λ text. text ≡ t))
    (triggers-at_place g name past c.args.source c.args.event is inside c.requires.event.hists) c.triggers.ensures)

pub returns-in-Hist : goal.returns-in-Hist
returns-in-Hist c = λ g name past is.
    let inside = c.requires.event.declared in
    rw c.in-Hist.is
    (subst (λ (t : List ℕ). IfOk c.histograms.result (λ text. text ≡ t))
    (hists-at_place g name past c.args.source c.args.event is inside c.requires.event.hists) c.histograms.ensures)

pub returns-in-Format : goal.returns-in-Format
returns-in-Format c = λ g name past is.
    let inside = c.requires.event.declared in
    let d : Definition = record { name = []; fields = [] } in
    rw c.in-Format.is
    (subst (λ (t : List ℕ). IfOk c.format.result (λ text. text ≡ t))
    (format-at_place g name past c.args.source c.args.event is inside d) (c.format.ensures d))
