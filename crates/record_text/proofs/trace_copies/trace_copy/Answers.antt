use Rattle.std.proofs.Common.{◌∙◌, ap, sym}
use Rattle.record_text.specs.BufferText.{trace_text}
use Rattle.record_text.proofs.BufferLemmas.{stands_length, text_of_all, text_of_cpu}
use Rattle.record_text.proofs.trace_copies.trace_copy.Goals as goal

pub returns-in_ok-ring-in-Some : goal.returns-in_ok-ring-in-Some
returns-in_ok-ring-in-Some c = λ events family h.
    text_of_cpu events c.args.buffer.now.pages c.args.buffer.now.page_bytes family c.in-Some.cpu c.cpus-cpus.result c.in_ok-ring-in-Some.ring
    (c.cpus-cpus.ensures.cpus ∙ sym (stands_length c.args.buffer.now family h)) (c.in_ok-ring-in-Some.ensures family h)
    ∙ ap (trace_text events c.args.buffer.now.pages c.args.buffer.now.page_bytes family) (sym c.in-Some.is)

pub returns-in_ok-copy-in-None : goal.returns-in_ok-copy-in-None
returns-in_ok-copy-in-None c = λ events family h.
    text_of_all events c.args.buffer.now.pages c.args.buffer.now.page_bytes family c.in_ok-copy-in-None.copy (c.in_ok-copy-in-None.ensures family h)
    ∙ ap (trace_text events c.args.buffer.now.pages c.args.buffer.now.page_bytes family) (sym c.in-None.is)
