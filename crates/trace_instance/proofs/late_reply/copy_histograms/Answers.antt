use Rattle.std.proofs.Common.{ap, ◌∙◌}
use Rattle.trace_command.specs.declared.command.Reply.TheVariants.{Text}
use Rattle.trace_instance.proofs.EventReads.{hists-at_place}
use Rattle.trace_instance.proofs.LateReads.{hist_read}
use Rattle.trace_instance.proofs.late_reply.copy_histograms.Goals as goal

pub returns : goal.returns
returns c = λ g name past is.
    hist_read g name past c.args.source.catalog.now c.args.event _
    (ap Text (c.in_ok-hists.ensures ∙ hists-at_place g name past c.args.source c.args.event is c.requires.declared c.requires.hists))
