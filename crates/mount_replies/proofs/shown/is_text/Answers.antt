use Rattle.std.proofs.Common.{ap}
use Rattle.trace_instance.specs.LateReplies.{reply_of}
use Rattle.mount_replies.proofs.shown.is_text.Goals as goal

pub returns-in-Trace : goal.returns-in-Trace
returns-in-Trace c = λ e. (_, ap reply_of c.in-Trace.is)

pub returns-in-Hists : goal.returns-in-Hists
returns-in-Hists c = λ e. (_, ap reply_of c.in-Hists.is)
