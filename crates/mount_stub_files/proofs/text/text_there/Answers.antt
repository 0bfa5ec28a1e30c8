use Rattle.std.proofs.Common.{Some, ap}
use Rattle.mount_stub_files.proofs.text.text_there.Goals as goal

pub returns-in_ok-top_tool_text-in-OfTop : goal.returns-in_ok-top_tool_text-in-OfTop
returns-in_ok-top_tool_text-in-OfTop c name past is events stands =
    rw c.in-OfTop.is (ap Some (c.in_ok-top_tool_text-in-OfTop.ensures c.args.config.now.cpus past is))
