use Rattle.std.proofs.Common.{arith}
use Rattle.file_list.specs.Files.{lines_of_instance}
use Rattle.file_list.specs.Listings.{instance_folder}
use Rattle.file_list.proofs.Lines.{one_written}
use Rattle.file_list.proofs.names.Names.push_instances.Goals as goal

pub loop-instance-preserved : goal.loop-instance-preserved
loop-instance-preserved c =
    one_written _ (λ instance. lines_of_instance c.args.cpus c.args.self.now.events (instance_folder instance)) c.deref-instance-items.result.now
    c.loop-instance.instance-index c.instance-item.result _ c.loop-instance.out.items c.push_instance.new.out.items (omega arith) c.instance-item.is
    c.loop-instance.invariant (cc (c.in_ok-push_instance.ensures, c.deref.ensures.value, c.in_ok-folder.ensures, c.as_bytes.ensures))
