use Rattle.std.proofs.Common.{sym, ap, ◌∙◌, arith}
use Rattle.std.specs.Option.{option_map}
use Rattle.trace_command.specs.FileNames.{bytes_now}
use Rattle.library_tracer.proofs.ListedLemmas.{all_added, no_more, one_more, with_fields}
use Rattle.tracer_specification.specs.Settings.{instance_names}
use Rattle.library_tracer.proofs.files.add_instances.Goals as goal

pub returns-in_default : goal.returns-in_default
returns-in_default c = λ past lives.
    with_fields c.loop-index.names _ _ _ c.loop-index.invariant.1
    (no_more c.args.names.now.instances c.loop-index.names.instances (instance_names past) c.loop-index.index (c.loop-index.invariant.0 past lives)
    (sym (c.instance_name.ensures past lives) ∙ ap (option_map bytes_now) c.in_default.is))
    c.loop-index.invariant.2

pub loop-index-preserved : goal.loop-index-preserved
loop-index-preserved c =
    rw c.in_ok-add_instance.ensures.ok (
      λ past lives.
          one_more c.args.names.now.instances c.loop-index.names.instances (instance_names past) c.loop-index.index c.in-Some.name.now
          (c.loop-index.invariant.0 past lives) (sym (c.instance_name.ensures past lives) ∙ ap (option_map bytes_now) c.in-Some.is),
      c.loop-index.invariant.1,
      c.loop-index.invariant.2,
    )

pub returns : goal.returns
returns c = λ past lives.
    with_fields c.loop-index.names _ _ _ c.loop-index.invariant.1
    (all_added c.args.names.now.instances c.loop-index.names.instances (instance_names past) c.loop-index.index (c.loop-index.invariant.0 past lives)
    (omega (arith, c.loop-index-test.false, lives.stands.few_instances)))
    c.loop-index.invariant.2
