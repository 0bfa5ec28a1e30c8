use Rattle.std.proofs.Common.{◌≡◌, true, ◌∙◌, sym}
use Rattle.std.specs.Option.{option_map}
use Rattle.trace_command.specs.Paths.{file_in, is_instance, parts}
use Rattle.trace_command.specs.FileNames.{file_at}
use Rattle.trace_command.proofs.PathLemmas.{address_in-instance}
use Rattle.trace_command.proofs.address.address_below_two.Goals as goal

pub returns-then-is_instance : goal.returns-then-is_instance
returns-then-is_instance c =
    let is : is_instance c.args.first.now c.args.second.now ≡ true = sym c.is_instance.ensures ∙ c.if-is_instance.true in
    let file : option_map file_at c.file_of.result ≡ file_in (parts c.args.rest.now) = c.file_of.ensures in
    c.in_instance.ensures ∙ (rw file (sym (address_in-instance c.args.first.now c.args.second.now c.args.rest.now is)))
