use Rattle.std.proofs.Common.{◌≡◌, ◌++◌, drop}
use Rattle.std.specs.List.{flat_map}
use Rattle.record_text.specs.DeclarationText.{declaration_text}
use Rattle.trace_instance.proofs.read.declarations.Given as goal

abbrev pub invariant-loop-i : goal.invariant-loop-i
invariant-loop-i l = l.out.items ++ flat_map declaration_text (drop l.i l.catalog) ≡ flat_map declaration_text l.catalog
