use Rattle.std.proofs.Common.{◌≡◌, ◌^◌, ◌<◌, List, length, Some, ok_or, Ok, sym, ap, ◌∙◌, subst, arith}
use Rattle.trace_format.specs.declared.event.Field.{Field}
use Rattle.trace_format.specs.Definitions.{Definition}
use Rattle.trace_format.specs.Words.{spots_of}
use Rattle.trace_format.specs.Reading.{reading, finish, definition_of, cause_from, cause_in}
use Rattle.trace_format.specs.private.PayloadSizes.{IsPayloadSize}
use Rattle.trace_format.proofs.Verdicts.{read_declared}
use Rattle.trace_format.proofs.event.EventDef.read.Goals as goal

pub loop-word-init : goal.loop-word-init
unfolding definition_of cause_in
loop-word-init c = (
  omega arith,
  ap (λ s. reading s (spots_of c.args.text.now) (length c.args.text.now)) c.new-reader.ensures,
  ap (λ s. cause_from s (spots_of c.args.text.now)) c.new-reader.ensures,
)

-- what was read is declared, and so it is a definition
pub invariant_of-result : goal.invariant_of-result
invariant_of-result c =
    let text = c.args.text.now in
    let definition : Definition = record { name = c.in-Some-finish.name; fields = c.in-Some-finish.fields.items } in
    let small : length text < 2 ^ 64 = omega arith in
    let ended : finish c.loop-word.reader ≡ Some definition = sym c.in-Some-finish.ensures in
    let read : definition_of text ≡ Ok definition =
    sym c.loop-word.invariant.1 ∙ ap (λ spots. reading c.loop-word.reader spots (length text)) c.in_default.ensures.none ∙ ap (λ o. ok_or o (length text)) ended in
    let size = c.size_of_fields-payload_size in (
      (read_declared text small (Ok definition) read).defined,
      subst (λ (fields : List Field). IsPayloadSize fields size.result) c.deref.ensures.value size.ensures,
    )
