use Rattle.std.proofs.Common.{bytes_eq, sym, ap, ◌∙◌}
use Rattle.trace_trigger.specs.declared.piece.ListItem.{ListItem}
use Rattle.trace_trigger.proofs.Looking.{any_here, any_later, any_none}
use Rattle.trace_trigger.proofs.written_lists.is_listed.Goals as goal

pub returns-then-is_word : goal.returns-then-is_word
returns-then-is_word c =
    any_here (λ (item : ListItem). bytes_eq c.args.name.now item.bytes) c.args.items.now c.loop-item.item-index c.item-item.result c.loop-item-test.true c.item-item.is (ap (bytes_eq c.args.name.now) (sym c.as_bytes.ensures) ∙ sym c.if-is_word.ensures) c.loop-item.invariant

pub loop-item-preserved : goal.loop-item-preserved
loop-item-preserved c =
    any_later (λ (item : ListItem). bytes_eq c.args.name.now item.bytes) c.args.items.now c.loop-item.item-index c.item-item.result c.loop-item-test.true c.item-item.is (ap (bytes_eq c.args.name.now) (sym c.as_bytes.ensures) ∙ sym c.if-is_word.ensures) c.loop-item.invariant

pub returns : goal.returns
returns c = any_none (λ (item : ListItem). bytes_eq c.args.name.now item.bytes) c.args.items.now c.loop-item.item-index c.loop-item-test.false c.loop-item.invariant
