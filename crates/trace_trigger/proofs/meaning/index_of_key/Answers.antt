use Rattle.std.proofs.Common.{bytes_eq, sym, ap, ◌∙◌}
use Rattle.trace_format.specs.declared.key.Key.{Key}
use Rattle.trace_trigger.proofs.Looking.{place_start, place_here, place_later, place_none}
use Rattle.trace_trigger.proofs.meaning.index_of_key.Goals as goal

pub loop-index-init : goal.loop-index-init
loop-index-init c = place_start (λ (key : Key). bytes_eq c.args.name.now key.name) c.args.keys.now

pub returns-then-is_word : goal.returns-then-is_word
returns-then-is_word c =
    place_here (λ (key : Key). bytes_eq c.args.name.now key.name) c.args.keys.now c.loop-index.index c.index-keys-index.result c.loop-index-test.true c.index-keys-index.is (ap (bytes_eq c.args.name.now) (sym c.as_bytes.ensures) ∙ sym c.if-is_word.ensures) c.loop-index.invariant

pub loop-index-preserved : goal.loop-index-preserved
loop-index-preserved c =
    place_later (λ (key : Key). bytes_eq c.args.name.now key.name) c.args.keys.now c.loop-index.index c.index-keys-index.result c.loop-index-test.true c.index-keys-index.is (ap (bytes_eq c.args.name.now) (sym c.as_bytes.ensures) ∙ sym c.if-is_word.ensures) c.loop-index.invariant

pub returns : goal.returns
returns c = place_none (λ (key : Key). bytes_eq c.args.name.now key.name) c.args.keys.now c.loop-index.index c.loop-index-test.false c.loop-index.invariant
