-- The worked examples, computed. Each definition that an answer needs and that doesn't unfold by itself is named once.
use Rattle.std.proofs.Common.{refl}
use Rattle.trace_filter.specs.Filters.{answer_of}
use Rattle.trace_format.specs.Operands.{operand_named}
use Rattle.trace_filter.specs.Syntax.{step as filter_step}
use Rattle.trace_filter.specs.Tokens.{piece_of}
use Rattle.trace_trigger.specs.HistParts.{attributes_of, tail_of}
use Rattle.trace_trigger.specs.HistLists.{lists_of}
use Rattle.trace_trigger.specs.HistOffsets.{attribute_mistakes, name_mistakes, key_mistakes, value_mistakes, sort_mistakes, mistakes}
use Rattle.trace_trigger.specs.Frames.{filter_of}
use Rattle.trace_trigger.specs.HistTexts.{read_of, spec_from, spec_of}
use Rattle.trace_trigger.specs.HistExamples.{tick, move, AreRead, accepted, accepted_of_move, wrong_attributes, wrong_table_names, wrong_items, wrong_modifiers, too_many, wrong_names, wrong_keys_of_move, wrong_values_of_move}

pub record AreAllRead : Type 0 where
  pub accepted : AreRead tick accepted
  pub accepted_of_move : AreRead move accepted_of_move
  pub attributes : AreRead tick wrong_attributes
  pub table_names : AreRead tick wrong_table_names
  pub items : AreRead tick wrong_items
  pub modifiers : AreRead tick wrong_modifiers
  pub many : AreRead tick too_many
  pub names : AreRead tick wrong_names
  pub keys : AreRead move wrong_keys_of_move
  pub values : AreRead move wrong_values_of_move

pub examples-are_read : AreAllRead
unfolding answer_of operand_named filter_step piece_of attributes_of tail_of lists_of attribute_mistakes name_mistakes key_mistakes value_mistakes sort_mistakes mistakes
    read_of filter_of spec_from spec_of
examples-are_read = record {
  accepted = refl;
  accepted_of_move = refl;
  attributes = refl;
  table_names = refl;
  items = refl;
  modifiers = refl;
  many = refl;
  names = refl;
  keys = refl;
  values = refl;
}
