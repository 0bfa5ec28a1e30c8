-- Filters as trees.
use Rattle.std.proofs.Common.{◌↔◌, ◌≤◌, ℕ, List, sym, subst}
use Rattle.trace_format.specs.Definitions.{Definition}
use Rattle.trace_filter.specs.Tokens.{spots_of, tokens_of}
use Rattle.trace_filter.specs.Filters.{IsFilter, IsShort}
use Rattle.trace_filter.specs.Laws.{SpellsFittingTree}
use Rattle.trace_filter.proofs.TreeDepths.{depth_is}
use Rattle.trace_filter.proofs.TreeFits.{fits_as_its_tree}

module _ (definition : Definition) (text : List ℕ) where
  to_tree : IsFilter definition text → IsShort text × SpellsFittingTree definition text
  to_tree filter =
      let whole = filter.syntax.whole in (
        filter.short,
        record {
          tree = whole.tree;
          spelled = whole.spelled;
          shallow = subst (λ n. n ≤ 16) (depth_is (tokens_of (spots_of text)) whole.tree whole.spelled) filter.syntax.shallow;
          fits = (fits_as_its_tree definition.fields (spots_of text) whole.tree whole.spelled).0 filter.fits;
        },
      )

  from_tree : IsShort text × SpellsFittingTree definition text → IsFilter definition text
  from_tree both =
      let spells = both.1 in
      record {
        short = both.0;
        syntax = record {
          whole = record { tree = spells.tree; spelled = spells.spelled };
          shallow = subst (λ n. n ≤ 16) (sym (depth_is (tokens_of (spots_of text)) spells.tree spells.spelled)) spells.shallow;
        };
        fits = (fits_as_its_tree definition.fields (spots_of text) spells.tree spells.spelled).1 spells.fits;
      }

  pub filter_is_its_tree : IsFilter definition text ↔ (IsShort text × SpellsFittingTree definition text)
  filter_is_its_tree = (to_tree, from_tree)
