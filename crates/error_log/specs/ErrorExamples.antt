-- What is shown of refused writes, and which are kept, worked by hand. The checker computes it.
use Rattle.std.specs.Prelude.{◌≡◌, ℕ, List, [], ◌∷◌, ◌++◌, map, replicate, codes}
use Rattle.mount_tree.specs.declared.node.Owner.{Owner}
use Rattle.mount_tree.specs.declared.node.Owner.TheVariants.{Top, Made}
use Rattle.error_log.specs.Errors.{ErrorSeen, before_caret, begun, command, error_text, refused}
use Rattle.error_log.specs.Logs.{cleared, errors_of, log_text, noted}

-- ---- lines and carets

-- the two lines of a write of this text that was refused at this offset: the second up to its caret
abbrev pub Shows : List ℕ → ℕ → List ℕ → List ℕ → Type 0
Shows text offset line caret =
    (e : ErrorSeen) (sentence : List ℕ)
    → (command (refused e text sentence offset) ≡ codes "  Command: " ++ line) × (before_caret (refused e text sentence offset) ≡ codes "           " ++ caret)

pub record Examples : Type 0 where
  -- a short first line
  pub first : Shows (codes "hist:keys=m\nsnapshot\n") 10 (codes "hist:keys=m") (codes "          ")
  -- the second line is to blame
  pub second : Shows (codes "n=1\nn=x\nn=3\n") 6 (codes "n=x") (codes "  ")
  -- an offset at a newline: after the last byte of its line
  pub newline : Shows (codes "n=1\nn\n") 5 (codes "n") (codes " ")
  -- a tab is shown as one, and under it is one; a byte that no line has is shown as `?`
  pub tab : Shows (codes "n\t> " ++ 255 ∷ []) 4 (codes "n\t> ?") (codes " \t  ")
  -- nothing was written
  pub nothing : Shows [] 0 [] []
  -- 400 bytes, of which the one at 300 is to blame: a `b` (98) among `a` (97). The 256 that end there are shown
  pub long : Shows (replicate 300 97 ++ 98 ∷ replicate 99 97) 300 (replicate 255 97 ++ 98 ∷ []) (replicate 255 32)

-- ---- a log

-- a write to a filter of an instance at this time, of which the `x` is to blame
abbrev pub filter_at : Owner → ℕ → ErrorSeen
filter_at owner time = refused (begun owner time (codes "events/synthetic/tick/filter")) (codes "n > x") (codes "expected a number") 4

-- of one other instance at time 1, and then of the top one at these times, the latest first
abbrev pub noted_at : List ℕ → List ErrorSeen
noted_at [] = noted (filter_at (Made 0) 1) []
noted_at (time ∷ earlier) = noted (filter_at Top time) (noted_at earlier)

-- ten that were refused one after another
abbrev pub ten : List ErrorSeen
ten = noted_at (11 ∷ 10 ∷ 9 ∷ 8 ∷ 7 ∷ 6 ∷ 5 ∷ 4 ∷ 3 ∷ 2 ∷ [])

abbrev pub times_of : Owner → List ErrorSeen → List ℕ
times_of owner errors = map (λ (e : ErrorSeen). e.time) (errors_of owner errors)

pub record LogExamples : Type 0 where
  -- a trigger has a name of its own, a switch its path
  pub trigger : error_text (refused (begun Top 12 (codes "events/synthetic/tick/trigger")) (codes "hist:keys=m") (codes "no such field") 10)
      ≡ codes "[   12.000000] hist:synthetic:tick: error: no such field\n" ++ codes "  Command: hist:keys=m\n" ++ codes "                     ^\n"
  pub switch : error_text (refused (begun (Made 3) 123456 (codes "instances/a/tracing_on")) (codes "2") (codes "expected `1` or `0`") 0)
      ≡ codes "[123456.000000] instances/a/tracing_on: error: expected `1` or `0`\n" ++ codes "  Command: 2\n" ++ codes "           ^\n"
  -- a log shows those of its instance
  pub own : log_text Top (noted_at (2 ∷ []))
      ≡ codes "[    2.000000] event filter parse error: error: expected a number\n" ++ codes "  Command: n > x\n" ++ codes "               ^\n"
  -- of the ten the last eight are kept, and that of the other instance
  pub eight : times_of Top ten ≡ 4 ∷ 5 ∷ 6 ∷ 7 ∷ 8 ∷ 9 ∷ 10 ∷ 11 ∷ []
  pub other : times_of (Made 0) ten ≡ 1 ∷ []
  -- a log that is cleared has none, and another has its own still
  pub none : log_text Top (cleared Top ten) ≡ []
  pub still : times_of (Made 0) (cleared Top ten) ≡ 1 ∷ []
