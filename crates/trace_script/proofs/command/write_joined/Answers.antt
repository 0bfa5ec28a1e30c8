use Rattle.std.proofs.Common.{List, ℕ, [], ◌∷◌, ◌++◌, refl, sym, ◌∙◌, ap}
use Rattle.trace_script.proofs.CommandLemmas.{join_push, push_some}
use Rattle.trace_script.specs.Lines.{write_behind}
use Rattle.trace_script.proofs.command.write_joined.Goals as goal

pub loop-token-init : goal.loop-token-init
loop-token-init c =
    let first = c.args.first.now in
    let second = c.args.second.now in (
      first ∷ second ∷ [],
      λ e. cc,
      c.in_ok-append_word.ensures
          ∙ ap (λ (text : List ℕ). text ++ 32 ∷ second) (c.in_ok-extend_from_slice.ensures.items ∙ ap (λ (text : List ℕ). text ++ first) c.clear.ensures.items),
      refl,
    )

pub loop-token-preserved : goal.loop-token-preserved
loop-token-preserved c =
    let before = c.loop-token.invariant in
    let words = before.0 in
    let word = c.in-Word.word in
    let taken = rw (c.in-Some.is, c.in-Word.is) at c.next.ensures in (
      words ++ word ∷ [],
      push_some words word,
      rw (c.in_ok-append_word-in-Word.ensures, c.as_bytes.ensures, before.2) (sym (join_push words word before.1)),
      sym (ap (write_behind words) taken) ∙ before.3,
    )
