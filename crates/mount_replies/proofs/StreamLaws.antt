-- What is written to a stream is its lines.
use Rattle.std.proofs.Common.{◌≡◌, ℕ, ◌+◌, ◌<◌, ◌≤◌, ◌==◌, ◌&&◌, if◌then◌else◌, Bool, true, false, nat_lt, List, [], ◌∷◌, ◌++◌, length, refl, sym, ap, subst, ◌∙◌, arith, append_assoc}
use Rattle.std.proofs.lemmas.Bool.Decides.{nat_tests}
use Rattle.std.proofs.lemmas.List.Splits.{join_with_byte-slice_split}
use Rattle.std.specs.List.{join_with_byte}
use Rattle.fuse_wire.specs.declared.reply.Reply.TheVariants as replies
use Rattle.mount_replies.specs.Lines.{last_piece, most_kept, pieces_of, stream_lines, too_long}
use Rattle.mount_replies.specs.FileWrites.{event_of_file, flush_line, has_rest}
use Rattle.mount_replies.specs.MountLaws.{CutsDontMatter, EndsAre, LinesEndAtNewlines, OthersFlushNothing, StreamsLoseNothing, joined_lines, texts_of}
use Rattle.mount_replies.specs.Steps.{Asking, plain}
use Rattle.mount_replies.proofs.PieceLemmas.{ended, ended-of-two, last-of-two, pieces-of-two, some-piece}

-- what is kept is no line that is refused
little : (size : ℕ) (rest : List ℕ) → length rest ≤ most_kept → too_long size rest ≡ []
little size rest short = let low : nat_lt most_kept (length rest) ≡ false = grind (arith, nat_tests) in rw low refl

-- the lines are the pieces that have ended
texts-are : (asking : List ℕ → Asking) (kept size start : ℕ) (pieces : List (List ℕ)) → length (last_piece pieces) ≤ most_kept
    → texts_of (stream_lines asking kept size start pieces) ≡ ended pieces
unfolding stream_lines
texts-are asking kept size start [] short = refl
texts-are asking kept size start (rest ∷ []) short = ap texts_of (little size rest short)
texts-are asking kept size start (line ∷ next ∷ more) short =
    ap (λ (l : List (List ℕ)). line ∷ l) (texts-are asking kept size (start + length line + 1) (next ∷ more) short)

pub cuts-dont-matter : CutsDontMatter
cuts-dont-matter asking rest one other short whole =
    let first = pieces_of (rest ++ one) in
    let second = pieces_of (last_piece first ++ other) in
    let all = pieces_of ((rest ++ one) ++ other) in
    let is : all ≡ ended first ++ second = pieces-of-two (rest ++ one) other in
    let some : 0 < length second = some-piece (last_piece first ++ other) in
    let same : last_piece second ≡ last_piece all = sym (ap last_piece is ∙ last-of-two (ended first) second some) in
    let small : length (last_piece second) ≤ most_kept = subst (λ (l : List ℕ). length l ≤ most_kept) (sym same) whole in (
      ap (λ (l : List (List ℕ)). l ++ texts_of (stream_lines asking (length (last_piece first)) (length other) 0 second)) (texts-are asking (length rest) (length one) 0 first short)
          ∙ ap (λ (l : List (List ℕ)). ended first ++ l) (texts-are asking (length (last_piece first)) (length other) 0 second small)
          ∙ sym (texts-are asking (length rest) (length (one ++ other)) 0 all whole ∙ ap ended is ∙ ended-of-two (ended first) second some),
      same,
    )

-- with a newline after each piece that has ended, the pieces are the bytes
joined-are : (pieces : List (List ℕ)) → joined_lines (ended pieces) ++ last_piece pieces ≡ join_with_byte 10 pieces
joined-are [] = refl
joined-are (rest ∷ []) = refl
joined-are (line ∷ next ∷ more) =
    append_assoc (line ++ 10 ∷ []) (joined_lines (ended (next ∷ more))) (last_piece (next ∷ more))
    ∙ append_assoc line (10 ∷ []) (joined_lines (ended (next ∷ more)) ++ last_piece (next ∷ more))
    ∙ ap (λ (l : List ℕ). line ++ 10 ∷ l) (joined-are (next ∷ more))

pub streams-lose-nothing : StreamsLoseNothing
streams-lose-nothing asking rest bytes short =
    ap (λ (l : List (List ℕ)). joined_lines l ++ last_piece (pieces_of (rest ++ bytes))) (texts-are asking (length rest) (length bytes) 0 (pieces_of (rest ++ bytes)) short)
    ∙ joined-are (pieces_of (rest ++ bytes)) ∙ join_with_byte-slice_split 10 (rest ++ bytes)

ends-are : (asking : List ℕ → Asking) (kept size start : ℕ) (pieces : List (List ℕ)) → length (last_piece pieces) ≤ most_kept
    → EndsAre kept start (stream_lines asking kept size start pieces)
unfolding stream_lines
ends-are asking kept size start [] short = tt
ends-are asking kept size start (rest ∷ []) short = rw (little size rest short) tt
ends-are asking kept size start (line ∷ next ∷ more) short = (refl, ends-are asking kept size (start + length line + 1) (next ∷ more) short)

pub lines-end-at-newlines : LinesEndAtNewlines
lines-end-at-newlines asking rest bytes short = ends-are asking (length rest) (length bytes) 0 (pieces_of (rest ++ bytes)) short

pub others-flush-nothing : OthersFlushNothing
others-flush-nothing g s handle lock_owner file other = by (has_rest file) (file.stream.lock_owner == lock_owner) other
  where
    by : (t u : Bool) → u ≡ false
        → (if t && u then flush_line g s handle file (event_of_file g s file file.file) else plain replies.Done s.files) ≡ plain replies.Done s.files
    by false u is = refl
    by true u is = rw is refl
