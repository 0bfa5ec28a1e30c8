use Rattle.std.proofs.Common.{◌≡◌, ℕ, List, ◌++◌, take, drop, sym, ◌∙◌, ap}
use Rattle.std.proofs.lemmas.List.{take-append-drop}
use Rattle.std.proofs.lemmas.Result.{err_from_is_err_and}
use Rattle.trace_session.proofs.DeviceLemmas.{rest_waits, rest_written, front_cut, rest_cut}
use Rattle.trace_session.proofs.replies.Replies.add.Goals as goal

split_text : (text front rest : List ℕ) (at : ℕ) → front ≡ take at text → rest ≡ drop at text → text ≡ front ++ rest
split_text text front rest at e f = rw (e, f) (sym (take-append-drop at text))

pub returns-in_err-flush-clause-failed : goal.returns-in_err-flush-clause-failed
returns-in_err-flush-clause-failed g c =
    let p = err_from_is_err_and c.from_residual.result c.from_residual.ensures.1 in
    let contents = g.W.Sink.contents in
    let text = c.args.text.now in
    let front = c.split_at.result.0.now in
    let rest = c.split_at.result.1.now in
    let failed = c.in_err-flush.ensures.failed in
    rw p.1 (
      failed.0,
      front_cut (contents c.args.writer.now) (contents c.flush.new.writer) (contents c.flush.new.writer) c.args.self.now c.keep-2.new.self front rest text c.keep-2.ensures
          (split_text text front rest _ c.split_at.ensures.front c.split_at.ensures.back) failed.1,
    )

pub returns-then-rest-lt-PIECE_BYTES-clause-bytes :
    goal.returns-then-rest-lt-PIECE_BYTES-clause-bytes
returns-then-rest-lt-PIECE_BYTES-clause-bytes g c =
    let contents = g.W.Sink.contents in
    let text = c.args.text.now in
    let front = c.split_at.result.0.now in
    let rest = c.split_at.result.1.now in
    let kept = c.keep-then-rest-lt-PIECE_BYTES in
    rest_waits (contents c.args.writer.now) (contents c.flush.new.writer) (contents c.flush.new.writer) c.args.self.now c.keep-2.new.self front rest text c.keep-2.ensures
    (split_text text front rest _ c.split_at.ensures.front c.split_at.ensures.back) kept.new.self
    (kept.ensures ∙ ap (λ (xs : List ℕ). xs ++ rest) c.in_ok-flush.ensures.none) c.in_ok-flush.ensures.bytes

pub returns-in_err-write_all-clause-failed : goal.returns-in_err-write_all-clause-failed
returns-in_err-write_all-clause-failed g c =
    let p = err_from_is_err_and c.from_residual-in_err-write_all.result c.from_residual-in_err-write_all.ensures.1 in
    let contents = g.W.Sink.contents in
    let text = c.args.text.now in
    let front = c.split_at.result.0.now in
    let rest = c.split_at.result.1.now in
    let failed = c.in_err-write_all.ensures.failed in
    rw p.1 (
      rw c.in_ok-flush.ensures.failures at failed.0,
      rest_cut (contents c.args.writer.now) (contents c.flush.new.writer) (contents c.write_all.new.writer) c.args.self.now c.keep-2.new.self front rest text c.keep-2.ensures
          (split_text text front rest _ c.split_at.ensures.front c.split_at.ensures.back) c.in_ok-flush.ensures.bytes failed.1,
    )

pub returns-clause-bytes : goal.returns-clause-bytes
returns-clause-bytes g c =
    let contents = g.W.Sink.contents in
    let text = c.args.text.now in
    let front = c.split_at.result.0.now in
    let rest = c.split_at.result.1.now in
    rest_written (contents c.args.writer.now) (contents c.flush.new.writer) (contents c.write_all.new.writer) c.args.self.now c.keep-2.new.self front rest text c.keep-2.ensures
    (split_text text front rest _ c.split_at.ensures.front c.split_at.ensures.back) c.flush.new.self
    c.in_ok-flush.ensures.none c.in_ok-flush.ensures.bytes c.in_ok-write_all.ensures.bytes
