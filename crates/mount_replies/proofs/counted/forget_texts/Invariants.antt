use Rattle.std.proofs.Common.{◌≡◌, ◌++◌, length, take, drop}
use Rattle.mount_replies.specs.Services.{latest_texts}
use Rattle.mount_replies.proofs.counted.forget_texts.Given as goal

abbrev pub invariant-loop-index : goal.invariant-loop-index
invariant-loop-index l = record {
  many : length l.texts ≡ l.count;
  so_far : take l.index l.texts ++ latest_texts (drop l.index l.texts) ≡ latest_texts l.fn.texts;
}
