use Rattle.std.proofs.Common.{◌<◌, ◌≤◌, ◌-◌, length, arith, ◌∙◌}
use Rattle.mount_replies.proofs.SizeLemmas.{latest-all, latest-changed, latest-same}
use Rattle.mount_replies.proofs.counted.forget_texts.Goals as goal
use Rattle.mount_replies.proofs.counted.forget_texts.Goals.{then-count-index-gt-MOST_TEXTS+in-Some-1, then-count-index-gt-MOST_TEXTS+in-None-1, else-count-index-gt-MOST_TEXTS}

pub loop-index-preserved : goal.loop-index-preserved
loop-index-preserved c =
    let within : c.loop-index.index < length c.loop-index.texts = omega arith in
    record {
      many = omega arith;
      so_far = elim c.if-count-index-gt-MOST_TEXTS.branch [
        | then-count-index-gt-MOST_TEXTS+in-Some-1 w ↦
            let many : 8 < length c.loop-index.texts - c.loop-index.index = omega arith in
            latest-changed c.loop-index.texts c.if-count-index-gt-MOST_TEXTS.texts c.loop-index.index c.index-texts-index.result within
            many w.texts-is ∙ c.loop-index.invariant.so_far
        | then-count-index-gt-MOST_TEXTS+in-None-1 w ↦
            let many : 8 < length c.loop-index.texts - c.loop-index.index = omega arith in
            latest-changed c.loop-index.texts c.if-count-index-gt-MOST_TEXTS.texts c.loop-index.index c.index-texts-index.result within
            many w.texts-is ∙ c.loop-index.invariant.so_far
        | else-count-index-gt-MOST_TEXTS w ↦
            let few : length c.loop-index.texts - c.loop-index.index ≤ 8 = omega arith in
            latest-same c.loop-index.texts c.if-count-index-gt-MOST_TEXTS.texts c.loop-index.index c.index-texts-index.result within
            few w.texts-is ∙ c.loop-index.invariant.so_far
      ];
    }

pub returns : goal.returns
returns c = latest-all c.loop-index.texts c.args.texts.now c.loop-index.index (omega arith) c.loop-index.invariant.so_far
