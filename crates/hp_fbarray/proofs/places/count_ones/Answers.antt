use Rattle.std.proofs.Common.{◌+◌, ◌≤◌, get_or, ap, sym, ◌∙◌, arith}
use Rattle.std.proofs.lemmas.List.Sums.{sum_by_more}
use Rattle.std.proofs.lemmas.Nat.{ones-le}
use Rattle.std.specs.Int.RustNames.{count_ones}
use Rattle.hp_fbarray.proofs.places.count_ones.Goals as goal

pub loop-word-preserved : goal.loop-word-preserved
loop-word-preserved c =
    let few : count_ones (get_or c.args.words.now c.loop-word.word-index 0) ≤ 64
    = ones-le 64 (get_or c.args.words.now c.loop-word.word-index 0) (c.type_inv.words c.loop-word.word-index).fits in
    record {
      counted =
          ap (λ ones. ones + count_ones (get_or c.args.words.now c.loop-word.word-index 0)) c.loop-word.invariant.counted
          ∙ sym (sum_by_more count_ones c.args.words.now c.loop-word.word-index 0 c.loop-word-test.true);
      few = omega (arith, c.loop-word.invariant.few);
    }

pub returns-clause-fits : goal.returns-clause-fits
returns-clause-fits c = λ i. (c.type_inv.words i).fits
