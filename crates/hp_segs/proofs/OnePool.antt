-- One pool alone.
use Rattle.std.proofs.Common.{[], ◌∷◌, arith}
use Rattle.std.proofs.lemmas.List.Elements.{All-cons, All-nil}
use Rattle.std.proofs.lemmas.List.Sums.{sum_by-cons}
use Rattle.hp_base.specs.PoolLines.{ArePoolLines, IsPoolLine}
use Rattle.hp_base.specs.declared.pool_line.PoolLine.{PoolLine}

-- a pool within its limits may stand alone
pub one_pool : (line : PoolLine) → IsPoolLine line → ArePoolLines (line ∷ [])
one_pool line is = record {
  few = omega arith;
  lines = All-cons IsPoolLine line [] is (All-nil IsPoolLine);
  distinct = λ i j d before within. absurd (omega (arith, before, within));
  slots = omega (arith, sum_by-cons (λ (line : PoolLine). line.slots) line [], is.slots);
}
