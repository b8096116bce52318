-- A zero more is what stood after the last one.
use Rattle.std.proofs.Common.{◌≡◌, ◌∷◌, ◌++◌, ◌∙◌, ℕ, List, [], ap, arith, get_or}
use Rattle.hp_maps.proofs.IndexLemmas.{zero_more}
use Rattle.hp_maps.proofs.last_drops.extend.Goals as goal

pub loop-place-preserved : goal.loop-place-preserved
loop-place-preserved c = record {
  long = omega (arith, c.loop-place.invariant.long, c.push_reserved.ensures.len);
  room = omega (arith, c.loop-place.invariant.room, c.push_reserved.ensures.capacity);
  same = λ place.
      ap (λ (l : List ℕ). get_or l place 0) c.push_reserved.ensures.items
      ∙ (zero_more c.loop-place.numbers.items place ∙ c.loop-place.invariant.same place);
}
