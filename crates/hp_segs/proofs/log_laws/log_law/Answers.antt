-- The laws are lemmas.
use Rattle.hp_segs.proofs.LogPlaceLemmas.{log_is_placed, ranges_are_outside, slots_are_few}
use Rattle.hp_segs.proofs.log_laws.log_law.Goals as goal

pub returns : goal.returns
returns c = record {
  placed = log_is_placed;
  outside = ranges_are_outside;
  few = slots_are_few;
}
