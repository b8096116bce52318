use Rattle.std.proofs.Common.{◌≡◌, ℕ, ◌<◌, ◌≤◌, get_or, true, false, vec_len, vec_capacity}
use Rattle.std.specs.Slots.{slots_items, slots_filled, slots_len}
use Rattle.hp_base.specs.declared.limits.TheConstants.{MAX_HEAPS}
use Rattle.hp_board.specs.declared.words.TheConstants.{SLOTS}
use Rattle.hp_board.proofs.EndingFacts.Gatherings.{AreMovedOut}
use Rattle.hp_board.proofs.closing.fill.Given as goal

abbrev pub invariant-loop-number : goal.invariant-loop-number
invariant-loop-number l = record {
  items : slots_items l.closed.slots ≡ slots_items l.initial.closed.slots;
  count : slots_len l.closed.slots ≡ SLOTS;
  full : (k : ℕ) → l.number ≤ k → k < SLOTS → get_or (slots_filled l.closed.slots) k false ≡ true;
  taken : (k : ℕ) → k < l.number → get_or (slots_filled l.closed.slots) k false ≡ false;
  moved : (vec_len l.heaps ≡ l.number) × (vec_len l.pens ≡ l.number);
  room : (MAX_HEAPS ≤ vec_capacity l.heaps) × (MAX_HEAPS ≤ vec_capacity l.pens);
  values : AreMovedOut (slots_items l.closed.slots) l.heaps.items l.pens.items l.number;
}
