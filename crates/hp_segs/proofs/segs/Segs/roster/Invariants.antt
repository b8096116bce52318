-- The members so far, from the last on, are in the bits.
use Rattle.std.proofs.Common.{◌≡◌, ◌+◌, ◌-◌, ◌^◌, ◌≤◌, drop}
use Rattle.hp_segs.specs.SegsView.{roster_bits}
use Rattle.hp_segs.proofs.segs.Segs.roster.Given as goal

abbrev pub invariant-loop-place : goal.invariant-loop-place
invariant-loop-place l = record {
  bits : l.bits ≡ roster_bits (drop (16 - l.place) l.self-inside.parts.value.roster);
  small : l.bits + 1 ≤ 2 ^ l.place;
}
