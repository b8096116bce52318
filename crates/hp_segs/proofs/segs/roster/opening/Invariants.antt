-- The places so far say who is present.
use Rattle.std.proofs.Common.{◌≡◌, ℕ, ◌<◌, false, get_or, length}
use Rattle.hp_segs.specs.Opening.{is_present}
use Rattle.hp_segs.proofs.segs.roster.opening.Given as goal

abbrev pub invariant-loop-participant : goal.invariant-loop-participant
invariant-loop-participant l = record {
  long : length l.roster ≡ 16;
  places : (k : ℕ) → k < l.participant → get_or l.roster k false ≡ is_present l.participants l.absent k;
}
