-- The member is among the participants that are left.
use Rattle.std.proofs.Common.{◌≡◌, ◌-◌}
use Rattle.std.specs.List.{find, range_with_len}
use Rattle.hp_segs.specs.Steps.{is_below}
use Rattle.hp_segs.proofs.segs.roster.lowest_member_below.Given as goal

abbrev pub invariant-loop-participant : goal.invariant-loop-participant
invariant-loop-participant l =
    find (is_below l.roster l.acks l.generation) (range_with_len 0 16)
    ≡ find (is_below l.roster l.acks l.generation) (range_with_len l.participant (16 - l.participant))
