-- By the moves of a board the segment value came by holds.
use Rattle.std.proofs.Common.{◌∙◌, None, ap, arith}
use Rattle.hp_board.specs.MovesKept.{all_free}
use Rattle.hp_board.specs.Views.{values_of}
use Rattle.thm_run.specs.SoFar.{first_segs}
use Rattle.thm_moved.specs.ByMoves.{HeldByMoves}
use Rattle.thm_moved.proofs.MovesAlone.{alone_on}
use Rattle.thm_moved.proofs.MovesHeld.{held_by, held_on, steps_held, taken_no}

pub held_by_moves : HeldByMoves
held_by_moves workload moves steps segs came =
    let held = held_on (all_free came.last) segs came.left moves (all_free came.first) (first_segs workload) came.opened came.replay in (
      held.holds,
      record {
        chain = held.chain;
        own = λ who.
            held.own who
            ∙ (ap (λ taken. held_by who taken (values_of who moves))
            (taken_no (all_free came.first) (first_segs workload) who (λ wrong. omega (arith, wrong)))
            ∙ (ap (held_by who None) (came.own who) ∙ steps_held who None (steps who)));
        good = held.good;
        led = held.led;
        alone = λ who below. alone_on who moves (all_free came.first) (all_free came.last) came.replay None tt (steps who) (came.own who);
      },
    )
