-- After each step of the coordinator the open growth is of the ask with which its participant is armed.
use Rattle.std.proofs.Common.{◌≡◌, ℕ, Bool, true, false, List, replicate, Option, Some, None, IfSome, sym, subst, if◌then◌else◌}
use Rattle.hp_base.specs.declared.caught.Caught.{Caught}
use Rattle.hp_segs.specs.GrowthLaws.{HasArmedGrowth, IsOfArmed}
use Rattle.hp_segs.specs.LaterSteps.{after_stale, is_noted, noting}
use Rattle.hp_segs.specs.SegsView.{SegsView}
use Rattle.hp_segs.specs.Steps.{after_close, after_drop, after_freed, agreed_growth, cancelled_growth, granted_unless, lowest_member_below}
use Rattle.hp_segs.specs.declared.ask.Ask.{Ask}
use Rattle.hp_segs.specs.declared.fault.NotAll.{NotAll}
use Rattle.hp_segs.specs.declared.growth.Growth.{Growth}
use Rattle.hp_segs.specs.declared.outcome.AskLog.{AskLog}
use Rattle.hp_segs.specs.declared.outcome.Cause.{Cause}
use Rattle.hp_segs.specs.declared.outcome.Cause.TheVariants.{MapFailed}
use Rattle.hp_core.specs.Following.{after_catching, failure_of, noted}
use Rattle.hp_core.specs.Giving.{StepsLeaveArmed}
use Rattle.hp_core.specs.declared.asked.Asked.TheVariants as want
use Rattle.hp_core.specs.declared.event.CoreEvent.TheVariants.{Grow, Shrink, SelfMapped, Poll}
use Rattle.hp_core.specs.declared.following.Failure.{Failure}
use Rattle.hp_core.proofs.StepWalk.{HoldsAlone, HoldsInRound, HoldsStarted, came_holds, caught_holds, poll_holds}

-- where no growth is open there is none of another ask
none_open : (segs : SegsView) → segs.growth ≡ None → HasArmedGrowth segs
none_open segs alone = subst (λ growth. IfSome growth (IsOfArmed segs.asks segs.armed)) (sym alone) tt

starts_armed : (segs : SegsView) → segs.growth ≡ None → HoldsStarted HasArmedGrowth segs
starts_armed segs alone = record {
  stale = λ from number. none_open (after_stale from number segs) alone;
  refused = λ ask cause armed. none_open (after_close ask cause (after_drop segs)) alone;
  opened = λ ask run armed fresh. record { its_ask = armed; above = fresh };
  freed = λ from number. none_open (after_freed from number (after_drop segs)) alone;
}

module _ (segs : SegsView) (old : HasArmedGrowth segs) where
  cancel_armed : (cause : Cause) (open_now : Option Growth) → HasArmedGrowth (cancelled_growth cause segs open_now)
  cancel_armed cause None = old
  cancel_armed cause (Some growth) = tt

  granted_armed : (growth : Growth) (below : Option NotAll) → HasArmedGrowth (granted_unless growth segs below)
  granted_armed growth None = tt
  granted_armed growth (Some member) = old

  agree_armed : (acks : List ℕ) (open_now : Option Growth) → HasArmedGrowth (agreed_growth acks segs open_now)
  agree_armed acks None = old
  agree_armed acks (Some growth) = granted_armed growth (lowest_member_below segs.roster acks growth.generation)

  round_armed : (acks : List ℕ) → HoldsInRound HasArmedGrowth acks segs
  round_armed acks = record { cancelled = λ cause why. cancel_armed cause segs.growth; agreed = agree_armed acks segs.growth }

  alone_armed : (caught : Caught) → HoldsAlone HasArmedGrowth caught segs
  alone_armed caught = record {
    cancelled = λ cause why. cancel_armed cause segs.growth;
    agreed = λ generation none mapped. agree_armed (replicate 16 generation) segs.growth;
  }

-- a noted failure leaves the growth's ask
noting_armed : (asks : List AskLog) (armed : List (Option Ask)) (cause : Cause) (growth : Option Growth) → IfSome growth (IsOfArmed asks armed)
    → IfSome (noting cause growth) (IsOfArmed asks armed)
noting_armed asks armed cause None old = tt
noting_armed asks armed cause (Some growth) old = record { its_ask = old.its_ask; above = old.above }

note_armed : (segs : SegsView) (cause : Cause) (taken : Bool) → HasArmedGrowth segs
    → HasArmedGrowth (if taken then record segs { growth = noting cause segs.growth } else segs)
note_armed segs cause true old = noting_armed segs.asks segs.armed cause segs.growth old
note_armed segs cause false old = old

pub noted_armed : (segs : SegsView) (failure : Option Failure) → HasArmedGrowth segs → HasArmedGrowth (noted 0 segs failure)
noted_armed segs None old = old
noted_armed segs (Some one) old =
    note_armed segs (MapFailed 0 one.call one.row.addr one.got) (is_noted segs 0 one.call one.row segs.growth) old

-- each step leaves the open growth one of an armed ask
pub steps_leave_armed : StepsLeaveArmed
steps_leave_armed denial (Grow ask) core segs old = came_holds HasArmedGrowth denial segs old (starts_armed segs) (want.Grow ask) core
steps_leave_armed denial (Shrink from number) core segs old =
    came_holds HasArmedGrowth denial segs old (starts_armed segs) (want.Shrink from number) core
steps_leave_armed denial (SelfMapped caught now) core segs old =
    let behind : HasArmedGrowth (after_catching 0 caught segs) = noted_armed segs (failure_of caught) old in
    caught_holds HasArmedGrowth core segs caught now core.phase old behind (alone_armed (after_catching 0 caught segs) behind caught)
steps_leave_armed denial (Poll now acks) core segs old =
    poll_holds HasArmedGrowth denial core segs now acks core.phase old (starts_armed segs) (round_armed segs old acks)
