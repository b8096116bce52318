-- Each step of the coordinator leaves the armed asks and the roster, and grants what all members have acknowledged.
use Rattle.std.proofs.Common.{◌≡◌, ℕ, true, List, length, replicate, Option, Some, None, refl, ap, subst, arith}
use Rattle.hp_base.specs.declared.caught.Caught.{Caught}
use Rattle.hp_segs.specs.LaterSteps.{after_stale}
use Rattle.hp_segs.specs.Moved.{is_log_call}
use Rattle.hp_segs.specs.SegsView.{SegsView, closed_number, is_member}
use Rattle.hp_segs.specs.Sound.{IsSound}
use Rattle.hp_segs.specs.Steps.{after_agree, after_cancel, after_close, after_drop, after_freed, after_grant, after_open, agreed_growth, cancelled_growth, granted_unless, lowest_member_below}
use Rattle.hp_segs.specs.declared.fault.NotAll.{NotAll}
use Rattle.hp_segs.specs.declared.growth.Growth.{Growth}
use Rattle.hp_segs.specs.declared.outcome.Cause.{Cause}
use Rattle.hp_segs.specs.declared.outcome.Outcome.TheVariants.{Freed, Granted, Refused, Stale}
use Rattle.hp_segs.proofs.Moves.{moves_keep}
use Rattle.hp_core.specs.Core.{Core}
use Rattle.hp_core.specs.Following.{after_catching}
use Rattle.hp_core.specs.Giving.{HasAcknowledged, OnlyNotes, StepsGive}
use Rattle.hp_core.specs.Stepping.{caught_in, stepped}
use Rattle.hp_core.specs.declared.asked.Asked.TheVariants as want
use Rattle.hp_core.specs.declared.event.CoreEvent.{CoreEvent}
use Rattle.hp_core.specs.declared.event.CoreEvent.TheVariants.{Grow, Shrink, SelfMapped, Poll}
use Rattle.hp_core.specs.declared.phase.Phase.{Phase}
use Rattle.hp_core.proofs.GivingLemmas.{Gives, all_acknowledged, catches_note, gives_behind, gives_new, gives_none, gives_one, gives_ungranted, growth_is_last, primary_alone}
use Rattle.hp_core.proofs.StepWalk.{HoldsAlone, HoldsInRound, HoldsStarted, came_holds, caught_holds, poll_holds}

module _ (acked : ℕ → ℕ → Type 0) (segs : SegsView) where
  same_gives : Gives acked segs segs
  same_gives = gives_none acked segs segs refl refl refl

  -- an ask that is started is granted nothing
  starts_give : HoldsStarted (Gives acked segs) segs
  starts_give = record {
    stale = λ from number.
        gives_ungranted acked segs (after_stale from number segs)
        (record { from = from; number = number; outcome = Stale (closed_number segs.asks from); at = length segs.log; ask = None })
        refl refl refl refl;
    refused = λ ask cause armed.
        gives_ungranted acked segs (after_close ask cause (after_drop segs))
        (record { from = ask.from; number = ask.number; outcome = Refused cause; at = length (after_drop segs).log; ask = Some ask })
        refl refl refl refl;
    opened = λ ask run armed fresh. gives_none acked segs (after_open ask run (after_drop segs)) refl refl refl;
    freed = λ from number.
        gives_ungranted acked segs (after_freed from number (after_drop segs))
        (record {
          from = from;
          number = number;
          outcome = Freed (length (after_drop segs).log);
          at = length (after_drop segs).log;
          ask = None;
        })
        refl refl refl refl;
  }

  cancel_gives : (cause : Cause) (open_now : Option Growth) → Gives acked segs (cancelled_growth cause segs open_now)
  cancel_gives cause None = same_gives
  cancel_gives cause (Some growth) =
      gives_ungranted acked segs (cancelled_growth cause segs (Some growth))
      (record { from = growth.ask.from; number = growth.ask.number; outcome = Refused cause; at = length segs.log; ask = Some growth.ask })
      refl refl refl refl

  module _ (acks : List ℕ)
      (all : (growth : Growth) (member : ℕ) → segs.growth ≡ Some growth → lowest_member_below segs.roster acks growth.generation ≡ None
      → is_member segs.roster member ≡ true → acked growth.generation member) where
    granted_gives : (growth : Growth) (below : Option NotAll) → segs.growth ≡ Some growth
        → lowest_member_below segs.roster acks growth.generation ≡ below → Gives acked segs (granted_unless growth segs below)
    granted_gives growth None is none =
        gives_one acked segs (after_grant growth segs)
        (record { from = growth.ask.from; number = growth.ask.number; outcome = Granted growth.generation; at = length segs.log; ask = Some growth.ask })
        refl refl refl
        (λ generation member granted within.
        let same : growth.generation ≡ generation = cc in
        subst (λ generation. acked generation member) same (all growth member is none within))
    granted_gives growth (Some member) is below = same_gives

    agree_by : (open_now : Option Growth) → segs.growth ≡ open_now → Gives acked segs (agreed_growth acks segs open_now)
    agree_by None is = same_gives
    agree_by (Some growth) is = granted_gives growth (lowest_member_below segs.roster acks growth.generation) is refl

    -- a growth that is granted where all members have acknowledged it
    agree_gives : Gives acked segs (after_agree acks segs)
    agree_gives = agree_by segs.growth refl

-- by a poll the members have acknowledged by the handed numbers
poll_gives : (now : ℕ) (acks : List ℕ) (segs : SegsView) → IsSound segs → HoldsInRound (Gives (HasAcknowledged (Poll now acks) segs) segs) acks segs
poll_gives now acks segs sound =
    let acked = HasAcknowledged (Poll now acks) segs in
    record {
      cancelled = λ cause why. cancel_gives acked segs cause segs.growth;
      agreed = agree_gives acked segs acks
          (λ growth member is none within. all_acknowledged segs.roster acks growth.generation member sound.places.roster_places none within);
    }

-- participant 0, alone, has mapped all records
alone_gives : (caught : Caught) (now : ℕ) (segs mid : SegsView) → IsSound segs → OnlyNotes segs mid
    → HoldsAlone (Gives (HasAcknowledged (SelfMapped caught now) segs) segs) caught mid
alone_gives caught now segs mid sound notes =
    let acked = HasAcknowledged (SelfMapped caught now) segs in
    let kept = moves_keep is_log_call 0 segs mid sound notes.moved in
    record {
      cancelled = λ cause why.
          gives_behind acked segs mid (after_cancel cause mid) notes.armed notes.roster notes.asks (cancel_gives acked mid cause mid.growth);
      agreed = λ generation none mapped.
          gives_behind acked segs mid (after_agree (replicate 16 generation) mid) notes.armed notes.roster notes.asks
          (agree_gives acked mid (replicate 16 generation)
          (λ growth member is all within. record {
            own = primary_alone mid.roster member none within;
            mapped = mapped;
            logged = omega (arith, growth_is_last mid growth kept is, ap length notes.log);
          }));
    }

catch_gives : (core : Core) (caught : Caught) (now : ℕ) (segs : SegsView) (phase : Phase) → IsSound segs
    → Gives (HasAcknowledged (SelfMapped caught now) segs) segs (caught_in core segs caught now phase).segs
catch_gives core caught now segs phase sound =
    let acked = HasAcknowledged (SelfMapped caught now) segs in
    let notes = catches_note 0 caught segs sound.places.primary in
    caught_holds (Gives acked segs) core segs caught now phase (same_gives acked segs)
    (gives_none acked segs (after_catching 0 caught segs) notes.armed notes.roster notes.asks)
    (alone_gives caught now segs (after_catching 0 caught segs) sound notes)

step_gives : (denial : ℕ → ℕ → Option (List ℕ × ℕ)) (event : CoreEvent) (core : Core) (segs : SegsView) → IsSound segs
    → Gives (HasAcknowledged event segs) segs (stepped denial event core segs).segs
step_gives denial (Grow ask) core segs sound =
    let acked = HasAcknowledged (Grow ask) segs in
    came_holds (Gives acked segs) denial segs (same_gives acked segs) (λ alone. starts_give acked segs) (want.Grow ask) core
step_gives denial (Shrink from number) core segs sound =
    let acked = HasAcknowledged (Shrink from number) segs in
    came_holds (Gives acked segs) denial segs (same_gives acked segs) (λ alone. starts_give acked segs) (want.Shrink from number) core
step_gives denial (SelfMapped caught now) core segs sound = catch_gives core caught now segs core.phase sound
step_gives denial (Poll now acks) core segs sound =
    let acked = HasAcknowledged (Poll now acks) segs in
    poll_holds (Gives acked segs) denial core segs now acks core.phase (same_gives acked segs) (λ alone. starts_give acked segs)
    (poll_gives now acks segs sound)

-- what each step gives
pub steps_give : StepsGive
steps_give denial event core segs sound =
    let given = step_gives denial event core segs sound in
    record {
      armed = given.armed;
      roster = given.roster;
      agreed = gives_new (HasAcknowledged event segs) segs (stepped denial event core segs).segs given;
    }
