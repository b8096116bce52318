-- Asks, and the runs that no heap has claimed, where outcomes, rows, the open growth and the armed asks are as they were.
use Rattle.std.proofs.Common.{◌≡◌, ◌∙◌, ℕ, List, Option, None, ap, sym, subst}
use Rattle.std.specs.Prelude.{Contains, slice_index_or}
use Rattle.std.specs.List.{list_any}
use Rattle.hp_segs.specs.LaterSteps.{armed_ask}
use Rattle.hp_segs.specs.PendingRuns.{ArePending, IsPending, PendingIsAlone, PendingIsArmed, PendingIsLast}
use Rattle.hp_segs.specs.SegsView.{SegsView, grant_of, is_outcome_for, is_unclaimed}
use Rattle.hp_segs.specs.declared.ask.Ask.{Ask}
use Rattle.hp_segs.specs.declared.outcome.AskLog.{AskLog}
use Rattle.hp_segs.specs.declared.row_state.Segment.{Segment}
use Rattle.hp_hall.specs.AskLaws.{LeavesSettled}

-- outcomes, rows, the open growth and the armed asks are as they were
pub record LeavesAsksAndRows (taken given : SegsView) : Type 0 where
  pub asks : given.asks ≡ taken.asks
  pub segments : given.segments ≡ taken.segments
  pub growth : given.growth ≡ taken.growth
  pub armed : given.armed ≡ taken.armed

module _ (taken given : SegsView) (left : LeavesAsksAndRows taken given) where
  unclaimed : (generation : ℕ) → is_unclaimed given.segments generation ≡ is_unclaimed taken.segments generation
  unclaimed generation = ap (λ (l : List Segment). is_unclaimed l generation) left.segments

  was : (ask : Ask) (generation : ℕ) (entry : AskLog) → IsPending given ask generation entry → IsPending taken ask generation entry
  was ask generation entry pending = record {
    logged = subst (λ (l : List AskLog). Contains l entry) left.asks pending.logged;
    its_ask = pending.its_ask;
    granted = pending.granted;
    unclaimed = sym (unclaimed generation) ∙ pending.unclaimed;
  }

  pub armed_still : (who : ℕ) → armed_ask given who ≡ armed_ask taken who
  armed_still who = ap (λ (armed : List (Option Ask)). slice_index_or armed who None) left.armed

  pub settled_still : LeavesSettled taken given
  settled_still from number settled = record {
    answered = ap (list_any (is_outcome_for from number)) left.asks ∙ settled.answered;
    claimed = λ generation granted.
        unclaimed generation ∙ settled.claimed generation (ap (λ (l : List AskLog). grant_of l from number) (sym left.asks) ∙ granted);
  }

  armed_of : PendingIsArmed taken → PendingIsArmed given
  armed_of old entry ask generation pending = armed_still ask.from ∙ old entry ask generation (was ask generation entry pending)

  alone_of : PendingIsAlone taken → PendingIsAlone given
  alone_of old entry ask generation growth pending open_now =
      old entry ask generation growth (was ask generation entry pending) (sym left.growth ∙ open_now)

  last_of : PendingIsLast taken → PendingIsLast given
  last_of old entry other ask asked generation number pending among kept granted same =
      old entry other ask asked generation number (was ask generation entry pending)
      (subst (λ (l : List AskLog). Contains l other) left.asks among) kept granted same

  pub pending_still : ArePending taken → ArePending given
  pending_still old = record { of_armed = armed_of old.of_armed; alone = alone_of old.alone; last = last_of old.last }
