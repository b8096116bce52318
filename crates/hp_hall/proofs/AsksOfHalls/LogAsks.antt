-- Asks under a give by the form of asks, growths and drops: what is pending is of an armed ask, and the last of its heap; and a settled ask
-- stays settled.
use Rattle.std.proofs.Common.{◌≡◌, ◌∙◌, ℕ, ◌≤◌, true, ◌||◌, Some, IfSome, ap, sym, subst, arith, ◌⊎◌, ⊎_elim}
use Rattle.std.specs.Prelude.{Contains}
use Rattle.std.specs.List.{list_any}
use Rattle.std.proofs.lemmas.List.Folds.{list_any-append}
use mathlib.Core.Logic.{dite}
use native.Mathlib.Decide.{ℕ_discrete}
use Rattle.hp_segs.specs.GrowthLaws.{IsOfArmed}
use Rattle.hp_segs.specs.LaterSteps.{armed_ask}
use Rattle.hp_segs.specs.Moved.{Appends, IsMovedBy, is_log_call}
use Rattle.hp_segs.specs.SegsView.{SegsView, closed_number, grant_of, granted_by, is_outcome_for, is_unclaimed}
use Rattle.hp_segs.specs.Sound.{IsSound}
use Rattle.hp_segs.specs.SoundRows.{IsGrowth, IsLogged}
use Rattle.hp_segs.specs.declared.ask.Ask.{Ask}
use Rattle.hp_segs.specs.declared.growth.Growth.{Growth}
use Rattle.hp_segs.specs.declared.outcome.AskLog.{AskLog}
use Rattle.hp_segs.proofs.Appending.{moves_append}
use Rattle.hp_segs.proofs.AskFacts.SettledLaws.{above_is_unsettled}
use Rattle.hp_hall.specs.AskLaws.{HeldIsAlone, LogCallsSettle, LogGivesLeave}
use Rattle.hp_hall.specs.Asks.{Arms}
use Rattle.hp_segs.specs.PendingRuns.{IsPending, PendingIsAlone, PendingIsArmed, PendingIsLast}
use Rattle.hp_segs.specs.SettledAsks.{IsSettled}
use Rattle.hp_hall.proofs.AsksOfHalls.OpenGrants.{GrantsOpen}
use Rattle.hp_segs.specs.Standing.{IsArmed}
use Rattle.hp_hall.proofs.AsksOfHalls.AskFacts.{IsGrantIn, grant_in, granted_within, granted_there, pending_unsettled, whose}
use Rattle.hp_hall.proofs.AsksOfHalls.OpenGrants.{moved_grants}
use Rattle.hp_hall.proofs.StandingFacts.StandingAsks.{closed_above, own_grant, told}
use Rattle.hp_hall.proofs.StandingFacts.StandingClaims.{granted_is}
use Rattle.hp_hall.proofs.UnclaimedRuns.{logged_unclaimed}

-- the open growth of a value is of an armed ask, above the closed number, and the last record
pub armed_growth : (segs : SegsView) (growth : Growth) → IsArmed segs → segs.growth ≡ Some growth → IsOfArmed segs.asks segs.armed growth
armed_growth segs growth armed is = subst (λ g. IfSome g (IsOfArmed segs.asks segs.armed)) is armed.growth

logged_growth : (segs : SegsView) (growth : Growth) → IsSound segs → segs.growth ≡ Some growth → IsGrowth segs.pools segs.log segs.segments growth
logged_growth segs growth sound is = subst (IsLogged segs.pools segs.log segs.segments) is sound.rows.logged

module _ (taken given : SegsView) (sound : IsSound taken) (sound' : IsSound given) (moved : IsMovedBy is_log_call 1 taken given) (armed : IsArmed taken) where
  -- what was granted before is claimed, or not, as it was
  unclaimed_stays : (entry : AskLog) (generation : ℕ) → Contains taken.asks entry → granted_by entry.outcome ≡ Some generation
      → is_unclaimed given.segments generation ≡ is_unclaimed taken.segments generation
  unclaimed_stays entry generation among granted =
      logged_unclaimed generation moved.calls taken given sound (granted_there taken.asks entry generation among granted) moved.leads moved.only

  pending_was : (ask : Ask) (generation : ℕ) (entry : AskLog) → IsPending given ask generation entry → Contains taken.asks entry → IsPending taken ask generation entry
  pending_was ask generation entry pending among = record {
    logged = among;
    its_ask = pending.its_ask;
    granted = pending.granted;
    unclaimed = sym (unclaimed_stays entry generation among pending.granted) ∙ pending.unclaimed;
  }

  -- a settled ask stays settled
  pub settled_stays : (from number : ℕ) → IsSettled from number taken → IsSettled from number given
  settled_stays from number settled =
      let came : Appends taken given = moves_append is_log_call 1 taken given moved in
      record {
        answered =
            ap (list_any (is_outcome_for from number)) came.asks
            ∙ (list_any-append (is_outcome_for from number) taken.asks came.outcomes
            ∙ ap (λ b. b || list_any (is_outcome_for from number) came.outcomes) settled.answered);
        claimed = λ generation granted.
            let its : IsGrantIn given.asks from number generation = grant_in given.asks from number generation granted in
            ⊎_elim
            (λ old.
            unclaimed_stays its.entry generation old its.granted
            ∙ settled.claimed generation
            (ap (λ n. grant_of taken.asks n number) (sym its.who) ∙ (ap (grant_of taken.asks its.entry.from) (sym its.which) ∙ own_grant_of its.entry generation old its.granted)))
            (λ new. absurd (not_new generation its new))
            (moved_grants taken given moved its.entry generation its.there its.granted);
      }
    where
      own_grant_of : (entry : AskLog) (generation : ℕ) → Contains taken.asks entry → granted_by entry.outcome ≡ Some generation
          → grant_of taken.asks entry.from entry.number ≡ Some generation
      own_grant_of entry generation among granted =
          own_grant taken entry generation sound among (granted_is entry.outcome generation granted)

      not_new : (generation : ℕ) (its : IsGrantIn given.asks from number generation) → GrantsOpen taken.growth its.entry generation → ⊥
      not_new generation its new =
          let of : IsOfArmed taken.asks taken.armed new.was = armed_growth taken new.was armed new.there in
          let who : new.was.ask.from ≡ from = whose given its.entry new.was.ask sound' its.there new.its_ask ∙ its.who in
          let which : new.was.ask.number ≡ number = ((told given its.entry sound' its.there).closes new.was.ask new.its_ask).which ∙ its.which in
          let closed : closed_number taken.asks new.was.ask.from ≡ closed_number taken.asks from = ap (closed_number taken.asks) who in
          let above = of.above in
          above_is_unsettled taken from number (omega (arith, closed, above, which)) settled

  -- what is pending is of an armed ask
  pub pending_armed : (who : ℕ) (Holds : ℕ → Type 0) → Arms who Holds taken given → PendingIsArmed taken → PendingIsArmed given
  pending_armed who Holds arms old entry ask generation pending =
      let was : armed_ask taken ask.from ≡ Some ask =
      ⊎_elim (λ among. old entry ask generation (pending_was ask generation entry pending among))
      (λ new.
      let asked : Some new.was.ask ≡ Some ask = sym new.its_ask ∙ pending.its_ask in
      let same : new.was.ask ≡ ask = cc in
      subst (λ (a : Ask). armed_ask taken a.from ≡ Some a) same (armed_growth taken new.was armed new.there).its_ask)
      (moved_grants taken given moved entry generation pending.logged pending.granted) in
      dite (ℕ_discrete ask.from who)
      (λ self.
      ⊎_elim (λ stays. ap (armed_ask given) self ∙ stays)
      (λ settled. absurd (pending_unsettled given ask generation entry sound' pending settled))
      (arms.settled ask (ap (armed_ask taken) (sym self) ∙ was)))
      (λ apart. arms.others ask.from apart ∙ was)

  -- and the last of its heap
  pub pending_last : PendingIsAlone taken → PendingIsLast taken → PendingIsLast given
  pending_last alone last entry other ask asked generation number pending among kept granted same =
      ⊎_elim
      (λ old.
      ⊎_elim
      (λ old_other. last entry other ask asked generation number (pending_was ask generation entry pending old) old_other kept granted same)
      (λ new_other.
      let its : Some new_other.was.ask ≡ Some asked = sym new_other.its_ask ∙ kept in
      let is : new_other.was.ask ≡ asked = cc in
      absurd (alone entry ask generation new_other.was (pending_was ask generation entry pending old) new_other.there (ap (λ (a : Ask). a.heap) is ∙ same)))
      (moved_grants taken given moved other number among granted))
      (λ new.
      let is_last = (logged_growth taken new.was sound new.there).last in
      ⊎_elim
      (λ old_other. let within = granted_within taken sound other number old_other granted in let stamp = new.stamp in omega (arith, within, stamp, is_last))
      (λ new_other.
      let one : Some new_other.was ≡ Some new.was = sym new_other.there ∙ new.there in
      let same_growth : new_other.was ≡ new.was = cc in
      let stamps : new_other.was.generation ≡ new.was.generation = ap (λ (g : Growth). g.generation) same_growth in
      let stamp = new.stamp in
      let stamp' = new_other.stamp in
      omega (arith, stamp, stamp', stamps))
      (moved_grants taken given moved other number among granted))
      (moved_grants taken given moved entry generation pending.logged pending.granted)

-- a growth that is open is not for a heap for which a run is pending: both askers would hold the heap, and be armed with one ask
pub pending_alone : (segs : SegsView) (Holds : ℕ → ℕ → Type 0) → IsSound segs → IsArmed segs → PendingIsArmed segs
    → ((who : ℕ) (ask : Ask) → armed_ask segs who ≡ Some ask → IsSettled ask.from ask.number segs ⊎ Holds who ask.heap)
    → ((who other heap : ℕ) → Holds who heap → Holds other heap → who ≡ other)
    → PendingIsAlone segs
pending_alone segs Holds sound armed pending_of holding one entry ask generation growth pending open_now same =
    let its : IsOfArmed segs.asks segs.armed growth = armed_growth segs growth armed open_now in
    let by : armed_ask segs ask.from ≡ Some ask = pending_of entry ask generation pending in
    ⊎_elim (λ settled. absurd (pending_unsettled segs ask generation entry sound pending settled))
    (λ holds.
    ⊎_elim (λ settled. absurd (above_is_unsettled segs growth.ask.from growth.ask.number its.above settled))
    (λ holds_too.
    let who : ask.from ≡ growth.ask.from = one ask.from growth.ask.from ask.heap holds (subst (Holds growth.ask.from) same holds_too) in
    let asked : Some growth.ask ≡ Some ask = sym its.its_ask ∙ (ap (armed_ask segs) (sym who) ∙ by) in
    let is : growth.ask ≡ ask = cc in
    let closes = (told segs entry sound pending.logged).closes ask pending.its_ask in
    let below : entry.number ≤ closed_number segs.asks entry.from = closed_above segs.asks entry pending.logged closes.fresh in
    let whose_is : ask.from ≡ entry.from = whose segs entry ask sound pending.logged pending.its_ask in
    let closed : closed_number segs.asks entry.from ≡ closed_number segs.asks growth.ask.from = ap (closed_number segs.asks) (sym whose_is ∙ who) in
    let number : growth.ask.number ≡ ask.number = ap (λ (a : Ask). a.number) is in
    let above = its.above in
    let which = closes.which in
    absurd (omega (arith, below, closed, number, above, which)))
    (holding growth.ask.from growth.ask its.its_ask))
    (holding ask.from ask by)

-- the laws
pub log_calls_settle : LogCallsSettle
log_calls_settle old new sound sound' armed moved = settled_stays old new sound sound' moved armed

pub log_gives_leave : LogGivesLeave
log_gives_leave who holds old new sound sound' armed moved arms pending = record {
  of_armed = pending_armed old new sound sound' moved armed who (λ heap. holds heap ≡ true) arms pending.of_armed;
  last = pending_last old new sound sound' moved armed pending.alone pending.last;
}

pub held_is_alone : HeldIsAlone
held_is_alone segs holds sound armed pending asking one = pending_alone segs (λ who heap. holds who heap ≡ true) sound armed pending asking one
