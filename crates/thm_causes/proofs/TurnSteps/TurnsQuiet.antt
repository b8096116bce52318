-- A turn has ended: the stage of the ask stands for participant 0 again, and once it is over all is quiet; and what a pause leaves of that.
use Rattle.std.proofs.Common.{◌≡◌, ◌∙◌, ◌&&◌, ◌⊎◌, ◌-◌, ◌<◌, ◌≤◌, ℕ, zero, suc, Bool, true, false, List, [], ◌∷◌, length, replicate, Option, Some, None, is_some, inl, inr, refl, sym, ap, subst, arith, true≢false}
use Rattle.std.specs.Prelude.{slice_get, slice_set, if◌then◌else◌}
use Rattle.std.specs.List.{list_any}
use Rattle.std.proofs.lemmas.Bool.{cases_eq, or_right}
use Rattle.hp_core.specs.Asks.{asker, number_of}
use Rattle.hp_core.specs.Core.{Core, holds_ask, is_idle}
use Rattle.hp_core.specs.declared.asked.Asked.{Asked}
use Rattle.hp_core.specs.declared.phase.Phase.{Phase}
use Rattle.hp_core.specs.declared.phase.Phase.TheVariants.{Idle}
use Rattle.hp_frame.specs.declared.message.Body.{Body}
use Rattle.hp_segs.specs.SegsView.{closed_number}
use Rattle.hp_serve.specs.Coordinating.{core_holds}
use Rattle.hp_serve.specs.Party.{Party}
use Rattle.thm_causes.specs.Counting.{LosesNothing}
use Rattle.thm_causes.specs.RoundTrip.{AreAnswersOrCopies, AreDoubled, HaveCaughtUp, AreOthersEmpty, EndsLevel, HasCoordinator, IsAnsweredFor, IsBase, IsClosed, MayMissOne, Setting, AskPhase, RunState, doubles, is_sync, mail_of, notices_lost}
use Rattle.thm_causes.specs.Quiet.{IsQuietState, IsQuietBut}
use Rattle.thm_causes.specs.Outcomes.{stale_outcomes, unanswered_among}
use Rattle.thm_causes.specs.Stages.{IsSent}
use Rattle.thm_causes.specs.Waits.{is_last}
use Rattle.thm_causes.proofs.CopyStages.CopiesBodies.{bodies_unsynced}
use Rattle.thm_causes.proofs.Told.{told_then}

empty_no_sync : (bodies : List Body) → bodies ≡ [] → list_any is_sync bodies ≡ false
empty_no_sync bodies none = ap (list_any is_sync) none

-- where others have nothing, and participant 0 no SYNC, nobody has one
nobody_syncs : (call : Asked) (world : RunState) → AreOthersEmpty world → AreAnswersOrCopies call (mail_of world 0) → (member : ℕ)
    → list_any is_sync (mail_of world member) ≡ true → ⊥
nobody_syncs call world empty bodies zero some = true≢false (sym some ∙ bodies_unsynced call (mail_of world 0) bodies)
nobody_syncs call world empty bodies (suc member) some =
    true≢false (sym some ∙ empty_no_sync (mail_of world (suc member)) (empty (suc member) (λ (same : suc member ≡ 0). omega arith)))

-- THE NEXT TURN

-- the stage stands for participant 0 again
pub record LeadsAgain (set : Setting) (call : Asked) (sent : ℕ) (world : RunState) (before : AskPhase set call sent false world) : Type 0 where
  pub stage : AskPhase set call sent true world
  pub last : is_last stage ≡ true → is_last before ≡ true

pub leads_again : (set : Setting) (call : Asked) (sent : ℕ) (world : RunState) → AreOthersEmpty world → (before : AskPhase set call sent false world)
    → LeadsAgain set call sent world before
leads_again set call sent world nobody (AskPhase.fresh clock unanswered coordinator alone to_do copies some empty doubled level) =
    record { stage = AskPhase.fresh clock unanswered coordinator alone to_do copies some empty doubled level; last = λ last. last }
leads_again set call sent world nobody (AskPhase.lost clock unanswered coordinator alone to_do none empty doubled back loses) =
    record { stage = AskPhase.lost clock unanswered coordinator alone to_do none empty doubled back loses; last = λ last. last }
leads_again set call sent world nobody
    (AskPhase.growing round holds kind from number unanswered coordinator its to_do clock bodies doubled follow awaited level) = record {
      stage = AskPhase.growing round holds kind from number unanswered coordinator its to_do clock bodies doubled follow
          (λ leads member some. absurd (nobody_syncs call world nobody bodies member some)) level;
      last = λ last. last;
    }
leads_again set call sent world nobody
    (AskPhase.settling round since holds kind from number unanswered coordinator alone closed early clock logged bodies doubled waits
    answered level) =
    record {
      stage = AskPhase.settling round since holds kind from number unanswered coordinator alone closed early clock logged bodies doubled
          (λ leads member some. absurd (nobody_syncs call world nobody bodies member some)) answered level;
      last = λ last. last;
    }
leads_again set call sent world nobody (AskPhase.over holds coordinator alone closed bodies doubled told answered level) =
    record { stage = AskPhase.over holds coordinator alone closed bodies doubled told answered level; last = λ last. last }

-- ONCE THE ASK IS OVER

held_somewhere : (held : List (Option Asked)) (place : ℕ) (call : Asked) → place < length held
    → list_any is_some (slice_set held place (Some call)) ≡ true
held_somewhere [] place call within = absurd (omega arith)
held_somewhere (one ∷ held) zero call within = refl
held_somewhere (one ∷ held) (suc place) call within = or_right (is_some one) _ (held_somewhere held place call (omega arith))

-- a coordinator that rests holds nothing
holds_nothing : (set : Setting) (call : Asked) (sent : ℕ) (holds : Bool) (core : Core) → IsSent set call sent → holds_ask core ≡ false
    → core.phase ≡ Idle → core.held ≡ (if holds then slice_set (replicate 16 None) (asker call) (Some call) else replicate 16 None)
    → holds ≡ false
holds_nothing set call sent false core is_sent none idle held = refl
holds_nothing set call sent true core is_sent none idle held =
    let some : list_any is_some core.held ≡ true =
    ap (list_any is_some) held
    ∙ held_somewhere (replicate 16 None) (asker call) call (omega (arith, is_sent.declared, is_sent.setting.few)) in
    let both : holds_ask core ≡ true =
    ap (λ (phase : Phase). is_idle phase && list_any is_some core.held) idle ∙ some in
    absurd (true≢false (sym both ∙ none))

-- what stands then
pub record IsOver (set : Setting) (call : Asked) (world : RunState) : Type 0 where
  pub holds : Bool
  pub coordinator : HasCoordinator set world Idle call holds
  pub alone : world.shared.segs.growth ≡ None
  pub closed : IsClosed call world
  pub doubled : AreDoubled set world call holds false
  pub answered : IsAnsweredFor call world
  pub level : EndsLevel set world

pub over_with : (set : Setting) (call : Asked) (sent : ℕ) (leads : Bool) (world : RunState) (stage : AskPhase set call sent leads world)
    → is_last stage ≡ true → IsOver set call world
over_with set call sent leads world (AskPhase.fresh clock unanswered coordinator alone to_do copies some empty doubled level) last = cc
over_with set call sent leads world (AskPhase.lost clock unanswered coordinator alone to_do none empty doubled back loses) last = cc
over_with set call sent leads world
    (AskPhase.growing round holds kind from number unanswered coordinator its to_do clock bodies doubled follow awaited level) last = cc
over_with set call sent leads world
    (AskPhase.settling round since holds kind from number unanswered coordinator alone closed early clock logged bodies doubled waits
    answered level)
    last = cc
over_with set call sent leads world (AskPhase.over holds coordinator alone closed bodies doubled told answered level) last =
    record {
      holds = holds;
      coordinator = coordinator;
      alone = alone;
      closed = closed;
      doubled = doubled;
      answered = answered;
      level = level;
    }

-- all is quiet then
module _ (set : Setting) (call : Asked) (sent : ℕ) (is_sent : IsSent set call sent) (world : RunState) (base : IsBase set world)
    (none : (who : ℕ) → mail_of world who ≡ []) where
  same_party : (coordinator : HasCoordinator set world Idle call false) (primary : Party) → slice_get world.parties 0 ≡ Some primary
      → primary.core ≡ Some coordinator.is.its
  same_party coordinator primary found =
      let one : Some primary ≡ Some coordinator.primary = sym found ∙ coordinator.there in
      let same : primary ≡ coordinator.primary = cc in
      ap (λ (party : Party). party.core) same ∙ coordinator.is.there

  few_stale : AreDoubled set world call false false → (who : ℕ) (party : Party) → slice_get world.parties who ≡ Some party
      → stale_outcomes who world.shared.segs.asks ≤ doubles set who party
  few_stale doubled who party found =
      elim (cases_eq who (asker call)) [
        | inl same ↦
            (let its = doubled.asker_is party (subst (λ (n : ℕ). slice_get world.parties n ≡ Some party) same found) in
            subst (λ (n : ℕ). stale_outcomes n world.shared.segs.asks ≤ doubles set n party) (sym same) (omega (arith, its)))
        | inr apart ↦ doubled.others who party apart found
      ]

  -- this one is closed, or there is room for one more without an outcome
  abbrev pub IsClosedOrMissed : Type 0
  IsClosedOrMissed = IsClosed call world ⊎ MayMissOne set (asker call) (number_of call) world

  all_told : (holds : Bool) → AreDoubled set world call holds false → IsClosedOrMissed → (who : ℕ) (party : Party)
      → slice_get world.parties who ≡ Some party → unanswered_among world.shared.segs.asks who party.asked ≤ notices_lost set who party
  all_told holds doubled ends who party found =
      told_then set world.shared.segs.asks call who party (doubled.told who party found) (base.places who party found).closed
      (λ own.
      elim ends [
        | inl closed ↦ inl (subst (λ (n : ℕ). number_of call ≤ closed_number world.shared.segs.asks n) (sym own) closed)
        | inr room ↦
            inr
            (subst (λ (n : ℕ). unanswered_among world.shared.segs.asks n (number_of call - 1) < notices_lost set n party) (sym own)
            (room party (ap (slice_get world.parties) (sym own) ∙ found)))
      ])

  -- so it is but for this one, where that is not closed
  pub quiet_but : HasCoordinator set world Idle call false → world.shared.segs.growth ≡ None → AreDoubled set world call false false
      → (LosesNothing set.plan → HaveCaughtUp world) → IsQuietBut set call world
  quiet_but coordinator alone doubled level = record {
    base = base;
    idle = λ primary found.
        (coordinator.is.its, same_party coordinator primary found, coordinator.is.deadline, coordinator.is.phase_is, coordinator.is.held);
    growth = alone;
    empty = none;
    doubled = few_stale doubled;
    told = doubled.told;
    level = level;
  }

  pub quiet_idle : HasCoordinator set world Idle call false → world.shared.segs.growth ≡ None → AreDoubled set world call false false
      → IsClosedOrMissed → (LosesNothing set.plan → HaveCaughtUp world) → IsQuietState set world
  quiet_idle coordinator alone doubled ends level = record {
    base = base;
    idle = λ primary found.
        (coordinator.is.its, same_party coordinator primary found, coordinator.is.deadline, coordinator.is.phase_is, coordinator.is.held);
    growth = alone;
    empty = none;
    doubled = few_stale doubled;
    told = all_told false doubled ends;
    in_time = λ who party found. (doubled.told who party found).in_time;
    level = level;
  }

  quiet_with : (holds : Bool) → HasCoordinator set world Idle call holds → holds ≡ false → world.shared.segs.growth ≡ None
      → AreDoubled set world call holds false → IsClosed call world → (LosesNothing set.plan → HaveCaughtUp world) → IsQuietState set world
  quiet_with holds coordinator nothing alone doubled closed level =
      quiet_idle (subst (HasCoordinator set world Idle call) nothing coordinator) alone
      (subst (λ (holds : Bool). AreDoubled set world call holds false) nothing doubled) (inl closed) level

  -- it holds nothing
  nothing_held : (over : IsOver set call world)
      → ((primary : Party) → slice_get world.parties 0 ≡ Some primary → core_holds primary.core ≡ false) → over.holds ≡ false
  nothing_held over rests =
      let its = over.coordinator.is.its in
      let nothing : holds_ask its ≡ false = sym (ap core_holds over.coordinator.is.there) ∙ rests over.coordinator.primary over.coordinator.there in
      holds_nothing set call sent over.holds its is_sent nothing over.coordinator.is.phase_is over.coordinator.is.held

  pub quiet_over : (over : IsOver set call world)
      → ((primary : Party) → slice_get world.parties 0 ≡ Some primary → core_holds primary.core ≡ false) → IsQuietState set world
  quiet_over over rests =
      quiet_with over.holds over.coordinator (nothing_held over rests) over.alone over.doubled over.closed over.level.level
