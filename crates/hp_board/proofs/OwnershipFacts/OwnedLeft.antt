-- What a closed board says of ownership: each ask is settled, no growth is open, and each run that was granted is claimed.
use Rattle.std.proofs.Common.{◌≡◌, ◌∙◌, ⊎_elim, ℕ, ◌+◌, ◌<◌, ◌≤◌, Bool, true, false, not, ◌&&◌, List, [], ◌∷◌, ◌++◌, Option, Some, None, refl, sym, ap}
use Rattle.std.proofs.lemmas.Bool.{cases_lt, false≢true}
use Rattle.hp_base.specs.declared.row.Run.{Run}
use Rattle.hp_log.specs.declared.log_record.LogRecord.{LogRecord}
use Rattle.hp_segs.specs.GrantedRuns.{added_for, granted_runs, runs_added}
use Rattle.hp_segs.specs.GrowthLaws.{IsOfArmed}
use Rattle.hp_segs.specs.LaterSteps.{armed_ask}
use Rattle.hp_segs.specs.PendingRuns.{IsPending}
use Rattle.hp_segs.specs.SegsView.{is_unclaimed}
use Rattle.hp_segs.specs.SettledAsks.{IsSettled}
use Rattle.hp_segs.specs.Sound.{IsSound}
use Rattle.hp_segs.specs.SoundAsks.{is_granted}
use Rattle.hp_segs.specs.Standing.{standing_of}
use Rattle.hp_segs.specs.declared.ask.Ask.{Ask}
use Rattle.hp_segs.specs.declared.growth.Growth.{Growth}
use Rattle.hp_segs.proofs.GrowthSteps.ClaimedOrder.{claimed_in_order}
use Rattle.hp_segs.proofs.AskFacts.SettledLaws.{above_is_unsettled}
use Rattle.hp_hall.proofs.AsksOfHalls.AskFacts.{keeps_ask, pending_unsettled}
use Rattle.hp_hall.proofs.AsksOfHalls.LogAsks.{armed_growth}
use Rattle.hp_hall.specs.declared.kept.Kept.{Kept}
use Rattle.hp_board.specs.Ownership.{AreOwned}
use Rattle.hp_board.specs.Views.{value_of}
use Rattle.hp_board.specs.declared.view.Mine.{Mine}
use Rattle.hp_board.proofs.OwnershipFacts.Holders.{holds_no}
use Rattle.hp_hall.proofs.OwnedKnown.{IsGrantedBy, granted_entry}

-- runs that are added are alike by tests that are
runs_alike : (heap : ℕ) (one other : ℕ → Bool) (same : (generation : ℕ) → one generation ≡ other generation) (generation : ℕ) (log : List LogRecord)
    → runs_added heap one generation log ≡ runs_added heap other generation log
runs_alike heap one other same generation [] = refl
runs_alike heap one other same generation (entry ∷ log) =
    ap (λ (b : Bool). added_for heap b entry ++ runs_added heap one (generation + 1) log) (same generation)
    ∙ ap (λ (runs : List Run). added_for heap (other generation) entry ++ runs) (runs_alike heap one other same (generation + 1) log)

module _ (participants : ℕ) (words : List ℕ) (kept : ℕ → Kept) (mine : ℕ → Mine) (owned : AreOwned participants words kept mine)
    (free : (who : ℕ) → who < participants → (mine who).held ≡ []) (sound : IsSound owned.segs) where
  -- nobody holds a heap, so each ask with which somebody is armed is settled
  pub all_settled : (who : ℕ) (ask : Ask) → armed_ask owned.segs who ≡ Some ask → IsSettled ask.from ask.number owned.segs
  all_settled who ask is = ⊎_elim by_owner by_nobody (cases_lt who participants)
    where
      by_owner : who < participants → IsSettled ask.from ask.number owned.segs
      by_owner may =
          let owner = owned.owners who may in
          ⊎_elim (λ settled. settled)
          (λ holds.
          absurd (false≢true (sym (holds_no ask.heap (mine who) (ap (value_of ask.heap) (free who may))) ∙ holds)))
          (owner.asking ask (sym owner.armed ∙ is))

      by_nobody : participants ≤ who → IsSettled ask.from ask.number owned.segs
      by_nobody strange =
          let wrong : None ≡ Some ask = sym (owned.nobody who strange) ∙ is in
          absurd (cc)

  -- so no growth is open
  growth_by : (growth : Option Growth) → owned.segs.growth ≡ growth → owned.segs.growth ≡ None
  growth_by None is = is
  growth_by (Some growth) is =
      let of : IsOfArmed owned.segs.asks owned.segs.armed growth = armed_growth owned.segs growth owned.armed is in
      absurd (above_is_unsettled owned.segs growth.ask.from growth.ask.number of.above (all_settled growth.ask.from growth.ask of.its_ask))

  pub none_open : owned.segs.growth ≡ None
  none_open = growth_by owned.segs.growth refl

  -- and each run that was granted is claimed
  claimed_by_all : (generation : ℕ) → is_granted owned.segs.asks generation ≡ true → is_unclaimed owned.segs.segments generation ≡ false
  claimed_by_all generation granted = by (is_unclaimed owned.segs.segments generation) refl
    where
      by : (unclaimed : Bool) → is_unclaimed owned.segs.segments generation ≡ unclaimed → is_unclaimed owned.segs.segments generation ≡ false
      by false is = is
      by true is =
          let by_entry : IsGrantedBy owned.segs.asks generation = granted_entry owned.segs.asks generation granted in
          let kept_ask = keeps_ask owned.segs by_entry.entry generation sound by_entry.there by_entry.granted in
          let waits : IsPending owned.segs kept_ask.0 generation by_entry.entry = record { logged = by_entry.there; its_ask = kept_ask.1; granted = by_entry.granted; unclaimed = is } in
          absurd (pending_unsettled owned.segs kept_ask.0 generation by_entry.entry sound waits
          (all_settled kept_ask.0.from kept_ask.0 (owned.pending.of_armed by_entry.entry kept_ask.0 generation waits)))

  test_alike : (generation : ℕ) (granted : Bool) → is_granted owned.segs.asks generation ≡ granted
      → granted ≡ (granted && not (is_unclaimed owned.segs.segments generation))
  test_alike generation false is = refl
  test_alike generation true is = sym (ap not (claimed_by_all generation is))

  -- so the runs that were granted for a heap are those that it has claimed
  pub granted_are : (heap : ℕ) → (standing_of heap owned.segs).came ≡ granted_runs heap owned.segs.asks 1 owned.segs.log
  granted_are heap =
      sym (claimed_in_order owned.segs heap sound)
      ∙ sym (runs_alike heap (is_granted owned.segs.asks) (λ generation. is_granted owned.segs.asks generation && not (is_unclaimed owned.segs.segments generation))
      (λ generation. test_alike generation (is_granted owned.segs.asks generation) refl) 1 owned.segs.log)
