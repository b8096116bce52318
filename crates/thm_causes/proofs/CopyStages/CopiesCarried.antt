-- A stage of an ask stays what it is where participant 0 logs at most a stale outcome, holds an ask, hears an answer, or fetches a body.
use Rattle.std.proofs.Common.{◌≡◌, ◌∙◌, ◌⊎◌, ℕ, ◌+◌, ◌<◌, ◌≤◌, Bool, true, false, List, length, Option, Some, None, inl, inr, ap, sym, subst}
use Rattle.std.specs.Prelude.{is_some, slice_get, slice_index_or}
use Rattle.std.specs.List.{list_any}
use Rattle.std.proofs.lemmas.Bool.{cases_eq}
use Rattle.hp_base.specs.declared.plan_entry.MsgKind.TheVariants as message
use Rattle.hp_core.specs.Asks.{asker, is_armed_by, number_of}
use Rattle.hp_core.specs.Core.{is_growth, is_open_for}
use Rattle.hp_core.specs.declared.asked.Asked.{Asked}
use Rattle.hp_core.specs.declared.asked.Asked.TheVariants as want
use Rattle.hp_core.specs.declared.phase.Phase.TheVariants.{Idle, Waiting}
use Rattle.hp_core.specs.declared.phase.Round.{Round}
use Rattle.hp_core.specs.declared.phase.RoundKind.TheVariants as kind
use Rattle.hp_log.specs.declared.log_record.LogRecord.{LogRecord}
use Rattle.hp_segs.specs.SegsView.{is_member}
use Rattle.hp_segs.specs.declared.ask.Ask.{Ask}
use Rattle.hp_segs.specs.declared.growth.Growth.{Growth}
use Rattle.hp_serve.specs.Party.{Party}
use Rattle.hp_serve.specs.Posting.{times_sent}
use Rattle.hp_serve.specs.declared.sent.Sent.{Sent}
use Rattle.thm_causes.specs.Counting.{lost_among}
use Rattle.thm_causes.specs.RoundTrip.{AreAnswersOrCopies, AreDoubled, EndsLevel, FollowsGrowth, GrowsLevel, HasCoordinator, IsAnsweredFor, IsAwaited, IsClosed, IsCopy, IsToDo, IsUnanswered, Setting, SettlesLevel, AskPhase, WaitsToSettle, RunState, is_answer, is_result_of, is_sync, mail_of}
use Rattle.thm_causes.specs.Outcomes.{late_outcomes}
use Rattle.thm_causes.proofs.CopyStages.CopiesAlong.{IsAlong, all_first, none_anywhere, none_first, noted_same, number_same}
use Rattle.thm_causes.proofs.CopyStages.CopiesBodies.{bodies_unsynced}
use Rattle.thm_causes.proofs.CopyStages.CopiesLevel.{ends_along, grows_along, settles_along}

-- nobody has heard of the coordinator's answer to the ask
abbrev pub IsUnheard : Asked → RunState → Type 0
IsUnheard call world = (party : Party) → slice_get world.parties (asker call) ≡ Some party → party.answered ≡ false

module _ (set : Setting) (call : Asked) (sent : ℕ) (old new : RunState) (along : IsAlong old new) where
  -- the ask is unanswered, or closed, as it was
  pub unanswered_along : IsUnanswered call old → IsUnheard call new → IsUnanswered call new
  unanswered_along was unheard = record {
    asked = λ party there.
        (let came = along.before (asker call) party there in came.same.asked ∙ was.asked came.its came.there);
    unheard = unheard;
    nowhere = none_anywhere set old new along (is_result_of call) was.nowhere;
  }

  pub closed_along : IsClosed call old → IsClosed call new
  closed_along is = subst (λ (n : ℕ). number_of call ≤ n) (sym (along.segs.closed (asker call))) is

  -- a SYNC in a mailbox was there before
  pub synced_before : AreAnswersOrCopies call (mail_of old 0) → (member : ℕ) → list_any is_sync (mail_of new member) ≡ true
      → list_any is_sync (mail_of old member) ≡ true
  synced_before bodies member there =
      elim (cases_eq member 0) [
        | inl primary ↦
            absurd (let wrong : true ≡ false =
            sym there
            ∙ (ap (λ (n : ℕ). list_any is_sync (mail_of new n)) primary
            ∙ none_first set old new along is_sync (bodies_unsynced call (mail_of old 0) bodies)) in
            let none : ⊥ = cc in none)
        | inr apart ↦ sym (ap (list_any is_sync) (along.others member apart)) ∙ there
      ]

  -- a member follows a growth, is awaited, or waits to settle as it did
  pub follows_along : AreAnswersOrCopies call (mail_of old 0) → (generation since member : ℕ)
      → FollowsGrowth set old generation since member → FollowsGrowth set new generation since member
  follows_along bodies generation since member (FollowsGrowth.told clock there) =
      elim (cases_eq member 0) [
        | inl primary ↦
            absurd (let wrong : true ≡ false =
            sym there ∙ (ap (λ (n : ℕ). list_any is_sync (mail_of old n)) primary ∙ bodies_unsynced call (mail_of old 0) bodies) in
            let none : ⊥ = cc in none)
        | inr apart ↦
            FollowsGrowth.told (along.clock ∙ clock) (ap (list_any is_sync) (along.others member apart) ∙ there)
      ]
  follows_along bodies generation since member (FollowsGrowth.has has) =
      FollowsGrowth.has (subst (λ (n : ℕ). generation ≤ n) (sym (number_same set old new along member)) has)
  follows_along bodies generation since member (FollowsGrowth.fails fails) =
      FollowsGrowth.fails (ap (λ noted. is_some noted) (noted_same set old new along) ∙ fails)
  follows_along bodies generation since member (FollowsGrowth.lost primary there less) =
      let lead = along.primary primary there in
      FollowsGrowth.lost lead.after lead.there
      (subst (λ (n : ℕ). n < lost_among set.plan message.Sync member (times_sent lead.after.sent.syncs member))
      (sym (along.segs.late member))
      (subst
      (λ (sent : Sent). late_outcomes member old.shared.segs.asks < lost_among set.plan message.Sync member (times_sent sent.syncs member))
      (sym lead.same.sent) less))

  pub awaited_along : (generation member : ℕ) → IsAwaited old generation member → IsAwaited new generation member
  awaited_along generation member is = record {
    is_member = ap (λ (roster : List Bool). is_member roster member) along.segs.roster ∙ is.is_member;
    below = subst (λ (n : ℕ). n < generation) (sym (number_same set old new along member)) is.below;
  }

  pub waits_along : (generation since member : ℕ) → WaitsToSettle call old generation since member
      → WaitsToSettle call new generation since member
  waits_along generation since member is = record {
    stands = along.clock ∙ is.stands;
    is_member = ap (λ (roster : List Bool). is_member roster member) along.segs.roster ∙ is.is_member;
    unsettled =
        elim is.unsettled [
          | inl below ↦ inl (subst (λ (n : ℕ). n < generation) (sym (number_same set old new along member)) below)
          | inr copies ↦ inr (all_first set old new along (IsCopy call) copies)
        ];
  }

  -- answers and copies alone lie in mailbox 0
  pub bodies_along : AreAnswersOrCopies call (mail_of old 0) → AreAnswersOrCopies call (mail_of new 0)
  bodies_along bodies = all_first set old new along (λ body. (is_answer body ≡ true) ⊎ IsCopy call body) bodies

  -- a growth goes on
  abbrev pub growing_along : (round : Round) (holds : Bool) → round.kind ≡ kind.Growth → round.from ≡ asker call
      → round.number ≡ number_of call → IsUnanswered call old → IsUnheard call new → HasCoordinator set new (Waiting round sent) call holds
      → is_open_for round old.shared.segs.growth ≡ true → IsToDo call new → old.shared.clock ≤ sent + set.deadline
      → AreAnswersOrCopies call (mail_of old 0) → AreDoubled set new call holds false
      → ((member : ℕ) → is_member old.shared.segs.roster member ≡ true → FollowsGrowth set old round.generation sent member)
      → ((member : ℕ) → list_any is_sync (mail_of old member) ≡ true → IsAwaited old round.generation member)
      → GrowsLevel old → AskPhase set call sent true new
  growing_along round holds its_kind from number unanswered unheard coordinator its to_do clock bodies doubled follow awaited level =
      AskPhase.growing round holds its_kind from number (unanswered_along unanswered unheard) coordinator
      (ap (λ (growth : Option Growth). is_open_for round growth) along.segs.growth ∙ its) to_do
      (subst (λ (n : ℕ). n ≤ sent + set.deadline) (sym along.clock) clock) (bodies_along bodies) doubled
      (λ member joined.
      follows_along bodies round.generation sent member
      (follow member (sym (ap (λ (roster : List Bool). is_member roster member) along.segs.roster) ∙ joined)))
      (λ leads member there. awaited_along round.generation member (awaited member (synced_before bodies member there)))
      (grows_along set call old new along level)

  -- a rollback or the drops go on
  abbrev pub settling_along : (round : Round) (since : ℕ) (holds : Bool) → is_growth round.kind ≡ false → round.from ≡ asker call
      → round.number ≡ number_of call → IsUnanswered call old → IsUnheard call new → HasCoordinator set new (Waiting round since) call holds
      → old.shared.segs.growth ≡ None → IsClosed call old → since ≤ sent + set.deadline → old.shared.clock ≤ since + set.deadline
      → round.generation ≤ length old.shared.segs.log → AreAnswersOrCopies call (mail_of old 0)
      → AreDoubled set new call holds false
      → ((member : ℕ) → list_any is_sync (mail_of old member) ≡ true → WaitsToSettle call old round.generation since member)
      → IsAnsweredFor call new → SettlesLevel set old round.generation → AskPhase set call sent true new
  settling_along round since holds its_kind from number unanswered unheard coordinator alone closed early clock logged bodies doubled waits
      answered level =
      AskPhase.settling round since holds its_kind from number (unanswered_along unanswered unheard) coordinator (along.segs.growth ∙ alone)
      (closed_along closed) early (subst (λ (n : ℕ). n ≤ since + set.deadline) (sym along.clock) clock)
      (subst (λ (log : List LogRecord). round.generation ≤ length log) (sym along.segs.log) logged) (bodies_along bodies) doubled
      (λ leads member there. waits_along round.generation since member (waits member (synced_before bodies member there))) answered
      (settles_along set call old new along bodies round.generation level)

  -- it stays over
  abbrev pub over_along : (holds : Bool) → HasCoordinator set new Idle call holds → old.shared.segs.growth ≡ None → IsClosed call old
      → AreAnswersOrCopies call (mail_of old 0) → AreDoubled set new call holds false
      → ((member : ℕ) → list_any is_sync (mail_of old member) ≡ false) → IsAnsweredFor call new
      → EndsLevel set old → AskPhase set call sent true new
  over_along holds coordinator alone closed bodies doubled told answered level =
      AskPhase.over holds coordinator (along.segs.growth ∙ alone) (closed_along closed) (bodies_along bodies) doubled
      (none_anywhere set old new along is_sync told) answered (ends_along set call old new along level)

-- the ask is to do, or answered, as it was
pub to_do_along : (call : Asked) (old new : RunState) (along : IsAlong old new) → IsToDo call old → IsToDo call new
to_do_along (want.Grow ask) old new along is = (
  subst (λ (n : ℕ). n < ask.number) (sym (along.segs.closed ask.from)) is.0,
  ap (λ (armed : List (Option Ask)). is_armed_by ask (slice_index_or armed ask.from None)) along.segs.armed ∙ is.1,
)
to_do_along (want.Shrink from number) old new along is = subst (λ (n : ℕ). n < number) (sym (along.segs.closed from)) is

pub answered_along : (call : Asked) (old new : RunState) (along : IsAlong old new) → IsAnsweredFor call old → IsAnsweredFor call new
answered_along (want.Grow ask) old new along is = along.segs.answered ask.from ask.number is
answered_along (want.Shrink from number) old new along is = tt
