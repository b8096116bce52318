-- The stage of an ask after one serving of a member.
use Rattle.std.proofs.Common.{◌≡◌, ◌≢◌, ◌⊎◌, ◌∙◌, ℕ, ◌<◌, ◌≤◌, Bool, true, false, ◌==◌, List, [], count_by, drop, length, replicate, Option, Some, None, inl, inr, refl, sym, ap, subst, arith, true≢false}
use Rattle.std.specs.List.{list_any}
use Rattle.std.specs.Prelude.{slice_get, slice_index_or}
use Rattle.std.proofs.lemmas.Bool.{and_parts, cases_eq, eqb-true}
use Rattle.std.proofs.lemmas.List.Elements.{All-append, All-replicate}
use Rattle.hp_base.specs.declared.plan_entry.MsgKind.TheVariants as message
use Rattle.hp_core.specs.Asks.{asker, is_armed_by}
use Rattle.hp_core.specs.declared.asked.Asked.{Asked}
use Rattle.hp_core.specs.declared.asked.Asked.TheVariants as want
use Rattle.hp_core.proofs.GivingLemmas.{growth_is_last}
use Rattle.hp_core.specs.Core.{is_growth, is_open_for}
use Rattle.hp_core.specs.declared.phase.Phase.{Phase}
use Rattle.hp_core.specs.declared.phase.Phase.TheVariants.{Idle, Waiting}
use Rattle.hp_core.specs.declared.phase.Round.{Round}
use Rattle.hp_frame.specs.declared.message.Body.{Body}
use Rattle.hp_frame.specs.declared.message.Body.TheVariants.{Answer}
use Rattle.hp_plain.proofs.Slotted.{slice_get-set_other}
use Rattle.hp_segs.specs.SegsView.{SegsView, closed_number, grants_or_refuses, is_member}
use Rattle.hp_segs.specs.Sound.{IsSound}
use Rattle.hp_segs.specs.declared.growth.Growth.{Growth}
use Rattle.hp_segs.specs.declared.outcome.AskLog.{AskLog}
use Rattle.hp_serve.specs.Party.{Party}
use Rattle.hp_serve.specs.Posting.{times_sent}
use Rattle.thm_causes.specs.Counting.{doubled_among, lost_among}
use Rattle.thm_causes.specs.RoundTrip.{AreAnswersOrCopies, AreDoubled, AreOthersEmpty, FollowsGrowth, HasCoordinator, IsAnsweredFor, IsClosed, IsCopy, IsToDo, IsToldBefore, IsUnanswered, Setting, AskPhase, RunState, copies_left, doubles, fails, fresh, growing, has, is_answer, is_call, is_result_of, is_sync, lost, mail_of, over, settling, told}
use Rattle.thm_causes.specs.Outcomes.{late_outcomes, stale_outcomes}
use Rattle.thm_causes.specs.Shared.{Shared}
use Rattle.thm_causes.specs.Stages.{world_with}
use Rattle.thm_causes.proofs.MemberSteps.MemberLevels.{ends_with, grows_with, settles_with, was_member}
use Rattle.thm_causes.proofs.MemberSteps.MemberMail.{Heeds, TakesMail, any_behind, any_stays, catches, cons_not_nil, count_more, is_out, none_stays, notes, passes}
use Rattle.thm_causes.proofs.MemberSteps.MemberWorlds.{ServesAlone}
use Rattle.thm_causes.proofs.Said.{get_set}
use Rattle.thm_causes.proofs.Told.{heard_same, told_on}

-- the generation of a growth's round is that of the last record
opens_by : (segs : SegsView) (round : Round) (growth : Option Growth) → IsSound segs → segs.growth ≡ growth
    → is_open_for round growth ≡ true
    → round.generation ≤ length segs.log
opens_by segs round None sound is opens = cc
opens_by segs round (Some growth) sound is opens =
    let parts = and_parts (is_growth round.kind) _ opens in
    let more = and_parts (growth.generation == round.generation) _ parts.1 in
    omega (arith, growth_is_last segs growth sound is, eqb-true growth.generation round.generation more.0)

opens_logged : (segs : SegsView) (round : Round) → IsSound segs → is_open_for round segs.growth ≡ true → round.generation ≤ length segs.log
opens_logged segs round sound opens = opens_by segs round segs.growth sound refl opens

module _ (set : Setting) (world : RunState) (who : ℕ) (party after : Party) (shared : Shared) (mail : List (List Body)) (member : who ≢ 0)
    (there : slice_get world.parties who ≡ Some party) (serves : ServesAlone set world who party after shared mail)
    (takes : TakesMail world who after shared mail) where
  unanswered_with : (call : Asked) → IsUnanswered call world → IsUnanswered call (world_with shared mail who after world)
  unanswered_with call un = record {
    asked = λ its found.
        elim (get_set world.parties who (asker call) after its found) [
          | inl both ↦
              ap (λ (p : Party). p.asked) both.1 ∙ serves.still.asked
              ∙ un.asked party (ap (slice_get world.parties) both.0 ∙ there)
          | inr apart ↦ un.asked its apart.1
        ];
    unheard = λ its found.
        elim (get_set world.parties who (asker call) after its found) [
          | inl both ↦ ap (λ (p : Party). p.answered) both.1 ∙ takes.unheard call both.0 un
          | inr apart ↦ un.unheard its apart.1
        ];
    nowhere = λ other. none_stays world who after shared mail takes (is_result_of call) refl other (un.nowhere other);
  }

  coordinator_with : (phase : Phase) (call : Asked) (holds : Bool) → HasCoordinator set world phase call holds
      → HasCoordinator set (world_with shared mail who after world) phase call holds
  coordinator_with phase call holds is = record {
    primary = is.primary;
    there = slice_get-set_other world.parties who 0 after (λ same. member (sym same)) ∙ is.there;
    is = is.is;
  }

  closed_same : (other : ℕ) → closed_number shared.segs.asks other ≡ closed_number world.shared.segs.asks other
  closed_same other = ap (λ (asks : List AskLog). closed_number asks other) serves.segs.asks

  to_do_with : (call : Asked) → IsToDo call world → IsToDo call (world_with shared mail who after world)
  to_do_with (want.Grow ask) is = (
    omega (arith, is.0, closed_same ask.from),
    ap (λ armed. is_armed_by ask (slice_index_or armed ask.from None)) serves.segs.armed ∙ is.1,
  )
  to_do_with (want.Shrink from number) is = omega (arith, is, closed_same from)

  closed_with : (call : Asked) → IsClosed call world → IsClosed call (world_with shared mail who after world)
  closed_with call is = omega (arith, is, closed_same (asker call))

  answers_with : (call : Asked) → AreAnswersOrCopies call (mail_of world 0) → AreAnswersOrCopies call (slice_index_or mail 0 [])
  answers_with call are =
      subst (AreAnswersOrCopies call) (sym takes.first)
      (All-append (λ (body : Body). (is_answer body ≡ true) ⊎ IsCopy call body) (mail_of world 0)
      (replicate takes.count (Answer takes.from takes.number 1 takes.code)) are
      (All-replicate (λ (body : Body). (is_answer body ≡ true) ⊎ IsCopy call body) takes.count
      (Answer takes.from takes.number 1 takes.code) (inl refl)))

  copies_same : (holds : Bool) → copies_left (world_with shared mail who after world) holds ≡ copies_left world holds
  copies_same holds =
      omega (
        arith,
        ap (count_by is_call) takes.first,
        count_more is_call (mail_of world 0) takes.count (Answer takes.from takes.number 1 takes.code) refl,
      )

  doubles_same : (other : ℕ) → doubles set other after ≡ doubles set other party
  doubles_same other =
      omega (
        arith,
        ap (doubled_among set.plan message.Alloc other) serves.still.allocs,
        ap (doubled_among set.plan message.Free other) serves.still.frees,
      )

  stale_same : (other : ℕ) → stale_outcomes other shared.segs.asks ≡ stale_outcomes other world.shared.segs.asks
  stale_same other = ap (stale_outcomes other) serves.segs.asks

  doubled_with : (call : Asked) (holds first : Bool) → AreDoubled set world call holds first
      → AreDoubled set (world_with shared mail who after world) call holds first
  doubled_with call holds first are = record {
    asker_is = λ its found.
        elim (get_set world.parties who (asker call) after its found) [
          | inl both ↦
              omega (
                arith,
                are.asker_is party (ap (slice_get world.parties) both.0 ∙ there),
                doubles_same (asker call),
                ap (doubles set (asker call)) both.1,
                stale_same (asker call),
                copies_same holds,
              )
          | inr apart ↦ omega (arith, are.asker_is its apart.1, stale_same (asker call), copies_same holds)
        ];
    others = λ other its others found.
        elim (get_set world.parties who other after its found) [
          | inl both ↦
              omega (
                arith,
                are.others other party others (ap (slice_get world.parties) both.0 ∙ there),
                doubles_same other,
                ap (doubles set other) both.1,
                stale_same other,
              )
          | inr apart ↦ omega (arith, are.others other its others apart.1, stale_same other)
        ];
    told = λ other its found.
        let on = heard_same call other world.shared.segs.asks shared.segs.asks serves.segs.asks in
        elim (get_set world.parties who other after its found) [
          | inl both ↦
              subst (λ (one : Party). IsToldBefore set shared.segs.asks call other one) (sym both.1)
              (told_on set world.shared.segs.asks shared.segs.asks call other party after on serves.still.asked
              serves.still.frees (are.told other party (ap (slice_get world.parties) both.0 ∙ there)))
          | inr apart ↦
              told_on set world.shared.segs.asks shared.segs.asks call other its its on refl refl (are.told other its apart.1)
        ];
  }

  lost_with : (generation since other : ℕ) (primary : Party) → slice_get world.parties 0 ≡ Some primary
      → late_outcomes other world.shared.segs.asks < lost_among set.plan message.Sync other (times_sent primary.sent.syncs other)
      → FollowsGrowth set (world_with shared mail who after world) generation since other
  lost_with generation since other primary found below =
      lost primary (slice_get-set_other world.parties who 0 after (λ same. member (sym same)) ∙ found)
      (omega (arith, below, ap (late_outcomes other) serves.segs.asks))

  -- the member itself follows the growth, or the SYNC is still there
  own_follows : (generation since : ℕ) → generation ≤ length world.shared.segs.log → is_member world.shared.segs.roster who ≡ true
      → FollowsGrowth set world generation since who → FollowsGrowth set (world_with shared mail who after world) generation since who
  own_follows generation since logged joined (has within) = has (omega (arith, within, serves.rises))
  own_follows generation since logged joined (fails is) = fails (serves.segs.stays is)
  own_follows generation since logged joined (lost primary found below) = lost_with generation since who primary found below
  own_follows generation since logged joined (told stands any) = heeded takes.heeds where
    heeded : Heeds world who shared takes.body → FollowsGrowth set (world_with shared mail who after world) generation since who
    heeded (passes isnt) =
        told (serves.clock ∙ stands)
        (ap (list_any is_sync) takes.own
        ∙ any_behind is_sync takes.body (drop 1 (mail_of world who)) isnt (ap (list_any is_sync) (sym takes.front) ∙ any))
    heeded (is_out isnt) = absurd (true≢false (sym joined ∙ isnt))
    heeded (catches number) = has (omega (arith, number, logged))
    heeded (notes is) = fails is

  others_follow : (generation since other : ℕ) → other ≢ who → FollowsGrowth set world generation since other
      → FollowsGrowth set (world_with shared mail who after world) generation since other
  others_follow generation since other apart (told stands any) =
      told (serves.clock ∙ stands) (any_stays world who after shared mail takes other apart any)
  others_follow generation since other apart (has within) = has (omega (arith, within, serves.others other apart))
  others_follow generation since other apart (fails is) = fails (serves.segs.stays is)
  others_follow generation since other apart (lost primary found below) = lost_with generation since other primary found below

  answered_with : (call : Asked) → IsAnsweredFor call world → IsAnsweredFor call (world_with shared mail who after world)
  answered_with (want.Grow ask) is = ap (list_any (grants_or_refuses ask.from ask.number)) serves.segs.asks ∙ is
  answered_with (want.Shrink from number) is = tt

  not_empty : AreOthersEmpty world → ⊥
  not_empty empty = cons_not_nil takes.body (drop 1 (mail_of world who)) (sym takes.front ∙ empty who member)

  -- the stage stays
  pub stage_with : (call : Asked) (sent : ℕ) → IsSound world.shared.segs → AskPhase set call sent false world
      → AskPhase set call sent false (world_with shared mail who after world)
  stage_with call sent sound (fresh stands un core none to_do copies some empty doubled level) = absurd (not_empty empty)
  stage_with call sent sound (lost clock un core none to_do nothing empty doubled room loses) = absurd (not_empty empty)
  stage_with call sent sound (growing round holds is from number un core opens to_do within answers doubled follows waits level) =
      growing round holds is from number (unanswered_with call un) (coordinator_with (Waiting round sent) call holds core)
      (serves.segs.opens round ∙ opens) (to_do_with call to_do) (omega (arith, within, serves.clock)) (answers_with call answers)
      (doubled_with call holds false doubled)
      (λ other joined.
      let before = was_member set world who party after shared mail serves other joined in
      let logged = opens_logged world.shared.segs round sound opens in
      elim (cases_eq other who) [
        | inl same ↦
            subst (FollowsGrowth set (world_with shared mail who after world) round.generation sent) (sym same)
            (own_follows round.generation sent logged (ap (is_member world.shared.segs.roster) (sym same) ∙ before)
            (subst (FollowsGrowth set world round.generation sent) same (follows other before)))
        | inr apart ↦ others_follow round.generation sent other apart (follows other before)
      ])
      (λ leads. absurd (true≢false (sym leads))) (grows_with set world who party after shared mail serves takes level)
  stage_with call sent sound
      (settling round since holds isnt from number un core none closed early within logged answers doubled waits granted level) =
      settling round since holds isnt from number (unanswered_with call un) (coordinator_with (Waiting round since) call holds core)
      (serves.segs.none none) (closed_with call closed) early (omega (arith, within, serves.clock))
      (omega (arith, logged, ap length serves.segs.log)) (answers_with call answers) (doubled_with call holds false doubled)
      (λ leads. absurd (true≢false (sym leads))) (answered_with call granted)
      (settles_with set world who party after shared mail serves takes none round.generation level)
  stage_with call sent sound (over holds core none closed answers doubled unsynced granted level) =
      over holds (coordinator_with Idle call holds core) (serves.segs.none none) (closed_with call closed) (answers_with call answers)
      (doubled_with call holds false doubled) (λ other. none_stays world who after shared mail takes is_sync refl other (unsynced other))
      (answered_with call granted) (ends_with set world who party after shared mail serves level)
