-- Outcomes that fit a world, with one more too, and what holds at every moment where a growth has ended by such a one.
use Rattle.std.proofs.Common.{◌≡◌, ◌∙◌, ℕ, ◌+◌, ◌<◌, ◌≤◌, Bool, true, false, cond, List, [], ◌∷◌, ◌++◌, length, Option, Some, None, refl, sym, ap, subst, arith}
use Rattle.std.proofs.lemmas.Option.{slice_get-get_or}
use Rattle.std.specs.Option.{option_and_then}
use Rattle.std.specs.Prelude.{slice_get, slice_index_or}
use Rattle.hp_base.specs.declared.plan_entry.MsgKind.TheVariants as message
use Rattle.hp_core.specs.Core.{Core}
use Rattle.hp_segs.specs.Standing.{IsArmed}
use Rattle.hp_maps.specs.MapsView.{MapsView, calls_of}
use Rattle.hp_segs.specs.LaterSteps.{has_failed_from, outcome_fails_from}
use Rattle.hp_segs.specs.SegsView.{SegsView, closed_number, granted_by, is_member}
use Rattle.hp_segs.specs.Sound.{IsSound}
use Rattle.hp_segs.specs.declared.growth.Growth.{Growth}
use Rattle.hp_segs.specs.declared.outcome.AskLog.{AskLog}
use Rattle.hp_segs.specs.declared.outcome.Cause.{Cause}
use Rattle.hp_serve.specs.Coordinating.{with_core}
use Rattle.hp_serve.specs.Party.{Party}
use Rattle.hp_serve.specs.Posting.{times_sent}
use Rattle.hp_serve.specs.declared.sent.Sent.{Sent}
use Rattle.thm_causes.specs.Counting.{lost_among}
use Rattle.thm_causes.specs.RoundTrip.{IsBase, IsExcused, IsInPlace, Setting, RunState, number_of_party}
use Rattle.thm_causes.specs.Failing.{AreGrantsWithin}
use Rattle.thm_causes.specs.Outcomes.{is_late, is_withdrawn, late_outcomes, refuses, withdrawn_outcomes, IsApart}
use Rattle.thm_causes.proofs.CopyStages.CopiesAlong.{CameOf}
use Rattle.thm_causes.proofs.OutcomesMore.{closed_within, failed_same, granted_within, late_push, withdrawn_same}
use Rattle.thm_causes.proofs.PollSteps.PollingGoes.{came_of, goes}
use Rattle.thm_causes.proofs.Said.{set_long}
use Rattle.std.proofs.lemmas.List.Elements.{All-push}
use Rattle.std.specs.List.{All}

-- outcomes that fit a world: what was granted is acknowledged, what failed was called, what is closed was asked for, and what was
-- refused is excused
pub record FitsIn (set : Setting) (world : RunState) (asks : List AskLog) : Type 0 where
  pub granted : (who : ℕ) → is_member world.shared.segs.roster who ≡ true → AreGrantsWithin (number_of_party world who) asks
  pub failed : (who : ℕ) (party : Party) → slice_get world.parties who ≡ Some party
      → has_failed_from asks who (calls_of party.maps + 1) ≡ false
  pub closed : (who : ℕ) (party : Party) → slice_get world.parties who ≡ Some party → closed_number asks who ≤ party.asked
  pub late : (who : ℕ) (primary party : Party) → slice_get world.parties 0 ≡ Some primary → slice_get world.parties who ≡ Some party
      → late_outcomes who asks ≤ lost_among set.plan message.Sync who (times_sent primary.sent.syncs who)
  pub withdrawn : (who : ℕ) (party : Party) → slice_get world.parties who ≡ Some party
      → withdrawn_outcomes who asks ≤ lost_among set.plan message.Alloc who party.sent.allocs
  pub apart : All (IsApart set.deadline) asks

-- a participant that is declared is there
pub is_there : (set : Setting) (world : RunState) (who : ℕ) → IsBase set world → who < set.count → (primary : Party)
    → (party : Party) × (slice_get world.parties who ≡ Some party)
is_there set world who base declared primary =
    (slice_index_or world.parties who primary, slice_get-get_or world.parties who primary (omega (arith, base.parties, declared)))

-- the outcomes that there are fit
pub fit_before : (set : Setting) (world : RunState) (primary : Party) → IsBase set world → slice_get world.parties 0 ≡ Some primary
    → FitsIn set world world.shared.segs.asks
fit_before set world primary base there = record {
  granted = λ who member.
      let found = is_there set world who base (base.declared who member) primary in
      let place = base.places who found.0 found.1 in place.granted (sym place.joined ∙ member);
  failed = λ who party found. (base.places who party found).failed;
  closed = λ who party found. (base.places who party found).closed;
  late = λ who first party there found. (base.excused who first party there found).late;
  withdrawn = λ who party found. (base.excused who primary party there found).withdrawn;
  apart = base.apart;
}

-- ONE OUTCOME MORE

-- an outcome that fits a world: a grant is acknowledged by all, a failure was called, its ask was sent, who is late was not told, and it
-- was not taken back
pub record FitsOne (set : Setting) (world : RunState) (asks : List AskLog) (entry : AskLog) : Type 0 where
  pub granted : (who generation : ℕ) → is_member world.shared.segs.roster who ≡ true → granted_by entry.outcome ≡ Some generation
      → generation ≤ number_of_party world who
  pub failed : (who : ℕ) (party : Party) → slice_get world.parties who ≡ Some party
      → outcome_fails_from who (calls_of party.maps + 1) entry.outcome ≡ false
  pub sent : (party : Party) → slice_get world.parties entry.from ≡ Some party → entry.number ≤ party.asked
  pub late : (who : ℕ) (primary party : Party) → slice_get world.parties 0 ≡ Some primary → slice_get world.parties who ≡ Some party
      → refuses (is_late who) entry.outcome ≡ true
      → late_outcomes who asks < lost_among set.plan message.Sync who (times_sent primary.sent.syncs who)
  pub stands : refuses is_withdrawn entry.outcome ≡ false
  pub apart : IsApart set.deadline entry

module _ (set : Setting) (world : RunState) (asks : List AskLog) (entry : AskLog) (fits : FitsIn set world asks)
    (one : FitsOne set world asks entry) where
  late_more : (who : ℕ) (primary party : Party) → slice_get world.parties 0 ≡ Some primary → slice_get world.parties who ≡ Some party
      → (its : Bool) → refuses (is_late who) entry.outcome ≡ its
      → late_outcomes who asks + cond its 1 0 ≤ lost_among set.plan message.Sync who (times_sent primary.sent.syncs who)
  late_more who primary party first there true is = omega (arith, one.late who primary party first there is)
  late_more who primary party first there false is = omega (arith, fits.late who primary party first there)

  -- the outcomes fit with it
  pub fits_more : FitsIn set world (asks ++ entry ∷ [])
  fits_more = record {
    granted = λ who member.
        granted_within (number_of_party world who) asks entry (fits.granted who member)
        (λ generation its. one.granted who generation member its);
    failed = λ who party there.
        failed_same asks entry who (calls_of party.maps + 1) (fits.failed who party there) (one.failed who party there);
    closed = λ who party there.
        closed_within asks entry who party.asked (fits.closed who party there)
        (λ own. one.sent party (ap (slice_get world.parties) own ∙ there));
    late = λ who primary party first there.
        subst (λ n. n ≤ lost_among set.plan message.Sync who (times_sent primary.sent.syncs who)) (sym (late_push asks entry who))
        (late_more who primary party first there (refuses (is_late who) entry.outcome) refl);
    withdrawn = λ who party there.
        subst (λ n. n ≤ lost_among set.plan message.Alloc who party.sent.allocs) (sym (withdrawn_same asks entry who one.stands))
        (fits.withdrawn who party there);
    apart = All-push (IsApart set.deadline) asks entry fits.apart one.apart;
  }

-- WHERE A GROWTH HAS ENDED

module _ (set : Setting) (world : RunState) (primary : Party) (next : Core) (segs : SegsView) (base : IsBase set world)
    (there : slice_get world.parties 0 ≡ Some primary) (roster : segs.roster ≡ world.shared.segs.roster)
    (longer : length world.shared.segs.log ≤ length segs.log) (fits : FitsIn set world segs.asks) where
  abbrev later : RunState
  later = goes world primary next segs

  ended_place : (who : ℕ) (party : Party) (came : CameOf world who party) → IsInPlace set later who party
  ended_place who party came =
      let place = base.places who came.its came.there in
      record {
        me = came.same.me ∙ place.me;
        deadline = came.same.deadline ∙ place.deadline;
        plan = came.same.plan ∙ place.plan;
        joined = ap (λ roster. is_member roster who) roster ∙ (place.joined ∙ sym came.same.joined);
        number = λ joined. ap (λ (maps : MapsView). maps.number) came.same.maps ∙ place.number (sym came.same.joined ∙ joined);
        within = omega (arith, place.within, longer);
        granted = λ joined. fits.granted who (place.joined ∙ (sym came.same.joined ∙ joined));
        failed = ap (λ (maps : MapsView). has_failed_from segs.asks who (calls_of maps + 1)) came.same.maps
            ∙ fits.failed who came.its came.there;
        closed = subst (λ (asked : ℕ). closed_number segs.asks who ≤ asked) (sym came.same.asked) (fits.closed who came.its came.there);
        follower = λ apart. ap (λ (one : Party). one.core) (came.apart apart) ∙ place.follower apart;
        syncs = ap (λ (sent : Sent). length sent.syncs) came.same.sent ∙ place.syncs;
      }

  ended_excused : (who : ℕ) (first party : Party) (lead : CameOf world 0 first) (came : CameOf world who party)
      → IsExcused set later who first party
  ended_excused who first party lead came = record {
    late = subst (λ (sent : Sent). late_outcomes who segs.asks ≤ lost_among set.plan message.Sync who (times_sent sent.syncs who))
        (sym lead.same.sent) (fits.late who lead.its came.its lead.there came.there);
    withdrawn = subst (λ (sent : Sent). withdrawn_outcomes who segs.asks ≤ lost_among set.plan message.Alloc who sent.allocs)
        (sym came.same.sent) (fits.withdrawn who came.its came.there);
  }

  none_noted : (cause : Cause) → None ≡ Some cause → ⊥
  none_noted cause is = cc

  -- what holds at every moment holds then
  pub base_ended : IsSound segs → (IsArmed world.shared.segs → IsArmed segs) → segs.growth ≡ None → IsBase set later
  base_ended sound armed alone =
      let came = came_of world primary next segs there in
      record {
        boxes = base.boxes;
        numbers = base.numbers;
        mail = base.mail;
        parties = set_long world.parties 0 (with_core next primary) ∙ base.parties;
        said = base.said;
        sound = sound;
        armed = armed base.armed;
        primary = ap (λ roster. is_member roster 0) roster ∙ base.primary;
        declared = λ who member. base.declared who (sym (ap (λ roster. is_member roster who) roster) ∙ member);
        places = λ who party found. ended_place who party (came who party found);
        noted = λ cause is.
            absurd
            (none_noted cause (sym (ap (λ (growth : Option Growth). option_and_then (λ growth. growth.noted) growth) alone) ∙ is));
        excused = λ who first party top found. ended_excused who first party (came 0 first top) (came who party found);
        apart = fits.apart;
      }
