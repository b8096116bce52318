-- What stays of an episode where participant 0 logs at most a stale outcome, holds an ask, hears an answer, or fetches a body.
use Rattle.std.proofs.Common.{◌≡◌, ◌≢◌, ◌∙◌, ◌⊎◌, ℕ, ◌+◌, ◌≤◌, Bool, true, false, List, drop, length, Option, Some, inl, inr, ap, sym, subst}
use Rattle.std.specs.Prelude.{slice_get, slice_index_or}
use Rattle.std.specs.List.{All, list_any}
use Rattle.std.specs.Option.{option_and_then}
use Rattle.std.proofs.lemmas.Bool.{cases_eq}
use Rattle.std.proofs.lemmas.List.Elements.{All-drop}
use Rattle.std.proofs.lemmas.List.Folds.{list_any_none}
use Rattle.hp_base.specs.declared.plan_entry.MsgKind.TheVariants as message
use Rattle.hp_core.specs.declared.asked.Asked.{Asked}
use Rattle.hp_frame.specs.declared.message.Body.{Body}
use Rattle.hp_segs.specs.Standing.{IsArmed}
use Rattle.hp_plain.specs.Boxes.{box_of}
use Rattle.hp_log.specs.declared.log_record.LogRecord.{LogRecord}
use Rattle.hp_maps.specs.MapsView.{MapsView, calls_of}
use Rattle.hp_segs.specs.LaterSteps.{has_failed_from, noted_failure}
use Rattle.hp_segs.specs.SegsView.{SegsView, closed_number, grants_or_refuses, is_member}
use Rattle.hp_segs.specs.Sound.{IsSound}
use Rattle.hp_segs.specs.declared.growth.Growth.{Growth}
use Rattle.hp_segs.specs.declared.outcome.Cause.{Cause}
use Rattle.hp_segs.proofs.SlotFacts.ListFacts.{any_off}
use Rattle.hp_serve.specs.Party.{Party}
use Rattle.hp_serve.specs.Posting.{times_sent}
use Rattle.hp_serve.specs.declared.sent.Sent.{Sent}
use Rattle.thm_causes.specs.Counting.{lost_among}
use Rattle.thm_causes.specs.RoundTrip.{AreSaid, IsBase, IsExcused, IsInPlace, IsNotedCall, IsToldBefore, Setting, RunState, mail_of, number_of_party}
use Rattle.thm_causes.specs.Failing.{AreGrantsWithin}
use Rattle.thm_causes.specs.Outcomes.{late_outcomes, withdrawn_outcomes, IsApart}
use Rattle.thm_causes.proofs.Told.{IsHeardOn, told_on}

-- what is left of a segment value where at most a stale outcome is logged, and no growth opens or closes
pub record IsLike (old new : SegsView) : Type 0 where
  pub log : new.log ≡ old.log
  pub roster : new.roster ≡ old.roster
  pub growth : new.growth ≡ old.growth
  pub armed : new.armed ≡ old.armed
  pub retiring : new.retiring ≡ old.retiring
  pub closed : (who : ℕ) → closed_number new.asks who ≡ closed_number old.asks who
  pub late : (who : ℕ) → late_outcomes who new.asks ≡ late_outcomes who old.asks
  pub withdrawn : (who : ℕ) → withdrawn_outcomes who new.asks ≡ withdrawn_outcomes who old.asks
  pub heard : (call : Asked) (who : ℕ) → IsHeardOn call who old.asks new.asks
  pub failed : (who call : ℕ) → has_failed_from new.asks who call ≡ has_failed_from old.asks who call
  pub granted : (number : ℕ) → AreGrantsWithin number old.asks → AreGrantsWithin number new.asks
  pub answered : (from number : ℕ) → list_any (grants_or_refuses from number) old.asks ≡ true
      → list_any (grants_or_refuses from number) new.asks ≡ true
  pub apart : (deadline : ℕ) → All (IsApart deadline) old.asks → All (IsApart deadline) new.asks

-- what is left of a participant whose coordinator did something, or that heard something
pub record IsSameBut (old new : Party) : Type 0 where
  pub me : new.me ≡ old.me
  pub deadline : new.deadline ≡ old.deadline
  pub plan : new.plan ≡ old.plan
  pub joined : new.joined ≡ old.joined
  pub maps : new.maps ≡ old.maps
  pub sent : new.sent ≡ old.sent
  pub asked : new.asked ≡ old.asked

-- a participant was such a one before, and none but participant 0 was another
pub record CameOf (old : RunState) (who : ℕ) (party : Party) : Type 0 where
  pub its : Party
  pub there : slice_get old.parties who ≡ Some its
  pub same : IsSameBut its party
  pub apart : who ≢ 0 → party ≡ its

-- participant 0 has become such a one
pub record Becomes (new : RunState) (party : Party) : Type 0 where
  pub after : Party
  pub there : slice_get new.parties 0 ≡ Some after
  pub same : IsSameBut party after

-- a world in which only participant 0 did something of this kind
pub record IsAlong (old new : RunState) : Type 0 where
  pub segs : IsLike old.shared.segs new.shared.segs
  pub clock : new.shared.clock ≡ old.shared.clock
  pub numbers : new.shared.numbers ≡ old.shared.numbers
  pub others : (who : ℕ) → who ≢ 0 → mail_of new who ≡ mail_of old who
  pub first : (mail_of new 0 ≡ mail_of old 0) ⊎ (mail_of new 0 ≡ drop 1 (mail_of old 0))
  pub before : (who : ℕ) (party : Party) → slice_get new.parties who ≡ Some party → CameOf old who party
  pub primary : (party : Party) → slice_get old.parties 0 ≡ Some party → Becomes new party

module _ (set : Setting) (old new : RunState) (along : IsAlong old new) where
  -- each one's number, and the noted failure, are as they were
  pub number_same : (who : ℕ) → number_of_party new who ≡ number_of_party old who
  number_same who = ap (λ (numbers : List ℕ). slice_index_or numbers who 0) along.numbers

  pub noted_same : noted_failure new.shared.segs ≡ noted_failure old.shared.segs
  noted_same = ap (λ (growth : Option Growth). option_and_then (λ (its : Growth). its.noted) growth) along.segs.growth

  -- what holds of each body in mailbox 0 does so of each that is left
  pub all_first : (P : Body → Type 0) → All P (mail_of old 0) → All P (mail_of new 0)
  all_first P are =
      elim along.first [
        | inl same ↦ subst (All P) (sym same) are
        | inr rest ↦ subst (All P) (sym rest) (All-drop P 1 (mail_of old 0) are)
      ]

  -- what none of them passes none that is left passes, and so it is of all mailboxes
  pub none_first : (test : Body → Bool) → list_any test (mail_of old 0) ≡ false → list_any test (mail_of new 0) ≡ false
  none_first test none =
      list_any_none test (mail_of new 0) (all_first (λ body. test body ≡ false) (any_off test (mail_of old 0) none))

  pub none_anywhere : (test : Body → Bool) → ((who : ℕ) → list_any test (mail_of old who) ≡ false) → (who : ℕ)
      → list_any test (mail_of new who) ≡ false
  none_anywhere test none who =
      elim (cases_eq who 0) [
        | inl primary ↦
            subst (λ (n : ℕ). list_any test (mail_of new n) ≡ false) (sym primary) (none_first test (none 0))
        | inr apart ↦ ap (list_any test) (along.others who apart) ∙ none who
      ]

  -- all but one ask have their outcomes, or were lost, as before
  pub told_along : (call : Asked) → ((who : ℕ) (party : Party) → slice_get old.parties who ≡ Some party
      → IsToldBefore set old.shared.segs.asks call who party)
      → (who : ℕ) (party : Party) → slice_get new.parties who ≡ Some party → IsToldBefore set new.shared.segs.asks call who party
  told_along call told who party found =
      let came = along.before who party found in
      told_on set old.shared.segs.asks new.shared.segs.asks call who came.its party (along.segs.heard call who) came.same.asked
      (ap (λ (sent : Sent). sent.frees) came.same.sent) (told who came.its came.there)

  -- each one is in its place, a failure is noted of a call that was made, and what was refused has its reasons
  place_along : (who : ℕ) (party : Party) (came : CameOf old who party) → IsInPlace set old who came.its → IsInPlace set new who party
  place_along who party came is = record {
    me = came.same.me ∙ is.me;
    deadline = came.same.deadline ∙ is.deadline;
    plan = came.same.plan ∙ is.plan;
    joined = ap (λ (roster : List Bool). is_member roster who) along.segs.roster ∙ (is.joined ∙ sym came.same.joined);
    number = λ joined.
        ap (λ (maps : MapsView). maps.number) came.same.maps
        ∙ (is.number (sym came.same.joined ∙ joined) ∙ sym (number_same who));
    within =
        subst (λ (n : ℕ). n ≤ length new.shared.segs.log) (sym (number_same who))
        (subst (λ (log : List LogRecord). number_of_party old who ≤ length log) (sym along.segs.log) is.within);
    granted = λ joined.
        subst (λ (n : ℕ). AreGrantsWithin n new.shared.segs.asks) (sym (number_same who))
        (along.segs.granted (number_of_party old who) (is.granted (sym came.same.joined ∙ joined)));
    failed =
        along.segs.failed who (calls_of party.maps + 1)
        ∙ (ap (λ (maps : MapsView). has_failed_from old.shared.segs.asks who (calls_of maps + 1)) came.same.maps ∙ is.failed);
    closed =
        subst (λ (n : ℕ). n ≤ party.asked) (sym (along.segs.closed who))
        (subst (λ (n : ℕ). closed_number old.shared.segs.asks who ≤ n) (sym came.same.asked) is.closed);
    follower = λ apart. ap (λ (p : Party). p.core) (came.apart apart) ∙ is.follower apart;
    syncs = ap (λ (sent : Sent). length sent.syncs) came.same.sent ∙ is.syncs;
  }

  noted_along : IsBase set old → (cause : Cause) → noted_failure new.shared.segs ≡ Some cause → IsNotedCall new cause
  noted_along base cause is =
      let its = base.noted cause (sym noted_same ∙ is) in
      record {
        who = its.who;
        call = its.call;
        addr = its.addr;
        got = its.got;
        is = its.is;
        made = λ party there.
            (let came = along.before its.who party there in
            subst (λ (maps : MapsView). its.call ≤ calls_of maps) (sym came.same.maps) (its.made came.its came.there));
      }

  excused_along : IsBase set old → (who : ℕ) (primary party : Party) → slice_get new.parties 0 ≡ Some primary
      → slice_get new.parties who ≡ Some party → IsExcused set new who primary party
  excused_along base who primary party here there =
      let lead = along.before 0 primary here in
      let came = along.before who party there in
      let its = base.excused who lead.its came.its lead.there came.there in
      record {
        late =
            subst (λ (n : ℕ). n ≤ lost_among set.plan message.Sync who (times_sent primary.sent.syncs who)) (sym (along.segs.late who))
            (subst
            (λ (sent : Sent). late_outcomes who old.shared.segs.asks ≤ lost_among set.plan message.Sync who (times_sent sent.syncs who))
            (sym lead.same.sent) its.late);
        withdrawn =
            subst (λ (n : ℕ). n ≤ lost_among set.plan message.Alloc who party.sent.allocs) (sym (along.segs.withdrawn who))
            (subst (λ (sent : Sent). withdrawn_outcomes who old.shared.segs.asks ≤ lost_among set.plan message.Alloc who sent.allocs)
            (sym came.same.sent) its.withdrawn);
      }

  -- what holds at each moment
  pub base_along : IsBase set old → length new.shared.boxes ≡ set.count → length new.mail ≡ set.count → length new.parties ≡ set.count
      → ((who : ℕ) → AreSaid (box_of new.shared.boxes who) (mail_of new who)) → IsSound new.shared.segs → IsArmed new.shared.segs
      → IsBase set new
  base_along base boxes mail parties said sound armed = record {
    boxes = boxes;
    numbers = ap (λ (numbers : List ℕ). length numbers) along.numbers ∙ base.numbers;
    mail = mail;
    parties = parties;
    said = said;
    sound = sound;
    armed = armed;
    primary = ap (λ (roster : List Bool). is_member roster 0) along.segs.roster ∙ base.primary;
    declared = λ who its.
        base.declared who (sym (ap (λ (roster : List Bool). is_member roster who) along.segs.roster) ∙ its);
    places = λ who party there.
        (let came = along.before who party there in place_along who party came (base.places who came.its came.there));
    noted = noted_along base;
    excused = excused_along base;
    apart = along.segs.apart set.deadline base.apart;
  }
