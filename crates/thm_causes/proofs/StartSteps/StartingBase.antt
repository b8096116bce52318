-- Worlds after what participant 0 did for its coordinator, but for posts: what holds at every moment holds there.
use Rattle.std.proofs.Common.{◌≡◌, ◌≢◌, ℕ, ◌+◌, ◌≤◌, Bool, true, false, List, [], ◌∷◌, ◌++◌, length, Some, inl, inr, refl, sym, ap, subst, ◌∙◌, arith, eq-eqb, length-append, true≢false, ◌==◌}
use Rattle.std.proofs.lemmas.Bool.{cases_eq}
use Rattle.std.specs.Prelude.{slice_get, slice_index_or, slice_set}
use Rattle.hp_core.specs.Asks.{asker, number_of}
use Rattle.hp_core.specs.declared.asked.Asked.{Asked}
use Rattle.hp_frame.specs.declared.frame.Frame.{Frame}
use Rattle.hp_segs.specs.Standing.{IsArmed}
use Rattle.hp_plain.specs.Boxes.{box_of}
use Rattle.hp_maps.specs.MapsView.{calls_of}
use Rattle.hp_segs.specs.LaterSteps.{has_failed_from, noted_failure, outcome_fails_from}
use Rattle.hp_segs.specs.SegsView.{closed_number, granted_by, is_member, is_stale}
use Rattle.hp_segs.specs.Sound.{IsSound}
use Rattle.hp_segs.specs.declared.outcome.AskLog.{AskLog}
use Rattle.hp_segs.specs.declared.outcome.Cause.{Cause}
use Rattle.hp_base.specs.declared.plan_entry.MsgKind.TheVariants as message
use Rattle.hp_serve.specs.Party.{Party}
use Rattle.hp_serve.specs.Posting.{times_sent}
use Rattle.hp_serve.specs.declared.sent.Sent.{Sent}
use Rattle.thm_causes.specs.Counting.{doubled_among, lost_among}
use Rattle.thm_causes.specs.RoundTrip.{AreSaid, IsBase, IsExcused, IsInPlace, IsNotedCall, Setting, RunState, doubles, mail_of, number_of_party}
use Rattle.thm_causes.specs.Failing.{AreGrantsWithin}
use Rattle.thm_causes.specs.Outcomes.{is_late, is_withdrawn, late_outcomes, refuses, stale_outcomes, withdrawn_outcomes, IsApart, IsCauseApart}
use Rattle.thm_causes.specs.Shared.{Shared}
use Rattle.thm_causes.specs.Stages.{world_with}
use Rattle.thm_causes.proofs.CaughtUp.{none_later}
use Rattle.thm_causes.proofs.OutcomesMore.{closed_within, failed_same, granted_within, late_same, stale_same, withdrawn_same}
use Rattle.thm_causes.proofs.Said.{get_set, set_found, set_long}
use Rattle.thm_causes.proofs.Told.{IsHeardOn, heard_more, heard_same}
use Rattle.std.proofs.lemmas.List.Elements.{All-push}
use Rattle.std.specs.List.{All}
use Rattle.hp_segs.specs.declared.outcome.Cause.TheVariants.{Late, Withdrawn}

-- a participant goes on as it was, but for its coordinator, its table, and what it has sent as a coordinator
pub record GoesOn (old new : Party) : Type 0 where
  pub me : new.me ≡ old.me
  pub plan : new.plan ≡ old.plan
  pub deadline : new.deadline ≡ old.deadline
  pub asked : new.asked ≡ old.asked
  pub answered : new.answered ≡ old.answered
  pub allocs : new.sent.allocs ≡ old.sent.allocs
  pub frees : new.sent.frees ≡ old.sent.frees
  pub calls : calls_of old.maps ≤ calls_of new.maps

pub goes_same : (party : Party) → GoesOn party party
goes_same party = record {
  me = refl;
  plan = refl;
  deadline = refl;
  asked = refl;
  answered = refl;
  allocs = refl;
  frees = refl;
  calls = omega arith;
}

-- as many of its asks came twice
pub doubles_on : (set : Setting) (who : ℕ) (old new : Party) → GoesOn old new → doubles set who new ≡ doubles set who old
doubles_on set who old new on =
    ap (λ (n : ℕ). doubled_among set.plan message.Alloc who n + doubled_among set.plan message.Free who new.sent.frees) on.allocs
    ∙ ap (λ (n : ℕ). doubled_among set.plan message.Alloc who old.sent.allocs + doubled_among set.plan message.Free who n) on.frees

-- a participant was there before
pub record WasThere (world : RunState) (who : ℕ) (party : Party) : Type 0 where
  pub before : Party
  pub there : slice_get world.parties who ≡ Some before
  pub on : GoesOn before party

-- whoever is there after a change of participant 0 was there before
pub was_there : (shared : Shared) (world : RunState) (primary after : Party) → slice_get world.parties 0 ≡ Some primary → GoesOn primary after
    → (who : ℕ) (party : Party) → slice_get (slice_set world.parties 0 after) who ≡ Some party → WasThere world who party
was_there shared world primary after there on who party found =
    elim (get_set world.parties 0 who after party found) [
      | inl both ↦
          record {
            before = primary;
            there = ap (slice_get world.parties) both.0 ∙ there;
            on = subst (GoesOn primary) (sym both.1) on;
          }
      | inr other ↦ record { before = party; there = other.1; on = goes_same party }
    ]

-- an outcome of an ask that was sent: it is neither late, taken back nor stale, and what it grants, or what failed, is known in that world
pub record IsOrderly (world : RunState) (entry : AskLog) : Type 0 where
  pub granted : (who generation : ℕ) → is_member world.shared.segs.roster who ≡ true → granted_by entry.outcome ≡ Some generation
      → generation ≤ number_of_party world who
  pub failed : (who : ℕ) (party : Party) → slice_get world.parties who ≡ Some party
      → outcome_fails_from who (calls_of party.maps + 1) entry.outcome ≡ false
  pub sent : (party : Party) → slice_get world.parties entry.from ≡ Some party → entry.number ≤ party.asked
  pub in_time : (who : ℕ) → refuses (is_late who) entry.outcome ≡ false
  pub stands : refuses is_withdrawn entry.outcome ≡ false
  pub fresh : is_stale entry.outcome ≡ false

-- no outcome came, or an orderly one
pub data LogsOne (world : RunState) (old new : List AskLog) : Type 0 where
  stays : new ≡ old → LogsOne world old new
  logs : (entry : AskLog) → new ≡ old ++ entry ∷ [] → IsOrderly world entry → LogsOne world old new

-- then no more outcomes are late, taken back or stale
pub late_logged : (world : RunState) (old new : List AskLog) (who : ℕ) → LogsOne world old new → late_outcomes who new ≡ late_outcomes who old
late_logged world old new who (stays same) = ap (late_outcomes who) same
late_logged world old new who (logs entry more orderly) =
    ap (late_outcomes who) more ∙ late_same old entry who (orderly.in_time who)

-- an outcome that is neither late nor taken back has no readings
neither_apart : (deadline : ℕ) (entry : AskLog) → ((who : ℕ) → refuses (is_late who) entry.outcome ≡ false)
    → refuses is_withdrawn entry.outcome ≡ false → IsApart deadline entry
neither_apart deadline entry in_time stands cause is =
    by_cause cause (λ who. sym (ap (refuses (is_late who)) is) ∙ in_time who) (sym (ap (refuses is_withdrawn) is) ∙ stands)
  where
    by_cause : (cause : Cause) → ((who : ℕ) → is_late who cause ≡ false) → is_withdrawn cause ≡ false → IsCauseApart deadline cause
    by_cause (Late participant from to) late back =
        let its : (participant == participant) ≡ true = eq-eqb participant participant refl in
        absurd (true≢false (sym its ∙ late participant))
    by_cause (Withdrawn from to) late back = absurd (true≢false back)
    by_cause _ late back = tt

pub apart_logged : (world : RunState) (old new : List AskLog) (deadline : ℕ) → LogsOne world old new → All (IsApart deadline) old
    → All (IsApart deadline) new
apart_logged world old new deadline (stays same) are = subst (All (IsApart deadline)) (sym same) are
apart_logged world old new deadline (logs entry more orderly) are =
    subst (All (IsApart deadline)) (sym more)
    (All-push (IsApart deadline) old entry are (neither_apart deadline entry orderly.in_time orderly.stands))

pub withdrawn_logged : (world : RunState) (old new : List AskLog) (who : ℕ) → LogsOne world old new
    → withdrawn_outcomes who new ≡ withdrawn_outcomes who old
withdrawn_logged world old new who (stays same) = ap (withdrawn_outcomes who) same
withdrawn_logged world old new who (logs entry more orderly) =
    ap (withdrawn_outcomes who) more ∙ withdrawn_same old entry who orderly.stands

pub stale_logged : (world : RunState) (old new : List AskLog) (who : ℕ) → LogsOne world old new → stale_outcomes who new ≡ stale_outcomes who old
stale_logged world old new who (stays same) = ap (stale_outcomes who) same
stale_logged world old new who (logs entry more orderly) =
    ap (stale_outcomes who) more ∙ stale_same old entry who orderly.fresh

-- what came is that ask's own
abbrev pub LogsItsOwn : Asked → List AskLog → List AskLog → Type 0
LogsItsOwn call old new = (entry : AskLog) → new ≡ old ++ entry ∷ [] → (entry.from ≡ asker call) × (entry.number ≡ number_of call)

pub logs_none : (call : Asked) (old new : List AskLog) → new ≡ old → LogsItsOwn call old new
logs_none call old new same entry is =
    absurd (omega (arith, ap (λ (asks : List AskLog). length asks) same, ap (λ (asks : List AskLog). length asks) is, length-append old (entry ∷ [])))

pub logs_own : (call : Asked) (old new : List AskLog) (entry : AskLog) → new ≡ old ++ entry ∷ [] → entry.from ≡ asker call
    → entry.number ≡ number_of call → LogsItsOwn call old new
logs_own call old new entry is from number other same =
    let one : entry ≡ other = last_same old entry other (sym is ∙ same) in
    subst (λ (entry : AskLog). (entry.from ≡ asker call) × (entry.number ≡ number_of call)) one (from, number)
  where
    last_same : (old : List AskLog) (x y : AskLog) → old ++ x ∷ [] ≡ old ++ y ∷ [] → x ≡ y
    last_same [] x y same = cc
    last_same (first ∷ old) x y same =
        let rest : old ++ x ∷ [] ≡ old ++ y ∷ [] = cc in
        last_same old x y rest

pub heard_logged : (call : Asked) (world : RunState) (old new : List AskLog) (who : ℕ) → LogsOne world old new → LogsItsOwn call old new
    → IsHeardOn call who old new
heard_logged call world old new who (stays same) own = heard_same call who old new same
heard_logged call world old new who (logs entry more orderly) own =
    heard_more call who old new entry more (withdrawn_logged world old new who (logs entry more orderly)) (inr (own entry more))

-- what was granted is within the numbers
granted_logged : (world : RunState) (old new : List AskLog) (who : ℕ) → LogsOne world old new → is_member world.shared.segs.roster who ≡ true
    → AreGrantsWithin (number_of_party world who) old → AreGrantsWithin (number_of_party world who) new
granted_logged world old new who (stays same) member within = subst (AreGrantsWithin (number_of_party world who)) (sym same) within
granted_logged world old new who (logs last more orderly) member within =
    subst (AreGrantsWithin (number_of_party world who)) (sym more)
    (granted_within (number_of_party world who) old last within (λ generation its. orderly.granted who generation member its))

-- no failed mapping by a next call was logged
failed_logged : (world : RunState) (old new : List AskLog) (who : ℕ) (party : Party) → LogsOne world old new
    → slice_get world.parties who ≡ Some party → has_failed_from old who (calls_of party.maps + 1) ≡ false
    → has_failed_from new who (calls_of party.maps + 1) ≡ false
failed_logged world old new who party (stays same) there none =
    ap (λ asks. has_failed_from asks who (calls_of party.maps + 1)) same ∙ none
failed_logged world old new who party (logs entry more orderly) there none =
    ap (λ asks. has_failed_from asks who (calls_of party.maps + 1)) more
    ∙ failed_same old entry who (calls_of party.maps + 1) none (orderly.failed who party there)

-- closed numbers are of asks that were sent
closed_logged : (world : RunState) (old new : List AskLog) (who : ℕ) (party : Party) → LogsOne world old new
    → slice_get world.parties who ≡ Some party → closed_number old who ≤ party.asked → closed_number new who ≤ party.asked
closed_logged world old new who party (stays same) there closed =
    subst (λ (asks : List AskLog). closed_number asks who ≤ party.asked) (sym same) closed
closed_logged world old new who party (logs entry more orderly) there closed =
    subst (λ (asks : List AskLog). closed_number asks who ≤ party.asked) (sym more)
    (closed_within old entry who party.asked closed (λ own. orderly.sent party (ap (slice_get world.parties) own ∙ there)))

-- what becomes of all that is shared, but for mailboxes, and of participant 0
pub record Follows (set : Setting) (world : RunState) (shared : Shared) (primary after : Party) : Type 0 where
  pub boxes : shared.boxes ≡ world.shared.boxes
  pub clock : shared.clock ≡ world.shared.clock
  pub long : length shared.numbers ≡ length world.shared.numbers
  pub others : (who : ℕ) → who ≢ 0 → slice_index_or shared.numbers who 0 ≡ number_of_party world who
  pub sound : IsSound shared.segs
  pub armed : IsArmed shared.segs
  pub roster : shared.segs.roster ≡ world.shared.segs.roster
  pub longer : length world.shared.segs.log ≤ length shared.segs.log
  pub on : GoesOn primary after
  pub sent : after.sent ≡ primary.sent
  pub joined : after.joined ≡ true
  pub number : after.maps.number ≡ slice_index_or shared.numbers 0 0
  pub rises : number_of_party world 0 ≤ slice_index_or shared.numbers 0 0
  pub within : slice_index_or shared.numbers 0 0 ≤ length shared.segs.log
  pub asks : LogsOne (world_with shared world.mail 0 after world) world.shared.segs.asks shared.segs.asks
  pub noted : (cause : Cause) → noted_failure shared.segs ≡ Some cause → IsNotedCall (world_with shared world.mail 0 after world) cause

module _ (set : Setting) (world : RunState) (shared : Shared) (primary after : Party) (base : IsBase set world)
    (there : slice_get world.parties 0 ≡ Some primary) (follows : Follows set world shared primary after) where
  abbrev next : RunState
  next = world_with shared world.mail 0 after world

  found_first : slice_get next.parties 0 ≡ Some after
  found_first = set_found world.parties 0 primary after there

  rises : (who : ℕ) → number_of_party world who ≤ number_of_party next who
  rises who =
      elim (cases_eq who 0) [
        | inl same ↦ subst (λ (n : ℕ). number_of_party world n ≤ number_of_party next n) (sym same) follows.rises
        | inr apart ↦ omega (arith, follows.others who apart)
      ]

  member_same : (who : ℕ) → is_member shared.segs.roster who ≡ is_member world.shared.segs.roster who
  member_same who = ap (λ (roster : List Bool). is_member roster who) follows.roster

  placed_own : IsInPlace set next 0 after
  placed_own =
      let old = base.places 0 primary there in
      record {
        me = follows.on.me ∙ old.me;
        deadline = follows.on.deadline ∙ old.deadline;
        plan = follows.on.plan ∙ old.plan;
        joined = member_same 0 ∙ (base.primary ∙ sym follows.joined);
        number = λ joined. follows.number;
        within = follows.within;
        granted = λ joined.
            granted_logged next world.shared.segs.asks shared.segs.asks 0 follows.asks (member_same 0 ∙ base.primary)
            (λ entry generation among its.
            let before : generation ≤ number_of_party world 0 = old.granted (sym old.joined ∙ base.primary) entry generation among its in
            let more = follows.rises in omega arith);
        failed = failed_logged next world.shared.segs.asks shared.segs.asks 0 after follows.asks found_first
            (none_later 0 (calls_of primary.maps + 1) (calls_of after.maps + 1) (omega (arith, follows.on.calls)) world.shared.segs.asks old.failed);
        closed = closed_logged next world.shared.segs.asks shared.segs.asks 0 after follows.asks found_first
            (subst (λ (n : ℕ). closed_number world.shared.segs.asks 0 ≤ n) (sym follows.on.asked) old.closed);
        follower = λ other. absurd (other refl);
        syncs = ap (λ (sent : Sent). length sent.syncs) follows.sent ∙ old.syncs;
      }

  placed_other : (who : ℕ) (party : Party) → who ≢ 0 → slice_get next.parties who ≡ Some party → slice_get world.parties who ≡ Some party
      → IsInPlace set next who party
  placed_other who party apart found before =
      let old = base.places who party before in
      record {
        me = old.me;
        deadline = old.deadline;
        plan = old.plan;
        joined = member_same who ∙ old.joined;
        number = λ joined. old.number joined ∙ sym (follows.others who apart);
        within = omega (arith, old.within, follows.longer, follows.others who apart);
        granted = λ joined.
            granted_logged next world.shared.segs.asks shared.segs.asks who follows.asks (member_same who ∙ (old.joined ∙ joined))
            (λ entry generation among its.
            let before : generation ≤ number_of_party world who = old.granted joined entry generation among its in
            let same = follows.others who apart in omega arith);
        failed = failed_logged next world.shared.segs.asks shared.segs.asks who party follows.asks found old.failed;
        closed = closed_logged next world.shared.segs.asks shared.segs.asks who party follows.asks found old.closed;
        follower = old.follower;
        syncs = old.syncs;
      }

  placed : (who : ℕ) (party : Party) → slice_get next.parties who ≡ Some party → IsInPlace set next who party
  placed who party found =
      elim (get_set world.parties 0 who after party found) [
        | inl both ↦
            subst (λ (n : ℕ). IsInPlace set next n party) (sym both.0)
            (subst (IsInPlace set next 0) (sym both.1) placed_own)
        | inr other ↦ placed_other who party other.0 found other.1
      ]

  excuses : (who : ℕ) (first party : Party) → slice_get next.parties 0 ≡ Some first → slice_get next.parties who ≡ Some party
      → IsExcused set next who first party
  excuses who first party at_first found =
      let was = was_there shared world primary after there follows.on who party found in
      let old = base.excused who primary was.before there was.there in
      let first_is : first ≡ after = cc (at_first, found_first) in
      record {
        late = subst (λ (n : ℕ). n ≤ lost_among set.plan message.Sync who (times_sent first.sent.syncs who))
            (sym (late_logged next world.shared.segs.asks shared.segs.asks who follows.asks))
            (subst (λ (sent : Sent). late_outcomes who world.shared.segs.asks ≤ lost_among set.plan message.Sync who (times_sent sent.syncs who))
            (sym (ap (λ (party : Party). party.sent) first_is ∙ follows.sent)) old.late);
        withdrawn = subst (λ (n : ℕ). n ≤ lost_among set.plan message.Alloc who party.sent.allocs)
            (sym (withdrawn_logged next world.shared.segs.asks shared.segs.asks who follows.asks))
            (subst (λ (n : ℕ). withdrawn_outcomes who world.shared.segs.asks ≤ lost_among set.plan message.Alloc who n)
            (sym was.on.allocs) old.withdrawn);
      }

  -- what holds at every moment holds then
  pub base_follows : IsBase set next
  base_follows = record {
    boxes = ap length follows.boxes ∙ base.boxes;
    numbers = follows.long ∙ base.numbers;
    mail = base.mail;
    parties = set_long world.parties 0 after ∙ base.parties;
    said = λ who.
        subst (λ (boxes : List (List Frame)). AreSaid (box_of boxes who) (mail_of world who)) (sym follows.boxes) (base.said who);
    sound = follows.sound;
    armed = follows.armed;
    primary = member_same 0 ∙ base.primary;
    declared = λ who member. base.declared who (sym (member_same who) ∙ member);
    places = placed;
    noted = follows.noted;
    excused = excuses;
    apart = apart_logged next world.shared.segs.asks shared.segs.asks set.deadline follows.asks base.apart;
  }
