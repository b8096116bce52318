-- What holds between the servings of an ask holds again after one serving of a member.
use Rattle.std.proofs.Common.{◌≡◌, ◌≢◌, ◌∙◌, ℕ, ◌+◌, ◌≤◌, Bool, true, List, Contains, length, Some, inl, inr, refl, sym, ap, subst, arith}
use Rattle.std.specs.Prelude.{slice_get, slice_index_or, slice_set}
use Rattle.hp_base.specs.declared.plan_entry.MsgKind.TheVariants as message
use Rattle.hp_frame.specs.declared.message.Body.{Body}
use Rattle.hp_segs.specs.Standing.{IsArmed}
use Rattle.hp_maps.specs.MapsView.{calls_of}
use Rattle.hp_plain.proofs.Slotted.{slice_get-set_other}
use Rattle.hp_segs.specs.LaterSteps.{has_failed_from, noted_failure}
use Rattle.hp_segs.specs.SegsView.{closed_number, is_member}
use Rattle.hp_segs.specs.Sound.{IsSound}
use Rattle.hp_segs.specs.declared.outcome.AskLog.{AskLog}
use Rattle.hp_segs.specs.declared.outcome.Cause.{Cause}
use Rattle.hp_serve.specs.Party.{Party}
use Rattle.thm_causes.specs.Counting.{lost_among}
use Rattle.thm_causes.specs.RoundTrip.{IsBase, IsExcused, IsInPlace, IsNotedCall, Setting, RunState, number_of_party}
use Rattle.thm_causes.specs.Outcomes.{late_outcomes, withdrawn_outcomes, IsApart}
use Rattle.thm_causes.specs.Shared.{Shared}
use Rattle.thm_causes.specs.Stages.{world_with}
use Rattle.thm_causes.proofs.CaughtUp.{MayNote, none_later}
use Rattle.thm_causes.proofs.Said.{AreAllSaid, get_set, set_long}
use Rattle.std.specs.List.{All}

-- what a serving leaves of a member as it was
pub record IsStillParty (party after : Party) : Type 0 where
  pub me : after.me ≡ party.me
  pub deadline : after.deadline ≡ party.deadline
  pub plan : after.plan ≡ party.plan
  pub joined : after.joined ≡ party.joined
  pub core : after.core ≡ party.core
  pub asked : after.asked ≡ party.asked
  pub allocs : after.sent.allocs ≡ party.sent.allocs
  pub frees : after.sent.frees ≡ party.sent.frees
  pub syncs : after.sent.syncs ≡ party.sent.syncs

-- a member has served: of the segment value a failure of its own may be noted, of the numbers its own may have risen, and its table goes by
-- it
pub record ServesAlone (set : Setting) (world : RunState) (who : ℕ) (party after : Party) (shared : Shared)
    (mail : List (List Body)) : Type 0 where
  pub clock : shared.clock ≡ world.shared.clock
  pub segs : MayNote who (calls_of after.maps) world.shared.segs shared.segs
  pub sound : IsSound shared.segs
  pub armed : IsArmed shared.segs
  pub boxes : length shared.boxes ≡ set.count
  pub long : length mail ≡ set.count
  pub said : AreAllSaid shared.boxes mail
  pub numbers : length shared.numbers ≡ set.count
  pub others : (other : ℕ) → other ≢ who → slice_index_or shared.numbers other 0 ≡ number_of_party world other
  pub rises : number_of_party world who ≤ slice_index_or shared.numbers who 0
  pub within : slice_index_or shared.numbers who 0 ≤ length world.shared.segs.log
  pub still : IsStillParty party after
  pub table : party.joined ≡ true → after.maps.number ≡ slice_index_or shared.numbers who 0
  pub calls : calls_of party.maps ≤ calls_of after.maps

module _ (set : Setting) (world : RunState) (who : ℕ) (party after : Party) (shared : Shared) (mail : List (List Body))
    (base : IsBase set world) (there : slice_get world.parties who ≡ Some party)
    (serves : ServesAlone set world who party after shared mail) where
  its : IsInPlace set world who party
  its = base.places who party there

  its_place : IsInPlace set (world_with shared mail who after world) who after
  its_place = record {
    me = serves.still.me ∙ its.me;
    deadline = serves.still.deadline ∙ its.deadline;
    plan = serves.still.plan ∙ its.plan;
    joined = ap (λ (roster : List Bool). is_member roster who) serves.segs.roster ∙ its.joined ∙ sym serves.still.joined;
    number = λ joined. serves.table (sym serves.still.joined ∙ joined);
    within = omega (arith, serves.within, ap length serves.segs.log);
    granted = λ joined entry generation has granted.
        omega (
          arith,
          serves.rises,
          its.granted (sym serves.still.joined ∙ joined) entry generation
              (subst (λ (asks : List AskLog). Contains asks entry) serves.segs.asks has) granted,
        );
    failed = ap (λ (asks : List AskLog). has_failed_from asks who (calls_of after.maps + 1)) serves.segs.asks
        ∙ none_later who (calls_of party.maps + 1) (calls_of after.maps + 1) (omega (arith, serves.calls))
        world.shared.segs.asks its.failed;
    closed = omega (
      arith,
      ap (λ (asks : List AskLog). closed_number asks who) serves.segs.asks,
      its.closed,
      serves.still.asked,
    );
    follower = λ other. serves.still.core ∙ its.follower other;
    syncs = ap length serves.still.syncs ∙ its.syncs;
  }

  other_place : (other : ℕ) (its_party : Party) → other ≢ who → IsInPlace set world other its_party
      → IsInPlace set (world_with shared mail who after world) other its_party
  other_place other its_party apart is = record {
    me = is.me;
    deadline = is.deadline;
    plan = is.plan;
    joined = ap (λ (roster : List Bool). is_member roster other) serves.segs.roster ∙ is.joined;
    number = λ joined. is.number joined ∙ sym (serves.others other apart);
    within = omega (arith, serves.others other apart, is.within, ap length serves.segs.log);
    granted = λ joined entry generation has granted.
        omega (
          arith,
          serves.others other apart,
          is.granted joined entry generation (subst (λ (asks : List AskLog). Contains asks entry) serves.segs.asks has) granted,
        );
    failed = ap (λ (asks : List AskLog). has_failed_from asks other (calls_of its_party.maps + 1)) serves.segs.asks ∙ is.failed;
    closed = omega (arith, ap (λ (asks : List AskLog). closed_number asks other) serves.segs.asks, is.closed);
    follower = is.follower;
    syncs = is.syncs;
  }

  places_with : (other : ℕ) (its_party : Party) → slice_get (slice_set world.parties who after) other ≡ Some its_party
      → IsInPlace set (world_with shared mail who after world) other its_party
  places_with other its_party found =
      elim (get_set world.parties who other after its_party found) [
        | inl both ↦
            subst (λ (n : ℕ). IsInPlace set (world_with shared mail who after world) n its_party) (sym both.0)
            (subst (λ (p : Party). IsInPlace set (world_with shared mail who after world) who p) (sym both.1) its_place)
        | inr apart ↦ other_place other its_party apart.0 (base.places other its_party apart.1)
      ]

  -- a party that has made so many calls has made as many after the serving
  calls_with : (other call : ℕ) → ((its_party : Party) → slice_get world.parties other ≡ Some its_party → call ≤ calls_of its_party.maps)
      → (its_party : Party) → slice_get (slice_set world.parties who after) other ≡ Some its_party → call ≤ calls_of its_party.maps
  calls_with other call made its_party found =
      elim (get_set world.parties who other after its_party found) [
        | inl both ↦
            omega (
              arith,
              made party (ap (slice_get world.parties) both.0 ∙ there),
              serves.calls,
              ap (λ (p : Party). calls_of p.maps) both.1,
            )
        | inr apart ↦ made its_party apart.1
      ]

  noted_with : (cause : Cause) → noted_failure shared.segs ≡ Some cause → IsNotedCall (world_with shared mail who after world) cause
  noted_with cause is =
      elim (serves.segs.noted cause is) [
        | inl before ↦
            (let noted = base.noted cause before in
            record {
              who = noted.who;
              call = noted.call;
              addr = noted.addr;
              got = noted.got;
              is = noted.is;
              made = calls_with noted.who noted.call noted.made;
            })
        | inr own ↦
            record {
              who = who;
              call = own.call;
              addr = own.addr;
              got = own.got;
              is = own.is;
              made = λ its_party found.
                  elim (get_set world.parties who who after its_party found) [
                    | inl both ↦ omega (arith, own.made, ap (λ (p : Party). calls_of p.maps) both.1)
                    | inr apart ↦ absurd (apart.0 refl)
                  ];
            }
      ]

  excused_behind : (other : ℕ) (primary its_party later : Party) → IsExcused set world other primary its_party
      → later.sent.allocs ≡ its_party.sent.allocs → IsExcused set (world_with shared mail who after world) other primary later
  excused_behind other primary its_party later excused same = record {
    late = omega (arith, ap (late_outcomes other) serves.segs.asks, excused.late);
    withdrawn = omega (
      arith,
      ap (withdrawn_outcomes other) serves.segs.asks,
      excused.withdrawn,
      ap (lost_among set.plan message.Alloc other) same,
    );
  }

  excused_with : who ≢ 0 → (other : ℕ) (primary its_party : Party) → slice_get (slice_set world.parties who after) 0 ≡ Some primary
      → slice_get (slice_set world.parties who after) other ≡ Some its_party
      → IsExcused set (world_with shared mail who after world) other primary its_party
  excused_with member other primary its_party first found =
      let primary_there : slice_get world.parties 0 ≡ Some primary =
      sym (slice_get-set_other world.parties who 0 after (λ same. member (sym same))) ∙ first in
      elim (get_set world.parties who other after its_party found) [
        | inl both ↦
            subst (λ (n : ℕ). IsExcused set (world_with shared mail who after world) n primary its_party) (sym both.0)
            (excused_behind who primary party its_party (base.excused who primary party primary_there there)
            (ap (λ (p : Party). p.sent.allocs) both.1 ∙ serves.still.allocs))
        | inr apart ↦ excused_behind other primary its_party its_party (base.excused other primary its_party primary_there apart.1) refl
      ]

  pub base_with : who ≢ 0 → IsBase set (world_with shared mail who after world)
  base_with member = record {
    boxes = serves.boxes;
    numbers = serves.numbers;
    mail = serves.long;
    parties = set_long world.parties who after ∙ base.parties;
    said = serves.said;
    sound = serves.sound;
    armed = serves.armed;
    primary = ap (λ (roster : List Bool). is_member roster 0) serves.segs.roster ∙ base.primary;
    declared = λ other joined.
        base.declared other (sym (ap (λ (roster : List Bool). is_member roster other) serves.segs.roster) ∙ joined);
    places = places_with;
    noted = noted_with;
    excused = excused_with member;
    apart = subst (All (IsApart set.deadline)) (sym serves.segs.asks) base.apart;
  }
