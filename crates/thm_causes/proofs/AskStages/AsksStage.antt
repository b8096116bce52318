-- An ask or a notice was just sent from a quiet world: it lies in mailbox 0 once or twice, or it was lost.
use Rattle.std.proofs.Common.{◌≡◌, ◌∙◌, ℕ, zero, suc, ◌+◌, ◌-◌, ◌<◌, ◌≤◌, ◌⊎◌, Bool, true, false, List, [], ◌++◌, length, replicate, count_by, Option, Some, inl, inr, refl, sym, ap, subst, arith, if◌then◌else◌}
use Rattle.std.specs.Prelude.{slice_get, slice_index_or, slice_set}
use Rattle.std.specs.List.{All, list_any}
use Rattle.std.proofs.lemmas.Bool.{cases_eq, or_from}
use Rattle.std.proofs.lemmas.List.{length-replicate}
use Rattle.std.proofs.lemmas.List.Elements.{All-replicate}
use Rattle.std.proofs.lemmas.Option.{slice_get-get_or}
use Rattle.hp_base.specs.declared.plan.Action.{Action}
use Rattle.hp_base.specs.declared.plan.Action.TheVariants.{Deliver, Lose, Repeat}
use Rattle.hp_core.specs.Asks.{asker, is_armed, number_of}
use Rattle.hp_core.specs.declared.asked.Asked.{Asked}
use Rattle.hp_core.specs.declared.asked.Asked.TheVariants as want
use Rattle.hp_core.specs.declared.phase.Phase.TheVariants.{Idle}
use Rattle.hp_frame.specs.declared.frame.Frame.{Frame}
use Rattle.hp_frame.specs.declared.message.Body.{Body}
use Rattle.hp_plain.specs.Boxes.{box_after, box_of, copies, posted_as}
use Rattle.hp_hall.specs.Measures.{box_measure, boxes_measure, pending_at}
use Rattle.hp_mail.specs.declared.posted.Posted.{Posted}
use Rattle.hp_log.proofs.Counts.{count_cons}
use Rattle.hp_segs.specs.SegsView.{SegsView, closed_number}
use Rattle.hp_serve.specs.Falling.{own_measure}
use Rattle.hp_serve.specs.Frames.{Says}
use Rattle.hp_serve.specs.Party.{Party}
use Rattle.hp_serve.specs.Waiting.{most_servings}
use Rattle.thm_causes.specs.Counting.{LosesNothing, is_doubled, is_lost}
use Rattle.thm_causes.specs.RoundTrip.{AreDoubled, AreOthersEmpty, HasCoordinator, IsBase, IsCopy, IsGoneBefore, IsToDo, IsToldBefore, IsUnanswered, MayBeTakenBack, MayMissOne, Setting, AskPhase, StartsLevel, RunState, doubles, is_call, is_result_of, made_before, mail_of, notices_lost}
use Rattle.thm_causes.specs.Quiet.{IsQuietState}
use Rattle.thm_causes.specs.Shared.{posted_to}
use Rattle.thm_causes.specs.Stages.{IsSent, world_with}
use Rattle.thm_causes.specs.Waits.{IsAtTurn, core_in, measure_in}
use Rattle.thm_causes.proofs.AskStages.AsksBase.{HasSent, base_sent}
use Rattle.thm_causes.proofs.AskStages.AsksWeights.{copies_weigh, first_weighs, idle_weighs, two_copies}
use Rattle.thm_causes.proofs.BaseKept.{base_mailed}
use Rattle.thm_causes.proofs.CopyStages.CopiesBodies.{copy_is_call}
use Rattle.thm_causes.proofs.Said.{index_set, index_unset, mail_posted, said_posted, set_found, set_long, set_unfound}
use Rattle.thm_causes.proofs.TurnSteps.TurnsMembers.{box_empty}
use Rattle.thm_causes.proofs.CountingLemmas.{one_if}
use Rattle.thm_causes.proofs.Told.{made_other, made_own}
use Rattle.thm_causes.specs.Outcomes.{unanswered_among}

-- a copy of an ask is no answer
copy_is_no_result : (call : Asked) (body : Body) → IsCopy call body → is_result_of call body ≡ false
copy_is_no_result (want.Grow ask) body copy = ap (is_result_of (want.Grow ask)) copy
copy_is_no_result (want.Shrink from number) body copy = ap (is_result_of (want.Shrink from number)) copy.3

-- an ask is to do as it was where the segment value is the same
still_to_do : (call : Asked) (world other : RunState) → other.shared.segs ≡ world.shared.segs → IsToDo call world → IsToDo call other
still_to_do (want.Grow ask) world other same to_do =
    subst (λ (segs : SegsView). (closed_number segs.asks ask.from < ask.number) × (is_armed ask segs ≡ true)) (sym same) to_do
still_to_do (want.Shrink from number) world other same to_do =
    subst (λ (segs : SegsView). closed_number segs.asks from < number) (sym same) to_do

-- and nothing of what was given up is left before an ask for pages, as before
still_gone : (call : Asked) (world other : RunState) → other.shared.segs ≡ world.shared.segs → IsGoneBefore call world
    → IsGoneBefore call other
still_gone (want.Grow ask) world other same gone = ap (λ (segs : SegsView). segs.retiring) same ∙ gone
still_gone (want.Shrink from number) world other same gone = tt

count_alike : {X : Type 0} (test : X → Bool) (n : ℕ) (x : X) → test x ≡ true → count_by test (replicate n x) ≡ n
count_alike test zero x is = refl
count_alike test (suc n) x is =
    let first : one_if (test x) ≡ one_if true = ap one_if is in
    let rest = count_alike test n x is in
    omega (arith, count_cons test x (replicate n x), first, rest)

none_alike : {X : Type 0} (test : X → Bool) (n : ℕ) (x : X) → test x ≡ false → list_any test (replicate n x) ≡ false
none_alike test zero x is = refl
none_alike test (suc n) x is = or_from (test x) (list_any test (replicate n x)) is (none_alike test n x is)

-- what comes into an empty mailbox: a copy, or two of a message that is doubled, or none of one that is lost
comes_as : (action : Action)
    → ((n : ℕ) × (copies (posted_as action 0) ≡ n) × (0 < n) × (n ≤ one_if (is_doubled action) + 1))
    ⊎ ((copies (posted_as action 0) ≡ 0) × (is_lost action ≡ true))
comes_as Deliver = inl (1, refl, omega arith, omega arith)
comes_as (Repeat line) = inl (2, refl, omega arith, omega arith)
comes_as (Lose line) = inr (refl, refl)

-- the world after a post to participant 0 by a participant that is now another
abbrev pub world_posted : ℕ → RunState → Frame → Body → Party → Action → RunState
world_posted who world frame body after action =
    world_with (posted_to 0 frame action world.shared)
    (mail_posted 0 (posted_as action (length (box_of world.shared.boxes 0))) body world.mail) who after world

module _ (set : Setting) (call : Asked) (sent : ℕ) (world : RunState) (frame : Frame) (body : Body) (party after : Party)
    (is_sent : IsSent set call sent) (quiet : IsQuietState set world) (there : slice_get world.parties (asker call) ≡ Some party)
    (sends : HasSent set (asker call) (number_of call) party after) (clock : world.shared.clock ≡ sent) (to_do : IsToDo call world)
    (above : closed_number world.shared.segs.asks (asker call) < number_of call) (next : number_of call ≡ party.asked + 1) (says : Says frame body) (copy : IsCopy call body)
    (gone : LosesNothing set.plan → IsGoneBefore call world) where
  abbrev posts : Action → Posted
  posts action = posted_as action (length (box_of world.shared.boxes 0))

  abbrev behind : Action → RunState
  behind action = world_posted (asker call) world frame body after action

  first_box : box_of world.shared.boxes 0 ≡ []
  first_box = box_empty set world 0 quiet.base (quiet.empty 0)

  base_behind : (action : Action) → IsBase set (behind action)
  base_behind action =
      base_mailed set (world_with world.shared world.mail (asker call) after world) (posted_to 0 frame action world.shared).boxes
      (mail_posted 0 (posts action) body world.mail)
      (base_sent set (asker call) (number_of call) world party after quiet.base there sends (omega (arith, above)))
      (set_long world.shared.boxes 0 _ ∙ quiet.base.boxes) (set_long world.mail 0 _ ∙ quiet.base.mail)
      (said_posted world.shared.boxes world.mail (quiet.base.mail ∙ sym quiet.base.boxes) quiet.base.said 0 frame body (posts action) says)

  -- MAIL

  first_mail : (action : Action) (n : ℕ) → copies (posted_as action 0) ≡ n → mail_of (behind action) 0 ≡ replicate n body
  first_mail action n is =
      index_set world.mail 0 (slice_index_or world.mail 0 [] ++ replicate (copies (posts action)) body) []
      (omega (arith, quiet.base.mail, is_sent.setting.some))
      ∙ ap (λ (bodies : List Body). bodies ++ replicate (copies (posts action)) body) (quiet.empty 0)
      ∙ ap (λ (n : ℕ). replicate n body) (ap (λ (box : List Frame). copies (posted_as action (length box))) first_box ∙ is)

  others_empty : (action : Action) → AreOthersEmpty (behind action)
  others_empty action who other = index_unset world.mail 0 who _ [] other ∙ quiet.empty who

  no_result : (action : Action) (n : ℕ) → copies (posted_as action 0) ≡ n → (who : ℕ)
      → list_any (is_result_of call) (mail_of (behind action) who) ≡ false
  no_result action n is zero =
      ap (list_any (is_result_of call)) (first_mail action n is) ∙ none_alike (is_result_of call) n body (copy_is_no_result call body copy)
  no_result action n is (suc who) =
      ap (list_any (is_result_of call)) (others_empty action (suc who) (λ (same : suc who ≡ 0). omega (arith, same)))

  -- PARTICIPANTS

  asker_after : (one : Party) → slice_get (slice_set world.parties (asker call) after) (asker call) ≡ Some one → one ≡ after
  asker_after one found =
      let same : Some one ≡ Some after = sym found ∙ set_found world.parties (asker call) party after there in
      cc

  unanswered : (action : Action) (n : ℕ) → copies (posted_as action 0) ≡ n → IsUnanswered call (behind action)
  unanswered action n is = record {
    asked = λ one found. ap (λ (one : Party). one.asked) (asker_after one found) ∙ sends.asked;
    unheard = λ one found. ap (λ (one : Party). one.answered) (asker_after one found) ∙ sends.answered;
    nowhere = no_result action n is;
  }

  abbrev first : Party
  first = slice_index_or world.parties 0 party

  first_there : slice_get world.parties 0 ≡ Some first
  first_there = slice_get-get_or world.parties 0 party (omega (arith, quiet.base.parties, is_sent.setting.some))

  first_own : 0 ≡ asker call → after.core ≡ first.core
  first_own same =
      let both : Some party ≡ Some first = sym there ∙ sym (ap (slice_get world.parties) same) ∙ first_there in
      let one : party ≡ first = cc in
      sends.core ∙ ap (λ (party : Party). party.core) one

  coordinator : (action : Action) → HasCoordinator set (behind action) Idle call false
  coordinator action =
      let idle = quiet.idle first first_there in
      elim (cases_eq 0 (asker call)) [
        | inl same ↦
            record {
              primary = after;
              there = ap (slice_get (slice_set world.parties (asker call) after)) same
                  ∙ set_found world.parties (asker call) party after there;
              is = record { its = idle.0; there = first_own same ∙ idle.1; deadline = idle.2; phase_is = idle.3; held = idle.4 };
            }
        | inr other ↦
            record {
              primary = first;
              there = set_unfound world.parties (asker call) 0 after other ∙ first_there;
              is = record { its = idle.0; there = idle.1; deadline = idle.2; phase_is = idle.3; held = idle.4 };
            }
      ]

  -- all but this one have their outcomes, or were lost
  own_told : IsToldBefore set world.shared.segs.asks call (asker call) after
  own_told =
      let before : made_before call (asker call) after ≡ party.asked =
      made_own call (asker call) after refl ∙ ap (λ (n : ℕ). n - 1) next ∙ one_less party.asked in
      record {
        answered = omega (
          arith,
          quiet.told (asker call) party there,
          ap (unanswered_among world.shared.segs.asks (asker call)) before,
          sends.freed,
        );
        last = λ same. sends.asked;
        fresh = λ same. omega (arith, (quiet.in_time (asker call) party there).before, next);
        in_time = record {
          before = omega (arith, (quiet.in_time (asker call) party there).before, next, sends.asked);
          still = (quiet.in_time (asker call) party there).still;
        };
      }
    where
      one_less : (n : ℕ) → n + 1 - 1 ≡ n
      one_less n = omega arith

  told_sent : (who : ℕ) (one : Party) → slice_get (slice_set world.parties (asker call) after) who ≡ Some one
      → IsToldBefore set world.shared.segs.asks call who one
  told_sent who one found =
      elim (cases_eq who (asker call)) [
        | inl own ↦
            let its = asker_after one (ap (slice_get (slice_set world.parties (asker call) after)) (sym own) ∙ found) in
            subst (λ (n : ℕ). IsToldBefore set world.shared.segs.asks call n one) (sym own)
            (subst (λ (one : Party). IsToldBefore set world.shared.segs.asks call (asker call) one) (sym its) own_told)
        | inr other ↦
            let was = quiet.told who one (sym (set_unfound world.parties (asker call) who after other) ∙ found) in
            record {
              answered =
                  omega (arith, was, ap (unanswered_among world.shared.segs.asks who) (made_other call who one other));
              last = λ own. absurd (other own);
              fresh = λ own. absurd (other own);
              in_time = quiet.in_time who one (sym (set_unfound world.parties (asker call) who after other) ∙ found);
            }
      ]

  -- where it was lost there is room for one more without an outcome
  pub may_miss : notices_lost set (asker call) party + 1 ≤ notices_lost set (asker call) after → (action : Action)
      → MayMissOne set (asker call) (number_of call) (behind action)
  may_miss room action one found =
      let before : number_of call - 1 ≡ party.asked = ap (λ (n : ℕ). n - 1) next ∙ one_less party.asked in
      let its = asker_after one found in
      subst (λ (one : Party). unanswered_among world.shared.segs.asks (asker call) (number_of call - 1) < notices_lost set (asker call) one) (sym its)
      (omega (arith, room, quiet.told (asker call) party there, ap (unanswered_among world.shared.segs.asks (asker call)) before))
    where
      one_less : (n : ℕ) → n + 1 - 1 ≡ n
      one_less n = omega arith

  doubled : (action : Action) (n : ℕ) (fresh : Bool) → copies (posted_as action 0) ≡ n
      → n + doubles set (asker call) party ≤ doubles set (asker call) after + (if fresh then 1 else 0)
      → AreDoubled set (behind action) call false fresh
  doubled action n fresh is room = record {
    asker_is = λ one found.
        (let all : count_by is_call (mail_of (behind action) 0) ≡ n =
        ap (count_by is_call) (first_mail action n is) ∙ count_alike is_call n body (copy_is_call call body copy) in
        let same : doubles set (asker call) one ≡ doubles set (asker call) after = ap (doubles set (asker call)) (asker_after one found) in
        omega (arith, all, same, room, quiet.doubled (asker call) party there));
    others = λ who one other found. quiet.doubled who one (sym (set_unfound world.parties (asker call) who after other) ∙ found);
    told = told_sent;
  }

  -- all are level
  starts_level : (action : Action) → StartsLevel set call (behind action)
  starts_level action nothing = (quiet.level nothing, still_gone call world (behind action) refl (gone nothing))

  -- it weighs little
  light : (action : Action) → measure_in (behind action) < most_servings
  light action =
      let c = coordinator action in
      let box : List Frame = box_after frame (posts action) (box_of world.shared.boxes 0) in
      let all : boxes_measure (slice_set world.shared.boxes 0 box) ≤ box_measure box =
      first_weighs world.shared.boxes box (λ who. box_empty set world who quiet.base (quiet.empty who)) in
      let one : box_measure box ≡ box_measure (replicate (copies (posts action)) frame) =
      ap (λ (box : List Frame). box_measure (box ++ replicate (copies (posts action)) frame)) first_box in
      let own : own_measure 1 (pending_at world.shared.clock) (core_in (slice_get (behind action).parties 0)) ≡ 0 =
      ap (λ (found : Option Party). own_measure 1 (pending_at world.shared.clock) (core_in found)) c.there
      ∙ ap (own_measure 1 (pending_at world.shared.clock)) c.is.there
      ∙ idle_weighs (pending_at world.shared.clock) c.is.its c.is.phase_is c.is.held in
      omega (arith, all, one, own, copies_weigh (copies (posts action)) frame, two_copies (posts action))

  comes : (action : Action) (n : ℕ) → copies (posted_as action 0) ≡ n → 0 < n
      → n + doubles set (asker call) party ≤ doubles set (asker call) after + 1 → IsAtTurn set call sent (behind action)
  comes action n is some room = record {
    base = base_behind action;
    stage = AskPhase.fresh clock (unanswered action n is) (coordinator action) quiet.growth (still_to_do call world (behind action) refl to_do)
        (subst (All (IsCopy call)) (sym (first_mail action n is)) (All-replicate (IsCopy call) n body copy))
        (omega (arith, ap length (first_mail action n is), length-replicate n body, some)) (others_empty action)
        (doubled action n true is room) (starts_level action);
    empty = others_empty action;
    ended = λ last. cc;
    light = light action;
  }

  is_gone : (action : Action) → copies (posted_as action 0) ≡ 0 → doubles set (asker call) party ≤ doubles set (asker call) after
      → MayBeTakenBack set call (behind action) → (LosesNothing set.plan → ⊥) → IsAtTurn set call sent (behind action)
  is_gone action is room back loses = record {
    base = base_behind action;
    stage = AskPhase.lost (omega (arith, clock)) (unanswered action 0 is) (coordinator action) quiet.growth (still_to_do call world (behind action) refl to_do)
        (first_mail action 0 is) (others_empty action) (doubled action 0 false is (omega (arith, room))) back
        loses;
    empty = others_empty action;
    ended = λ last. cc;
    light = light action;
  }

  -- so it is at a turn, as the plan has it
  pub just_sent : (action : Action) → doubles set (asker call) party + one_if (is_doubled action) ≤ doubles set (asker call) after
      → (is_lost action ≡ true → MayBeTakenBack set call (behind action)) → (LosesNothing set.plan → is_lost action ≡ true → ⊥)
      → IsAtTurn set call sent (behind action)
  just_sent action grows back never =
      elim (comes_as action) [
        | inl some ↦ comes action some.0 some.1 some.2 (omega (arith, grows, some.3))
        | inr none ↦ is_gone action none.0 (omega (arith, grows)) (back none.1) (λ nothing. never nothing none.1)
      ]
