-- A quiet world stays quiet where states of rows alone change, and all is quiet again where an ask that was lost is taken back; nothing more is
-- owed then.
use Rattle.std.proofs.Common.{◌≡◌, ◌∙◌, ℕ, ◌+◌, ◌-◌, ◌*◌, ◌<◌, ◌≤◌, ◌==◌, Bool, true, false, ◌&&◌, ◌||◌, eq-eqb, max, List, [], ◌∷◌, ◌++◌, length, Option, Some, None, inl, inr, refl, sym, ap, subst, arith}
use Rattle.std.specs.Prelude.{slice_get}
use Rattle.std.specs.List.{All, list_any}
use Rattle.std.specs.Option.{option_and_then}
use Rattle.std.proofs.lemmas.Bool.{and_from, and_parts, cases_eq, cond_both, eqb-true, or_from, or_right}
use Rattle.std.proofs.lemmas.List.Folds.{list_any-append}
use Rattle.std.proofs.lemmas.List.Elements.{All-push, Contains-push_cases}
use Rattle.hp_base.specs.declared.plan_entry.MsgKind.TheVariants as message
use Rattle.hp_core.specs.declared.asked.Asked.TheVariants as want
use Rattle.hp_segs.specs.Standing.{IsArmed}
use Rattle.hp_maps.specs.MapsView.{calls_of}
use Rattle.hp_segs.specs.LaterSteps.{has_failed_from}
use Rattle.hp_segs.specs.SegsView.{SegsView, closed_number, granted_by, grants_or_refuses, is_member, is_outcome_for}
use Rattle.hp_segs.specs.Sound.{IsSound}
use Rattle.hp_segs.specs.declared.ask.Ask.{Ask}
use Rattle.hp_segs.specs.declared.growth.Growth.{Growth}
use Rattle.hp_segs.specs.declared.outcome.AskLog.{AskLog}
use Rattle.hp_segs.specs.declared.outcome.Cause.{Cause}
use Rattle.hp_segs.specs.declared.outcome.Cause.TheVariants.{Withdrawn}
use Rattle.hp_segs.proofs.AskFacts.ClosedLemmas.{and_false, closed_push}
use Rattle.hp_serve.specs.Party.{Party}
use Rattle.thm_causes.specs.Counting.{LosesNothing, lost_among}
use Rattle.thm_causes.specs.RoundTrip.{HaveCaughtUp, IsBase, IsExcused, IsInPlace, IsInTime, Setting, RunState, number_of_party, notices_lost, made_before}
use Rattle.thm_causes.specs.Quiet.{IsQuietOwing, IsQuietState, IsQuietBut}
use Rattle.thm_causes.specs.Failing.{AreGrantsWithin}
use Rattle.thm_causes.specs.Outcomes.{IsApart, IsCauseApart, late_outcomes, stale_outcomes, unanswered_among, withdrawn_outcomes}
use Rattle.thm_causes.specs.Shared.{with_segs}
use Rattle.thm_causes.specs.Stages.{world_with}
use Rattle.thm_causes.proofs.AskStages.AsksClaims.{HasOutcomes, IsBackIn, taken_back}
use Rattle.thm_causes.proofs.LineFacts.LinesQuiet.{quiet_stays}
use Rattle.thm_causes.proofs.OutcomesMore.{failed_push, late_push, stale_push, withdrawn_push}
use Rattle.thm_causes.proofs.Said.{set_long, set_same}
use Rattle.thm_causes.proofs.CountingLemmas.{one_if}
use Rattle.thm_causes.proofs.Told.{comes_one, in_time_on, unanswered_heard, unanswered_more, made_other, made_own}

module _ (set : Setting) (me : ℕ) (world : RunState) (segs : SegsView) (party : Party) where
  -- the segment value has come to another
  abbrev pub later : RunState
  later = world_with (with_segs segs world.shared) world.mail me party world

  -- all members have taken in all records where neither the log nor the roster is another
  level_kept : (LosesNothing set.plan → HaveCaughtUp world) → segs.log ≡ world.shared.segs.log → segs.roster ≡ world.shared.segs.roster
      → LosesNothing set.plan → HaveCaughtUp later
  level_kept level log roster loses who member =
      level loses who (sym (ap (λ (roster : List Bool). is_member roster who) roster) ∙ member) ∙ sym (ap length log)

module _ (set : Setting) (me : ℕ) (world : RunState) (segs : SegsView) (party : Party) (quiet : IsQuietState set world)
    (there : slice_get world.parties me ≡ Some party) (sound : IsSound segs) (armed : IsArmed segs) where
  -- of which states of rows are others, and armed asks
  pub quiet_claimed : HasOutcomes world.shared.segs segs → IsQuietState set (later set me world segs party)
  quiet_claimed same =
      let place = quiet.base.places me party there in
      quiet_stays set me world (with_segs segs world.shared) party party quiet there
      (record { me = refl; deadline = refl; plan = refl; core = refl; asked = refl; sent = refl; calls = omega arith })
      (record {
        boxes = refl;
        numbers = refl;
        log = same.log;
        asks = same.asks;
        growth = same.growth;
        others = λ who other. refl;
        members = λ who other. ap (λ (roster : List Bool). is_member roster who) same.roster;
        sound = sound;
        armed = armed;
      })
      (record {
        joined = ap (λ (roster : List Bool). is_member roster me) same.roster ∙ place.joined;
        number = place.number;
        within = omega (arith, place.within, ap length same.log);
        granted = λ joined. subst (AreGrantsWithin (number_of_party world me)) (sym same.asks) (place.granted joined);
        level = λ loses joined.
            level_kept set me world segs party quiet.level same.log same.roster loses me
            (ap (λ (roster : List Bool). is_member roster me) same.roster ∙ place.joined ∙ joined);
      })

  -- so nothing more is owed
  pub owing_claimed : (owes : Bool) → (LosesNothing set.plan → owes ≡ false → world.shared.segs.retiring ≡ [])
      → HasOutcomes world.shared.segs segs → IsQuietOwing set owes (later set me world segs party)
  owing_claimed owes gone same = record { quiet = quiet_claimed same; gone = λ loses none. same.retiring ∙ gone loses none }

-- an ask that was lost is taken back, once three deadlines have passed
module _ (set : Setting) (ask : Ask) (world : RunState) (segs : SegsView) (party : Party) (quiet : IsQuietBut set (want.Grow ask) world)
    (there : slice_get world.parties ask.from ≡ Some party) (sound : IsSound segs) (armed : IsArmed segs)
    (since now : ℕ) (log : segs.log ≡ world.shared.segs.log) (growth : segs.growth ≡ world.shared.segs.growth)
    (roster : segs.roster ≡ world.shared.segs.roster)
    (asks : segs.asks ≡ world.shared.segs.asks ++ taken_back ask.from ask.number since now world.shared.segs ∷ [])
    (room : withdrawn_outcomes ask.from world.shared.segs.asks < lost_among set.plan message.Alloc ask.from party.sent.allocs)
    (asked : party.asked ≡ ask.number) (on_time : now ≡ since + 3 * set.deadline) where
  abbrev me : ℕ
  me = ask.from

  abbrev number : ℕ
  number = ask.number

  abbrev behind : RunState
  behind = later set me world segs party

  abbrev before : List AskLog
  before = world.shared.segs.asks

  abbrev entry : AskLog
  entry = taken_back me number since now world.shared.segs

  -- who is there
  was_there : (who : ℕ) (one : Party) → slice_get behind.parties who ≡ Some one → slice_get world.parties who ≡ Some one
  was_there who one found =
      sym (ap (λ (parties : List Party). slice_get parties who) (set_same world.parties me party there)) ∙ found

  own_party : (who : ℕ) (one : Party) → slice_get world.parties who ≡ Some one → me ≡ who → one ≡ party
  own_party who one found own =
      let same : Some one ≡ Some party = sym found ∙ sym (ap (slice_get world.parties) own) ∙ there in
      cc

  within_still : (who n : ℕ) → AreGrantsWithin n before → AreGrantsWithin n segs.asks
  within_still who n granted =
      subst (AreGrantsWithin n) (sym asks)
      (λ other generation among is.
      elim (Contains-push_cases before entry other among) [
        | inl old ↦ granted other generation old is
        | inr last ↦
            let never : None ≡ Some generation = ap (λ (entry : AskLog). granted_by entry.outcome) last ∙ is in
            absurd (cc never)
      ])

  closed_still : (who : ℕ) (one : Party) → slice_get world.parties who ≡ Some one → closed_number segs.asks who ≤ one.asked
  closed_still who one found =
      let was = (quiet.base.places who one found).closed in
      subst (λ (asks : List AskLog). closed_number asks who ≤ one.asked) (sym asks)
      (subst (λ n. n ≤ one.asked) (sym (closed_push before entry who))
      (cond_both ((me == who) && true) (max (closed_number before who) number) (closed_number before who) (λ n. n ≤ one.asked)
      (λ counts.
      let own = eqb-true me who (and_parts (me == who) true counts).0 in
      let same : one.asked ≡ party.asked = ap (λ (one : Party). one.asked) (own_party who one found own) in
      omega (arith, was, asked, same))
      (λ other. was)))

  failed_still : (who call : ℕ) → has_failed_from before who call ≡ false → has_failed_from segs.asks who call ≡ false
  failed_still who call none =
      ap (λ (asks : List AskLog). has_failed_from asks who call) asks
      ∙ failed_push before entry who call
      ∙ or_from (has_failed_from before who call) false none refl

  place_still : (who : ℕ) (one : Party) → slice_get world.parties who ≡ Some one → IsInPlace set behind who one
  place_still who one found =
      let place = quiet.base.places who one found in
      record {
        me = place.me;
        deadline = place.deadline;
        plan = place.plan;
        joined = ap (λ (roster : List Bool). is_member roster who) roster ∙ place.joined;
        number = place.number;
        within = omega (arith, place.within, ap length log);
        granted = λ joined. within_still who (number_of_party world who) (place.granted joined);
        failed = failed_still who (calls_of one.maps + 1) place.failed;
        closed = closed_still who one found;
        follower = place.follower;
        syncs = place.syncs;
      }

  late_still : (who : ℕ) → late_outcomes who segs.asks ≡ late_outcomes who before
  late_still who = omega (arith, ap (late_outcomes who) asks, late_push before entry who)

  stale_still : (who : ℕ) → stale_outcomes who segs.asks ≡ stale_outcomes who before
  stale_still who =
      let none : one_if ((me == who) && false) ≡ one_if false = ap one_if (and_false (me == who)) in
      omega (arith, ap (stale_outcomes who) asks, stale_push before entry who, none)

  withdrawn_still : (who : ℕ) (one : Party) → slice_get world.parties who ≡ Some one
      → withdrawn_outcomes who before ≤ lost_among set.plan message.Alloc who one.sent.allocs
      → withdrawn_outcomes who segs.asks ≤ lost_among set.plan message.Alloc who one.sent.allocs
  withdrawn_still who one found was =
      subst (λ (n : ℕ). n ≤ lost_among set.plan message.Alloc who one.sent.allocs)
      (sym (ap (withdrawn_outcomes who) asks ∙ withdrawn_push before entry who))
      (cond_both ((me == who) && true) 1 0
      (λ (n : ℕ). withdrawn_outcomes who before + n ≤ lost_among set.plan message.Alloc who one.sent.allocs)
      (λ counts.
      let own = eqb-true me who (and_parts (me == who) true counts).0 in
      let more : withdrawn_outcomes who before < lost_among set.plan message.Alloc who party.sent.allocs =
      subst (λ (n : ℕ). withdrawn_outcomes n before < lost_among set.plan message.Alloc n party.sent.allocs) own room in
      let same : lost_among set.plan message.Alloc who one.sent.allocs ≡ lost_among set.plan message.Alloc who party.sent.allocs =
      ap (λ (one : Party). lost_among set.plan message.Alloc who one.sent.allocs) (own_party who one found own) in
      omega (arith, more, same))
      (λ other. omega (arith, was)))

  -- what had an outcome has one
  keeps_still : (who n : ℕ) → unanswered_among segs.asks who n ≤ unanswered_among before who n
  keeps_still who n =
      subst (λ (asks : List AskLog). unanswered_among asks who n ≤ unanswered_among before who n) (sym asks)
      (unanswered_more who before (entry ∷ []) n)

  its_outcome : list_any (is_outcome_for me number) (entry ∷ []) ≡ true
  its_outcome =
      ap (λ (b : Bool). b || false)
      (and_from (me == me) _ (eq-eqb me me refl) (and_from (number == number) true (eq-eqb number number refl) refl))

  is_heard : list_any (is_outcome_for me number) segs.asks ≡ true
  is_heard =
      ap (list_any (is_outcome_for me number)) asks
      ∙ list_any-append (is_outcome_for me number) before (entry ∷ [])
      ∙ or_right (list_any (is_outcome_for me number) before) _ its_outcome

  own_told : unanswered_among segs.asks me number ≤ notices_lost set me party
  own_told =
      let told = (quiet.told me party there).answered in
      let made : unanswered_among before me (made_before (want.Grow ask) me party) ≡ unanswered_among before me (number - 1) =
      ap (unanswered_among before me) (made_own (want.Grow ask) me party refl) in
      omega (arith, told, made, keeps_still me (number - 1), unanswered_heard segs.asks me number is_heard)

  told_still : (who : ℕ) (one : Party) → slice_get behind.parties who ≡ Some one
      → unanswered_among segs.asks who one.asked ≤ notices_lost set who one
  told_still who one found =
      elim (cases_eq who me) [
        | inl own ↦
            let its = own_party who one (was_there who one found) (sym own) in
            subst (λ (one : Party). unanswered_among segs.asks who one.asked ≤ notices_lost set who one) (sym its)
            (subst (λ (n : ℕ). unanswered_among segs.asks n party.asked ≤ notices_lost set n party) (sym own)
            (subst (λ (n : ℕ). unanswered_among segs.asks me n ≤ notices_lost set me party) (sym asked) own_told))
        | inr other ↦
            let told = (quiet.told who one (was_there who one found)).answered in
            let made : unanswered_among before who (made_before (want.Grow ask) who one) ≡ unanswered_among before who one.asked =
            ap (unanswered_among before who) (made_other (want.Grow ask) who one other) in
            omega (arith, told, made, keeps_still who one.asked)
      ]

  -- what came is its own
  in_time_still : (who : ℕ) (one : Party) → slice_get behind.parties who ≡ Some one → IsInTime set segs.asks who one.asked
  in_time_still who one found =
      let told = quiet.told who one (was_there who one found) in
      in_time_on set before segs.asks (want.Grow ask) who one.asked
      (comes_one (want.Grow ask) who before segs.asks entry asks (inr (refl, refl))) told.fresh told.in_time

  excused_still : (who : ℕ) (first one : Party) → slice_get behind.parties 0 ≡ Some first → slice_get behind.parties who ≡ Some one
      → IsExcused set behind who first one
  excused_still who first one top found =
      let was = quiet.base.excused who first one (was_there 0 first top) (was_there who one found) in
      record {
        late = omega (arith, was.late, late_still who);
        withdrawn = withdrawn_still who one (was_there who one found) was.withdrawn;
      }

  -- it is taken back by readings that are three deadlines apart
  entry_apart : IsApart set.deadline entry
  entry_apart cause is = let same : Withdrawn since now ≡ cause = cc in subst (IsCauseApart set.deadline) same on_time

  none_noted : (its : Option Growth) (cause : Cause) → its ≡ None → option_and_then (λ growth. growth.noted) its ≡ Some cause → ⊥
  none_noted None cause none is = cc
  none_noted (Some growth) cause none is = cc

  base_still : IsBase set behind
  base_still = record {
    boxes = quiet.base.boxes;
    numbers = quiet.base.numbers;
    mail = quiet.base.mail;
    parties = set_long world.parties me party ∙ quiet.base.parties;
    said = quiet.base.said;
    sound = sound;
    armed = armed;
    primary = sound.places.primary;
    declared = λ who member. quiet.base.declared who (sym (ap (λ (roster : List Bool). is_member roster who) roster) ∙ member);
    places = λ who one found. place_still who one (was_there who one found);
    noted = λ cause is. absurd (none_noted segs.growth cause (growth ∙ quiet.growth) is);
    excused = excused_still;
    apart =
        subst (All (IsApart set.deadline)) (sym asks) (All-push (IsApart set.deadline) before entry quiet.base.apart entry_apart);
  }

  pub quiet_back : IsQuietState set behind
  quiet_back = record {
    base = base_still;
    idle = λ primary found. quiet.idle primary (was_there 0 primary found);
    growth = growth ∙ quiet.growth;
    empty = quiet.empty;
    doubled = λ who one found. omega (arith, quiet.doubled who one (was_there who one found), stale_still who);
    told = told_still;
    in_time = in_time_still;
    level = level_kept set me world segs party quiet.level log roster;
  }

-- an ask was lost, and nothing else is under way: there is room for one more that is taken back, and three deadlines have passed
pub record WasMissed (set : Setting) (ask : Ask) (world : RunState) (party : Party) (since now : ℕ) : Type 0 where
  pub quiet : IsQuietBut set (want.Grow ask) world
  pub asked : party.asked ≡ ask.number
  pub room : withdrawn_outcomes ask.from world.shared.segs.asks < lost_among set.plan message.Alloc ask.from party.sent.allocs
  pub on_time : now ≡ since + 3 * set.deadline
  pub loses : LosesNothing set.plan → ⊥

-- so nothing is owed, whether there was an answer or not: an ask that has one is claimed, one that has none is taken back
module _ (set : Setting) (ask : Ask) (world : RunState) (segs : SegsView) (party : Party) (there : slice_get world.parties ask.from ≡ Some party)
    (sound : IsSound segs) (armed : IsArmed segs) (since now : ℕ) where
  pub owing_settled : IsBackIn ask.from ask.number since now world.shared.segs segs
      → (list_any (grants_or_refuses ask.from ask.number) world.shared.segs.asks ≡ true → IsQuietOwing set false world)
      → (list_any (grants_or_refuses ask.from ask.number) world.shared.segs.asks ≡ false → WasMissed set ask world party since now)
      → IsQuietOwing set false (later set ask.from world segs party)
  owing_settled (IsBackIn.answered stands same) answered lost =
      let owing = answered stands in
      owing_claimed set ask.from world segs party owing.quiet there sound armed false owing.gone same
  owing_settled (IsBackIn.back none log growth roster asks retiring) answered lost =
      let was = lost none in
      record {
        quiet = quiet_back set ask world segs party was.quiet there sound armed since now log growth roster asks was.room was.asked was.on_time;
        gone = λ loses owed. absurd (was.loses loses);
      }
