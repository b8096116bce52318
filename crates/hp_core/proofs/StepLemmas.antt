-- The conditions of the coordinator's calls of the segment value, and what they come to.
use Rattle.std.proofs.Common.{◌≡◌, ℕ, ◌+◌, ◌-◌, ◌%◌, ◌<◌, ◌≤◌, Bool, true, false, List, [], ◌∷◌, Option, Some, None, refl, ap, ◌∙◌, sym, subst, arith, if◌then◌else◌}
use Rattle.std.specs.Prelude.{IsSomeAnd, slice_set, nat_le}
use Rattle.std.specs.Option.{option_and_then, option_map}
use Rattle.std.proofs.lemmas.Bool.{and_parts}
use Rattle.std.proofs.lemmas.Bool.Decides.{nat_tests}
use Rattle.hp_base.specs.declared.caught.Caught.{Caught}
use Rattle.hp_base.specs.declared.caught.Caught.TheVariants as caught
use Rattle.hp_base.specs.declared.map_answer.MapAnswer.{MapAnswer}
use Rattle.hp_base.specs.declared.row.Row.{Row}
use Rattle.hp_segs.specs.Calls.{IsFailureCause, MayAgree, MayCancel, MayDrop, MayLogFreed, MayLogStale}
use Rattle.hp_segs.specs.LaterSteps.{is_failure, noted_failure}
use Rattle.hp_segs.specs.SegsView.{SegsView, closed_number, is_member, roster_bits}
use Rattle.hp_segs.specs.Steps.{after_drop, lowest_below, lowest_member_below}
use Rattle.hp_segs.specs.declared.fault.NotAll.{NotAll}
use Rattle.hp_segs.specs.declared.growth.Growth.{Growth}
use Rattle.hp_segs.specs.declared.outcome.Cause.{Cause}
use Rattle.hp_segs.specs.declared.outcome.Cause.TheVariants.{Late}
use Rattle.hp_core.specs.Asks.{asker, is_closed, number_of}
use Rattle.hp_core.specs.Conditions.{HasSpare, MayStart}
use Rattle.hp_core.specs.Core.{is_open_for}
use Rattle.hp_core.specs.Following.{after_catching, failure_of, noted}
use Rattle.hp_core.specs.Moves.{IsCoreMove, IsRoundMove, IsTimely, is_late, notes, rounds, times_at}
use Rattle.hp_core.specs.Rounds.{has_passed}
use Rattle.hp_core.specs.declared.asked.Asked.{Asked}
use Rattle.hp_core.specs.declared.following.Failure.{Failure}
use Rattle.hp_core.specs.declared.phase.Phase.{Phase}
use Rattle.hp_core.specs.declared.phase.Phase.TheVariants.{Mapping, Waiting}
use Rattle.hp_core.specs.declared.phase.Round.{Round}
use Rattle.hp_core.specs.declared.times.Times.{Times}
use Rattle.hp_core.proofs.RoundLemmas.{growth_of, found_member}

-- what is Retiring may be dropped where an ask may be started
pub may_drop : (asked : Asked) (segs : SegsView) → MayStart asked segs → MayDrop segs
may_drop asked segs may = record { alone = may.alone; spare = omega (arith, may.spare) }

pub may_log_stale : (asked : Asked) (segs : SegsView) → MayStart asked segs → is_closed asked segs ≡ true
    → MayLogStale (asker asked) (number_of asked) segs
may_log_stale asked segs may done = record {
  participant = may.participant;
  closed = grind (arith, nat_tests);
  spare = omega (arith, may.spare);
}

above : (number done : ℕ) → nat_le number done ≡ false → done < number
above number done is = grind (arith, nat_tests)

pub may_log_freed : (asked : Asked) (segs : SegsView) → MayStart asked segs → is_closed asked segs ≡ false
    → MayLogFreed (asker asked) (number_of asked) (after_drop segs)
may_log_freed asked segs may fresh = record {
  participant = may.participant;
  above = above (number_of asked) (closed_number segs.asks (asker asked)) fresh;
  spare = omega (arith, may.spare);
}

noted_by : (cause : Cause) (segs : SegsView) (open_now : Option Growth) → option_and_then (λ growth. growth.noted) open_now ≡ Some cause
    → IsSomeAnd open_now (λ growth. IsFailureCause segs cause growth.noted)
noted_by cause segs None is = cc
noted_by cause segs (Some growth) is = subst (IsFailureCause segs cause) (sym is) refl

-- a growth may be cancelled for the failure that is noted
pub may_cancel_noted : (cause : Cause) (segs : SegsView) → noted_failure segs ≡ Some cause → HasSpare segs → MayCancel cause segs
may_cancel_noted cause segs is spare = record { caused = noted_by cause segs segs.growth is; spare = omega (arith, spare) }

late_by : (segs : SegsView) (open_now : Option Growth) (growth : Growth) (participant from to : ℕ) → open_now ≡ Some growth
    → option_and_then (λ growth. growth.noted) open_now ≡ None → is_member segs.roster participant ≡ true
    → IsSomeAnd open_now (λ growth. IsFailureCause segs (Late participant from to) growth.noted)
late_by segs None growth participant from to is unnoted member = cc
late_by segs (Some own) growth participant from to is unnoted member =
    subst (IsFailureCause segs (Late participant from to)) (sym unnoted) member

-- a growth may be cancelled for a member that is late
pub may_cancel_late : (round : Round) (acks : List ℕ) (segs : SegsView) (member : NotAll) (from to : ℕ) → is_open_for round segs.growth ≡ true
    → noted_failure segs ≡ None → lowest_member_below segs.roster acks round.generation ≡ Some member → HasSpare segs
    → MayCancel (Late member.participant from to) segs
may_cancel_late round acks segs member from to is_open unnoted lowest spare =
    let of = growth_of round segs.growth is_open in
    record {
      caused = late_by segs segs.growth of.growth member.participant from to of.its_growth unnoted
          (found_member segs.roster acks round.generation member lowest);
      spare = omega (arith, spare);
    }

agree_by : (open_now : Option Growth) (growth : Growth) → open_now ≡ Some growth → option_and_then (λ growth. growth.noted) open_now ≡ None
    → IsSomeAnd open_now (λ growth. growth.noted ≡ None)
agree_by None growth is unnoted = cc
agree_by (Some own) growth is unnoted = unnoted

-- a growth without a noted failure may be granted
pub may_agree : (round : Round) (segs : SegsView) → is_open_for round segs.growth ≡ true → noted_failure segs ≡ None → HasSpare segs
    → MayAgree segs
may_agree round segs is_open unnoted spare =
    let of = growth_of round segs.growth is_open in
    record { unnoted = agree_by segs.growth of.growth of.its_growth unnoted; spare = omega (arith, spare) }

lowest_by : (roster : List Bool) (acks : List ℕ) (generation : ℕ) (open_now : Option Growth) (growth : Growth) → open_now ≡ Some growth
    → growth.generation ≡ generation
    → option_and_then (λ growth. lowest_member_below roster acks growth.generation) open_now ≡ lowest_member_below roster acks generation
lowest_by roster acks generation open_now growth is same =
    ap (option_and_then (λ growth. lowest_member_below roster acks growth.generation)) is ∙ ap (lowest_member_below roster acks) same

-- the lowest member below the open growth is that below the generation of its round
pub lowest_of_round : (round : Round) (acks : List ℕ) (segs : SegsView) → is_open_for round segs.growth ≡ true
    → lowest_below segs acks ≡ lowest_member_below segs.roster acks round.generation
lowest_of_round round acks segs is_open =
    let of = growth_of round segs.growth is_open in
    lowest_by segs.roster acks round.generation segs.growth of.growth of.its_growth of.generation

-- the generation of the open growth is that of its round
pub generation_of_round : (round : Round) (segs : SegsView) → is_open_for round segs.growth ≡ true
    → option_map (λ growth. growth.generation) segs.growth ≡ Some round.generation
generation_of_round round segs is_open =
    let of = growth_of round segs.growth is_open in
    ap (option_map (λ growth. growth.generation)) of.its_growth ∙ ap Some of.generation

passed_by : (since deadline now : ℕ) → nat_le since now ≡ true → nat_le deadline (now - since) ≡ true → since + deadline ≤ now
passed_by since deadline now here there = grind (arith, nat_tests)

-- so the growth is cancelled for a late member
pub timely_late : (round : Round) (times : Times) (acks : List ℕ) (segs : SegsView) (member : NotAll) → is_open_for round segs.growth ≡ true
    → noted_failure segs ≡ None → lowest_member_below segs.roster acks round.generation ≡ Some member → has_passed times ≡ true
    → IsTimely times acks segs (Late member.participant times.since times.present)
timely_late round times acks segs member is_open unnoted lowest passed =
    let both = and_parts (nat_le times.since times.present) (nat_le times.deadline (times.present - times.since)) passed in
    is_late member.participant times.since times.present refl
    (record {
      unnoted = unnoted;
      acked = member.acked;
      lowest = lowest_of_round round acks segs is_open ∙ lowest;
      sent = refl;
      read = refl;
      passed = passed_by times.since times.deadline times.present both.0 both.1;
    })

failure_by : (row : Row) (call : ℕ) (got : MapAnswer) (is : Bool) (failure : Failure) → is_failure row got ≡ is
    → (if is then Some (record { row = row; call = call; got = got }) else None) ≡ Some failure
    → is_failure failure.row failure.got ≡ true
failure_by row call got true failure is found = ap (is_failed (record { row = row; call = call; got = got })) (sym found) ∙ is
  where
    is_failed : Failure → Option Failure → Bool
    is_failed other None = is_failure other.row other.got
    is_failed other (Some one) = is_failure one.row one.got
failure_by row call got false failure is found = cc

-- what is noted of a catch is a failure
pub failure_is : (caught : Caught) (failure : Failure) → failure_of caught ≡ Some failure → is_failure failure.row failure.got ≡ true
failure_is caught.Done failure found = cc
failure_is (caught.Refused row call) failure found = refused_by (record { row = row; call = call; got = _ }) failure refl found
  where
    refused_by : (one failure : Failure) → is_failure one.row one.got ≡ true → Some one ≡ Some failure → is_failure failure.row failure.got ≡ true
    refused_by one failure is found = let same : one ≡ failure = cc in subst (λ one. is_failure one.row one.got ≡ true) same is
failure_is (caught.Elsewhere row call got) failure found = failure_by row call got (is_failure row got) failure refl found

moves_behind : (times : Times) (old new : SegsView) (failure : Option Failure)
    → ((one : Failure) → failure ≡ Some one → is_failure one.row one.got ≡ true) → is_member old.roster 0 ≡ true
    → IsRoundMove times [] (noted 0 old failure) new → IsCoreMove times [] old new
moves_behind times old new None fails member move_now = rounds move_now
moves_behind times old new (Some one) fails member move_now =
    notes one.call one.row one.got (record { member = member; failure = fails one refl }) move_now

-- participant 0's own failure is noted, and the round goes on
pub catch_moves : (times : Times) (old new : SegsView) (caught : Caught) → is_member old.roster 0 ≡ true
    → IsRoundMove times [] (after_catching 0 caught old) new → IsCoreMove times [] old new
catch_moves times old new caught member move_now = moves_behind times old new (failure_of caught) (failure_is caught) member move_now

even_bits : (member : Bool) (rest : ℕ) → ((if member then 1 else 0) + (rest + rest)) - ((if member then 1 else 0) + (rest + rest)) % 2 ≡ 0 + (rest + rest)
even_bits true rest = omega arith
even_bits false rest = omega arith

-- the roster's number without the lowest bit is that of the roster without participant 0
pub bits_without_first : (roster : List Bool) → roster_bits roster - roster_bits roster % 2 ≡ roster_bits (slice_set roster 0 false)
bits_without_first [] = refl
bits_without_first (member ∷ roster) = even_bits member (roster_bits roster)

-- a move at the readings of a phase in which participant 0 is to catch up
pub catch_at : {own : ℕ} (deadline : ℕ) (phase inside : Phase) (round : Round) (now : ℕ) (segs new : SegsView)
    → IsCoreMove (record { deadline = own; since = now; present = now }) [] segs new → own ≡ deadline → inside ≡ phase → inside ≡ Mapping round
    → IsCoreMove (times_at deadline phase now) [] segs new
catch_at {own} deadline phase inside round now segs new moved same is mapping =
    subst (λ phase. IsCoreMove (times_at deadline phase now) [] segs new) (sym mapping ∙ is)
    (subst (λ deadline. IsCoreMove (record { deadline = deadline; since = now; present = now }) [] segs new) same moved)

-- and of one in which a round waits
pub poll_at : {own : ℕ} (deadline : ℕ) (phase inside : Phase) (round : Round) (since now : ℕ) (acks : List ℕ) (segs new : SegsView)
    → IsRoundMove (record { deadline = own; since = since; present = now }) acks segs new → own ≡ deadline → inside ≡ phase
    → inside ≡ Waiting round since → IsCoreMove (times_at deadline phase now) acks segs new
poll_at {own} deadline phase inside round since now acks segs new moved same is waits_now =
    subst (λ phase. IsCoreMove (times_at deadline phase now) acks segs new) (sym waits_now ∙ is)
    (subst (λ deadline. IsCoreMove (record { deadline = deadline; since = since; present = now }) acks segs new) same (rounds moved))
