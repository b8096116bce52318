-- What a step of the coordinator leaves may be given back: the rule "Coordinating" of docs/PARTICIPANTS.md.
use Rattle.std.proofs.Common.{◌≡◌, ℕ, ◌+◌, ◌<◌, ◌≤◌, true, List, [], ◌∷◌, ◌++◌, length, drop, Contains, inl, inr, refl, ap, sym, ◌∙◌, subst, arith}
use Rattle.std.proofs.lemmas.List.{drop_at}
use Rattle.std.proofs.lemmas.List.Elements.{Contains-append_cases}
use Rattle.std.proofs.lemmas.Option.{same_Some}
use Rattle.std.specs.Prelude.{Option, Result, Ok, Err, IfOk, OnErr, None, Some, slice_index_or}
use Rattle.std.specs.Result.{result_ok}
use Rattle.hp_hall.proofs.StandingFacts.StandingMoves.{log_calls_leave}
use Rattle.hp_hall.specs.Giving.{GivesSegments, Knows, logs}
use Rattle.hp_segs.specs.Standing.{KeepsArmed}
use Rattle.hp_hall.specs.Standings.{LeavesStanding}
use Rattle.hp_segs.specs.GrowthLaws.{HasArmedGrowth}
use Rattle.hp_segs.specs.LaterSteps.{armed_ask}
use Rattle.hp_segs.specs.Moved.{IsMovedBy, Reserve, is_log_call}
use Rattle.hp_segs.specs.SegsView.{SegsView, is_member}
use Rattle.hp_segs.specs.Sound.{IsSound}
use Rattle.hp_segs.specs.declared.outcome.AskLog.{AskLog}
use Rattle.hp_segs.proofs.Appending.{moves_append}
use Rattle.hp_segs.proofs.Moves.{calls_keep, calls_move}
use Rattle.hp_core.specs.Giving.{AnswersArmed, HasAcknowledged, StepGives}
use Rattle.hp_core.specs.declared.event.CoreEvent.{CoreEvent}
use Rattle.hp_core.specs.declared.event.CoreEvent.TheVariants.{Grow, Shrink, SelfMapped, Poll}
use Rattle.hp_core.specs.Core.{Core, IsStepped}
use Rattle.hp_core.specs.Judging.{IsSteppedBy, judged_at}
use Rattle.hp_core.specs.Stepping.{stepped}
use Rattle.hp_core.specs.declared.out.Out.{Out}
use Rattle.hp_core.proofs.AnsweredSteps.{steps_answer_armed}
use Rattle.hp_core.proofs.ArmedSteps.{steps_leave_armed}
use Rattle.hp_core.proofs.GivingLemmas.{member_within}
use Rattle.hp_core.proofs.GivingSteps.{steps_give}
use Rattle.hp_serve.proofs.AskingFacts.ArmedMoves.{MovesArmed, after_none}
use Rattle.hp_serve.specs.Coordinating.{IsHanded, IsTrueOf, handed, no_room, with_room}
use Rattle.hp_serve.specs.Denials.{Denials}
use Rattle.hp_serve.specs.Serving.{gives_segments}

-- places for a step are made by a call that logs nothing
room_moves : (segs : SegsView) → IsMovedBy is_log_call 0 segs (with_room segs)
room_moves segs = calls_move is_log_call (Reserve (length segs.retiring + 3)) segs refl tt

-- whom an event shows to have acknowledged a record, the giver knows of
shown_is_known : (noted : ℕ → ℕ) (event : CoreEvent) (segs : SegsView) (generation member : ℕ) → member < 16
    → IsTrueOf noted (length segs.log) event → HasAcknowledged event segs generation member → generation ≤ noted member
shown_is_known noted (Grow ask) segs generation member few known shown = absurd shown
shown_is_known noted (Shrink from number) segs generation member few known shown = absurd shown
shown_is_known noted (SelfMapped caught now) segs generation member few known shown =
    subst (λ who. generation ≤ noted who) (sym shown.own) (omega (arith, shown.logged, known shown.mapped))
shown_is_known noted (Poll now acks) segs generation member few known shown = omega (arith, shown, known member few)

-- the outcomes keep asks of the armed where those that came do
kept_armed : (taken given : SegsView) (outcomes : List AskLog) → given.asks ≡ taken.asks ++ outcomes → given.armed ≡ taken.armed
    → KeepsArmed taken → AnswersArmed taken given → KeepsArmed given
kept_armed taken given outcomes asks_are armed_are old answers = λ entry ask armed there kept is number.
    let was : armed_ask taken entry.from ≡ Some armed = sym (ap (λ armed. slice_index_or armed entry.from None) armed_are) ∙ is in
    let behind : drop (length taken.asks) given.asks ≡ outcomes =
    ap (drop (length taken.asks)) asks_are ∙ drop_at taken.asks outcomes (length taken.asks) refl in
    elim (Contains-append_cases taken.asks outcomes entry (subst (λ asks. Contains asks entry) asks_are there)) [
      | inl before ↦ old entry ask armed before kept was number
      | inr came ↦
          same_Some armed ask (sym was ∙ answers entry ask (subst (λ asks. Contains asks entry) (sym behind) came) kept)
    ]

-- what the value has for each heap stays over such calls that log, and so does who is armed
leaves_standing : (taken given : SegsView) → IsSound taken → IsMovedBy is_log_call 1 taken given → given.armed ≡ taken.armed
    → (HasArmedGrowth taken → HasArmedGrowth given) → (HasArmedGrowth taken → AnswersArmed taken given) → LeavesStanding taken given
leaves_standing taken given sound moved armed_are grows answers =
    let appends = moves_append is_log_call 1 taken given moved in
    record {
      standing = λ heap. log_calls_leave 1 taken given sound moved heap;
      armed = λ who. ap (λ armed. slice_index_or armed who None) armed_are;
      sound = λ old. record {
        growth = grows old.growth;
        kept = kept_armed taken given appends.outcomes appends.asks armed_are old.kept (answers old.growth);
      };
    }

-- what a step with room leaves may be given back for the value that was taken
step_is_given : (knows : Knows) (event : CoreEvent) (taken given : SegsView) → IsSound taken → MovesArmed taken taken given
    → StepGives event (with_room taken) given → LeavesStanding taken given → (HasArmedGrowth taken → AnswersArmed taken given)
    → IsTrueOf knows.noted (length taken.log) event → GivesSegments knows taken given
step_is_given knows event taken given sound moves gives leaves answers known =
    let appends = moves_append is_log_call 1 taken given moves.moved in
    record {
      more = appends.records;
      log = appends.log;
      form = logs (record {
        give = record {
          moved = moves.moved;
          agreed = λ entry generation member came granted is_in.
              let was_in : is_member taken.roster member ≡ true = sym (ap (λ roster. is_member roster member) gives.roster) ∙ is_in in
              shown_is_known knows.noted event (with_room taken) generation member
              (omega (arith, member_within taken.roster member was_in, sound.places.roster_places)) known
              (gives.agreed entry generation member came granted was_in);
        };
        arms = record {
          others = λ other not_me. leaves.armed other;
          for_held = λ ask armed. inl (sym (leaves.armed knows.who) ∙ armed);
          settled = λ ask armed. inl (leaves.armed knows.who ∙ armed);
          of_armed = leaves.sound;
          answers = λ armed. answers armed.growth;
        };
        opens = λ armed. moves.opens (leaves.sound armed).growth gives.armed;
      });
    }

-- what a step left, with places made for it
record IsLeftBy (event : CoreEvent) (taken given : SegsView) : Type 0 where
  moves : MovesArmed taken taken given
  gives : StepGives event (with_room taken) given
  leaves : LeavesStanding taken given
  answers : HasArmedGrowth taken → AnswersArmed taken given

left_by_step : (denied : Option (List ℕ × ℕ)) (event : CoreEvent) (core : Core) (taken given : SegsView) → IsSound taken
    → MovesArmed taken (with_room taken) given
    → given ≡ (stepped (λ socket total. denied) event core (with_room taken)).segs → IsLeftBy event taken given
left_by_step denied event core taken given sound moved is =
    let roomy = with_room taken in
    let sound_too : IsSound roomy = calls_keep (Reserve (length taken.retiring + 3)) taken sound tt in
    let moves : MovesArmed taken taken given = after_none taken taken roomy given (room_moves taken) moved in
    let gives = subst (StepGives event roomy) (sym is) (steps_give (λ socket total. denied) event core roomy sound_too) in
    let answers : HasArmedGrowth taken → AnswersArmed taken given =
    λ old. subst (AnswersArmed roomy) (sym is) (steps_answer_armed (λ socket total. denied) event core roomy old) in
    record {
      moves = moves;
      gives = gives;
      leaves = leaves_standing taken given sound moves.moved gives.armed
          (λ old. subst HasArmedGrowth (sym is) (steps_leave_armed (λ socket total. denied) event core roomy old)) answers;
      answers = answers;
    }

-- so it is with what a step left
left_by : (denied : Option (List ℕ × ℕ)) (event : CoreEvent) (core after : Core) (taken roomy given : SegsView) (out : Out)
    → roomy ≡ with_room taken
    → IsSound taken → MovesArmed taken roomy given → IsStepped after given out (stepped (λ socket total. denied) event core roomy)
    → IsLeftBy event taken given
left_by denied event core after taken roomy given out has_room sound moved is =
    left_by_step denied event core taken given sound (subst (λ roomy. MovesArmed taken roomy given) has_room moved)
    (is.segs_is ∙ ap (λ roomy. (stepped (λ socket total. denied) event core roomy).segs) has_room)

pub given_by_step : (denied : Option (List ℕ × ℕ)) (knows : Knows) (event : CoreEvent) (core after : Core)
    (taken roomy given : SegsView) (out : Out) → roomy ≡ with_room taken
    → IsSound taken → MovesArmed taken roomy given → IsStepped after given out (stepped (λ socket total. denied) event core roomy)
    → IsTrueOf knows.noted (length taken.log) event → GivesSegments knows taken given
given_by_step denied knows event core after taken roomy given out has_room sound moved is known =
    let left = left_by denied event core after taken roomy given out has_room sound moved is in
    step_is_given knows event taken given sound left.moves left.gives left.leaves left.answers known

pub step_leaves : (denied : Option (List ℕ × ℕ)) (event : CoreEvent) (core after : Core) (taken roomy given : SegsView) (out : Out)
    → roomy ≡ with_room taken
    → IsSound taken → MovesArmed taken roomy given → IsStepped after given out (stepped (λ socket total. denied) event core roomy)
    → LeavesStanding taken given
step_leaves denied event core after taken roomy given out has_room sound moved is =
    let left = left_by denied event core after taken roomy given out has_room sound moved is in
    left.leaves

pub step_roster : (denied : Option (List ℕ × ℕ)) (event : CoreEvent) (core after : Core) (taken roomy given : SegsView) (out : Out)
    → roomy ≡ with_room taken
    → IsSound taken → MovesArmed taken roomy given → IsStepped after given out (stepped (λ socket total. denied) event core roomy)
    → given.roster ≡ taken.roster
step_roster denied event core after taken roomy given out has_room sound moved is =
    let left = left_by denied event core after taken roomy given out has_room sound moved is in
    left.gives.roster

-- what the judge may answer, and a step by that, with room
pub stepped_with_room : (denies : Denials) (event : CoreEvent) (core after : Core) (taken roomy given : SegsView) (out : Out)
    → roomy ≡ with_room taken
    → IsSteppedBy denies (judged_at event core roomy) after given out (λ denial. stepped denial event core roomy)
    → IsSteppedBy denies (judged_at event core (with_room taken)) after given out (λ denial. stepped denial event core (with_room taken))
stepped_with_room denies event core after taken roomy given out has_room is =
    subst (λ roomy. IsSteppedBy denies (judged_at event core roomy) after given out (λ denial. stepped denial event core roomy)) has_room is

-- what became of an event that was handed over
pub handed_by : {E : Type 0} (denies : Denials) (event : CoreEvent) (core after : Core) (taken given : SegsView) (result : Result Out E)
    → IfOk result (λ out. IsSteppedBy denies (judged_at event core (with_room taken)) after given out
    (λ denial. stepped denial event core (with_room taken)))
    → OnErr result ((after ≡ core) × (given ≡ taken))
    → IsHanded denies event core after taken (gives_segments given ∷ []) (result_ok result)
handed_by denies event core after taken given (Ok out) ok err =
    handed ok.0 ok.1 (ap (λ segs. gives_segments segs ∷ []) ok.2.segs_is) ok.2.core_is (ap Some ok.2.out_is)
handed_by denies event core after taken given (Err refusal) ok err = no_room (ap (λ segs. gives_segments segs ∷ []) err.1) err.0 refl
