-- What a member gives back in place of the segment value that it took: that value, with a failed mapping noted, or as it was.
use Rattle.std.proofs.Common.{◌≡◌, List, [], length, drop, Some, refl, ap, ◌∙◌, sym, subst, inl, arith}
use Rattle.std.proofs.lemmas.List.{append-nil, drop_all}
use Rattle.std.specs.List.{Contains}
use Rattle.std.specs.Prelude.{ℕ, Bool, true, false, None, slice_index_or, if◌then◌else◌}
use Rattle.hp_base.specs.declared.caught.Caught.{Caught}
use Rattle.hp_base.specs.declared.caught.Caught.TheVariants.{Done, Refused, Elsewhere}
use Rattle.hp_base.specs.declared.map_answer.MapAnswer.{MapAnswer}
use Rattle.hp_base.specs.declared.map_answer.MapAnswer.TheVariants as answer
use Rattle.hp_base.specs.declared.row.Row.{Row}
use Rattle.hp_base.specs.declared.limits.TheConstants.{MAX_HEAPS}
use Rattle.hp_core.specs.Following.{after_catching, noted}
use Rattle.hp_core.specs.Giving.{OnlyNotes}
use Rattle.hp_hall.proofs.Gives.{none_opens}
use Rattle.hp_hall.proofs.StandingFacts.StandingMoves.{notes_leave}
use Rattle.hp_hall.specs.Giving.{GivesFor, GivesSegments, IsGiveOf, Knows, logs}
use Rattle.hp_segs.specs.Standing.{IsArmed}
use Rattle.hp_hall.specs.Standings.{LeavesStanding}
use Rattle.hp_hall.specs.declared.kept.Kept.TheVariants.{Segments}
use Rattle.hp_segs.proofs.Moves.{moves_stay}
use Rattle.hp_segs.specs.LaterSteps.{is_failure}
use Rattle.hp_segs.specs.Moved.{is_log_call}
use Rattle.hp_segs.specs.SegsView.{SegsView}
use Rattle.hp_segs.specs.declared.outcome.AskLog.{AskLog}

-- the value as it was has nothing noted
pub as_it_was : (segs : SegsView) → OnlyNotes segs segs
as_it_was segs = record { moved = moves_stay is_log_call segs; log = refl; asks = refl; armed = refl; roster = refl }

-- and has for each heap what it had
pub leaves_itself : (segs : SegsView) → LeavesStanding segs segs
leaves_itself segs = record { standing = λ heap. refl; armed = λ who. refl; sound = λ old. old }

-- so it is where a failure is noted, or nothing
elsewhere_leaves : (participant call : ℕ) (row : Row) (got : MapAnswer) (segs : SegsView) (fails : Bool)
    → LeavesStanding segs (noted participant segs (if fails then Some (record { row = row; call = call; got = got }) else None))
elsewhere_leaves participant call row got segs true = notes_leave participant call row got segs
elsewhere_leaves participant call row got segs false = leaves_itself segs

pub catching_leaves : (participant : ℕ) (caught : Caught) (segs : SegsView) → LeavesStanding segs (after_catching participant caught segs)
catching_leaves participant Done segs = leaves_itself segs
catching_leaves participant (Refused row call) segs = notes_leave participant call row answer.Refused segs
catching_leaves participant (Elsewhere row call got) segs = elsewhere_leaves participant call row got segs (is_failure row got)

none_there : (entry : AskLog) (logged : List AskLog) → logged ≡ [] → Contains logged entry → ⊥
none_there entry logged none there =
    let below = there.1 in
    omega (arith, below, ap (λ (asks : List AskLog). length asks) none)

-- such a value may be given
pub noted_gives : (knows : Knows) (taken given : SegsView) → OnlyNotes taken given → (IsArmed taken → IsArmed given)
    → GivesSegments knows taken given
noted_gives knows taken given is of_armed = record {
  more = [];
  log = is.log ∙ sym (append-nil taken.log);
  form = logs (record {
    give = record {
      moved = record { calls = is.moved.calls; leads = is.moved.leads; only = is.moved.only; few = omega (arith, is.moved.few) };
      agreed =
          λ entry generation member there granted joined.
          absurd (none_there entry (drop (length taken.asks) given.asks)
          (drop_all (length taken.asks) given.asks (omega (arith, ap (λ (asks : List AskLog). length asks) is.asks))) there);
    };
    arms = record {
      others = λ other apart. ap (λ armed. slice_index_or armed other None) is.armed;
      for_held = λ ask armed. inl (sym (ap (λ armed. slice_index_or armed knows.who None) is.armed) ∙ armed);
      settled = λ ask armed. inl (ap (λ armed. slice_index_or armed knows.who None) is.armed ∙ armed);
      of_armed = of_armed;
      answers =
          λ armed entry ask there kept.
          absurd (none_there entry (drop (length taken.asks) given.asks)
          (drop_all (length taken.asks) given.asks (omega (arith, ap (λ (asks : List AskLog). length asks) is.asks))) there);
    };
    opens = λ armed. none_opens taken is.moved.calls is.moved.few;
  });
}

-- a segment value is given in place of the one that was taken
pub gives_in_place : (knows : Knows) (taken given : SegsView) → knows.taken MAX_HEAPS ≡ Some (Segments taken) → GivesSegments knows taken given
    → IsGiveOf knows MAX_HEAPS (Segments given)
gives_in_place knows taken given is gives = subst (λ kept. GivesFor knows kept (Segments given)) (sym is) gives
