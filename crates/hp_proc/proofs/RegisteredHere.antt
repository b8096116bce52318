-- What a line that registers a watcher or a validator, or takes one back, does in a hall: it takes no step of it.
use Rattle.std.proofs.Common.{◌≡◌, true, [], None, Result, Ok, Err, sym, subst}
use Rattle.std.specs.Prelude.{IfOk, OnErr}
use Rattle.hp_hall.proofs.HallStates.{did_same}
use Rattle.hp_hall.specs.HallState.{HallState}
use Rattle.hp_script.specs.declared.answer.Answer.{Answer}
use Rattle.hp_script.specs.declared.line.Act.{Act}
use Rattle.hp_script.specs.declared.line.Line.{Line}
use Rattle.hp_proc.specs.LineTrees.{doing_of}
use Rattle.hp_proc.specs.Courses.{HasLineRequest}
use Rattle.hp_proc.specs.LineInHall.{DoesLineHere, HaltsHere, HaltsLineHere, IsReadyAgain, IsReadyIn, did_in, moment}
use Rattle.hp_proc.specs.ParticipantView.{ParticipantView, after_registering}
use Rattle.hp_proc.specs.Registering.{IsRegistering, registering}
use Rattle.hp_proc.proofs.Halted.{halts_same}
use Rattle.hp_proc.proofs.HandFacts.Holds.{again_line}
use Rattle.hp_proc.proofs.LineEnds.{same_watched}
use Rattle.hp_proc.proofs.LineFacts.{facts_for, facts_known}
use Rattle.hp_proc.proofs.LinesOrdered.{halts_ordered}
use Rattle.hp_proc.proofs.HandFacts.OnceHeld.{once_none}
use Rattle.hp_proc.proofs.RegisteredLines.{line_registered, no_request}

-- it may do the next line
ready_registered : (deed : Act) (given : Answer) (doer : ParticipantView) (state : HallState) → IsReadyIn doer.party.me doer state
    → IsReadyIn doer.party.me (after_registering deed given doer) state
ready_registered deed given doer state ready = record {
  idle = record {
    serves = ready.idle.serves;
    declared = ready.idle.declared;
    free = ready.idle.free;
    home = ready.idle.home;
    tied = ready.idle.tied;
  };
  ready = record {
    sockets = ready.ready.sockets;
    unheld = ready.ready.unheld;
    settled = ready.ready.settled;
    counted = ready.ready.counted;
  };
  attached = ready.attached;
  named = ready.named;
  chunks = ready.chunks;
}

module _ {E : Type 0} (result : Result Answer E) (doer after : ParticipantView) (hall : HallState) (line : Line) (deed : Act) where
  pub here_registered : line.act ≡ deed → IsRegistering deed → doer.context.standing.attached ≡ true
      → IfOk result (λ given. given ≡ registering doer.context.standing.watchers doer.context.standing.validators deed)
      → IfOk result (λ given. after ≡ after_registering deed given doer)
      → IfOk result (λ given. DoesLineHere doer.party.me doer after hall hall line given)
  here_registered its_act is attached given_is left_is = by_result result given_is left_is
    where
      by_result : (result : Result Answer E)
          → IfOk result (λ given. given ≡ registering doer.context.standing.watchers doer.context.standing.validators deed)
          → IfOk result (λ given. after ≡ after_registering deed given doer)
          → IfOk result (λ given. DoesLineHere doer.party.me doer after hall hall line given)
      by_result (Ok given) given_is left_is =
          let me = doer.party.me in
          subst (λ (after : ParticipantView). DoesLineHere me doer after hall hall line given) (sym left_is)
          (line_registered hall.count (did_in me hall hall) line deed given doer (hall.part me) (hall.seen me) (hall.heard me) (did_same me hall)
          its_act is attached given_is)
      by_result (Err stopped) given_is left_is = tt

  -- where memory was wanting it did nothing
  pub here_halts : line.act ≡ deed → IsRegistering deed → OnErr result (after ≡ doer)
      → OnErr result (HaltsLineHere doer.party.me doer after hall hall line)
  here_halts its_act is err = by_result result err
    where
      nothing : HaltsLineHere doer.party.me doer doer hall hall line
      nothing =
          let facts = facts_for doer.party.socket doer.context line.act None in
          let halts : HaltsHere [] doer.party.me doer doer hall hall (doing_of line line.act facts) =
          halts_same [] hall.count (did_in doer.party.me hall hall) (doing_of line line.act facts) (moment doer.party.me doer hall)
          (did_same doer.party.me hall) in
          record {
            facts = facts;
            known = facts_known doer.party.socket doer.context line None
                (subst (λ (deed : Act). HasLineRequest deed None) (sym its_act) (no_request deed is));
            heaps = [];
            once = once_none;
            halts = halts;
            order = halts_ordered hall.count halts.acts;
          }

      by_result : (result : Result Answer E) → OnErr result (after ≡ doer)
          → OnErr result (HaltsLineHere doer.party.me doer after hall hall line)
      by_result (Ok given) err = tt
      by_result (Err stopped) err =
          subst (λ (after : ParticipantView). HaltsLineHere doer.party.me doer after hall hall line) (sym err) nothing

  pub here_again : IfOk result (λ given. after ≡ after_registering deed given doer) → OnErr result (after ≡ doer)
      → IsReadyIn doer.party.me doer hall → IsReadyAgain doer.party.me doer after hall
  here_again left_is err ready = by_result result left_is err
    where
      by_result : (result : Result Answer E) → IfOk result (λ given. after ≡ after_registering deed given doer) → OnErr result (after ≡ doer)
          → IsReadyAgain doer.party.me doer after hall
      by_result (Ok given) left_is err =
          subst (λ (after : ParticipantView). IsReadyAgain doer.party.me doer after hall) (sym left_is)
          (record { same = same_watched deed given doer.party; ready = ready_registered deed given doer hall ready })
      by_result (Err stopped) left_is err =
          subst (λ (after : ParticipantView). IsReadyAgain doer.party.me doer after hall) (sym err) (again_line doer ready)
