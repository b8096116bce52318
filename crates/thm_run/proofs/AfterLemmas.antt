-- Records and outcomes only come after the others, whatever participants do in a run.
use Rattle.std.proofs.Common.{◌≡◌, ◌∙◌, ℕ, ◌≤◌, List, [], ◌∷◌, ◌++◌, length, map, replicate, Option, inl, inr, refl, ap, sym, arith, append-nil, append_assoc, length-append, None}
use Rattle.std.proofs.lemmas.List.Elements.{All-cons, All-contains, All-nil, Contains-append_cases}
use Rattle.hp_heap.proofs.AllocFacts.ChoiceLaw.{Contains-none}
use Rattle.hp_base.specs.declared.caught.Caught.{Caught}
use Rattle.hp_base.specs.declared.caught.Caught.TheVariants as caught
use Rattle.hp_core.specs.Core.{Core}
use Rattle.hp_core.specs.Following.{after_catching}
use Rattle.hp_core.specs.Stepping.{caught_in, stepped}
use Rattle.hp_core.specs.declared.asked.Asked.TheVariants as want
use Rattle.hp_core.specs.declared.event.CoreEvent.{CoreEvent}
use Rattle.hp_core.specs.declared.event.CoreEvent.TheVariants.{Grow, Poll, SelfMapped, Shrink}
use Rattle.hp_core.proofs.StepWalk.{HoldsAlone, HoldsInRound, HoldsStarted, came_holds, caught_holds, poll_holds}
use Rattle.hp_log.specs.declared.log_record.LogRecord.{LogRecord}
use Rattle.hp_log.specs.declared.log_record.LogRecord.TheVariants.{Add, Drop}
use Rattle.hp_segs.specs.LaterSteps.{after_withdraw}
use Rattle.hp_segs.specs.SegsView.{SegsView}
use Rattle.hp_segs.specs.Steps.{after_agree, after_cancel, after_claim}
use Rattle.hp_segs.specs.declared.outcome.AskLog.{AskLog}
use Rattle.hp_segs.specs.declared.outcome.Cause.{Cause}
use Rattle.hp_serve.specs.Attaching.{after_attaching}
use Rattle.hp_serve.specs.Coordinating.{stepping, with_room}
use Rattle.thm_run.specs.OwnHolds.{HasLater}
use Rattle.thm_run.specs.Seats.{Handles, Seat}
use Rattle.thm_run.specs.Together.{GlobalState, Runs, Steps}
use Rattle.thm_run.proofs.RunFacts.CallCases.{agree_holds, cancel_holds, claim_holds, withdraw_holds}
use Rattle.thm_run.proofs.Following.{catching_by}

pub none_behind : (segs : SegsView) → HasLater segs segs
none_behind segs = record {
  more = [];
  log = sym (append-nil segs.log);
  others = [];
  asks = sym (append-nil segs.asks);
  since = λ entry among. absurd (Contains-none entry among);
}

-- there are no fewer records
pub behind_longer : (old new : SegsView) → HasLater old new → length old.log ≤ length new.log
behind_longer old new is = omega (arith, ap length is.log, length-append old.log is.more)

pub behind_then : (old mid new : SegsView) → HasLater old mid → HasLater mid new → HasLater old new
behind_then old mid new here there = record {
  more = here.more ++ there.more;
  log = there.log ∙ (ap (λ log. log ++ there.more) here.log ∙ append_assoc old.log here.more there.more);
  others = here.others ++ there.others;
  asks = there.asks ∙ (ap (λ asks. asks ++ there.others) here.asks ∙ append_assoc old.asks here.others there.others);
  since = λ entry among. elim (Contains-append_cases here.others there.others entry among) [
    | inl early ↦ here.since entry early
    | inr late ↦ omega (arith, there.since entry late, behind_longer old mid here)
  ];
}

module _ (old segs : SegsView) (was : HasLater old segs) where
  -- one outcome more, beside records that came
  outcome_behind : (new : SegsView) (more : List LogRecord) (entry : AskLog) → new.log ≡ segs.log ++ more
      → new.asks ≡ segs.asks ++ entry ∷ [] → length segs.log ≤ entry.at → HasLater old new
  outcome_behind new more entry log asks at =
      behind_then old segs new was (record {
        more = more;
        log = log;
        others = entry ∷ [];
        asks = asks;
        since = λ one among.
            All-contains (λ (one : AskLog). length segs.log ≤ one.at) (entry ∷ []) one
            (All-cons (λ (one : AskLog). length segs.log ≤ one.at) entry [] at (All-nil (λ (one : AskLog). length segs.log ≤ one.at))) among;
      })

  still : (new : SegsView) → new.log ≡ segs.log → new.asks ≡ segs.asks → HasLater old new
  still new log asks =
      record { more = was.more; log = log ∙ was.log; others = was.others; asks = asks ∙ was.asks; since = was.since }

  abbrev drops : List LogRecord
  drops = map (λ run. Drop run) segs.retiring

  behind_drops : length segs.log ≤ length (segs.log ++ drops)
  behind_drops = omega (arith, length-append segs.log drops)

  starts_behind : HoldsStarted (HasLater old) segs
  starts_behind = record {
    stale = λ from number. outcome_behind _ [] _ (sym (append-nil segs.log)) refl (omega arith);
    refused = λ ask cause armed. outcome_behind _ drops _ refl refl behind_drops;
    opened = λ ask run armed fresh. behind_then old segs _ was (record {
      more = map (λ run. Drop run) segs.retiring ++ Add run ask.heap ∷ [];
      log = append_assoc segs.log (map (λ run. Drop run) segs.retiring) (Add run ask.heap ∷ []);
      others = [];
      asks = sym (append-nil segs.asks);
      since = λ entry among. absurd (Contains-none entry among);
    });
    freed = λ from number. outcome_behind _ drops _ refl refl behind_drops;
  }

  pub cancel_behind : (cause : Cause) → HasLater old (after_cancel cause segs)
  cancel_behind cause =
      cancel_holds (HasLater old) segs was cause (λ growth is. outcome_behind _ (Drop growth.run ∷ []) _ refl refl (omega arith))

  pub agree_behind : (acks : List ℕ) → HasLater old (after_agree acks segs)
  agree_behind acks =
      agree_holds (HasLater old) segs was acks (λ growth is. outcome_behind _ [] _ (sym (append-nil segs.log)) refl (omega arith))

  round_behind : (acks : List ℕ) → HoldsInRound (HasLater old) acks segs
  round_behind acks = record { cancelled = λ cause its. cancel_behind cause; agreed = agree_behind acks }

  alone_behind : (one : Caught) → HoldsAlone (HasLater old) one segs
  alone_behind one =
      record { cancelled = λ cause its. cancel_behind cause; agreed = λ generation none mapped. agree_behind (replicate 16 generation) }

  pub claim_behind : (from number : ℕ) → HasLater old (after_claim from number segs)
  claim_behind from number = claim_holds (HasLater old) segs was from number (λ generation. still _ refl refl)

  pub withdraw_behind : (from number since now : ℕ) → HasLater old (after_withdraw from number since now segs)
  withdraw_behind from number since now =
      withdraw_holds (HasLater old) segs was from number since now
      (λ none other. outcome_behind _ [] _ (sym (append-nil segs.log)) refl (omega arith))
      (λ none growth is own. outcome_behind _ (Drop growth.run ∷ []) _ refl refl (omega arith))

  pub catching_behind : (who : ℕ) (one : Caught) → HasLater old (after_catching who one segs)
  catching_behind who one = catching_by (HasLater old) segs was who (λ call addr got. still _ refl refl) one

  attach_behind : (who : ℕ) (ended : Caught) → HasLater old (after_attaching who ended segs)
  attach_behind who caught.Done = still _ refl refl
  attach_behind who (caught.Refused row call) = was
  attach_behind who (caught.Elsewhere row call got) = was

-- a step of the coordinator
caught_behind : (old : SegsView) (core : Core) (segs : SegsView) (one : Caught) (now : ℕ) → HasLater old segs
    → HasLater old (caught_in core segs one now core.phase).segs
caught_behind old core segs one now was =
    let mid = after_catching 0 one segs in
    let on = catching_behind old segs was 0 one in
    caught_holds (HasLater old) core segs one now core.phase was on (alone_behind old mid on one)

step_behind : (old : SegsView) (denial : ℕ → ℕ → Option (List ℕ × ℕ)) (event : CoreEvent) (core : Core) (segs : SegsView)
    → HasLater old segs
    → HasLater old (stepped denial event core segs).segs
step_behind old denial (Grow ask) core segs was =
    came_holds (HasLater old) denial segs was (λ alone. starts_behind old segs was) (want.Grow ask) core
step_behind old denial (Shrink from number) core segs was =
    came_holds (HasLater old) denial segs was (λ alone. starts_behind old segs was) (want.Shrink from number) core
step_behind old denial (SelfMapped one now) core segs was = caught_behind old core segs one now was
step_behind old denial (Poll now acks) core segs was =
    poll_holds (HasLater old) denial core segs now acks core.phase was (λ alone. starts_behind old segs was)
    (round_behind old segs was acks)

pub event_behind : (denied : Option (List ℕ × ℕ)) (event : CoreEvent) (core : Core) (segs : SegsView)
    → HasLater segs (stepping denied event core segs).segs
event_behind denied event core segs =
    step_behind segs (λ socket total. denied) event core (with_room segs)
    (record {
      more = [];
      log = sym (append-nil segs.log);
      others = [];
      asks = sym (append-nil segs.asks);
      since = λ entry among. absurd (Contains-none entry among);
    })

-- what a participant makes of the segment value
pub handles_behind : {count who : ℕ} {old new : Seat} {taken given : SegsView} → Handles count who old new taken given
    → HasLater taken given
handles_behind (Handles.looks seat segs) = none_behind segs
handles_behind (Handles.moves_ranges seat segs ranges moves) = still segs segs (none_behind segs) _ refl refl
handles_behind (Handles.steps seat segs event core is its knows denied may) = event_behind denied event core segs
handles_behind (Handles.maps seat segs caught table now core is its caught_up) = event_behind None (SelfMapped caught now) core segs
handles_behind {count} {who} (Handles.follows seat segs caught table member caught_up) =
    catching_behind segs segs (none_behind segs) who caught
handles_behind (Handles.arms seat segs asked run number is) = still segs segs (none_behind segs) _ refl refl
handles_behind {count} {who} (Handles.claims seat segs) = claim_behind segs segs (none_behind segs) who seat.party.asked
handles_behind {count} {who} (Handles.settles seat segs since now late) =
    claim_behind segs (after_withdraw who seat.party.asked since now segs)
    (withdraw_behind segs segs (none_behind segs) who seat.party.asked since now) who seat.party.asked
handles_behind (Handles.cuts seat segs heap addr run) = still segs segs (none_behind segs) _ refl refl
handles_behind {count} {who} (Handles.attaches seat segs caught after tried) = attach_behind segs segs (none_behind segs) who caught
handles_behind (Handles.detaches seat segs told secondary none heard) = still segs segs (none_behind segs) _ refl refl

pub step_is_behind : {count : ℕ} {old new : GlobalState} → Steps count old new → HasLater old.segs new.segs
step_is_behind (Steps.quietly at who old new there did) = none_behind at.segs
step_is_behind (Steps.mails at who old new step there did) = none_behind at.segs
step_is_behind (Steps.handles at who old new given there did kept armed) = handles_behind did

-- along a run
pub runs_behind : {count : ℕ} {first now : GlobalState} → Runs count first now → HasLater first.segs now.segs
runs_behind (Runs.stands at) = none_behind at.segs
runs_behind (Runs.goes_on first mid last runs step) =
    behind_then first.segs mid.segs last.segs (runs_behind runs) (step_is_behind step)
