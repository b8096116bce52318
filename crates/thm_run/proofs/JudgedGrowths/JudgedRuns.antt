-- Along a run in which no line of participant 0 ends but such as leave its validators, growths are judged by these.
use Rattle.std.proofs.Common.{◌≡◌, ◌≢◌, ◌∙◌, ℕ, ◌<◌, Bool, List, [], ◌∷◌, ◌++◌, append_assoc, length, Option, Some, refl, ap, sym, subst, arith, ⊎_elim}
use Rattle.std.specs.List.{All}
use Rattle.std.specs.Prelude.{slice_get, slice_set}
use Rattle.std.proofs.lemmas.Bool.{cases_eq}
use Rattle.std.proofs.lemmas.List.{append_cancel_left, length-set}
use Rattle.std.proofs.lemmas.Option.{same_Some, slice_get_within}
use Rattle.hp_base.specs.Mapping.{FailingCall}
use Rattle.hp_events.specs.declared.validator.Validator.{Validator}
use Rattle.hp_hall.specs.Mail.{MailStep}
use Rattle.hp_proc.specs.Registering.{validators_after}
use Rattle.hp_segs.specs.GrowthLaws.{HasArmedGrowth}
use Rattle.hp_segs.specs.SegsView.{SegsView}
use Rattle.hp_segs.specs.Sound.{IsSound}
use Rattle.hp_segs.specs.declared.outcome.AskLog.{AskLog}
use Rattle.hp_serve.specs.Denials.{denials_by}
use Rattle.thm_run.proofs.DenialsKnown.{tried_validators}
use Rattle.thm_run.proofs.JudgedGrowths.JudgedChanges.{AreJudgedSince, changes_judged}
use Rattle.thm_run.proofs.JudgedGrowths.Moments.{all_mid}
use Rattle.thm_run.proofs.LinesOnward.{HasMoreLines, handles_lines, mails_lines, quietly_lines}
use Rattle.thm_run.proofs.RunFacts.RunChanges.{IsSteady, handles_changes, handles_steady, mails_steady, quietly_steady, seated_steady}
use Rattle.thm_run.proofs.SeatFacts.Seating.{IsSeatAfter, its_seat, other_seat, seat_behind}
use Rattle.thm_run.specs.Seats.{EndedLine, Handles, Mails, Quietly, Seat, line_ended}
use Rattle.thm_run.specs.Together.{GlobalState, Runs, Steps}

-- once it has ended a line leaves any validators as they were
abbrev pub LeavesValidators : EndedLine → Type 0
LeavesValidators line = (validators : List (Validator Bool)) → validators_after line.deed line.given validators ≡ validators

-- the validators of participant 0, the lines of it that had ended, and those that end in the run, which leave them
module _ (validators : List (Validator Bool)) (before ended : List EndedLine) (leave : All LeavesValidators ended) where
  -- a seat that has them, and whose lines are those with some more
  pub record IsJudging (seat : Seat) : Type 0 where
    pub more : List EndedLine
    pub lines : seat.lines ≡ before ++ more
    pub its : seat.standing.validators ≡ validators

  -- the lines of the seat of participant 0 are the first of all these
  abbrev pub IsFrontAt : GlobalState → Type 0
  IsFrontAt at = (seat : Seat) → slice_get at.seats 0 ≡ Some seat → (rest : List EndedLine) × (before ++ ended ≡ seat.lines ++ rest)

  -- ONE STEP

  ends_judging : (seat : Seat) (one : EndedLine) (rest : List EndedLine) → IsJudging seat → before ++ ended ≡ (seat.lines ++ one ∷ []) ++ rest
      → LeavesValidators one
  ends_judging seat one rest was front =
      let split : before ++ ended ≡ before ++ (was.more ++ one ∷ rest) =
      front
      ∙ ap (λ (lines : List EndedLine). (lines ++ one ∷ []) ++ rest) was.lines
      ∙ append_assoc (before ++ was.more) (one ∷ []) rest
      ∙ append_assoc before was.more (one ∷ rest) in
      let its : ended ≡ was.more ++ one ∷ rest = append_cancel_left before ended (was.more ++ one ∷ rest) split in
      all_mid LeavesValidators was.more one rest (subst (All LeavesValidators) its leave)

  quietly_judging : {old new : Seat} → Quietly old new → IsJudging old → (rest : List EndedLine) → before ++ ended ≡ new.lines ++ rest
      → IsJudging new
  quietly_judging (Quietly.hears seat answered) was rest front = record { more = was.more; lines = was.lines; its = was.its }
  quietly_judging (Quietly.counts seat sent) was rest front = record { more = was.more; lines = was.lines; its = was.its }
  quietly_judging (Quietly.calls seat heap call answer none) was rest front = record { more = was.more; lines = was.lines; its = was.its }
  quietly_judging (Quietly.notes seat elements chunks) was rest front = record { more = was.more; lines = was.lines; its = was.its }
  quietly_judging (Quietly.reads_names seat names) was rest front = record { more = was.more; lines = was.lines; its = was.its }
  quietly_judging (Quietly.reads_stats seat heap counted) was rest front = record { more = was.more; lines = was.lines; its = was.its }
  quietly_judging (Quietly.changes_names seat change) was rest front = record { more = was.more; lines = was.lines; its = was.its }
  quietly_judging (Quietly.sees_heap seat heap history) was rest front = record { more = was.more; lines = was.lines; its = was.its }
  quietly_judging (Quietly.plans_range seat addr len page plan) was rest front = record { more = was.more; lines = was.lines; its = was.its }
  quietly_judging (Quietly.maps_chunk seat chunk maps ended is) was rest front = record { more = was.more; lines = was.lines; its = was.its }
  quietly_judging (Quietly.leaves_chunk seat chunk maps is) was rest front = record { more = was.more; lines = was.lines; its = was.its }
  quietly_judging (Quietly.ends_line seat deed given) was rest front =
      let one : EndedLine = line_ended deed given seat in
      record {
        more = was.more ++ one ∷ [];
        lines = ap (λ (lines : List EndedLine). lines ++ one ∷ []) was.lines ∙ append_assoc before was.more (one ∷ []);
        its = ends_judging seat one rest was front seat.standing.validators ∙ was.its;
      }

  mails_judging : {who : ℕ} {old new : Seat} {step : MailStep} → Mails who old new step → IsJudging old → IsJudging new
  mails_judging (Mails.notes seat note) was = was
  mails_judging (Mails.finds_nothing seat) was = was
  mails_judging (Mails.fetches seat frame) was = record { more = was.more; lines = was.lines; its = was.its }
  mails_judging (Mails.asks seat ask frame action posted its says) was = was
  mails_judging (Mails.tells seat heap run frame action posted says) was = record { more = was.more; lines = was.lines; its = was.its }
  mails_judging (Mails.speaks seat to frame body action posted nothing says) was = was

  handles_judging : {count who : ℕ} {old new : Seat} {taken given : SegsView} → Handles count who old new taken given → IsJudging old
      → IsJudging new
  handles_judging (Handles.looks seat segs) was = was
  handles_judging (Handles.moves_ranges seat segs ranges moves) was = was
  handles_judging (Handles.steps seat segs event core is its knows denied may) was = record { more = was.more; lines = was.lines; its = was.its }
  handles_judging (Handles.maps seat segs caught table now core is its caught_up) was =
      record { more = was.more; lines = was.lines; its = was.its }
  handles_judging (Handles.follows seat segs caught table member caught_up) was = record { more = was.more; lines = was.lines; its = was.its }
  handles_judging (Handles.arms seat segs asked run number is) was = record { more = was.more; lines = was.lines; its = was.its }
  handles_judging (Handles.claims seat segs) was = was
  handles_judging (Handles.settles seat segs since now late) was = was
  handles_judging (Handles.cuts seat segs heap addr run) was = record { more = was.more; lines = was.lines; its = was.its }
  handles_judging (Handles.attaches seat segs caught after tried) was = record {
    more = was.more;
    lines = was.lines;
    its = tried_validators (length segs.log) caught seat.standing ∙ was.its;
  }
  handles_judging (Handles.detaches seat segs told secondary none heard) was = record { more = was.more; lines = was.lines; its = was.its }

  module _ (seats : List Seat) (who : ℕ) (old new : Seat) (there : slice_get seats who ≡ Some old) where
    -- the seat of participant 0, where one came to something else
    seated_judging : ((seat : Seat) → slice_get seats 0 ≡ Some seat → IsJudging seat) → (who ≡ 0 → IsJudging new)
        → (seat : Seat) → slice_get (slice_set seats who new) 0 ≡ Some seat → IsJudging seat
    seated_judging each its seat at = by_seat (seat_behind seats who old new there 0 seat at)
      where
        by_seat : IsSeatAfter seats who new 0 seat → IsJudging seat
        by_seat (IsSeatAfter.its same is) = subst IsJudging (sym is) (its (sym same))
        by_seat (IsSeatAfter.apart beside is) = each seat is

    primary_old : who ≡ 0 → slice_get seats 0 ≡ Some old
    primary_old primary = subst (λ (n : ℕ). slice_get seats n ≡ Some old) primary there

    primary_new : who ≡ 0 → slice_get (slice_set seats who new) 0 ≡ Some new
    primary_new primary = subst (λ (n : ℕ). slice_get (slice_set seats who new) n ≡ Some new) primary (its_seat seats who old new there)

    -- its lines were the first of all before that too
    front_before_it : HasMoreLines old new
        → ((seat : Seat) → slice_get (slice_set seats who new) 0 ≡ Some seat → (rest : List EndedLine) × (before ++ ended ≡ seat.lines ++ rest))
        → (seat : Seat) → slice_get seats 0 ≡ Some seat → (rest : List EndedLine) × (before ++ ended ≡ seat.lines ++ rest)
    front_before_it more later seat at =
        ⊎_elim
        (λ (same : 0 ≡ who).
        let own : old ≡ seat = same_Some old seat (sym (primary_old (sym same)) ∙ at) in
        let found = later new (primary_new (sym same)) in (
          more.more ++ found.0,
          found.1
              ∙ ap (λ (lines : List EndedLine). lines ++ found.0) more.is
              ∙ append_assoc old.lines more.more found.0
              ∙ ap (λ (seat : Seat). seat.lines ++ (more.more ++ found.0)) own,
        ))
        (λ (beside : 0 ≢ who). later seat (other_seat seats who old new there 0 beside ∙ at))
        (cases_eq 0 who)

  front_before : {count : ℕ} {old new : GlobalState} → Steps count old new → IsFrontAt new → IsFrontAt old
  front_before (Steps.quietly at who old new there did) later = front_before_it at.seats who old new there (quietly_lines did) later
  front_before (Steps.mails at who old new step there did) later = front_before_it at.seats who old new there (mails_lines did) later
  front_before (Steps.handles at who old new given there did sound armed) later =
      front_before_it at.seats who old new there (handles_lines did) later

  -- ALONG A RUN

  module _ (count deadline : ℕ) (may_fail : ℕ → Option (List FailingCall)) (first : List AskLog) where
    -- a moment at which growths since those outcomes were judged so, and the judge is as before
    pub record IsJudgedAt (at : GlobalState) : Type 0 where
      pub size : length at.seats ≡ count
      pub sound : IsSound at.segs
      pub armed : HasArmedGrowth at.segs
      pub steady : (who : ℕ) (seat : Seat) → slice_get at.seats who ≡ Some seat → IsSteady deadline may_fail who seat
      pub judging : (seat : Seat) → slice_get at.seats 0 ≡ Some seat → IsJudging seat
      pub judged : AreJudgedSince (denials_by validators) first at.segs

    step_judged : {old new : GlobalState} → Steps count old new → IsFrontAt new → IsJudgedAt old → IsJudgedAt new
    step_judged (Steps.quietly at who old new there did) front was = record {
      size = length-set at.seats who new ∙ was.size;
      sound = was.sound;
      armed = was.armed;
      steady = seated_steady count deadline may_fail (denials_by validators) at.seats who old new there
          (quietly_steady deadline may_fail who did (was.steady who old there)) was.steady;
      judging = seated_judging at.seats who old new there was.judging (λ primary.
          let found = front new (primary_new at.seats who old new there primary) in
          quietly_judging did (was.judging old (primary_old at.seats who old new there primary)) found.0 found.1);
      judged = was.judged;
    }
    step_judged (Steps.mails at who old new step there did) front was = record {
      size = length-set at.seats who new ∙ was.size;
      sound = was.sound;
      armed = was.armed;
      steady = seated_steady count deadline may_fail (denials_by validators) at.seats who old new there
          (mails_steady deadline may_fail who did (was.steady who old there)) was.steady;
      judging = seated_judging at.seats who old new there was.judging (λ primary.
          mails_judging did (was.judging old (primary_old at.seats who old new there primary)));
      judged = was.judged;
    }
    step_judged (Steps.handles at who old new given there did sound armed) front was = record {
      size = length-set at.seats who new ∙ was.size;
      sound = sound;
      armed = armed.growth;
      steady = seated_steady count deadline may_fail (denials_by validators) at.seats who old new there
          (handles_steady deadline may_fail who did (was.steady who old there)) was.steady;
      judging = seated_judging at.seats who old new there was.judging (λ primary.
          handles_judging did (was.judging old (primary_old at.seats who old new there primary)));
      judged = changes_judged (denials_by validators) count deadline may_fail first at.segs given
          (handles_changes count deadline may_fail (denials_by validators) who
          (let size = was.size in omega (arith, size, slice_get_within at.seats who old there)) did (was.steady who old there)
          (λ primary. λ socket total answer may.
          subst (λ (validators : List (Validator Bool)). denials_by validators socket total answer)
          (was.judging old (primary_old at.seats who old new there primary)).its may) was.sound was.armed) was.judged;
    }

    pub runs_judged : {start now : GlobalState} → Runs count start now → IsFrontAt now → IsJudgedAt start → IsJudgedAt now
    runs_judged (Runs.stands at) front was = was
    runs_judged (Runs.goes_on start mid last runs step) front was =
        step_judged step front (runs_judged runs (front_before step front) was)
