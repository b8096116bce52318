-- The asks of the moments of a run have their outcomes, which are found by their numbers; and as these stay, what was judged stays judged.
use Rattle.std.proofs.Common.{◌≡◌, ◌∙◌, ◌==◌, ℕ, ◌+◌, ◌-◌, ◌<◌, ◌≤◌, Bool, cond, List, [], ◌∷◌, ◌++◌, append_assoc, eq-eqb, find, length, Option, Some, None, refl, ap, sym, subst, arith}
use Rattle.std.specs.List.{All}
use Rattle.std.specs.Option.{option_and_then}
use Rattle.std.specs.Prelude.{slice_get}
use Rattle.std.proofs.lemmas.Grind.{flat_map-append}
use Rattle.std.proofs.lemmas.List.{take-append-le}
use Rattle.std.proofs.lemmas.List.Elements.{All-head, All-tail, filter-append}
use Rattle.std.proofs.lemmas.Option.{same_Some, slice_get_within}
use Rattle.hp_base.specs.declared.limits.TheConstants.{MAX_HEAPS}
use Rattle.hp_base.specs.declared.row.Row.{Row}
use Rattle.hp_base.specs.declared.row.Run.{Run}
use Rattle.hp_log.specs.Log.{table_at, table_of}
use Rattle.hp_log.specs.declared.log_record.LogRecord.{LogRecord}
use Rattle.hp_plain.specs.HallView.{HallView, slot_at}
use Rattle.hp_proc.proofs.LawLemmas.{find_stays}
use Rattle.hp_proc.specs.Courses.{numbered_in}
use Rattle.hp_proc.specs.Doing.{Done}
use Rattle.hp_proc.specs.Doing.Done.{Asked}
use Rattle.hp_proc.specs.LinesDone.{Course, courses_of, trace_of}
use Rattle.hp_proc.specs.OneThread.{IsMoment, WasAllowed, WasDenied, next_outcome, validators_by}
use Rattle.hp_proc.specs.Outcomes.{IsAnsweredSo}
use Rattle.hp_events.specs.Validators.{AreAnswered}
use Rattle.hp_script.specs.declared.workload.Workload.{Workload}
use Rattle.hp_segs.specs.Refusals.{bytes_on}
use Rattle.hp_segs.specs.SegsView.{SegsView, added_run, is_outcome_for, run_of}
use Rattle.hp_segs.specs.declared.outcome.AskLog.{AskLog}
use Rattle.hp_segs.specs.declared.outcome.Outcome.{Outcome}
use Rattle.hp_segs.specs.declared.outcome.Outcome.TheVariants.{Granted}
use Rattle.hp_serve.specs.Asking.{Gives}
use Rattle.hp_serve.specs.Denials.{AnswersSo}
use Rattle.hp_serve.specs.Party.{Party}
use Rattle.hp_serve.specs.declared.pages_asked.PagesAsked.{PagesAsked}
use Rattle.thm_run.proofs.HallFacts.HallSegs.{later_segs}
use Rattle.thm_run.proofs.LineSteps.LineMore.{trace_more}
use Rattle.thm_run.proofs.RunFacts.SoFarFacts.{all_asked, seat_of}
use Rattle.thm_run.proofs.SeenAndShown.Provenance.{answered}
use Rattle.thm_run.proofs.PickedFronts.{at}
use Rattle.thm_run.proofs.TracesTold.Numbers.{numbered_both}
use Rattle.thm_run.specs.Handing.{AreJudged, JudgedRests}
use Rattle.thm_run.specs.SoFar.{IsOfDeclared, SoFar, trace_for}

-- what stands behind others is found at their number
pub get_behind : {X : Type 0} (xs : List X) (x : X) (ys : List X) → slice_get (xs ++ x ∷ ys) (length xs) ≡ Some x
get_behind [] x ys = refl
get_behind (y ∷ xs) x ys = get_behind xs x ys

-- what holds of all holds of one among them
pub all_mid : {X : Type 0} (P : X → Type 0) (xs : List X) (x : X) (ys : List X) → All P (xs ++ x ∷ ys) → P x
all_mid P [] x ys all = All-head P x ys all
all_mid P (y ∷ xs) x ys all = all_mid P xs x ys (All-tail P y (xs ++ x ∷ ys) all)

-- the first of a participant's lines
own_first : (who : ℕ) (course : Course) (courses : List Course) → course.line.participant ≡ who
    → courses_of who (course ∷ courses) ≡ course ∷ courses_of who courses
own_first who course courses own =
    ap (λ (here : Bool). cond here (course ∷ courses_of who courses) (courses_of who courses)) (eq-eqb course.line.participant who own)

module _ (courses so_far : List Course) (who : ℕ) (done : Done) (moment : IsMoment courses so_far who done) where
  -- what the participant had done before
  abbrev before : List Done
  before = trace_for who moment.earlier ++ moment.first

  pub so_far_trace : trace_for who so_far ≡ before
  so_far_trace =
      ap (trace_for who) moment.until
      ∙ ap trace_of (filter-append (λ (course : Course). course.line.participant == who) moment.earlier (at moment.course moment.first ∷ [])
      ∙ ap (λ (more : List Course). courses_of who moment.earlier ++ more) (own_first who (at moment.course moment.first) [] moment.its))
      ∙ trace_more (courses_of who moment.earlier) (at moment.course moment.first)

  pub whole_trace : trace_for who courses ≡ before ++ done ∷ (moment.rest ++ trace_for who moment.later)
  whole_trace =
      ap (trace_for who) moment.lines
      ∙ ap trace_of (filter-append (λ (course : Course). course.line.participant == who) moment.earlier (moment.course ∷ moment.later)
      ∙ ap (λ (more : List Course). courses_of who moment.earlier ++ more) (own_first who moment.course moment.later moment.its))
      ∙ flat_map-append (λ (course : Course). course.trace) (courses_of who moment.earlier) (moment.course ∷ courses_of who moment.later)
      ∙ ap (λ (trace : List Done). trace_for who moment.earlier ++ (trace ++ trace_for who moment.later)) moment.trace
      ∙ ap (λ (trace : List Done). trace_for who moment.earlier ++ trace)
      (append_assoc moment.first (done ∷ moment.rest) (trace_for who moment.later))
      ∙ sym (append_assoc (trace_for who moment.earlier) moment.first (done ∷ (moment.rest ++ trace_for who moment.later)))

module _ (courses so_far : List Course) (who : ℕ) (asked : PagesAsked) (run : Option Run) (moment : IsMoment courses so_far who (Asked asked run))
  where
    -- an ask stands at its number among all that took numbers
    pub asked_at : slice_get (numbered_in (trace_for who courses)) (length (numbered_in (trace_for who so_far))) ≡ Some (Asked asked run)
    asked_at =
        let early = before courses so_far who (Asked asked run) moment in
        let late = moment.rest ++ trace_for who moment.later in
        let whole : numbered_in (trace_for who courses) ≡ numbered_in early ++ Asked asked run ∷ numbered_in late =
        ap numbered_in (whole_trace courses so_far who (Asked asked run) moment) ∙ numbered_both early (Asked asked run ∷ late) in
        let count : length (numbered_in (trace_for who so_far)) ≡ length (numbered_in early) =
        ap (λ (trace : List Done). length (numbered_in trace)) (so_far_trace courses so_far who (Asked asked run) moment) in
        ap (λ (n : ℕ). slice_get (numbered_in (trace_for who courses)) n) count
        ∙ ap (λ (numbered : List Done). slice_get numbered (length (numbered_in early))) whole
        ∙ get_behind (numbered_in early) (Asked asked run) (numbered_in late)

    module _ (workload : Workload) (parties : List Party) (hall : HallView) (so : SoFar workload courses parties hall) where
      -- and has its outcome
      pub its_outcome : IsAnsweredSo so.now.segs.log so.now.segs.asks who (length (numbered_in (trace_for who so_far)) + 1) asked run
      its_outcome =
          let one : IsOfDeclared workload.participants moment.course =
          all_mid (IsOfDeclared workload.participants) moment.earlier moment.course moment.later
          (subst (All (IsOfDeclared workload.participants)) moment.lines so.built) in
          let seat = seat_of workload courses parties hall so who (omega (arith, one.declared, moment.its)) in
          answered workload.participants workload.absent workload.pools.items so.first so.now so.is_first so.runs who seat.it seat.there
          (all_asked workload courses parties hall so who seat.it seat.there) (length (numbered_in (trace_for who so_far))) asked run
          (ap (λ (trace : List Done). slice_get (numbered_in trace) (length (numbered_in (trace_for who so_far))))
          (so.seats who seat.it seat.there).trace ∙ asked_at)

-- a generation whose record adds a run is within the log
pub run_within : (log : List LogRecord) (generation : ℕ) (run : Run) → run_of log generation ≡ Some run → generation ≤ length log
run_within log generation run is = by_record (slice_get log (generation - 1)) refl is
  where
    by_record : (found : Option LogRecord) → slice_get log (generation - 1) ≡ found → option_and_then added_run found ≡ Some run
        → generation ≤ length log
    by_record None there is = cc
    by_record (Some logged) there is =
        let within = slice_get_within log (generation - 1) logged there in
        omega (arith, within)

given_within : (log : List LogRecord) (outcome : Outcome) (run : Run) (generation : ℕ) → outcome ≡ Granted generation
    → Gives log outcome (Some run) → generation ≤ length log
given_within log outcome run generation is gives =
    run_within log generation run (subst (λ (outcome : Outcome). Gives log outcome (Some run)) is gives)

-- the table of the first records stays as more come
pub table_stays : (log more : List LogRecord) (generation : ℕ) → generation ≤ length log → table_at (log ++ more) generation ≡ table_at log generation
table_stays log more generation within = ap table_of (take-append-le generation log more within)

module _ (workload : Workload) (was now : SegsView) (records : List LogRecord) (others : List AskLog) (grown : now.log ≡ was.log ++ records)
    (logged : now.asks ≡ was.asks ++ others) (so_far : List Course) (who : ℕ) (asked : PagesAsked) where
  abbrev Answered : Option Run → Type 0
  Answered run = IsAnsweredSo was.log was.asks who (length (numbered_in (trace_for who so_far)) + 1) asked run

  -- the outcome that was found is found still
  same_outcome : (run : Option Run) → Answered run → next_outcome now so_far who ≡ next_outcome was so_far who
  same_outcome run answered =
      ap (find (is_outcome_for who (length (numbered_in (trace_for who so_far)) + 1))) logged
      ∙ find_stays (is_outcome_for who (length (numbered_in (trace_for who so_far)) + 1)) was.asks others answered.entry answered.logged
      ∙ sym answered.logged

  allowed_stays : (run : Run) → Answered (Some run) → WasAllowed workload was so_far who (Asked asked (Some run))
      → WasAllowed workload now so_far who (Asked asked (Some run))
  allowed_stays run answered allowed = λ entry generation found granted.
      let found_then : next_outcome was so_far who ≡ Some entry = sym (same_outcome (Some run) answered) ∙ found in
      let own : answered.entry ≡ entry = same_Some answered.entry entry (sym answered.logged ∙ found_then) in
      let within : generation ≤ length was.log =
      given_within was.log answered.entry.outcome run generation (ap (λ (entry : AskLog). entry.outcome) own ∙ granted) answered.given in
      let table : table_at now.log generation ≡ table_at was.log generation =
      ap (λ (log : List LogRecord). table_at log generation) grown ∙ table_stays was.log records generation within in
      subst (λ (table : List Row). AreAnswered AnswersSo asked.socket (bytes_on table asked.socket) (validators_by workload so_far) None)
      (sym table) (allowed entry generation found_then granted)

  denied_stays : Answered None → WasDenied workload was so_far who (Asked asked None) → WasDenied workload now so_far who (Asked asked None)
  denied_stays answered denied = λ entry name limit total found refused.
      denied entry name limit total (sym (same_outcome None answered) ∙ found) refused

module _ (workload : Workload) (courses : List Course) (parties : List Party) (old : HallView) (was now : SegsView)
    (so : SoFar workload courses parties old) (its : so.now.segs ≡ was) (records : List LogRecord) (others : List AskLog)
    (grown : now.log ≡ was.log ++ records) (logged : now.asks ≡ was.asks ++ others) (judged : AreJudged workload courses was) where
  answered_then : (so_far : List Course) (who : ℕ) (asked : PagesAsked) (run : Option Run) → IsMoment courses so_far who (Asked asked run)
      → IsAnsweredSo was.log was.asks who (length (numbered_in (trace_for who so_far)) + 1) asked run
  answered_then so_far who asked run moment =
      subst (λ (segs : SegsView). IsAnsweredSo segs.log segs.asks who (length (numbered_in (trace_for who so_far)) + 1) asked run) its
      (its_outcome courses so_far who asked run moment workload parties old so)

  allowed_by : (so_far : List Course) (who : ℕ) (done : Done) → IsMoment courses so_far who done → WasAllowed workload now so_far who done
  allowed_by so_far who (Asked asked (Some run)) moment =
      allowed_stays workload was now records others grown logged so_far who asked run (answered_then so_far who asked (Some run) moment)
      (judged.allowed so_far who (Asked asked (Some run)) moment)
  allowed_by so_far who (Asked asked None) moment = tt
  allowed_by so_far who _ moment = tt

  denied_by : (so_far : List Course) (who : ℕ) (done : Done) → IsMoment courses so_far who done → WasDenied workload now so_far who done
  denied_by so_far who (Asked asked None) moment =
      denied_stays workload was now records others grown logged so_far who asked (answered_then so_far who asked None moment)
      (judged.denied so_far who (Asked asked None) moment)
  denied_by so_far who (Asked asked (Some run)) moment = tt
  denied_by so_far who _ moment = tt

  pub judged_later : AreJudged workload courses now
  judged_later = record { allowed = allowed_by; denied = denied_by }

pub judged_rests : JudgedRests
judged_rests workload courses parties later old new was now given so course was_at now_at judged =
    let its = later_segs (slot_at old MAX_HEAPS) (slot_at new MAX_HEAPS) was now (course.slots MAX_HEAPS) was_at now_at in
    judged_later workload courses parties old was now so (same_Some so.now.segs was (sym so.its_segs ∙ was_at)) its.more its.outcomes
    its.log its.asks judged
