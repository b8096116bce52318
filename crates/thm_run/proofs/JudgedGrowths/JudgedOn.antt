-- After a line more its growths were judged by the validators that the lines before it left.
use Rattle.std.proofs.Common.{◌≡◌, ◌≢◌, ◌∙◌, ◌==◌, ℕ, zero, suc, ◌+◌, ◌≤◌, Bool, true, false, cond, List, [], ◌∷◌, ◌++◌, append-nil, find, length, length-append, Option, Some, None, refl, ap, sym, subst, arith, ⊎_elim}
use Rattle.std.specs.List.{All}
use Rattle.std.specs.Option.{option_or}
use Rattle.std.proofs.lemmas.Bool.{and_parts, cases_eq, eqb-true}
use Rattle.std.proofs.lemmas.List.Elements.{All-cons, All-contains, All-nil}
use Rattle.std.proofs.lemmas.List.Folds.{find-append}
use Rattle.std.proofs.lemmas.Option.{same_Some}
use Rattle.hp_base.specs.declared.limits.TheConstants.{MAX_HEAPS}
use Rattle.hp_base.specs.declared.row.Run.{Run}
use Rattle.hp_events.specs.declared.validator.Validator.{Validator}
use Rattle.hp_heap.proofs.Members.{find_some}
use Rattle.hp_plain.specs.HallView.{HallView, segs_in, slot_at}
use Rattle.hp_proc.specs.LineTrees.{doing_of}
use Rattle.hp_proc.specs.Courses.{Standing, after_line, numbered_in}
use Rattle.hp_proc.specs.Doing.{Doing, Done, Goes, Leads}
use Rattle.hp_proc.specs.Doing.Done.{Asked}
use Rattle.hp_proc.specs.Lines.{Facts, if_attached}
use Rattle.hp_proc.specs.LinesDone.{Course, courses_of, opening_standing, standing_after}
use Rattle.hp_proc.specs.OneThread.{IsMoment, WasAllowed, WasDenied, next_outcome, validators_by}
use Rattle.hp_proc.specs.Outcomes.{IsAnsweredSo}
use Rattle.hp_proc.specs.Registering.{limiting, unlimiting, validators_after}
use Rattle.hp_script.specs.declared.answer.Answer.{Answer}
use Rattle.hp_script.specs.declared.line.Act.{Act}
use Rattle.hp_script.specs.declared.line.Act.TheVariants as act
use Rattle.hp_script.specs.declared.line.Line.{Line}
use Rattle.hp_script.specs.declared.workload.Workload.{Workload}
use Rattle.hp_segs.specs.Refusals.{bytes_on}
use Rattle.hp_segs.specs.SegsView.{SegsView, is_outcome_for}
use Rattle.hp_segs.specs.declared.ask.Ask.{Ask}
use Rattle.hp_segs.specs.declared.outcome.AskLog.{AskLog}
use Rattle.hp_log.specs.Log.{table_at}
use Rattle.hp_serve.specs.Asking.{ask_of}
use Rattle.hp_serve.specs.Denials.{denials_by}
use Rattle.hp_serve.specs.Party.{Party}
use Rattle.hp_serve.specs.declared.pages_asked.PagesAsked.{PagesAsked}
use Rattle.thm_run.proofs.DenialsKnown.{anything}
use Rattle.thm_run.proofs.JudgedGrowths.JudgedChanges.{AreJudgedSince, IsJudged, judged_first}
use Rattle.thm_run.proofs.JudgedGrowths.JudgedRuns.{IsFrontAt, IsJudgedAt, LeavesValidators, runs_judged}
use Rattle.thm_run.proofs.JudgedGrowths.Moments.{its_outcome, judged_later, so_far_trace}
use Rattle.thm_run.proofs.HallFacts.HallSegs.{later_segs}
use Rattle.thm_run.proofs.LineSteps.LineBehind.{all_came, there}
use Rattle.thm_run.proofs.LineSteps.LineComes.{course_of, ended, later, one_ended, trace}
use Rattle.thm_run.proofs.LineSteps.LineMore.{other_courses, own_courses, standing_more}
use Rattle.thm_run.proofs.LineSteps.Onward.{on_by_line}
use Rattle.thm_run.proofs.PathSteps.ByMail.{run_of}
use Rattle.thm_run.proofs.RunFacts.RunChanges.{runs_behind}
use Rattle.thm_run.proofs.RunFacts.SoFarFacts.{begins_here, none_open_so_far, seats_many}
use Rattle.thm_run.proofs.SeenAndShown.Provenance.{asked_counts, of_a_seat}
use Rattle.thm_run.proofs.Settings.{may_fail_of, set_so}
use Rattle.thm_run.proofs.PickedFronts.{at}
use Rattle.thm_run.proofs.TracesTold.Numbers.{numbered_both}
use Rattle.thm_run.specs.EndLaws.{GoesBy, IsGiven}
use Rattle.thm_run.specs.Handing.{AreJudged, JudgedGoesOnByLine}
use Rattle.thm_run.specs.Seats.{EndedLine}
use Rattle.thm_run.specs.SoFar.{SoFar, ended_for, standing_of, trace_for}
use Rattle.thm_run.specs.Together.{GlobalState}

-- THE LAST LINE, OR AN EARLIER ONE

rest_of : List Course → List Course
rest_of [] = []
rest_of (course ∷ courses) = courses

-- a line of these with one more is the last, or one of these
pub data IsLastOrEarlier (courses : List Course) (one : Course) (earlier : List Course) (course : Course) (later : List Course) : Type 0 where
  last : earlier ≡ courses → course ≡ one → IsLastOrEarlier courses one earlier course later
  early : (more : List Course) → courses ≡ earlier ++ course ∷ more → IsLastOrEarlier courses one earlier course later

nothing_there : (earlier : List Course) (course : Course) (later : List Course) → [] ≡ earlier ++ course ∷ later → ⊥
nothing_there [] course later is = cc
nothing_there (first ∷ earlier) course later is = cc

pub last_or_earlier : (courses : List Course) (one : Course) (earlier : List Course) (course : Course) (later : List Course)
    → courses ++ one ∷ [] ≡ earlier ++ course ∷ later → IsLastOrEarlier courses one earlier course later
unfolding rest_of
last_or_earlier [] one [] course later is =
    let same : one ≡ course = cc in
    IsLastOrEarlier.last refl (sym same)
last_or_earlier [] one (first ∷ earlier) course later is = absurd (nothing_there earlier course later (ap rest_of is))
last_or_earlier (next ∷ courses) one [] course later is =
    let same : next ≡ course = cc in
    IsLastOrEarlier.early courses (ap (λ (course : Course). course ∷ courses) same)
last_or_earlier (next ∷ courses) one (first ∷ earlier) course later is =
    by_rest (last_or_earlier courses one earlier course later (ap rest_of is))
  where
    same : next ≡ first
    same = cc

    by_rest : IsLastOrEarlier courses one earlier course later → IsLastOrEarlier (next ∷ courses) one (first ∷ earlier) course later
    by_rest (IsLastOrEarlier.last front its) =
        IsLastOrEarlier.last (ap (λ (courses : List Course). first ∷ courses) front ∙ ap (λ (first : Course). first ∷ courses) (sym same)) its
    by_rest (IsLastOrEarlier.early more its) =
        IsLastOrEarlier.early more
        (ap (λ (courses : List Course). next ∷ courses) its ∙ ap (λ (first : Course). first ∷ (earlier ++ course ∷ more)) same)

-- A LINE THAT ASKS

-- a line that ends at once did nothing
ends_at_once : (attached : Bool) (given answer : Answer) (done : Done) (more : List Done)
    → Leads (if_attached attached (Doing.Ended given)) (done ∷ more) (Doing.Ended answer) → ⊥
unfolding Leads Goes
ends_at_once true given answer done more leads = leads
ends_at_once false given answer done more leads = leads

-- so one that did anything leaves the validators
pub leaves_validators : (line : Line) (deed : Act) (facts : Facts) (given : Answer) (first : List Done) (done : Done) (rest : List Done)
    → Leads (doing_of line deed facts) (first ++ done ∷ rest) (Doing.Ended given)
    → (validators : List (Validator Bool)) → validators_after deed given validators ≡ validators
unfolding doing_of
leaves_validators line (act.Limit name socket bytes allow) facts given [] done rest leads validators =
    absurd (ends_at_once facts.attached (limiting facts.validators name.text socket) given done rest leads)
leaves_validators line (act.Limit name socket bytes allow) facts given (one ∷ first) done rest leads validators =
    absurd (ends_at_once facts.attached (limiting facts.validators name.text socket) given one (first ++ done ∷ rest) leads)
leaves_validators line (act.Unlimit name socket) facts given [] done rest leads validators =
    absurd (ends_at_once facts.attached (unlimiting facts.validators name.text socket) given done rest leads)
leaves_validators line (act.Unlimit name socket) facts given (one ∷ first) done rest leads validators =
    absurd (ends_at_once facts.attached (unlimiting facts.validators name.text socket) given one (first ++ done ∷ rest) leads)
leaves_validators line _ facts given first done rest leads validators = refl

-- THE LINE

module _ (workload : Workload) (courses : List Course) (parties behind : List Party) (old new : HallView) (line : Line) (answer : Answer)
    (given : IsGiven workload) (so : SoFar workload courses parties old) (goes : GoesBy workload courses line answer parties behind old new)
    (now : SegsView) (now_at : segs_in (slot_at new MAX_HEAPS) ≡ Some now) where
  abbrev one : Course
  one = course_of workload courses parties behind old new line answer given so goes

  abbrev lines : List Course
  lines = later workload courses parties behind old new line answer given so goes

  abbrev came_to : GlobalState
  came_to = there workload courses parties behind old new line answer given so goes

  -- the validators that the lines before left
  abbrev left : List (Validator Bool)
  left = (standing_of workload 0 courses).validators

  abbrev its_ended : List EndedLine
  its_ended = ended workload courses parties behind old new line answer given so goes 0

  shown : came_to.segs ≡ now
  shown = same_Some came_to.segs now (sym (all_came workload courses parties behind old new line answer given so goes).gone.its ∙ now_at)

  module _ (quiet : (validators : List (Validator Bool)) → validators_after line.act answer validators ≡ validators) where
    all_leave : (own : Bool)
        → All LeavesValidators (cond own (one_ended workload courses parties behind old new line answer given so goes ∷ []) [])
    all_leave true =
        All-cons LeavesValidators (one_ended workload courses parties behind old new line answer given so goes) [] quiet
        (All-nil LeavesValidators)
    all_leave false = All-nil LeavesValidators

    leave : All LeavesValidators its_ended
    leave = all_leave (0 == line.participant)

    front : IsFrontAt left (ended_for workload 0 courses) its_ended leave came_to
    front final here =
        let were = (all_came workload courses parties behind old new line answer given so goes).were 0 final here in (
          [],
          sym (append-nil final.lines ∙ were.5
              ∙ ap (λ (lines : List EndedLine). lines ++ its_ended) (so.seats 0 were.0 were.1).lines),
        )

    judged_then : IsJudgedAt left (ended_for workload 0 courses) its_ended leave workload.participants workload.deadline (may_fail_of so.now)
        so.now.segs.asks so.now
    judged_then = record {
      size = seats_many workload courses parties old so;
      sound = (begins_here workload courses parties old so).good.sound;
      armed = (begins_here workload courses parties old so).good.armed.growth;
      steady =
          (runs_behind workload.participants workload.deadline (may_fail_of so.now) anything workload.absent workload.pools.items so.first
          so.is_first
          (set_so workload.participants workload.deadline so.first so.now (run_of so.runs)
          (λ who seat there. (so.each who seat.party (so.seats who seat there).party).deadline)) (run_of so.runs)
          (λ who seat there socket total given may. tt)).each;
      judging = λ seat there. record {
        more = [];
        lines = (so.seats 0 seat there).lines ∙ sym (append-nil (ended_for workload 0 courses));
        its = ap (λ (standing : Standing). standing.validators) (so.seats 0 seat there).standing;
      };
      judged = judged_first (denials_by left) so.now.segs (none_open_so_far workload courses parties old so);
    }

    -- since the line began each growth was judged by them
    judged_now : AreJudgedSince (denials_by left) so.now.segs.asks now
    judged_now =
        subst (AreJudgedSince (denials_by left) so.now.segs.asks) shown
        (runs_judged left (ended_for workload 0 courses) its_ended leave workload.participants workload.deadline (may_fail_of so.now)
        so.now.segs.asks (run_of (all_came workload courses parties behind old new line answer given so goes).gone.runs) front judged_then).judged

    -- and these stay until the line has ended
    validators_same : (first : List Done) → validators_by workload (courses ++ at one first ∷ []) ≡ left
    validators_same first =
        let so_far : List Course = courses ++ at one first ∷ [] in
        let opening : Standing = opening_standing workload 0 in
        ⊎_elim
        (λ (own : line.participant ≡ 0).
        ap (λ (courses : List Course). (standing_after opening courses).validators) (own_courses 0 courses (at one first) own)
        ∙ ap (λ (standing : Standing). standing.validators) (standing_more opening (courses_of 0 courses) (at one first))
        ∙ quiet left)
        (λ (beside : line.participant ≢ 0).
        ap (λ (courses : List Course). (standing_after opening courses).validators)
        (other_courses 0 courses (at one first) (λ same. beside (sym same))))
        (cases_eq line.participant 0)

  -- an ask of the line, when the participant had done so much for it
  module _ (so_far : List Course) (who : ℕ) (asked : PagesAsked) (run : Option Run) (moment : IsMoment lines so_far who (Asked asked run))
      (first_is : moment.earlier ≡ courses) (course_is : moment.course ≡ one) where
    its_trace : trace workload courses parties behind old new line answer given so goes ≡ moment.first ++ Asked asked run ∷ moment.rest
    its_trace = ap (λ (course : Course). course.trace) (sym course_is) ∙ moment.trace

    pub its_quiet : (validators : List (Validator Bool)) → validators_after line.act answer validators ≡ validators
    its_quiet =
        leaves_validators line line.act goes.does.does.facts answer moment.first (Asked asked run) moment.rest
        (subst (λ (trace : List Done). Leads (doing_of line line.act goes.does.does.facts) trace (Doing.Ended answer)) its_trace
        goes.does.does.does.leads)

    pub its_validators : validators_by workload so_far ≡ left
    its_validators =
        ap (validators_by workload)
        (moment.until
        ∙ ap (λ (earlier : List Course). earlier ++ at moment.course moment.first ∷ []) first_is
        ∙ ap (λ (course : Course). courses ++ at course moment.first ∷ []) course_is)
        ∙ validators_same its_quiet moment.first

    abbrev number : ℕ
    number = length (numbered_in (trace_for who so_far)) + 1

    -- it is not answered before the line
    none_before : find (is_outcome_for who number) so.now.segs.asks ≡ None
    none_before = by_found (find (is_outcome_for who number) so.now.segs.asks) refl
      where
        by_found : (found : Option AskLog) → find (is_outcome_for who number) so.now.segs.asks ≡ found
            → find (is_outcome_for who number) so.now.segs.asks ≡ None
        by_found None is = is
        by_found (Some entry) is =
            let found = find_some (is_outcome_for who number) so.now.segs.asks entry is in
            let parts = and_parts (entry.from == who) _ found.0 in
            let rest = and_parts (entry.number == number) _ parts.1 in
            let from : entry.from ≡ who = eqb-true entry.from who parts.0 in
            let seat =
            of_a_seat workload.participants workload.absent workload.pools.items so.first so.now so.is_first so.runs entry found.1 in
            let asked_so =
            asked_counts workload.participants workload.absent workload.pools.items so.first so.now so.is_first so.runs entry.from seat.seat seat.its
            in
            let traced : trace_for who so_far ≡ trace_for who courses ++ moment.first =
            so_far_trace lines so_far who (Asked asked run) moment
            ∙ ap (λ (earlier : List Course). trace_for who earlier ++ moment.first) first_is in
            let long : length (numbered_in (trace_for who so_far))
            ≡ length (numbered_in (trace_for who courses)) + length (numbered_in moment.first) =
            ap (λ (trace : List Done). length (numbered_in trace)) traced
            ∙ ap length (numbered_both (trace_for who courses) moment.first)
            ∙ length-append (numbered_in (trace_for who courses)) (numbered_in moment.first) in
            absurd (omega (
              arith,
              eqb-true entry.number number rest.0,
              seat.within,
              asked_so,
              ap (λ (trace : List Done). length (numbered_in trace)) (so.seats entry.from seat.seat seat.its).trace,
              ap (λ (who : ℕ). length (numbered_in (trace_for who courses))) from,
              long,
            ))

    -- so it is among those since then, and keeps the ask
    pub found_judged : (entry : AskLog) → next_outcome now so_far who ≡ Some entry
        → IsJudged (denials_by left) now.log entry × (entry.ask ≡ Some (ask_of who number asked))
    found_judged entry found =
        let since = judged_now its_quiet in
        let late : find (is_outcome_for who number) since.others ≡ Some entry =
        ap (λ (early : Option AskLog). option_or early (find (is_outcome_for who number) since.others)) (sym none_before)
        ∙ sym (find-append (is_outcome_for who number) so.now.segs.asks since.others)
        ∙ ap (find (is_outcome_for who number)) (sym since.asks)
        ∙ found in
        let among = find_some (is_outcome_for who number) since.others entry late in
        let whole = on_by_line workload courses parties behind old new line answer given so goes in
        let answered : IsAnsweredSo now.log now.asks who number asked run =
        subst (λ (segs : SegsView). IsAnsweredSo segs.log segs.asks who number asked run)
        (same_Some whole.now.segs now (sym whole.its_segs ∙ now_at))
        (its_outcome lines so_far who asked run moment workload behind new whole) in
        let own : answered.entry ≡ entry = same_Some answered.entry entry (sym answered.logged ∙ found) in (
          All-contains (IsJudged (denials_by left) now.log) since.others entry since.each among.1,
          ap (λ (entry : AskLog). entry.ask) (sym own) ∙ answered.kept,
        )

  allowed_last : (so_far : List Course) (who : ℕ) (asked : PagesAsked) (run : Run) (moment : IsMoment lines so_far who (Asked asked (Some run)))
      → moment.earlier ≡ courses → moment.course ≡ one → WasAllowed workload now so_far who (Asked asked (Some run))
  allowed_last so_far who asked run moment first_is course_is = λ entry generation found granted.
      let its = found_judged so_far who asked (Some run) moment first_is course_is entry found in
      let ask : Ask = ask_of who (length (numbered_in (trace_for who so_far)) + 1) asked in
      subst (λ (validators : List (Validator Bool)).
      denials_by validators asked.socket (bytes_on (table_at now.log generation) asked.socket) None)
      (sym (its_validators so_far who asked (Some run) moment first_is course_is)) (its.0.allowed ask generation its.1 granted).allowed

  denied_last : (so_far : List Course) (who : ℕ) (asked : PagesAsked) (moment : IsMoment lines so_far who (Asked asked None))
      → moment.earlier ≡ courses → moment.course ≡ one → WasDenied workload now so_far who (Asked asked None)
  denied_last so_far who asked moment first_is course_is = λ entry name limit total found refused.
      let its = found_judged so_far who asked None moment first_is course_is entry found in
      let ask : Ask = ask_of who (length (numbered_in (trace_for who so_far)) + 1) asked in
      subst (λ (validators : List (Validator Bool)). denials_by validators asked.socket total (Some (name, limit)))
      (sym (its_validators so_far who asked None moment first_is course_is)) (its.0.denied ask name limit total its.1 refused)

  -- a moment of the lines before
  earlier_moment : (so_far : List Course) (who : ℕ) (done : Done) (moment : IsMoment lines so_far who done) (more : List Course)
      → courses ≡ moment.earlier ++ moment.course ∷ more → IsMoment courses so_far who done
  earlier_moment so_far who done moment more is = record {
    earlier = moment.earlier;
    course = moment.course;
    later = more;
    first = moment.first;
    rest = moment.rest;
    lines = is;
    trace = moment.trace;
    its = moment.its;
    until = moment.until;
  }

  module _ (before : AreJudged workload courses now) where
    allowed_on : (so_far : List Course) (who : ℕ) (done : Done) → IsMoment lines so_far who done → WasAllowed workload now so_far who done
    allowed_on so_far who (Asked asked (Some run)) moment =
        by_place (last_or_earlier courses one moment.earlier moment.course moment.later moment.lines)
      where
        by_place : IsLastOrEarlier courses one moment.earlier moment.course moment.later
            → WasAllowed workload now so_far who (Asked asked (Some run))
        by_place (IsLastOrEarlier.last first_is course_is) = allowed_last so_far who asked run moment first_is course_is
        by_place (IsLastOrEarlier.early more is) =
            before.allowed so_far who (Asked asked (Some run)) (earlier_moment so_far who (Asked asked (Some run)) moment more is)
    allowed_on so_far who (Asked asked None) moment = tt
    allowed_on so_far who _ moment = tt

    denied_on : (so_far : List Course) (who : ℕ) (done : Done) → IsMoment lines so_far who done → WasDenied workload now so_far who done
    denied_on so_far who (Asked asked None) moment =
        by_place (last_or_earlier courses one moment.earlier moment.course moment.later moment.lines)
      where
        by_place : IsLastOrEarlier courses one moment.earlier moment.course moment.later → WasDenied workload now so_far who (Asked asked None)
        by_place (IsLastOrEarlier.last first_is course_is) = denied_last so_far who asked moment first_is course_is
        by_place (IsLastOrEarlier.early more is) =
            before.denied so_far who (Asked asked None) (earlier_moment so_far who (Asked asked None) moment more is)
    denied_on so_far who (Asked asked (Some run)) moment = tt
    denied_on so_far who _ moment = tt

    pub judged_all : AreJudged workload lines now
    judged_all = record { allowed = allowed_on; denied = denied_on }

-- so it is after each line
pub judged_goes_on : JudgedGoesOnByLine
judged_goes_on workload courses parties behind old new line answer was now given so goes was_at now_at judged =
    let its = later_segs (slot_at old MAX_HEAPS) (slot_at new MAX_HEAPS) was now (goes.course.slots MAX_HEAPS) was_at now_at in
    judged_all workload courses parties behind old new line answer given so goes now now_at
    (judged_later workload courses parties old was now so (same_Some so.now.segs was (sym so.its_segs ∙ was_at)) its.more its.outcomes its.log
    its.asks judged)
