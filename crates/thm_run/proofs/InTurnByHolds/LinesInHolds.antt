-- A participant's way by its lines: it is a path, and what its lines say was done in its own holds; and a line, or servings, from a seat.
use Rattle.std.proofs.Common.{◌≡◌, ◌∙◌, ℕ, ◌+◌, ◌<◌, ◌≤◌, List, [], ◌∷◌, ◌++◌, length, None, Some, refl, ap, sym, subst, arith, append-nil, append_assoc}
use Rattle.std.specs.List.{All}
use Rattle.std.specs.Prelude.{Contains}
use Rattle.std.proofs.lemmas.List.Elements.{All-nil, All-push, Contains-append_left, Contains-append_right}
use Rattle.hp_heap.proofs.AllocFacts.ChoiceLaw.{Contains-here}
use Rattle.hp_base.specs.declared.limits.TheConstants.{MAX_PARTICIPANTS}
use Rattle.hp_hall.specs.Mail.{MailStep}
use Rattle.hp_script.specs.declared.workload.Workload.{Workload}
use Rattle.hp_segs.specs.SegsView.{SegsView}
use Rattle.hp_segs.specs.declared.ask.Ask.{Ask}
use Rattle.hp_proc.specs.Courses.{Standing, after_line, numbered_in}
use Rattle.hp_proc.specs.Doing.{Done}
use Rattle.hp_proc.specs.LinesDone.{Course, trace_of}
use Rattle.hp_weave.specs.Holds.{Hold}
use Rattle.thm_run.proofs.InTurnByHolds.ActsInHolds.{IsDoneOn, acts_on, acts_rise, growths_acts, path_on, path_rises}
use Rattle.thm_run.proofs.GrownHeaps.GrowthsAlone.{growths_past, of_no_heap}
use Rattle.thm_run.proofs.InTurnByHolds.HoldsLeft.{AreLeft, IsAnswered}
use Rattle.thm_run.proofs.InTurnByHolds.HoldsOfPaths.{does_then, holds_then, none_at_all}
use Rattle.thm_run.proofs.LineSteps.LineMore.{trace_more}
use Rattle.thm_run.proofs.PathSteps.Paths.{path_then}
use Rattle.thm_run.proofs.PathSteps.PathsActing.{ended_after, line_path}
use Rattle.thm_run.proofs.PathSteps.PathsWaiting.{serves_path}
use Rattle.thm_run.proofs.SeenAndShown.SeenTraces.{AreAnsweredFrom, answered_from, behind_answered, front_answered}
use Rattle.thm_run.proofs.ServesNoHeap.{serves_leaves}
use Rattle.thm_run.proofs.TracesTold.ToldNumbers.{long}
use Rattle.thm_run.specs.Apart.{holds_from}
use Rattle.thm_run.specs.ByRuns.{AreLinesIn, IsDeedIn}
use Rattle.thm_run.specs.OwnHolds.{DoesInHolds}
use Rattle.thm_run.specs.OwnLines.{HoldsByLines, IsOfGood, LineInSeat, NoneElseGrowsAlong, ServesInSeat, WayByLines, WentByLines}
use Rattle.thm_run.specs.Seats.{EndedLine, SeatTrace, Seat}

-- FROM A SEAT

pub line_in_seat : LineInSeat
line_in_seat count held doer mid course steps seat acts once names awaited deadline party standing leaves =
    let deed = course.line.act in
    let comes =
    line_path count doer.party.me held doer mid deed course.answer course.trace steps acts refl deadline seat party standing in
    let ended : EndedLine = ended_after mid deed course.answer (seat.trace ++ course.trace) in (
      comes.new,
      comes.party,
      comes.standing,
      record {
        doer = doer;
        mid = mid;
        begins = party;
        ends = comes.party;
        me = refl;
        deadline = deadline;
        held = held;
        once = once;
        acts = acts;
        names = names;
        awaited = awaited;
        path = comes.path;
        trace = comes.trace;
        lines = comes.lines
            ∙ ap (λ (left : Standing). seat.lines ++ record ended { records = left.records } ∷ []) (sym comes.standing)
            ∙ ap
            (λ (trace : List Done). seat.lines
            ++ record ended { records = comes.new.standing.records; numbered = length (numbered_in trace) } ∷ []) (sym comes.trace);
        left = comes.standing ∙ (leaves ∙ ap (after_line course.line course.answer course.trace) (sym standing));
      },
    )

pub serves_in_seat : ServesInSeat
serves_in_seat count party after steps seat served is =
    let comes = serves_path count party.me party after steps seat served refl is in (
      comes.new,
      comes.party,
      comes.standing,
      comes.trace ∙ append-nil seat.trace,
      comes.lines ∙ append-nil seat.lines,
      comes.path,
      of_no_heap steps (serves_leaves count party after steps served).none,
    )

-- A WAY

pub way_by_lines : WayByLines
way_by_lines count who _ _ _ _ (WentByLines.begins seat) = (SeatTrace.ends seat, sym (append-nil seat.trace))
way_by_lines count who _ _ _ _ (WentByLines.beside first old new courses before steps went path same stays none) =
    let so = way_by_lines count who first old courses before went in
    (path_then count who first old new before steps so.0 path, same ∙ so.1)
way_by_lines count who _ _ _ _ (WentByLines.does_line first old new courses course before steps went is) =
    let so = way_by_lines count who first old courses before went in (
      path_then count who first old new before steps so.0 is.path,
      is.trace
          ∙ (ap (λ trace. trace ++ course.trace) so.1
          ∙ (append_assoc first.trace (trace_of courses) course.trace
          ∙ ap (λ trace. first.trace ++ trace) (sym (trace_more courses course)))),
    )

-- its lines that have ended are lines of the workload, where these courses are of its lines
pub way_ended : {count who : ℕ} {first last : Seat} {courses : List Course} {steps : List MailStep} (workload : Workload)
    → WentByLines count who first last courses steps → first.lines ≡ []
    → ((course : Course) → Contains courses course → Contains workload.lines.items course.line) → AreLinesIn workload last.lines
way_ended workload (WentByLines.begins seat) none among =
    subst (AreLinesIn workload) (sym none) (All-nil (λ (line : EndedLine). IsDeedIn workload line.deed))
way_ended workload (WentByLines.beside first old new courses before steps went path same stays outside) none among =
    subst (AreLinesIn workload) (sym stays.lines) (way_ended workload went none among)
way_ended workload (WentByLines.does_line first old new courses course before steps went is) none among =
    subst (AreLinesIn workload) (sym is.lines)
    (All-push (λ (line : EndedLine). IsDeedIn workload line.deed) old.lines _
    (way_ended workload went none (λ one earlier. among one (Contains-append_left courses (course ∷ []) one earlier)))
    (record {
      line = course.line;
      among = among course (Contains-append_right courses (course ∷ []) course (Contains-here course []));
      its = refl;
    }))

-- no heap is in hand after it
pub growths_went : {count who : ℕ} {first last : Seat} {courses : List Course} {steps : List MailStep}
    → WentByLines count who first last courses steps → (more : List MailStep) → NoneElseGrowsAlong who None (steps ++ more)
    → NoneElseGrowsAlong who None more
growths_went (WentByLines.begins seat) more along = along
growths_went {count} {who} (WentByLines.beside first old new courses before steps went path same stays none) more along =
    growths_past who None steps more none
    (growths_went went (steps ++ more) (subst (NoneElseGrowsAlong who None) (append_assoc before steps more) along))
growths_went {count} {who} (WentByLines.does_line first old new courses course before steps went is) more along =
    growths_acts who is.acts more
    (growths_went went (steps ++ more) (subst (NoneElseGrowsAlong who None) (append_assoc before steps more) along))

-- each ask and each notice took a number
pub went_least : {count who : ℕ} {first last : Seat} {courses : List Course} {steps : List MailStep}
    → WentByLines count who first last courses steps → length (numbered_in (trace_of courses)) ≤ last.party.asked
went_least {count} {who} {first} {last} {courses} {steps} went =
    let so = way_by_lines count who first last courses steps went in
    let whole : length (numbered_in last.trace) ≡ length (numbered_in first.trace) + length (numbered_in (trace_of courses)) =
    ap (λ trace. length (numbered_in trace)) so.1 ∙ long first.trace (trace_of courses) in
    omega (arith, path_rises so.0, whole)

module _ (count who : ℕ) (last : SegsView) (few : who < MAX_PARTICIPANTS) where
  -- by which it did in its holds what its lines say
  went_on : {first now : Seat} {courses : List Course} {steps : List MailStep} → WentByLines count who first now courses steps
      → now.party.asked ≤ length (numbered_in (trace_of courses)) → AreAnsweredFrom last.log last.asks who 1 (trace_of courses)
      → (more : List MailStep) → NoneElseGrowsAlong who None (steps ++ more) → (others : List (Hold SegsView)) (from : SegsView)
      → AreLeft who last (holds_from who None steps ++ others) from → IsAnswered who from
      → IsDoneOn count who last 1 (trace_of courses) steps others
  went_on (WentByLines.begins seat) exact answers more along others from left was =
      record { does = DoesInHolds.ends 1; to = from; left = left; answered = was }
  went_on (WentByLines.beside first old new courses before steps went path same stays none) exact answers more along others from left was =
      let early : List (Hold SegsView) = holds_from who None before in
      let late : List (Hold SegsView) = holds_from who None steps in
      let all : holds_from who None (before ++ steps) ≡ early ++ late =
      holds_then steps (way_by_lines count who first old courses before went).0 in
      let next : ℕ = 1 + length (numbered_in (trace_of courses)) in
      let here =
      went_on went (omega (arith, path_rises path, ap (λ trace. length (numbered_in trace)) same, exact)) answers (steps ++ more)
      (subst (NoneElseGrowsAlong who None) (append_assoc before steps more) along) (late ++ others) from
      (subst (λ holds. AreLeft who last holds from) (ap (λ holds. holds ++ others) all ∙ append_assoc early late others) left) was in
      let further =
      path_on count who last [] next path (same ∙ sym (append-nil old.trace)) none_at_all others here.to here.left here.answered in
      record {
        does = subst (DoesInHolds who 1 (trace_of courses)) (sym all)
            (subst (λ trace. DoesInHolds who 1 trace (early ++ late)) (append-nil (trace_of courses))
            (does_then who next [] late further.does here.does refl));
        to = further.to;
        left = further.left;
        answered = further.answered;
      }
  went_on (WentByLines.does_line first old new courses course before steps went is) exact answers more along others from left was =
      let early : List (Hold SegsView) = holds_from who None before in
      let late : List (Hold SegsView) = holds_from who None steps in
      let all : holds_from who None (before ++ steps) ≡ early ++ late =
      holds_then steps (way_by_lines count who first old courses before went).0 in
      let next : ℕ = 1 + length (numbered_in (trace_of courses)) in
      let traces : trace_of (courses ++ course ∷ []) ≡ trace_of courses ++ course.trace = trace_more courses course in
      let both : length (numbered_in (trace_of (courses ++ course ∷ [])))
      ≡ length (numbered_in (trace_of courses)) + length (numbered_in course.trace) =
      ap (λ trace. length (numbered_in trace)) traces ∙ long (trace_of courses) course.trace in
      let rises = acts_rise is.acts is.me is.deadline old in
      let begins = ap (λ party. party.asked) is.begins in
      let ends = ap (λ party. party.asked) is.ends in
      let least = went_least went in
      let whole : AreAnsweredFrom last.log last.asks who 1 (trace_of courses ++ course.trace) =
      subst (AreAnsweredFrom last.log last.asks who 1) traces answers in
      let on : NoneElseGrowsAlong who None (before ++ (steps ++ more)) =
      subst (NoneElseGrowsAlong who None) (append_assoc before steps more) along in
      let here =
      went_on went (omega (arith, rises, begins, ends, exact, both))
      (front_answered last.log last.asks who 1 (trace_of courses) course.trace whole) (steps ++ more) on (late ++ others) from
      (subst (λ holds. AreLeft who last holds from) (ap (λ holds. holds ++ others) all ∙ append_assoc early late others) left) was in
      let further =
      acts_on count who last few next is.acts is.me is.deadline old (omega (arith, rises, begins, ends, exact, both, least))
      (omega (arith, begins, ends, exact, both, least))
      (behind_answered last.log last.asks who 1 next (trace_of courses) course.trace refl whole) more (growths_went went (steps ++ more) on)
      others here.to here.left here.answered in
      record {
        does = subst (λ trace. DoesInHolds who 1 trace (holds_from who None (before ++ steps))) (sym traces)
            (subst (DoesInHolds who 1 (trace_of courses ++ course.trace)) (sym all)
            (does_then who next course.trace late further.does here.does refl));
        to = further.to;
        left = further.left;
        answered = further.answered;
      }

pub holds_by_lines : HoldsByLines
holds_by_lines count who first last courses steps start end holds went zero none counted answered has =
    let so = way_by_lines count who first last courses steps went in
    let traces : last.trace ≡ trace_of courses = so.1 ∙ ap (λ trace. trace ++ trace_of courses) none in
    let exact = ap (λ trace. length (numbered_in trace)) traces in
    let ends : holds_from who None steps ++ [] ≡ holds_from who None steps = append-nil (holds_from who None steps) in
    let done =
    went_on count who end has.few went (omega (arith, counted, exact)) (answered_from end.log end.asks who (trace_of courses) answered) []
    (subst (NoneElseGrowsAlong who None) (sym (append-nil steps)) has.alone) [] start
    (record {
      all = holds;
      chain = has.chain;
      each = has.each;
      own = has.own ∙ sym ends;
      good = subst (All IsOfGood) (sym ends) has.good;
    })
    (λ ask is. absurd (never ask (sym has.unarmed ∙ is))) in
    subst (DoesInHolds who 1 (trace_of courses)) (sym has.own) done.does
  where
    never : (ask : Ask) → None ≡ Some ask → ⊥
    never ask same = cc
