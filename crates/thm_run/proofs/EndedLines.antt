-- How lines ended, one after another.
use Rattle.std.proofs.Common.{◌≡◌, ◌≢◌, ◌∙◌, ◌==◌, ℕ, ◌+◌, List, [], ◌∷◌, ◌++◌, append-nil, length, length-append, Some, refl, ap, sym, subst, arith}
use Rattle.std.specs.List.{All}
use Rattle.std.specs.Prelude.{Contains, slice_get}
use Rattle.std.proofs.lemmas.List.Elements.{All-cons, All-filter, All-head, All-nil, All-tail}
use Rattle.hp_plain.specs.HallView.{HallView}
use Rattle.hp_script.specs.declared.workload.Workload.{Workload}
use Rattle.hp_proc.specs.Courses.{Standing, after_line, numbered_in}
use Rattle.hp_proc.specs.Doing.{Done}
use Rattle.hp_proc.specs.LinesDone.{Course, courses_of, opening_standing, standing_after, trace_of}
use Rattle.hp_serve.specs.Party.{Party}
use Rattle.thm_run.specs.ByRuns.{AreLinesIn, IsDeedIn}
use Rattle.thm_run.specs.Seats.{EndedLine, Seat}
use Rattle.thm_run.specs.SoFar.{SoFar, ended_by, ended_for, standing_of, trace_for}
use Rattle.thm_run.proofs.LineSteps.LineMore.{other_courses, own_courses}
use Rattle.thm_run.proofs.TracesTold.Numbers.{numbered_both}

-- a line as it ended, by what was left then, and with so many numbers
abbrev pub ended_as : Course → Standing → ℕ → EndedLine
ended_as course left numbered =
    record { deed = course.line.act; given = course.answer; records = left.records; numbered = numbered }

long : (trace more : List Done) → length (numbered_in (trace ++ more)) ≡ length (numbered_in trace) + length (numbered_in more)
long trace more = ap length (numbered_both trace more) ∙ length-append (numbered_in trace) (numbered_in more)

-- a line after the others ends after them
pub ended_more : (standing : Standing) (numbered : ℕ) (courses : List Course) (course : Course)
    → ended_by standing numbered (courses ++ course ∷ [])
    ≡ ended_by standing numbered courses
    ++ ended_as course (standing_after standing (courses ++ course ∷ [])) (numbered + length (numbered_in (trace_of (courses ++ course ∷ [])))) ∷ []
ended_more standing numbered [] course =
    ap (λ (trace : List Done). ended_as course (after_line course.line course.answer course.trace standing) (numbered + length (numbered_in trace)) ∷ [])
    (sym (append-nil course.trace))
ended_more standing numbered (first ∷ courses) course =
    let left : Standing = after_line first.line first.answer first.trace standing in
    let all : ℕ = numbered + length (numbered_in first.trace) in
    let rest : List Done = trace_of (courses ++ course ∷ []) in
    let same : all + length (numbered_in rest) ≡ numbered + length (numbered_in (first.trace ++ rest)) =
    omega (arith, long first.trace rest) in
    ap (λ (lines : List EndedLine). ended_as first left all ∷ lines) (ended_more left all courses course)
    ∙ ap
    (λ (n : ℕ). ended_as first left all ∷ (ended_by left all courses ++ ended_as course (standing_after left (courses ++ course ∷ [])) n ∷ []))
    same

module _ (workload : Workload) (who : ℕ) (courses : List Course) (course : Course) where
  abbrev more : List Course
  more = courses ++ course ∷ []

  -- the last one of a participant ends with what is left then
  abbrev pub last_ended : EndedLine
  last_ended = ended_as course (standing_of workload who more) (length (numbered_in (trace_for who more)))

  pub own_ended : course.line.participant ≡ who → ended_for workload who more ≡ ended_for workload who courses ++ last_ended ∷ []
  own_ended own =
      let all : courses_of who more ≡ courses_of who courses ++ course ∷ [] = own_courses who courses course own in
      let none : 0 + length (numbered_in (trace_for who more)) ≡ length (numbered_in (trace_for who more)) = omega arith in
      ap (ended_by (opening_standing workload who) 0) all
      ∙ ended_more (opening_standing workload who) 0 (courses_of who courses) course
      ∙ ap
      (λ (courses_now : List Course). ended_for workload who courses
      ++ ended_as course (standing_after (opening_standing workload who) courses_now) (0 + length (numbered_in (trace_of courses_now))) ∷ [])
      (sym all)
      ∙ ap (λ (n : ℕ). ended_for workload who courses ++ ended_as course (standing_of workload who more) n ∷ []) none

  -- and those of the others are as they were
  pub other_ended : who ≢ course.line.participant → ended_for workload who more ≡ ended_for workload who courses ++ []
  other_ended beside =
      ap (ended_by (opening_standing workload who) 0) (other_courses who courses course beside)
      ∙ sym (append-nil (ended_for workload who courses))

-- lines of the workload that have ended are lines of it
in_by : (workload : Workload) (standing : Standing) (numbered : ℕ) (courses : List Course)
    → All (λ (course : Course). Contains workload.lines.items course.line) courses → AreLinesIn workload (ended_by standing numbered courses)
in_by workload standing numbered [] among = All-nil (λ (line : EndedLine). IsDeedIn workload line.deed)
in_by workload standing numbered (course ∷ courses) among =
    let left : Standing = after_line course.line course.answer course.trace standing in
    let all : ℕ = numbered + length (numbered_in course.trace) in
    All-cons (λ (line : EndedLine). IsDeedIn workload line.deed) (ended_as course left all) (ended_by left all courses)
    (record {
      line = course.line;
      among = All-head (λ (course : Course). Contains workload.lines.items course.line) course courses among;
      its = refl;
    })
    (in_by workload left all courses (All-tail (λ (course : Course). Contains workload.lines.items course.line) course courses among))

pub ended_in : (workload : Workload) (who : ℕ) (courses : List Course)
    → All (λ (course : Course). Contains workload.lines.items course.line) courses → AreLinesIn workload (ended_for workload who courses)
ended_in workload who courses among =
    in_by workload (opening_standing workload who) 0 (courses_of who courses)
    (All-filter (λ (course : Course). course.line.participant == who) (λ (course : Course). Contains workload.lines.items course.line) courses among)

-- and so are those of each participant, as far as a workload was run
pub ended_so_far : (workload : Workload) (courses : List Course) (parties : List Party) (hall : HallView)
    → (so : SoFar workload courses parties hall) → (who : ℕ) (seat : Seat) → slice_get so.now.seats who ≡ Some seat
    → AreLinesIn workload seat.lines
ended_so_far workload courses parties hall so who seat there =
    subst (AreLinesIn workload) (sym (so.seats who seat there).lines) (ended_in workload who courses so.among)
