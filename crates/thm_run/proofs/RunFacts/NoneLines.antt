-- Of all lines, those that are answered that there is no memory were granted none: what was granted to a line fits its asks, and its calls
-- are legal in the histories of the heaps.
use Rattle.std.proofs.Common.{◌≡◌, ◌≢◌, ℕ, ◌+◌, ◌<◌, cond, List, [], ◌∷◌, ◌++◌, length, Option, Some, None, inl, inr, refl, ap, sym, subst, append_assoc, eq-eqb}
use Rattle.std.specs.List.{All}
use Rattle.std.proofs.lemmas.Bool.{cases_eq, ne_eqb}
use Rattle.std.proofs.lemmas.List.Elements.{All-cons, All-head, All-nil, All-tail}
use Rattle.hp_heap.specs.History.{HeapView, IsLegal, IsSound}
use Rattle.hp_heap.specs.PlainHeap.{opening_heap}
use Rattle.hp_heap.specs.declared.entry.Entry.{Entry}
use Rattle.hp_script.specs.declared.workload.Workload.{Workload}
use Rattle.hp_segs.specs.SegsView.{SegsView}
use Rattle.hp_segs.specs.Sound as segments
use Rattle.hp_proc.specs.Courses.{Standing, after_line, calls_in, numbered_in}
use Rattle.hp_proc.specs.Ends.{history_by, none_made}
use Rattle.hp_proc.specs.Histories.{entries_for}
use Rattle.hp_proc.specs.LinesDone.{AreDone, Course, IsNoneUngranted, courses_of, opening_standing, trace_of}
use Rattle.hp_proc.specs.Outcomes.{AreAnsweredSo}
use Rattle.hp_proc.specs.Seen.{counted_on}
use Rattle.thm_run.proofs.RunFacts.NoneGranted.{AreLegal, granted_fits, none_granted}
use Rattle.thm_run.proofs.SeenAndShown.SeenTraces.{AreAnsweredFrom, answered_from, behind_answered, front_answered}
use Rattle.thm_run.specs.SoFar.{IsOfDeclared}

-- entries are legal in a heap's history, after others
pub record AreLegalLast (entries : List Entry) : Type 0 where
  pub opened : ℕ
  pub serves : Option ℕ
  pub earlier : List Entry
  pub legal : IsLegal (opening_heap opened serves) (earlier ++ entries)

-- so is the history of a sound heap, and nothing
pub legal_history : (heap : HeapView) → IsSound heap → AreLegalLast heap.history
legal_history heap sound =
    record { opened = heap.plain.index; serves = heap.plain.serves; earlier = []; legal = sound.stands.legal }

pub legal_nothing : AreLegalLast []
legal_nothing = record { opened = 0; serves = None; earlier = []; legal = tt }

-- the first of them are, and the rest
first_legal : (entries rest : List Entry) → AreLegalLast (entries ++ rest) → AreLegal entries
first_legal entries rest is =
    record { opened = is.opened; serves = is.serves; earlier = is.earlier; later = rest; legal = is.legal }

rest_legal : (entries rest : List Entry) → AreLegalLast (entries ++ rest) → AreLegalLast rest
rest_legal entries rest is = record {
  opened = is.opened;
  serves = is.serves;
  earlier = is.earlier ++ entries;
  legal = subst (IsLegal (opening_heap is.opened is.serves)) (sym (append_assoc is.earlier entries rest)) is.legal;
}

module _ (workload : Workload) (segs : SegsView) (sound : segments.IsSound segs) where
  -- the lines of a participant are done by what earlier ones left, and their asks are answered from a number on
  record AreWell (who : ℕ) (courses : List Course) : Type 0 where
    pub standing : Standing
    pub done : AreDone workload standing (courses_of who courses)
    pub number : ℕ
    pub answered : AreAnsweredFrom segs.log segs.asks who number (trace_of (courses_of who courses))

  module _ (course : Course) (courses : List Course) where
    abbrev by : ℕ
    by = course.line.participant

    own_lines : courses_of by (course ∷ courses) ≡ course ∷ courses_of by courses
    own_lines = ap (λ own. cond own (course ∷ courses_of by courses) (courses_of by courses)) (eq-eqb by by refl)

    -- the first line, and those after it
    record FirstIsWell : Type 0 where
      pub standing : Standing
      pub done : AreDone workload standing (course ∷ courses_of by courses)
      pub number : ℕ
      pub answered : AreAnsweredFrom segs.log segs.asks by number (course.trace ++ trace_of (courses_of by courses))

    first_well : AreWell by (course ∷ courses) → FirstIsWell
    first_well well = record {
      standing = well.standing;
      done = subst (AreDone workload well.standing) own_lines well.done;
      number = well.number;
      answered = subst (λ courses. AreAnsweredFrom segs.log segs.asks by well.number (trace_of courses)) own_lines well.answered;
    }

    rest_well : FirstIsWell → AreWell by courses
    rest_well first = record {
      standing = after_line course.line course.answer course.trace first.standing;
      done = first.done.1;
      number = first.number + length (numbered_in course.trace);
      answered = behind_answered segs.log segs.asks by first.number (first.number + length (numbered_in course.trace)) course.trace
          (trace_of (courses_of by courses)) refl first.answered;
    }

    other_well : (other : ℕ) → by ≢ other → AreWell other (course ∷ courses) → AreWell other courses
    other_well other beside well =
        let lines : courses_of other (course ∷ courses) ≡ courses_of other courses =
        ap (λ own. cond own (course ∷ courses_of other courses) (courses_of other courses)) (ne_eqb by other beside) in
        record {
          standing = well.standing;
          done = subst (AreDone workload well.standing) lines well.done;
          number = well.number;
          answered = subst (λ courses. AreAnsweredFrom segs.log segs.asks other well.number (trace_of courses)) lines well.answered;
        }

    -- the first line was granted none, where it is answered so
    first_none : (calls : ℕ) → FirstIsWell → ((index : ℕ) → AreLegal (entries_for by index calls (calls_in course.trace)))
        → IsNoneUngranted course
    first_none calls first legals =
        let answered = front_answered segs.log segs.asks by first.number course.trace (trace_of (courses_of by courses)) first.answered in
        none_granted by calls course.trace
        (λ place asked run there.
        granted_fits segs by (first.number + place) asked run sound (answered place asked (Some run) there)) legals workload first.standing
        course refl first.done.0

  none_each : (count : ℕ) (made : ℕ → ℕ) (courses : List Course) → All (IsOfDeclared count) courses
      → ((who : ℕ) → who < count → AreWell who courses) → ((index : ℕ) → AreLegalLast (history_by index made courses))
      → All IsNoneUngranted courses
  none_each count made [] declared well legals = All-nil IsNoneUngranted
  none_each count made (course ∷ courses) declared well legals =
      let who = course.line.participant in
      let its = All-head (IsOfDeclared count) course courses declared in
      let next = counted_on made who (length (calls_in course.trace)) in
      let first = first_well course courses (well who its.declared) in
      All-cons IsNoneUngranted course courses
      (first_none course courses (made who + 1) first
      (λ index. first_legal (entries_for who index (made who + 1) (calls_in course.trace)) (history_by index next courses) (legals index)))
      (none_each count next courses (All-tail (IsOfDeclared count) course courses declared)
      (λ other below. elim (cases_eq who other) [
        | inl same ↦ subst (λ other. AreWell other courses) same (rest_well course courses first)
        | inr beside ↦ other_well course courses other beside (well other below)
      ])
      (λ index. rest_legal (entries_for who index (made who + 1) (calls_in course.trace)) (history_by index next courses) (legals index)))

  -- so it is with all lines, after which the histories of the heaps are legal and each ask has its outcome
  pub none_lines : (count : ℕ) (courses : List Course) → All (IsOfDeclared count) courses
      → ((who : ℕ) → who < count → AreDone workload (opening_standing workload who) (courses_of who courses))
      → ((who : ℕ) → who < count → AreAnsweredSo segs.log segs.asks who (trace_of (courses_of who courses)))
      → ((index : ℕ) → AreLegalLast (history_by index none_made courses)) → All IsNoneUngranted courses
  none_lines count courses declared done answered legals =
      none_each count none_made courses declared
      (λ who below. record {
        standing = opening_standing workload who;
        done = done who below;
        number = 1;
        answered = answered_from segs.log segs.asks who (trace_of (courses_of who courses)) (answered who below);
      })
      legals
