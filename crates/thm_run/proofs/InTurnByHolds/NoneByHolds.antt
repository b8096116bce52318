-- Of lines that made their calls of a heap in one hold of that none is granted memory and answered that there is none; and entries came in
-- one hold where they are what its participant made there.
use Rattle.std.proofs.Common.{◌≡◌, ◌∙◌, ◌==◌, ℕ, ◌+◌, ◌<◌, Bool, true, false, cond, List, [], ◌∷◌, ◌++◌, length, Some, None, inl, inr, refl, ap, sym, subst, append-nil, eq-eqb}
use Rattle.std.specs.List.{All}
use Rattle.std.proofs.lemmas.List.Elements.{All-cons, All-head, All-nil, All-tail}
use Rattle.hp_hall.specs.Giving.{IsNumbered}
use Rattle.hp_heap.specs.History.{HeapView, IsLegal, IsSound, entries_of}
use Rattle.hp_heap.specs.PlainHeap.{opening_heap}
use Rattle.hp_heap.specs.declared.entry.Entry.{Entry}
use Rattle.hp_plain.proofs.Given.{entries_of-append}
use Rattle.hp_script.specs.declared.workload.Workload.{Workload}
use Rattle.hp_segs.specs.SegsView.{SegsView}
use Rattle.hp_segs.specs.Sound as segments
use Rattle.hp_proc.specs.Courses.{Standing, after_line, calls_in, numbered_in}
use Rattle.hp_proc.specs.Histories.{entries_for}
use Rattle.hp_proc.specs.LinesDone.{AreDone, Course, IsNoneUngranted, courses_of, opening_standing, trace_of}
use Rattle.hp_weave.specs.Holds.{Hold}
use Rattle.thm_run.proofs.RunFacts.NoneGranted.{AreLegal, granted_fits, none_granted}
use Rattle.thm_run.proofs.SeenAndShown.SeenTraces.{AreAnsweredFrom, answered_from, behind_answered, front_answered}
use Rattle.thm_run.specs.OwnHolds.{AreInHolds, CameInOneHold, NoneByHolds, StandTogether}

-- what came in one hold is legal after what had come before, and so is nothing
legal_together : (entries : List Entry) → StandTogether entries → AreLegal entries
legal_together entries (inl none) =
    subst AreLegal (sym none) (record { opened = 0; serves = None; earlier = []; later = []; legal = tt })
legal_together entries (inr came) = record {
  opened = came.hold.given.plain.index;
  serves = came.hold.given.plain.serves;
  earlier = came.hold.taken.history;
  later = [];
  legal =
      subst (IsLegal (opening_heap came.hold.given.plain.index came.hold.given.plain.serves))
      (came.came ∙ ap (λ entries. came.hold.taken.history ++ entries) (sym (append-nil entries))) came.sound.stands.legal;
}

-- the lines of one participant
module _ (workload : Workload) (segs : SegsView) (sound : segments.IsSound segs) (who : ℕ) where
  own_lines : (number calls : ℕ) (standing : Standing) (courses : List Course) → AreDone workload standing courses
      → AreAnsweredFrom segs.log segs.asks who number (trace_of courses) → AreInHolds who calls courses → All IsNoneUngranted courses
  own_lines number calls standing [] done answered held = All-nil IsNoneUngranted
  own_lines number calls standing (course ∷ courses) done answered held =
      let first = front_answered segs.log segs.asks who number course.trace (trace_of courses) answered in
      let next : ℕ = number + length (numbered_in course.trace) in
      All-cons IsNoneUngranted course courses
      (none_granted who calls course.trace
      (λ place asked run there. granted_fits segs who (number + place) asked run sound (first place asked (Some run) there))
      (λ heap. legal_together (entries_for who heap calls (calls_in course.trace)) (held.0 heap)) workload standing course refl done.0)
      (own_lines next (calls + length (calls_in course.trace)) (after_line course.line course.answer course.trace standing) courses done.1
      (behind_answered segs.log segs.asks who number next course.trace (trace_of courses) refl answered) held.1)

-- what holds of each participant's lines holds of all
module _ (P : Course → Type 0) (count : ℕ) where
  rest_own : (course : Course) (courses : List Course) (mine : Bool) (who : ℕ)
      → All P (cond mine (course ∷ courses_of who courses) (courses_of who courses)) → All P (courses_of who courses)
  rest_own course courses true who all = All-tail P course (courses_of who courses) all
  rest_own course courses false who all = all

  all_of_each : (courses : List Course) → All (λ course. course.line.participant < count) courses
      → ((who : ℕ) → who < count → All P (courses_of who courses)) → All P courses
  all_of_each [] declared each = All-nil P
  all_of_each (course ∷ courses) declared each =
      let who = course.line.participant in
      let below = All-head (λ (course : Course). course.line.participant < count) course courses declared in
      let own : courses_of who (course ∷ courses) ≡ course ∷ courses_of who courses =
      ap (λ mine. cond mine (course ∷ courses_of who courses) (courses_of who courses)) (eq-eqb who who refl) in
      All-cons P course courses (All-head P course (courses_of who courses) (subst (All P) own (each who below)))
      (all_of_each courses (All-tail (λ (course : Course). course.line.participant < count) course courses declared)
      (λ other below. rest_own course courses (course.line.participant == other) other (each other below)))

pub none_by_holds : NoneByHolds
none_by_holds workload segs count courses sound declared each =
    all_of_each IsNoneUngranted count courses declared (λ who below.
    let its = each who below in
    own_lines workload segs sound who 1 1 (opening_standing workload who) (courses_of who courses) its.done
    (answered_from segs.log segs.asks who (trace_of (courses_of who courses)) its.answered) its.held)

-- WHAT CAME IN ONE HOLD

same_behind : {X : Type 0} (front xs ys : List X) → front ++ xs ≡ front ++ ys → xs ≡ ys
same_behind [] xs ys same = same
same_behind (x ∷ front) xs ys same =
    let rest : front ++ xs ≡ front ++ ys = cc in
    same_behind front xs ys rest

numbered_own : (who count : ℕ) (entries : List Entry) → IsNumbered who count entries → entries_of who entries ≡ entries
unfolding entries_of
numbered_own who count [] numbered = refl
numbered_own who count (entry ∷ entries) numbered =
    let mine : entry.caller.participant ≡ who = ap (λ caller. caller.participant) numbered.0 in
    ap (λ is. cond is (entry ∷ entries_of who entries) (entries_of who entries)) (eq-eqb entry.caller.participant who mine)
    ∙ ap (λ entries. entry ∷ entries) (numbered_own who (count + 1) entries numbered.1)

-- a participant's entries are what came in a hold of its, where its entries in the heap grew by them
pub came_in_one : (who count : ℕ) (hold : Hold HeapView) (own entries : List Entry) → IsSound hold.given
    → hold.given.history ≡ hold.taken.history ++ own → IsNumbered who count own
    → entries_of who hold.given.history ≡ entries_of who hold.taken.history ++ entries → CameInOneHold entries
came_in_one who count hold own entries sound history numbered grew =
    let both : entries_of who hold.taken.history ++ own ≡ entries_of who hold.taken.history ++ entries =
    ap (λ own. entries_of who hold.taken.history ++ own) (sym (numbered_own who count own numbered))
    ∙ (sym (entries_of-append who hold.taken.history own) ∙ (ap (entries_of who) (sym history) ∙ grew)) in
    let same : own ≡ entries = same_behind (entries_of who hold.taken.history) own entries both in
    record { hold = hold; sound = sound; came = history ∙ ap (λ own. hold.taken.history ++ own) same }
