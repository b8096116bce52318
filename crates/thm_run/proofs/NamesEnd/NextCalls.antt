-- The call that a line makes of a heap whose state it was handed stands directly after that state.
use Rattle.std.proofs.Common.{◌≡◌, ◌∙◌, ◌==◌, ℕ, ◌+◌, Bool, cond, List, [], ◌∷◌, ◌++◌, append-nil, eq-eqb, length, Some, refl, ap, arith}
use Rattle.std.specs.Prelude.{slice_get}
use Rattle.hp_heap.specs.History.{HeapView}
use Rattle.hp_heap.specs.declared.entry.Entry.{Entry}
use Rattle.hp_proc.specs.Awaits.{calls_within}
use Rattle.hp_proc.specs.Courses.{calls_in}
use Rattle.hp_proc.specs.Doing.Done.{HeapSeen, NamesRead}
use Rattle.hp_proc.specs.Ends.{history_by, none_made}
use Rattle.hp_proc.specs.Histories.{entries_for, entry_for}
use Rattle.hp_proc.specs.LinesDone.{Course, trace_of}
use Rattle.hp_proc.specs.NamesAtEnd.{StandsNext}
use Rattle.hp_proc.specs.Seen.{counted_on}
use Rattle.hp_script.specs.declared.workload.Workload.{Workload}
use Rattle.thm_run.proofs.AwaitedInOrder.{own_at, split}
use Rattle.thm_run.proofs.GrownHeaps.GrownLines.{history_append}
use Rattle.thm_run.proofs.PickedFronts.{at}
use Rattle.thm_run.specs.Handing.{AreOfLinesBefore}

stands_there : (front : List Entry) (entry : Entry) (more : List Entry) → slice_get (front ++ entry ∷ more) (length front) ≡ Some entry
stands_there [] entry more = refl
stands_there (one ∷ front) entry more = stands_there front entry more

module _ (workload : Workload) (courses : List Course) (heaps : List HeapView)
    (in_order : (index : ℕ) (heap : HeapView) → slice_get heaps index ≡ Some heap → heap.history ≡ history_by index none_made courses)
    (are : AreOfLinesBefore workload courses) where
  pub stands_next : StandsNext heaps courses
  stands_next who place course names index history rest own heap there trace calls its at_heap =
      let stood = own_at who courses place course there in
      let one : Course = at course (NamesRead names ∷ []) in
      let by : ℕ = course.line.participant in
      let handed : history ≡ history_by index none_made (stood.earlier ++ one ∷ []) =
      are.handed (stood.earlier ++ one ∷ []) by (HeapSeen index history)
      (record {
        earlier = stood.earlier;
        course = course;
        later = stood.later;
        first = NamesRead names ∷ [];
        rest = rest;
        lines = stood.lines;
        trace = trace;
        its = refl;
        until = refl;
      }) in
      let front : List Entry = history_by index none_made stood.earlier in
      let state : history ≡ front =
      handed ∙ history_append index none_made stood.earlier one ∙ append-nil front in
      let parts = split index none_made stood.earlier (course ∷ stood.later) in
      let number : ℕ = calls_within who place courses + 1 in
      let numbers : parts.next by + 1 ≡ number =
      omega (
        arith,
        ap parts.next stood.its,
        parts.counts who,
        ap (λ (courses : List Course). length (calls_in (trace_of courses))) stood.own,
      ) in
      let behind : ℕ → ℕ = counted_on parts.next by (length (calls_in course.trace)) in
      let more : List Entry = history_by index behind stood.later in
      let line : entries_for by index (parts.next by + 1) (calls_in course.trace) ≡ entry_for who number own ∷ [] =
      ap (entries_for by index (parts.next by + 1)) (ap calls_in trace ∙ calls)
      ∙ ap (λ (here : Bool). cond here (entry_for by (parts.next by + 1) own ∷ []) []) (eq-eqb own.heap index its)
      ∙ ap (λ (who : ℕ). entry_for who (parts.next by + 1) own ∷ []) stood.its
      ∙ ap (λ (number : ℕ). entry_for who number own ∷ []) numbers in
      let whole : heap.history ≡ front ++ entry_for who number own ∷ more =
      in_order index heap at_heap
      ∙ ap (history_by index none_made) stood.lines
      ∙ parts.is
      ∙ ap (λ (entries : List Entry). front ++ (entries ++ more)) line in
      ap (λ (entries : List Entry). slice_get entries (length history)) whole
      ∙ ap (λ (state : List Entry). slice_get (front ++ entry_for who number own ∷ more) (length state)) state
      ∙ stands_there front (entry_for who number own) more
