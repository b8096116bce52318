-- Where lines are done one after another, what a participant is handed after an await holds what the lines that it awaited had seen and done.
use Rattle.std.proofs.Common.{◌≡◌, ◌∙◌, ◌==◌, ℕ, ◌≤◌, List, [], ◌∷◌, ◌++◌, drop, filter_map, length, map, take, Some, refl, ap, sym, subst, arith, inl, inr}
use Rattle.std.specs.List.{All}
use Rattle.std.specs.Prelude.{Contains, slice_get}
use Rattle.std.proofs.lemmas.List.{take-append-drop}
use Rattle.std.proofs.lemmas.List.Elements.{All-contains, filter-append}
use Rattle.hp_heap.proofs.AllocFacts.ChoiceLaw.{Contains-cases, Contains-here, Contains-none, Contains-there}
use Rattle.hp_heap.proofs.Members.{Contains-image}
use Rattle.hp_heap.specs.History.{HeapView}
use Rattle.hp_heap.specs.declared.entry.Entry.{Entry}
use Rattle.hp_proc.specs.AwaitedNames.{AreAwaitedFor, HoldCallsOf, ReadsOn, names_read}
use Rattle.hp_proc.specs.Awaits.{calls_within}
use Rattle.hp_proc.specs.Doing.{Done}
use Rattle.hp_proc.specs.Doing.Done.{NamesChanged, NamesRead}
use Rattle.hp_proc.specs.Ends.{history_by, none_made}
use Rattle.hp_proc.specs.Handed.{names_shown, state_seen}
use Rattle.hp_proc.specs.LinesDone.{Course, courses_of, trace_of}
use Rattle.hp_proc.specs.OneThread.{names_by}
use Rattle.hp_proc.specs.SharedNames.{SharedNames, names_with, no_changes}
use Rattle.hp_script.specs.Facts.{AwaitEarlier}
use Rattle.hp_script.specs.declared.line.Act.TheVariants as act
use Rattle.hp_script.specs.declared.workload.Workload.{Workload}
use Rattle.thm_run.proofs.AwaitedInOrder.{awaits_few, first_lines, own_at, stands_early, trace_both}
use Rattle.thm_run.proofs.HallFacts.HallHeaps.{all_from_places}
use Rattle.thm_run.proofs.NamesEnd.NamesChain.{AreLater, AreOnward, front_is, later_on, onward_whole}
use Rattle.thm_run.proofs.NamesEnd.NamesInOrder.{lines_show}
use Rattle.thm_run.proofs.NamesEnd.StatesHanded.{seen_there}
use Rattle.thm_run.proofs.PickedFronts.{left, lines_rise}
use Rattle.thm_run.proofs.Rising.{above_floor}
use Rattle.thm_run.specs.Handing.{AreOfLinesBefore}

-- names that are shown on the way are later than the first and earlier than the last
later_of : (low : SharedNames) (shown : List SharedNames) (high one : SharedNames) → AreOnward low shown high → Contains shown one → AreLater low one
later_of low [] high one on among = absurd (Contains-none one among)
later_of low (names ∷ shown) high one on among = elim (Contains-cases names one shown among) [
  | inl same ↦ subst (AreLater low) same on.0
  | inr rest ↦ later_on low names one on.0 (later_of names shown high one on.1 rest)
]

earlier_of : (low : SharedNames) (shown : List SharedNames) (high one : SharedNames) → AreOnward low shown high → Contains shown one → AreLater one high
earlier_of low [] high one on among = absurd (Contains-none one among)
earlier_of low (names ∷ shown) high one on among = elim (Contains-cases names one shown among) [
  | inl same ↦ subst (λ (one : SharedNames). AreLater one high) same (onward_whole names shown high on.1)
  | inr rest ↦ earlier_of names shown high one on.1 rest
]

-- what a first part shows is shown
shown_first : (known : SharedNames) (first rest : List Done) (one : SharedNames) → Contains (names_shown known first) one
    → Contains (names_shown known (first ++ rest)) one
shown_first known [] rest one among = absurd (Contains-none one among)
shown_first known (NamesRead names ∷ first) rest one among = elim (Contains-cases names one (names_shown names first) among) [
  | inl same ↦ subst (Contains (names ∷ names_shown names (first ++ rest))) same (Contains-here names (names_shown names (first ++ rest)))
  | inr later ↦ Contains-there names one (names_shown names (first ++ rest)) (shown_first names first rest one later)
]
shown_first known (NamesChanged change ∷ first) rest one among =
    let next : SharedNames = names_with known change in
    elim (Contains-cases next one (names_shown next first) among) [
      | inl same ↦ subst (Contains (next ∷ names_shown next (first ++ rest))) same (Contains-here next (names_shown next (first ++ rest)))
      | inr later ↦ Contains-there next one (names_shown next (first ++ rest)) (shown_first next first rest one later)
    ]
shown_first known (_ ∷ first) rest one among = shown_first known first rest one among

-- and what is read is shown
read_shown : (known : SharedNames) (trace : List Done) (one : SharedNames) → Contains (filter_map names_read trace) one
    → Contains (names_shown known trace) one
read_shown known [] one among = absurd (Contains-none one among)
read_shown known (NamesRead names ∷ trace) one among = elim (Contains-cases names one (filter_map names_read trace) among) [
  | inl same ↦ subst (Contains (names ∷ names_shown names trace)) same (Contains-here names (names_shown names trace))
  | inr later ↦ Contains-there names one (names_shown names trace) (read_shown names trace one later)
]
read_shown known (NamesChanged change ∷ trace) one among =
    let next : SharedNames = names_with known change in
    Contains-there next one (names_shown next trace) (read_shown next trace one among)
read_shown known (_ ∷ trace) one among = read_shown known trace one among

module _ (workload : Workload) (courses : List Course) (heaps : List HeapView)
    (in_order : (index : ℕ) (heap : HeapView) → slice_get heaps index ≡ Some heap
    → heap.history ≡ history_by heap.plain.index none_made courses)
    (awaits : AwaitEarlier workload.participants (map (λ course. course.line) courses)) (are : AreOfLinesBefore workload courses)
    (who place other lines : ℕ) (course : Course) (there : slice_get (courses_of who courses) place ≡ Some course)
    (deed : course.line.act ≡ act.Await other lines) where
  abbrev earlier : List Course
  earlier = (own_at who courses place course there).earlier

  abbrev onward : List Course
  onward = course ∷ (own_at who courses place course there).later

  lines_are : courses ≡ earlier ++ onward
  lines_are = (own_at who courses place course there).lines

  enough : lines ≤ length (courses_of other earlier)
  enough =
      awaits_few workload.participants courses earlier course (own_at who courses place course there).later other lines awaits lines_are deed

  -- the lines that were awaited are among those that stand first, and what is done from the await on among the others
  awaited_are : take lines (courses_of other courses) ≡ take lines (courses_of other earlier)
  awaited_are = ap (λ (courses : List Course). take lines (courses_of other courses)) lines_are ∙ first_lines other lines earlier onward enough

  front_same : {X : Type 0} (front one rest more : List X) → front ++ one ≡ rest ++ more → front ≡ rest → one ≡ more
  front_same [] one [] more both same = both
  front_same [] one (x ∷ rest) more both same = cc
  front_same (x ∷ front) one [] more both same = cc
  front_same (x ∷ front) one (y ∷ rest) more both same =
      let further : front ++ one ≡ rest ++ more = cc in
      let fronts : front ≡ rest = cc in
      front_same front one rest more further fronts

  on_are : drop place (courses_of who courses) ≡ courses_of who onward
  on_are =
      front_same (take place (courses_of who courses)) (drop place (courses_of who courses)) (courses_of who earlier) (courses_of who onward)
      (take-append-drop place (courses_of who courses)
      ∙ ap (courses_of who) lines_are
      ∙ filter-append (λ (course : Course). course.line.participant == who) earlier onward)
      (own_at who courses place course there).own

  names_hold : ReadsOn (names_shown no_changes (trace_of (take lines (courses_of other courses))))
      (filter_map names_read (trace_of (drop place (courses_of who courses))))
  names_hold before after shown read =
      let first : List Done = trace_of (take lines (courses_of other earlier)) in
      let rest : List Done = trace_of (drop lines (courses_of other earlier)) in
      let all : trace_of (courses_of other earlier) ≡ first ++ rest =
      ap trace_of (sym (take-append-drop lines (courses_of other earlier)))
      ∙ trace_both (take lines (courses_of other earlier)) (drop lines (courses_of other earlier)) in
      let among : Contains (names_shown no_changes (trace_of (courses_of other earlier))) before =
      subst (λ (trace : List Done). Contains (names_shown no_changes trace) before) (sym all)
      (shown_first no_changes first rest before
      (subst (λ (lines : List Course). Contains (names_shown no_changes (trace_of lines)) before) awaited_are shown)) in
      let later : Contains (names_shown no_changes (trace_of (courses_of who onward))) after =
      read_shown no_changes (trace_of (courses_of who onward)) after
      (subst (λ (lines : List Course). Contains (filter_map names_read (trace_of lines)) after) on_are read) in
      let here : AreLater before (names_by earlier) =
      earlier_of no_changes (names_shown no_changes (trace_of (courses_of other earlier))) (names_by earlier) before
      (lines_show workload courses are [] earlier onward lines_are other no_changes) among in
      let there : AreLater (names_by earlier) after =
      later_of (names_by earlier) (names_shown no_changes (trace_of (courses_of who onward))) (names_by (earlier ++ onward)) after
      (lines_show workload courses are earlier onward [] (lines_are ∙ ap (λ (rest : List Course). earlier ++ rest) (sym (nothing_more onward))) who no_changes) later in
      let both = later_on before (names_by earlier) after here there in
      record {
        zones = front_is after.zones before.zones both.zones;
        heaps = front_is after.heaps before.heaps both.heaps;
      }
    where
      nothing_more : (courses : List Course) → courses ++ [] ≡ courses
      nothing_more [] = refl
      nothing_more (course ∷ courses) = ap (λ (rest : List Course). course ∷ rest) (nothing_more courses)

  states_hold : (heap : HeapView) (history : heap.history ≡ history_by heap.plain.index none_made courses)
      → HoldCallsOf other (calls_within other lines courses) (trace_of (drop place (courses_of who courses))) heap
  states_hold heap history state seen early entry at_entry its few =
      let index : ℕ = heap.plain.index in
      let among : Contains (filter_map (state_seen index) (trace_of (courses_of who onward))) state =
      subst (λ (lines : List Course). Contains (filter_map (state_seen index) (trace_of lines)) state) on_are seen in
      let rises =
      lines_rise index (state_seen index) length courses
      (λ before course later first rest done state lines trace seen.
      ap length (seen_there workload courses heap history are before course later first rest done state lines trace seen)) who earlier onward
      lines_are in
      let above : left index earlier ≤ length state =
      among_above (left index earlier) (filter_map (state_seen index) (trace_of (courses_of who onward))) state among
      (above_floor (left index earlier) (left index (earlier ++ onward)) (map length (filter_map (state_seen index) (trace_of (courses_of who onward))))
      rises) in
      let before =
      stands_early workload.participants courses awaits who place other lines index course there deed early entry
      (subst (λ (entries : List Entry). slice_get entries early ≡ Some entry) history at_entry) its few in
      omega (arith, above, before)
    where
      among_above : (floor : ℕ) (states : List (List Entry)) (state : List Entry) → Contains states state
          → All (λ (n : ℕ). floor ≤ n) (map length states) → floor ≤ length state
      among_above floor states state among all =
          All-contains (λ (n : ℕ). floor ≤ n) (map length states) (length state) all (Contains-image length states state among)

-- each await was answered when the lines that it names were done
pub awaited_for : (workload : Workload) (courses : List Course) (heaps : List HeapView)
    → ((index : ℕ) (heap : HeapView) → slice_get heaps index ≡ Some heap → heap.history ≡ history_by heap.plain.index none_made courses)
    → AwaitEarlier workload.participants (map (λ course. course.line) courses) → AreOfLinesBefore workload courses → AreAwaitedFor courses heaps
awaited_for workload courses heaps in_order awaits are who place other lines course there deed = record {
  names = names_hold workload courses heaps in_order awaits are who place other lines course there deed;
  states = all_from_places
      (HoldCallsOf other (calls_within other lines courses) (trace_of (drop place (courses_of who courses)))) heaps
      (λ index heap at. states_hold workload courses heaps in_order awaits are who place other lines course there deed heap (in_order index heap at));
}
