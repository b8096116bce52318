-- Each reading of statistics on a participant's way has its place among the steps.
use Rattle.std.proofs.Common.{◌≡◌, ◌≢◌, ◌⊎◌, ◌∙◌, ℕ, zero, suc, ◌+◌, ◌≤◌, List, [], ◌∷◌, ◌++◌, append-nil, append_assoc, length, length-append, None, inl, inr, ⊎_elim, refl, ap, ap₂, sym, subst, arith}
use Rattle.std.specs.Prelude.{count_by, ◌==◌}
use Rattle.hp_chair.specs.FoundEmptyLaws.{nothing_among, split_at}
use Rattle.hp_hall.specs.Mail.{MailStep, Notes}
use Rattle.hp_hall.specs.declared.note.Note.TheVariants.{ReadStats}
use Rattle.hp_heap.proofs.HistoryFacts.Counting.{count_by-append}
use Rattle.hp_heap.specs.declared.entry.Entry.{Entry}
use Rattle.hp_proc.proofs.Joining.{calls_on}
use Rattle.hp_proc.proofs.LawLemmas.{entries_go_on}
use Rattle.hp_proc.specs.Courses.{OwnCall, calls_in}
use Rattle.hp_proc.specs.Doing.{Counted, Done}
use Rattle.hp_proc.specs.Doing.Done.{StatsRead}
use Rattle.hp_proc.specs.Histories.{entries_for}
use Rattle.hp_proc.specs.LinesDone.{Course, trace_of}
use Rattle.thm_run.proofs.LineSteps.LineMore.{trace_more}
use Rattle.thm_run.specs.OwnLines.{AddsByLines, AreAddedIn, IsLineOf, WentByLines}
use Rattle.thm_run.specs.Seats.{Seat}
use Rattle.thm_home.proofs.ActsApart.{acts_apart, none_of}
use Rattle.thm_home.proofs.ActsSplit.{IsSplit, acts_split, rest_is}
use Rattle.thm_home.proofs.BesideHeap.{AreBeside, acts_free, added, added_after, added_then, held_after, held_beside, held_both, none_added, others_beside}
use Rattle.thm_home.proofs.ReadPlaces.{IsReadAt, IsShown, acts_fresh, pair_among, shown_early, shown_late, way_fresh}

-- of two counts that are 1 at most one is none
one_none : (one other : ℕ) → one + other ≤ 1 → (one ≡ 0) ⊎ (other ≡ 0)
one_none zero other few = inl refl
one_none (suc one) other few = inr (omega (arith, few))

module _ (who index : ℕ) (counted : Counted) where
  abbrev read : Done
  read = StatsRead index counted

  -- the calls on from a number, of two parts of a trace with a reading between them
  both_calls : (number : ℕ) (first rest : List Done) → entries_for who index number (calls_in (first ++ read ∷ rest))
      ≡ entries_for who index number (calls_in first) ++ entries_for who index (number + length (calls_in first)) (calls_in rest)
  both_calls number first rest =
      ap (entries_for who index number) (calls_on first (read ∷ rest)) ∙ entries_go_on who index number (calls_in first) (calls_in rest)

  -- BESIDE ITS LINES IT ADDS NOTHING

  read_beside : (first rest : List Done) (steps more : List MailStep) → IsReadAt who index first rest counted steps → AreBeside index more
      → IsReadAt who index first rest counted (steps ++ more)
  read_beside first rest steps more at beside = record {
    pair = at.pair;
    is = at.is;
    before = at.before;
    behind = at.behind ++ more;
    steps_are = ap (λ (l : List MailStep). l ++ more) at.steps_are ∙ append_assoc at.before (Notes (ReadStats index at.pair) ∷ at.behind) more;
    fresh = at.fresh;
    free = held_both index None at.behind more ∙ (held_beside index (held_after index None at.behind) more beside ∙ at.free);
    late = added_then who index at.behind more at.free
        ∙ (ap (λ (l : List Entry). added who index None at.behind ++ l) (none_added who index more beside)
        ∙ (append-nil (added who index None at.behind) ∙ at.late));
    shown = at.shown;
  }

  -- A LATER LINE ADDS ITS CALLS

  line_after : (count : ℕ) (old new : Seat) (course : Course) (trace first left rest : List Done) (steps more : List MailStep)
      → trace ≡ first ++ read ∷ left → left ++ course.trace ≡ rest → IsReadAt who index first left counted steps
      → IsLineOf count who old new course more
      → AreAddedIn who index more (entries_for who index (1 + length (calls_in trace)) (calls_in course.trace))
      → IsReadAt who index first rest counted (steps ++ more)
  line_after count old new course trace first left rest steps more is rest_are at line adds =
      let long : 1 + length (calls_in trace) ≡ 1 + length (calls_in first) + length (calls_in left) =
      let calls = ap (λ (l : List Done). length (calls_in l)) is in
      let both = ap (λ (l : List OwnCall). length l) (calls_on first (read ∷ left)) in
      omega (arith, calls, both, length-append (calls_in first) (calls_in left)) in
      let all : entries_for who index (1 + length (calls_in first)) (calls_in left)
      ++ entries_for who index (1 + length (calls_in trace)) (calls_in course.trace)
      ≡ entries_for who index (1 + length (calls_in first)) (calls_in rest) =
      ap (λ (n : ℕ). entries_for who index (1 + length (calls_in first)) (calls_in left) ++ entries_for who index n (calls_in course.trace)) long
      ∙ (sym (entries_go_on who index (1 + length (calls_in first)) (calls_in left) (calls_in course.trace))
      ∙ (ap (entries_for who index (1 + length (calls_in first))) (sym (calls_on left course.trace))
      ∙ ap (λ (l : List Done). entries_for who index (1 + length (calls_in first)) (calls_in l)) rest_are)) in
      record {
        pair = at.pair;
        is = at.is;
        before = at.before;
        behind = at.behind ++ more;
        steps_are = ap (λ (l : List MailStep). l ++ more) at.steps_are
            ∙ append_assoc at.before (Notes (ReadStats index at.pair) ∷ at.behind) more;
        fresh = at.fresh;
        free = held_both index None at.behind more
            ∙ acts_free line.acts index (held_after index None at.behind) (λ apart. at.free) (none_of index);
        late = added_then who index at.behind more at.free
            ∙ (ap₂ (λ (a b : List Entry). a ++ b) at.late adds.are ∙ all);
        shown = at.shown;
      }

  -- THE LINE THAT READS

  -- what it added after that are its later calls: it took the heap at most once
  added_late : (count : ℕ) (old new : Seat) (course : Course) (number : ℕ) (left rest : List Done) (more : List MailStep)
      → course.trace ≡ left ++ read ∷ rest → (line : IsLineOf count who old new course more)
      → AreAddedIn who index more (entries_for who index number (calls_in course.trace))
      → (split : IsSplit count None None line.held line.doer line.mid index left rest counted more)
      → added who index None split.behind ≡ entries_for who index (number + length (calls_in left)) (calls_in rest)
  added_late count old new course number left rest more is line adds split =
      let few : count_by (λ other. other == index) split.early + count_by (λ other. other == index) split.late ≤ 1 =
      subst (λ (n : ℕ). n ≤ 1)
      (ap (count_by (λ other. other == index)) split.held_are ∙ count_by-append (λ other. other == index) split.early split.late)
      (line.once index) in
      ⊎_elim
      (λ (none : count_by (λ other. other == index) split.early ≡ 0).
      let apart = acts_apart split.one index (none_of index) none in
      let steps : added who index None more ≡ added who index None split.behind =
      ap (added who index None) split.steps_are
      ∙ added_after who index split.before (Notes (ReadStats index split.pair) ∷ split.behind) apart.beside in
      sym steps
      ∙ (adds.are
      ∙ (ap (λ (l : List Done). entries_for who index number (calls_in l)) is
      ∙ (both_calls number left rest
      ∙ ap (λ (l : List Entry). l ++ entries_for who index (number + length (calls_in left)) (calls_in rest)) (apart.calls who number)))))
      (λ (none : count_by (λ other. other == index) split.late ≡ 0).
      let apart = acts_apart split.two index (none_of index) none in
      none_added who index split.behind apart.beside ∙ sym (apart.calls who (number + length (calls_in left))))
      (one_none _ _ few)

  -- what it had read by then is shown, by its lines before and by this one
  shown_by : (count : ℕ) (old new : Seat) (course : Course) (trace first left rest : List Done) (steps more : List MailStep)
      → first ≡ trace ++ left → (line : IsLineOf count who old new course more)
      → (split : IsSplit count None None line.held line.doer line.mid index left rest counted more)
      → ((other : Counted) (early between : List Done) → trace ≡ early ++ StatsRead index other ∷ between → IsShown index other steps)
      → (other : Counted) (early between : List Done) → first ≡ early ++ StatsRead index other ∷ between
      → IsShown index other (steps ++ split.before)
  shown_by count old new course trace first left rest steps more first_is line split shown other early between is =
      ⊎_elim
      (λ (past : (rest : List Done) × (trace ≡ early ++ StatsRead index other ∷ rest)).
      shown_early index other steps split.before (shown other early past.0 past.1))
      (λ (now : (mid : List Done) × (early ≡ trace ++ mid) × (left ≡ mid ++ StatsRead index other ∷ between)).
      let its = acts_split split.one index now.0 between other now.2 in
      shown_late index other steps split.before
      (record { pair = its.pair; is = its.is; among = pair_among index split.before its.before its.behind its.pair its.steps_are }))
      (split_at trace left early between (StatsRead index other) (sym first_is ∙ is))

  line_reads : (count : ℕ) (begun old new : Seat) (courses : List Course) (course : Course) (first left rest : List Done)
      (steps more : List MailStep) → WentByLines count who begun old courses steps → first ≡ trace_of courses ++ left
      → course.trace ≡ left ++ read ∷ rest → IsLineOf count who old new course more
      → AreAddedIn who index more (entries_for who index (1 + length (calls_in (trace_of courses))) (calls_in course.trace))
      → ((other : Counted) (early between : List Done) → trace_of courses ≡ early ++ StatsRead index other ∷ between → IsShown index other steps)
      → IsReadAt who index first rest counted (steps ++ more)
  line_reads count begun old new courses course first left rest steps more went first_is is line adds shown =
      let trace : List Done = trace_of courses in
      let split = acts_split line.acts index left rest counted is in
      let long : 1 + length (calls_in trace) + length (calls_in left) ≡ 1 + length (calls_in first) =
      let calls = ap (λ (l : List Done). length (calls_in l)) first_is in
      let both = ap (λ (l : List OwnCall). length l) (calls_on trace left) in
      omega (arith, calls, both, length-append (calls_in trace) (calls_in left)) in
      record {
        pair = split.pair;
        is = split.is;
        before = steps ++ split.before;
        behind = split.behind;
        steps_are = ap (λ (l : List MailStep). steps ++ l) split.steps_are
            ∙ sym (append_assoc steps split.before (Notes (ReadStats index split.pair) ∷ split.behind));
        fresh = acts_fresh split.one index steps (λ apart. way_fresh went index) (none_of index);
        free = acts_free split.two index None (λ apart. refl) (none_of index);
        late = added_late count old new course (1 + length (calls_in trace)) left rest more is line adds split
            ∙ ap (λ (n : ℕ). entries_for who index n (calls_in rest)) long;
        shown = shown_by count old new course trace first left rest steps more first_is line split shown;
      }

-- ITS WHOLE WAY

pub way_reads : {count who : ℕ} {begun last : Seat} {courses : List Course} {steps : List MailStep}
    → (way : WentByLines count who begun last courses steps) → AddsByLines way → (index : ℕ) (counted : Counted) (first rest : List Done)
    → trace_of courses ≡ first ++ StatsRead index counted ∷ rest → IsReadAt who index first rest counted steps
way_reads (WentByLines.begins seat) adds index counted first rest is = absurd (nothing_among first rest (StatsRead index counted) is)
way_reads {count} {who} (WentByLines.beside begun old new courses before steps went path same same_lines none) adds index counted first rest is =
    read_beside who index counted first rest before steps (way_reads went adds index counted first rest is) (others_beside index steps none)
way_reads {count} {who} (WentByLines.does_line begun old new courses course before steps went line) adds index counted first rest is =
    let whole : trace_of courses ++ course.trace ≡ first ++ StatsRead index counted ∷ rest = sym (trace_more courses course) ∙ is in
    ⊎_elim
    (λ (past : (left : List Done) × (trace_of courses ≡ first ++ StatsRead index counted ∷ left)).
    line_after who index counted count old new course (trace_of courses) first past.0 rest before steps past.1
    (rest_is (trace_of courses) course.trace first past.0 rest (StatsRead index counted) past.1 whole)
    (way_reads went adds.0 index counted first past.0 past.1) line (adds.1 index))
    (λ (now : (left : List Done) × (first ≡ trace_of courses ++ left) × (course.trace ≡ left ++ StatsRead index counted ∷ rest)).
    line_reads who index counted count begun old new courses course first now.0 rest before steps went now.1 now.2 line (adds.1 index)
    (λ other early between there.
    let at = way_reads went adds.0 index other early between there in
    record { pair = at.pair; is = at.is; among = pair_among index before at.before at.behind at.pair at.steps_are }))
    (split_at (trace_of courses) course.trace first rest (StatsRead index counted) whole)
