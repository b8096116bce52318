-- What lines show of something that goes on from line to line, as a history does: each showing is of a front, and the fronts never grow shorter.
use Rattle.std.proofs.Common.{◌≡◌, ◌∙◌, ℕ, ◌+◌, ◌≤◌, Bool, cond, List, [], ◌∷◌, ◌++◌, append-nil, append_assoc, eq-eqb, filter_map, length, length-append, map, Option, Some, None, refl, ap, sym, subst, inl, inr, arith}
use Rattle.core.specs.List.{cons_option}
use Rattle.std.specs.List.{All}
use Rattle.std.proofs.lemmas.Bool.{cases_eq, ne_eqb}
use Rattle.std.proofs.lemmas.List.{map-append}
use Rattle.std.proofs.lemmas.List.Elements.{All-append, All-cons, All-nil, filter_map-append}
use Rattle.hp_heap.specs.declared.entry.Entry.{Entry}
use Rattle.hp_proc.specs.Courses.{OwnCall, calls_in}
use Rattle.hp_proc.specs.Doing.{Done}
use Rattle.hp_proc.specs.Ends.{history_by, none_made}
use Rattle.hp_proc.specs.Histories.{entries_for}
use Rattle.hp_proc.specs.LinesDone.{Course, courses_of, trace_of}
use Rattle.hp_proc.proofs.Joining.{calls_on}
use Rattle.hp_proc.proofs.LawLemmas.{entries_go_on}
use Rattle.thm_run.proofs.GrownHeaps.GrownLines.{calls_made, history_append}
use Rattle.thm_run.proofs.Rising.{Rises, rises_append, rises_lower}

-- a line that has got so far
abbrev pub at : Course → List Done → Course
at course first = record course { trace = first }

module _ (index : ℕ) where
  -- how many entries lines leave
  abbrev pub left : List Course → ℕ
  left courses = length (history_by index none_made courses)

  module _ (before : List Course) (course : Course) where
    -- a line that got further leaves no fewer
    left_more : (first more : List Done) → left (before ++ at course first ∷ []) ≤ left (before ++ at course (first ++ more) ∷ [])
    left_more first more =
        let who = course.line.participant in
        let made = calls_made none_made who before in
        omega (
          arith,
          ap (λ (entries : List Entry). length entries) (history_append index none_made before (at course first)),
          ap (λ (entries : List Entry). length entries) (history_append index none_made before (at course (first ++ more))),
          length-append (history_by index none_made before) (entries_for who index (made + 1) (calls_in first)),
          length-append (history_by index none_made before) (entries_for who index (made + 1) (calls_in (first ++ more))),
          ap (λ (calls : List OwnCall). length (entries_for who index (made + 1) calls)) (calls_on first more),
          ap (λ (entries : List Entry). length entries) (entries_go_on who index (made + 1) (calls_in first) (calls_in more)),
          length-append (entries_for who index (made + 1) (calls_in first))
              (entries_for who index (made + 1 + length (calls_in first)) (calls_in more)),
        )

    -- and one that began no fewer than the lines before
    left_begun : left before ≤ left (before ++ at course [] ∷ [])
    left_begun =
        omega (
          arith,
          ap (λ (entries : List Entry). length entries) (history_append index none_made before (at course [])),
          ap (λ (entries : List Entry). length entries) (append-nil (history_by index none_made before)),
        )

-- what lines show of a heap by the entries that are there by then
module _ {A : Type 0} (index : ℕ) (pick : Done → Option A) (size : A → ℕ) (whole : List Course)
    (there : (before : List Course) (course : Course) (later : List Course) (first rest : List Done) (done : Done) (read : A)
    → whole ≡ before ++ course ∷ later → course.trace ≡ first ++ done ∷ rest → pick done ≡ Some read
    → size read ≡ left index (before ++ at course first ∷ [])) where
  abbrev pub entries_read : List Done → List ℕ
  entries_read trace = map size (filter_map pick trace)

  module _ (before : List Course) (course : Course) (later : List Course) (lines : whole ≡ before ++ course ∷ later) where
    line_rises : (first rest : List Done) → course.trace ≡ first ++ rest
        → Rises (left index (before ++ at course first ∷ [])) (left index (before ++ course ∷ [])) (entries_read rest)
    line_rises first [] trace =
        let ends : course.trace ≡ first = trace ∙ append-nil first in
        let same : left index (before ++ at course first ∷ []) ≡ left index (before ++ course ∷ []) =
        ap (λ (trace : List Done). left index (before ++ at course trace ∷ [])) (sym ends) in
        omega (arith, same)
    line_rises first (done ∷ rest) trace =
        by_read (line_rises (first ++ done ∷ []) rest (trace ∙ sym (append_assoc first (done ∷ []) rest))) (pick done) refl
      where
        by_read : Rises (left index (before ++ at course (first ++ done ∷ []) ∷ [])) (left index (before ++ course ∷ [])) (entries_read rest)
            → (read : Option A) → pick done ≡ read
            → Rises (left index (before ++ at course first ∷ [])) (left index (before ++ course ∷ [])) (entries_read (done ∷ rest))
        by_read further None none =
            subst (λ (read : Option A). Rises (left index (before ++ at course first ∷ [])) (left index (before ++ course ∷ []))
            (map size (cons_option read (filter_map pick rest)))) (sym none)
            (rises_lower (left index (before ++ at course first ∷ [])) (left index (before ++ at course (first ++ done ∷ []) ∷ []))
            (left index (before ++ course ∷ [])) (entries_read rest) (left_more index before course first (done ∷ [])) further)
        by_read further (Some counted) some =
            let entries : size counted ≡ left index (before ++ at course first ∷ []) = there before course later first rest done counted lines trace some in
            let from_here : Rises (left index (before ++ at course first ∷ [])) (left index (before ++ course ∷ [])) (entries_read rest) =
            rises_lower (left index (before ++ at course first ∷ [])) (left index (before ++ at course (first ++ done ∷ []) ∷ []))
            (left index (before ++ course ∷ [])) (entries_read rest) (left_more index before course first (done ∷ [])) further in
            subst (λ (read : Option A). Rises (left index (before ++ at course first ∷ [])) (left index (before ++ course ∷ []))
            (map size (cons_option read (filter_map pick rest)))) (sym some)
            (omega (arith, entries), subst (λ (n : ℕ). Rises n (left index (before ++ course ∷ [])) (entries_read rest)) (sym entries) from_here)

  module _ (who : ℕ) where
    pub lines_rise : (before courses : List Course) → whole ≡ before ++ courses
        → Rises (left index before) (left index (before ++ courses)) (entries_read (trace_of (courses_of who courses)))
    lines_rise before [] lines = omega (arith, ap (left index) (append-nil before))
    lines_rise before (course ∷ courses) lines =
        let next : List Course = before ++ course ∷ [] in
        let joined : next ++ courses ≡ before ++ course ∷ courses = append_assoc before (course ∷ []) courses in
        let rest : Rises (left index next) (left index (before ++ course ∷ courses)) (entries_read (trace_of (courses_of who courses))) =
        subst (λ (all : List Course). Rises (left index next) (left index all) (entries_read (trace_of (courses_of who courses)))) joined
        (lines_rise next courses (lines ∙ sym joined)) in
        let began : Rises (left index before) (left index next) (entries_read course.trace) =
        rises_lower (left index before) (left index (before ++ at course [] ∷ [])) (left index next) (entries_read course.trace) (left_begun index before course)
        (line_rises before course courses lines [] course.trace refl) in
        elim (cases_eq course.line.participant who) [
          | inl own ↦
              let its : trace_of (courses_of who (course ∷ courses)) ≡ course.trace ++ trace_of (courses_of who courses) =
              ap (λ (here : Bool). trace_of (cond here (course ∷ courses_of who courses) (courses_of who courses)))
              (eq-eqb course.line.participant who own) in
              let split : entries_read (trace_of (courses_of who (course ∷ courses)))
              ≡ entries_read course.trace ++ entries_read (trace_of (courses_of who courses)) =
              ap entries_read its
              ∙ ap (map size)
              (filter_map-append pick course.trace (trace_of (courses_of who courses)))
              ∙ map-append size (filter_map pick course.trace) (filter_map pick (trace_of (courses_of who courses))) in
              subst (Rises (left index before) (left index (before ++ course ∷ courses))) (sym split)
              (rises_append (left index before) (left index next) (left index (before ++ course ∷ courses)) (entries_read course.trace)
              (entries_read (trace_of (courses_of who courses))) began rest)
          | inr beside ↦
              let its : trace_of (courses_of who (course ∷ courses)) ≡ trace_of (courses_of who courses) =
              ap (λ (here : Bool). trace_of (cond here (course ∷ courses_of who courses) (courses_of who courses)))
              (ne_eqb course.line.participant who beside) in
              subst (Rises (left index before) (left index (before ++ course ∷ courses))) (sym (ap entries_read its))
              (rises_lower (left index before) (left index next) (left index (before ++ course ∷ courses)) (entries_read (trace_of (courses_of who courses)))
              (omega (arith, left_begun index before course, left_more index before course [] course.trace)) rest)
        ]

-- ALL THAT IS READ

-- where something holds of all that lines read, it holds of what a participant read
module _ {A : Type 0} (pick : Done → Option A) (P : A → Type 0) (whole : List Course)
    (each : (before : List Course) (course : Course) (later : List Course) (first rest : List Done) (done : Done) (read : A)
    → whole ≡ before ++ course ∷ later → course.trace ≡ first ++ done ∷ rest → pick done ≡ Some read → P read) where
  all_of_line : (before : List Course) (course : Course) (later : List Course) → whole ≡ before ++ course ∷ later
      → (first rest : List Done) → course.trace ≡ first ++ rest → All P (filter_map pick rest)
  all_of_line before course later lines first [] trace = All-nil P
  all_of_line before course later lines first (done ∷ rest) trace =
      by_read (all_of_line before course later lines (first ++ done ∷ []) rest (trace ∙ sym (append_assoc first (done ∷ []) rest)))
      (pick done) refl
    where
      by_read : All P (filter_map pick rest) → (read : Option A) → pick done ≡ read → All P (filter_map pick (done ∷ rest))
      by_read further None none = subst (λ (read : Option A). All P (cons_option read (filter_map pick rest))) (sym none) further
      by_read further (Some counted) some =
          subst (λ (read : Option A). All P (cons_option read (filter_map pick rest))) (sym some)
          (All-cons P counted (filter_map pick rest)
          (each before course later first rest done counted lines trace some) further)

  pub all_picked : (who : ℕ) (before courses : List Course) → whole ≡ before ++ courses → All P (filter_map pick (trace_of (courses_of who courses)))
  all_picked who before [] lines = All-nil P
  all_picked who before (course ∷ courses) lines =
      let rest : All P (filter_map pick (trace_of (courses_of who courses))) =
      all_picked who (before ++ course ∷ []) courses (lines ∙ sym (append_assoc before (course ∷ []) courses)) in
      elim (cases_eq course.line.participant who) [
        | inl own ↦
            let its : trace_of (courses_of who (course ∷ courses)) ≡ course.trace ++ trace_of (courses_of who courses) =
            ap (λ (here : Bool). trace_of (cond here (course ∷ courses_of who courses) (courses_of who courses)))
            (eq-eqb course.line.participant who own) in
            subst (All P)
            (sym (ap (filter_map pick) its ∙ filter_map-append pick course.trace (trace_of (courses_of who courses))))
            (All-append P (filter_map pick course.trace) (filter_map pick (trace_of (courses_of who courses)))
            (all_of_line before course courses lines [] course.trace refl) rest)
        | inr beside ↦
            let its : trace_of (courses_of who (course ∷ courses)) ≡ trace_of (courses_of who courses) =
            ap (λ (here : Bool). trace_of (cond here (course ∷ courses_of who courses) (courses_of who courses)))
            (ne_eqb course.line.participant who beside) in
            subst (All P) (sym (ap (filter_map pick) its)) rest
      ]
