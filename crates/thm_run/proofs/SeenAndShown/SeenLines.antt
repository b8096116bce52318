-- What lines show of the log: it stays as records and outcomes come after, one line more shows what its trace shows, and what each
-- participant sees is a part of it.
use Rattle.std.proofs.Common.{◌≡◌, ◌≢◌, ◌==◌, ◌∙◌, ℕ, ◌+◌, ◌≤◌, true, false, cond, List, [], ◌∷◌, ◌++◌, length, Some, inl, inr, refl, ap, sym, subst, arith, append_assoc, append-nil, eq-eqb, length-append}
use Rattle.std.specs.List.{slice_get}
use Rattle.std.proofs.lemmas.Bool.{cases_eq, ne_eqb}
use Rattle.hp_log.specs.declared.log_record.LogRecord.{LogRecord}
use Rattle.hp_segs.specs.declared.outcome.AskLog.{AskLog}
use Rattle.hp_proc.specs.Courses.{numbered_in}
use Rattle.hp_proc.specs.Ends.{none_made}
use Rattle.hp_proc.specs.LinesDone.{Course, courses_of, trace_of}
use Rattle.hp_proc.specs.Outcomes.{AreAnsweredSo}
use Rattle.hp_proc.specs.Seen.{AreSeen, counted_on, seen_by_lines, seen_in}
use Rattle.thm_run.proofs.GrownHeaps.LaterGrants.{GrantsLater}
use Rattle.thm_run.proofs.TracesTold.Numbers.{numbered_both}
use Rattle.thm_run.proofs.SeenAndShown.SeenTraces.{AreAnsweredFrom, answered_from, behind_answered, front_answered, seen_append, trace_stays}
use Rattle.thm_run.proofs.Rising.{Rises, rises_append, rises_behind, rises_instead, rises_seen, seen_rising}

pub counted_own : (asked : ℕ → ℕ) (who more : ℕ) → counted_on asked who more who ≡ asked who + more
counted_own asked who more = ap (λ own. cond own (asked who + more) (asked who)) (eq-eqb who who refl)

pub counted_other : (asked : ℕ → ℕ) (who more other : ℕ) → (other == who) ≡ false → counted_on asked who more other ≡ asked other
counted_other asked who more other beside = ap (λ own. cond own (asked other + more) (asked other)) beside

-- the lines of a participant, by whether the first is its own
its_own : (who : ℕ) (course : Course) (courses : List Course) → (course.line.participant == who) ≡ true
    → courses_of who (course ∷ courses) ≡ course ∷ courses_of who courses
its_own who course courses own = ap (λ own. cond own (course ∷ courses_of who courses) (courses_of who courses)) own

another : (who : ℕ) (course : Course) (courses : List Course) → (course.line.participant == who) ≡ false
    → courses_of who (course ∷ courses) ≡ courses_of who courses
another who course courses beside = ap (λ own. cond own (course ∷ courses_of who courses) (courses_of who courses)) beside

-- how many numbers a participant took, with so many before these lines
abbrev pub took : (ℕ → ℕ) → ℕ → List Course → ℕ
took made who courses = made who + length (numbered_in (trace_of (courses_of who courses)))

-- what counts for the later lines the first one
module _ (made : ℕ → ℕ) (course : Course) (courses : List Course) where
  abbrev pub whose : ℕ
  whose = course.line.participant

  abbrev pub behind_first : ℕ → ℕ
  behind_first = counted_on made whose (length (numbered_in course.trace))

  pub took_next : (who : ℕ) → took behind_first who courses ≡ took made who (course ∷ courses)
  took_next who = elim (cases_eq whose who) [
    | inl own ↦
        let counted : behind_first who ≡ made who + length (numbered_in course.trace) =
        subst (λ who. behind_first who ≡ made who + length (numbered_in course.trace)) own
        (counted_own made whose (length (numbered_in course.trace))) in
        let lines : courses_of who (course ∷ courses) ≡ course ∷ courses_of who courses =
        its_own who course courses (eq-eqb whose who own) in
        omega (
          arith,
          counted,
          ap (λ courses. length (numbered_in (trace_of courses))) lines,
          ap length (numbered_both course.trace (trace_of (courses_of who courses))),
          length-append (numbered_in course.trace) (numbered_in (trace_of (courses_of who courses))),
        )
    | inr beside ↦
        let counted : behind_first who ≡ made who =
        counted_other made whose (length (numbered_in course.trace)) who (ne_eqb who whose (λ same. beside (sym same))) in
        let lines : courses_of who (course ∷ courses) ≡ courses_of who courses =
        another who course courses (ne_eqb whose who beside) in
        omega (arith, counted, ap (λ courses. length (numbered_in (trace_of courses))) lines)
  ]

-- one line more shows what its trace shows
pub lines_append : (log : List LogRecord) (asks : List AskLog) (made : ℕ → ℕ) (courses : List Course) (course : Course)
    → seen_by_lines log asks made (courses ++ course ∷ [])
    ≡ seen_by_lines log asks made courses
    ++ seen_in log asks course.line.participant (took made course.line.participant courses + 1) course.trace
lines_append log asks made [] course =
    let number : made course.line.participant + 1 ≡ took made course.line.participant [] + 1 = omega arith in
    append-nil (seen_in log asks course.line.participant (made course.line.participant + 1) course.trace)
    ∙ ap (λ number. seen_in log asks course.line.participant number course.trace) number
lines_append log asks made (first ∷ courses) course =
    let who = course.line.participant in
    let shown = seen_in log asks first.line.participant (made first.line.participant + 1) first.trace in
    let next = counted_on made first.line.participant (length (numbered_in first.trace)) in
    ap (λ rest. shown ++ rest) (lines_append log asks next courses course)
    ∙ (ap (λ n. shown ++ (seen_by_lines log asks next courses ++ seen_in log asks who (n + 1) course.trace))
    (took_next made first courses who)
    ∙ sym (append_assoc shown (seen_by_lines log asks next courses)
    (seen_in log asks who (took made who (first ∷ courses) + 1) course.trace)))

-- what the lines of each participant show rises where that of all lines does
own_rises : (log : List LogRecord) (asks : List AskLog) (most who : ℕ) (made : ℕ → ℕ) (courses : List Course) (floor : ℕ)
    → Rises floor most (seen_by_lines log asks made courses)
    → Rises floor most (seen_in log asks who (made who + 1) (trace_of (courses_of who courses)))
own_rises log asks most who made [] floor rises = rises
own_rises log asks most who made (course ∷ courses) floor rises = elim (cases_eq course.line.participant who) [
  | inl own ↦
      let shown = seen_in log asks who (made who + 1) course.trace in
      let next = counted_on made course.line.participant (length (numbered_in course.trace)) in
      let counted : next who ≡ made who + length (numbered_in course.trace) =
      subst (λ who. next who ≡ made who + length (numbered_in course.trace)) own
      (counted_own made course.line.participant (length (numbered_in course.trace))) in
      let last : made who + 1 + length (numbered_in course.trace) ≡ next who + 1 = omega (arith, counted) in
      let first : Rises floor most (shown ++ seen_by_lines log asks next courses) =
      subst (λ who. Rises floor most (seen_in log asks who (made who + 1) course.trace ++ seen_by_lines log asks next courses)) own rises in
      subst (λ courses. Rises floor most (seen_in log asks who (made who + 1) (trace_of courses)))
      (sym (its_own who course courses (eq-eqb course.line.participant who own)))
      (subst (Rises floor most)
      (sym (seen_append log asks who (made who + 1) (next who + 1) course.trace (trace_of (courses_of who courses)) last))
      (rises_instead floor most shown (seen_by_lines log asks next courses)
      (seen_in log asks who (next who + 1) (trace_of (courses_of who courses)))
      (λ from rises. own_rises log asks most who next courses from rises) first))
  | inr beside ↦
      let next = counted_on made course.line.participant (length (numbered_in course.trace)) in
      let counted : next who ≡ made who =
      counted_other made course.line.participant (length (numbered_in course.trace)) who
      (ne_eqb who course.line.participant (λ same. beside (sym same))) in
      subst (λ courses. Rises floor most (seen_in log asks who (made who + 1) (trace_of courses)))
      (sym (another who course courses (ne_eqb course.line.participant who beside)))
      (subst (λ n. Rises floor most (seen_in log asks who (n + 1) (trace_of (courses_of who courses)))) counted
      (own_rises log asks most who next courses floor
      (rises_behind floor most
      (seen_in log asks course.line.participant (made course.line.participant + 1) course.trace) (seen_by_lines log asks next courses)
      rises)))
]

-- what each participant sees never falls, where what the lines show in their order does not
pub seen_each : (log : List LogRecord) (asks : List AskLog) (most : ℕ) (courses : List Course)
    → AreSeen most (seen_by_lines log asks none_made courses) → (who : ℕ)
    → AreSeen most (seen_in log asks who 1 (trace_of (courses_of who courses)))
seen_each log asks most courses seen who =
    seen_rising most (seen_in log asks who 1 (trace_of (courses_of who courses)))
    (own_rises log asks most who none_made courses 0 (rises_seen most (seen_by_lines log asks none_made courses) seen))

-- so many asks and notices of a participant's lines
abbrev pub numbers_in : ℕ → List Course → ℕ
numbers_in who courses = length (numbered_in (trace_of (courses_of who courses)))

module _ (log more : List LogRecord) (asks others : List AskLog) (later : GrantsLater (length log) others)
    (within : (place : ℕ) (entry : AskLog) → slice_get asks place ≡ Some entry → entry.at ≤ length log) where
  -- what lines show stays, where all of their asks are answered
  lines_stay : (made : ℕ → ℕ) (courses : List Course)
      → ((who : ℕ) → AreAnsweredFrom log asks who (made who + 1) (trace_of (courses_of who courses)))
      → seen_by_lines (log ++ more) (asks ++ others) made courses ≡ seen_by_lines log asks made courses
  lines_stay made [] all = refl
  lines_stay made (course ∷ courses) all =
      let who = course.line.participant in
      let next = counted_on made who (length (numbered_in course.trace)) in
      let own : AreAnsweredFrom log asks who (made who + 1) (course.trace ++ trace_of (courses_of who courses)) =
      subst (λ courses. AreAnsweredFrom log asks who (made who + 1) (trace_of courses)) (its_own who course courses (eq-eqb who who refl))
      (all who) in
      let first = trace_stays log more asks others later within who (made who + 1) course.trace
      (front_answered log asks who (made who + 1) course.trace (trace_of (courses_of who courses)) own) in
      let counted : next who ≡ made who + length (numbered_in course.trace) = counted_own made who (length (numbered_in course.trace)) in
      let last : made who + 1 + length (numbered_in course.trace) ≡ next who + 1 = omega (arith, counted) in
      let its : AreAnsweredFrom log asks who (next who + 1) (trace_of (courses_of who courses)) =
      behind_answered log asks who (made who + 1) (next who + 1) course.trace (trace_of (courses_of who courses)) last own in
      ap (λ shown. shown ++ seen_by_lines (log ++ more) (asks ++ others) next courses) first
      ∙ ap (λ rest. seen_in log asks who (made who + 1) course.trace ++ rest)
      (lines_stay next courses (λ other. elim (cases_eq who other) [
        | inl same ↦ subst (λ other. AreAnsweredFrom log asks other (next other + 1) (trace_of (courses_of other courses))) same its
        | inr beside ↦ beside_answered made course courses other beside (all other)
      ]))
    where
      beside_answered : (made : ℕ → ℕ) (course : Course) (courses : List Course) (other : ℕ) → course.line.participant ≢ other
          → AreAnsweredFrom log asks other (made other + 1) (trace_of (courses_of other (course ∷ courses)))
          → AreAnsweredFrom log asks other
          (counted_on made course.line.participant (length (numbered_in course.trace)) other + 1) (trace_of (courses_of other courses))
      beside_answered made course courses other beside all =
          let counted = counted_other made course.line.participant (length (numbered_in course.trace)) other
          (ne_eqb other course.line.participant (λ same. beside (sym same))) in
          subst (λ n. AreAnsweredFrom log asks other (n + 1) (trace_of (courses_of other courses))) (sym counted)
          (subst (λ courses. AreAnsweredFrom log asks other (made other + 1) (trace_of courses))
          (another other course courses (ne_eqb course.line.participant other beside)) all)

  module _ (courses : List Course) (answered : (who : ℕ) → AreAnsweredSo log asks who (trace_of (courses_of who courses)))
      (seen : AreSeen (length log) (seen_by_lines log asks none_made courses)) where
    same_lines : seen_by_lines (log ++ more) (asks ++ others) none_made courses ≡ seen_by_lines log asks none_made courses
    same_lines = lines_stay none_made courses (λ who. answered_from log asks who (trace_of (courses_of who courses)) (answered who))

    still_rise : Rises 0 (length log) (seen_by_lines (log ++ more) (asks ++ others) none_made courses)
    still_rise =
        subst (Rises 0 (length log)) (sym same_lines) (rises_seen (length log) (seen_by_lines log asks none_made courses) seen)

    -- the same lines are seen by a longer log and more outcomes
    pub seen_stays : AreSeen (length (log ++ more)) (seen_by_lines (log ++ more) (asks ++ others) none_made courses)
    seen_stays =
        let lines = seen_by_lines (log ++ more) (asks ++ others) none_made courses in
        let on : Rises (length log) (length (log ++ more)) [] = omega (arith, length-append log more) in
        seen_rising (length (log ++ more)) lines
        (subst (Rises 0 (length (log ++ more))) (append-nil lines)
        (rises_append 0 (length log) (length (log ++ more)) lines [] still_rise on))

    -- and one line more, where what it shows lies between the records before it and those after it
    pub seen_goes_on : (course : Course)
        → Rises (length log) (length (log ++ more)) (seen_in (log ++ more) (asks ++ others) course.line.participant
        (numbers_in course.line.participant courses + 1) course.trace)
        → AreSeen (length (log ++ more)) (seen_by_lines (log ++ more) (asks ++ others) none_made (courses ++ course ∷ []))
    seen_goes_on course rises =
        let who = course.line.participant in
        let lines = seen_by_lines (log ++ more) (asks ++ others) none_made courses in
        let number : numbers_in who courses + 1 ≡ took none_made who courses + 1 = omega arith in
        seen_rising (length (log ++ more)) (seen_by_lines (log ++ more) (asks ++ others) none_made (courses ++ course ∷ []))
        (subst (Rises 0 (length (log ++ more))) (sym (lines_append (log ++ more) (asks ++ others) none_made courses course))
        (rises_append 0 (length log) (length (log ++ more)) lines
        (seen_in (log ++ more) (asks ++ others) who (took none_made who courses + 1) course.trace) still_rise
        (subst (λ n. Rises (length log) (length (log ++ more)) (seen_in (log ++ more) (asks ++ others) who n course.trace)) number rises)))
