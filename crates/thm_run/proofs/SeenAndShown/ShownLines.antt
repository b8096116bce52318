-- What lines show of the log with their notices: it stays where what is looked up of their numbers does, and one line more shows what its
-- trace shows.
use Rattle.std.proofs.Common.{◌≡◌, ◌==◌, ◌∙◌, ℕ, ◌+◌, ◌<◌, ◌≤◌, Bool, true, false, cond, List, [], ◌∷◌, ◌++◌, length, Some, refl, ap, sym, subst, arith, append_assoc, append-nil, length-append}
use Rattle.std.specs.List.{slice_get}
use Rattle.hp_log.specs.declared.log_record.LogRecord.{LogRecord}
use Rattle.hp_segs.specs.declared.outcome.AskLog.{AskLog}
use Rattle.hp_proc.specs.Courses.{numbered_in}
use Rattle.hp_proc.specs.Ends.{none_made}
use Rattle.hp_proc.specs.LinesDone.{Course}
use Rattle.hp_proc.specs.Seen.{counted_on}
use Rattle.thm_run.proofs.GrownHeaps.LaterGrants.{GrantsLater}
use Rattle.thm_run.proofs.Rising.{Rises, rises_append, rises_seen, seen_rising}
use Rattle.thm_run.proofs.SeenAndShown.SeenLines.{counted_own, took, took_next}
use Rattle.thm_run.proofs.SeenAndShown.ShownTraces.{AreFreedWithin, StaysFound, find_same, shown_stays}
use Rattle.thm_run.specs.Drops.{numbers_made}
use Rattle.thm_run.specs.Freed.{AreShown, NoneComesLate, shown_by_lines, shown_in}

-- one line more shows what its trace shows
lines_append : (log : List LogRecord) (asks : List AskLog) (made : ℕ → ℕ) (courses : List Course) (course : Course)
    → shown_by_lines log asks made (courses ++ course ∷ [])
    ≡ shown_by_lines log asks made courses
    ++ shown_in log asks course.line.participant (took made course.line.participant courses + 1) course.trace
lines_append log asks made [] course =
    let number : made course.line.participant + 1 ≡ took made course.line.participant [] + 1 = omega arith in
    append-nil (shown_in log asks course.line.participant (made course.line.participant + 1) course.trace)
    ∙ ap (λ number. shown_in log asks course.line.participant number course.trace) number
lines_append log asks made (first ∷ courses) course =
    let who = course.line.participant in
    let shown = shown_in log asks first.line.participant (made first.line.participant + 1) first.trace in
    let next = counted_on made first.line.participant (length (numbered_in first.trace)) in
    ap (λ rest. shown ++ rest) (lines_append log asks next courses course)
    ∙ (ap (λ n. shown ++ (shown_by_lines log asks next courses ++ shown_in log asks who (n + 1) course.trace))
    (took_next made first courses who)
    ∙ sym (append_assoc shown (shown_by_lines log asks next courses)
    (shown_in log asks who (took made who (first ∷ courses) + 1) course.trace)))

-- a count that goes on is no lower
counted_up : (count : ℕ → ℕ) (who more other : ℕ) → count other ≤ counted_on count who more other
counted_up count who more other = by_own (other == who) where
  by_own : (own : Bool) → count other ≤ cond own (count other + more) (count other)
  by_own true = omega arith
  by_own false = omega arith

module _ (log more : List LogRecord) (asks others : List AskLog) (later : GrantsLater (length log) others)
    (within : (place : ℕ) (entry : AskLog) → slice_get asks place ≡ Some entry → entry.at ≤ length log)
    (freed_within : AreFreedWithin log asks) where
  abbrev Stays : ℕ → ℕ → Type 0
  Stays who number = StaysFound log more asks others later within freed_within who number

  -- what lines show stays
  lines_stay : (made : ℕ → ℕ) (courses : List Course) → ((who n : ℕ) → made who < n → n ≤ took made who courses → Stays who n)
      → shown_by_lines (log ++ more) (asks ++ others) made courses ≡ shown_by_lines log asks made courses
  lines_stay made [] same = refl
  lines_stay made (course ∷ courses) same =
      let who = course.line.participant in
      let next = counted_on made who (length (numbered_in course.trace)) in
      let counted : next who ≡ made who + length (numbered_in course.trace) = counted_own made who (length (numbered_in course.trace)) in
      let first = shown_stays log more asks others later within freed_within who (made who + 1) course.trace
      (λ n low high. same who n (omega (arith, low)) (omega (arith, high, counted, took_next made course courses who))) in
      ap (λ shown. shown ++ shown_by_lines (log ++ more) (asks ++ others) next courses) first
      ∙ ap (λ rest. shown_in log asks who (made who + 1) course.trace ++ rest)
      (lines_stay next courses (λ other n low high.
      same other n (omega (arith, low, counted_up made who (length (numbered_in course.trace)) other))
      (omega (arith, high, took_next made course courses other))))

  module _ (courses : List Course) (late : NoneComesLate courses asks (asks ++ others)) (shown : AreShown log asks courses) where
    same_lines : shown_by_lines (log ++ more) (asks ++ others) none_made courses ≡ shown_by_lines log asks none_made courses
    same_lines =
        lines_stay none_made courses (λ who n some below. find_same _ asks others (late who n some (omega (arith, below))))

    still_rise : Rises 0 (length log) (shown_by_lines (log ++ more) (asks ++ others) none_made courses)
    still_rise =
        subst (Rises 0 (length log)) (sym same_lines) (rises_seen (length log) (shown_by_lines log asks none_made courses) shown)

    -- the same lines show the same
    pub lines_still : AreShown (log ++ more) (asks ++ others) courses
    lines_still =
        let lines = shown_by_lines (log ++ more) (asks ++ others) none_made courses in
        let on : Rises (length log) (length (log ++ more)) [] = omega (arith, length-append log more) in
        seen_rising (length (log ++ more)) lines
        (subst (Rises 0 (length (log ++ more))) (append-nil lines)
        (rises_append 0 (length log) (length (log ++ more)) lines [] still_rise on))

    -- and one line more no less, where what it shows lies between the records before it and those after it
    pub lines_on : (course : Course)
        → Rises (length log) (length (log ++ more)) (shown_in (log ++ more) (asks ++ others) course.line.participant
        (numbers_made course.line.participant courses + 1) course.trace)
        → AreShown (log ++ more) (asks ++ others) (courses ++ course ∷ [])
    lines_on course rises =
        let who = course.line.participant in
        let lines = shown_by_lines (log ++ more) (asks ++ others) none_made courses in
        let number : numbers_made who courses + 1 ≡ took none_made who courses + 1 = omega arith in
        seen_rising (length (log ++ more)) (shown_by_lines (log ++ more) (asks ++ others) none_made (courses ++ course ∷ []))
        (subst (Rises 0 (length (log ++ more))) (sym (lines_append (log ++ more) (asks ++ others) none_made courses course))
        (rises_append 0 (length log) (length (log ++ more)) lines
        (shown_in (log ++ more) (asks ++ others) who (took none_made who courses + 1) course.trace) still_rise
        (subst (λ n. Rises (length log) (length (log ++ more)) (shown_in (log ++ more) (asks ++ others) who n course.trace)) number rises)))
