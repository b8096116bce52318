-- Line by line each heap grew by the runs that were granted for it: a line's own entries grow it by what its asks were granted, and these
-- are the records that were granted for it in the line.
use Rattle.std.proofs.Common.{◌≡◌, ◌∙◌, ℕ, ◌+◌, ◌≤◌, cond, List, [], ◌∷◌, ◌++◌, length, refl, ap, sym, subst, arith, append_assoc, append-nil, inl, inr, eq-eqb, length-append}
use Rattle.std.proofs.lemmas.Bool.{cases_eq, ne_eqb}
use Rattle.hp_log.specs.declared.log_record.LogRecord.{LogRecord}
use Rattle.hp_script.specs.declared.workload.Workload.{Workload}
use Rattle.hp_segs.specs.SegsView.{SegsView}
use Rattle.hp_segs.specs.SoundAsks.{is_granted}
use Rattle.hp_segs.specs.declared.outcome.AskLog.{AskLog}
use Rattle.hp_proc.specs.Courses.{Standing, calls_in}
use Rattle.hp_proc.specs.Doing.{Done}
use Rattle.hp_proc.specs.Ends.{history_by, none_made}
use Rattle.hp_heap.specs.HistoryLaws.{runs_grown}
use Rattle.hp_segs.specs.GrantedRuns.{added_for, granted_runs}
use Rattle.hp_proc.specs.Histories.{entries_for}
use Rattle.hp_proc.specs.LinesDone.{Course, IsDone, courses_of, trace_of}
use Rattle.hp_proc.specs.Seen.{counted_on}
use Rattle.hp_proc.proofs.Joining.{calls_on}
use Rattle.thm_run.proofs.GrownHeaps.GrantedAsks.{AreSettled}
use Rattle.thm_run.proofs.GrownHeaps.Grown.{asks_are_records}
use Rattle.thm_run.proofs.GrownHeaps.GrownTraces.{grown_append, grown_by, line_grows, runs_for}
use Rattle.thm_run.proofs.GrownHeaps.LaterGrants.{GrantsLater, granted_stays}

-- the granted runs of records after others
granted_append : (index : ℕ) (asks : List AskLog) (generation : ℕ) (log more : List LogRecord)
    → granted_runs index asks generation (log ++ more)
    ≡ granted_runs index asks generation log ++ granted_runs index asks (generation + length log) more
granted_append index asks generation [] more =
    let same : generation ≡ generation + 0 = omega arith in
    ap (λ generation. granted_runs index asks generation more) same
granted_append index asks generation (entry ∷ log) more =
    let same : generation + 1 + length log ≡ generation + length (entry ∷ log) = omega arith in
    let one = added_for index (is_granted asks generation) entry in
    ap (λ runs. one ++ runs) (granted_append index asks (generation + 1) log more)
    ∙ (ap (λ n. one ++ (granted_runs index asks (generation + 1) log ++ granted_runs index asks n more)) same
    ∙ sym (append_assoc one (granted_runs index asks (generation + 1) log)
    (granted_runs index asks (generation + length (entry ∷ log)) more)))

-- records are granted still
granted_still : (index : ℕ) (asks others : List AskLog) (all : List LogRecord) (generation : ℕ) (log : List LogRecord)
    → GrantsLater (length all) others → generation + length log ≤ length all + 1
    → granted_runs index (asks ++ others) generation log ≡ granted_runs index asks generation log
granted_still index asks others all generation [] later within = refl
granted_still index asks others all generation (entry ∷ log) later within =
    ap (λ granted. added_for index granted entry ++ granted_runs index (asks ++ others) (generation + 1) log)
    (granted_stays all [] asks others later generation (omega (arith, within)))
    ∙ ap (λ runs. added_for index (is_granted asks generation) entry ++ runs)
    (granted_still index asks others all (generation + 1) log later (omega (arith, within)))

-- so many calls of a participant's lines
abbrev pub calls_made : (ℕ → ℕ) → ℕ → List Course → ℕ
calls_made made who courses = made who + length (calls_in (trace_of (courses_of who courses)))

counted_own : (made : ℕ → ℕ) (who more : ℕ) → counted_on made who more who ≡ made who + more
counted_own made who more = ap (λ own. cond own (made who + more) (made who)) (eq-eqb who who refl)

module _ (made : ℕ → ℕ) (first : Course) (courses : List Course) where
  abbrev behind_first : ℕ → ℕ
  behind_first = counted_on made first.line.participant (length (calls_in first.trace))

  pub calls_next : (who : ℕ) → calls_made behind_first who courses ≡ calls_made made who (first ∷ courses)
  calls_next who = elim (cases_eq first.line.participant who) [
    | inl own ↦
        let counted : behind_first who ≡ made who + length (calls_in first.trace) =
        subst (λ who. behind_first who ≡ made who + length (calls_in first.trace)) own
        (counted_own made first.line.participant (length (calls_in first.trace))) in
        let lines : courses_of who (first ∷ courses) ≡ first ∷ courses_of who courses =
        ap (λ own. cond own (first ∷ courses_of who courses) (courses_of who courses)) (eq-eqb first.line.participant who own) in
        omega (
          arith,
          counted,
          ap (λ courses. length (calls_in (trace_of courses))) lines,
          ap length (calls_on first.trace (trace_of (courses_of who courses))),
          length-append (calls_in first.trace) (calls_in (trace_of (courses_of who courses))),
        )
    | inr beside ↦
        let counted : behind_first who ≡ made who =
        ap (λ own. cond own (made who + length (calls_in first.trace)) (made who))
        (ne_eqb who first.line.participant (λ same. beside (sym same))) in
        let lines : courses_of who (first ∷ courses) ≡ courses_of who courses =
        ap (λ own. cond own (first ∷ courses_of who courses) (courses_of who courses)) (ne_eqb first.line.participant who beside) in
        omega (arith, counted, ap (λ courses. length (calls_in (trace_of courses))) lines)
  ]

-- one line more leaves its entries after those of the others
pub history_append : (index : ℕ) (made : ℕ → ℕ) (courses : List Course) (course : Course)
    → history_by index made (courses ++ course ∷ [])
    ≡ history_by index made courses
    ++ entries_for course.line.participant index (calls_made made course.line.participant courses + 1) (calls_in course.trace)
history_append index made [] course =
    let number : made course.line.participant + 1 ≡ calls_made made course.line.participant [] + 1 = omega arith in
    append-nil (entries_for course.line.participant index (made course.line.participant + 1) (calls_in course.trace))
    ∙ ap (λ number. entries_for course.line.participant index number (calls_in course.trace)) number
history_append index made (first ∷ courses) course =
    let who = course.line.participant in
    let entries = entries_for first.line.participant index (made first.line.participant + 1) (calls_in first.trace) in
    let next = counted_on made first.line.participant (length (calls_in first.trace)) in
    ap (λ rest. entries ++ rest) (history_append index next courses course)
    ∙ (ap (λ n. entries ++ (history_by index next courses ++ entries_for who index (n + 1) (calls_in course.trace)))
    (calls_next made first courses who)
    ∙ sym (append_assoc entries (history_by index next courses)
    (entries_for who index (calls_made made who (first ∷ courses) + 1) (calls_in course.trace))))

-- what came after: the records and the outcomes, where what is granted then are later records
module _ (log more : List LogRecord) (asks others : List AskLog) (segs : SegsView) (is_log : segs.log ≡ log ++ more)
    (is_asks : segs.asks ≡ asks ++ others) (later : GrantsLater (length log) others) (who before : ℕ) (trace : List Done)
    (settled : AreSettled who before (length log) segs trace) (index : ℕ) where
  -- what is granted for a heap is what was, and what the line was granted for it
  granted_goes_on : granted_runs index segs.asks 1 segs.log ≡ granted_runs index asks 1 log ++ runs_for index trace
  granted_goes_on =
      let behind : 1 + length log ≡ length log + 1 = omega arith in
      ap (granted_runs index segs.asks 1) is_log
      ∙ (granted_append index segs.asks 1 log more
      ∙ (ap (λ asks. granted_runs index asks 1 log ++ granted_runs index segs.asks (1 + length log) more) is_asks
      ∙ (ap (λ runs. runs ++ granted_runs index segs.asks (1 + length log) more)
      (granted_still index asks others log 1 log later (omega arith))
      ∙ (ap (λ n. granted_runs index asks 1 log ++ granted_runs index segs.asks n more) behind
      ∙ ap (λ runs. granted_runs index asks 1 log ++ runs)
      (sym (asks_are_records who before log more segs is_log trace settled index))))))

  -- so a heap that grew by what was granted for it does so after a line
  pub grown_goes_on : (workload : Workload) (standing : Standing) (courses : List Course) (course : Course) → course.trace ≡ trace
      → IsDone workload standing course → runs_grown (history_by index none_made courses) ≡ granted_runs index asks 1 log
      → runs_grown (history_by index none_made (courses ++ course ∷ [])) ≡ granted_runs index segs.asks 1 segs.log
  grown_goes_on workload standing courses course its_trace done grown =
      let by = course.line.participant in
      let number : ℕ = calls_made none_made by courses + 1 in
      ap runs_grown (history_append index none_made courses course)
      ∙ (grown_append (history_by index none_made courses) (entries_for by index number (calls_in course.trace))
      ∙ (ap (λ runs. runs ++ grown_by by index number course.trace) grown
      ∙ (ap (λ runs. granted_runs index asks 1 log ++ runs) (line_grows workload standing course by index number done)
      ∙ (ap (λ trace. granted_runs index asks 1 log ++ runs_for index trace) its_trace
      ∙ sym granted_goes_on))))

  -- and where nothing was done
  pub grown_stays : (courses : List Course) → trace ≡ [] → runs_grown (history_by index none_made courses) ≡ granted_runs index asks 1 log
      → runs_grown (history_by index none_made courses) ≡ granted_runs index segs.asks 1 segs.log
  grown_stays courses nothing grown =
      grown
      ∙ (sym (append-nil (granted_runs index asks 1 log))
      ∙ (ap (λ trace. granted_runs index asks 1 log ++ runs_for index trace) (sym nothing) ∙ sym granted_goes_on))
