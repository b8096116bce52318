-- As records and outcomes come after, what had gone between two lines has gone, and the later lines see it still; one line more sees it too.
use Rattle.std.proofs.Common.{◌≡◌, ◌≢◌, ◌∙◌, ◌==◌, ℕ, zero, suc, ◌+◌, ◌≤◌, Bool, true, false, not, List, [], ◌∷◌, ◌++◌, append-nil, cond, drop, length, take, Some, inl, inr, refl, ap, sym, subst, arith}
use Rattle.std.specs.List.{All, flat_map, range_with_len, slice_get}
use Rattle.std.specs.List.Sorted.{IsPermutation}
use Rattle.std.proofs.lemmas.Bool.{cases_eq, cases_lt, eq-eqb, ne_eqb}
use Rattle.std.proofs.lemmas.Grind.{flat_map-append}
use Rattle.std.proofs.lemmas.List.{drop-append-le, drop_all, length-append, length-take-le, take-append-drop, take-append-le, take_all}
use Rattle.std.proofs.lemmas.List.Sorted.{IsPermutation-refl}
use Rattle.std.proofs.lemmas.List.Elements.{All-append, All-nil, All-weaker, filter-append}
use Rattle.hp_base.specs.declared.row.Run.{Run}
use Rattle.hp_log.specs.declared.log_record.LogRecord.{LogRecord}
use Rattle.hp_log.specs.declared.log_record.LogRecord.TheVariants.{Add, Drop}
use Rattle.hp_segs.specs.Returned.{returned_runs}
use Rattle.hp_segs.specs.SoundAsks.{is_granted}
use Rattle.hp_segs.specs.declared.outcome.AskLog.{AskLog}
use Rattle.hp_proc.specs.Courses.{numbered_in}
use Rattle.hp_proc.specs.Doing.{Done}
use Rattle.hp_proc.specs.LinesDone.{Course, courses_of, trace_of}
use Rattle.hp_proc.specs.Outcomes.{AreAnsweredSo}
use Rattle.hp_proc.specs.Seen.{seen_in}
use Rattle.thm_run.proofs.GrownHeaps.LaterGrants.{GrantsLater, granted_stays}
use Rattle.thm_run.proofs.TracesTold.Numbers.{numbered_both}
use Rattle.thm_run.proofs.Rising.{Rises, above_floor}
use Rattle.thm_run.proofs.SeenAndShown.SeenTraces.{AreAnsweredFrom, answered_from, behind_answered, seen_append, trace_stays}
use Rattle.thm_run.specs.Drops.{DropsComeFirst, HasGoneBetween, cut_by_lines, numbers_made, runs_cut_in}

-- what was done for a participant's lines, of two parts
traces_both : (who : ℕ) (before behind : List Course)
    → trace_of (courses_of who (before ++ behind)) ≡ trace_of (courses_of who before) ++ trace_of (courses_of who behind)
traces_both who before behind =
    ap trace_of (filter-append (λ (course : Course). course.line.participant == who) before behind)
    ∙ flat_map-append (λ (course : Course). course.trace) (courses_of who before) (courses_of who behind)

numbers_split : (who : ℕ) (before behind : List Course)
    → numbers_made who (before ++ behind) ≡ numbers_made who before + numbers_made who behind
numbers_split who before behind =
    ap (λ (trace : List Done). length (numbered_in trace)) (traces_both who before behind)
    ∙ ap length (numbered_both (trace_of (courses_of who before)) (trace_of (courses_of who behind)))
    ∙ length-append (numbered_in (trace_of (courses_of who before))) (numbered_in (trace_of (courses_of who behind)))

-- one line more is its participant's, and nobody else's
one_own : (who : ℕ) (course : Course) → course.line.participant ≡ who → trace_of (courses_of who (course ∷ [])) ≡ course.trace
one_own who course own =
    ap (λ (its : Bool). trace_of (cond its (course ∷ []) [])) (eq-eqb course.line.participant who own) ∙ append-nil course.trace

pub one_else : (who : ℕ) (course : Course) → course.line.participant ≢ who → trace_of (courses_of who (course ∷ [])) ≡ []
one_else who course beside = ap (λ (its : Bool). trace_of (cond its (course ∷ []) [])) (ne_eqb course.line.participant who beside)

-- after the last line all that was given up has gone, where nothing is Retiring
all_gone : (count : ℕ) (log : List LogRecord) (asks : List AskLog) (courses : List Course)
    → IsPermutation (cut_by_lines count courses) (returned_runs asks false 1 log) → HasGoneBetween count log asks courses []
all_gone count log asks courses gone = record {
  records = length log;
  most = omega arith;
  gone = subst (λ (records : List LogRecord). IsPermutation (cut_by_lines count courses) (returned_runs asks false 1 records))
      (sym (take_all (length log) log (omega arith))) gone;
  seen = λ who. All-nil (λ shown. length log ≤ shown);
}

-- so it is before any line
pub drops_open : (count : ℕ) (log : List LogRecord) (asks : List AskLog) → DropsComeFirst count log asks []
drops_open count log asks lines =
    subst (λ (before : List Course). HasGoneBetween count log asks before (drop lines [])) (sym (take_all lines [] (omega arith)))
    (subst (HasGoneBetween count log asks []) (sym (drop_all lines [] (omega arith)))
    (record {
      records = 0;
      most = omega arith;
      gone = subst (λ (cut : List Run). IsPermutation cut []) (sym (none_cut count 0)) (IsPermutation-refl []);
      seen = λ who. All-nil (λ shown. 0 ≤ shown);
    }))
  where
    none_cut : (count start : ℕ) → flat_map (λ (who : ℕ). runs_cut_in (trace_of (courses_of who []))) (range_with_len start count) ≡ []
    none_cut zero start = refl
    none_cut (suc count) start = none_cut count (start + 1)

module _ (count : ℕ) (log more : List LogRecord) (asks others : List AskLog) (later : GrantsLater (length log) others)
    (within : (place : ℕ) (entry : AskLog) → slice_get asks place ≡ Some entry → entry.at ≤ length log) where
  -- the runs that went back by records that were there
  returned_by : (failed : Bool) (generation : ℕ) (records : List LogRecord) → generation + length records ≤ length log + 1
      → returned_runs (asks ++ others) failed generation records ≡ returned_runs asks failed generation records
  returned_by failed generation [] inside = refl
  returned_by failed generation (Add run heap ∷ records) inside =
      ap (λ (granted : Bool). returned_runs (asks ++ others) (not granted) (generation + 1) records)
      (granted_stays log more asks others later generation (omega (arith, inside)))
      ∙ returned_by (not (is_granted asks generation)) (generation + 1) records (omega (arith, inside))
  returned_by true generation (Drop run ∷ records) inside = returned_by false (generation + 1) records (omega (arith, inside))
  returned_by false generation (Drop run ∷ records) inside =
      ap (λ (runs : List Run). run ∷ runs) (returned_by false (generation + 1) records (omega (arith, inside)))

  returned_stay : (records : ℕ) → records ≤ length log
      → returned_runs (asks ++ others) false 1 (take records (log ++ more)) ≡ returned_runs asks false 1 (take records log)
  returned_stay records inside =
      ap (returned_runs (asks ++ others) false 1) (take-append-le records log more inside)
      ∙ returned_by false 1 (take records log) (omega (arith, inside, length-take-le records log inside))

  module _ (courses before behind : List Course) (are : before ++ behind ≡ courses)
      (answered : (who : ℕ) → AreAnsweredSo log asks who (trace_of (courses_of who courses)))
      (was : HasGoneBetween count log asks before behind) where
    -- what the later lines show stays
    behind_stays : (who : ℕ) → seen_in (log ++ more) (asks ++ others) who (numbers_made who before + 1) (trace_of (courses_of who behind))
        ≡ seen_in log asks who (numbers_made who before + 1) (trace_of (courses_of who behind))
    behind_stays who =
        let all : AreAnsweredFrom log asks who 1 (trace_of (courses_of who before) ++ trace_of (courses_of who behind)) =
        subst (AreAnsweredFrom log asks who 1) (ap (λ (lines : List Course). trace_of (courses_of who lines)) (sym are)
        ∙ traces_both who before behind)
        (answered_from log asks who (trace_of (courses_of who courses)) (answered who)) in
        trace_stays log more asks others later within who (numbers_made who before + 1) (trace_of (courses_of who behind))
        (behind_answered log asks who 1 (numbers_made who before + 1) (trace_of (courses_of who before)) (trace_of (courses_of who behind))
        (omega arith) all)

    still_seen : (who : ℕ) → All (λ shown. was.records ≤ shown)
        (seen_in (log ++ more) (asks ++ others) who (numbers_made who before + 1) (trace_of (courses_of who behind)))
    still_seen who = subst (All (λ shown. was.records ≤ shown)) (sym (behind_stays who)) (was.seen who)

    still_gone : IsPermutation (cut_by_lines count before) (returned_runs (asks ++ others) false 1 (take was.records (log ++ more)))
    still_gone = subst (IsPermutation (cut_by_lines count before)) (sym (returned_stay was.records was.most)) was.gone

    still_most : was.records ≤ length (log ++ more)
    still_most = omega (arith, was.most, length-append log more)

    -- the same lines
    pub between_stays : HasGoneBetween count (log ++ more) (asks ++ others) before behind
    between_stays = record { records = was.records; most = still_most; gone = still_gone; seen = still_seen }

    -- one line more, which sees at least what was there before it
    module _ (course : Course) (rises : Rises (length log) (length (log ++ more)) (seen_in (log ++ more) (asks ++ others)
        course.line.participant (numbers_made course.line.participant courses + 1) course.trace)) where
      more_seen : (who : ℕ) → All (λ shown. was.records ≤ shown)
          (seen_in (log ++ more) (asks ++ others) who (numbers_made who before + 1) (trace_of (courses_of who (behind ++ course ∷ []))))
      more_seen who = elim (cases_eq course.line.participant who) [
        | inl own ↦
            let trace : trace_of (courses_of who (behind ++ course ∷ [])) ≡ trace_of (courses_of who behind) ++ course.trace =
            traces_both who behind (course ∷ [])
            ∙ ap (λ (last : List Done). trace_of (courses_of who behind) ++ last) (one_own who course own) in
            let number : numbers_made who before + 1 + numbers_made who behind ≡ numbers_made who courses + 1 =
            omega (arith, numbers_split who before behind, ap (numbers_made who) are) in
            let last : All (λ shown. was.records ≤ shown)
            (seen_in (log ++ more) (asks ++ others) who (numbers_made who courses + 1) course.trace) =
            All-weaker (λ shown. length log ≤ shown) (λ shown. was.records ≤ shown) (λ shown above. omega (arith, above, was.most))
            (seen_in (log ++ more) (asks ++ others) who (numbers_made who courses + 1) course.trace)
            (subst (λ (by : ℕ). All (λ shown. length log ≤ shown)
            (seen_in (log ++ more) (asks ++ others) by (numbers_made by courses + 1) course.trace)) own
            (above_floor (length log) (length (log ++ more)) (seen_in (log ++ more) (asks ++ others) course.line.participant
            (numbers_made course.line.participant courses + 1) course.trace) rises)) in
            subst (λ (trace : List Done). All (λ shown. was.records ≤ shown)
            (seen_in (log ++ more) (asks ++ others) who (numbers_made who before + 1) trace)) (sym trace)
            (subst (All (λ shown. was.records ≤ shown))
            (sym (seen_append (log ++ more) (asks ++ others) who (numbers_made who before + 1) (numbers_made who courses + 1)
            (trace_of (courses_of who behind)) course.trace number))
            (All-append (λ shown. was.records ≤ shown)
            (seen_in (log ++ more) (asks ++ others) who (numbers_made who before + 1) (trace_of (courses_of who behind)))
            (seen_in (log ++ more) (asks ++ others) who (numbers_made who courses + 1) course.trace) (still_seen who) last))
        | inr beside ↦
            let trace : trace_of (courses_of who (behind ++ course ∷ [])) ≡ trace_of (courses_of who behind) =
            traces_both who behind (course ∷ [])
            ∙ ap (λ (last : List Done). trace_of (courses_of who behind) ++ last) (one_else who course beside)
            ∙ append-nil (trace_of (courses_of who behind)) in
            subst (λ (trace : List Done). All (λ shown. was.records ≤ shown)
            (seen_in (log ++ more) (asks ++ others) who (numbers_made who before + 1) trace)) (sym trace) (still_seen who)
      ]

      pub between_more : HasGoneBetween count (log ++ more) (asks ++ others) before (behind ++ course ∷ [])
      between_more = record { records = was.records; most = still_most; gone = still_gone; seen = more_seen }

  module _ (courses : List Course) (answered : (who : ℕ) → AreAnsweredSo log asks who (trace_of (courses_of who courses)))
      (was : DropsComeFirst count log asks courses) where
    -- where no line was done
    pub drops_stay : DropsComeFirst count (log ++ more) (asks ++ others) courses
    drops_stay lines =
        between_stays courses (take lines courses) (drop lines courses) (take-append-drop lines courses) answered (was lines)

    -- after one line more, where all that was given up has gone
    pub drops_more : (course : Course) → Rises (length log) (length (log ++ more)) (seen_in (log ++ more) (asks ++ others)
        course.line.participant (numbers_made course.line.participant courses + 1) course.trace)
        → IsPermutation (cut_by_lines count (courses ++ course ∷ [])) (returned_runs (asks ++ others) false 1 (log ++ more))
        → DropsComeFirst count (log ++ more) (asks ++ others) (courses ++ course ∷ [])
    drops_more course rises gone lines = elim (cases_lt (length courses) lines) [
      | inl past ↦
          let all : length (courses ++ course ∷ []) ≤ lines = omega (arith, past, length-append courses (course ∷ [])) in
          subst (λ (before : List Course). HasGoneBetween count (log ++ more) (asks ++ others) before (drop lines (courses ++ course ∷ [])))
          (sym (take_all lines (courses ++ course ∷ []) all))
          (subst (HasGoneBetween count (log ++ more) (asks ++ others) (courses ++ course ∷ []))
          (sym (drop_all lines (courses ++ course ∷ []) all))
          (all_gone count (log ++ more) (asks ++ others) (courses ++ course ∷ []) gone))
      | inr inside ↦
          subst (λ (before : List Course). HasGoneBetween count (log ++ more) (asks ++ others) before (drop lines (courses ++ course ∷ [])))
          (sym (take-append-le lines courses (course ∷ []) inside))
          (subst (HasGoneBetween count (log ++ more) (asks ++ others) (take lines courses))
          (sym (drop-append-le lines courses (course ∷ []) inside))
          (between_more courses (take lines courses) (drop lines courses) (take-append-drop lines courses) answered (was lines) course
          rises))
    ]
