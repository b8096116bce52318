-- Behind a line what the lines show of the log never falls, and each heap grew by what was granted for it; so it is where no line was done.
use Rattle.std.proofs.Common.{◌≡◌, ℕ, ◌+◌, false, List, [], ◌∷◌, ◌++◌, length, ap, sym, subst}
use Rattle.std.specs.List.Sorted.{IsPermutation}
use Rattle.hp_base.specs.declared.pool_line.PoolLine.{PoolLine}
use Rattle.hp_log.specs.declared.log_record.LogRecord.{LogRecord}
use Rattle.hp_script.specs.declared.workload.Workload.{Workload}
use Rattle.hp_segs.specs.Returned.{returned_runs}
use Rattle.hp_segs.specs.declared.outcome.AskLog.{AskLog}
use Rattle.hp_proc.specs.Courses.{Standing, numbered_in}
use Rattle.hp_proc.specs.Doing.{Done}
use Rattle.hp_proc.specs.Ends.{history_by, none_made}
use Rattle.hp_heap.specs.HistoryLaws.{runs_grown}
use Rattle.hp_segs.specs.GrantedRuns.{granted_runs}
use Rattle.hp_proc.specs.LinesDone.{Course, IsDone, courses_of, trace_of}
use Rattle.hp_proc.specs.Outcomes.{AreAnsweredSo}
use Rattle.hp_proc.specs.Progress.{MayComeAndGo}
use Rattle.hp_proc.specs.Seen.{AreSeen, seen_by_lines, seen_in}
use Rattle.thm_run.proofs.PathSteps.ByMail.{run_of}
use Rattle.thm_run.proofs.WhatWentBack.DropsOn as behind
use Rattle.thm_run.proofs.GrownHeaps.GrownLines as lines
use Rattle.thm_run.proofs.LineSteps.LineSettled.{IsLineRun, line_behind, line_later, line_seen, line_settled, within_start}
use Rattle.thm_run.proofs.SeenAndShown.Looking.{looked_between}
use Rattle.thm_run.proofs.SeenAndShown.Looks.{LineLooks, line_looks}
use Rattle.thm_run.proofs.Rising.{Rises}
use Rattle.thm_run.proofs.SeenAndShown.SeenLines as shown
use Rattle.thm_run.proofs.SeenAndShown.SeenLines.{numbers_in}
use Rattle.thm_run.specs.Drops.{DropsComeFirst, cut_by_lines}
use Rattle.thm_run.specs.Seats.{Seat}
use Rattle.thm_run.specs.Together.{IsFirst, GlobalState, RunsByMail}

module _ (count absent : ℕ) (pools : List PoolLine) (first start now : GlobalState) (is_first : IsFirst count absent pools first)
    (to_start : RunsByMail count first start) (who : ℕ) (old new : Seat) (trace : List Done) (line : IsLineRun count who start now old new trace)
  where
    -- the records and the outcomes that came
    abbrev pub more : List LogRecord
    more = (line_behind count absent pools first start now is_first to_start who old new trace line).more

    abbrev pub others : List AskLog
    others = (line_behind count absent pools first start now is_first to_start who old new trace line).others

    log_is : now.segs.log ≡ start.segs.log ++ more
    log_is = (line_behind count absent pools first start now is_first to_start who old new trace line).log

    asks_are : now.segs.asks ≡ start.segs.asks ++ others
    asks_are = (line_behind count absent pools first start now is_first to_start who old new trace line).asks

    -- what the lines so far show
    module _ (courses : List Course)
        (answered : (other : ℕ) → AreAnsweredSo start.segs.log start.segs.asks other (trace_of (courses_of other courses)))
        (seen : AreSeen (length start.segs.log) (seen_by_lines start.segs.log start.segs.asks none_made courses)) where
      abbrev SeenOf : List LogRecord → List AskLog → List Course → Type 0
      SeenOf log asks courses = AreSeen (length log) (seen_by_lines log asks none_made courses)

      its : (lines : List Course) → SeenOf (start.segs.log ++ more) (start.segs.asks ++ others) lines
          → SeenOf now.segs.log now.segs.asks lines
      its lines seen =
          subst (λ log. SeenOf log now.segs.asks lines) (sym log_is)
          (subst (λ asks. SeenOf (start.segs.log ++ more) asks lines) (sym asks_are) seen)

      -- they show the same after a run
      pub seen_stays : SeenOf now.segs.log now.segs.asks courses
      seen_stays =
          its courses
          (shown.seen_stays start.segs.log more start.segs.asks others
          (line_later count absent pools first start now is_first to_start who old new trace line)
          (within_start count absent pools first start now is_first to_start who old new trace line) courses answered seen)

      -- what one line more shows lies between the records before it and those after it
      pub line_shows : (workload : Workload) (standing : Standing) (course : Course) → course.line.participant ≡ who
          → course.trace ≡ trace → old.trace ≡ trace_of (courses_of who courses) → MayComeAndGo who course.line.act
          → IsDone workload standing course → Rises (length start.segs.log) (length (start.segs.log ++ more))
          (seen_in (start.segs.log ++ more) (start.segs.asks ++ others) course.line.participant
          (numbers_in course.line.participant courses + 1) course.trace)
      line_shows workload standing course own same so_far built done =
          let looks = line_looks who course.line course.line.act done.facts course.trace course.answer built done.does in
          let rises = line_seen count absent pools first start now is_first to_start who old new trace line
          (subst LineLooks same looks) (looked_between (run_of line.runs) who old new trace line.was line.is line.trace_is) in
          let number : length (numbered_in old.trace) ≡ numbers_in who courses = ap (λ trace. length (numbered_in trace)) so_far in
          let by_log : Rises (length start.segs.log) (length (start.segs.log ++ more))
          (seen_in (start.segs.log ++ more) (start.segs.asks ++ others) who (numbers_in who courses + 1) trace) =
          subst (λ n. Rises (length start.segs.log) (length (start.segs.log ++ more))
          (seen_in (start.segs.log ++ more) (start.segs.asks ++ others) who (n + 1) trace)) number
          (subst (λ asks. Rises (length start.segs.log) (length (start.segs.log ++ more))
          (seen_in (start.segs.log ++ more) asks who (length (numbered_in old.trace) + 1) trace)) asks_are
          (subst (λ log. Rises (length start.segs.log) (length log)
          (seen_in log now.segs.asks who (length (numbered_in old.trace) + 1) trace)) log_is rises)) in
          subst (λ by. Rises (length start.segs.log) (length (start.segs.log ++ more))
          (seen_in (start.segs.log ++ more) (start.segs.asks ++ others) by (numbers_in by courses + 1) course.trace)) (sym own)
          (subst (λ dones. Rises (length start.segs.log) (length (start.segs.log ++ more))
          (seen_in (start.segs.log ++ more) (start.segs.asks ++ others) who (numbers_in who courses + 1) dones)) (sym same) by_log)

      -- and one line more shows no less
      pub seen_goes_on : (workload : Workload) (standing : Standing) (course : Course) → course.line.participant ≡ who
          → course.trace ≡ trace
          → old.trace ≡ trace_of (courses_of who courses) → MayComeAndGo who course.line.act → IsDone workload standing course
          → SeenOf now.segs.log now.segs.asks (courses ++ course ∷ [])
      seen_goes_on workload standing course own same so_far built done =
          its (courses ++ course ∷ [])
          (shown.seen_goes_on start.segs.log more start.segs.asks others
          (line_later count absent pools first start now is_first to_start who old new trace line)
          (within_start count absent pools first start now is_first to_start who old new trace line) courses answered seen course
          (line_shows workload standing course own same so_far built done))

      -- so what lines gave up has gone before later lines see the log
      module _ (drops : DropsComeFirst count start.segs.log start.segs.asks courses) where
        abbrev DropsOf : List LogRecord → List AskLog → List Course → Type 0
        DropsOf log asks courses = DropsComeFirst count log asks courses

        its_drops : (lines : List Course) → DropsOf (start.segs.log ++ more) (start.segs.asks ++ others) lines
            → DropsOf now.segs.log now.segs.asks lines
        its_drops lines drops =
            subst (λ log. DropsOf log now.segs.asks lines) (sym log_is)
            (subst (λ asks. DropsOf (start.segs.log ++ more) asks lines) (sym asks_are) drops)

        pub drops_stay : DropsOf now.segs.log now.segs.asks courses
        drops_stay =
            its_drops courses
            (behind.drops_stay count start.segs.log more start.segs.asks others
            (line_later count absent pools first start now is_first to_start who old new trace line)
            (within_start count absent pools first start now is_first to_start who old new trace line) courses answered drops)

        pub drops_go_on : (workload : Workload) (standing : Standing) (course : Course) → course.line.participant ≡ who
            → course.trace ≡ trace → old.trace ≡ trace_of (courses_of who courses) → MayComeAndGo who course.line.act
            → IsDone workload standing course
            → IsPermutation (cut_by_lines count (courses ++ course ∷ [])) (returned_runs now.segs.asks false 1 now.segs.log)
            → DropsOf now.segs.log now.segs.asks (courses ++ course ∷ [])
        drops_go_on workload standing course own same so_far built done gone =
            let all = cut_by_lines count (courses ++ course ∷ []) in
            its_drops (courses ++ course ∷ [])
            (behind.drops_more count start.segs.log more start.segs.asks others
            (line_later count absent pools first start now is_first to_start who old new trace line)
            (within_start count absent pools first start now is_first to_start who old new trace line) courses answered drops course
            (line_shows workload standing course own same so_far built done)
            (subst (λ asks. IsPermutation all (returned_runs asks false 1 (start.segs.log ++ more))) asks_are
            (subst (λ log. IsPermutation all (returned_runs now.segs.asks false 1 log)) log_is gone)))

    -- each heap grew by what was granted for it
    module _ (courses : List Course) (index : ℕ)
        (grown : runs_grown (history_by index none_made courses) ≡ granted_runs index start.segs.asks 1 start.segs.log) where
      pub grown_goes_on : (workload : Workload) (standing : Standing) (course : Course) → course.trace ≡ trace
          → IsDone workload standing course
          → runs_grown (history_by index none_made (courses ++ course ∷ [])) ≡ granted_runs index now.segs.asks 1 now.segs.log
      grown_goes_on workload standing course same done =
          lines.grown_goes_on start.segs.log more start.segs.asks others now.segs log_is asks_are
          (line_later count absent pools first start now is_first to_start who old new trace line) who
          (length (numbered_in old.trace)) trace
          (line_settled count absent pools first start now is_first to_start who old new trace line) index
          workload standing courses course same done grown

      pub grown_stays : trace ≡ [] → runs_grown (history_by index none_made courses) ≡ granted_runs index now.segs.asks 1 now.segs.log
      grown_stays nothing =
          lines.grown_stays start.segs.log more start.segs.asks others now.segs log_is asks_are
          (line_later count absent pools first start now is_first to_start who old new trace line) who
          (length (numbered_in old.trace)) trace
          (line_settled count absent pools first start now is_first to_start who old new trace line) index
          courses nothing grown
