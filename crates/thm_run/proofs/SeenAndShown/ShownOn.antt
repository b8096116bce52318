-- After a line what the lines show of the log with their notices never falls, where no outcome came late; so it is where no line was done.
use Rattle.std.proofs.Common.{◌≡◌, ◌∙◌, ℕ, ◌+◌, ◌≤◌, List, [], ◌∷◌, ◌++◌, length, Some, ap, sym, subst, arith}
use Rattle.std.specs.List.{find, slice_get}
use Rattle.hp_base.specs.declared.pool_line.PoolLine.{PoolLine}
use Rattle.hp_base.specs.declared.row.Run.{Run}
use Rattle.hp_log.specs.declared.log_record.LogRecord.{LogRecord}
use Rattle.hp_script.specs.declared.workload.Workload.{Workload}
use Rattle.hp_segs.specs.Causes.{HasCause}
use Rattle.hp_segs.specs.SegsView.{is_outcome_for}
use Rattle.hp_segs.specs.declared.outcome.AskLog.{AskLog}
use Rattle.hp_segs.specs.declared.outcome.Outcome.TheVariants.{Freed}
use Rattle.hp_proc.specs.Courses.{Standing, numbered_in}
use Rattle.hp_proc.specs.Doing.{Done}
use Rattle.hp_proc.specs.Doing.Done.{GaveUp}
use Rattle.hp_proc.specs.Ends.{none_made}
use Rattle.hp_proc.specs.LinesDone.{Course, IsDone, courses_of, trace_of}
use Rattle.hp_proc.specs.Outcomes.{AreAnsweredSo}
use Rattle.hp_proc.specs.Progress.{MayComeAndGo}
use Rattle.hp_proc.specs.Seen.{AreSeen, seen_by_lines}
use Rattle.thm_run.proofs.WhatWentBack.CutFirst.{IsCutFirst}
use Rattle.thm_run.proofs.WhatWentBack.CutLines.{cut_first_line}
use Rattle.thm_run.proofs.WhatWentBack.GoneInLines.{gone_in_line}
use Rattle.thm_run.proofs.WhatWentBack.LastDrops.{IsShownBetween, shown_between}
use Rattle.thm_run.proofs.LineSteps.LineSettled.{IsLineRun, line_behind, line_later, within_start}
use Rattle.thm_run.proofs.Rising.{rises_within, seen_rising}
use Rattle.thm_run.proofs.SeenAndShown.SeenAndGrown.{line_shows, more, others}
use Rattle.thm_run.proofs.SeenAndShown.SeenLog.{found_at}
use Rattle.thm_run.proofs.SeatFacts.SegsAlong.{sound_along}
use Rattle.thm_run.proofs.SeenAndShown.ShownLines.{lines_on, lines_still}
use Rattle.thm_run.proofs.SeenAndShown.ShownTraces.{AreFreedWithin, shown_rises}
use Rattle.thm_run.proofs.TellsLast.{line_tells}
use Rattle.thm_run.proofs.GrownHeaps.UngrantedAdds.{HasItsCause, caused_at}
use Rattle.thm_run.proofs.PathSteps.ByMail.{by_mail_then, run_of}
use Rattle.thm_run.specs.Drops.{numbers_made}
use Rattle.thm_run.specs.Freed.{AreShown, NoneComesLate, ShownOpen}
use Rattle.thm_run.specs.Seats.{Seat}
use Rattle.thm_run.specs.Together.{IsFirst, GlobalState, RunsByMail}

-- before the first line nothing is shown
pub shown_open : ShownOpen
shown_open log asks = seen_rising (length log) [] (omega arith)

-- the outcome of a notice shows as many records as there were
freed_at : (pools : List PoolLine) (log : List LogRecord) (entry : AskLog) (generation : ℕ) → entry.outcome ≡ Freed generation
    → (caused : HasItsCause pools log entry) → (generation ≡ entry.at) × (entry.at ≤ length log)
freed_at pools log entry generation is caused =
    ((subst (HasCause pools log caused.before entry) is caused.is.cause).0, caused.is.within)

module _ (count absent : ℕ) (pools : List PoolLine) (first start now : GlobalState) (is_first : IsFirst count absent pools first)
    (to_start : RunsByMail count first start) (who : ℕ) (old new : Seat) (trace : List Done) (line : IsLineRun count who start now old new trace)
  where
    abbrev came_log : List LogRecord
    came_log = more count absent pools first start now is_first to_start who old new trace line

    abbrev came_asks : List AskLog
    came_asks = others count absent pools first start now is_first to_start who old new trace line

    log_is : now.segs.log ≡ start.segs.log ++ came_log
    log_is = (line_behind count absent pools first start now is_first to_start who old new trace line).log

    asks_are : now.segs.asks ≡ start.segs.asks ++ came_asks
    asks_are = (line_behind count absent pools first start now is_first to_start who old new trace line).asks

    -- the outcomes that were there say it of no more records than were there
    start_freed : AreFreedWithin start.segs.log start.segs.asks
    start_freed place generation entry here is =
        let sound = sound_along count absent pools first is_first start (run_of to_start) in
        let caused = caused_at start.segs.pools start.segs.log [] start.segs.asks place entry sound.asks.caused here in
        let same = freed_at start.segs.pools start.segs.log entry generation is caused in
        omega (arith, same.0, same.1)

    -- the line gives up what it has cut, and its first number is a notice of this run: its outcome shows a Drop that came in the line, and no
    -- more records than are there after it
    module _ (cut : IsCutFirst trace) (heap : ℕ) (run : Run) (its : slice_get (numbered_in trace) 0 ≡ Some (GaveUp heap run)) where
      freed_between : (number generation : ℕ) (entry : AskLog) → number ≡ length (numbered_in old.trace) + 1
          → find (is_outcome_for who number) now.segs.asks ≡ Some entry → entry.outcome ≡ Freed generation
          → IsShownBetween now.segs.log run generation (length start.segs.log) (length now.segs.log)
      freed_between number generation entry its_number found is =
          let sound = sound_along count absent pools first is_first now (run_of (by_mail_then count first start now to_start line.runs)) in
          let at = found_at now.segs.asks who number entry found in
          let caused = caused_at now.segs.pools now.segs.log [] now.segs.asks at.place entry sound.asks.caused at.here in
          let same = freed_at now.segs.pools now.segs.log entry generation is caused in
          shown_between run now.segs.log generation (length start.segs.log)
          (gone_in_line count absent pools first start now is_first to_start who old new trace line cut heap run its at.place generation
          entry at.here at.from (at.its ∙ its_number) is)
          (omega (arith, same.0, same.1))

      freed_so : (by : ℕ) → by ≡ who → (number : ℕ) → number ≡ length (numbered_in old.trace) + 1 → (entry : AskLog) (generation : ℕ)
          → find (is_outcome_for by number) (start.segs.asks ++ came_asks) ≡ Some entry → entry.outcome ≡ Freed generation
          → IsShownBetween (start.segs.log ++ came_log) run generation (length start.segs.log) (length (start.segs.log ++ came_log))
      freed_so by own number its_number entry generation found is =
          let here : find (is_outcome_for who number) now.segs.asks ≡ Some entry =
          ap (find (is_outcome_for who number)) asks_are
          ∙ (ap (λ (by : ℕ). find (is_outcome_for by number) (start.segs.asks ++ came_asks)) (sym own) ∙ found) in
          subst (λ (log : List LogRecord). IsShownBetween log run generation (length start.segs.log) (length log)) log_is
          (freed_between number generation entry its_number here is)

    module _ (courses : List Course)
        (answered : (other : ℕ) → AreAnsweredSo start.segs.log start.segs.asks other (trace_of (courses_of other courses)))
        (seen : AreSeen (length start.segs.log) (seen_by_lines start.segs.log start.segs.asks none_made courses))
        (late : NoneComesLate courses start.segs.asks now.segs.asks) (shown : AreShown start.segs.log start.segs.asks courses) where
      its : (lines : List Course) → AreShown (start.segs.log ++ came_log) (start.segs.asks ++ came_asks) lines
          → AreShown now.segs.log now.segs.asks lines
      its lines shown =
          subst (λ (log : List LogRecord). AreShown log now.segs.asks lines) (sym log_is)
          (subst (λ (asks : List AskLog). AreShown (start.segs.log ++ came_log) asks lines) (sym asks_are) shown)

      none_late : NoneComesLate courses start.segs.asks (start.segs.asks ++ came_asks)
      none_late = subst (λ (asks : List AskLog). NoneComesLate courses start.segs.asks asks) asks_are late

      -- they show the same after a run
      pub shown_still : AreShown now.segs.log now.segs.asks courses
      shown_still =
          its courses
          (lines_still start.segs.log came_log start.segs.asks came_asks
          (line_later count absent pools first start now is_first to_start who old new trace line)
          (within_start count absent pools first start now is_first to_start who old new trace line) start_freed courses none_late shown)

      -- and one line more shows no less
      pub shown_on : (workload : Workload) (standing : Standing) (course : Course) → course.line.participant ≡ who
          → course.trace ≡ trace → old.trace ≡ trace_of (courses_of who courses) → MayComeAndGo who course.line.act
          → IsDone workload standing course → AreShown now.segs.log now.segs.asks (courses ++ course ∷ [])
      shown_on workload standing course own same so_far built done =
          let by = course.line.participant in
          let seen_more = line_shows count absent pools first start now is_first to_start who old new trace line courses answered seen
          workload standing course own same so_far built done in
          let tells = line_tells course.line course.line.act done.facts course.trace course.answer done.does in
          let cut : IsCutFirst trace =
          subst IsCutFirst same (cut_first_line course.line done.facts course.trace course.answer done.does) in
          let number : numbers_made by courses + 1 ≡ length (numbered_in old.trace) + 1 =
          omega (
            arith,
            ap (λ (trace : List Done). length (numbered_in trace)) so_far,
            ap (λ (who : ℕ). numbers_made who courses) own,
          ) in
          its (courses ++ course ∷ [])
          (lines_on start.segs.log came_log start.segs.asks came_asks
          (line_later count absent pools first start now is_first to_start who old new trace line)
          (within_start count absent pools first start now is_first to_start who old new trace line) start_freed courses none_late shown
          course
          (shown_rises (start.segs.log ++ came_log) (start.segs.asks ++ came_asks) by (length start.segs.log)
          (length (start.segs.log ++ came_log)) (numbers_made by courses + 1)
          (rises_within (length start.segs.log) (length (start.segs.log ++ came_log)) _ seen_more) course.trace tells
          (λ heap run told.
          freed_so cut heap run (subst (λ (dones : List Done). slice_get (numbered_in dones) 0 ≡ Some (GaveUp heap run)) same told) by own
          (numbers_made by courses + 1) number)
          seen_more))
