-- Worked values: of a pool of one page participant 0 takes the page and gives it back, and then participant 1 asks for it and is refused, as
-- the pool is empty. Where the notice of participant 0 has its outcome only after that, its line shows more of the log than the later one, as no
-- run does, though what asks and looks show never falls: the outcome came late. So it is whatever messages the plan loses. And where
-- participant 0 takes the page and gives it back twice, the second notice has its outcome only after a Drop of its own.
use Rattle.std.proofs.Common.{◌≡◌, ℕ, ◌^◌, true, false, List, [], ◌∷◌, ◌++◌, Some, None, refl, arith}
use Rattle.hp_base.specs.declared.request.Request.{Request}
use Rattle.hp_base.specs.declared.row.Run.{Run}
use Rattle.hp_heap.specs.declared.entry.HeapAnswer.TheVariants as gives
use Rattle.hp_heap.specs.declared.entry.HeapCall.TheVariants as call
use Rattle.hp_log.specs.declared.log_record.LogRecord.{LogRecord}
use Rattle.hp_log.specs.declared.log_record.LogRecord.TheVariants.{Add, Drop}
use Rattle.hp_script.specs.declared.answer.Answer.{Answer}
use Rattle.hp_script.specs.declared.answer.Answer.TheVariants as answer
use Rattle.hp_script.specs.declared.line.Act.{Act}
use Rattle.hp_segs.specs.declared.outcome.AskLog.{AskLog}
use Rattle.hp_segs.specs.declared.outcome.Cause.TheVariants.{TooFew}
use Rattle.hp_segs.specs.declared.outcome.Outcome.{Outcome}
use Rattle.hp_segs.specs.declared.outcome.Outcome.TheVariants.{Freed, Granted, Refused}
use Rattle.hp_proc.specs.Doing.{Done}
use Rattle.hp_proc.specs.Doing.Done.{Asked, Called, GaveUp}
use Rattle.hp_proc.specs.Ends.{none_made}
use Rattle.hp_proc.specs.LinesDone.{Course}
use Rattle.hp_proc.specs.Outcomes.{HasGone}
use Rattle.hp_proc.specs.Seen.{AreSeen, seen_by_lines}
use Rattle.hp_serve.specs.declared.pages_asked.PagesAsked.{PagesAsked}
use Rattle.thm_run.proofs.Rising.{rises_seen, seen_rising}
use Rattle.thm_run.specs.Freed.{AreShown, NoneComesLate, shown_by_lines}

-- the page that comes and goes
abbrev run : Run
run = record { list = 0; first = 0; count = 1; addr = 2 ^ 32; page = 2 ^ 21; socket = 0 }

module _ (alloc free : Act) (request : Request) where
  abbrev page : PagesAsked
  page = record { heap = 0; socket = 0; page = 2 ^ 21; request = request }

  abbrev did : ℕ → Act → Answer → List Done → Course
  did who act answer trace = record { line = record { line = 1; participant = who; act = act }; answer = answer; trace = trace }

  abbrev before : List Course
  before =
      did 0 alloc (answer.Address 128) (Asked page (Some run) ∷ [])
      ∷ did 0 free answer.Done (Called 0 (call.Cut 128) (gives.Pages run) ∷ GaveUp 0 run ∷ []) ∷ []

  abbrev lines : List Course
  lines =
      did 0 alloc (answer.Address 128) (Asked page (Some run) ∷ [])
      ∷ did 0 free answer.Done (Called 0 (call.Cut 128) (gives.Pages run) ∷ GaveUp 0 run ∷ [])
      ∷ did 1 alloc answer.None (Asked page None ∷ []) ∷ []

  abbrev outcome : ℕ → ℕ → ℕ → Outcome → AskLog
  outcome who number at its = record { from = who; number = number; ask = None; outcome = its; at = at }

  abbrev log : List LogRecord
  log = Add run 0 ∷ Drop run ∷ []

  -- before the third line the notice has no outcome, and it comes after the ask of that line was refused
  abbrev was : List AskLog
  was = outcome 0 1 1 (Granted 1) ∷ []

  abbrev late : List AskLog
  late = outcome 0 1 1 (Granted 1) ∷ outcome 1 1 1 (Refused (TooFew 0 1)) ∷ outcome 0 2 2 (Freed 2) ∷ []

  shown_late : shown_by_lines log late none_made lines ≡ 0 ∷ 1 ∷ 1 ∷ 2 ∷ 1 ∷ 1 ∷ []
  shown_late = refl

  never : AreShown log late lines → ⊥
  never shown =
      let rises = rises_seen 2 (0 ∷ 1 ∷ 1 ∷ 2 ∷ 1 ∷ 1 ∷ []) shown in
      omega (arith, rises.1.1.1.1.0)

  -- without the notice nothing shows it
  unseen : AreSeen 2 (seen_by_lines log late none_made lines)
  unseen = seen_rising 2 (0 ∷ 1 ∷ 1 ∷ 1 ∷ []) (omega arith, (omega arith, (omega arith, (omega arith, omega arith))))

  -- and it comes late, as none may
  comes_late : NoneComesLate before was late → ⊥
  comes_late none =
      let there : false ≡ true = none 0 2 (omega arith) (omega arith) refl in
      cc

  -- where it has its outcome before, all is as it should be
  abbrev in_time : List AskLog
  in_time = outcome 0 1 1 (Granted 1) ∷ outcome 0 2 2 (Freed 2) ∷ outcome 1 1 2 (Refused (TooFew 1 2)) ∷ []

  is_shown : AreShown log in_time lines
  is_shown =
      seen_rising 2 (0 ∷ 1 ∷ 1 ∷ 2 ∷ 2 ∷ 2 ∷ [])
      (omega arith, (omega arith, (omega arith, (omega arith, (omega arith, (omega arith, omega arith))))))

  -- WHERE PARTICIPANT 0 TAKES THE PAGE AND GIVES IT BACK TWICE

  abbrev twice : List Course
  twice = before ++ before

  abbrev told : ℕ → List AskLog
  told at =
      outcome 0 1 1 (Granted 1) ∷ outcome 0 2 2 (Freed 2) ∷ outcome 0 3 3 (Granted 3) ∷ outcome 0 4 at (Freed at) ∷ []

  -- the second notice is told that its run has gone, and there is a Drop of these slots, but no second one
  abbrev undropped : List LogRecord
  undropped = Add run 0 ∷ Drop run ∷ Add run 0 ∷ []

  has_gone : HasGone undropped 3 run
  has_gone = record { place = 1; before = omega arith; dropped = refl }

  -- without the notices nothing shows it, and no outcome comes late
  unseen_twice : AreSeen 3 (seen_by_lines undropped (told 3) none_made twice)
  unseen_twice = seen_rising 3 (0 ∷ 1 ∷ 2 ∷ 3 ∷ []) (omega arith, (omega arith, (omega arith, (omega arith, omega arith))))

  shown_undropped : shown_by_lines undropped (told 3) none_made twice ≡ 0 ∷ 1 ∷ 1 ∷ 2 ∷ 2 ∷ 3 ∷ 1 ∷ 3 ∷ []
  shown_undropped = refl

  -- its Drop is one that the lines before have seen
  never_undropped : AreShown undropped (told 3) twice → ⊥
  never_undropped shown =
      let rises = rises_seen 3 (0 ∷ 1 ∷ 1 ∷ 2 ∷ 2 ∷ 3 ∷ 1 ∷ 3 ∷ []) shown in
      omega (arith, rises.1.1.1.1.1.1.0)

  -- where it has a Drop of its own, all is as it should be
  abbrev dropped_twice : List LogRecord
  dropped_twice = Add run 0 ∷ Drop run ∷ Add run 0 ∷ Drop run ∷ []

  shown_dropped : AreShown dropped_twice (told 4) twice
  shown_dropped =
      seen_rising 4 (0 ∷ 1 ∷ 1 ∷ 2 ∷ 2 ∷ 3 ∷ 3 ∷ 4 ∷ [])
      (omega arith, (omega arith, (omega arith, (omega arith, (omega arith, (omega arith, (omega arith, (omega arith, omega arith))))))))
