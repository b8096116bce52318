-- The asks of a trace are answered by the outcomes of their numbers, which rise by one from ask to ask.
use Rattle.std.proofs.Common.{◌≡◌, ℕ, zero, suc, ◌+◌, ◌≤◌, List, [], ◌∷◌, length, Option, Some, subst, arith}
use Rattle.std.specs.Prelude.{slice_get}
use Rattle.hp_base.specs.declared.row.Run.{Run}
use Rattle.hp_log.specs.declared.log_record.LogRecord.{LogRecord}
use Rattle.hp_segs.specs.declared.outcome.AskLog.{AskLog}
use Rattle.hp_proc.specs.Acting.{AreAsked}
use Rattle.hp_serve.specs.Asking.{HasAnswer}
use Rattle.hp_proc.specs.Courses.{numbered_in}
use Rattle.hp_proc.specs.Doing.{Done}
use Rattle.hp_proc.specs.Doing.Done.{Asked, GaveUp}
use Rattle.hp_proc.specs.Outcomes.{AreInTurn, IsAnsweredSo}
use Rattle.hp_serve.specs.Asking.{ask_of}
use Rattle.hp_serve.specs.declared.pages_asked.PagesAsked.{PagesAsked}
use Rattle.hp_proc.proofs.InTurn.{answers_in_turn}

module _ (log : List LogRecord) (asks : List AskLog) (who : ℕ) where
  -- each ask and each notice takes a number
  numbers_rise : (before after : ℕ) (trace : List Done) → AreAsked log asks who before after trace
      → before + length (numbered_in trace) ≤ after
  unfolding AreAsked
  numbers_rise before after [] is = omega (arith, is)
  numbers_rise before after (Asked asked run ∷ trace) is =
      let rest = numbers_rise is.0 after trace is.2 in
      let next = is.1.number in
      omega (arith, rest, next)
  numbers_rise before after (GaveUp heap run ∷ trace) is =
      let rest = numbers_rise (before + 1) after trace is in
      omega (arith, rest)
  numbers_rise before after (_ ∷ trace) is = numbers_rise before after trace is

  -- each ask of a trace after that number has its answer
  abbrev HasAnswers : ℕ → List Done → Type 0
  HasAnswers before trace = (place : ℕ) (asked : PagesAsked) (run : Option Run)
      → slice_get (numbered_in trace) place ≡ Some (Asked asked run) → HasAnswer log asks (ask_of who (before + place + 1) asked) run

  answer_here : (before mid : ℕ) (asked its_asked : PagesAsked) (run its_run : Option Run) → mid ≡ before + 1
      → Some (Asked asked run) ≡ Some (Asked its_asked its_run) → HasAnswer log asks (ask_of who mid asked) run
      → HasAnswer log asks (ask_of who (before + 0 + 1) its_asked) its_run
  answer_here before mid asked its_asked run its_run next is has =
      let askeds : asked ≡ its_asked = cc in
      let runs : run ≡ its_run = cc in
      let number : mid ≡ before + 0 + 1 = omega (arith, next) in
      subst (λ number. HasAnswer log asks (ask_of who number its_asked) its_run) number
      (subst (λ asked. HasAnswer log asks (ask_of who mid asked) its_run) askeds
      (subst (HasAnswer log asks (ask_of who mid asked)) runs has))

  further : (before place : ℕ) (asked : PagesAsked) (run : Option Run) → HasAnswer log asks (ask_of who (before + 1 + place + 1) asked) run
      → HasAnswer log asks (ask_of who (before + suc place + 1) asked) run
  further before place asked run has =
      let number : before + 1 + place + 1 ≡ before + suc place + 1 = omega arith in
      subst (λ number. HasAnswer log asks (ask_of who number asked) run) number has

  -- where the last number is that of their count, each took the next one
  has_answers : (before after : ℕ) (trace : List Done) → AreAsked log asks who before after trace
      → after ≤ before + length (numbered_in trace) → HasAnswers before trace
  unfolding AreAsked
  has_answers before after [] is few place asked run at = cc
  has_answers before after (GaveUp heap gone ∷ trace) is few zero asked run at = cc
  has_answers before after (GaveUp heap gone ∷ trace) is few (suc place) asked run at =
      further before place asked run (has_answers (before + 1) after trace is (omega (arith, few)) place asked run at)
  has_answers before after (Asked its_asked its_run ∷ trace) is few zero asked run at =
      let rest = numbers_rise is.0 after trace is.2 in
      let next = is.1.number in
      answer_here before is.0 its_asked asked its_run run (omega (arith, rest, next, few)) at is.1.answer
  has_answers before after (Asked its_asked its_run ∷ trace) is few (suc place) asked run at =
      let rest = numbers_rise is.0 after trace is.2 in
      let next = is.1.number in
      let mid : is.0 ≡ before + 1 = omega (arith, rest, next, few) in
      further before place asked run
      (has_answers (before + 1) after trace (subst (λ mid. AreAsked log asks who mid after trace) mid is.2) (omega (arith, few)) place asked
      run at)
  has_answers before after (_ ∷ trace) is few place asked run at = has_answers before after trace is few place asked run at

  -- those of a whole trace
  pub all_have : (after : ℕ) (trace : List Done) → AreAsked log asks who 0 after trace → after ≡ length (numbered_in trace)
      → (place : ℕ) (asked : PagesAsked) (run : Option Run) → slice_get (numbered_in trace) place ≡ Some (Asked asked run)
      → HasAnswer log asks (ask_of who (place + 1) asked) run
  all_have after trace are count place asked run at =
      let number : 0 + place + 1 ≡ place + 1 = omega arith in
      subst (λ number. HasAnswer log asks (ask_of who number asked) run) number
      (has_answers 0 after trace are (omega (arith, count)) place asked run at)

  -- where outcomes come in turn, that is the outcome of the ask
  pub answers_all : AreInTurn asks → (after : ℕ) (trace : List Done) → AreAsked log asks who 0 after trace
      → after ≡ length (numbered_in trace) → (place : ℕ) (asked : PagesAsked) (run : Option Run)
      → slice_get (numbered_in trace) place ≡ Some (Asked asked run) → IsAnsweredSo log asks who (place + 1) asked run
  answers_all turn after trace are count place asked run at =
      answers_in_turn log asks turn who (place + 1) asked run (all_have after trace are count place asked run at)
