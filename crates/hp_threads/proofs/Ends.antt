-- What all participants' promises come to when the board is closed.
use Rattle.std.proofs.Common.{◌≡◌, ◌∙◌, ℕ, ◌<◌, ◌≤◌, ◌==◌, ne_eqb, List, [], ◌∷◌, map, length, Some, refl, sym, ap, subst, ⊎_elim, arith}
use Rattle.std.specs.List.{All, Contains, slice_get}
use Rattle.std.proofs.lemmas.Bool.{cases_lt, cond-false}
use Rattle.std.proofs.lemmas.List.{get_or_past, length-map}
use Rattle.std.proofs.lemmas.Option.{slice_get_within}
use Rattle.hp_base.specs.declared.limits.TheConstants.{MAX_PARTICIPANTS}
use Rattle.hp_board.specs.BoardView.{BoardView}
use Rattle.hp_board.specs.Closing.{IsAmong, IsFreeSeat}
use Rattle.hp_board.specs.SeatView.{SeatView}
use Rattle.hp_events.specs.Watchers.{WatchersView}
use Rattle.hp_mail.specs.PassView.{PassView}
use Rattle.hp_maps.specs.declared.table.Table.{Table}
use Rattle.hp_proc.specs.LinesDone.{Course}
use Rattle.hp_proc.specs.ParticipantView.{ParticipantView}
use Rattle.hp_script.specs.Limits.{AreDeclared}
use Rattle.hp_script.specs.declared.answer.Answer.{Answer}
use Rattle.hp_script.specs.declared.line.Line.{Line}
use Rattle.hp_script.specs.declared.workload.Workload.{Workload}
use Rattle.hp_stats.specs.StatViews as stats
use Rattle.hp_weave.specs.Weaving.{woven}
use Rattle.thm_run.proofs.HallFacts.HallHeaps.{all_from_places}
use Rattle.thm_run.proofs.RunFacts.SoFarFacts.{at_place}
use Rattle.hp_threads.specs.Running.{AllHavePromised, HasPromised, answers_of}
use Rattle.hp_threads.specs.Working.{CanBeDone, lines_for}
use Rattle.hp_threads.proofs.Promises.{at_or}

-- who is not declared has no lines
no_lines : (who count : ℕ) (lines : List Line) → AreDeclared count lines → count ≤ who → lines_for who lines ≡ []
no_lines who count [] declared beyond = refl
no_lines who count (line ∷ lines) declared beyond =
    cond-false (line.participant == who) (line ∷ lines_for who lines) (lines_for who lines)
    (ne_eqb line.participant who (λ same. omega (arith, same, declared.0, beyond)))
    ∙ no_lines who count lines declared.1 beyond

pub contains_at : {A : Type 0} (xs : List A) (place : ℕ) (x : A) → slice_get xs place ≡ Some x → Contains xs x
contains_at xs place x at = (place, slice_get_within xs place x at, at_or xs place x x at)

module _ (workload : Workload) (board : BoardView) (opened : board.opening.participants ≡ workload.participants)
    (firsts : List ParticipantView) (seats : List SeatView) (by : List (List Answer)) (tables : List Table) (watchers : List WatchersView)
    (stat_passes : List stats.PassView) (promised : AllHavePromised workload board firsts seats by tables watchers stat_passes) where
  -- a participant's promise
  pub record IsPromised (who : ℕ) (seat : SeatView) : Type 0 where
    pub first : ParticipantView
    pub passes : List PassView
    pub its : List Answer
    pub table : Table
    pub heard : WatchersView
    pub answered : slice_get by who ≡ Some its
    pub has : HasPromised workload board who first seat passes (promised.steps who) its table heard

  promise_at : (who : ℕ) (seat : SeatView) → slice_get seats who ≡ Some seat → IsPromised who seat
  promise_at who seat there =
      let within = slice_get_within seats who seat there in
      let first = at_place firsts who (omega (arith, within, promised.begun, promised.many)) in
      let passes = at_place promised.all_passes who (omega (arith, within, promised.homed, promised.many)) in
      let its = at_place by who (omega (arith, within, promised.answered, promised.many)) in
      let table = at_place tables who (omega (arith, within, promised.count, promised.many)) in
      let heard = at_place watchers who (omega (arith, within, promised.watched, promised.many)) in
      record {
        first = first.it;
        passes = passes.it;
        its = its.it;
        table = table.it;
        heard = heard.it;
        answered = its.there;
        has = promised.each who first.it seat passes.it its.it table.it heard.it first.there there passes.there its.there table.there
            heard.there;
      }

  -- nobody holds a slot, and all are there
  pub all_free : All (IsFreeSeat board) seats
  all_free =
      all_from_places (IsFreeSeat board) seats
      (λ who seat there.
      let is = promise_at who seat there in record { board_is = is.has.home.board; holds = is.has.home.free })

  pub everyone : (who : ℕ) → who < board.opening.participants → IsAmong seats who
  everyone who below =
      let one = at_place seats who (omega (arith, below, opened, promised.many)) in
      record {
        seat = one.it;
        there = contains_at seats who one.it one.there;
        who_is = (promise_at who one.it one.there).has.home.who;
      }

  -- each has as many answers as lines
  answers_there : (who : ℕ) → who < workload.participants → length (answers_of by who) ≡ length (lines_for who workload.lines.items)
  answers_there who below =
      let one = at_place seats who (omega (arith, below, promised.many)) in
      let is = promise_at who one.it one.there in
      let done = is.has.has in
      ap (λ (all : List Answer). length all) (at_or by who is.its [] is.answered)
      ∙ ap (λ (all : List Answer). length all) (sym done.answered)
      ∙ length-map done.courses (λ (course : Course). course.answer)
      ∙ sym (length-map done.courses (λ (course : Course). course.line))
      ∙ ap (λ (all : List Line). length all) done.lines_are
      ∙ ap (λ (number : ℕ). length (lines_for number workload.lines.items)) is.has.home.who

  pub answers_many : AreDeclared workload.participants workload.lines.items → (who : ℕ)
      → length (answers_of by who) ≡ length (lines_for who workload.lines.items)
  answers_many declared who =
      ⊎_elim (answers_there who)
      (λ (beyond : workload.participants ≤ who).
      ap (λ (all : List Answer). length all) (get_or_past by who [] (omega (arith, beyond, promised.answered)))
      ∙ sym (ap (λ (all : List Line). length all) (no_lines who workload.participants workload.lines.items declared beyond)))
      (cases_lt who workload.participants)

  -- their answers, and the lines that these are woven by
  module _ (can : CanBeDone workload.participants workload.lines.items) (lines : List Line) (given : List (List Answer))
      (lines_are : lines ≡ workload.lines.items) (given_are : given ≡ by) where
    pub few_answered : workload.participants ≤ MAX_PARTICIPANTS → length given ≤ MAX_PARTICIPANTS
    few_answered few = subst (λ (all : List (List Answer)). length all ≤ MAX_PARTICIPANTS) (sym given_are) (omega (arith, promised.answered, few))

    pub answered_declared : AreDeclared (length given) lines
    answered_declared =
        subst (λ (count : ℕ). AreDeclared count lines)
        (sym (ap (λ (all : List (List Answer)). length all) given_are ∙ promised.answered))
        (subst (AreDeclared workload.participants) (sym lines_are) can.declared)

    pub answered_lines : (who : ℕ) → length (answers_of given who) ≡ length (lines_for who lines)
    answered_lines who =
        ap (λ (all : List (List Answer)). length (answers_of all who)) given_are
        ∙ answers_many can.declared who
        ∙ ap (λ (all : List Line). length (lines_for who all)) (sym lines_are)

    pub woven_by : (answers : List Answer) → answers ≡ woven (map (λ (line : Line). line.participant) lines) (answers_of given)
        → answers ≡ woven (map (λ (line : Line). line.participant) workload.lines.items) (answers_of by)
    woven_by answers are =
        are
        ∙ ap (λ (all : List Line). woven (map (λ (line : Line). line.participant) all) (answers_of given)) lines_are
        ∙ ap (λ (all : List (List Answer)). woven (map (λ (line : Line). line.participant) workload.lines.items) (answers_of all)) given_are
