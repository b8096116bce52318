-- What a hall hands out at its end is what its participant's thread promises.
use Rattle.std.proofs.Common.{◌≡◌, ◌∙◌, ℕ, Bool, false, eqb, eq-eqb, List, [], ◌∷◌, ◌++◌, map, Some, None, refl, sym, ap, subst}
use Rattle.std.specs.Prelude.{Result, Ok, Err, IfOk}
use Rattle.std.specs.Result.{result_ok}
use Rattle.std.proofs.lemmas.Bool.{cond-true}
use Rattle.std.proofs.lemmas.Option.{none-some}
use Rattle.hp_board.specs.Knowing.{heap_part}
use Rattle.hp_board.specs.SeatView.{SeatView}
use Rattle.hp_board.specs.Views.{marked_in, own_of, value_of}
use Rattle.hp_chair.specs.ChairCourse.{IsChairCourse}
use Rattle.hp_chair.specs.ChairLaws.{as_many}
use Rattle.hp_chair.specs.ChairView.{ChairView, chair_part, chair_state, no_part}
use Rattle.hp_chair.specs.DoneBy.{IsDoneBy}
use Rattle.hp_chair.specs.Places.{HasPasses}
use Rattle.hp_chair.proofs.OneOf.{one_here}
use Rattle.hp_events.specs.Watchers.{WatchersView}
use Rattle.hp_hall.specs.Holding.{HeapPart}
use Rattle.hp_hall.specs.Mail.{MailStep}
use Rattle.hp_hall.specs.Own.{Own, after_ack}
use Rattle.hp_hall.specs.declared.kept.Kept.{Kept}
use Rattle.hp_mail.specs.PassView.{PassView}
use Rattle.hp_maps.specs.declared.table.Table.{Table}
use Rattle.hp_script.specs.declared.answer.Answer.{Answer}
use Rattle.hp_script.specs.declared.line.Line.{Line}
use Rattle.hp_script.specs.declared.workload.Workload.{Workload}
use Rattle.hp_serve.specs.Ending.{LeavesTable}
use Rattle.hp_serve.specs.Tied.{IsTiedAs}
use Rattle.hp_proc.specs.LineInHall.{IsReadyIn}
use Rattle.hp_proc.specs.ParticipantView.{ParticipantView}
use Rattle.hp_threads.specs.Leaving.{CameHome, HasDoneAll, HasDoneUnlessStopped, LeavesWatchers}
use Rattle.hp_threads.specs.Working.{HasDoneLines, HasDoneOwn, lines_for}
use Rattle.hp_threads.specs.Works.{Works}
use Rattle.hp_threads.specs.declared.working.Done.{Done}

-- where nothing is held under any number, nothing is held
none_held : (held : List (ℕ × Kept)) → ((number : ℕ) → value_of number held ≡ None) → held ≡ []
none_held [] none = refl
none_held (pair ∷ held) none =
    let is : value_of pair.0 (pair ∷ held) ≡ Some pair.1 =
    cond-true (eqb pair.0 pair.0) (Some pair.1) (value_of pair.0 held) (eq-eqb pair.0 pair.0 refl) in
    absurd (none-some pair.1 (sym (none pair.0) ∙ is))

-- what the hall said to its participant is what its seat knows
module _ (chair : ChairView) (me : ℕ) (here : me ≡ chair.seat.mine.who) where
  part_is : (chair_state chair).part me ≡ chair_part chair
  part_is = one_here {A = ℕ → HeapPart} chair.seat.mine.who me (chair_part chair) (λ heap. no_part) here

  own_is : (chair_state chair).own me ≡ own_of chair.seat.mine
  own_is = one_here chair.seat.mine.who me (own_of chair.seat.mine) (after_ack 0) here

  joined_is : (chair_state chair).joined me ≡ chair.seat.mine.joined
  joined_is = one_here chair.seat.mine.who me chair.seat.mine.joined false here

  did_is : (chair_state chair).done me ≡ chair.steps
  did_is = one_here {A = List MailStep} chair.seat.mine.who me chair.steps [] here

module _ (old new : ChairView) (course : IsChairCourse old new) (me : ℕ) (last : ParticipantView) (ready : IsReadyIn me last (chair_state new)) where
  whose : me ≡ new.seat.mine.who
  whose = ready.idle.serves

  -- the seat and the passes come home
  pub comes_home : (seat : SeatView) (passes : List PassView) → seat ≡ new.seat → passes ≡ new.passes → old.steps ≡ []
      → HasPasses new.seat.mine.who new.seat.mine.opening.participants new.steps passes
      → CameHome old.seat seat passes new.steps
  comes_home seat passes seat_is passes_are none mail = record {
    board = ap (λ (s : SeatView). s.board) seat_is ∙ course.board;
    who = ap (λ (s : SeatView). s.mine.who) seat_is ∙ course.who;
    free = ap (λ (s : SeatView). s.mine.held) seat_is ∙ none_held new.seat.mine.held ready.idle.free;
    done = subst (λ (s : SeatView). IsDoneBy old.seat.mine s.mine new.steps) (sym seat_is)
        (subst (IsDoneBy old.seat.mine new.seat.mine) (sym (course.made ∙ ap (λ (steps : List MailStep). steps ++ course.steps) none))
        course.done);
    mail = subst (λ (n : ℕ). HasPasses old.seat.mine.who n new.steps passes) (as_many old new course)
        (subst (λ (who : ℕ). HasPasses who new.seat.mine.opening.participants new.steps passes) course.who mail);
  }

  -- to the same mailboxes
  pub same_boxes : (passes : List PassView) → passes ≡ new.passes
      → map (λ (pass : PassView). pass.mailbox) passes ≡ map (λ (pass : PassView). pass.mailbox) old.passes
  same_boxes passes passes_are = ap (map (λ (pass : PassView). pass.mailbox)) passes_are ∙ course.boxes

  module _ (workload : Workload) (lines : List Line) (answers : List Answer) (first : ParticipantView)
      (done : HasDoneOwn workload me lines answers first last (chair_state new)) where
    lines_there : HasDoneLines workload done.courses new.seat.mine.who last (heap_part new.seat.mine) new.seat.mine.log new.seat.mine.heard
    lines_there =
        let was = done.worked.done in
        subst
        (λ (who : ℕ). HasDoneLines workload done.courses who last (heap_part new.seat.mine) new.seat.mine.log new.seat.mine.heard) whose
        (record {
          me = was.me;
          socket = was.socket;
          deadline = was.deadline;
          knows = was.knows;
          own = was.own;
          done = was.done;
          entries = λ heap. ap (λ (part : ℕ → HeapPart). (part heap).entries) (sym (part_is new me whose)) ∙ was.entries heap;
          asked = was.asked;
        })

    pub has_done : (seat : SeatView) (table : Table) (watchers : WatchersView) → seat ≡ new.seat → LeavesTable last.party table
        → LeavesWatchers last watchers → lines ≡ workload.lines.items → HasDoneAll workload first seat new.steps answers table watchers
    has_done seat table watchers seat_is leaves watched all =
        subst (λ (s : SeatView). HasDoneAll workload first s new.steps answers table watchers) (sym seat_is)
        (record {
          courses = done.courses;
          last = last;
          lines_are = done.lines_are ∙ ap (λ (who : ℕ). lines_for who lines) whose ∙ ap (lines_for new.seat.mine.who) all;
          answered = done.answered;
          works = subst (Works workload.participants first last done.courses) (did_is new me whose) done.worked.works;
          done = lines_there;
          attached = sym (joined_is new me whose) ∙ ready.attached;
          tied = subst
              (λ (own : Own).
              IsTiedAs new.seat.mine.log own (λ (heap : ℕ). marked_in heap new.seat.mine) new.seat.mine.joined last.party.joined last.party.maps)
              (own_is new me whose)
              (subst
              (λ (part : ℕ → HeapPart).
              IsTiedAs new.seat.mine.log ((chair_state new).own me) (λ (heap : ℕ). (part heap).marked) new.seat.mine.joined last.party.joined
              last.party.maps)
              (part_is new me whose)
              (subst
              (λ (member : Bool).
              IsTiedAs new.seat.mine.log ((chair_state new).own me) (λ (heap : ℕ). ((chair_state new).part me heap).marked) member
              last.party.joined last.party.maps)
              (joined_is new me whose) ready.idle.tied));
          leaves = leaves;
          watched = watched;
        })

  -- whatever became of its work
  pub has_unless : {E : Type 0} (result : Result Done E) (workload : Workload) (first : ParticipantView) (seat : SeatView) → seat ≡ new.seat
      → IfOk result (λ done. HasDoneOwn workload me workload.lines.items done.answers first last (chair_state new))
      → IfOk result (λ done. LeavesTable last.party done.table) → IfOk result (λ done. LeavesWatchers last done.watchers)
      → HasDoneUnlessStopped workload first seat new.steps (result_ok result)
  has_unless (Ok done) workload first seat seat_is own leaves watched =
      has_done workload workload.lines.items done.answers first own seat done.table done.watchers seat_is leaves watched refl
  has_unless (Err refusal) workload first seat seat_is own leaves watched = tt
