-- What comes home from a participant's thread, by its own view alone: the rule "Threads" of docs/RUNS.md.
use Rattle.std.specs.Prelude.{◌≡◌, List, [], map, Option, Some, None, ⊤}
use Rattle.hp_board.specs.Knowing.{heap_part}
use Rattle.hp_board.specs.SeatView.{SeatView}
use Rattle.hp_board.specs.Views.{marked_in, own_of}
use Rattle.hp_chair.specs.DoneBy.{IsDoneBy}
use Rattle.hp_chair.specs.Places.{HasPasses}
use Rattle.hp_chair.specs.Publishing.{HasReadBy}
use Rattle.hp_events.specs.Watchers.{WatchersView}
use Rattle.hp_hall.specs.Mail.{MailStep}
use Rattle.hp_mail.specs.PassView.{PassView}
use Rattle.hp_maps.specs.declared.table.Table.{Table}
use Rattle.hp_proc.specs.LinesDone.{Course}
use Rattle.hp_proc.specs.ParticipantView.{ParticipantView}
use Rattle.hp_script.specs.declared.answer.Answer.{Answer}
use Rattle.hp_script.specs.declared.workload.Workload.{Workload}
use Rattle.hp_serve.specs.Ending.{LeavesTable}
use Rattle.hp_serve.specs.Tied.{IsTiedAs}
use Rattle.hp_serve.specs.Watched.{names_of}
use Rattle.hp_threads.specs.Working.{HasDoneLines, lines_for}
use Rattle.hp_threads.specs.Works.{Works}
use Rattle.hp_threads.specs.Workers.{WorkerView}
use Rattle.hp_threads.specs.declared.working.Done.{Done}
use Rattle.hp_threads.specs.declared.working.Worked.{Worked}

-- the seat is the participant's, at the same board, and holds no slot; what it had in hand, took and gave there, made, saw of the names, and told
-- and looked up of lines, and what its passes have posted and fetched, is what these steps say
pub record CameHome (old new : SeatView) (passes : List PassView) (steps : List MailStep) : Type 0 where
  pub board : new.board ≡ old.board
  pub who : new.mine.who ≡ old.mine.who
  pub free : new.mine.held ≡ []
  pub done : IsDoneBy old.mine new.mine steps
  pub mail : HasPasses old.mine.who old.mine.opening.participants steps passes

-- what it leaves of its watchers is what they were told, and their names are those that its lines left
pub record LeavesWatchers (last : ParticipantView) (watchers : WatchersView) : Type 0 where
  pub heard : watchers.listeners ≡ last.party.listeners
  pub named : names_of last.party.listeners ≡ last.context.standing.watchers

-- all its lines were done, by these steps, and answered so; by its view the heaps have its calls and its asks their answers, its table is
-- that of its number, with the chunks that have its mark, and its watchers are those of its lines
pub record HasDoneAll (workload : Workload) (first : ParticipantView) (seat : SeatView) (steps : List MailStep) (answers : List Answer)
    (table : Table) (watchers : WatchersView) : Type 0 where
  pub courses : List Course
  pub last : ParticipantView
  pub lines_are : map (λ course. course.line) courses ≡ lines_for seat.mine.who workload.lines.items
  pub answered : map (λ course. course.answer) courses ≡ answers
  pub works : Works workload.participants first last courses steps
  pub done : HasDoneLines workload courses seat.mine.who last (heap_part seat.mine) seat.mine.log seat.mine.heard
  pub attached : seat.mine.joined ≡ last.context.standing.attached
  pub tied : IsTiedAs seat.mine.log (own_of seat.mine) (λ heap. marked_in heap seat.mine) seat.mine.joined last.party.joined last.party.maps
  pub leaves : LeavesTable last.party table
  pub watched : LeavesWatchers last watchers

-- all its lines are done, unless it was refused memory
abbrev pub HasDoneUnlessStopped : Workload → ParticipantView → SeatView → List MailStep → Option Done → Type 0
HasDoneUnlessStopped workload first seat steps None = ⊤
HasDoneUnlessStopped workload first seat steps (Some done) = HasDoneAll workload first seat steps done.answers done.table done.watchers

-- what a thread promises of its participant, whose passes are to the same mailboxes as before, and to the same cells, by which it has read
-- and published what its steps say
pub record HasWorked (workload : Workload) (worker : WorkerView) (worked : Worked) : Type 0 where
  pub steps : List MailStep
  pub home : CameHome worker.seat worked.seat worked.passes.items steps
  pub mailboxes : map (λ pass. pass.mailbox) worked.passes.items ≡ map (λ pass. pass.mailbox) worker.passes
  pub cells : worked.stats.cells ≡ worker.stats.cells
  pub read : HasReadBy steps worked.stats
  pub has : HasDoneUnlessStopped workload worker.doer worked.seat steps worked.done
