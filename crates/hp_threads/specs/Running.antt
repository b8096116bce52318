-- What participants on threads leave: the rule "Threads" of docs/RUNS.md.
use Rattle.std.specs.Prelude.{◌≡◌, ℕ, List, [], Contains, length, map, replicate, Option, Some, None, slice_get, slice_index_or, zip}
use Rattle.std.specs.List.{All}
use Rattle.atomic_table.specs.Seated.{TableId}
use Rattle.hp_base.specs.declared.limits.TheConstants.{MAX_HEAPS}
use Rattle.hp_board.specs.BoardView.{BoardView}
use Rattle.hp_board.specs.Closing.{AreHeaps, AreLeftNames, AreLeftSegs, AreOwnedAtLast, HaveMoved, IsNotedUpTo, KeepCallsOf, KeepsTableOf, handed_out}
use Rattle.hp_board.specs.SeatView.{SeatView, new_seat, new_seats}
use Rattle.hp_chair.specs.Publishing.{HasReadBy}
use Rattle.hp_events.specs.Watchers.{WatchersView}
use Rattle.hp_heap.specs.History.{HeapView}
use Rattle.hp_mail.specs.PassView.{MailboxView, PassView}
use Rattle.hp_maps.specs.declared.table.Table.{Table}
use Rattle.hp_proc.specs.ParticipantView.{ParticipantView}
use Rattle.hp_script.specs.declared.answer.Answer.{Answer}
use Rattle.hp_script.specs.declared.workload.Workload.{Workload}
use Rattle.hp_segs.specs.SegsView.{SegsView}
use Rattle.hp_weave.specs.Weaving.{woven}
use Rattle.hp_hall.specs.Mail.{MailStep}
use Rattle.hp_stats.specs.StatViews as stats
use Rattle.hp_stats.specs.StatViews.{PenView}
use Rattle.hp_zone.specs.declared.names.Names.{Names as NamesView}
use Rattle.hp_threads.specs.Counting.{WerePublished}
use Rattle.hp_threads.specs.Dealing.{ArePlaced}
use Rattle.hp_threads.specs.Leaving.{CameHome, HasDoneAll}
use Rattle.hp_threads.specs.Meeting.{HaveMet}
use Rattle.hp_threads.specs.Workers.{IsNewcomer, OpensFor}
use Rattle.hp_threads.specs.declared.working.Done.{Done}
use Rattle.hp_threads.specs.declared.working.Worked.{Worked}

-- the answers of each participant
abbrev pub answers_of : List (List Answer) → ℕ → List Answer
answers_of by who = slice_index_or by who []

-- a participant of a workload, with what it brought to its place at the board, came home from its thread with its passes, and has done its lines,
-- by these steps
pub record HasPromised (workload : Workload) (board : BoardView) (who : ℕ) (first : ParticipantView) (seat : SeatView) (passes : List PassView)
    (steps : List MailStep) (answers : List Answer) (table : Table) (watchers : WatchersView) : Type 0 where
  pub newcomer : IsNewcomer workload who first
  pub home : CameHome (new_seat board who) seat passes steps
  pub has : HasDoneAll workload first seat steps answers table watchers

-- all participants have promised so, by their numbers; by their passes to the board's cells they have read and published what their steps
-- say; and at the mailbox of each its own pass has met itself and those of all the others
pub record AllHavePromised (workload : Workload) (board : BoardView) (firsts : List ParticipantView) (seats : List SeatView)
    (by : List (List Answer)) (tables : List Table) (watchers : List WatchersView) (stat_passes : List stats.PassView) : Type 0 where
  pub begun : length firsts ≡ workload.participants
  pub many : length seats ≡ workload.participants
  pub all_passes : List (List PassView)
  pub homed : length all_passes ≡ workload.participants
  pub steps : ℕ → List MailStep
  pub answered : length by ≡ workload.participants
  pub count : length tables ≡ workload.participants
  pub watched : length watchers ≡ workload.participants
  pub each : (who : ℕ) (first : ParticipantView) (seat : SeatView) (passes : List PassView) (its : List Answer) (table : Table)
      (heard : WatchersView) → slice_get firsts who ≡ Some first → slice_get seats who ≡ Some seat
      → slice_get all_passes who ≡ Some passes → slice_get by who ≡ Some its → slice_get tables who ≡ Some table
      → slice_get watchers who ≡ Some heard → HasPromised workload board who first seat passes (steps who) its table heard
  pub reading : length stat_passes ≡ workload.participants
  pub cells : All (λ pass. pass.cells ≡ board.opening.cells.value) stat_passes
  pub read : (who : ℕ) (pass : stats.PassView) → slice_get stat_passes who ≡ Some pass → HasReadBy (steps who) pass
  pub met : HaveMet all_passes

-- a board opened for a workload, and what each participant brings to its place there, by the participants' numbers
pub record IsStage (workload : Workload) (board : BoardView) (boxes : List MailboxView) (cells : List TableId) (seats : List SeatView)
    (all_passes : List (List PassView)) (stat_passes : List stats.PassView) : Type 0 where
  pub opens : OpensFor workload board.opening
  pub cells_are : board.opening.cells.value ≡ cells
  pub many : length cells ≡ MAX_HEAPS
  pub seats_are : seats ≡ new_seats board
  pub boxed : length boxes ≡ workload.participants
  pub placed : ArePlaced workload.participants boxes all_passes
  pub unread : stat_passes ≡ replicate workload.participants (stats.new_pass cells)

-- the answers and the table of a participant that was refused no memory, and its watchers
abbrev pub told_of : Option Done → Option (List Answer × Table)
told_of None = None
told_of (Some done) = Some (done.answers, done.table)

abbrev pub watched_of : Option Done → Option WatchersView
watched_of None = None
watched_of (Some done) = Some done.watchers

-- what came home taken apart: nobody was refused memory
pub record AreTakenApart (worked : List Worked) (all_passes : List (List PassView)) (seats : List SeatView) (by : List (List Answer))
    (tables : List Table) (watchers : List WatchersView) (stat_passes : List stats.PassView) : Type 0 where
  pub seats_are : seats ≡ map (λ one. one.seat) worked
  pub passes_are : all_passes ≡ map (λ one. one.passes.items) worked
  pub stats_are : stat_passes ≡ map (λ one. one.stats) worked
  pub answered : length by ≡ length worked
  pub count : length tables ≡ length worked
  pub done : map (λ one. told_of one.done) worked ≡ map Some (zip by tables)
  pub watched : map (λ one. watched_of one.done) worked ≡ map Some watchers

-- Each participant, from its first view on, has promised that it did its lines, by its own view; their answers are woven into the order of the
-- lines; and the board, which opened for the workload, hands out its heaps, its segment value and its names over the seats of all. What they
-- have read of statistics was published.
pub record ThreadsLeave (workload : Workload) (firsts : List ParticipantView) (answers : List Answer) (heaps : List HeapView) (segs : SegsView)
    (names : NamesView) (tables : List Table) (watchers : List WatchersView) : Type 0 where
  pub board : BoardView
  pub opens : OpensFor workload board.opening
  pub seats : List SeatView
  pub by : List (List Answer)
  pub stat_passes : List stats.PassView
  pub promised : AllHavePromised workload board firsts seats by tables watchers stat_passes
  pub in_order : answers ≡ woven (map (λ line. line.participant) workload.lines.items) (answers_of by)
  -- what the board hands out, with the pens by which statistics were published
  pub pens : List PenView
  pub heaps_are : AreHeaps board.opening heaps pens
  pub published : All (WerePublished pens) stat_passes
  pub calls : (seat : SeatView) → Contains seats seat → KeepCallsOf heaps seat.mine
  pub segs_are : AreLeftSegs board.opening seats segs
  pub tables_are : (seat : SeatView) → Contains seats seat → KeepsTableOf segs seat.mine
  pub noted : (seat other : SeatView) → Contains seats seat → Contains seats other → IsNotedUpTo heaps seat.mine other.mine
  pub owned : AreOwnedAtLast seats heaps segs
  pub names_are : AreLeftNames board.opening seats heaps segs names
  pub moved : HaveMoved board.opening seats (handed_out heaps pens segs names)
