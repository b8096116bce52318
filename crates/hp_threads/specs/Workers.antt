-- What threads begin with: a workload, the values of its board, and each participant before its first step. The rule "Threads" of docs/RUNS.md.
use Rattle.std.specs.Prelude.{◌≡◌, ℕ, ◌<◌, ◌≤◌, List, [], Some, None, length, slice_get, unwrap_or}
use Rattle.hp_base.specs.declared.limits.TheConstants.{MAX_LINES, MAX_PARTICIPANTS}
use Rattle.atomic_table.specs.Seated.{TableId}
use Rattle.hp_board.specs.BoardView.{BoardView}
use Rattle.hp_board.specs.SeatView.{SeatView, new_seat}
use Rattle.hp_board.specs.declared.opening.Opening.{Opening}
use Rattle.hp_chair.specs.Places.{ArePlaces}
use Rattle.hp_chair.specs.Publishing.{IsUnread}
use Rattle.hp_heap.specs.History.{HeapView}
use Rattle.hp_mail.specs.PassView.{MailboxView, PassView}
use Rattle.hp_script.specs.declared.workload.Workload.{Workload}
use Rattle.hp_segs.specs.SegsView.{SegsView}
use Rattle.hp_stats.specs.StatViews as stats
use Rattle.hp_proc.specs.Heaps.{sockets_of}
use Rattle.hp_proc.specs.ParticipantView.{ParticipantView}
use Rattle.hp_zone.specs.declared.names.Names.{Names as NamesView}
use Rattle.thm_run.specs.EndLaws.{IsFirstParty, IsGiven}
use Rattle.thm_run.specs.SoFar.{AreFirstHeaps, context_of, first_names, first_segs}
use Rattle.hp_threads.specs.Working.{CanBeDone}

-- a workload that can be run on threads: what it says is within its limits, and so is the count of its lines, which can be done one after
-- another
pub record CanBeRun (workload : Workload) : Type 0 where
  pub given : IsGiven workload
  pub lines : CanBeDone workload.participants workload.lines.items
  pub few : length workload.lines.items ≤ MAX_LINES

-- the values with which a board opens for a workload: its heaps before their first call, its segment value and its names
pub record AreFirstValues (workload : Workload) (heaps : List HeapView) (segs : SegsView) (names : NamesView) : Type 0 where
  pub heaps_are : AreFirstHeaps workload heaps
  pub segs_are : segs ≡ first_segs workload
  pub names_are : names ≡ first_names workload

-- a participant of a workload that has done nothing: its table is empty, and it knows what the workload says
pub record IsNewcomer (workload : Workload) (who : ℕ) (doer : ParticipantView) : Type 0 where
  pub party : IsFirstParty workload who doer.party
  pub context : doer.context ≡ context_of workload who []

-- a board opened for a workload: it has its participants, its segment value and its names, and each heap takes the pages of its socket
pub record OpensFor (workload : Workload) (opening : Opening) : Type 0 where
  pub count : opening.participants ≡ workload.participants
  pub few : workload.participants ≤ MAX_PARTICIPANTS
  pub segs : opening.segs.value ≡ first_segs workload
  pub names : opening.names.value ≡ first_names workload
  pub serves : (heap : ℕ) → unwrap_or (slice_get opening.serves heap) None ≡ slice_get (sockets_of workload.pools.items) heap

-- a participant sits at a new board, with its passes to the mailboxes of all, and with one to the statistics of the heaps, by which nothing was
-- read
pub record IsSeated (who : ℕ) (board : BoardView) (boxes : List MailboxView) (cells : List TableId) (seat : SeatView)
    (passes : List PassView) (pass : stats.PassView) : Type 0 where
  pub below : who < board.opening.participants
  pub count : length boxes ≡ board.opening.participants
  pub sits : seat ≡ new_seat board who
  pub places : ArePlaces who [] boxes passes
  pub unread : IsUnread cells board.opening pass

-- a participant with its place at a board, its passes to mailboxes, and that to the statistics of the heaps
pub record WorkerView : Type 0 where
  pub doer : ParticipantView
  pub seat : SeatView
  pub passes : List PassView
  pub stats : stats.PassView

-- a participant of a workload that sits at a new board has done nothing
pub record IsWorker (workload : Workload) (board : BoardView) (boxes : List MailboxView) (cells : List TableId) (who : ℕ) (worker : WorkerView)
    : Type 0 where
  pub newcomer : IsNewcomer workload who worker.doer
  pub seated : IsSeated who board boxes cells worker.seat worker.passes worker.stats

-- so many of them, by the participants' numbers
pub record AreWorkers (workload : Workload) (board : BoardView) (boxes : List MailboxView) (cells : List TableId) (workers : List WorkerView)
    : Type 0 where
  pub count : length workers ≡ workload.participants
  pub each : (who : ℕ) (worker : WorkerView) → slice_get workers who ≡ Some worker → IsWorker workload board boxes cells who worker
