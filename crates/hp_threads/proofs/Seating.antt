-- Newcomers at the places that a stage has for them are what threads begin with.
use Rattle.std.proofs.Common.{◌≡◌, ◌∙◌, ℕ, zero, suc, ◌+◌, List, map, length, replicate, Option, Some, None, refl, sym, ap, arith}
use Rattle.std.specs.List.{All, slice_get, range_with_len}
use Rattle.std.specs.Option.{option_map}
use Rattle.std.proofs.lemmas.List.{length-map, length-replicate}
use Rattle.std.proofs.lemmas.List.FromFn.{length-range_with_len}
use Rattle.std.proofs.lemmas.Option.{none-some, same_Some, slice_get-map, slice_get_within}
use Rattle.atomic_table.specs.Seated.{TableId}
use Rattle.hp_board.specs.BoardView.{BoardView}
use Rattle.hp_board.specs.SeatView.{SeatView, new_seat, new_seats}
use Rattle.hp_mail.specs.PassView.{MailboxView, PassView}
use Rattle.hp_proc.specs.ParticipantView.{ParticipantView}
use Rattle.hp_script.specs.declared.workload.Workload.{Workload}
use Rattle.hp_stats.specs.StatViews as stats
use Rattle.thm_run.proofs.HallFacts.HallHeaps.{all_from_places}
use Rattle.hp_threads.specs.Running.{IsStage}
use Rattle.hp_threads.specs.Workers.{AreWorkers, IsNewcomer, IsWorker, WorkerView}
use Rattle.hp_threads.proofs.Dealt.{number_at}

-- what stands at a place of a list that was mapped
pub mapped_at : {A B : Type 0} (f : A → B) (xs : List A) (ys : List B) (place : ℕ) (x : A) → map f xs ≡ ys → slice_get xs place ≡ Some x
    → slice_get ys place ≡ Some (f x)
mapped_at f xs ys place x are at =
    ap (λ (all : List _). slice_get all place) (sym are) ∙ slice_get-map f xs place ∙ ap (option_map f) at

-- each of many alike
alike_at : {A : Type 0} (count place : ℕ) (x y : A) → slice_get (replicate count x) place ≡ Some y → y ≡ x
alike_at zero place x y at = absurd (none-some y at)
alike_at (suc count) zero x y at = sym (same_Some x y at)
alike_at (suc count) (suc place) x y at = alike_at count place x y at

-- the seat of that number
seat_of : (board : BoardView) (who : ℕ) (number : Option ℕ) (seat : SeatView)
    → slice_get (range_with_len 0 board.opening.participants) who ≡ number → option_map (new_seat board) number ≡ Some seat
    → seat ≡ new_seat board who
seat_of board who None seat at is = absurd (none-some seat is)
seat_of board who (Some number) seat at is =
    let same : 0 + who ≡ who = omega arith in
    sym (same_Some _ seat is) ∙ ap (new_seat board) (number_at 0 board.opening.participants who number at ∙ same)

pub seat_at : (board : BoardView) (who : ℕ) (seat : SeatView) → slice_get (new_seats board) who ≡ Some seat → seat ≡ new_seat board who
seat_at board who seat at =
    seat_of board who (slice_get (range_with_len 0 board.opening.participants) who) seat refl
    (sym (slice_get-map (new_seat board) (range_with_len 0 board.opening.participants) who) ∙ at)

module _ (workload : Workload) (board : BoardView) (boxes : List MailboxView) (cells : List TableId) (seats : List SeatView)
    (all_passes : List (List PassView)) (stat_passes : List stats.PassView) (stage : IsStage workload board boxes cells seats all_passes stat_passes)
    (doers : List ParticipantView) (count : length doers ≡ workload.participants)
    (come : (who : ℕ) (doer : ParticipantView) → slice_get doers who ≡ Some doer → IsNewcomer workload who doer) (workers : List WorkerView)
    (doers_are : map (λ (worker : WorkerView). worker.doer) workers ≡ doers)
    (seats_are : map (λ (worker : WorkerView). worker.seat) workers ≡ seats)
    (passes_are : map (λ (worker : WorkerView). worker.passes) workers ≡ all_passes)
    (stats_are : map (λ (worker : WorkerView). worker.stats) workers ≡ stat_passes) where
  pub as_many : length workers ≡ workload.participants
  as_many = sym (length-map workers (λ (worker : WorkerView). worker.doer)) ∙ ap (λ (all : List ParticipantView). length all) doers_are ∙ count

  worker_at : (who : ℕ) (worker : WorkerView) → slice_get workers who ≡ Some worker → IsWorker workload board boxes cells who worker
  worker_at who worker there = record {
    newcomer = come who worker.doer (mapped_at (λ (worker : WorkerView). worker.doer) workers doers who worker doers_are there);
    seated = record {
      below = omega (arith, slice_get_within workers who worker there, as_many, stage.opens.count);
      count = stage.boxed ∙ sym stage.opens.count;
      sits =
          seat_at board who worker.seat
          (ap (λ (all : List SeatView). slice_get all who) (sym stage.seats_are)
          ∙ mapped_at (λ (worker : WorkerView). worker.seat) workers seats who worker seats_are there);
      places =
          stage.placed.each who worker.passes (mapped_at (λ (worker : WorkerView). worker.passes) workers all_passes who worker passes_are there);
      unread = record {
        many = stage.many;
        opened = stage.cells_are;
        unread =
            alike_at workload.participants who (stats.new_pass cells) worker.stats
            (ap (λ (all : List stats.PassView). slice_get all who) (sym stage.unread)
            ∙ mapped_at (λ (worker : WorkerView). worker.stats) workers stat_passes who worker stats_are there);
      };
    };
  }

  pub are_workers : AreWorkers workload board boxes cells workers
  are_workers = record { count = as_many; each = worker_at }

-- each of these is one of them
pub all_workers : (workload : Workload) (board : BoardView) (boxes : List MailboxView) (cells : List TableId) (workers : List WorkerView)
    → AreWorkers workload board boxes cells workers
    → All (λ (worker : WorkerView). (who : ℕ) × IsWorker workload board boxes cells who worker) workers
all_workers workload board boxes cells workers are =
    all_from_places (λ (worker : WorkerView). (who : ℕ) × IsWorker workload board boxes cells who worker) workers
    (λ who worker there. (who, are.each who worker there))

-- a stage has a seat, passes to mailboxes and one to statistics for each participant
module _ (workload : Workload) (board : BoardView) (boxes : List MailboxView) (cells : List TableId) (seats : List SeatView)
    (all_passes : List (List PassView)) (stat_passes : List stats.PassView) (stage : IsStage workload board boxes cells seats all_passes stat_passes) where
  pub seats_many : length seats ≡ workload.participants
  seats_many =
      ap (λ (all : List SeatView). length all) stage.seats_are
      ∙ length-map (range_with_len 0 board.opening.participants) (new_seat board)
      ∙ length-range_with_len 0 board.opening.participants
      ∙ stage.opens.count

  pub stats_many : length stat_passes ≡ workload.participants
  stats_many =
      ap (λ (all : List stats.PassView). length all) stage.unread
      ∙ length-replicate workload.participants (stats.new_pass cells)
