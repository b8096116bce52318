-- Participants that came home to their seats at a board went their ways by what the board has at last, and what they took and gave are the moves
-- of all.
use Rattle.std.proofs.Common.{◌≡◌, ◌∙◌, ℕ, ◌<◌, ◌≤◌, List, Some, slice_get, ⊎_elim, ap, sym, subst, arith}
use Rattle.std.specs.Prelude.{Contains}
use Rattle.std.proofs.lemmas.Bool.{cases_lt}
use Rattle.std.proofs.lemmas.Option.{slice_get_within}
use Rattle.hp_base.specs.declared.limits.TheConstants.{MAX_HEAPS}
use Rattle.hp_board.proofs.KeptAt.{segs_kept}
use Rattle.hp_board.specs.Closing.{HandedOut, IsLeftIn, handed_out}
use Rattle.hp_board.specs.MovesKept.{OpensWith, all_free}
use Rattle.hp_board.specs.SeatView.{SeatView}
use Rattle.hp_board.specs.Views.{values_of}
use Rattle.hp_board.specs.declared.opening.Opening.{Opening}
use Rattle.hp_chair.specs.Steps.{moves_in}
use Rattle.hp_hall.specs.declared.kept.Kept.{Kept}
use Rattle.hp_hall.specs.declared.kept.Kept.TheVariants.{Segments}
use Rattle.hp_heap.specs.History.{HeapView}
use Rattle.hp_maps.specs.declared.table.Table.{Table}
use Rattle.hp_script.specs.declared.answer.Answer.{Answer}
use Rattle.hp_script.specs.declared.workload.Workload.{Workload}
use Rattle.hp_segs.specs.SegsView.{SegsView}
use Rattle.hp_proc.specs.LinesDone.{trace_of}
use Rattle.thm_run.proofs.LineSteps.LineMore.{asked_later}
use Rattle.thm_run.proofs.PathSteps.Walked.{get_there}
use Rattle.thm_run.specs.SoFar.{first_segs}
use Rattle.thm_together.specs.CameHome.{WentItsWay}
use Rattle.thm_moved.proofs.ClosedHeaps.{at_a_place}
use Rattle.thm_moved.proofs.MovesHeld.{segs_stay}
use Rattle.thm_moved.specs.AtBoard.{AllCameToTheirSeats, CameToItsSeat}
use Rattle.thm_moved.specs.ByClose.{HaveMade}
use Rattle.thm_moved.specs.ByMoves.{CameByMoves}

-- the segment value of a slot that opened with it, and of one that was left
opened_with : (opening : Opening) (kept : Kept) (segs : SegsView) → kept ≡ Segments segs → OpensWith opening kept
    → segs ≡ opening.segs.value
opened_with opening kept segs is opens = subst (OpensWith opening) is opens

left_with : (out : HandedOut) (kept : Kept) (segs : SegsView) → kept ≡ Segments segs → IsLeftIn out MAX_HEAPS kept → segs ≡ out.segs
left_with out kept segs is left = subst (IsLeftIn out MAX_HEAPS) is left

module _ (workload : Workload) (answers : List Answer) (heaps : List HeapView) (segs : SegsView) (tables : List Table)
    (all : AllCameToTheirSeats workload answers heaps segs tables) where
  abbrev count : ℕ
  count = workload.participants

  -- each came home to its seat
  module _ (who : ℕ) (below : who < count) where
    pub its_seat : (seat : SeatView) × (slice_get all.seats who ≡ Some seat)
    its_seat = get_there all.seats who (omega (arith, below, all.many))

    pub its_table : (table : Table) × (slice_get tables who ≡ Some table)
    its_table = get_there tables who (omega (arith, below, all.count))

    pub came : CameToItsSeat workload who (all.first who) (all.last who) (all.courses who) (all.steps who) its_seat.0 its_table.0
    came = all.home who its_seat.0 its_table.0 its_seat.1 its_table.1

    among : Contains all.seats its_seat.0
    among = at_a_place all.seats who its_seat.0 its_seat.1

    -- its asks were answered by what the board has at last
    pub went : WentItsWay workload who segs.log segs.asks (all.first who) (all.last who) (all.courses who) (all.steps who)
    went =
        let log = (all.closed.tables_are its_seat.0 among).log in
        let heard = (all.closed.tables_are its_seat.0 among).heard in
        record {
          begins = came.went.begins;
          opens = came.went.opens;
          waits = came.went.waits;
          way = came.went.way;
          adds = came.went.adds;
          lines = came.went.lines;
          done = came.went.done;
          left = came.went.left;
          asked = asked_later its_seat.0.mine.log log.0 segs.log its_seat.0.mine.heard heard.0 segs.asks who 0 (all.last who).party.asked
              (all.last who).trace log.1 heard.1 came.went.asked;
        }

    pub moves_are : values_of who all.moved.moves ≡ moves_in (all.steps who)
    moves_are =
        ap (λ (other : ℕ). values_of other all.moved.moves) (sym came.whose) ∙ (all.moved.own its_seat.0 among ∙ came.moves)

  pub made : HaveMade workload all.seats (λ who. trace_of (all.courses who))
  made = record {
    count = all.many;
    whose = λ who seat there.
        let below : who < count = omega (arith, all.many, slice_get_within all.seats who seat there) in
        let table = its_table who below in
        (all.home who seat table.0 there table.1).whose;
    made = λ who heap seat there.
        let below : who < count = omega (arith, all.many, slice_get_within all.seats who seat there) in
        let table = its_table who below in
        (all.home who seat table.0 there table.1).made heap;
  }

  -- the first segment value and the last one
  opened_segs : all.moved.first MAX_HEAPS ≡ Segments (first_segs workload)
  opened_segs =
      let opened = all.moved.opened MAX_HEAPS (omega arith) in
      let early = segs_kept all.opening (all.moved.first MAX_HEAPS) opened.at in
      early.1 ∙ ap Segments (opened_with all.opening (all.moved.first MAX_HEAPS) early.0 early.1 opened.opens ∙ all.segs_are)

  left_segs : all.moved.last MAX_HEAPS ≡ Segments segs
  left_segs =
      let late =
      segs_stay all.moved.moves (all_free all.moved.first) (all_free all.moved.last) all.moved.replay (first_segs workload) opened_segs in
      late.1
      ∙ ap Segments
      (left_with (handed_out heaps all.pens segs all.names) (all.moved.last MAX_HEAPS) late.0 late.1 (all.moved.left MAX_HEAPS (omega arith)))

  -- the moves of all
  pub came_by : CameByMoves workload all.moved.moves all.steps segs
  came_by =
      record {
        first = all.moved.first;
        last = all.moved.last;
        opened = opened_segs;
        left = left_segs;
        replay = all.moved.replay;
        own = λ who.
            ⊎_elim (λ (below : who < count). moves_are who below)
            (λ (beyond : count ≤ who).
            all.moved.strange who (omega (arith, beyond, all.opens.count)) ∙ ap moves_in (sym (all.no_steps who beyond)))
            (cases_lt who count);
      }
