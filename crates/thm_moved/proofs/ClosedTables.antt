-- The tables that participants leave at a closed board.
use Rattle.std.proofs.Common.{◌≡◌, ◌∙◌, ◌||◌, ℕ, ◌≤◌, Bool, true, false, if◌then◌else◌, List, [], length, Option, Some, slice_get, unwrap_or, refl, ap, sym, arith}
use Rattle.std.specs.Prelude.{Contains}
use Rattle.std.specs.Option.{option_map}
use Rattle.std.proofs.lemmas.Option.{slice_get-get_or}
use Rattle.hp_base.specs.declared.chunk.Chunk.{Chunk}
use Rattle.hp_board.specs.SeatView.{SeatView}
use Rattle.hp_board.specs.Views.{marked_in, own_of}
use Rattle.hp_board.specs.declared.opening.Opening.{Opening}
use Rattle.hp_hall.specs.Own.{rows_known}
use Rattle.hp_heap.specs.History.{HeapView}
use Rattle.hp_log.specs.declared.log_record.LogRecord.{LogRecord}
use Rattle.hp_maps.specs.declared.table.Table.{Table}
use Rattle.hp_script.specs.declared.workload.Workload.{Workload}
use Rattle.hp_segs.specs.SegsView.{SegsView, is_member}
use Rattle.hp_serve.specs.Tied.{HasTable, nothing_yet, part_of}
use Rattle.hp_stats.specs.StatViews.{PenView}
use Rattle.hp_proc.specs.Doing.{Done}
use Rattle.hp_proc.specs.LinesDone.{Course}
use Rattle.thm_run.specs.Seats.{Seat}
use Rattle.thm_moved.proofs.ClosedHeaps.{at_a_place}
use Rattle.thm_moved.specs.ByClose.{EndsAt, HaveMade, IsClosedOver, TablesByClose}
use Rattle.thm_together.specs.CameHome.{LeavesItsTable}

-- who has taken in nothing knows no row
none_known : (log : List LogRecord) → rows_known log nothing_yet ≡ []
none_known log = refl

module _ (workload : Workload) (opening : Opening) (did : ℕ → List Done) (seats : List SeatView) (heaps : List HeapView)
    (pens : List PenView) (segs : SegsView) (made : HaveMade workload seats did) (closed : IsClosedOver opening seats heaps pens segs)
    (who : ℕ) (seat : SeatView) (last : Seat) (courses : List Course) (table : Table) (there : slice_get seats who ≡ Some seat)
    (ends : EndsAt workload who seat last courses table) where
  among : Contains seats seat
  among = at_a_place seats who seat there

  -- what a participant knows of the log is what the segment value has
  known_so : (joined : Bool) → seat.mine.joined ≡ joined
      → rows_known seat.mine.log (part_of joined (own_of seat.mine)) ≡ rows_known segs.log (part_of joined (own_of seat.mine))
  known_so true is =
      sym (ap (λ (joined : Bool). if joined || seat.mine.joining then rows_known seat.mine.log (own_of seat.mine) else []) is)
      ∙ (closed.tables_are seat among).table is
  known_so false is = none_known seat.mine.log ∙ sym (none_known segs.log)

  abbrev marked : ℕ → List Chunk
  marked heap = marked_in heap seat.mine

  table_kept : (joined : Bool) → seat.mine.joined ≡ joined → HasTable seat.mine.log (part_of joined (own_of seat.mine)) marked last.party.maps
      → HasTable segs.log (part_of joined (own_of seat.mine)) marked last.party.maps
  table_kept joined is has =
      let front = (closed.tables_are seat among).log in
      let longer = ap (λ (log : List LogRecord). length log) front.1 in
      record {
        number = has.number;
        rows = has.rows ∙ known_so joined is;
        behind = has.behind;
        seen = within joined;
        chunks = has.chunks;
        room = has.room;
      }
    where
      within : (joined : Bool) → (part_of joined (own_of seat.mine)).unmapped ≤ length segs.log
      within true = (closed.tables_are seat among).within
      within false = omega arith

  -- the numbers that participants acknowledged last
  abbrev numbers : ℕ → ℕ
  numbers other = unwrap_or (option_map (λ (seat : SeatView). seat.mine.number) (slice_get seats other)) 0

  numbers_are : (one : SeatView) → Contains seats one → numbers one.mine.who ≡ one.mine.number
  numbers_are one (place, within, is) =
      let at : slice_get seats place ≡ Some one = slice_get-get_or seats place one within ∙ ap Some is in
      ap numbers (made.whose place one at)
      ∙ ap (λ (found : Option SeatView). unwrap_or (option_map (λ (seat : SeatView). seat.mine.number) found) 0) at

  its_number : numbers who ≡ seat.mine.number
  its_number = ap (λ (found : Option SeatView). unwrap_or (option_map (λ (seat : SeatView). seat.mine.number) found) 0) there

  member_is : is_member segs.roster who ≡ last.party.joined
  member_is =
      ap (is_member segs.roster) (sym (made.whose who seat there)) ∙ ((closed.tables_are seat among).joined ∙ ends.tied.same)

  pub left : LeavesItsTable workload who segs last courses table
  left = record {
    own = own_of seat.mine;
    marked = marked;
    kept = table_kept last.party.joined ends.tied.same ends.tied.table.table;
    away = ends.tied.left;
    leaves = ends.leaves;
    member = member_is;
    attached = sym ends.tied.same ∙ ends.attached;
    taken_in = λ joined entry generation has grant.
        let least =
        closed.segs_are.agreed numbers numbers_are entry generation who has grant (member_is ∙ joined) in
        omega (arith, least, its_number);
  }

pub tables_by_close : TablesByClose
tables_by_close workload opening did seats heaps pens segs made closed who seat last courses table there ends =
    left workload opening did seats heaps pens segs made closed who seat last courses table there ends
