-- Rows that stand at the slots of a run in turn are those that its Drop takes.
use Rattle.std.proofs.Common.{◌≡◌, ◌≤◌, ◌<◌, ℕ, zero, suc, ◌+◌, List, ◌∷◌, ◌++◌, Option, Some, length, take, drop, get_or, option_to_list, find, drop-cons, refl, ap, ◌∙◌, sym, arith}
use Rattle.hp_base.specs.declared.row.Row.{Row}
use Rattle.hp_base.specs.declared.row.Run.{Run}
use Rattle.hp_log.specs.declared.log_record.LogRecord.{LogRecord}
use Rattle.hp_maps.specs.Events.{rows_from, stands_at}
use Rattle.hp_maps.specs.RowsView.{HaveOwnSlots}
use Rattle.hp_maps.specs.TellingInTurn.{StandInTurn}
use Rattle.hp_maps.proofs.FindLemmas.{found_there}
use Rattle.hp_maps.proofs.EventFacts.FreedCounts.{stands_once}
use Rattle.hp_maps.proofs.MapLemmas.{no_row}

turn_from : (before : List LogRecord) (run : Run) (rows : List Row) (at k n : ℕ) → HaveOwnSlots rows → StandInTurn before run rows at
    → k + n ≤ run.count → rows_from rows before run k n ≡ take n (drop (at + k) rows)
turn_from before run rows at k zero once turn few = refl
turn_from before run rows at k (suc n) once turn few =
    let stands = stands_at before run.list (run.first + k) in
    let row : Row = get_or rows (at + k) no_row in
    let here : at + k < length rows = omega (arith, turn.within, few) in
    let found : find stands rows ≡ Some row =
    found_there stands rows (at + k) no_row here (turn.each k (omega (arith, few)) no_row) (stands_once rows before run.list (run.first + k) once) in
    let next : drop (at + k) rows ≡ row ∷ drop (at + (k + 1)) rows =
    drop-cons rows (at + k) no_row here ∙ ap (λ (j : ℕ). row ∷ drop j rows) {x = suc (at + k)} {y = at + (k + 1)} (omega arith) in
    ap (λ (o : Option Row). option_to_list o ++ rows_from rows before run (k + 1) n) found
    ∙ (ap (λ (l : List Row). row ∷ l) (turn_from before run rows at (k + 1) n once turn (omega (arith, few)))
    ∙ ap (λ (l : List Row). take (suc n) l) (sym next))

-- from a place on
pub in_turn : (before : List LogRecord) (run : Run) (rows : List Row) (at : ℕ) → HaveOwnSlots rows → StandInTurn before run rows at
    → rows_from rows before run 0 run.count ≡ take run.count (drop at rows)
in_turn before run rows at once turn =
    turn_from before run rows at 0 run.count once turn (omega arith)
    ∙ ap (λ (j : ℕ). take run.count (drop j rows)) {x = at + 0} {y = at} (omega arith)
