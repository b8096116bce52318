-- Dealing and joining seats keep the rule.
use Rattle.std.proofs.Common.{◌≡◌, ◌≢◌, ℕ, List, ◌∷◌, length, set, sym, subst}
use Rattle.std.specs.List.{Contains}
use Rattle.atomic_table.specs.Table.{Splits, Joins}
use Rattle.hp_board.specs.declared.opening.Opening.{Opening}
use Rattle.hp_board.specs.declared.view.Mine.{Mine}
use Rattle.hp_board.specs.declared.view.View.{View}
use Rattle.hp_board.specs.BoardRule.{IsBoard}
use Rattle.hp_board.specs.Parts.{first_part, other_parts, both_parts, spent_view}
use Rattle.hp_board.proofs.Updates.{with_at}
use Rattle.hp_board.proofs.StepsOfSeats.SeatSteps.{seated_split, seated_join}
use Rattle.hp_board.proofs.StepsOfSeats.SeatSteps.{moved_to}

-- the first part of a view goes to a seat of its own
pub splits : (opening : Opening) (id : ℕ) (part : Mine) (parts : List Mine) (view : View) → view ≡ record { parts = part ∷ parts } → ((p : Mine) → Contains parts p → p.who ≢ part.who)
    → Splits (IsBoard opening) id view (other_parts view) (first_part view)
splits opening id part parts view is apart =
    subst (λ (v : View). Splits (IsBoard opening) id v (other_parts v) (first_part v)) (sym is) (λ s board at. record {
      kept = board.kept;
      mine = board.mine;
      seat_of = with_at part.who (length (set s.views id (record { parts = parts }))) board.seat_of;
      words = board.words;
      few = board.few;
      seated = seated_split opening.participants s.views board.seat_of board.mine board.seated id part parts at apart;
      locked = board.locked;
      heaps = board.heaps;
      prefixes = board.prefixes;
      marked = board.marked;
      named = board.named;
      agreed = board.agreed;
      claimed = board.claimed;
      lines = board.lines;
      segments = board.segments;
      owned = board.owned;
      moved = board.moved;
    })

-- a seat takes in the parts of another
pub joins : (opening : Opening) (id : ℕ) (view : View) (other : ℕ) (their : View) → Joins (IsBoard opening) id view other their (both_parts view their) spent_view
joins opening id view other their s board at apart at_other = record {
  kept = board.kept;
  mine = board.mine;
  seat_of = moved_to opening.participants s.views board.seat_of board.mine board.seated id other;
  words = board.words;
  few = board.few;
  seated = seated_join opening.participants s.views board.seat_of board.mine board.seated id view other their at apart at_other;
  locked = board.locked;
  heaps = board.heaps;
  prefixes = board.prefixes;
  marked = board.marked;
  named = board.named;
  agreed = board.agreed;
  claimed = board.claimed;
  lines = board.lines;
  segments = board.segments;
  owned = board.owned;
  moved = board.moved;
}
