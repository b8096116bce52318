-- A step that changes a view alone, in what is no slot, no entry and no history, keeps the rule.
use Rattle.std.proofs.Common.{◌≡◌, ℕ, ◌≤◌, List, length, get_or, set, sym, ap, subst, ◌∙◌, arith}
use mathlib.Core.Option.{some}
use lib.ListN.{get_elem?}
use lib.Seq.{set-get_or}
use Rattle.hp_hall.specs.declared.slot.TheConstants.{NAMES_SLOT}
use Rattle.hp_board.specs.declared.opening.Opening.{Opening}
use Rattle.hp_board.specs.declared.words.TheConstants.{SLOTS}
use Rattle.hp_board.specs.declared.view.Mine.{Mine}
use Rattle.hp_board.specs.BoardRule.{IsBoard}
use Rattle.hp_board.specs.Seated.{IsSeatedAt}
use Rattle.hp_board.specs.Parts.{one_part}
use Rattle.hp_board.proofs.StepsOfSeats.ClaimedSteps.{claimed_same}
use Rattle.hp_board.proofs.StepsOfSeats.NamingSteps.{agreed_same}
use Rattle.hp_board.proofs.StepsOfSeats.MarkSteps.{marked_same}
use Rattle.hp_board.proofs.StepsOfSeats.MoveSteps.{moved_same}
use Rattle.hp_board.proofs.StepsOfSeats.NamesSteps.{named_same}
use Rattle.hp_board.proofs.StepsOfSeats.OwnedSteps.{owned_same}
use Rattle.hp_board.proofs.Updates.{with_at}
use Rattle.hp_board.proofs.StepsOfSeats.LockSteps.{locked_else}
use Rattle.hp_board.proofs.StepsOfSeats.HeapSteps.{kept_same}
use Rattle.hp_board.proofs.StepsOfSeats.PrefixSteps.{seen_same}
use Rattle.hp_board.proofs.StepsOfSeats.SeatSteps.{seated_step}
use Rattle.hp_board.proofs.BoardParts.{BoardState, state, its}
use Rattle.hp_board.specs.SegsKept.{AreSegs}
use Rattle.hp_board.specs.Lines.{AreLines}

module _ (opening : Opening) (s : BoardState) (board : IsBoard opening s) (id : ℕ) (part : Mine) (at : get_elem? s.views id ≡ some (one_part part)) where
  seat : IsSeatedAt opening.participants board.seat_of board.mine id part
  seat = its opening s board id part at

  -- a view changes at a load, in what is no slot, no entry and no history
  pub views_word : (word : ℕ) (new : Mine) → new.who ≡ part.who → new.held ≡ part.held → new.made ≡ part.made → new.opening ≡ part.opening → new.seen ≡ part.seen
      → new.marked ≡ part.marked → new.zones ≡ part.zones → new.names ≡ part.names → new.armed ≡ part.armed → new.holdings ≡ part.holdings → new.moves ≡ part.moves
      → new.namings ≡ part.namings → new.claims ≡ part.claims
      → AreSegs opening.participants s.words board.kept (with_at part.who new board.mine)
      → AreLines opening s.words board.kept (with_at part.who new board.mine)
      → SLOTS ≤ word → IsBoard opening (state (set s.words word (get_or s.words word 0)) s.homes (set s.views id (one_part new)))
  views_word word new who held made opens seen marked zones names armed holdings moves namings claims segments lines behind =
      let same : set s.words word (get_or s.words word 0) ≡ s.words = set-get_or s.words word 0 in
      record {
        kept = board.kept;
        mine = with_at part.who new board.mine;
        seat_of = board.seat_of;
        words = ap length same ∙ board.words;
        few = board.few;
        seated = seated_step opening.participants s.views board.seat_of board.mine board.seated id part new at who;
        locked = locked_else opening.participants s.words s.homes board.kept board.mine board.locked board.words 0 (omega arith) part seat.known seat.declared word (get_or s.words word 0) behind new held;
        heaps = kept_same opening board.kept board.mine board.heaps part seat.known new made;
        prefixes = seen_same opening board.kept board.mine board.prefixes part seat.known new opens seen;
        marked = marked_same opening board.kept board.mine board.marked part seat.known new marked;
        named = named_same opening board.kept board.mine board.named part seat.known new zones names;
        agreed = agreed_same opening.participants s.words board.kept board.mine board.agreed part seat.known seat.declared (set s.words word (get_or s.words word 0)) new
            (ap (λ (ws : List ℕ). get_or ws NAMES_SLOT 0) same) namings claims;
        claimed = claimed_same s.words (set s.words word (get_or s.words word 0)) board.kept board.claimed (λ k within. ap (λ (ws : List ℕ). get_or ws k 0) same);
        lines = subst (λ (ws : List ℕ). AreLines opening ws board.kept (with_at part.who new board.mine)) (sym same) lines;
        segments = subst (λ (ws : List ℕ). AreSegs opening.participants ws board.kept (with_at part.who new board.mine)) (sym same) segments;
        owned = owned_same opening s.words board.kept board.mine board.owned part seat.known seat.declared (set s.words word (get_or s.words word 0)) new armed holdings held
            (λ k within. ap (λ (ws : List ℕ). get_or ws k 0) same);
        moved = moved_same opening s.words board.kept board.mine board.moved part seat.known (set s.words word (get_or s.words word 0)) new moves
            (λ k within. ap (λ (ws : List ℕ). get_or ws k 0) same);
      }
