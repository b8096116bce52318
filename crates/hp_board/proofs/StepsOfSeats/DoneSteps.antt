-- Telling that lines are done, and looking up how many are, keep the rule.
use Rattle.std.proofs.Common.{◌≡◌, ℕ, ◌<◌, ◌≤◌, ◌^◌, List, get_or, set, Option, refl, sym, ap, subst, ◌∙◌, arith, length-set, get_or-set_other}
use mathlib.Core.Option.{some}
use lib.ListN.{get_elem?}
use Rattle.atomic_table.specs.Table.{step, keeps, Allows}
use Rattle.hp_hall.specs.declared.kept.Kept.{Kept}
use Rattle.hp_hall.specs.declared.slot.TheConstants.{NAMES_SLOT}
use Rattle.hp_board.specs.declared.opening.Opening.{Opening}
use Rattle.hp_board.specs.declared.words.TheConstants.{SLOTS}
use Rattle.hp_board.specs.declared.view.Mine.{Mine}
use Rattle.hp_board.specs.BoardRule.{IsBoard}
use Rattle.hp_board.specs.Words.{done_word, lines_by}
use Rattle.hp_board.proofs.StepsOfSeats.ClaimedSteps.{claimed_same}
use Rattle.hp_board.proofs.StepsOfSeats.NamingSteps.{agreed_same}
use Rattle.hp_board.proofs.StepsOfSeats.SegsSteps.{segs_same, segs_tell}
use Rattle.hp_board.specs.Steps.{HasLookedUp, LooksUp, Sat, Tells}
use Rattle.hp_board.specs.Views.{after_lookup, after_telling, lines_told}
use Rattle.hp_board.specs.Parts.{part_of, one_part}
use Rattle.hp_board.proofs.StepsOfSeats.MarkSteps.{marked_same}
use Rattle.hp_board.proofs.StepsOfSeats.MoveSteps.{moved_same}
use Rattle.hp_board.proofs.LinesMade.{lines_lookup, lines_tell}
use Rattle.hp_board.proofs.StepsOfSeats.NamesSteps.{named_same}
use Rattle.hp_board.proofs.StepsOfSeats.OwnedSteps.{owned_same}
use Rattle.hp_board.proofs.Updates.{with_at}
use Rattle.hp_board.proofs.StepsOfSeats.LockSteps.{locked_else}
use Rattle.hp_board.proofs.StepsOfSeats.HeapSteps.{kept_same}
use Rattle.hp_board.proofs.StepsOfSeats.PrefixSteps.{seen_same}
use Rattle.hp_board.proofs.StepsOfSeats.SeatSteps.{seated_step}
use Rattle.hp_board.proofs.BoardParts.{BoardState, state, who_is, its}
use Rattle.hp_board.proofs.StepsOfSeats.ViewSteps.{views_word}
use Rattle.hp_board.specs.Lines.{AreLines}
use Rattle.hp_board.proofs.StepsOfSeats.LinesSteps.{known_part}

-- lines are told to be done
tells_word : (opening : Opening) (s : BoardState) (board : IsBoard opening s) (id : ℕ) (part : Mine) → get_elem? s.views id ≡ some (one_part part) → (lines : ℕ) → lines < 2 ^ 32 → lines_told part ≤ lines
    → IsBoard opening (state (set s.words (done_word part.who) lines) s.homes (set s.views id (one_part (after_telling lines part))))
tells_word opening s board id part at lines few rises =
    let seat = its opening s board id part at in
    let low = seat.declared in
    let small = board.few in
    let long = board.words in
    let new : Mine = after_telling lines part in
    let words : List ℕ = set s.words (done_word part.who) lines in
    let still : (k : ℕ) → k < SLOTS → get_or words k 0 ≡ get_or s.words k 0 = λ k within. get_or-set_other s.words (done_word part.who) k lines 0 (λ same. omega (arith, same, within)) in
    record {
      kept = board.kept;
      mine = with_at part.who new board.mine;
      seat_of = board.seat_of;
      words = length-set s.words (done_word part.who) lines ∙ board.words;
      few = board.few;
      seated = seated_step opening.participants s.views board.seat_of board.mine board.seated id part new at refl;
      locked = locked_else opening.participants s.words s.homes board.kept board.mine board.locked board.words 0 (omega arith) part seat.known seat.declared (done_word part.who) lines (omega arith) new refl;
      heaps = kept_same opening board.kept board.mine board.heaps part seat.known new refl;
      prefixes = seen_same opening board.kept board.mine board.prefixes part seat.known new refl refl;
      marked = marked_same opening board.kept board.mine board.marked part seat.known new refl;
      named = named_same opening board.kept board.mine board.named part seat.known new refl refl;
      agreed = agreed_same opening.participants s.words board.kept board.mine board.agreed part seat.known seat.declared words new (still NAMES_SLOT (omega arith)) refl refl;
      claimed = claimed_same s.words words board.kept board.claimed still;
      lines = lines_tell opening s.words board.kept board.mine board.lines part seat.known seat.declared lines (omega (arith, low, small, long)) few rises;
      segments = segs_tell opening s.words board.kept board.mine board.segments part seat.known seat.declared lines board.few;
      owned = owned_same opening s.words board.kept board.mine board.owned part seat.known seat.declared words new refl refl refl still;
      moved = moved_same opening s.words board.kept board.mine board.moved part seat.known words new refl still;
    }

pub tells : (opening : Opening) (slots id : ℕ) (me : Sat) (word lines : ℕ) (said : mathlib.Core.Option.Option (Option Kept)) → me.0 ≡ one_part (part_of me.0) → word ≡ done_word (part_of me.0).who
    → lines < 2 ^ 32 → lines_told (part_of me.0) ≤ lines → Allows (IsBoard opening) slots id me word (λ _. lines) (λ _. Tells (step slots word lines 0 said) me lines)
tells opening slots id me word lines said one is few rises s board wide there small =
    let part = part_of me.0 in
    let at : get_elem? s.views id ≡ some (one_part part) = there ∙ ap some one in (
      one_part (after_telling lines part),
      keeps,
      tt,
      subst (λ (w : ℕ). IsBoard opening (state (set s.words w lines) s.homes (set s.views id (one_part (after_telling lines part))))) (sym is) (tells_word opening s board id part at lines few rises),
      record { told = refl },
    )

-- the lines of a participant are looked up
pub looks_up : (opening : Opening) (slots id : ℕ) (me : Sat) (word from : ℕ) (said : mathlib.Core.Option.Option (Option Kept)) → me.0 ≡ one_part (part_of me.0) → word ≡ done_word from
    → from < (part_of me.0).opening.participants → Allows (IsBoard opening) slots id me word (λ n. n) (LooksUp (step slots word 0 0 said) me)
looks_up opening slots id me word from said one is declared s board wide there small =
    let part = part_of me.0 in
    let at : get_elem? s.views id ≡ some (one_part part) = there ∙ ap some one in
    let seat = its opening s board id part at in
    let found : lines_by s.words from ≡ get_or s.words word 0 = ap (λ (w : ℕ). get_or s.words w 0) (sym is) in
    let opened : part.opening ≡ opening = ap (λ (m : Mine). m.opening) seat.known ∙ board.prefixes.opened part.who seat.declared in
    let low : from < opening.participants = subst (λ (o : Opening). from < o.participants) opened declared in
    let new : Mine = after_lookup from (get_or s.words word 0) part in (
      one_part new,
      keeps,
      tt,
      views_word opening s board id part at word new refl refl refl refl refl refl refl refl refl refl refl refl refl
          (segs_same opening s.words board.kept board.mine board.segments part seat.known seat.declared new refl refl refl refl refl refl refl refl refl)
          (subst (λ (n : ℕ). AreLines opening s.words board.kept (with_at part.who (after_lookup from n part) board.mine)) found
          (lines_lookup opening s.words board.kept board.mine board.lines part seat.known seat.declared board.heaps (who_is opening s board) from low)) (omega arith),
      record {
        told = λ other same.
            let one_number : from ≡ other = omega (arith, is, same) in
            subst (λ (n : ℕ). HasLookedUp me n (get_or s.words word 0) (one_part new, me.1)) one_number (record {
              looked = refl;
              few = subst (λ (n : ℕ). n < 2 ^ 32) found (board.lines.few from low);
              rises =
                  let low_is = known_part opening s.words board.kept board.mine board.lines part seat.known seat.declared from low in
                  omega (arith, low_is, found);
              own = λ self.
                  sym found ∙ (ap (λ (w : ℕ). lines_by s.words w) self ∙ (board.lines.told part.who seat.declared ∙ ap lines_told (sym seat.known)));
            });
      },
    )
