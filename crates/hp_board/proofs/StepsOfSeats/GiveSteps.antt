-- A give of a slot keeps the rule.
use Rattle.std.proofs.Common.{◌≡◌, ℕ, zero, suc, ◌<◌, List, [], ◌∷◌, ◌++◌, length, get_or, set, Option, Some, None, unwrap_or, refl, sym, ap, subst, ◌∙◌, length-set}
use Rattle.std.specs.List.{All}
use Rattle.hp_heap.specs.declared.entry.Entry.{Entry}
use Rattle.hp_heap.specs.History.{entries_of}
use mathlib.Core.Option.{some, some-ne-none}
use lib.ListN.{get_elem?}
use Rattle.atomic_table.specs.Table.{step, gives, Allows}
use Rattle.hp_hall.specs.declared.kept.Kept.{Kept}
use Rattle.hp_board.specs.declared.opening.Opening.{Opening}
use Rattle.hp_board.specs.declared.words.TheConstants.{SLOTS}
use Rattle.hp_board.specs.declared.view.Mine.{Mine}
use Rattle.hp_board.specs.declared.view.View.{View}
use Rattle.hp_board.specs.BoardRule.{IsBoard}
use Rattle.hp_board.specs.KeptValues.{IsKeptAt}
use Rattle.hp_hall.specs.Values.{history_of, IsSoundKept}
use Rattle.hp_hall.specs.declared.kept.Kept.TheVariants.{Heap, Names, Segments}
use Rattle.hp_board.specs.Seated.{IsSeatedAt}
use Rattle.hp_board.proofs.NamesFacts.NamingGives.{agreed_give}
use Rattle.hp_board.proofs.Histories.{added, gives_calls, given_at}
use Rattle.hp_board.proofs.StepsOfSeats.ClaimedSteps.{claimed_give}
use Rattle.hp_board.proofs.StepsOfSeats.SegsSteps.{lag_part, segs_give}
use Rattle.hp_board.specs.Steps.{Gave, Sat}
use Rattle.hp_board.specs.Views.{value_of, made_in, BeginsWith, after_give}
use Rattle.hp_board.specs.Parts.{part_of, one_part}
use Rattle.hp_board.specs.Agreement.{AgreesFrom}
use Rattle.hp_hall.specs.Giving.{giver_of}
use Rattle.hp_board.specs.Giving.{GivesAt, IsGiveAt}
use Rattle.hp_segs.specs.SegsView.{SegsView}
use Rattle.hp_board.specs.Knowing.{HasMappedHeld, knows_of}
use Rattle.hp_board.specs.declared.view.Move.TheVariants as moved_by
use Rattle.hp_board.proofs.OwnershipFacts.GivenTaken.{GivesTaken, gives_taken}
use Rattle.hp_board.proofs.EndingFacts.GoodMoves.{good_before, good_kept, has_added, later_at}
use Rattle.hp_board.proofs.StepsOfSeats.MarkSteps.{marked_give}
use Rattle.hp_board.proofs.StepsOfSeats.MoveSteps.{given_slots, moved_one}
use Rattle.hp_board.proofs.LinesMade.{lines_give}
use Rattle.hp_board.proofs.StepsOfSeats.NamesSteps.{logs_give, named_give}
use Rattle.hp_board.proofs.StepsOfSeats.OwnedSteps.{owned_give}
use Rattle.hp_board.proofs.InUse.{agreed_by}
use Rattle.hp_board.proofs.OwnershipFacts.GivenLeaves.{form_gives, given_left}
use Rattle.hp_board.proofs.Updates.{with_at, with_at-here}
use Rattle.hp_board.proofs.StepsOfSeats.LockSteps.{locked_give, kept_taken, word_taken}
use Rattle.hp_board.proofs.StepsOfSeats.HeapSteps.{kept_give, own_here}
use Rattle.hp_board.proofs.StepsOfSeats.PrefixSteps.{seen_give}
use Rattle.hp_board.proofs.StepsOfSeats.SeatSteps.{seated_step}
use Rattle.hp_board.proofs.BoardParts.{BoardState, state, one_segs, owned_sound, seat_mapped, its, in_words}

-- a view that was put in place of another is there
put_there : {A : Type 0} (xs : List A) (place : ℕ) (old new : A) → get_elem? xs place ≡ some old → get_elem? (set xs place new) place ≡ some new
put_there [] place old new is = absurd (some-ne-none old (sym is))
put_there (x ∷ xs) zero old new is = refl
put_there (x ∷ xs) (suc place) old new is = put_there xs place old new is

module _ (opening : Opening) (s : BoardState) (board : IsBoard opening s) (id slot : ℕ) (inside : slot < SLOTS) (part : Mine)
    (at : get_elem? s.views id ≡ some (one_part part)) where
  seat : IsSeatedAt opening.participants board.seat_of board.mine id part
  seat = its opening s board id part at

  placed : All (λ (pair : ℕ × Entry). pair.0 < SLOTS) part.made
  placed = subst (λ (m : Mine). All (λ (pair : ℕ × Entry). pair.0 < SLOTS) m.made) (sym seat.known) (board.heaps.placed part.who seat.declared)

  gives_slot : (given : Kept) → GivesTaken part slot given → IsSoundKept given → length s.homes ≡ SLOTS
      → IsBoard opening (state (set s.words slot 0) (set s.homes slot (some (Some given))) (set s.views id (one_part (after_give slot given part))))
  gives_slot given may sound wide =
      let taken_is = kept_taken opening.participants s.words s.homes board.kept board.mine board.locked board.words slot inside part seat.known seat.declared may.taken may.holds in
      let calls = gives_calls part may.taken given placed may.gives in
      let at_taken = subst (IsKeptAt opening slot) taken_is (board.heaps.at slot inside) in
      let at_given = given_at opening slot part.who (length part.made) may.taken given calls sound at_taken in
      let locked_after =
      locked_give opening.participants s.words s.homes board.kept board.mine board.locked board.words slot inside part seat.known seat.declared may.taken given may.holds wide in
      let lag = lag_part opening s.words board.kept board.mine board.segments part seat.known seat.declared in
      let owned_after =
      owned_give opening s.words board.kept board.mine board.owned part seat.known seat.declared s.homes board.locked slot (in_words opening s board slot inside) may.taken given taken_is at_taken at_given
      (owned_sound opening s board) (subst (λ (v : SegsView). BeginsWith v.asks part.heard) (one_segs opening s board) lag.heard) may.gives in
      let agreed_after =
      agreed_give opening opening.participants s.words board.kept board.mine board.agreed part seat.known seat.declared board.words slot inside s.homes board.locked may.taken given
      may.holds at_taken may.gives in
      let good =
      good_before opening s.words board.kept (with_at slot given board.kept) slot given at_given
      (good_kept opening (set s.words slot 0) (set s.homes slot (some (Some given))) (with_at slot given board.kept) (with_at part.who (after_give slot given part) board.mine)
      locked_after owned_after slot given (with_at-here slot given board.kept) at_given) in
      record {
        kept = with_at slot given board.kept;
        mine = with_at part.who (after_give slot given part) board.mine;
        seat_of = board.seat_of;
        words = length-set s.words slot 0 ∙ board.words;
        few = board.few;
        seated = seated_step opening.participants s.views board.seat_of board.mine board.seated id part (after_give slot given part) at refl;
        locked = locked_after;
        heaps = kept_give opening board.kept board.mine board.heaps part seat.known slot inside seat.declared may.taken given may.holds taken_is calls sound;
        prefixes = seen_give opening board.kept board.mine board.prefixes part seat.known slot may.taken given taken_is calls;
        marked = marked_give opening board.kept board.mine board.marked part seat.known seat.declared slot inside may.taken given taken_is may.gives;
        agreed = agreed_after;
        claimed = claimed_give opening opening.participants s.words board.kept board.mine board.agreed part seat.known seat.declared board.words slot inside s.homes board.locked board.claimed
            may.taken given may.holds at_taken may.gives agreed_after;
        named =
            let more = added part.who (length part.made) may.taken given calls in
            named_give opening board.kept board.mine board.named part seat.known board.heaps seat.declared slot may.taken given may.gives taken_is
            (subst (IsKeptAt opening slot) taken_is (board.heaps.at slot inside)) more.own more.history;
        lines =
            let more = added part.who (length part.made) may.taken given calls in
            let logs = logs_give opening board.kept board.mine board.named part seat.known board.heaps seat.declared slot may.taken given may.gives taken_is
            (subst (IsKeptAt opening slot) taken_is (board.heaps.at slot inside)) in
            lines_give opening s.words board.kept board.mine board.lines part seat.known seat.declared board.words slot inside given
            (more.own, more.history ∙ ap (λ (v : Kept). history_of v ++ more.own) (sym taken_is)) logs.0 logs.1;
        segments =
            let at = subst (IsKeptAt opening slot) taken_is (board.heaps.at slot inside) in
            segs_give opening s.words board.kept board.mine board.segments part seat.known seat.declared slot may.taken given may.gives inside taken_is at
            (given_at opening slot part.who (length part.made) may.taken given calls sound at);
        owned = owned_after;
        moved = moved_one opening s.words board.kept board.mine board.moved part seat.known seat.declared (moved_by.Gave slot given) (set s.words slot 0) (with_at slot given board.kept)
            (after_give slot given part) refl (
              inside,
              word_taken opening.participants s.words s.homes board.kept board.mine board.locked board.words slot inside part seat.known seat.declared may.taken may.holds,
              good,
              has_added part.who (length part.made) (board.kept slot) may.taken given taken_is calls,
              later_at (knows_of part) (board.kept slot) may.taken given taken_is may.gives,
            )
            (given_slots part.who slot given board.kept s.words (in_words opening s board slot inside));
      }

  -- its entries of the giver are those that this one made there
  own_given : (given : Kept) → GivesTaken part slot given → IsSoundKept given → entries_of part.who (history_of given) ≡ made_in slot (after_give slot given part)
  own_given given may sound =
      own_here opening board.kept board.mine board.heaps part seat.known slot inside seat.declared may.taken given may.holds
      (kept_taken opening.participants s.words s.homes board.kept board.mine board.locked board.words slot inside part seat.known seat.declared may.taken may.holds)
      (gives_calls part may.taken given placed may.gives) sound

  -- and the table of a member has the pages of the heaps that it still holds
  mapped_given : (given : Kept) → GivesTaken part slot given → IsSoundKept given → length s.homes ≡ SLOTS → HasMappedHeld (after_give slot given part)
  mapped_given given may sound wide =
      seat_mapped opening (state (set s.words slot 0) (set s.homes slot (some (Some given))) (set s.views id (one_part (after_give slot given part)))) (gives_slot given may sound wide) id
      (after_give slot given part) (put_there s.views id (one_part part) (one_part (after_give slot given part)) at)

  -- rows become agreed by numbers that the giver has loaded
  agrees_by : (taken given : Kept) → IsKeptAt opening slot taken → IsSoundKept given → GivesAt (knows_of part) taken given → AgreesFrom part (Some taken) given
  agrees_by (Heap taken pen) given at sound give = tt
  agrees_by (Names names) given at sound give = tt
  agrees_by (Segments taken) (Heap given pen) at sound give = tt
  agrees_by (Segments taken) (Names names) at sound give = tt
  agrees_by (Segments taken) (Segments given) at sound give =
      let giver = giver_of (knows_of part) in
      λ row member has its. agreed_by giver taken given at.sound sound (given_left giver taken given at.sound (form_gives (knows_of part) taken given give.form)) row member has its

  agrees_slot : (given : Kept) → GivesTaken part slot given → IsSoundKept given → AgreesFrom part (value_of slot part.held) given
  agrees_slot given may sound =
      let taken_is = kept_taken opening.participants s.words s.homes board.kept board.mine board.locked board.words slot inside part seat.known seat.declared may.taken may.holds in
      subst (λ (o : Option Kept). AgreesFrom part o given) (sym may.holds)
      (agrees_by may.taken given (subst (IsKeptAt opening slot) taken_is (board.heaps.at slot inside)) sound may.gives)

gave : (opening : Opening) (slots id : ℕ) (view : View) (slot : ℕ) (given : Kept) (more : List (ℕ × Option Kept)) (said : mathlib.Core.Option.Option (Option Kept)) → slots ≡ SLOTS → slot < SLOTS → view ≡ one_part (part_of view)
    → IsGiveAt (knows_of (part_of view)) slot given → IsSoundKept given
    → Allows (IsBoard opening) slots id (view, (slot, Some given) ∷ more) slot (λ _. 0) (λ _. Gave (step slots slot 0 0 said) (view, (slot, Some given) ∷ more) 0)
gave opening slots id view slot given more said count inside one gives_it sound s board wide there small =
    let part = part_of view in
    let may = gives_taken part slot given gives_it in
    let at : get_elem? s.views id ≡ some (one_part part) = there ∙ ap some one in (
      one_part (after_give slot given part),
      gives,
      tt,
      gives_slot opening s board id slot inside part at given may sound (wide ∙ count),
      record {
        home = λ kept front.
            let same : given ≡ kept = ap (λ (l : List (ℕ × Option Kept)). unwrap_or (get_or l 0 (slot, None)).1 given) front in
            record {
              given = ap (λ (x : Kept). (one_part (after_give slot x part), more)) same;
              agreed = subst (AgreesFrom part (value_of slot part.held)) same (agrees_slot opening s board id slot inside part at given may sound);
              own = subst (λ (x : Kept). entries_of part.who (history_of x) ≡ made_in slot (after_give slot x part)) same (own_given opening s board id slot inside part at given may sound);
              mapped = subst (λ (x : Kept). HasMappedHeld (after_give slot x part)) same (mapped_given opening s board id slot inside part at given may sound (wide ∙ count));
            };
      },
    )

-- a lock word becomes 0
pub gives_back : (opening : Opening) (slots id : ℕ) (me : Sat) (view : View) (slot : ℕ) (given : Kept) (more : List (ℕ × Option Kept)) (said : mathlib.Core.Option.Option (Option Kept))
    → me ≡ (view, (slot, Some given) ∷ more) → slots ≡ SLOTS → slot < SLOTS → view ≡ one_part (part_of view) → IsGiveAt (knows_of (part_of view)) slot given → IsSoundKept given
    → Allows (IsBoard opening) slots id me slot (λ _. 0) (λ _. Gave (step slots slot 0 0 said) me 0)
gives_back opening slots id me view slot given more said is count inside one may sound =
    subst (λ (m : Sat). Allows (IsBoard opening) slots id m slot (λ _. 0) (λ _. Gave (step slots slot 0 0 said) m 0)) (sym is)
    (gave opening slots id view slot given more said count inside one may sound)
