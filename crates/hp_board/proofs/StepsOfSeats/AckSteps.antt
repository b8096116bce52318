-- Acknowledging, noting what is unmapped, and loading an acknowledgement word keep the rule.
use Rattle.std.proofs.Common.{◌⊎◌, true, ◌≡◌, ℕ, ◌<◌, ◌≤◌, [], length, get_or, set, Option, refl, sym, ap, subst, ◌∙◌, arith, length-set, get_or-set_other}
use mathlib.Core.Option.{some}
use lib.ListN.{get_elem?}
use Rattle.atomic_table.specs.Table.{step, keeps, Allows}
use Rattle.hp_hall.specs.declared.kept.Kept.{Kept}
use Rattle.hp_hall.specs.declared.slot.TheConstants.{NAMES_SLOT}
use Rattle.hp_board.specs.declared.opening.Opening.{Opening}
use Rattle.hp_board.specs.declared.words.TheConstants.{SLOTS}
use Rattle.hp_board.specs.declared.view.Mine.{Mine}
use Rattle.hp_board.specs.BoardRule.{IsBoard}
use Rattle.hp_board.specs.Seated.{IsSeatedAt}
use Rattle.hp_board.specs.Words.{ack_word, done_word}
use Rattle.hp_board.proofs.StepsOfSeats.ClaimedSteps.{claimed_same}
use Rattle.hp_board.proofs.StepsOfSeats.NamingSteps.{agreed_same}
use Rattle.hp_board.proofs.StepsOfSeats.SegsSteps.{segs_ack, segs_load, segs_partial}
use Rattle.hp_board.specs.Steps.{Acks, HasLoaded, Loads, Sat, Unmaps}
use Rattle.hp_board.specs.Views.{after_acking, after_load, after_unmapping, holds_segments}
use Rattle.hp_board.specs.Parts.{part_of, one_part}
use Rattle.hp_board.proofs.StepsOfSeats.MarkSteps.{marked_same}
use Rattle.hp_board.proofs.StepsOfSeats.MoveSteps.{moved_same}
use Rattle.hp_board.proofs.LinesMade.{lines_same}
use Rattle.hp_board.proofs.StepsOfSeats.NamesSteps.{named_same}
use Rattle.hp_board.proofs.StepsOfSeats.OwnedSteps.{owned_same}
use Rattle.hp_log.specs.Log.{IsWellFormed}
use Rattle.hp_board.proofs.OwnershipFacts.TablesKnown.{formed_front}
use Rattle.hp_board.proofs.Updates.{with_at}
use Rattle.hp_board.proofs.StepsOfSeats.LockSteps.{locked_else}
use Rattle.hp_board.proofs.StepsOfSeats.HeapSteps.{kept_same}
use Rattle.hp_board.proofs.StepsOfSeats.PrefixSteps.{seen_same}
use Rattle.hp_board.proofs.StepsOfSeats.SeatSteps.{seated_step}
use Rattle.hp_board.proofs.BoardParts.{BoardState, state, segs_sound, its}
use Rattle.hp_board.proofs.StepsOfSeats.ViewSteps.{views_word}
use Rattle.hp_board.specs.SegsKept.{AreSegs}
use Rattle.hp_board.proofs.StepsOfSeats.SegsSteps.{load_rises}

module _ (opening : Opening) (s : BoardState) (board : IsBoard opening s) (id : ℕ) (part : Mine) (at : get_elem? s.views id ≡ some (one_part part)) where
  seat : IsSeatedAt opening.participants board.seat_of board.mine id part
  seat = its opening s board id part at

  -- records are acknowledged
  acks_word : (number : ℕ) → (part.joined ≡ true) ⊎ (holds_segments part ≡ true) → part.number ≤ number → number ≤ length part.log
      → IsBoard opening (state (set s.words (ack_word part.who) number) s.homes (set s.views id (one_part (after_acking number part))))
  acks_word number hand rises seen =
      let low = seat.declared in
      let few = board.few in
      let long = board.words in
      record {
        kept = board.kept;
        mine = with_at part.who (after_acking number part) board.mine;
        seat_of = board.seat_of;
        words = length-set s.words (ack_word part.who) number ∙ board.words;
        few = board.few;
        seated = seated_step opening.participants s.views board.seat_of board.mine board.seated id part (after_acking number part) at refl;
        locked = locked_else opening.participants s.words s.homes board.kept board.mine board.locked board.words 0 (omega arith) part seat.known seat.declared (ack_word part.who) number (omega arith) (after_acking number part) refl;
        heaps = kept_same opening board.kept board.mine board.heaps part seat.known (after_acking number part) refl;
        prefixes = seen_same opening board.kept board.mine board.prefixes part seat.known (after_acking number part) refl refl;
        marked = marked_same opening board.kept board.mine board.marked part seat.known (after_acking number part) refl;
        named = named_same opening board.kept board.mine board.named part seat.known (after_acking number part) refl refl;
        agreed = agreed_same opening.participants s.words board.kept board.mine board.agreed part seat.known seat.declared (set s.words (ack_word part.who) number) (after_acking number part)
            (get_or-set_other s.words (ack_word part.who) NAMES_SLOT number 0 (λ same. omega (arith, same))) refl refl;
        claimed = claimed_same s.words (set s.words (ack_word part.who) number) board.kept board.claimed
            (λ k within. get_or-set_other s.words (ack_word part.who) k number 0 (λ same. omega (arith, same, within)));
        lines = lines_same opening s.words board.kept board.mine board.lines part seat.known seat.declared (set s.words (ack_word part.who) number) (after_acking number part)
            refl refl refl refl refl refl refl (λ w may. get_or-set_other s.words (ack_word part.who) (done_word w) number 0 (λ same. omega (arith, same, low, few)));
        segments = segs_ack opening s.words board.kept board.mine board.segments part seat.known seat.declared number (omega (arith, low, few, long)) hand rises seen;
        owned = owned_same opening s.words board.kept board.mine board.owned part seat.known seat.declared (set s.words (ack_word part.who) number) (after_acking number part) refl refl refl
            (λ k within. get_or-set_other s.words (ack_word part.who) k number 0 (λ same. omega (arith, same, within)));
        moved = moved_same opening s.words board.kept board.mine board.moved part seat.known (set s.words (ack_word part.who) number) (after_acking number part) refl
            (λ k within. get_or-set_other s.words (ack_word part.who) k number 0 (λ same. omega (arith, same, within)));
      }

-- what a participant has seen of the log is well formed
seen_formed : (opening : Opening) (s : BoardState) (board : IsBoard opening s) (id : ℕ) (part : Mine) → get_elem? s.views id ≡ some (one_part part) → IsWellFormed part.log
seen_formed opening s board id part at =
    let seat = its opening s board id part at in
    let lag = board.segments.lagging part.who seat.declared in
    subst (λ (m : Mine). IsWellFormed m.log) (sym seat.known)
    (formed_front 0 [] (board.mine part.who).log lag.log.0 (subst IsWellFormed lag.log.1 (segs_sound opening s board).rows.table.formed))

-- records are acknowledged
pub acks : (opening : Opening) (slots id : ℕ) (me : Sat) (word number : ℕ) (said : mathlib.Core.Option.Option (Option Kept)) → me.0 ≡ one_part (part_of me.0) → word ≡ ack_word (part_of me.0).who
    → ((part_of me.0).joined ≡ true) ⊎ (holds_segments (part_of me.0) ≡ true) → (part_of me.0).number ≤ number → number ≤ length (part_of me.0).log
    → Allows (IsBoard opening) slots id me word (λ _. number) (λ _. Acks (step slots word number 0 said) me number)
acks opening slots id me word number said one is hand rises seen s board wide there small =
    let part = part_of me.0 in
    let at : get_elem? s.views id ≡ some (one_part part) = there ∙ ap some one in (
      one_part (after_acking number part),
      keeps,
      tt,
      subst (λ (w : ℕ). IsBoard opening (state (set s.words w number) s.homes (set s.views id (one_part (after_acking number part))))) (sym is) (acks_word opening s board id part at number hand rises seen),
      record { acked = refl; formed = seen_formed opening s board id part at },
    )

-- rows are unmapped
pub unmaps : (opening : Opening) (slots id : ℕ) (me : Sat) (word : ℕ) (said : mathlib.Core.Option.Option (Option Kept)) → me.0 ≡ one_part (part_of me.0) → SLOTS ≤ word
    → Allows (IsBoard opening) slots id me word (λ n. n) (Unmaps (step slots word 0 0 said) me)
unmaps opening slots id me word said one behind s board wide there small =
    let part = part_of me.0 in
    let at : get_elem? s.views id ≡ some (one_part part) = there ∙ ap some one in
    let seat = its opening s board id part at in (
      one_part (after_unmapping part),
      keeps,
      tt,
      views_word opening s board id part at word (after_unmapping part) refl refl refl refl refl refl refl refl refl refl refl refl refl (segs_partial opening s.words board.kept board.mine board.segments part seat.known seat.declared)
          (lines_same opening s.words board.kept board.mine board.lines part seat.known seat.declared s.words (after_unmapping part) refl refl refl refl refl refl refl (λ w may. refl)) behind,
      record { unmapped = refl },
    )

-- a participant's number is loaded
pub loads : (opening : Opening) (slots id : ℕ) (me : Sat) (word from : ℕ) (said : mathlib.Core.Option.Option (Option Kept)) → me.0 ≡ one_part (part_of me.0) → word ≡ ack_word from
    → from < (part_of me.0).opening.participants → Allows (IsBoard opening) slots id me word (λ n. n) (Loads (step slots word 0 0 said) me)
loads opening slots id me word from said one is declared s board wide there small =
    let part = part_of me.0 in
    let at : get_elem? s.views id ≡ some (one_part part) = there ∙ ap some one in
    let seat = its opening s board id part at in
    let found : get_or s.words (ack_word from) 0 ≡ get_or s.words word 0 = ap (λ (w : ℕ). get_or s.words w 0) (sym is) in
    let opened : part.opening ≡ opening = ap (λ (m : Mine). m.opening) seat.known ∙ board.prefixes.opened part.who seat.declared in
    let low : from < opening.participants = subst (λ (o : Opening). from < o.participants) opened declared in
    let new : Mine = after_load from (get_or s.words word 0) part in (
      one_part new,
      keeps,
      tt,
      views_word opening s board id part at word new refl refl refl refl refl refl refl refl refl refl refl refl refl
          (subst (λ (n : ℕ). AreSegs opening.participants s.words board.kept (with_at part.who (after_load from n part) board.mine)) found
          (segs_load opening s.words board.kept board.mine board.segments part seat.known seat.declared from))
          (lines_same opening s.words board.kept board.mine board.lines part seat.known seat.declared s.words new refl refl refl refl refl refl refl (λ w may. refl)) (omega arith),
      record {
        told = λ other same.
            let one_number : from ≡ other = omega (arith, is, same) in
            subst (λ (n : ℕ). HasLoaded me n (get_or s.words word 0) (one_part new, me.1)) one_number (record {
              loaded = refl;
              rises = let low_is = load_rises opening s.words board.kept board.mine board.segments part seat.known seat.declared from low in omega (arith, low_is, found);
              own = λ self.
                  let told = board.segments.told part.who seat.declared in
                  let number : (board.mine part.who).number ≡ part.number = ap (λ (m : Mine). m.number) (sym seat.known) in
                  ap (λ (w : ℕ). get_or s.words w 0) (is ∙ ap ack_word self) ∙ (told.own ∙ number);
            });
      },
    )
