-- What a seat knows of lines once it told of its own, or looked another's up.
use Rattle.std.proofs.Common.{◌≡◌, ◌≢◌, ⊎_elim, ℕ, ◌≤◌, eqb, cond, eq-eqb, ne_eqb, Option, unwrap_or, refl, sym, ap, subst, ◌∙◌, arith}
use Rattle.std.specs.Option.{option_map}
use Rattle.std.proofs.lemmas.Bool.{cases_eq, cond-false, cond-true}
use Rattle.hp_board.specs.Views.{after_lookup, after_telling, awaited_now, lines_known, lines_told, own_of, value_of}
use Rattle.hp_board.specs.declared.view.Awaited.{Awaited}
use Rattle.hp_board.specs.declared.view.Mine.{Mine}
use Rattle.hp_board.proofs.Fronts.{front_itself}
use Rattle.hp_board.proofs.Pairs.{value_of-else, value_of-here}
use Rattle.hp_chair.proofs.ChairKept.{LeavesHand}
use Rattle.hp_chair.proofs.ChairSteps.{GoesOn, LeavesSlots}
use Rattle.hp_chair.specs.ChairInside.{IsAckedBy}

at_most : (n : ℕ) → n ≤ n
at_most n = omega arith

not_above : (a b low high : ℕ) → a ≡ low → b ≡ high → low ≤ high → a ≤ b
not_above a b low high first second most = omega (arith, first, second, most)

-- what was looked up of a participant last
abbrev looked_of : ℕ → Mine → ℕ
looked_of other mine = unwrap_or (option_map (λ awaited. awaited.lines) (value_of other mine.awaited)) 0

-- of itself a participant knows the lines that it has told, and of another those that it looked up last
pub known_own : (mine : Mine) (other : ℕ) → other ≡ mine.who → lines_known other mine ≡ lines_told mine
known_own mine other own = cond-true (eqb other mine.who) (lines_told mine) (looked_of other mine) (eq-eqb other mine.who own)

known_other : (mine : Mine) (other : ℕ) → other ≢ mine.who → lines_known other mine ≡ looked_of other mine
known_other mine other apart = cond-false (eqb other mine.who) (lines_told mine) (looked_of other mine) (ne_eqb other mine.who apart)

-- so many of its own lines were told to be done
module _ (mine after : Mine) (count : ℕ) (is : after ≡ after_telling count mine) where
  lines_up : lines_told mine ≤ count → (other : ℕ) → lines_known other mine ≤ lines_known other (after_telling count mine)
  lines_up rises other =
      ⊎_elim
      (λ (own : other ≡ mine.who).
      not_above _ _ (lines_told mine) count (known_own mine other own) (known_own (after_telling count mine) other own) rises)
      (λ (apart : other ≢ mine.who).
      not_above _ _ (looked_of other mine) (looked_of other mine) (known_other mine other apart) (known_other (after_telling count mine) other apart)
      (at_most _))
      (cases_eq other mine.who)

  pub goes_told : lines_told mine ≤ count → GoesOn mine after
  goes_told rises = subst (GoesOn mine) (sym is) (record {
    who = refl;
    opening = refl;
    seen = front_itself mine.log;
    heard = front_itself mine.heard;
    zones = front_itself mine.zones;
    names = front_itself mine.names;
    noted = λ other. at_most _;
    lines = lines_up rises;
  })

  pub hand_told : LeavesHand mine after
  hand_told = subst (LeavesHand mine) (sym is) (record { who = refl; opening = refl; joined = refl; held = refl; moves = refl; log = refl; heard = refl; named = refl; holdings = refl })

  pub acked_told : (acked : Option ℕ) → IsAckedBy acked mine → IsAckedBy acked after
  acked_told acked was = subst (IsAckedBy acked) (sym is)
      (λ other some. record { its = (was other some).its; joins = (was other some).joins })

  pub told_now : lines_known after.who after ≡ count
  told_now = known_own after after.who refl ∙ ap lines_told is

-- so many lines of a participant were found to be done
module _ (mine after : Mine) (from count : ℕ) (is : after ≡ after_lookup from count mine) (own : from ≡ mine.who → count ≡ lines_told mine) where
  looked_here : lines_known from (after_lookup from count mine) ≡ count
  looked_here =
      ⊎_elim
      (λ (its : from ≡ mine.who). known_own (after_lookup from count mine) from its ∙ sym (own its))
      (λ (apart : from ≢ mine.who).
      known_other (after_lookup from count mine) from apart
      ∙ ap (λ (o : Option Awaited). unwrap_or (option_map (λ (a : Awaited). a.lines) o) 0) (value_of-here from (awaited_now count mine) mine.awaited))
      (cases_eq from mine.who)

  looked_else : (other : ℕ) → other ≢ from → lines_known other (after_lookup from count mine) ≡ lines_known other mine
  looked_else other apart =
      ap (λ (o : Option Awaited). cond (eqb other mine.who) (lines_told mine) (unwrap_or (option_map (λ (a : Awaited). a.lines) o) 0))
      (value_of-else from other (awaited_now count mine) mine.awaited apart)

  lines_found : lines_known from mine ≤ count → (other : ℕ) → lines_known other mine ≤ lines_known other (after_lookup from count mine)
  lines_found rises other =
      ⊎_elim
      (λ (here : other ≡ from).
      subst (λ (n : ℕ). lines_known n mine ≤ lines_known n (after_lookup from count mine)) (sym here)
      (not_above _ _ (lines_known from mine) count refl looked_here rises))
      (λ (apart : other ≢ from). not_above _ _ (lines_known other mine) (lines_known other mine) refl (looked_else other apart) (at_most _))
      (cases_eq other from)

  pub goes_found : lines_known from mine ≤ count → GoesOn mine after
  goes_found rises = subst (GoesOn mine) (sym is) (record {
    who = refl;
    opening = refl;
    seen = front_itself mine.log;
    heard = front_itself mine.heard;
    zones = front_itself mine.zones;
    names = front_itself mine.names;
    noted = λ other. at_most _;
    lines = lines_found rises;
  })

  own_still : lines_known mine.who (after_lookup from count mine) ≡ lines_known mine.who mine
  own_still = known_own (after_lookup from count mine) mine.who refl ∙ sym (known_own mine mine.who refl)

  pub leaves_found : LeavesSlots mine after
  leaves_found = subst (LeavesSlots mine) (sym is) (record { held = refl; part = λ heap. refl; joined = refl; lines = own_still })

  pub hand_found : LeavesHand mine after
  hand_found = subst (LeavesHand mine) (sym is) (record { who = refl; opening = refl; joined = refl; held = refl; moves = refl; log = refl; heard = refl; named = refl; holdings = refl })

  pub acked_found : (acked : Option ℕ) → IsAckedBy acked mine → IsAckedBy acked after
  acked_found acked was = subst (IsAckedBy acked) (sym is)
      (λ other some. record { its = (was other some).its; joins = (was other some).joins })

  pub own_found : own_of after ≡ own_of mine
  own_found = ap own_of is

  pub found_now : count ≡ lines_known from after
  found_now = sym (ap (lines_known from) is ∙ looked_here)
