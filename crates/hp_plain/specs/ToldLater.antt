-- By steps that show which lines are done and which pairs are newest, neither falls.
use Rattle.std.proofs.Common.{◌≡◌, ℕ, zero, suc, ◌≤◌, List, [], ◌∷◌, Some, get_or, map, set, le_refl, refl, ap, arith}
use Rattle.std.specs.List.{slice_get}
use Rattle.hp_hall.specs.Mail.{MailStep, Notes}
use Rattle.hp_hall.specs.declared.note.Note.TheVariants.{Published, Stored}
use Rattle.hp_plain.specs.HallView.{SlotView, newest_in, newest_of}
use Rattle.hp_plain.specs.Told.{AreTold, ShowsTold, Told, told_after}
use Rattle.hp_stats.specs.Pairs.{no_pair}
use Rattle.hp_stats.specs.declared.stat_pair.StatPair.{StatPair}

-- what is counted of a list's elements rises where an element comes to one of which it is more
set_rises : {X : Type 0} (count : X → ℕ) (xs : List X) (i k : ℕ) (x d : X) → count (get_or xs i d) ≤ count x
    → count (get_or xs k d) ≤ count (get_or (set xs i x) k d)
set_rises count [] i k x d more = le_refl (count d)
set_rises count (y ∷ ys) zero zero x d more = more
set_rises count (y ∷ ys) zero (suc k) x d more = le_refl (count (get_or ys k d))
set_rises count (y ∷ ys) (suc i) zero x d more = le_refl (count y)
set_rises count (y ∷ ys) (suc i) (suc k) x d more = set_rises count ys i k x d more

-- what is read of a list is what stands there
get_is : {X : Type 0} (xs : List X) (i : ℕ) (x d : X) → slice_get xs i ≡ Some x → get_or xs i d ≡ x
get_is [] i x d there = cc
get_is (y ∷ ys) zero x d there = cc
get_is (y ∷ ys) (suc i) x d there = get_is ys i x d there

abbrev entries_of_pair : StatPair → ℕ
entries_of_pair pair = pair.entries

lines_step : (who : ℕ) (step : MailStep) (told : Told) → ShowsTold who step told → (other : ℕ)
    → get_or told.lines other 0 ≤ get_or (told_after who step told).lines other 0
lines_step who (Notes (Stored lines)) told shows other = set_rises (λ (n : ℕ). n) told.lines who other lines 0 shows
lines_step who _ told shows other = le_refl (get_or told.lines other 0)

pairs_step : (who : ℕ) (step : MailStep) (told : Told) → ShowsTold who step told → (number : ℕ)
    → (get_or told.newest number no_pair).entries ≤ (get_or (told_after who step told).newest number no_pair).entries
pairs_step who (Notes (Published index pair)) told shows number =
    let before : get_or told.newest index no_pair ≡ shows.before = get_is told.newest index shows.before no_pair shows.there in
    set_rises entries_of_pair told.newest index number pair no_pair (omega (arith, shows.rises, ap entries_of_pair before))
pairs_step who _ told shows number = le_refl (get_or told.newest number no_pair).entries

pub lines_rise : (steps : List (ℕ × MailStep)) (old new : Told) → AreTold steps old new → (who : ℕ)
    → get_or old.lines who 0 ≤ get_or new.lines who 0
lines_rise [] old new are who = omega (arith, ap (λ (told : Told). get_or told.lines who 0) are)
lines_rise (step ∷ steps) old new are who =
    omega (
      arith,
      lines_step step.0 step.1 old are.0 who,
      lines_rise steps (told_after step.0 step.1 old) new are.1 who,
    )

pairs_rise : (steps : List (ℕ × MailStep)) (old new : Told) → AreTold steps old new → (number : ℕ)
    → (get_or old.newest number no_pair).entries ≤ (get_or new.newest number no_pair).entries
pairs_rise [] old new are number = omega (arith, ap (λ (told : Told). (get_or told.newest number no_pair).entries) are)
pairs_rise (step ∷ steps) old new are number =
    omega (
      arith,
      pairs_step step.0 step.1 old are.0 number,
      pairs_rise steps (told_after step.0 step.1 old) new are.1 number,
    )

newest_at : (slots : List SlotView) (number : ℕ) → newest_in (slice_get slots number) ≡ get_or (map newest_of slots) number no_pair
newest_at [] number = refl
newest_at (slot ∷ slots) zero = refl
newest_at (slot ∷ slots) (suc number) = newest_at slots number

-- the newest pairs of the slots count no fewer entries
pub shown_rises : (steps : List (ℕ × MailStep)) (before after : List SlotView) (old new : Told) → old.newest ≡ map newest_of before
    → new.newest ≡ map newest_of after → AreTold steps old new → (number : ℕ)
    → (newest_in (slice_get before number)).entries ≤ (newest_in (slice_get after number)).entries
shown_rises steps before after old new first last are number =
    omega (
      arith,
      pairs_rise steps old new are number,
      ap (λ (l : List StatPair). (get_or l number no_pair).entries) first,
      ap (λ (l : List StatPair). (get_or l number no_pair).entries) last,
      ap entries_of_pair (newest_at before number),
      ap entries_of_pair (newest_at after number),
    )
