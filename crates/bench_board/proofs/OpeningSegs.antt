-- The segment value of a new board.
use Rattle.std.proofs.Common.{◌≡◌, ◌∙◌, ℕ, zero, suc, ◌<◌, true, false, List, get_or, Option, None, replicate, refl, sym, subst, lit<}
use Rattle.std.specs.Prelude.{IfOk, Result, Ok, Err}
use Rattle.std.proofs.lemmas.Bool.{false≢true}
use Rattle.hp_base.specs.declared.pool_line.PoolLine.{PoolLine}
use Rattle.hp_segs.specs.Opening.{opening}
use Rattle.hp_segs.specs.SegsView.{SegsView, is_member}
use Rattle.hp_segs.specs.declared.ask.Ask.{Ask}
use Rattle.hp_board.specs.Served.{AreOpeningSegs}

nobody_armed : (count who : ℕ) → get_or (replicate {A = Option Ask} count None) who None ≡ None
nobody_armed zero who = refl
nobody_armed (suc count) zero = refl
nobody_armed (suc count) (suc who) = nobody_armed count who

all_out : (count who : ℕ) → get_or (replicate count false) who false ≡ false
all_out zero who = refl
all_out (suc count) zero = refl
all_out (suc count) (suc who) = all_out count who

first_two : (pools : List PoolLine) (who : ℕ) → is_member (opening pools 3 4).roster who ≡ true → who < 3
first_two pools zero is = lit< tt
first_two pools (suc zero) is = lit< tt
first_two pools (suc (suc zero)) is = lit< tt
first_two pools (suc (suc (suc who))) is = absurd (false≢true (sym (all_out 13 who) ∙ is))

opens : (pools : List PoolLine) (segs : SegsView) → segs ≡ opening pools 3 4 → AreOpeningSegs 3 segs
opens pools segs is = subst (AreOpeningSegs 3) (sym is) (record { log = refl; asks = refl; ranges = refl; armed = nobody_armed 16; roster = first_two pools })

-- one that opens for three participants, of which the first two are in the roster
pub opens_ok : {E : Type 0} (pools : List PoolLine) (made : Result SegsView E) → IfOk made (λ segs. segs ≡ opening pools 3 4) → IfOk made (AreOpeningSegs 3)
opens_ok pools (Ok segs) is = opens pools segs is
opens_ok pools (Err e) is = tt
