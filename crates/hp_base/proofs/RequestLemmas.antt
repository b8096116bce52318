-- What an accepted request keeps.
use Rattle.std.proofs.Common.{◌≡◌, ℕ, ◌^◌, ◌%◌, ◌<◌, IsTrue, Bool, true, false, ◌&&◌, cond, sym, subst, arith, Some, None}
use Rattle.std.specs.Prelude.{nat_le, nat_lt}
use Rattle.std.proofs.lemmas.Bool.{leb-false}
use Rattle.std.specs.Int.{is_power_of_two}
use Rattle.hp_base.specs.Round.{ceil_of, fitting}
use Rattle.hp_base.specs.Requests.{IsAccepted, is_align, is_bound, bytes_asked, rounded_size, raised_align}
use Rattle.hp_base.specs.declared.round.TheConstants.{LINE}
use Rattle.hp_base.proofs.Rounding.{ceil_above, ceil_aligned}
use Rattle.hp_base.proofs.Powers.{raised_is_power}

chosen_is : (fits : Bool) (n x : ℕ) → Some x ≡ cond fits (Some n) None → x ≡ n
chosen_is true n x is = cc
chosen_is false n x is = cc

-- a fitting number is the number
pub fitting_is : (n x : ℕ) → Some x ≡ fitting n → x ≡ n
fitting_is n x is = chosen_is (nat_lt n (2 ^ 64)) n x is

-- what is not too large at an alignment fits
asked_fits : (aligns : Bool) (asked : ℕ) → aligns ≡ true → (aligns && nat_le (2 ^ 64) asked) ≡ false → asked < 2 ^ 64
asked_fits true asked _ small = leb-false (2 ^ 64) asked small
asked_fits false asked is _ = cc

pub accepted_is : (size rounded align raised bound : ℕ) → 0 < size → Some rounded ≡ fitting (rounded_size size) → raised ≡ raised_align align
    → is_align align ≡ true → is_bound rounded bound ≡ true → (is_align align && nat_le (2 ^ 64) (bytes_asked rounded (raised_align align))) ≡ false
    → IsAccepted rounded raised bound
accepted_is size rounded align raised bound some rounds raises power block fits =
    let is : rounded ≡ ceil_of size LINE = fitting_is (ceil_of size LINE) rounded rounds in
    record {
      some = omega (arith, is, ceil_above size LINE (omega arith));
      lines = subst (λ (n : ℕ). n % LINE ≡ 0) (sym is) (ceil_aligned size LINE);
      power = subst (λ (n : ℕ). IsTrue (is_power_of_two n)) (sym raises) (raised_is_power align power);
      line = omega (arith, raises);
      block = block;
      fits = subst (λ (n : ℕ). bytes_asked rounded n < 2 ^ 64) (sym raises) (asked_fits (is_align align) (bytes_asked rounded (raised_align align)) power fits);
    }
