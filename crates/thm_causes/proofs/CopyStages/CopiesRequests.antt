-- A request that was accepted is asked for as it is kept: it is not refused, and not rounded again.
use Rattle.std.proofs.Common.{◌≡◌, ℕ, ◌+◌, ◌^◌, ◌<◌, ◌≤◌, Bool, true, false, cond, not, ◌&&◌, ◌||◌, ◌==◌, Some, None, refl, sym, subst, arith}
use Rattle.std.specs.Prelude.{nat_le}
use Rattle.std.specs.Int.{is_power_of_two}
use Rattle.std.proofs.lemmas.Bool.Decides.{nat_tests}
use Rattle.std.proofs.lemmas.Bool.{or_right}
use Rattle.hp_base.specs.Requests.{IsAccepted, bytes_asked, is_align, is_bound, is_too_large, raised_align, refusal_of, rounded_size}
use Rattle.hp_base.specs.Round.{ceil_of}
use Rattle.hp_base.specs.declared.page_size.TheConstants.{GREATEST_PAGE}
use Rattle.hp_base.specs.declared.request.BadRequest.TheVariants.{Zero, Overflow, Align, Bound}
use Rattle.hp_base.specs.declared.round.TheConstants.{HEADER, LINE}
use Rattle.hp_base.proofs.Rounding.{ceil_above, ceil_of_aligned}

module _ (size align bound : ℕ) (accepted : IsAccepted size align bound) where
  -- its size is whole lines, and its alignment a line at least
  pub rounded_again : rounded_size size ≡ size
  rounded_again = ceil_of_aligned size LINE (omega arith) accepted.lines

  pub raised_again : raised_align align ≡ align
  raised_again = omega (arith, accepted.line)

  -- what it takes has room for it
  size_within : size ≤ bytes_asked size align
  size_within =
      let line = accepted.line in
      omega (arith, ceil_above size align (omega arith), ceil_above (ceil_of size align + HEADER) GREATEST_PAGE (omega arith))

  not_too_large : is_too_large size align ≡ false
  not_too_large =
      subst (λ (raised : ℕ). (nat_le (2 ^ 64) (rounded_size size)
      || (is_align align && nat_le (2 ^ 64) (bytes_asked (rounded_size size) raised))) ≡ false) (sym raised_again)
      (subst (λ (rounded : ℕ). (nat_le (2 ^ 64) rounded || (is_align align && nat_le (2 ^ 64) (bytes_asked rounded align))) ≡ false)
      (sym rounded_again) (small (bytes_asked size align) size_within accepted.fits (is_align align)))
    where
      small : (asked : ℕ) → size ≤ asked → asked < 2 ^ 64 → (aligns : Bool)
          → (nat_le (2 ^ 64) size || (aligns && nat_le (2 ^ 64) asked)) ≡ false
      small asked within fits true = grind (arith, nat_tests, within, fits)
      small asked within fits false = grind (arith, nat_tests, within, fits)

  -- it is not refused
  pub not_refused : refusal_of size align bound ≡ None
  not_refused =
      let some : (size == 0) ≡ false = grind (arith, nat_tests, accepted.some) in
      let aligns : is_align align ≡ true = or_right (align == 0) (is_power_of_two align) accepted.power in
      let block : is_bound (rounded_size size) bound ≡ true =
      subst (λ (n : ℕ). is_bound n bound ≡ true) (sym rounded_again) accepted.block in
      all (size == 0) (is_too_large size align) (is_align align) (is_bound (rounded_size size) bound) some not_too_large aligns block
    where
      all : (zero large aligns block : Bool) → zero ≡ false → large ≡ false → aligns ≡ true → block ≡ true
          → cond zero (Some Zero) (cond large (Some Overflow) (cond (not aligns) (Some Align) (cond block None (Some Bound)))) ≡ None
      all true large aligns block some fits good in_block = cc
      all false true aligns block some fits good in_block = cc
      all false false false block some fits good in_block = cc
      all false false true false some fits good in_block = cc
      all false false true true some fits good in_block = refl
