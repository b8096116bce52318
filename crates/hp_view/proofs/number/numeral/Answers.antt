-- The loop has the number of the digits so far.
use Rattle.std.proofs.Common.{◌≡◌, ◌<◌, length, take, sym, arith}
use Rattle.std.proofs.lemmas.List.{take_all}
use Rattle.std.proofs.lemmas.Int.Digits.{digits_value_more}
use Rattle.std.proofs.lemmas.List.Folds.{list_all_more}
use Rattle.std.specs.Prelude.{nat_lt}
use Rattle.std.specs.Char.{digit_value}
use Rattle.hp_view.proofs.NumberLemmas.{numeral_of_all, fits_is}
use Rattle.hp_view.proofs.number.numeral.Goals as goal

pub loop-digit-preserved : goal.loop-digit-preserved
loop-digit-preserved c =
    let within : c.loop-digit.digit-index < length c.args.digits.now = omega arith in
    let more = digits_value_more c.args.radix c.args.digits.now c.loop-digit.digit-index within in
    let pass = list_all_more (λ digit. nat_lt (digit_value digit) c.args.radix) c.args.digits.now c.loop-digit.digit-index 0 within in
    let same = fits_is _ _ c.in-Some-with_digit.ensures in
    let digit = c.in-Some.ensures.value in
    record { value = rw more (grind (arith, same.0, digit.1)); digits_so_far = rw pass (grind (arith, digit.0)); fits = grind (arith, same.0, same.1) }

pub returns : goal.returns
returns c =
    let all : take c.loop-digit.digit-index c.args.digits.now ≡ c.args.digits.now = take_all c.loop-digit.digit-index c.args.digits.now c.loop-digit-test.false in
    let value = rw all at c.loop-digit.invariant.value in
    let digits = rw all at c.loop-digit.invariant.digits_so_far in
    let some : 0 < length c.args.digits.now = grind (arith, c.if-is_empty.ensures) in
    let fits = rw value at c.loop-digit.invariant.fits in
    rw value (sym (numeral_of_all c.args.radix c.args.digits.now some digits fits))
