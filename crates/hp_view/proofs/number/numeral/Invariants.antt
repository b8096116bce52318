use Rattle.std.proofs.Common.{◌≡◌, ◌<◌, ◌^◌, true, take}
use Rattle.std.specs.Prelude.{nat_lt}
use Rattle.std.specs.List.{list_all}
use Rattle.std.specs.Char.{digit_value}
use Rattle.std.specs.Str.Parse.{digits_value}
use Rattle.hp_view.proofs.number.numeral.Given as goal

abbrev pub invariant-loop-digit : goal.invariant-loop-digit
invariant-loop-digit l = record {
  value : l.value ≡ digits_value l.radix (take l.digit-index l.digits);
  digits_so_far : list_all (λ digit. nat_lt (digit_value digit) l.radix) (take l.digit-index l.digits) ≡ true;
  fits : l.value < 2 ^ 64;
}
