use Rattle.std.proofs.Common.{◌≡◌, ◌+◌, ◌≤◌, ◌<◌, ◌^◌, ◌++◌, ◌∷◌, [], length, take, drop, set, refl, ap, ◌∙◌, length-set, arith, rules}
use Rattle.std.proofs.Math.Facts.{Fits-of_lt}
use Rattle.std.proofs.lemmas.Fmt.{length-decimal-le}
use Rattle.std.specs.Fmt.{decimal}
use Rattle.hp_report.proofs.TextLemmas.{front_set, placed}
use Rattle.hp_report.proofs.numbers.write_number.Goals as goal

pub overflow_add-end-2 : goal.overflow_add-end-2
overflow_add-end-2 c =
    let short : length (decimal c.args.n) ≤ 20 = search (rules, length-decimal-le 20) in
    let small : length c.args.buf.now < 2 ^ 64 = search rules in
    Fits-of_lt (omega (arith, c.decimal_length.ensures, c.requires, short, small))

pub write_digits-first-requires : goal.write_digits-first-requires
write_digits-first-requires c =
    let short : length (decimal c.args.n) ≤ 20 = search (rules, length-decimal-le 20) in
    let counted = c.decimal_length.ensures in
    (omega (arith, counted), omega (arith, counted, c.requires, short, length-set c.args.buf.now c.args.at 32))

pub returns : goal.returns
returns c =
    let old = c.args.buf.now in
    let at = c.args.at in
    let blank = set old at 32 in
    let digits = c.write_digits-first in
    let begins : digits.result ≡ at + 1 = omega (arith, digits.ensures.start, c.decimal_length.ensures) in
    let front : take digits.result blank ≡ take at old ++ 32 ∷ [] = ap (λ k. take k blank) begins ∙ front_set old (take at old) at 32 (omega (arith, c.requires)) refl in
    let len : length digits.new.buf ≡ length old = omega (arith, length-set old at 32) in
    placed old blank digits.new.buf (32 ∷ []) (decimal c.args.n) (drop (at + 1 + c.decimal_length.result) blank) at digits.result (at + 1 + c.decimal_length.result)
    front begins digits.ensures.before digits.ensures.written digits.ensures.start len
