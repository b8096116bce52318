use Rattle.std.proofs.Common.{◌≡◌, ◌+◌, ◌<◌, ◌^◌, ◌++◌, ◌∷◌, [], false, length, take, drop, set, ap, ◌∙◌, arith, rules}
use Rattle.std.proofs.Math.Facts.{Fits-of_lt}
use Rattle.std.specs.Fmt.{digits}
use Rattle.hp_report.proofs.HexLemmas.{length_fits}
use Rattle.hp_report.proofs.TextLemmas.{length_prefixed, placed, prefixed}
use Rattle.hp_report.proofs.numbers.write_address.Goals as goal

pub overflow_add-end-2 : goal.overflow_add-end-2
overflow_add-end-2 c =
    let small : length c.args.buf.now < 2 ^ 64 = search rules in
    Fits-of_lt (omega (arith, c.hex_length.ensures, c.requires, length_fits c.args.addr c.ranges.addr.fits, small))

pub write_hex-first-requires : goal.write_hex-first-requires
write_hex-first-requires c =
    let counted = c.hex_length.ensures in
    (omega (arith, counted), omega (arith, counted, c.requires, length_fits c.args.addr c.ranges.addr.fits, length_prefixed c.args.buf.now c.args.at))

pub returns : goal.returns
returns c =
    let old = c.args.buf.now in
    let at = c.args.at in
    let prefix = set (set (set old at 32) (at + 1) 48) (at + 2) 120 in
    let hex = c.write_hex-first in
    let end = at + 3 + c.hex_length.result in
    let begins : hex.result ≡ at + 3 = omega (arith, hex.ensures.start, c.hex_length.ensures) in
    let front : take hex.result prefix ≡ take at old ++ 32 ∷ 48 ∷ 120 ∷ [] = ap (λ k. take k prefix) begins ∙ prefixed old at (omega (arith, c.requires)) in
    let len : length hex.new.buf ≡ length old = omega (arith, length_prefixed old at) in
    placed old prefix hex.new.buf (32 ∷ 48 ∷ 120 ∷ []) (digits 16 false c.args.addr) (drop end prefix) at hex.result end
    front begins hex.ensures.before hex.ensures.written hex.ensures.start len
