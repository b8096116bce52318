use Rattle.std.proofs.Common.{◌≡◌, ◌+◌, ◌%◌, false, set, arith, length-set}
use Rattle.std.proofs.lemmas.List.{drop-set, set_comm}
use Rattle.std.specs.Fmt.{digit_glyph}
use Rattle.hp_report.proofs.HexLemmas.{PAIRS_at}
use Rattle.hp_report.proofs.hex.write_pair.Goals as goal

pub returns-clause-written : goal.returns-clause-written
returns-clause-written c =
    let here = PAIRS_at c.args.pair c.requires.0 in
    let at = c.args.at in
    let buf = c.args.buf.now in
    let behind = set buf (at + 1) (digit_glyph false (c.args.pair % 16)) in
    let second : at + 1 + 1 ≡ at + 2 = omega arith in
    rw (here.0, here.1, set_comm buf at (at + 1) _ _ (λ same. omega arith), drop-set behind at _ (omega (arith, length-set buf (at + 1) (digit_glyph false (c.args.pair % 16)))), drop-set buf (at + 1) _ (omega arith), second)
