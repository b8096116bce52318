use Rattle.std.proofs.Common.{◌≡◌, ◌+◌, ◌-◌, ◌%◌, false, arith}
use Rattle.std.proofs.lemmas.Fmt.{hex_one_digit, hex_two_digits}
use Rattle.std.proofs.lemmas.List.{drop-set}
use Rattle.hp_report.proofs.HexLemmas.{length_one, length_two, PAIRS_at}
use Rattle.hp_report.proofs.hex.write_first.Goals as goal

pub overflow_sub-buf : goal.overflow_sub-buf
overflow_sub-buf c = omega (arith, length_one c.args.n c.if-n-lt16.true)

pub bounds-buf-end : goal.bounds-buf-end
bounds-buf-end c = omega (arith, length_one c.args.n c.if-n-lt16.true)

pub overflow_sub-result : goal.overflow_sub-result
overflow_sub-result c = omega (arith, length_one c.args.n c.if-n-lt16.true)

pub returns-then-n-lt16-clause-start : goal.returns-then-n-lt16-clause-start
returns-then-n-lt16-clause-start c = omega (arith, length_one c.args.n c.if-n-lt16.true)

pub returns-then-n-lt16-clause-written : goal.returns-then-n-lt16-clause-written
returns-then-n-lt16-clause-written c =
    let n = c.args.n in
    let one = length_one n c.if-n-lt16.true in
    let next : c.args.end - 1 + 1 ≡ c.args.end = omega arith in
    let whole : n % 16 ≡ n = omega arith in
    rw (drop-set c.args.buf.now (c.args.end - 1) _ (omega arith), next, (PAIRS_at n c.requires.0).1, whole, hex_one_digit false n c.if-n-lt16.true)

pub overflow_sub-end : goal.overflow_sub-end
overflow_sub-end c = omega (arith, length_two c.args.n c.if-n-lt16.false c.requires.0)

pub write_pair-requires : goal.write_pair-requires
write_pair-requires c = omega (arith, length_two c.args.n c.if-n-lt16.false c.requires.0)

pub overflow_sub-result-2 : goal.overflow_sub-result-2
overflow_sub-result-2 c = omega (arith, length_two c.args.n c.if-n-lt16.false c.requires.0)

pub returns-clause-start : goal.returns-clause-start
returns-clause-start c = omega (arith, length_two c.args.n c.if-n-lt16.false c.requires.0)

pub returns-clause-written : goal.returns-clause-written
returns-clause-written c =
    let two = length_two c.args.n c.if-n-lt16.false c.requires.0 in
    let next : c.args.end - 2 + 2 ≡ c.args.end = omega arith in
    rw (c.write_pair.ensures.written, next, hex_two_digits false c.args.n c.if-n-lt16.false c.requires.0)
