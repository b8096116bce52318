-- The loop has the number of the digits so far.
use Rattle.std.proofs.Common.{◌≡◌, ℕ, ◌+◌, ◌*◌, ◌<◌, ◌≤◌, List, true, length, take, get_or, sym, ap, subst, ◌∙◌, arith}
use Rattle.std.specs.Prelude.{Option, Some, None, nat_lt}
use Rattle.std.specs.List.{list_all}
use Rattle.std.specs.Char.{digit_value}
use Rattle.std.specs.Str.Parse.{digits_value}
use Rattle.std.proofs.lemmas.List.{take_all}
use Rattle.hp_command.proofs.NumberLemmas.{all_more, none_of_large, none_of_small, one_more, some_of_all}
use Rattle.hp_command.proofs.numbers.number_within.Goals as goal

pub returns-then-value-from-clause-number : goal.returns-then-value-from-clause-number
returns-then-value-from-clause-number c =
    let word = c.args.word.now in
    let i = c.loop-byte.byte-index in
    let within = c.loop-byte-test.true in
    let more = one_more word i c.loop-byte.value c.from-in-loop-byte.result (c.from-in-loop-byte.ensures ∙ (c.in-Some.ensures.value.1 ∙ ap digit_value c.from.ensures)) within
    c.loop-byte.invariant.value in
    let past = c.if-value-from.true in
    let most = c.from-in-loop-byte-2.ensures in
    sym (none_of_large c.args.least c.args.most word (i + 1) (omega (arith, within)) (omega (arith, more, past, most)))

pub loop-byte-preserved : goal.loop-byte-preserved
loop-byte-preserved c =
    let word = c.args.word.now in
    let i = c.loop-byte.byte-index in
    let within = c.loop-byte-test.true in
    record {
      value = one_more word i c.loop-byte.value c.from-in-loop-byte.result (c.from-in-loop-byte.ensures ∙ (c.in-Some.ensures.value.1 ∙ ap digit_value c.from.ensures)) within
          c.loop-byte.invariant.value;
      digits_so_far = all_more word i (subst (λ (n : ℕ). digit_value n < 10) c.from.ensures c.in-Some.ensures.value.0) within c.loop-byte.invariant.digits_so_far;
      few = let most = c.from-in-loop-byte-2.ensures in let below = c.if-value-from.false in omega (arith, most, below);
    }

pub returns-then-value-from-2-clause-number : goal.returns-then-value-from-2-clause-number
returns-then-value-from-2-clause-number c =
    let all = take_all c.loop-byte.byte-index c.args.word.now c.loop-byte-test.false in
    let value = c.loop-byte.invariant.value ∙ ap (digits_value 10) all in
    let less = c.if-value-from-2.true in
    let least = c.from-2.ensures in
    sym (none_of_small c.args.least c.args.most c.args.word.now (omega (arith, value, less, least)))

pub returns-clause-number : goal.returns-clause-number
returns-clause-number c =
    let word = c.args.word.now in
    let all = take_all c.loop-byte.byte-index word c.loop-byte-test.false in
    let value = c.loop-byte.invariant.value ∙ ap (digits_value 10) all in
    let digits = subst (λ (l : List ℕ). list_all (λ digit. nat_lt (digit_value digit) 10) l ≡ true) all c.loop-byte.invariant.digits_so_far in
    let some = c.if-is_empty.ensures in
    let least = c.from-2.ensures in
    let above = c.if-value-from-2.false in
    let most = c.loop-byte.invariant.few in
    ap Some value ∙ sym (some_of_all c.args.least c.args.most word (grind (arith, some)) digits (omega (arith, value, least, above)) (omega (arith, value, most)))
