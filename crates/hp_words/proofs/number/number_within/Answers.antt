use Rattle.std.proofs.Common.{sym, rules}
use Rattle.hp_words.proofs.NumberLemmas.{none_of_error, none_of_high, none_of_low, none_of_plus, some_of_parsed}
use Rattle.hp_words.proofs.number.number_within.Goals as goal

pub returns-then-has_plus-clause-number : goal.returns-then-has_plus-clause-number
returns-then-has_plus-clause-number c = sym (none_of_plus c.args.least c.args.most c.args.word.now (search rules))

pub returns-in-Ok-clause-number : goal.returns-in-Ok-clause-number
returns-in-Ok-clause-number c =
    some_of_parsed c.args.least c.args.most c.args.word.now (search rules) c.parse.result c.parse.ensures.value.0 c.in-Ok.n c.in-Ok.is c.if-least-n.true c.if-n-most.true

pub returns-in_default-clause-number : goal.returns-in_default-clause-number
returns-in_default-clause-number c =
    none_of_high c.args.least c.args.most c.args.word.now (search rules) c.parse.result c.parse.ensures.value.0 c.in-Ok.n c.in-Ok.is c.if-n-most.false

pub returns-in_default-2-clause-number : goal.returns-in_default-2-clause-number
returns-in_default-2-clause-number c =
    none_of_low c.args.least c.args.most c.args.word.now (search rules) c.parse.result c.parse.ensures.value.0 c.in-Ok.n c.in-Ok.is c.if-least-n.false

pub returns-in_default-3-clause-number : goal.returns-in_default-3-clause-number
returns-in_default-3-clause-number c =
    none_of_error c.args.least c.args.most c.args.word.now (search rules) c.parse.result c.parse.ensures.value.0 c.in_default.field-0 c.in_default.is c.ranges.most.fits
