-- A line is cut at its first blind byte, where that is a blank.
use Rattle.std.proofs.Common.{◌≡◌, false, arith, get_or}
use Rattle.std.specs.Prelude.{position, Some, None}
use Rattle.std.proofs.lemmas.Bool.Decides.{nat_tests}
use Rattle.hp_script.specs.Text.{is_separator}
use Rattle.hp_script.specs.Words.{is_blind}
use Rattle.hp_script.specs.declared.text.Separator.TheVariants.{Blank}
use Rattle.hp_script.proofs.TokenFacts.WordLemmas.{cut_bad, cut_whole}
use Rattle.hp_script.proofs.words.cut_field.Goals as goal

pub returns-in_default-clause-some : goal.returns-in_default-clause-some
returns-in_default-clause-some c =
    let none : position is_blind c.args.whole.now.text ≡ None = cc (c.in_default.ensures.place) in
    rw c.again.ensures (cut_whole c.args.whole.now none)

pub returns-then-byte-ne9-clause-none : goal.returns-then-byte-ne9-clause-none
returns-then-byte-ne9-clause-none c =
    let found : position is_blind c.args.whole.now.text ≡ Some c.in-Some.n = cc (c.in-Some.ensures.place) in
    let text = c.as_bytes-text.ensures.text in
    let other : is_separator Blank (get_or c.args.whole.now.text c.in-Some.n 0) ≡ false = rw (← text) (grind (arith, nat_tests, c.if-byte-ne32.true, c.if-byte-ne9.true)) in
    cut_bad c.args.whole.now c.in-Some.n found other
