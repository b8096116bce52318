-- The first separator ends the first part.
use Rattle.std.proofs.Common.{◌≡◌}
use Rattle.std.specs.Prelude.{position, Some, None}
use Rattle.hp_script.specs.Text.{is_separator}
use Rattle.hp_script.proofs.TokenFacts.TextLemmas.{parts_none, parts_some}
use Rattle.hp_script.proofs.text.cut.Goals as goal

pub returns-in-None-clause-parts : goal.returns-in-None-clause-parts
returns-in-None-clause-parts c =
    let none : position (is_separator c.args.separator) c.args.whole.now.text ≡ None = cc (c.in-None.ensures.place) in
    rw c.again.ensures (parts_none c.args.separator c.args.whole.now none)

pub returns-in-Some-clause-parts : goal.returns-in-Some-clause-parts
returns-in-Some-clause-parts c =
    let found : position (is_separator c.args.separator) c.args.whole.now.text ≡ Some c.in-Some.n = cc (c.in-Some.ensures.place) in
    let within = rw c.as_bytes-text.ensures.text at c.in-Some.ensures.within in
    rw (c.front.ensures, c.rest.ensures) (parts_some c.args.separator c.args.whole.now c.in-Some.n found within)
