use Rattle.std.proofs.Common.{◌≡◌, ◌∷◌, ◌+◌, List, ℕ, set, subst, sym, arith, rules}
use Rattle.std.proofs.lemmas.Fmt.{decimal_digit}
use Rattle.hp_report.specs.InPlace.{IsPlaced}
use Rattle.hp_report.proofs.TextLemmas.{with_digit}
use Rattle.hp_report.proofs.numbers.write_digit.Goals as goal

pub returns : goal.returns
returns c =
    let old = c.args.buf.now in
    let at = c.args.at in
    let digit = 48 + c.args.n in
    subst (λ (text : List ℕ). IsPlaced old (set (set old at 32) (at + 1) digit) at (32 ∷ text) (at + 2))
    (sym (decimal_digit c.args.n c.requires.digit)) (with_digit old at digit c.requires.room)
