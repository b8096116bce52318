use Rattle.std.proofs.Common.{◌≡◌, ◌<◌, ℕ, List, true, length, ap, sym, ◌∙◌, arith}
use Rattle.std.proofs.lemmas.Bool.Decides.{nat_tests}
use Rattle.hp_script.specs.Labels.{has_label}
use Rattle.hp_script.proofs.FirstLabels.{first_label}
use Rattle.hp_script.proofs.labels.maker_near.Goals as goal

pub returns-then-has_label : goal.returns-then-has_label
returns-then-has_label c =
    let line = c.in-Some.line.now in
    let has : has_label c.args.label.now.text line ≡ true =
    ap (λ (text : List ℕ). has_label text line) (sym c.as_bytes.ensures.text) ∙ sym c.has_label.ensures ∙ c.if-has_label.true in
    let within : c.place_near-place.result < length c.args.lines.now = grind (arith, nat_tests, c.in-Some.ensures.lookup.0) in
    sym (first_label c.args.label.now.text c.args.lines.now c.place_near-place.result line c.requires within c.in-Some.ensures.lookup.1 has)
