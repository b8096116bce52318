-- An empty run less.
use Rattle.std.proofs.Common.{◌≡◌, ◌-◌, ◌+◌, ◌∙◌, ℕ, suc, ap, arith, length, take, sym}
use Rattle.std.proofs.lemmas.Bool.{ltb-false}
use Rattle.std.proofs.lemmas.List.{take_all}
use Rattle.hp_base.specs.HeldRows.{rows_in}
use Rattle.hp_base.proofs.HeldRunLemmas.{gap_behind}
use Rattle.hp_base.proofs.held_rows.taking.end_of.Goals as goal

pub loop-gaps-init : goal.loop-gaps-init
loop-gaps-init c = ap rows_in (take_all (length c.args.runs.now - 0) c.args.runs.now (omega arith))

pub loop-gaps-preserved : goal.loop-gaps-preserved
loop-gaps-preserved c =
    let runs = c.args.runs.now in
    let gaps = c.loop-gaps.gaps in
    let n : ℕ = length runs - gaps - 1 in
    let less : length runs - (gaps + 1) ≡ n = omega arith in
    let more : suc n ≡ length runs - gaps = omega (arith, c.loop-gaps-test.true) in
    ap (λ k. rows_in (take k runs)) less
    ∙ (gap_behind runs n _ (omega (arith, c.loop-gaps-test.true)) (ltb-false _ _ (sym c.if-has_rows.ensures))
    ∙ (ap (λ k. rows_in (take k runs)) more ∙ c.loop-gaps.invariant))
