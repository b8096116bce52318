use Rattle.std.proofs.Common.{◌∙◌, ap}
use Rattle.std.proofs.lemmas.List.{drop_all, drop_more}
use Rattle.std.proofs.lemmas.Result.{on_ok_weaker}
use Rattle.hp_view.specs.declared.line.Line.{Line}
use Rattle.hp_view.specs.declared.line.Line.TheVariants as line
use Rattle.hp_view.specs.Asks.{after_ask, mark_of_ask}
use Rattle.hp_view.proofs.StepLemmas.{item_is, last_drawn, no_refusals, refusals_step}
use Rattle.hp_view.proofs.asks.draw_refusals.Goals as goal

pub loop-at-preserved : goal.loop-at-preserved
loop-at-preserved c =
    let lines = c.args.lines.now in
    let at = c.loop-at.at in
    let within = c.loop-at-test.true in
    let is = item_is lines at c.index-lines-at.result line.Other within c.index-lines-at.is in
    let is_too = item_is lines at c.index-lines-at-in-loop-at.result line.Other within c.index-lines-at-in-loop-at.is in
    refusals_step _ _ _ _ _ _ _ _ _ _ _ _ _ _ _ c.loop-at.invariant (drop_more lines at line.Other within)
    (c.mark_of_ask-next.ensures ∙ ap (λ (l : Line). mark_of_ask c.args.records at c.loop-at.after l) is) c.in_ok-draw_before.ensures c.mark_after-mark.ensures
    (c.after_ask-after.ensures ∙ ap (λ (l : Line). after_ask c.loop-at.after l) is_too)

pub returns : goal.returns
returns c =
    let none = no_refusals _ _ _ _ _ _ _ (drop_all c.loop-at.at c.args.lines.now c.loop-at-test.false) in
    on_ok_weaker c.draw_last.result (λ drawn. last_drawn _ _ _ _ _ c.loop-at.invariant none drawn) c.draw_last.ensures
