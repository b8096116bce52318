use Rattle.std.proofs.Common.{◌+◌, ◌++◌, ◌<◌, ◌∙◌, ap, sym, subst, ℕ, drop, get_or, length}
use Rattle.std.proofs.lemmas.List.{drop_all, drop_more}
use Rattle.std.proofs.lemmas.Result.{on_ok_weaker}
use Rattle.hp_view.specs.Bands.{drawn_unless, joins, mark_shapes, next_mark}
use Rattle.hp_view.specs.declared.line.Line.{Line}
use Rattle.hp_view.specs.declared.line.Line.TheVariants as line
use Rattle.hp_view.proofs.StepLemmas.{band_step, chosen, chosen_within, item_is, last_drawn, no_more}
use Rattle.hp_view.proofs.bands.draw_band.Goals as goal

pub loop-i-preserved : goal.loop-i-preserved
loop-i-preserved c =
    let elements = c.args.elements.now in
    let band = c.args.band in
    let at = c.loop-i.at in
    let i = c.loop-i.i in
    let mark = c.loop-i.mark in
    let joined = c.joins-joined.result in
    let first = get_or elements at line.Other in
    let next = get_or elements i line.Other in
    let within = c.loop-i-test.true in
    let known = c.loop-i.invariant.within in
    let first_is = item_is elements at c.index-elements-at.result line.Other known c.index-elements-at.is in
    let next_is = item_is elements i c.index-elements-i.result line.Other within c.index-elements-i.is in
    let first_again = item_is elements at c.index-elements-at-in-loop-i.result line.Other known c.index-elements-at-in-loop-i.is in
    let next_again = item_is elements i c.index-elements-i-in-loop-i.result line.Other within c.index-elements-i-in-loop-i.is in
    let joined_is =
    c.joins-joined.ensures
    ∙ (ap (λ (l : Line). joins l mark c.index-elements-i.result band.total) first_is ∙ ap (λ (l : Line). joins first mark l band.total) next_is) in
    let drawn = c.in_ok-draw_unless.ensures ∙ ap (λ (l : Line). c.loop-i.page ++ drawn_unless joined band l mark) first_again in
    let marked = c.next_mark-mark.ensures ∙ ap (λ (l : Line). next_mark joined mark l) next_again in
    let chose = ap (λ (k : ℕ). get_or elements k line.Other) c.next_first-at.ensures ∙ chosen joined elements at i line.Other in
    record {
      within = subst (λ (k : ℕ). k < length elements) (sym c.next_first-at.ensures) (chosen_within joined at i (length elements) known within);
      drawn =
          band_step band first _ mark _ joined (drop (i + 1) elements) (drop i elements) next _ _ _ c.loop-i.invariant.drawn
          (drop_more elements i line.Other within) joined_is drawn marked chose;
    }

pub returns : goal.returns
returns c =
    let elements = c.args.elements.now in
    let band = c.args.band in
    let mark = c.loop-i.mark in
    let none = no_more band (get_or elements c.loop-i.at line.Other) mark _ (drop_all c.loop-i.i elements c.loop-i-test.false) in
    let first_is = item_is elements c.loop-i.at c.index-elements-at-2.result line.Other c.loop-i.invariant.within c.index-elements-at-2.is in
    on_ok_weaker c.draw_mark.result
    (λ drawn. last_drawn _ _ _ _ _ c.loop-i.invariant.drawn none (drawn ∙ ap (λ (l : Line). c.loop-i.page ++ mark_shapes band l mark) first_is)) c.draw_mark.ensures
