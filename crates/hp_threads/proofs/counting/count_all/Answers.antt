-- One pass more meets the pens.
use Rattle.std.proofs.Common.{◌≡◌, ◌∙◌, ◌<◌, List, [], length, refl, sym, subst, vec_len, arith}
use Rattle.std.specs.List.{All}
use Rattle.std.proofs.lemmas.List.Elements.{All-drop, All-nil}
use Rattle.std.proofs.lemmas.Option.{slice_get_read}
use Rattle.atomic_table.specs.Seated.{TableId}
use Rattle.hp_stats.specs.StatViews as stats
use Rattle.hp_stats.specs.StatViews.{PenView}
use Rattle.hp_threads.specs.Counting.{WerePublished}
use Rattle.hp_threads.proofs.Countings.{none_left}
use Rattle.hp_threads.proofs.Meetings.{all_with}
use Rattle.hp_threads.proofs.counting.count_all.Goals as goal

pub loop-pens-preserved : goal.loop-pens-preserved
loop-pens-preserved g c =
    let was = c.loop-pens.invariant in
    let first : List PenView = c.args.pens.items in
    let cells : List TableId = c.args.cells.now in
    let pass : stats.PassView = c.remove.result in
    let left : List stats.PassView = c.loop-pens.passes.items in
    let left_some : 0 < vec_len c.loop-pens.passes = grind (arith, c.loop-pens-test.ensures) in
    let some : 0 < length left = omega (arith, left_some, c.loop-pens.passes.ok.0) in
    let met : WerePublished first pass = subst (λ (pens : List PenView). WerePublished pens pass) was.pens c.meet_pens.ensures.published in
    record {
      pens = c.meet_pens.ensures.pens ∙ was.pens;
      cells = subst (All (λ (one : stats.PassView). one.cells ≡ cells)) (sym c.remove.ensures.items)
          (All-drop (λ (one : stats.PassView). one.cells ≡ cells) 1 left was.cells);
      met = λ rest.
          was.met
          (all_with (WerePublished first) left 0 pass (slice_get_read left (length left) 0 pass refl some c.remove.ensures.value) met
          (subst (All (WerePublished first)) c.remove.ensures.items rest));
    }

pub returns : goal.returns
returns g c =
    let first : List PenView = c.args.pens.items in
    let none : vec_len c.loop-pens.passes ≡ 0 = grind (arith, c.loop-pens-test.ensures) in
    let empty : c.loop-pens.passes.items ≡ [] = none_left c.loop-pens.passes.items (omega (arith, none, c.loop-pens.passes.ok.0)) in
    c.loop-pens.invariant.met (subst (All (WerePublished first)) (sym empty) (All-nil (WerePublished first)))
