-- One row more, and as many after it as go at once.
use Rattle.std.proofs.Common.{◌≡◌, ◌∙◌, ◌+◌, ◌-◌, ◌<◌, ◌≤◌, List, ap, arith, drop, length, length-take, subst, sym, true}
use Rattle.std.specs.List.{All}
use Rattle.hp_base.specs.Mapping.{without_rows}
use Rattle.hp_base.specs.declared.row.Row.{Row}
use Rattle.hp_maps.specs.RowsView.{goes_with}
use Rattle.hp_maps.proofs.MapLemmas.{no_row}
use Rattle.hp_maps.proofs.TogetherLemmas.{go_more, go_one_more, take_front, unmapped_more, unmapped_one_more}
use Rattle.hp_maps.proofs.row_list.dropping.unmap_together.Goals as goal

pub loop-gone-preserved : goal.loop-gone-preserved
loop-gone-preserved g c =
    let rows = c.args.rows.now in
    let at = c.loop-gone.gone in
    let keeps = c.loop-gone.invariant in
    let n = c.unmap_at_once-gone.result in
    let more = c.unmap_at_once-gone.ensures in
    let left = c.min-most.result - (at + 1) in
    let goes = sym c.goes_with.ensures ∙ c.if-not-goes_with.false in
    let few : n ≤ left = omega (arith, more.within, length-take left (drop (at + 1) rows)) in
    let front = take_front n left (drop (at + 1) rows) few in
    let inside : at < length rows = omega (arith, c.loop-gone-test.true, c.min-most.ensures) in
    record {
      within = omega (arith, more.within, length-take left (drop (at + 1) rows), c.loop-gone-test.true, c.min-most.ensures);
      go =
          go_more (goes_with c.args.run.now) rows (at + 1) n (go_one_more (goes_with c.args.run.now) rows at no_row inside goes keeps.go)
          (subst (All (λ row. goes_with c.args.run.now row ≡ true)) front more.go);
      held =
          unmapped_more rows (at + 1) n _ _ _ (unmapped_one_more rows at no_row _ _ _ inside keeps.held c.unmap.ensures.held)
          (more.held ∙ ap (λ (l : List Row). without_rows l (g.M.Mapper.held c.unmap.new.self)) front);
      capacity = more.capacity ∙ (c.unmap.ensures.capacity ∙ keeps.capacity);
      answers = more.answers ∙ (c.unmap.ensures.answers ∙ keeps.answers);
      faults = more.faults ∙ (c.unmap.ensures.faults ∙ keeps.faults);
      may_fail = more.may_fail ∙ (c.unmap.ensures.may_fail ∙ keeps.may_fail);
    }
