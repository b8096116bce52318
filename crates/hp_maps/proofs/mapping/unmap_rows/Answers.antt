-- A row is unmapped, and as many after it as go at once.
use Rattle.std.proofs.Common.{◌≡◌, ◌∙◌, ◌+◌, List, ap, arith, length, length-drop, sym, take}
use Rattle.std.proofs.lemmas.List.{drop_all, take_rest}
use Rattle.hp_base.specs.Mapping.{without_rows}
use Rattle.hp_base.specs.declared.row.Row.{Row}
use Rattle.hp_maps.proofs.MapLemmas.{unmapped_first}
use Rattle.hp_maps.proofs.mapping.unmap_rows.Goals as goal

pub loop-at-preserved : goal.loop-at-preserved
loop-at-preserved g c =
    let rows = c.args.rows.now in
    let at = c.loop-at.at in
    let keeps = c.loop-at.invariant in
    let n = c.unmap_first-at.result in
    let rest = take_rest rows (at + 1) in
    record {
      within = omega (arith, c.loop-at-test.true, c.unmap_first-at.ensures.within, ap length rest, length-drop (at + 1) rows);
      held =
          unmapped_first rows at n _ _ _ _ c.loop-at-test.true c.unmap.ensures.held
          (c.unmap_first-at.ensures.held ∙ ap (λ (l : List Row). without_rows (take n l) (g.M.Mapper.held c.unmap.new.self)) rest)
          ∙ keeps.held;
      capacity = c.unmap_first-at.ensures.capacity ∙ (c.unmap.ensures.capacity ∙ keeps.capacity);
      answers = c.unmap_first-at.ensures.answers ∙ (c.unmap.ensures.answers ∙ keeps.answers);
      faults = c.unmap_first-at.ensures.faults ∙ (c.unmap.ensures.faults ∙ keeps.faults);
      may_fail = c.unmap_first-at.ensures.may_fail ∙ (c.unmap.ensures.may_fail ∙ keeps.may_fail);
    }

pub returns-clause-held : goal.returns-clause-held
returns-clause-held g c =
    ap (λ gone. without_rows gone (g.M.Mapper.held c.loop-at.mapper)) (sym (drop_all c.loop-at.at c.args.rows.now (omega arith))) ∙ c.loop-at.invariant.held
