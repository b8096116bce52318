-- The first rows are adjacent, so they go as the first one does.
use Rattle.std.proofs.Common.{◌≤◌, ◌∙◌, List, ap, arith, length-take, subst}
use Rattle.hp_base.specs.Mapping.{AreAdjacent, without_rows}
use Rattle.hp_base.specs.declared.row.Row.{Row}
use Rattle.hp_maps.proofs.TogetherLemmas.{take_front}
use Rattle.hp_maps.proofs.row_list.dropping.unmap_at_once.Goals as goal

pub returns-clause-go : goal.returns-clause-go
returns-clause-go g c =
    let rows = c.args.rows.now in
    let n = c.unmap_first.result in
    let most = c.min-most.result in
    let few : n ≤ most = omega (arith, c.unmap_first.ensures.within, length-take most rows) in
    c.most_at_once.ensures n (omega (arith, few, c.min-most.ensures))
    (subst AreAdjacent (take_front n most rows few) c.unmap_first.ensures.adjacent)

pub returns-clause-held : goal.returns-clause-held
returns-clause-held g c =
    let rows = c.args.rows.now in
    let few : c.unmap_first.result ≤ c.min-most.result = omega (arith, c.unmap_first.ensures.within, length-take c.min-most.result rows) in
    c.unmap_first.ensures.held
    ∙ ap (λ (l : List Row). without_rows l (g.M.Mapper.held c.args.mapper.now)) (take_front c.unmap_first.result c.min-most.result rows few)
