-- The rows that stand together are all that go, or else those that are unmapped already are some of them.
use Rattle.std.proofs.Common.{◌≡◌, ◌+◌, ◌-◌, ◌++◌, ◌∙◌, List, ap, arith, drop, length, length-drop, subst, sym, take, true}
use Rattle.std.specs.List.{All}
use Rattle.hp_base.specs.Mapping.{owned, without_rows}
use Rattle.hp_base.specs.declared.row.Row.{Row}
use Rattle.hp_maps.specs.RowsView.{StandTogether, goes_with}
use Rattle.hp_maps.proofs.SlotLemmas.{others_held, others_stay}
use Rattle.hp_maps.proofs.TogetherLemmas.{lacks_gone, rest_is}
use Rattle.hp_maps.proofs.row_list.dropping.drop_from.Goals as goal

pub drop_each-requires : goal.drop_each-requires
drop_each-requires g c =
    let gone = c.unmap_together-gone in
    let read = c.as_slice.result.now in
    let rows = take gone.result (take (length read - c.args.at) (drop c.args.at read)) in
    lacks_gone c.args.run.now c.args.rows.now.items rows _ gone.ensures.go (gone.ensures.held ∙ ap (without_rows rows) c.requires.held)

pub returns-then-gone-run-clause-rows : goal.returns-then-gone-run-clause-rows
returns-then-gone-run-clause-rows g c =
    let rows = c.args.rows.now.items in
    let run = c.args.run.now in
    let at = c.args.at in
    let gone = c.unmap_together-gone in
    let rest = rest_is c.as_slice.result.now rows at c.as_slice.ensures in
    let part = ap (take gone.result) rest ∙ ap (λ n. take n (drop at rows)) c.if-gone-run.true in
    let together : StandTogether run rows at =
    record {
      within = omega (arith, c.if-gone-run.true, gone.ensures.within, ap length rest, length-drop at rows, c.requires.at);
      all = subst (All (λ row. goes_with run row ≡ true)) part gone.ensures.go;
    } in
    c.cut.ensures.items
    ∙ (ap (λ n. take at rows ++ drop (at + n) rows) c.if-gone-run.true ∙ sym (others_stay run rows at together c.requires.once))

pub returns-then-gone-run-clause-held : goal.returns-then-gone-run-clause-held
returns-then-gone-run-clause-held g c =
    let rows = c.args.rows.now.items in
    let run = c.args.run.now in
    let at = c.args.at in
    let gone = c.unmap_together-gone in
    let rest = rest_is c.as_slice.result.now rows at c.as_slice.ensures in
    let part = ap (take gone.result) rest ∙ ap (λ n. take n (drop at rows)) c.if-gone-run.true in
    let together : StandTogether run rows at =
    record {
      within = omega (arith, c.if-gone-run.true, gone.ensures.within, ap length rest, length-drop at rows, c.requires.at);
      all = subst (All (λ row. goes_with run row ≡ true)) part gone.ensures.go;
    } in
    others_held run rows at together c.requires.once _
    (gone.ensures.held
    ∙ (ap (λ (l : List Row). without_rows l (g.M.Mapper.held c.args.mapper.now)) part ∙ ap (without_rows (take run.count (drop at rows))) c.requires.held))
    ∙ ap owned (sym (c.cut.ensures.items ∙ ap (λ n. take at rows ++ drop (at + n) rows) c.if-gone-run.true))
