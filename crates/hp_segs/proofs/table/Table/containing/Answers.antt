-- The list that contains the address, and the row at its slot there.
use Rattle.std.proofs.Common.{◌≡◌, ◌^◌, ◌∙◌, Some, IsTrue, ap, sym, arith, length, true}
use Rattle.std.specs.List.{slice_get}
use Rattle.std.specs.Option.{option_map}
use Rattle.std.proofs.lemmas.Option.{slice_get_within}
use Rattle.hp_log.specs.Log.{table_of}
use Rattle.hp_segs.specs.SegsView.{rows_in}
use Rattle.hp_segs.specs.Table.{TableView}
use Rattle.hp_segs.specs.TableLayout.{list_contains}
use Rattle.hp_segs.specs.declared.row_state.Segment.{Segment}
use Rattle.hp_segs.proofs.RowTables.KeptSlots.{rows_kept}
use Rattle.hp_segs.proofs.SlotFacts.ListsLemmas.{length_lists_from}
use Rattle.hp_segs.proofs.SlotFacts.SlotRows.{containing_is, none_contains, read_is, slot_small, some_and}
use Rattle.hp_segs.proofs.table.Table.containing.Goals as goal

pub returns-in_default : goal.returns-in_default
returns-in_default c =
    let off = rw c.as_slice.ensures at c.in_default.ensures.none in
    rw (← c.self.view_is, rows_kept c.self.inside.kept.items (table_of c.self.inside.log.items))
    (sym (none_contains c.self.invariant.laid c.args.addr off))

pub overflow_sub-slot : goal.overflow_sub-slot
overflow_sub-slot c =
    let found =
    some_and (slice_get c.as_slice.result.now c.in-Some.list) (λ info. IsTrue (list_contains c.args.addr info)) c.in-Some.ensures.some in
    let here : slice_get c.self.inside.lists c.in-Some.list ≡ Some found.one =
    ap (λ l. slice_get l c.in-Some.list) (sym c.as_slice.ensures) ∙ found.is in
    let info = read_is c.self.inside.lists c.in-Some.list c.list-info.result.now found.one c.list-info.ensures here in
    let its : slice_get c.self.inside.lists c.in-Some.list ≡ Some c.list-info.result.now = here ∙ ap Some (sym info) in
    let inside : list_contains c.args.addr c.list-info.result.now ≡ true = ap (list_contains c.args.addr) info ∙ found.has in
    let small = slot_small c.self.invariant.laid c.args.addr c.in-Some.list c.list-info.result.now its inside in
    small.0

pub nonzero_div-slot : goal.nonzero_div-slot
nonzero_div-slot c =
    let found =
    some_and (slice_get c.as_slice.result.now c.in-Some.list) (λ info. IsTrue (list_contains c.args.addr info)) c.in-Some.ensures.some in
    let here : slice_get c.self.inside.lists c.in-Some.list ≡ Some found.one =
    ap (λ l. slice_get l c.in-Some.list) (sym c.as_slice.ensures) ∙ found.is in
    let info = read_is c.self.inside.lists c.in-Some.list c.list-info.result.now found.one c.list-info.ensures here in
    let its : slice_get c.self.inside.lists c.in-Some.list ≡ Some c.list-info.result.now = here ∙ ap Some (sym info) in
    let inside : list_contains c.args.addr c.list-info.result.now ≡ true = ap (list_contains c.args.addr) info ∙ found.has in
    let small = slot_small c.self.invariant.laid c.args.addr c.in-Some.list c.list-info.result.now its inside in
    small.1

pub overflow_cast-list : goal.overflow_cast-list
overflow_cast-list c =
    let found =
    some_and (slice_get c.as_slice.result.now c.in-Some.list) (λ info. IsTrue (list_contains c.args.addr info)) c.in-Some.ensures.some in
    omega (
      arith,
      slice_get_within c.as_slice.result.now c.in-Some.list found.one found.is,
      ap length c.as_slice.ensures,
      ap length c.self.invariant.laid.its_lists,
      length_lists_from (2 ^ 32) c.self.inside.pools.items,
      c.self.invariant.laid.table.limits.few,
    )

pub overflow_cast-slot : goal.overflow_cast-slot
overflow_cast-slot c =
    let found =
    some_and (slice_get c.as_slice.result.now c.in-Some.list) (λ info. IsTrue (list_contains c.args.addr info)) c.in-Some.ensures.some in
    let here : slice_get c.self.inside.lists c.in-Some.list ≡ Some found.one =
    ap (λ l. slice_get l c.in-Some.list) (sym c.as_slice.ensures) ∙ found.is in
    let info = read_is c.self.inside.lists c.in-Some.list c.list-info.result.now found.one c.list-info.ensures here in
    let its : slice_get c.self.inside.lists c.in-Some.list ≡ Some c.list-info.result.now = here ∙ ap Some (sym info) in
    let inside : list_contains c.args.addr c.list-info.result.now ≡ true = ap (list_contains c.args.addr) info ∙ found.has in
    let small = slot_small c.self.invariant.laid c.args.addr c.in-Some.list c.list-info.result.now its inside in
    omega (arith, small.2)

pub returns-in-Some-at : goal.returns-in-Some-at
returns-in-Some-at c =
    let found =
    some_and (slice_get c.as_slice.result.now c.in-Some.list) (λ info. IsTrue (list_contains c.args.addr info)) c.in-Some.ensures.some in
    let here : slice_get c.self.inside.lists c.in-Some.list ≡ Some found.one =
    ap (λ l. slice_get l c.in-Some.list) (sym c.as_slice.ensures) ∙ found.is in
    let info = read_is c.self.inside.lists c.in-Some.list c.list-info.result.now found.one c.list-info.ensures here in
    let its : slice_get c.self.inside.lists c.in-Some.list ≡ Some c.list-info.result.now = here ∙ ap Some (sym info) in
    let inside : list_contains c.args.addr c.list-info.result.now ≡ true = ap (list_contains c.args.addr) info ∙ found.has in
    let rows : rows_in c.args.self.now.segments ≡ table_of c.self.inside.log.items =
    ap (λ (t : TableView). rows_in t.segments) (sym c.self.view_is) ∙ rows_kept c.self.inside.kept.items (table_of c.self.inside.log.items) in
    sym
    (containing_is c.self.invariant.laid c.args.self.now.segments c.args.addr c.in-Some.list c.list-info.result.now rows its inside
    ∙ ap (option_map (λ (segment : Segment). segment.row)) (sym c.at.ensures ∙ c.in-Some-at.is))

pub returns-in-None : goal.returns-in-None
returns-in-None c =
    let found =
    some_and (slice_get c.as_slice.result.now c.in-Some.list) (λ info. IsTrue (list_contains c.args.addr info)) c.in-Some.ensures.some in
    let here : slice_get c.self.inside.lists c.in-Some.list ≡ Some found.one =
    ap (λ l. slice_get l c.in-Some.list) (sym c.as_slice.ensures) ∙ found.is in
    let info = read_is c.self.inside.lists c.in-Some.list c.list-info.result.now found.one c.list-info.ensures here in
    let its : slice_get c.self.inside.lists c.in-Some.list ≡ Some c.list-info.result.now = here ∙ ap Some (sym info) in
    let inside : list_contains c.args.addr c.list-info.result.now ≡ true = ap (list_contains c.args.addr) info ∙ found.has in
    let rows : rows_in c.args.self.now.segments ≡ table_of c.self.inside.log.items =
    ap (λ (t : TableView). rows_in t.segments) (sym c.self.view_is) ∙ rows_kept c.self.inside.kept.items (table_of c.self.inside.log.items) in
    sym
    (containing_is c.self.invariant.laid c.args.self.now.segments c.args.addr c.in-Some.list c.list-info.result.now rows its inside
    ∙ ap (option_map (λ (segment : Segment). segment.row)) (sym c.at.ensures ∙ c.in-None.is))
