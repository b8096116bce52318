-- A list that is not there has no row, nor has a slot behind its list; the mask says which of the others have one.
use Rattle.std.proofs.Common.{◌≡◌, ◌∙◌, Some, None, ap, sym, arith, length}
use Rattle.std.specs.List.{slice_get}
use Rattle.std.proofs.lemmas.Bool.{ltb-false, ltb-true}
use Rattle.std.proofs.lemmas.Option.{slice_get_past}
use Rattle.hp_log.specs.Log.{table_of}
use Rattle.hp_segs.proofs.RowTables.KeptSlots.{rows_kept}
use Rattle.hp_segs.proofs.QueryLemmas.{masks_long}
use Rattle.hp_segs.proofs.SlotFacts.SlotRows.{mask_long, mask_set, no_list, no_slot, read_at}
use Rattle.hp_segs.proofs.table.Table.has_row.Goals as goal

pub returns-in_default : goal.returns-in_default
returns-in_default c =
    let past = ltb-false c.args.list (length c.as_slice.result.now) (sym c.in_default.ensures.lookup.0) in
    let none : slice_get c.self.inside.lists c.args.list ≡ None =
    ap (λ l. slice_get l c.args.list) (sym c.as_slice.ensures) ∙ slice_get_past c.as_slice.result.now c.args.list past in
    rw (← c.self.view_is, rows_kept c.self.inside.kept.items (table_of c.self.inside.log.items))
    (sym (no_list c.self.invariant.laid c.args.list c.args.slot none))

pub returns-then-slot-info : goal.returns-then-slot-info
returns-then-slot-info c =
    let within = ltb-true c.args.list (length c.as_slice.result.now) (sym c.in-Some.ensures.lookup.0) in
    let here : slice_get c.self.inside.lists c.args.list ≡ Some c.in-Some.info.now =
    ap (λ l. slice_get l c.args.list) (sym c.as_slice.ensures)
    ∙ read_at c.as_slice.result.now c.args.list c.in-Some.info.now _ within c.in-Some.ensures.lookup.1 in
    rw (← c.self.view_is, rows_kept c.self.inside.kept.items (table_of c.self.inside.log.items))
    (sym (no_slot c.self.invariant.laid c.args.list c.args.slot c.in-Some.info.now here c.if-slot-info.true))

pub index-requires : goal.index-requires
index-requires c =
    let within = ltb-true c.args.list (length c.as_slice.result.now) (sym c.in-Some.ensures.lookup.0) in
    omega (
      arith,
      within,
      ap length c.as_slice.ensures,
      masks_long c.self.invariant.laid,
      ap length c.self.invariant.laid.its_lists,
      c.self.inside.masks.ok,
    )

pub is_set-requires : goal.is_set-requires
is_set-requires c =
    let within = ltb-true c.args.list (length c.as_slice.result.now) (sym c.in-Some.ensures.lookup.0) in
    let here : slice_get c.self.inside.lists c.args.list ≡ Some c.in-Some.info.now =
    ap (λ l. slice_get l c.args.list) (sym c.as_slice.ensures)
    ∙ read_at c.as_slice.result.now c.args.list c.in-Some.info.now _ within c.in-Some.ensures.lookup.1 in
    let long = mask_long c.self.invariant.laid c.args.list c.in-Some.info.now c.index.result.now here c.index.ensures in
    omega (arith, long, c.if-slot-info.false)

pub returns : goal.returns
returns c =
    let within = ltb-true c.args.list (length c.as_slice.result.now) (sym c.in-Some.ensures.lookup.0) in
    let here : slice_get c.self.inside.lists c.args.list ≡ Some c.in-Some.info.now =
    ap (λ l. slice_get l c.args.list) (sym c.as_slice.ensures)
    ∙ read_at c.as_slice.result.now c.args.list c.in-Some.info.now _ within c.in-Some.ensures.lookup.1 in
    rw (← c.self.view_is, rows_kept c.self.inside.kept.items (table_of c.self.inside.log.items))
    (mask_set c.self.invariant.laid c.args.list c.args.slot c.in-Some.info.now c.index.result.now c.is_set.result here c.if-slot-info.false
    c.index.ensures c.is_set.ensures.0 c.is_set.ensures.1)
