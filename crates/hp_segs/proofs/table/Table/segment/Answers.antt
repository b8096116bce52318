-- The row at the slot, which is read off its list and what is kept for the slot.
use Rattle.std.proofs.Common.{◌≡◌, ◌*◌, ◌∙◌, Some, slice_index_or, ap, arith, length}
use Rattle.std.specs.Option.{option_map}
use Rattle.std.proofs.lemmas.List.{get_or_default}
use Rattle.std.proofs.lemmas.Option.{slice_get_within}
use Rattle.hp_log.specs.Log.{table_of}
use Rattle.hp_log.specs.Rows.{at_slot}
use Rattle.hp_segs.specs.Slots.{SlotsView, generation_kept, kept_segment, no_slots, slots_in, state_kept}
use Rattle.hp_segs.specs.declared.list_info.ListInfo.{ListInfo}
use Rattle.hp_segs.specs.declared.row_state.RowState.TheVariants.{Opened}
use Rattle.hp_segs.specs.declared.row_state.Segment.{Segment}
use Rattle.hp_segs.proofs.Finds.{find_mapped}
use Rattle.hp_segs.proofs.RowTables.KeptSlots.{rows_kept}
use Rattle.hp_segs.proofs.SlotFacts.SlotRows.{addr_fits, read_is, row_at_slot, same_segment}
use Rattle.hp_segs.proofs.table.Table.segment.Goals as goal

pub list-info-requires : goal.list-info-requires
list-info-requires c =
    let used = rw (← c.self.view_is, rows_kept c.self.inside.kept.items (table_of c.self.inside.log.items)) at c.requires.used in
    let row = row_at_slot c.self.invariant.laid c.self.inside.kept.items c.args.list c.args.slot c.self.invariant.slots used in
    omega (arith, slice_get_within c.self.inside.lists c.args.list row.info row.its_list)

pub index-kept-requires : goal.index-kept-requires
index-kept-requires c =
    let used = rw (← c.self.view_is, rows_kept c.self.inside.kept.items (table_of c.self.inside.log.items)) at c.requires.used in
    let row = row_at_slot c.self.invariant.laid c.self.inside.kept.items c.args.list c.args.slot c.self.invariant.slots used in
    omega (
      arith,
      slice_get_within c.self.inside.lists c.args.list row.info row.its_list,
      c.self.invariant.slots.long,
      c.self.inside.kept.ok,
    )

pub overflow_mul-result : goal.overflow_mul-result
overflow_mul-result c =
    let used = rw (← c.self.view_is, rows_kept c.self.inside.kept.items (table_of c.self.inside.log.items)) at c.requires.used in
    let row = row_at_slot c.self.invariant.laid c.self.inside.kept.items c.args.list c.args.slot c.self.invariant.slots used in
    let info = read_is c.self.inside.lists c.args.list c.list-info.result.now row.info c.list-info.ensures row.its_list in
    let product : c.from.result * c.list-info.result.now.page ≡ c.args.slot * row.info.page =
    ap (λ n. n * c.list-info.result.now.page) c.from.ensures ∙ ap (λ (i : ListInfo). c.args.slot * i.page) info in
    omega (arith, product, addr_fits c.self.invariant.laid c.args.list c.args.slot row.info row.its_list row.within)

pub overflow_add-result : goal.overflow_add-result
overflow_add-result c =
    let used = rw (← c.self.view_is, rows_kept c.self.inside.kept.items (table_of c.self.inside.log.items)) at c.requires.used in
    let row = row_at_slot c.self.invariant.laid c.self.inside.kept.items c.args.list c.args.slot c.self.invariant.slots used in
    let info = read_is c.self.inside.lists c.args.list c.list-info.result.now row.info c.list-info.ensures row.its_list in
    let product : c.from.result * c.list-info.result.now.page ≡ c.args.slot * row.info.page =
    ap (λ n. n * c.list-info.result.now.page) c.from.ensures ∙ ap (λ (i : ListInfo). c.args.slot * i.page) info in
    let base : c.list-info.result.now.base ≡ row.info.base = ap (λ (i : ListInfo). i.base) info in
    omega (arith, product, base, addr_fits c.self.invariant.laid c.args.list c.args.slot row.info row.its_list row.within)

pub generation-requires : goal.generation-requires
generation-requires c =
    let used = rw (← c.self.view_is, rows_kept c.self.inside.kept.items (table_of c.self.inside.log.items)) at c.requires.used in
    let row = row_at_slot c.self.invariant.laid c.self.inside.kept.items c.args.list c.args.slot c.self.invariant.slots used in
    let inside = slice_get_within c.self.inside.lists c.args.list row.info row.its_list in
    let its : c.index-kept.result.now ≡ slots_in c.self.inside.kept.items c.args.list =
    c.index-kept.ensures
    ∙ get_or_default c.self.inside.kept.items c.args.list c.index-kept.result.now no_slots (omega (arith, inside, c.self.invariant.slots.long)) in
    let long = ap (λ (s : SlotsView). length s.generations) its ∙ c.self.invariant.slots.generations c.args.list row.info row.its_list in
    omega (arith, long, row.within)

pub state-requires : goal.state-requires
state-requires c =
    let used = rw (← c.self.view_is, rows_kept c.self.inside.kept.items (table_of c.self.inside.log.items)) at c.requires.used in
    let row = row_at_slot c.self.invariant.laid c.self.inside.kept.items c.args.list c.args.slot c.self.invariant.slots used in
    let inside = slice_get_within c.self.inside.lists c.args.list row.info row.its_list in
    let its : c.index-kept.result.now ≡ slots_in c.self.inside.kept.items c.args.list =
    c.index-kept.ensures
    ∙ get_or_default c.self.inside.kept.items c.args.list c.index-kept.result.now no_slots (omega (arith, inside, c.self.invariant.slots.long)) in
    let long = ap (λ (s : SlotsView). length s.states) its ∙ c.self.invariant.slots.states c.args.list row.info row.its_list in
    omega (arith, long, row.within)

pub returns : goal.returns
returns c =
    let used = rw (← c.self.view_is, rows_kept c.self.inside.kept.items (table_of c.self.inside.log.items)) at c.requires.used in
    let row = row_at_slot c.self.invariant.laid c.self.inside.kept.items c.args.list c.args.slot c.self.invariant.slots used in
    let inside = slice_get_within c.self.inside.lists c.args.list row.info row.its_list in
    let info = read_is c.self.inside.lists c.args.list c.list-info.result.now row.info c.list-info.ensures row.its_list in
    let its : c.index-kept.result.now ≡ slots_in c.self.inside.kept.items c.args.list =
    c.index-kept.ensures
    ∙ get_or_default c.self.inside.kept.items c.args.list c.index-kept.result.now no_slots (omega (arith, inside, c.self.invariant.slots.long)) in
    let generation : c.generation.result ≡ generation_kept c.self.inside.kept.items c.args.list c.args.slot =
    c.generation.ensures ∙ ap (λ (s : SlotsView). slice_index_or s.generations c.args.slot 0) its in
    let state : c.state.result ≡ state_kept c.self.inside.kept.items c.args.list c.args.slot =
    c.state.ensures ∙ ap (λ (s : SlotsView). slice_index_or s.states c.args.slot Opened) its in
    rw (← c.self.view_is)
    (find_mapped (λ (segment : Segment). at_slot c.args.list c.args.slot segment.row) (kept_segment c.self.inside.kept.items) (table_of c.self.inside.log.items)
    ∙ (ap (option_map (kept_segment c.self.inside.kept.items)) row.found
    ∙ ap Some
    (ap (kept_segment c.self.inside.kept.items) row.its_row
    ∙ same_segment row.info c.list-info.result.now c.args.list c.args.slot c.from.result _ c.generation.result _ c.state.result info c.from.ensures
    generation state)))
