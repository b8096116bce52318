-- Taking in the newer records, by what contracts see.
use Rattle.std.proofs.Common.{◌∙◌, ap, arith, subst, sym}
use Rattle.hp_maps.specs.Catching.{CanCatchUp}
use Rattle.hp_maps.specs.MapsView.{MapsView, chunk_rows}
use Rattle.hp_maps.proofs.CatchLemmas.{apart_after, can_take_in, chunks_after, lags_after, near_after, room_after, table_after_catching}
use Rattle.hp_maps.proofs.SlotLemmas.{own_slots}
use Rattle.hp_maps.proofs.local_maps.LocalMaps.catch_up_untold.Goals as goal

pub take_in-caught-requires-clause-can : goal.take_in-caught-requires-clause-can
take_in-caught-requires-clause-can g c =
    let can = subst (λ (maps : MapsView). CanCatchUp maps c.args.records.now c.args.to) (sym c.self.view_is) c.requires in
    can_take_in _ c.args.records.now c.args.to _ _ _ can c.self.invariant.apart (omega arith) c.self.invariant.room c.self.invariant.fits c.self.invariant.counted
    (own_slots c.args.records.now _ c.args.to c.self.inside.rows.items can.formed can.lags)

pub invariant_of-self : goal.invariant_of-self
invariant_of-self g c =
    let can = subst (λ (maps : MapsView). CanCatchUp maps c.args.records.now c.args.to) (sym c.self.view_is) c.requires in
    record {
      mapped = c.take_in-caught.ensures.holds;
      counted = c.take_in-caught.ensures.counted;
      fits = omega (arith, c.self.invariant.fits, c.take_in-caught.ensures.memory);
      room = omega (arith, c.self.invariant.room, c.take_in-caught.ensures.capacity);
      holds = room_after _ c.args.records.now c.args.to c.take_in-caught.result _ can c.take_in-caught.ensures.rows;
      near = near_after _ c.args.records.now c.args.to c.take_in-caught.result _ can c.self.invariant.near c.take_in-caught.ensures.rows;
      apart = apart_after _ c.args.records.now c.args.to c.take_in-caught.result _ can c.self.invariant.apart c.take_in-caught.ensures.rows;
    }

pub returns-clause-table : goal.returns-clause-table
returns-clause-table g c =
    let can = subst (λ (maps : MapsView). CanCatchUp maps c.args.records.now c.args.to) (sym c.self.view_is) c.requires in
    table_after_catching _ c.args.records.now c.args.to c.take_in-caught.result _ can c.take_in-caught.ensures.rows

pub returns-clause-lags : goal.returns-clause-lags
returns-clause-lags g c =
    let can = subst (λ (maps : MapsView). CanCatchUp maps c.args.records.now c.args.to) (sym c.self.view_is) c.requires in
    lags_after _ c.args.records.now c.args.to _ c.take_in-caught.result _ can c.take_in-caught.ensures.rows c.number_after-self-inside.ensures

pub returns-clause-chunks : goal.returns-clause-chunks
returns-clause-chunks g c =
    let can = subst (λ (maps : MapsView). CanCatchUp maps c.args.records.now c.args.to) (sym c.self.view_is) c.requires in
    chunks_after _ c.args.records.now c.args.to c.take_in-caught.result _ can c.take_in-caught.ensures.rows
    ∙ ap (λ (maps : MapsView). chunk_rows maps.rows) c.self.view_is
