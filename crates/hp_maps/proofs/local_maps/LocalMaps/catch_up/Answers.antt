-- What goes is told, and then what came.
use Rattle.std.proofs.Common.{◌∙◌, List, ap, subst, sym}
use Rattle.hp_base.specs.declared.row.Row.{Row}
use Rattle.hp_maps.specs.Catching.{CanCatchUp, newer}
use Rattle.hp_maps.specs.MapsView.{MapsView, calls_of}
use Rattle.hp_maps.specs.RowsView.{HaveOwnSlots}
use Rattle.hp_maps.specs.Unmapping.{AreHeld}
use Rattle.hp_maps.proofs.SlotLemmas.{own_slots}
use Rattle.hp_maps.proofs.HeldLemmas.{all_held}
use Rattle.hp_maps.proofs.EventFacts.KnowLemmas.{known_caught}
use Rattle.hp_maps.proofs.EventFacts.TellLemmas.{caught_spare, caught_told}
use Rattle.hp_maps.proofs.local_maps.LocalMaps.catch_up.Goals as goal

pub tell_dropped-requires-clause-held : goal.tell_dropped-requires-clause-held
tell_dropped-requires-clause-held g c =
    subst (λ (rows : List Row). AreHeld (g.M.Mapper.held c.self.inside.mapper) rows) (sym c.as_slice.ensures)
    (all_held c.self.inside.rows.items (g.M.Mapper.held c.self.inside.mapper) c.self.invariant.mapped)

pub tell_dropped-requires-clause-once : goal.tell_dropped-requires-clause-once
tell_dropped-requires-clause-once g c =
    let can = subst (λ (maps : MapsView). CanCatchUp maps c.args.records.now c.args.to) (sym c.self.view_is) c.requires.can in
    subst HaveOwnSlots (sym c.as_slice.ensures)
    (own_slots c.args.records.now _ c.args.to c.self.inside.rows.items can.formed can.lags)

pub tell_caught-requires-clause-held : goal.tell_caught-requires-clause-held
tell_caught-requires-clause-held g c =
    subst (λ (rows : List Row). AreHeld (g.M.Mapper.held c.self-2.inside.mapper) rows) (sym c.as_slice-2.ensures)
    (all_held c.self-2.inside.rows.items (g.M.Mapper.held c.self-2.inside.mapper) c.self-2.invariant.mapped)

pub returns-clause-told : goal.returns-clause-told
returns-clause-told g c =
    caught_told c.args.self.now c.catch_up_untold-caught.new.self c.as_slice.result.now c.as_slice-2.result.now c.self.inside.calls c.self-2.inside.calls
    (newer c.args.records.now c.args.self.now.number c.args.to) _ c.catch_up_untold-caught.result _ _ _
    (c.as_slice.ensures ∙ ap (λ (maps : MapsView). maps.rows) c.self.view_is)
    (c.as_slice-2.ensures ∙ ap (λ (maps : MapsView). maps.rows) c.self-2.view_is)
    (c.self.invariant.counted ∙ ap calls_of c.self.view_is)
    (c.self-2.invariant.counted ∙ ap calls_of c.self-2.view_is)
    (ap (λ (maps : MapsView). newer c.args.records.now maps.number c.args.to) c.self.view_is)
    c.catch_up_untold-caught.ensures.rows c.catch_up_untold-caught.ensures.answered c.tell_dropped.ensures.told c.tell_caught.ensures.told

pub returns-clause-spare : goal.returns-clause-spare
returns-clause-spare g c =
    caught_spare c.args.self.now c.catch_up_untold-caught.new.self c.as_slice.result.now c.as_slice-2.result.now c.self.inside.calls c.self-2.inside.calls
    (newer c.args.records.now c.args.self.now.number c.args.to) _ c.catch_up_untold-caught.result _ _ _
    (c.as_slice.ensures ∙ ap (λ (maps : MapsView). maps.rows) c.self.view_is)
    (c.as_slice-2.ensures ∙ ap (λ (maps : MapsView). maps.rows) c.self-2.view_is)
    (c.self.invariant.counted ∙ ap calls_of c.self.view_is)
    (c.self-2.invariant.counted ∙ ap calls_of c.self-2.view_is)
    (ap (λ (maps : MapsView). newer c.args.records.now maps.number c.args.to) c.self.view_is)
    c.catch_up_untold-caught.ensures.rows c.catch_up_untold-caught.ensures.answered c.tell_dropped.ensures.spare c.tell_caught.ensures.spare

pub returns-clause-known : goal.returns-clause-known
returns-clause-known g c =
    known_caught c.args.self.now c.args.records.now c.args.to c.catch_up_untold-caught.result c.catch_up_untold-caught.new.self.rows _ _
    c.catch_up_untold-caught.ensures.rows (returns-clause-told g c)
