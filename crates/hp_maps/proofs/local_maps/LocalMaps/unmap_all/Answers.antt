-- All rows are told by rising address and unmapped.
use Rattle.std.proofs.Common.{◌≡◌, ◌∙◌, true, List, ap, arith, length, subst, sym}
use Rattle.std.specs.List.{All, list_any}
use Rattle.std.proofs.lemmas.List.Elements.{All-nil}
use Rattle.std.proofs.lemmas.List.Sorted.{All-permutation, length_permutation}
use Rattle.hp_base.specs.Mapping.{AreApart, Held, IsWithin, is_row, owned, without_rows}
use Rattle.hp_base.specs.declared.event.EventKind.TheVariants.{Free}
use Rattle.hp_base.specs.declared.row.Row.{Row}
use Rattle.hp_maps.specs.Events.{IsToldByAddress, all_told, events_of}
use Rattle.hp_maps.specs.MapsView.{MapsView}
use Rattle.hp_maps.specs.Unmapping.{AreHeld}
use Rattle.hp_maps.proofs.HeldLemmas.{all_held}
use Rattle.hp_maps.proofs.EventFacts.KnowLemmas.{known_left}
use Rattle.hp_maps.proofs.LeaveLemmas.{all_unmapped, events_length}
use Rattle.hp_maps.proofs.local_maps.LocalMaps.unmap_all.Goals as goal

pub tell_rows-requires-clause-held : goal.tell_rows-requires-clause-held
tell_rows-requires-clause-held g c =
    let held = g.M.Mapper.held c.self.inside.mapper in
    subst (λ (rows : List Row). AreHeld held rows) (sym c.as_slice.ensures)
    (All-permutation (λ row. list_any (λ (one : Held). is_row one.row row) held ≡ true) c.self.inside.rows.items _ c.sort_by_address.ensures.same
    (all_held c.self.inside.rows.items held c.self.invariant.mapped))

pub tell_rows-requires-clause-near : goal.tell_rows-requires-clause-near
tell_rows-requires-clause-near g c =
    subst (All IsWithin) (sym c.as_slice.ensures)
    (All-permutation IsWithin c.self.inside.rows.items _ c.sort_by_address.ensures.same c.self.invariant.near)

pub tell_rows-requires-clause-spare : goal.tell_rows-requires-clause-spare
tell_rows-requires-clause-spare g c =
    omega (
      arith,
      c.requires.spare,
      events_length Free c.as_slice.result.now,
      ap length c.as_slice.ensures,
      length_permutation c.self.inside.rows.items _ c.sort_by_address.ensures.same,
      ap (λ (maps : MapsView). length maps.rows) c.self.view_is,
    )

pub invariant_of-self : goal.invariant_of-self
invariant_of-self g c = record {
  mapped =
      c.unmap_rows.ensures.held
      ∙ (ap (λ (rows : List Row). without_rows rows (g.M.Mapper.held c.self.inside.mapper)) c.as_slice-2.ensures
      ∙ (all_unmapped c.self.inside.rows.items _ _ c.sort_by_address.ensures.same c.self.invariant.mapped
      ∙ ap owned (sym c.clear.ensures.items)));
  counted = c.self.invariant.counted ∙ ap length (sym c.unmap_rows.ensures.answers);
  fits = omega (arith, c.self.invariant.fits, c.sort_by_address.ensures.memory, c.clear.ensures.memory);
  room = omega (arith, c.self.invariant.room, c.unmap_rows.ensures.capacity);
  holds = omega (arith, ap length c.clear.ensures.items);
  near = subst (All IsWithin) (sym c.clear.ensures.items) (All-nil IsWithin);
  apart = subst AreApart (sym c.clear.ensures.items) (λ addr. omega arith);
}

pub returns-clause-mapped : goal.returns-clause-mapped
returns-clause-mapped g c =
    c.unmap_rows.ensures.held
    ∙ (ap (λ (rows : List Row). without_rows rows (g.M.Mapper.held c.self.inside.mapper)) c.as_slice-2.ensures
    ∙ (all_unmapped c.self.inside.rows.items _ _ c.sort_by_address.ensures.same c.self.invariant.mapped
    ∙ ap owned (sym c.clear.ensures.items)))

pub returns-clause-told : goal.returns-clause-told
returns-clause-told g c =
    subst (λ (maps : MapsView). IsToldByAddress maps.rows (g.T.Tell.told c.args.tell.now) (g.T.Tell.told c.tell_rows.new.tell)) c.self.view_is
    (record {
      rising = c.sort_by_address.new.self.items;
      same = c.sort_by_address.ensures.same;
      sorted = c.sort_by_address.ensures.sorted;
      told = c.tell_rows.ensures.told ∙ ap (λ (rows : List Row). all_told (events_of Free rows) (g.T.Tell.told c.args.tell.now)) c.as_slice.ensures;
    })

pub returns-clause-spare : goal.returns-clause-spare
returns-clause-spare g c =
    omega (
      arith,
      c.tell_rows.ensures.spare,
      events_length Free c.as_slice.result.now,
      ap length c.as_slice.ensures,
      length_permutation c.self.inside.rows.items _ c.sort_by_address.ensures.same,
      ap (λ (maps : MapsView). length maps.rows) c.self.view_is,
    )

pub returns-clause-known : goal.returns-clause-known
returns-clause-known g c = λ records to.
    known_left c.args.self.now records to (g.T.Tell.told c.args.tell.now) (g.T.Tell.told c.tell_rows.new.tell) c.requires.no_chunk
    (returns-clause-told g c)
