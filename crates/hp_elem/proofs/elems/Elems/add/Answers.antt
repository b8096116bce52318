use Rattle.std.proofs.Common.{◌≡◌, ℕ, ◌-◌, ◌<◌, ◌++◌, ◌∷◌, None, Option, List, length, nat_eq, nat_lt, refl, sym, ap, ◌∙◌, subst, arith}
use Rattle.std.specs.HashMap.{get, spare}
use Rattle.std.specs.Vec.{vec_capacity}
use Rattle.hp_base.specs.declared.span.Span.{Span}
use Rattle.hp_chain.specs.Chain.{first_key}
use Rattle.hp_elem.specs.Items.{Items, HasKey, end_of, after_add, before}
use Rattle.hp_elem.specs.Order.{FitsBeside}
use Rattle.hp_elem.specs.View.{ElemsView}
use Rattle.hp_elem.specs.Index.{IsIndexed, gap_starts, reach}
use Rattle.hp_elem.specs.Gaps.{SplitsAt, IsCutAt, at_first}
use Rattle.hp_elem.specs.Tags.{IsNoted, tag_number, with_entry}
use Rattle.hp_elem.proofs.NotedLemmas.{noted_entry, number-added}
use Rattle.hp_elem.proofs.GapLemmas.{gaps_within}
use Rattle.hp_elem.proofs.AddLemmas.{added_cut, added_place, added_next, added_has, added_list, added_before, added_starts, added_shut, sound_add}
use Rattle.hp_elem.proofs.IndexLemmas.{IsSound}
use Rattle.hp_elem.proofs.elems.Elems.add.Goals as goal

fits_in : (v : ElemsView) (items : Items) (stamps spare_count key_end : ℕ) (span : Span) → (record { items = items; stamps = stamps; spare = spare_count; key_end = key_end }) ≡ v
    → FitsBeside span v.items → FitsBeside span items
fits_in v items stamps spare_count key_end span is fits = subst (λ (w : ElemsView). FitsBeside span w.items) (sym is) fits

module _ (items : Items) (key_end : ℕ) (table : ℕ → Option ℕ) (gaps slice slice_2 : List ℕ) (span : Span) (indexed : IsIndexed items key_end table gaps) (fits : FitsBeside span items)
    (place : ℕ) (next : Option ℕ) (slice_is : slice ≡ gaps) (slice_2_is : slice_2 ≡ gaps) (splits : SplitsAt slice span.addr place)
    (finds : (low high : List ℕ) → IsCutAt slice_2 low high place → next ≡ at_first table high) where
  place_splits : SplitsAt gaps span.addr place
  place_splits = subst (λ (gs : List ℕ). SplitsAt gs span.addr place) slice_is splits

  next_is : next ≡ first_key (added_cut items key_end table gaps span indexed fits).high None
  next_is =
      let cut = added_cut items key_end table gaps span indexed fits in
      let placed = added_place items key_end table gaps span indexed fits place place_splits in
      finds (gap_starts 0 cut.low) (gap_starts (reach 0 cut.low) cut.high) (record { is = slice_2_is ∙ placed.is; at = placed.at })
      ∙ added_next items key_end table gaps span indexed fits

  next_has : HasKey next items
  next_has = added_has items key_end table gaps span indexed fits next next_is

pub end_before-before-requires-clause-next : goal.end_before-before-requires-clause-next
end_before-before-requires-clause-next c =
    let items : Items = c.self.inside.chain.items in
    next_has items c.self.inside.chain.key_end (get nat_eq c.self.inside.starts) c.self.inside.gaps.items c.as_slice.result.now c.as_slice-2.result.now c.args.span c.self.invariant.0
    (fits_in c.args.self.now items c.self.inside.stamps c.self.inside.spare c.self.inside.chain.key_end c.args.span c.self.view_is c.requires.fits)
    c.place_of-place.result c.find_at-next.result c.as_slice.ensures.value c.as_slice-2.ensures.value c.place_of-place.ensures.splits c.find_at-next.ensures

pub insert-key-requires-clause-next : goal.insert-key-requires-clause-next
insert-key-requires-clause-next c =
    let items : Items = c.self.inside.chain.items in
    next_has items c.self.inside.chain.key_end (get nat_eq c.self.inside.starts) c.self.inside.gaps.items c.as_slice.result.now c.as_slice-2.result.now c.args.span c.self.invariant.0
    (fits_in c.args.self.now items c.self.inside.stamps c.self.inside.spare c.self.inside.chain.key_end c.args.span c.self.view_is c.requires.fits)
    c.place_of-place.result c.find_at-next.result c.as_slice.ensures.value c.as_slice-2.ensures.value c.place_of-place.ensures.splits c.find_at-next.ensures

pub open-requires-clause-within : goal.open-requires-clause-within
open-requires-clause-within c =
    let items : Items = c.self.inside.chain.items in
    let fits = fits_in c.args.self.now items c.self.inside.stamps c.self.inside.spare c.self.inside.chain.key_end c.args.span c.self.view_is c.requires.fits in
    let splits = subst (λ (gs : List ℕ). SplitsAt gs c.args.span.addr c.place_of-place.result) c.as_slice.ensures.value c.place_of-place.ensures.splits in
    let shut = added_shut items c.self.inside.chain.key_end (get nat_eq c.self.inside.starts) c.self.inside.gaps.items c.args.span c.self.invariant.0 fits c.close.new.gaps.items c.place_of-place.result
    (end_of c.args.span) refl splits c.close.ensures.gaps in
    omega (arith, shut.1, c.close.new.gaps.ok.0)

pub open-requires-clause-room : goal.open-requires-clause-room
open-requires-clause-room c =
    let items : Items = c.self.inside.chain.items in
    let left : 0 < c.self.inside.spare = subst (λ (v : ElemsView). 0 < v.spare) (sym c.self.view_is) c.requires.spare in
    omega (arith, left, c.close.ensures.len, c.close.ensures.capacity, c.self.inside.gaps.ok.0, ap (λ (gs : List ℕ). length gs) c.self.invariant.0.gapped, gaps_within 0 items, c.self.invariant.1.gaps_fit)

listed : (items news : Items) (key_end : ℕ) (table : ℕ → Option ℕ) (gaps : List ℕ) (span : Span) (indexed : IsIndexed items key_end table gaps) (fits : FitsBeside span items)
    (key : ℕ) (next : Option ℕ) → next ≡ first_key (added_cut items key_end table gaps span indexed fits).high None → news ≡ before next (record { key = key; value = span }) items
    → news ≡ (added_cut items key_end table gaps span indexed fits).low ++ (record { key = key; value = span }) ∷ (added_cut items key_end table gaps span indexed fits).high
listed items news key_end table gaps span indexed fits key next is inserted = inserted ∙ added_before items key_end table gaps span indexed fits key next is

list_is : (c : goal.After-self-1)
    → (IsSound c.insert-key.new.self.items c.insert-key.new.self.key_end (get nat_eq c.put.new.starts) c.open.new.gaps.items (c.self.inside.spare - 1) (spare c.put.new.starts) (vec_capacity c.open.new.gaps))
    × (c.insert-key.new.self.items ≡ after_add (record { key = c.insert-key.result; value = c.args.span }) c.self.inside.chain.items)
list_is c =
    let items : Items = c.self.inside.chain.items in
    let table : ℕ → Option ℕ = get nat_eq c.self.inside.starts in
    let key_end : ℕ = c.self.inside.chain.key_end in
    let gaps : List ℕ = c.self.inside.gaps.items in
    let span : Span = c.args.span in
    let indexed = c.self.invariant.0 in
    let key : ℕ = c.insert-key.result in
    let left : 0 < c.self.inside.spare = subst (λ (v : ElemsView). 0 < v.spare) (sym c.self.view_is) c.requires.spare in
    let fits = fits_in c.args.self.now items c.self.inside.stamps c.self.inside.spare key_end span c.self.view_is c.requires.fits in
    let cut = added_cut items key_end table gaps span indexed fits in
    let splits = subst (λ (gs : List ℕ). SplitsAt gs span.addr c.place_of-place.result) c.as_slice.ensures.value c.place_of-place.ensures.splits in
    let next = next_is items key_end table gaps c.as_slice.result.now c.as_slice-2.result.now span indexed fits c.place_of-place.result c.find_at-next.result
    c.as_slice.ensures.value c.as_slice-2.ensures.value c.place_of-place.ensures.splits c.find_at-next.ensures in
    let list = listed items c.insert-key.new.self.items key_end table gaps span indexed fits key c.find_at-next.result next c.insert-key.ensures.items in
    let reached : c.end_before-before.result ≡ reach 0 cut.low = c.end_before-before.ensures cut.low cut.high cut.is next in
    let opened = added_starts items key_end table gaps span indexed fits c.close.new.gaps.items c.open.new.gaps.items c.place_of-place.result (end_of span) c.end_before-before.result
    (nat_lt c.end_before-before.result span.addr) refl reached refl splits c.close.ensures.gaps c.open.ensures.gaps in
    let capacity : vec_capacity c.open.new.gaps ≡ vec_capacity c.self.inside.gaps = c.open.ensures.capacity ∙ c.close.ensures.capacity in (
      subst (λ (n : ℕ). IsSound c.insert-key.new.self.items c.insert-key.new.self.key_end (get nat_eq c.put.new.starts) c.open.new.gaps.items (c.self.inside.spare - 1) (spare c.put.new.starts) n) (sym capacity)
          (sound_add items key_end table gaps span indexed fits c.insert-key.new.self.items c.insert-key.new.self.key_end (get nat_eq c.put.new.starts) c.open.new.gaps.items
          c.self.inside.spare (spare c.self.inside.starts) (spare c.put.new.starts) (vec_capacity c.self.inside.gaps) key
          c.self.invariant.1 left list c.insert-key.ensures.apart c.insert-key.ensures.key_end c.insert-key.ensures.within c.put.ensures.table c.put.ensures.room opened),
      list ∙ sym (added_list items key_end table gaps span indexed fits key),
    )

noted : (c : goal.After-self-1) → IsNoted c.insert-key.new.self.items c.insert-key.new.self.key_end c.set.new.self
noted c =
    let items : Items = c.self.inside.chain.items in
    let table : ℕ → Option ℕ = get nat_eq c.self.inside.starts in
    let key_end : ℕ = c.self.inside.chain.key_end in
    let gaps : List ℕ = c.self.inside.gaps.items in
    let span : Span = c.args.span in
    let indexed = c.self.invariant.0 in
    let fits = fits_in c.args.self.now items c.self.inside.stamps c.self.inside.spare key_end span c.self.view_is c.requires.fits in
    let cut = added_cut items key_end table gaps span indexed fits in
    let next = next_is items key_end table gaps c.as_slice.result.now c.as_slice-2.result.now span indexed fits c.place_of-place.result c.find_at-next.result
    c.as_slice.ensures.value c.as_slice-2.ensures.value c.place_of-place.ensures.splits c.find_at-next.ensures in
    let list = listed items c.insert-key.new.self.items key_end table gaps span indexed fits c.insert-key.result c.find_at-next.result next c.insert-key.ensures.items in
    noted_entry items c.insert-key.new.self.items key_end c.insert-key.new.self.key_end c.self.inside.tags c.set.new.self c.insert-key.result c.number_of.result c.self.invariant.2
    c.insert-key.ensures.key_end c.insert-key.ensures.within c.set.ensures.len c.set.ensures.number
    (number-added items indexed.ordered.apart c.insert-key.new.self.items cut.low cut.high (record { key = c.insert-key.result; value = span }) cut.is list c.insert-key.ensures.fresh
    ∙ ap (λ (n : Option ℕ). with_entry c.insert-key.result n (tag_number items)) (sym c.number_of.ensures))

pub invariant_of-self : goal.invariant_of-self
invariant_of-self c = let kept = (list_is c).0 in (kept.0, kept.1, noted c)

pub returns-clause-items : goal.returns-clause-items
returns-clause-items c = rw (← c.self.view_is) (list_is c).1

pub returns-clause-ordered : goal.returns-clause-ordered
returns-clause-ordered c = (list_is c).0.0.ordered
