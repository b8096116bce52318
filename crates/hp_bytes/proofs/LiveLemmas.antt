-- The live labels of a session: where their bytes are, and what they have once some were written.
use Rattle.std.proofs.Common.{◌≡◌, ℕ, ◌+◌, ◌-◌, ◌<◌, ◌≤◌, Bool, true, false, cond, List, length, take, drop, replicate, min, Option, Some, None, refl, sym, ap, subst, ◌∙◌, arith}
use Rattle.std.specs.Prelude.{nat_lt}
use Rattle.std.proofs.lemmas.Bool.{false≢true}
use Rattle.std.proofs.lemmas.List.{length-replicate}
use Rattle.std.proofs.lemmas.Option.{same_Some, none-some}
use Rattle.std.proofs.lemmas.Slice.Eq.{bytes_eq-Decides}
use Rattle.std.specs.FinMap as finite
use Rattle.std.specs.List.{AllByRecursion}
use Rattle.std.specs.Option.{option_map}
use Rattle.std.specs.Str.{bytes_eq}
use Rattle.hp_base.specs.declared.span.Span.{Span}
use Rattle.hp_heap.specs.PlainHeap.{PlainHeap, size_of_state}
use Rattle.hp_heap.specs.Tiling.{IsTiled}
use Rattle.hp_heap.specs.Joining.{busy_at}
use Rattle.hp_heap.specs.Step.{found}
use Rattle.hp_heap.proofs.RangeLemmas.{AllByRecursion-weaker}
use Rattle.hp_bytes.specs.StoreView.{StoreView}
use Rattle.hp_bytes.specs.Stores.{with_bytes, size_at, data_at, byte_fault, IsData}
use Rattle.hp_bytes.specs.Written.{written_over}
use Rattle.hp_bytes.specs.Zeroed.{LieIn}
use Rattle.hp_bytes.specs.Places.{place_of}
use Rattle.hp_bytes.specs.PlainSession.{Held, PlainSession, tag_of}
use Rattle.hp_bytes.specs.Sessions.{held_at, labels_held, plain_of, IsTaggedBelow, IsPlaced, IsSession}
use Rattle.hp_bytes.specs.declared.labels.Place.{Place}
use Rattle.hp_bytes.specs.declared.sessions.Session.{Session}
use Rattle.hp_bytes.proofs.InsideLemmas.{data_inside, no_fault}
use Rattle.hp_bytes.proofs.LabelLemmas.{get-labels, same_labels, labels_with}
use Rattle.hp_bytes.proofs.StoreLemmas.{size_is, data_written, data_kept}
use Rattle.hp_bytes.proofs.TagLemmas.{tagged_at, one_number, below_more}
use Rattle.hp_bytes.proofs.WrittenLemmas.{written-length}

-- a session whose store has as many bytes behind the same addresses, before the next line
pub session_next : (number : ℕ) (state : Session) (store : StoreView) → IsSession number state → store.base ≡ state.store.base
    → length store.bytes ≡ length state.store.bytes → IsSession (number + 1) (record state { store = store })
session_next number state store session base len = record {
  inside = λ segment has. let bounds = session.inside segment has in (omega (arith, bounds.0, base), omega (arith, bounds.1, base, len));
  tags = AllByRecursion-weaker (λ (range : Span). IsTaggedBelow number range.state) (λ (range : Span). IsTaggedBelow (number + 1) range.state) (λ range below. below_more number range.state below) state.heap.plain.ranges session.tags;
  placed = λ label place is. let its = session.placed label place is in record { earlier = omega (arith, its.earlier); there = its.there };
  apart = session.apart;
}

module _ (number : ℕ) (state : Session) (session : IsSession number state) (tiled : IsTiled state.heap.plain) where
  abbrev heap : PlainHeap
  heap = state.heap.plain

  -- the element of a place, wholly in the store
  pub record IsLive (place : Place) : Type 0 where
    pub range : Span
    pub there : busy_at place.addr heap ≡ Some range
    pub inside : (state.store.base ≤ place.addr) × (place.addr + size_of_state range.state ≤ state.store.base + length state.store.bytes)
    pub lent : byte_fault place.addr state.store heap ≡ None

  pub live : (label : List ℕ) (place : Place) → place_of state.labels label ≡ Some place → IsLive place
  live label place is =
      let at = tagged_at place.number place.addr heap tiled (session.placed label place is).there in
      record {
        range = at.range;
        there = at.there;
        inside = data_inside state.store heap tiled session.inside place.addr at.range at.there;
        lent = no_fault state.store heap tiled session.inside place.addr at.range at.there;
      }

  -- labels that differ have their data at different addresses
  pub addresses_apart : (label other : List ℕ) (place place' : Place) → place_of state.labels label ≡ Some place → place_of state.labels other ≡ Some place'
      → bytes_eq other label ≡ false → place'.addr ≡ place.addr → ⊥
  addresses_apart label other place place' is is' differ same =
      let numbers : place'.number ≡ place.number =
      one_number place'.number place.number place.addr heap tiled ((session.placed other place' is').there ∙ ap Some same) (session.placed label place is).there in
      let texts : other ≡ label = session.apart other label place' place is' is numbers in
      false≢true (sym differ ∙ (bytes_eq-Decides other label).1 texts)

  -- what a live label has
  pub held_is : (label : List ℕ) (place : Place) → place_of state.labels label ≡ Some place → finite.get (labels_held state.store heap state.labels) label ≡ Some (held_at state.store heap place)
  held_is label place is = get-labels state.store heap state.labels label ∙ ap (option_map (held_at state.store heap)) is

  -- and one that is not live
  pub held_none : (label : List ℕ) → place_of state.labels label ≡ None → finite.get (labels_held state.store heap state.labels) label ≡ None
  held_none label is = get-labels state.store heap state.labels label ∙ ap (option_map (held_at state.store heap)) is

  -- the data of a live label are as long as its element says
  pub held_size : (place : Place) (part : List ℕ) → IsData place.addr state.store heap part → length (data_at place.addr state.store heap) ≡ size_at place.addr heap
  held_size place part is = ap length (sym is.bytes) ∙ is.size

  module _ (label : List ℕ) (place : Place) (is : place_of state.labels label ≡ Some place) (written : List ℕ) (sized : length written ≡ size_at place.addr heap) where
    abbrev after : StoreView
    after = with_bytes place.addr written state.store

    its : IsLive place
    its = live label place is

    size_there : length written ≡ size_of_state its.range.state
    size_there = sized ∙ size_is heap place.addr its.range its.there

    fits : (place.addr - state.store.base) + length written ≤ length state.store.bytes
    fits = omega (arith, its.inside.0, its.inside.1, size_there)

    own_bytes : data_at place.addr after heap ≡ written
    own_bytes = data_written state.store heap tiled place.addr its.range its.there its.inside written (omega (arith, size_there)) size_there

    other_bytes : (other : List ℕ) → bytes_eq other label ≡ false
        → option_map (held_at after heap) (place_of state.labels other) ≡ option_map (held_at state.store heap) (place_of state.labels other)
    other_bytes other differ = of (place_of state.labels other) refl
      where
        of : (o : Option Place) → place_of state.labels other ≡ o → option_map (held_at after heap) o ≡ option_map (held_at state.store heap) o
        of None none = refl
        of (Some place') is' =
            let there = live other place' is' in
            ap (λ (bytes : List ℕ). Some (record { number = place'.number; bytes = bytes }))
            (data_kept state.store heap tiled place.addr its.range its.there its.inside written (omega (arith, size_there)) place'.addr there.range there.there
            (addresses_apart label other place place' is is' differ) there.inside.0)

    -- the label has what was written, and the others what they had
    pub labels_written : labels_held after heap state.labels
        ≡ finite.insert (labels_held state.store heap state.labels) label (record { number = place.number; bytes = written })
    labels_written =
        labels_with state.store after heap heap state.labels state.labels label other_bytes (record { number = place.number; bytes = written })
        (ap (option_map (held_at after heap)) is ∙ ap (λ (bytes : List ℕ). Some (record { number = place.number; bytes = bytes })) own_bytes)

    -- where that is what it had, all have what they had
    pub labels_unwritten : written ≡ data_at place.addr state.store heap → labels_held after heap state.labels ≡ labels_held state.store heap state.labels
    labels_unwritten same = same_labels state.store after heap heap state.labels state.labels (λ other. by_test other (bytes_eq other label) refl)
      where
        own_held : option_map (held_at after heap) (place_of state.labels label) ≡ option_map (held_at state.store heap) (place_of state.labels label)
        own_held =
            ap (option_map (held_at after heap)) is ∙ ap (λ (bytes : List ℕ). Some (record { number = place.number; bytes = bytes })) (own_bytes ∙ same)
            ∙ sym (ap (option_map (held_at state.store heap)) is)

        by_test : (other : List ℕ) (b : Bool) → bytes_eq other label ≡ b
            → option_map (held_at after heap) (place_of state.labels other) ≡ option_map (held_at state.store heap) (place_of state.labels other)
        by_test other true here =
            subst (λ (text : List ℕ). option_map (held_at after heap) (place_of state.labels text) ≡ option_map (held_at state.store heap) (place_of state.labels text))
            (sym ((bytes_eq-Decides other label).0 here)) own_held
        by_test other false away = other_bytes other away

    -- and the session goes on
    pub session_written : IsSession (number + 1) (record state { store = after })
    session_written = session_next number state after session refl (written-length (place.addr - state.store.base) written state.store.bytes fits)
