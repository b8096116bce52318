-- A session before its first line.
use Rattle.std.proofs.Common.{◌≡◌, ℕ, ◌+◌, ◌<◌, ◌≤◌, List, [], length, replicate, Contains, Option, Some, None, refl, sym, ap, subst, ◌∙◌, arith, lit<}
use Rattle.std.proofs.lemmas.List.{length-replicate}
use Rattle.std.proofs.lemmas.Option.{none-some}
use Rattle.std.specs.Cmp.Lexicographic.{slice_cmp, nat_list_cmp_total}
use Rattle.std.specs.FinMap as finite
use Rattle.std.specs.List.{AllByRecursion}
use Rattle.std.specs.Option.{option_map}
use Rattle.std.specs.Ordering.{nat_cmp}
use Rattle.hp_base.specs.declared.row.Run.{Run}
use Rattle.hp_base.specs.declared.span.Span.{Span}
use Rattle.hp_heap.specs.Growing.{after_grow, run_pages, CanGrow, IsGrownTo, IsNextRun, IsRun}
use Rattle.hp_heap.specs.Joining.{after_insertion, with_stretch}
use Rattle.hp_heap.specs.PlainHeap.{PlainHeap, Extent, opening_heap, segments_of}
use Rattle.hp_heap.proofs.AllocFacts.ChoiceLaw.{AllByRecursion-contains}
use Rattle.hp_heap.proofs.Growths.{grown_opening, next_can_grow}
use Rattle.hp_bytes.specs.StoreView.{StoreView}
use Rattle.hp_bytes.specs.Zeroed.{LieIn}
use Rattle.hp_bytes.specs.Places.{place_of}
use Rattle.hp_bytes.specs.PlainSession.{opening_session, session_run}
use Rattle.hp_bytes.specs.Sessions.{held_at, labels_held, plain_of, IsSession, IsTaggedBelow}
use Rattle.hp_bytes.specs.declared.labels.Labels.{Labels}
use Rattle.hp_bytes.specs.declared.sessions.Session.{Session}
use Rattle.hp_bytes.proofs.LabelLemmas.{get-labels, texts_alike}

abbrev empty_heap : PlainHeap
empty_heap = opening_heap 0 (Some 0)

abbrev grown : PlainHeap
grown = after_grow session_run empty_heap

-- a run without pages, where the session's begins
abbrev bare : Run
bare = record session_run { count = 0 }

behind : IsNextRun bare session_run
behind = record { list = refl; page = refl; socket = refl; first = refl; addr = refl }

alone : IsRun session_run
alone = record { some = lit< tt; size = refl; aligned = refl; base = omega arith; slots = omega arith; end = omega arith }

-- the session's pages may come to its heap
pub can_grow : (heap : PlainHeap) → heap ≡ opening_heap 0 (Some 0) → CanGrow session_run heap
can_grow heap is = next_can_grow heap bare session_run (subst (λ (h : PlainHeap). IsGrownTo bare h) (sym is) (grown_opening 0 0 bare refl)) behind alone

abbrev IsInside : StoreView → Extent → Type 0
IsInside store segment = (store.base ≤ segment.addr) × (segment.addr + segment.len ≤ store.base + length store.bytes)

-- they lie in its store
grown_inside : (store : StoreView) → store.base ≡ 0x100000000 → length store.bytes ≡ 0x800000 → AllByRecursion (IsInside store) (segments_of (after_grow session_run (opening_heap 0 (Some 0))))
unfolding after_grow after_insertion run_pages
grown_inside store base len =
    ((omega (arith, base), omega (arith, base, len)), ((omega (arith, base), omega (arith, base, len)), ((omega (arith, base), omega (arith, base, len)), ((omega (arith, base), omega (arith, base, len)), tt))))

-- so the heap of these pages lies in a store that is as long as they are
pub grown_lies : (store : StoreView) (heap : PlainHeap) → heap ≡ after_grow session_run (opening_heap 0 (Some 0)) → store.base ≡ 0x100000000 → length store.bytes ≡ 0x800000 → LieIn store heap
grown_lies store heap is base len = λ segment has.
    AllByRecursion-contains (IsInside store) (segments_of (after_grow session_run (opening_heap 0 (Some 0)))) segment (grown_inside store base len)
    (subst (λ (h : PlainHeap). Contains (segments_of h) segment) is has)

grown_tags : (number : ℕ) → AllByRecursion (λ (range : Span). IsTaggedBelow number range.state) (after_grow session_run (opening_heap 0 (Some 0))).ranges
unfolding after_grow after_insertion with_stretch
grown_tags number = (tt, tt)

-- a store of zeros is as long as they are
pub zeros_base : (store : StoreView) (base n : ℕ) → store ≡ record { base = base; bytes = replicate n 0 } → store.base ≡ base
zeros_base store base n is = ap (λ (s : StoreView). s.base) is

pub zeros_long : (store : StoreView) (base n : ℕ) → store ≡ record { base = base; bytes = replicate n 0 } → length store.bytes ≡ n
zeros_long store base n is = ap (λ (s : StoreView). length s.bytes) is ∙ length-replicate n 0

module _ (state : Session) (heap : state.heap.plain ≡ after_grow session_run (opening_heap 0 (Some 0))) (base : state.store.base ≡ 0x100000000) (len : length state.store.bytes ≡ 0x800000)
    (none : (label : List ℕ) → place_of state.labels label ≡ None) where
  no_labels : labels_held state.store state.heap.plain state.labels ≡ finite.empty
  no_labels =
      finite.same_map nat_list_cmp_total texts_alike (labels_held state.store state.heap.plain state.labels) finite.empty (λ label.
      get-labels state.store state.heap.plain state.labels label ∙ ap (option_map (held_at state.store state.heap.plain)) (none label) ∙ sym (finite.get-empty (slice_cmp nat_cmp) label))

  -- it is the one that opens
  pub opening_plain : plain_of state ≡ opening_session
  opening_plain = ap (λ labels. record { heap = state.heap.plain; labels = labels }) no_labels ∙ ap (λ (h : PlainHeap). record { heap = h; labels = finite.empty }) heap

  pub opening_is : IsSession 1 state
  opening_is = record {
    inside = λ segment has. AllByRecursion-contains (IsInside state.store) (segments_of (after_grow session_run (opening_heap 0 (Some 0)))) segment (grown_inside state.store base len)
        (subst (λ (h : PlainHeap). Contains (segments_of h) segment) heap has);
    tags = subst (λ (h : PlainHeap). AllByRecursion (λ (range : Span). IsTaggedBelow 1 range.state) h.ranges) (sym heap) (grown_tags 1);
    placed = λ label place is. absurd (none-some place (sym (none label) ∙ is));
    apart = λ label other place place' is is' same. absurd (none-some place (sym (none label) ∙ is));
  }
