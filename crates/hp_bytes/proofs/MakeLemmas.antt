-- `new` does what it does in the plain session.
use Rattle.std.proofs.Common.{◌≡◌, ℕ, ◌+◌, ◌-◌, ◌<◌, ◌≤◌, Bool, true, false, cond, List, length, replicate, Contains, Option, Some, None, IsSome, refl, sym, ap, subst, ◌∙◌, arith}
use Rattle.std.proofs.lemmas.Bool.{false≢true, cases_Bool}
use Rattle.std.proofs.lemmas.Option.{same_Some, none-some}
use Rattle.std.proofs.lemmas.Slice.Eq.{bytes_eq-Decides}
use Rattle.std.specs.FinMap as finite
use Rattle.std.specs.Option.{option_map}
use Rattle.std.specs.Str.{bytes_eq}
use Rattle.hp_base.specs.declared.request.Request.{Request}
use Rattle.hp_base.specs.declared.span.Span.{Span}
use Rattle.hp_base.specs.declared.tag.Caller.{Caller}
use Rattle.hp_base.specs.declared.tag.Tag.{Tag}
use Rattle.hp_heap.specs.PlainHeap.{PlainHeap, segments_of}
use Rattle.hp_heap.specs.Tiling.{IsTiled}
use Rattle.hp_heap.specs.BusyLaws.{AllocatesAlone}
use Rattle.hp_heap.specs.Placing.{after_alloc, allocated}
use Rattle.hp_heap.specs.Joining.{busy_at}
use Rattle.hp_heap.specs.Step.{after, answer_of, address_answer, found}
use Rattle.hp_heap.specs.History.{HeapView, IsCall}
use Rattle.hp_heap.specs.declared.entry.HeapCall.TheVariants as call
use Rattle.hp_heap.specs.declared.entry.HeapAnswer.TheVariants as gives
use Rattle.hp_heap.proofs.HistoryFacts.BusyLaw.{allocates_alone}
use Rattle.hp_bytes.specs.StoreView.{StoreView}
use Rattle.hp_bytes.specs.Stores.{data_at, with_bytes, IsData}
use Rattle.hp_bytes.specs.Zeroed.{LieIn, KeepsData}
use Rattle.hp_bytes.specs.Places.{place_of}
use Rattle.hp_bytes.specs.PlainSession.{Held, PlainSession, Done, given_address, tag_of}
use Rattle.hp_bytes.specs.Sessions.{held_at, labels_held, plain_of, IsSession, Allocates}
use Rattle.hp_bytes.specs.declared.answer.Answer.TheVariants as answer
use Rattle.hp_bytes.specs.declared.labels.Labels.{Labels}
use Rattle.hp_bytes.specs.declared.labels.Place.{Place}
use Rattle.hp_bytes.specs.declared.sessions.Session.{Session}
use Rattle.hp_bytes.proofs.AllocLemmas.{alloc_segments, same_address}
use Rattle.hp_bytes.proofs.LabelLemmas.{labels_with}
use Rattle.hp_bytes.proofs.LiveLemmas.{session_next, live}
use Rattle.hp_bytes.proofs.TagLemmas.{HasOneMore, found_as_before, found_own, tags_more}
use Rattle.hp_bytes.proofs.WrittenLemmas.{written-same}

-- what one more call of an allocation makes of a heap
pub record IsAlloc (request : Request) (number : ℕ) (result : Option ℕ) (old new : HeapView) : Type 0 where
  pub heap : new.plain ≡ after_alloc 0 request (tag_of number) old.plain
  pub result_is : result ≡ allocated 0 request old.plain
  pub room : new.spare + 1 ≡ old.spare

pub is_alloc : (caller : Caller) (request : Request) (number : ℕ) (result : Option ℕ) (old new : HeapView) → caller.participant ≡ 0
    → IsCall caller (call.Alloc request (tag_of number)) (address_answer result) old new → IsAlloc request number result old new
unfolding after answer_of
is_alloc caller request number result old new who is = record {
  heap = is.heap ∙ ap (λ (p : ℕ). after_alloc p request (tag_of number) old.plain) who;
  result_is = same_address result (allocated 0 request old.plain) (is.answered ∙ ap (λ (p : ℕ). address_answer (allocated p request old.plain)) who);
  room = is.spare;
}

module _ (number : ℕ) (label : List ℕ) (request : Request) (state : Session) (session : IsSession number state) (tiled : IsTiled state.heap.plain) (heap' : HeapView) where
  -- no address: nothing changes
  pub made_nothing : IsAlloc request number None state.heap heap' → Allocates number label request state (record state { heap = heap' }) answer.Nothing
  made_nothing is =
      let same : heap'.plain ≡ state.heap.plain = is.heap ∙ (allocates_alone 0 request (tag_of number) state.heap.plain tiled).refused (sym is.result_is) in
      let before : Session = record state { heap = heap' } in
      record {
        step =
            ap (λ (heap : PlainHeap). record { answer = answer.Nothing; next = record { heap = heap; labels = labels_held state.store heap state.labels } }) same
            ∙ ap (λ (heap : PlainHeap). record { answer = answer.Nothing; next = record { heap = heap; labels = labels_held state.store state.heap.plain state.labels } }) (sym same ∙ is.heap)
            ∙ ap (λ (o : Option ℕ). given_address number label request o (plain_of state)) is.result_is;
        session = kept before same refl refl;
        room = omega (arith, is.room);
      }
    where
      kept : (s : Session) → s.heap.plain ≡ state.heap.plain → s.store ≡ state.store → s.labels ≡ state.labels → IsSession (number + 1) s
      kept s heap_is store_is labels_is =
          let next = session_next number state state.store session refl refl in
          record {
            inside = rw (heap_is, store_is) next.inside;
            tags = rw heap_is next.tags;
            placed = rw (heap_is, labels_is) next.placed;
            apart = rw labels_is next.apart;
          }

  -- an address: the label has zeros
  module _ (addr : ℕ) (store' : StoreView) (labels' : Labels) (is : IsAlloc request number (Some addr) state.heap heap') (tiled' : IsTiled heap'.plain)
      (fresh : place_of state.labels label ≡ None) (zeros : IsData addr store' heap'.plain (replicate request.size 0))
      (keeps : KeepsData state.store store' state.heap.plain heap'.plain) (base : store'.base ≡ state.store.base) (len : length store'.bytes ≡ length state.store.bytes)
      (added : (other : List ℕ) → place_of labels' other ≡ cond (bytes_eq label other) (Some (record { number = number; addr = addr })) (place_of state.labels other)) where
    alone : AllocatesAlone 0 request (tag_of number) state.heap.plain
    alone = allocates_alone 0 request (tag_of number) state.heap.plain tiled

    one_more : HasOneMore number addr state.heap.plain heap'.plain
    one_more = record { others = rw is.heap (alone.busy addr (sym is.result_is)); tagged = rw is.heap (alone.tagged addr (sym is.result_is)) }

    abbrev place : Place
    place = record { number = number; addr = addr }

    own_place : place_of labels' label ≡ Some place
    own_place = added label ∙ rw ((bytes_eq-Decides label label).1 refl) refl

    other_place : (other : List ℕ) → bytes_eq other label ≡ false → place_of labels' other ≡ place_of state.labels other
    other_place other differ = added other ∙ by_test (bytes_eq label other) refl
      where
        by_test : (b : Bool) → bytes_eq label other ≡ b → cond b (Some place) (place_of state.labels other) ≡ place_of state.labels other
        by_test true here = absurd (false≢true (sym differ ∙ (bytes_eq-Decides other label).1 (sym ((bytes_eq-Decides label other).0 here))))
        by_test false away = refl

    other_held : (other : List ℕ) → bytes_eq other label ≡ false
        → option_map (held_at store' heap'.plain) (place_of labels' other) ≡ option_map (held_at state.store state.heap.plain) (place_of state.labels other)
    other_held other differ = ap (option_map (held_at store' heap'.plain)) (other_place other differ) ∙ of (place_of state.labels other) refl
      where
        of : (o : Option Place) → place_of state.labels other ≡ o → option_map (held_at store' heap'.plain) o ≡ option_map (held_at state.store state.heap.plain) o
        of None none = refl
        of (Some there) found_there =
            let its = live number state session tiled other there found_there in
            ap (λ (bytes : List ℕ). Some (record { number = there.number; bytes = bytes })) (keeps there.addr (rw its.there refl))

    labels_made : labels_held store' heap'.plain labels' ≡ finite.insert (labels_held state.store state.heap.plain state.labels) label (record { number = number; bytes = replicate request.size 0 })
    labels_made =
        labels_with state.store store' state.heap.plain heap'.plain state.labels labels' label other_held (record { number = number; bytes = replicate request.size 0 })
        (ap (option_map (held_at store' heap'.plain)) own_place ∙ ap (λ (bytes : List ℕ). Some (record { number = number; bytes = bytes })) (sym zeros.bytes))

    abbrev made : Session
    made = record { heap = heap'; store = store'; labels = labels' }

    -- a place of then is the new one, or one of before
    placed_is : (other : List ℕ) (there : Place) → place_of labels' other ≡ Some there
        → (P : Type 0) → (other ≡ label → there ≡ place → P) → (bytes_eq other label ≡ false → place_of state.labels other ≡ Some there → P) → P
    placed_is other there found_there P own before = by_test (bytes_eq other label) refl
      where
        by_test : (b : Bool) → bytes_eq other label ≡ b → P
        by_test true here =
            let same : other ≡ label = (bytes_eq-Decides other label).0 here in
            own same (same_Some there place (sym found_there ∙ ap (place_of labels') same ∙ own_place))
        by_test false away = before away (sym (other_place other away) ∙ found_there)

    pub made_session : IsSession (number + 1) made
    made_session = record {
      inside = λ segment has.
          let bounds = session.inside segment (subst (λ segments. Contains segments segment) (ap segments_of is.heap ∙ alloc_segments 0 request (tag_of number) state.heap.plain) has) in
          (omega (arith, bounds.0, base), omega (arith, bounds.1, base, len));
      tags = tags_more number addr state.heap.plain heap'.plain tiled' one_more session.tags;
      placed = λ other there found_there. placed_is other there found_there _
          (λ same here. rw here (record { earlier = omega arith; there = found_own number addr state.heap.plain heap'.plain tiled' one_more session.tags }))
          (λ away before.
          let its = session.placed other there before in
          record {
            earlier = omega (arith, its.earlier);
            there = found_as_before number addr state.heap.plain heap'.plain tiled' one_more there.number (λ same. omega (arith, its.earlier, same)) ∙ its.there;
          });
      apart = λ one other there there' found_one found_other numbers. placed_is one there found_one _
          (λ same here. placed_is other there' found_other _
          (λ same' here'. same ∙ sym same')
          (λ away' before'. absurd (omega (arith, (session.placed other there' before').earlier, numbers, ap (λ (p : Place). p.number) here))))
          (λ away before. placed_is other there' found_other _
          (λ same' here'. absurd (omega (arith, (session.placed one there before).earlier, numbers, ap (λ (p : Place). p.number) here')))
          (λ away' before'. session.apart one other there there' before before' numbers));
    }

    pub made_some : Allocates number label request state made (answer.At addr)
    made_some = record {
      step =
          ap (λ labels. record { answer = answer.At addr; next = record { heap = heap'.plain; labels = labels } }) labels_made
          ∙ ap (λ (heap : PlainHeap). record { answer = answer.At addr; next = record { heap = heap; labels = finite.insert (labels_held state.store state.heap.plain state.labels) label (record { number = number; bytes = replicate request.size 0 }) } }) is.heap
          ∙ ap (λ (o : Option ℕ). given_address number label request o (plain_of state)) is.result_is;
      session = made_session;
      room = omega (arith, is.room);
    }

-- the same by the call, and by what `zalloc` says of the store
module _ (number : ℕ) (label : List ℕ) (request : Request) (state : Session) (session : IsSession number state) (tiled : IsTiled state.heap.plain) (heap' : HeapView) (caller : Caller) (tag : Tag)
    (who : caller.participant ≡ 0) (tagged : tag ≡ tag_of number) (store' : StoreView) where
  called : (result : Option ℕ) → IsCall caller (call.Alloc request tag) (address_answer result) state.heap heap' → IsAlloc request number result state.heap heap'
  called result is =
      is_alloc caller request number result state.heap heap' who (subst (λ (t : Tag). IsCall caller (call.Alloc request t) (address_answer result) state.heap heap') tagged is)

  pub allocated_nothing : IsCall caller (call.Alloc request tag) (address_answer None) state.heap heap' → store' ≡ state.store
      → Allocates number label request state (record { heap = heap'; store = store'; labels = state.labels }) answer.Nothing
  allocated_nothing is same =
      subst (λ (store : StoreView). Allocates number label request state (record { heap = heap'; store = store; labels = state.labels }) answer.Nothing) (sym same)
      (made_nothing number label request state session tiled heap' (called None is))

  pub allocated_some : (addr : ℕ) (labels' : Labels) → IsCall caller (call.Alloc request tag) (address_answer (Some addr)) state.heap heap' → IsTiled heap'.plain → place_of state.labels label ≡ None
      → IsData addr store' heap'.plain (replicate request.size 0) → KeepsData state.store store' state.heap.plain heap'.plain → store' ≡ with_bytes addr (replicate request.size 0) state.store
      → ((other : List ℕ) → place_of labels' other ≡ cond (bytes_eq label other) (Some (record { number = number; addr = addr })) (place_of state.labels other))
      → Allocates number label request state (record { heap = heap'; store = store'; labels = labels' }) (answer.At addr)
  allocated_some addr labels' is tiled' fresh zeros keeps cleared added =
      made_some number label request state session tiled heap' addr store' labels' (called (Some addr) is) tiled' fresh zeros keeps (ap (λ (store : StoreView). store.base) cleared)
      (ap (λ (store : StoreView). length store.bytes) cleared ∙ written-same (addr - state.store.base) (replicate request.size 0) state.store.bytes) added
