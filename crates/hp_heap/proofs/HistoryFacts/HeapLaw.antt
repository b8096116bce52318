-- One more call of a heap keeps what holds of it.
use Rattle.std.proofs.Common.{◌≡◌, ℕ, ◌+◌, ◌*◌, ◌≤◌, [], ◌∷◌, ◌++◌, sym, ap, subst, ◌∙◌, Option, vec_len, vec_capacity}
use Rattle.std.specs.List.{AllByRecursion}
use Rattle.hp_chain.specs.Chain.{AreApart}
use Rattle.hp_heap.specs.declared.body.Body.TheInside.{Inside}
use Rattle.hp_heap.specs.declared.entry.Entry.{Entry}
use Rattle.hp_heap.specs.PlainHeap.{PlainHeap, opening_heap, segments_of}
use Rattle.hp_heap.specs.Tiling.{IsTiled, IsElement}
use Rattle.hp_heap.specs.Lists.{free_lists}
use Rattle.hp_heap.specs.History.{HeapView, replay, after_entry, IsLegal, IsLegalEntry, IsCall}
use Rattle.hp_heap.specs.Headers.{spans_of, exact_lists}
use Rattle.hp_heap.specs.Joins.{HasRoom, IsJoinable}
use Rattle.hp_heap.specs.Finding.{IsOfHeap}
use Rattle.hp_heap.specs.ChunkOrder.{AreInOrder}
use Rattle.hp_heap.specs.PageLists.{AreNoted}
use Rattle.hp_heap.specs.Inside.{opened, plain_of, view_of, IsHeap}
use Rattle.hp_heap.proofs.ChunkFacts.ChunkLaw.{after-kept}
use Rattle.hp_heap.proofs.HistoryFacts.HistoryLaw.{after-same, replay-push, IsLegal-push}
use Rattle.hp_heap.proofs.LaidLemmas.{tiled_limits}
use Rattle.hp_heap.proofs.Limits.{tiled_spaces}

-- the fields after one more call
pub record IsNext (a b : Inside) (entry : Entry) (next : PlainHeap) : Type 0 where
  pub step : next ≡ after_entry (plain_of a) entry
  pub legal : IsLegalEntry (plain_of a) entry
  pub index : b.index ≡ a.index
  pub serves : b.serves ≡ a.serves
  pub history : b.history.items ≡ a.history.items ++ entry ∷ []
  pub ranges : spans_of b.headers.items ≡ next.ranges
  pub apart : AreApart b.headers.items
  pub exact : b.headers.lists ≡ exact_lists (spans_of b.headers.items)
  pub insertions : b.headers.insertions ≡ next.insertions
  pub name : b.name ≡ next.name
  pub socket : b.socket ≡ next.socket
  pub chunks : b.chunks.items ≡ next.chunks
  pub lists : AreNoted next.pages b.page_lists.items
  pub tiled : IsTiled next
  pub counted : b.headers.insertions ≤ 2 * vec_len b.history
  pub room : 2 * b.spare ≤ b.headers.spare
  pub room_history : vec_len b.history + b.spare ≤ vec_capacity b.history
  pub room_lists : vec_len b.page_lists + b.spare ≤ vec_capacity b.page_lists
  pub room_chunks : vec_len b.chunks + b.spare ≤ vec_capacity b.chunks

module _ (a b : Inside) (entry : Entry) (next : PlainHeap) (heap : IsHeap a) (is : IsNext a b entry next) where
  same_opening : opened b ≡ opened a
  same_opening = ap (λ (i : ℕ). opening_heap i b.serves) is.index ∙ ap (λ (s : Option ℕ). opening_heap a.index s) is.serves

  -- the heap that the longer history leaves
  pub next_plain : plain_of b ≡ next
  next_plain =
      ap (λ from. replay from b.history.items) same_opening
      ∙ ap (λ entries. replay (opened a) entries) is.history
      ∙ replay-push (opened a) a.history.items entry
      ∙ sym is.step

  kept : (next.index ≡ (plain_of a).index) × (next.serves ≡ (plain_of a).serves)
  unfolding after_entry
  kept = let same = after-same entry.caller.participant entry.call (plain_of a) in (ap (λ h. h.index) is.step ∙ same.index, ap (λ h. h.serves) is.step ∙ same.serves)

  next_kept : AreInOrder next.chunks
  unfolding after_entry
  next_kept = subst (λ h. AreInOrder h.chunks) (sym is.step) (after-kept entry.caller.participant entry.call (plain_of a) heap.kept is.legal.allowed)

  pub next_heap : IsHeap b
  next_heap = record {
    ranges = is.ranges ∙ ap (λ h. h.ranges) (sym next_plain);
    apart = is.apart;
    exact = is.exact;
    insertions = is.insertions ∙ ap (λ h. h.insertions) (sym next_plain);
    name = is.name ∙ ap (λ h. h.name) (sym next_plain);
    socket = is.socket ∙ ap (λ h. h.socket) (sym next_plain);
    chunks = is.chunks ∙ ap (λ h. h.chunks) (sym next_plain);
    kept = subst (λ h. AreInOrder h.chunks) (sym next_plain) next_kept;
    lists = subst (λ h. AreNoted h.pages b.page_lists.items) (sym next_plain) is.lists;
    serves = ap (λ h. h.serves) next_plain ∙ kept.1 ∙ heap.serves ∙ sym is.serves;
    index = ap (λ h. h.index) next_plain ∙ kept.0 ∙ heap.index ∙ sym is.index;
    legal = subst (λ from. IsLegal from b.history.items) (sym same_opening) (subst (λ entries. IsLegal (opened a) entries) (sym is.history) (IsLegal-push (opened a) a.history.items entry heap.legal is.legal));
    tiled = subst (λ h. IsTiled h) (sym next_plain) is.tiled;
    counted = is.counted;
    room = is.room;
    room_history = is.room_history;
    room_lists = is.room_lists;
    room_chunks = is.room_chunks;
  }

-- what callers see of one more call
pub next_call : (a b : Inside) (entry : Entry) (next : PlainHeap) → IsHeap a → IsNext a b entry next → (old : HeapView) → view_of a ≡ old → b.spare + 1 ≡ a.spare
    → IsCall entry.caller entry.call entry.answer old (view_of b)
unfolding after_entry free_lists
next_call a b entry next heap is old view spare = subst (λ (o : HeapView). IsCall entry.caller entry.call entry.answer o (view_of b)) view (record {
  heap = next_plain a b entry next heap is ∙ is.step;
  allowed = is.legal.allowed;
  answered = is.legal.answered;
  history = is.history;
  spare = spare;
  lists = is.exact ∙ ap exact_lists (is.ranges ∙ ap (λ h. h.ranges) (sym (next_plain a b entry next heap is)));
})

-- the elements of a heap have room, and tile
pub room_of : (a : Inside) → IsHeap a → HasRoom (spans_of a.headers.items)
room_of a heap = subst (λ zs. HasRoom zs) (sym heap.ranges)
    (tiled_spaces (segments_of (plain_of a)) (plain_of a).insertions (plain_of a).ranges heap.tiled.tiling (tiled_limits (plain_of a) heap.tiled))

pub joinable_of : (a : Inside) → IsHeap a → IsJoinable (spans_of a.headers.items)
joinable_of a heap = subst (λ zs. IsJoinable zs) (sym heap.ranges) (record {
  rising = heap.tiled.tiling.rising;
  room = tiled_spaces (segments_of (plain_of a)) (plain_of a).insertions (plain_of a).ranges heap.tiled.tiling (tiled_limits (plain_of a) heap.tiled);
  apart = heap.tiled.tiling.apart;
})

pub of_heap : (a : Inside) → IsHeap a → IsOfHeap a.headers
of_heap a heap = record {
  apart = heap.apart;
  joinable = joinable_of a heap;
  elements = subst (λ zs. AllByRecursion (IsElement a.headers.insertions) zs) (sym heap.ranges)
      (subst (λ (n : ℕ). AllByRecursion (IsElement n) (plain_of a).ranges) (sym heap.insertions) heap.tiled.tiling.elements);
}
