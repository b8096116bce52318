-- One more call that leaves elements and pages: it changes name, socket number and chunks at most.
use Rattle.std.proofs.Common.{◌≡◌, ℕ, ◌+◌, List, [], ◌∷◌, ◌++◌, refl, sym, ap, ◌∙◌, subst, arith, Option, Some, None, IsSome, IsSomeAnd, IfSome, vec_len, vec_capacity}
use Rattle.std.proofs.lemmas.Option.{same_Some}
use Rattle.std.specs.List.{find}
use Rattle.hp_base.specs.declared.chunk.Chunk.{Chunk}
use Rattle.hp_base.specs.declared.tag.Caller.{Caller}
use Rattle.hp_chain.specs.Chain.{AreApart}
use Rattle.hp_heap.specs.declared.body.Body.TheInside.{Inside}
use Rattle.hp_heap.specs.declared.entry.Entry.{Entry}
use Rattle.hp_heap.specs.declared.entry.HeapCall.{HeapCall}
use Rattle.hp_heap.specs.declared.entry.HeapAnswer.TheVariants.{Done}
use Rattle.hp_heap.specs.PlainHeap.{PlainHeap}
use Rattle.hp_heap.specs.Tiling.{IsTiled}
use Rattle.hp_heap.specs.Headers.{spans_of, exact_lists}
use Rattle.hp_heap.specs.Chunks.{chunk_of, with_marks}
use Rattle.hp_heap.specs.ChunkKeeping.{is_of, with_marks_of}
use Rattle.hp_heap.specs.PageLists.{AreNoted}
use Rattle.hp_heap.specs.Step.{after, after_name, answer_of}
use Rattle.hp_heap.specs.Allowed.{IsAllowed}
use Rattle.hp_heap.specs.History.{HeapView, after_entry, IsLegalEntry, IsCall}
use Rattle.hp_heap.specs.Inside.{plain_of, view_of, IsHeap}
use Rattle.hp_heap.proofs.HistoryFacts.HeapLaw.{IsNext, next_heap, next_call}
use Rattle.hp_heap.proofs.ChunkFacts.MarksTiling.{marks-tiled}
use Rattle.hp_heap.proofs.ChunkFacts.ChunkCalls.{there_is, kept_there, kept_some, marks_are}

-- the fields that such a call leaves
abbrev pub LeavesBeside : Inside → Inside → Type 0
LeavesBeside a b = b ≡ record a { name = b.name; socket = b.socket; chunks = b.chunks; history = b.history; spare = b.spare }

-- its entry, for which there was room
pub record HasEntry (a b : Inside) (entry : Entry) : Type 0 where
  pub others : LeavesBeside a b
  pub history : b.history.items ≡ a.history.items ++ entry ∷ []
  pub spare : b.spare + 1 ≡ a.spare
  pub len : vec_len b.history ≡ vec_len a.history + 1
  pub room : vec_capacity b.history ≡ vec_capacity a.history
  pub chunk_len : vec_len b.chunks ≡ vec_len a.chunks
  pub chunk_room : vec_capacity b.chunks ≡ vec_capacity a.chunks

-- the heap that it leaves
pub record IsBeside (a b : Inside) (entry : Entry) (next : PlainHeap) : Type 0 where
  pub step : next ≡ after_entry (plain_of a) entry
  pub legal : IsLegalEntry (plain_of a) entry
  pub same : next ≡ record (plain_of a) { name = next.name; socket = next.socket; chunks = next.chunks }
  pub name : b.name ≡ next.name
  pub socket : b.socket ≡ next.socket
  pub chunks : b.chunks.items ≡ next.chunks
  pub tiled : IsTiled next

pub beside : (a b : Inside) (entry : Entry) (next : PlainHeap) → IsHeap a → HasEntry a b entry → IsBeside a b entry next → IsNext a b entry next
beside a b entry next heap has is =
    let headers : b.headers ≡ a.headers = ap (λ v. v.headers) has.others in
    let lists : b.page_lists ≡ a.page_lists = ap (λ v. v.page_lists) has.others in
    record {
      step = is.step;
      legal = is.legal;
      index = ap (λ v. v.index) has.others;
      serves = ap (λ v. v.serves) has.others;
      history = has.history;
      ranges = ap (λ h. spans_of h.items) headers ∙ heap.ranges ∙ sym (ap (λ h. h.ranges) is.same);
      apart = subst (λ h. AreApart h.items) (sym headers) heap.apart;
      exact = ap (λ h. h.lists) headers ∙ heap.exact ∙ ap (λ h. exact_lists (spans_of h.items)) (sym headers);
      insertions = ap (λ h. h.insertions) headers ∙ heap.insertions ∙ sym (ap (λ h. h.insertions) is.same);
      name = is.name;
      socket = is.socket;
      chunks = is.chunks;
      lists = subst (λ pages. AreNoted pages b.page_lists.items) (sym (ap (λ h. h.pages) is.same)) (subst (λ ls. AreNoted (plain_of a).pages ls.items) (sym lists) heap.lists);
      tiled = is.tiled;
      counted = omega (arith, ap (λ h. h.insertions) headers, heap.counted, has.len);
      room = omega (arith, ap (λ h. h.spare) headers, heap.room, has.spare);
      room_history = omega (arith, has.len, has.room, has.spare, heap.room_history);
      room_lists = omega (arith, ap (λ ls. vec_len ls) lists, ap (λ ls. vec_capacity ls) lists, has.spare, heap.room_lists);
      room_chunks = omega (arith, has.chunk_len, has.chunk_room, has.spare, heap.room_chunks);
    }

-- a call that changes name and socket number
pub renamed : (a b : Inside) (entry : Entry) (name : Option (List ℕ)) (socket : ℕ) → IsHeap a → after_name name socket (plain_of a) ≡ after_entry (plain_of a) entry → IsLegalEntry (plain_of a) entry
    → b.name ≡ name → b.socket ≡ socket → b.chunks.items ≡ a.chunks.items → IsBeside a b entry (after_name name socket (plain_of a))
unfolding after_name
renamed a b entry name socket heap step legal named numbered chunks = record {
  step = step;
  legal = legal;
  same = refl;
  name = named;
  socket = numbered;
  chunks = chunks ∙ heap.chunks;
  tiled = record { kind = heap.tiled.kind; laid = heap.tiled.laid; tiling = heap.tiled.tiling };
}

-- a call that gives the chunk of a segment list other marks
module _ (a : Inside) (heap : IsHeap a) (now : HeapView) (view : view_of a ≡ now) (caller : Caller) (list : ℕ) (made : Chunk → HeapCall)
    (allowed : IsSomeAnd (chunk_of list now.plain) (λ x. IsAllowed caller.participant (made x) now.plain)) where
  known : (x : Chunk) × (chunk_of list (plain_of a) ≡ Some x) × IsAllowed caller.participant (made x) (plain_of a)
  known = there_is (λ x. IsAllowed caller.participant (made x) (plain_of a)) (chunk_of list (plain_of a))
      (subst (λ h. IsSomeAnd (chunk_of list h) (λ x. IsAllowed caller.participant (made x) h)) (sym (ap (λ v. v.plain) view)) allowed)

  pub chunk_kept : IsSome (find (is_of list) a.chunks.items)
  chunk_kept = kept_some a heap list known.0 known.1

  -- with the marks
  module _ (marks : ℕ → ℕ) (external : (x : Chunk) → IsAllowed caller.participant (made x) (plain_of a) → (plain_of a).serves ≡ None)
      (step : (x : Chunk) → with_marks marks x.addr x.len (plain_of a) ≡ after caller.participant (made x) (plain_of a))
      (answered : (x : Chunk) → Done ≡ answer_of caller.participant (made x) (plain_of a))
      (found : Chunk) (found_is : find (is_of list) a.chunks.items ≡ Some found) (b : Inside)
      (has : HasEntry a b (record { caller = caller; call = made found; answer = Done }))
      (name : b.name ≡ a.name) (socket : b.socket ≡ a.socket) (chunks : b.chunks.items ≡ with_marks_of list (marks found.attached) a.chunks.items) where
    same : found ≡ known.0
    same = same_Some found known.0 (sym found_is ∙ kept_there a heap list known.0 known.1)

    there : chunk_of list (plain_of a) ≡ Some found
    there = known.1 ∙ ap (λ (x : Chunk). Some x) (sym same)

    may : IsAllowed caller.participant (made found) (plain_of a)
    may = subst (λ (x : Chunk). IsAllowed caller.participant (made x) (plain_of a)) (sym same) known.2

    next : PlainHeap
    next = with_marks marks found.addr found.len (plain_of a)

    is_next : IsNext a b (record { caller = caller; call = made found; answer = Done }) next
    unfolding next after_entry
    is_next = beside a b (record { caller = caller; call = made found; answer = Done }) next heap has (record {
      step = step found;
      legal = record { allowed = may; answered = answered found };
      same = refl;
      name = name ∙ heap.name;
      socket = socket ∙ heap.socket;
      chunks = chunks ∙ marks_are a heap list found there marks;
      tiled = marks-tiled marks found.addr found.len (plain_of a) heap.tiled (external found may);
    })

    pub marked_heap : IsHeap b
    marked_heap = next_heap a b (record { caller = caller; call = made found; answer = Done }) next heap is_next

    pub marked_call : IfSome (chunk_of list now.plain) (λ x. IsCall caller (made x) Done now (view_of b))
    marked_call =
        let here : chunk_of list now.plain ≡ Some found = ap (λ v. chunk_of list v.plain) (sym view) ∙ there in
        subst (λ o. IfSome o (λ x. IsCall caller (made x) Done now (view_of b))) (sym here)
        (next_call a b (record { caller = caller; call = made found; answer = Done }) next heap is_next now view has.spare)
