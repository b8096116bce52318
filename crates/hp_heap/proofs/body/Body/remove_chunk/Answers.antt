use Rattle.std.proofs.Common.{◌≡◌, ◌-◌, ◌≤◌, ◌++◌, ◌∷◌, [], not, Some, refl, sym, ap, subst, ◌∙◌, arith, IsSomeAnd, IfSome, eqb}
use Rattle.std.proofs.lemmas.Option.{same_Some}
use Rattle.std.specs.List.{filter, find}
use Rattle.hp_base.specs.declared.span.Span.{Span}
use Rattle.hp_base.specs.declared.chunk.Chunk.{Chunk}
use Rattle.hp_heap.specs.declared.body.Body.TheInside.{Inside}
use Rattle.hp_heap.specs.declared.entry.Entry.{Entry}
use Rattle.hp_heap.specs.declared.entry.HeapCall.TheVariants.{Unchunk}
use Rattle.hp_heap.specs.declared.entry.HeapAnswer.TheVariants.{Done}
use Rattle.hp_heap.specs.Tiling.{in_range}
use Rattle.hp_heap.specs.Chunks.{chunk_of, after_unchunk}
use Rattle.hp_heap.specs.ChunkKeeping.{IsFreeFrom}
use Rattle.hp_heap.specs.Headers.{spans_of}
use Rattle.hp_heap.specs.Allowed.{IsAllowed}
use Rattle.hp_heap.specs.Step.{after, answer_of}
use Rattle.hp_heap.specs.History.{after_entry, IsCall}
use Rattle.hp_heap.specs.PageLists.{AreNoted}
use Rattle.hp_heap.specs.Inside.{plain_of, view_of}
use Rattle.hp_heap.proofs.ChunkFacts.UnchunkTiling.{unchunk-tiled}
use Rattle.hp_heap.proofs.ChunkFacts.ChunkCalls.{there_is, own_lists, kept_there, kept_some, whole_there, chunks_left, ranges_left, unchunk_same}
use Rattle.hp_heap.proofs.HistoryFacts.HeapLaw.{IsNext, next_heap, next_call, of_heap}
use Rattle.hp_heap.proofs.body.Body.remove_chunk.Goals as goal
use Rattle.hp_heap.proofs.body.Body.remove_chunk.Goals.{After-self-1}

pub chunk_of-addr-requires : goal.chunk_of-addr-requires
chunk_of-addr-requires c =
    let known = there_is (λ x. IsAllowed c.args.caller.participant (Unchunk x.addr x.len) (plain_of c.self.inside)) (chunk_of c.args.list (plain_of c.self.inside))
    (subst (λ heap. IsSomeAnd (chunk_of c.args.list heap) (λ x. IsAllowed c.args.caller.participant (Unchunk x.addr x.len) heap)) (sym (ap (λ v. v.plain) c.self.view_is)) c.requires.allowed) in
    kept_some c.self.inside c.self.invariant c.args.list known.0 known.1

pub take_whole-requires-clause-of_heap : goal.take_whole-requires-clause-of_heap
take_whole-requires-clause-of_heap c = of_heap c.self.inside c.self.invariant

pub take_whole-requires-clause-free : goal.take_whole-requires-clause-free
take_whole-requires-clause-free c =
    let known = there_is (λ x. IsAllowed c.args.caller.participant (Unchunk x.addr x.len) (plain_of c.self.inside)) (chunk_of c.args.list (plain_of c.self.inside))
    (subst (λ heap. IsSomeAnd (chunk_of c.args.list heap) (λ x. IsAllowed c.args.caller.participant (Unchunk x.addr x.len) heap)) (sym (ap (λ v. v.plain) c.self.view_is)) c.requires.allowed) in
    let same : c.chunk_of-addr.result ≡ known.0 = same_Some c.chunk_of-addr.result known.0 (sym c.chunk_of-addr.ensures ∙ kept_there c.self.inside c.self.invariant c.args.list known.0 known.1) in
    subst (λ (x : Chunk). IsSomeAnd (find (in_range x.addr) (spans_of c.self.inside.headers.items)) (IsFreeFrom x.addr)) (sym same)
    (whole_there c.self.inside c.self.invariant c.args.list known.0 known.1 known.2.1.external known.2.1.unused)

pub take-requires-clause-own : goal.take-requires-clause-own
take-requires-clause-own c = own_lists c.self.inside c.self.invariant

pub take-requires-clause-there : goal.take-requires-clause-there
take-requires-clause-there c =
    let known = there_is (λ x. IsAllowed c.args.caller.participant (Unchunk x.addr x.len) (plain_of c.self.inside)) (chunk_of c.args.list (plain_of c.self.inside))
    (subst (λ heap. IsSomeAnd (chunk_of c.args.list heap) (λ x. IsAllowed c.args.caller.participant (Unchunk x.addr x.len) heap)) (sym (ap (λ v. v.plain) c.self.view_is)) c.requires.allowed) in
    kept_some c.self.inside c.self.invariant c.args.list known.0 known.1

-- the chunk of the list
known : (c : After-self-1) → (x : Chunk) × (chunk_of c.args.list (plain_of c.self.inside) ≡ Some x) × IsAllowed c.args.caller.participant (Unchunk x.addr x.len) (plain_of c.self.inside)
known c = there_is (λ x. IsAllowed c.args.caller.participant (Unchunk x.addr x.len) (plain_of c.self.inside)) (chunk_of c.args.list (plain_of c.self.inside))
    (subst (λ heap. IsSomeAnd (chunk_of c.args.list heap) (λ x. IsAllowed c.args.caller.participant (Unchunk x.addr x.len) heap)) (sym (ap (λ v. v.plain) c.self.view_is)) c.requires.allowed)

same : (c : After-self-1) → c.chunk_of-addr.result ≡ (known c).0
same c = same_Some c.chunk_of-addr.result (known c).0 (sym c.chunk_of-addr.ensures ∙ kept_there c.self.inside c.self.invariant c.args.list (known c).0 (known c).1)

-- the fields afterwards, and the entry
after_call : After-self-1 → Inside
after_call c = record c.self.inside { headers = c.take_whole.new.headers; chunks = c.take.new.chunks; history = c.record.new.history; spare = c.self.inside.spare - 1 }

entry_of : After-self-1 → Entry
entry_of c = record { caller = c.args.caller; call = Unchunk (known c).0.addr (known c).0.len; answer = Done }

spare_some : (c : After-self-1) → 1 ≤ c.self.inside.spare
spare_some c = omega (arith, c.requires.spare, ap (λ v. v.spare) c.self.view_is)

is_next : (c : After-self-1) → IsNext c.self.inside (after_call c) (entry_of c) (after_unchunk (known c).0.addr (known c).0.len (plain_of c.self.inside))
unfolding after_call entry_of after_entry after answer_of
is_next c =
    let x = (known c).0 in
    let kept = unchunk_same c.self.inside c.self.invariant c.args.list x (known c).1 in
    record {
      step = refl;
      legal = record { allowed = (known c).2; answered = refl };
      index = refl;
      serves = refl;
      history = c.record.ensures.entry ∙ ap (λ (y : Chunk). c.self.inside.history.items ++ record { caller = c.args.caller; call = Unchunk y.addr y.len; answer = Done } ∷ []) (same c);
      ranges = c.take_whole.ensures.ranges
          ∙ ap (λ (y : Chunk). filter (λ (q : Span). not (eqb q.addr y.addr)) (spans_of c.self.inside.headers.items)) (same c)
          ∙ ranges_left c.self.inside c.self.invariant c.args.list x (known c).1 (known c).2.1.external (known c).2.1.unused;
      apart = c.take_whole.ensures.apart;
      exact = c.sound.ensures;
      insertions = c.take_whole.ensures.insertions ∙ c.self.invariant.insertions ∙ sym kept.3;
      name = c.self.invariant.name ∙ sym kept.0;
      socket = c.self.invariant.socket ∙ sym kept.1;
      chunks = c.take.ensures.chunks ∙ chunks_left c.self.inside c.self.invariant c.args.list x (known c).1;
      lists = subst (λ ps. AreNoted ps c.self.inside.page_lists.items) (sym kept.2) c.self.invariant.lists;
      tiled = unchunk-tiled x.addr x.len (plain_of c.self.inside) c.self.invariant.tiled (known c).2.1.external;
      counted = omega (arith, c.take_whole.ensures.insertions, c.self.invariant.counted, c.record.ensures.len);
      room = omega (arith, c.take_whole.ensures.spare, c.self.invariant.room, spare_some c);
      room_history = omega (arith, c.record.ensures.len, c.record.ensures.room, c.self.invariant.room_history, spare_some c);
      room_lists = omega (arith, c.self.invariant.room_lists, spare_some c);
      room_chunks = omega (arith, c.take.ensures.len, c.take.ensures.capacity, c.self.invariant.room_chunks, spare_some c);
    }

pub invariant_of-self : goal.invariant_of-self
unfolding after_call
invariant_of-self c = next_heap c.self.inside (after_call c) (entry_of c) (after_unchunk (known c).0.addr (known c).0.len (plain_of c.self.inside)) c.self.invariant (is_next c)

pub returns : goal.returns
unfolding after_call entry_of
returns c =
    let d = (goal.at.returns c).After-self-1 in
    let there : chunk_of c.args.list c.args.self.now.plain ≡ Some (known d).0 = ap (λ v. chunk_of c.args.list v.plain) (sym c.self.view_is) ∙ (known d).1 in
    subst (λ o. IfSome o (λ x. IsCall c.args.caller (Unchunk x.addr x.len) Done c.args.self.now (view_of (after_call d)))) (sym there)
    (next_call c.self.inside (after_call d) (entry_of d) (after_unchunk (known d).0.addr (known d).0.len (plain_of c.self.inside)) c.self.invariant (is_next d) c.args.self.now c.self.view_is
    (omega (arith, c.requires.spare, ap (λ v. v.spare) c.self.view_is)))
