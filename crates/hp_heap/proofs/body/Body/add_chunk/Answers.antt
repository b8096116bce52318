use Rattle.std.proofs.Common.{◌≡◌, ℕ, ◌+◌, ◌-◌, ◌≤◌, refl, sym, ap, subst, ◌∙◌, arith}
use Rattle.hp_base.specs.declared.span.Span.{Span}
use Rattle.hp_base.specs.declared.chunk.Chunk.{Chunk}
use Rattle.std.specs.List.{AllByRecursion}
use Rattle.hp_heap.specs.declared.body.Body.TheInside.{Inside}
use Rattle.hp_heap.specs.declared.entry.Entry.{Entry}
use Rattle.hp_heap.specs.declared.entry.HeapCall.TheVariants.{Chunk as ChunkCall}
use Rattle.hp_heap.specs.declared.entry.HeapAnswer.TheVariants.{Done}
use Rattle.hp_heap.specs.PlainHeap.{freed}
use Rattle.hp_heap.specs.Joining.{with_stretch}
use Rattle.hp_heap.specs.Chunks.{with_chunk, after_chunk, CanAddChunk}
use Rattle.hp_heap.specs.ChunkOrder.{AreRisingFrom}
use Rattle.hp_heap.specs.Allowed.{IsParticipant}
use Rattle.hp_heap.specs.Headers.{spans_of}
use Rattle.hp_heap.specs.Step.{after, answer_of}
use Rattle.hp_heap.specs.History.{after_entry}
use Rattle.hp_heap.specs.Inside.{plain_of}
use Rattle.hp_heap.proofs.ChunkFacts.ChunkTiling.{chunk-tiled, least_len}
use Rattle.hp_heap.proofs.ChunkFacts.ChunkCalls.{chunk_fits, chunk_ranges, begins_elsewhere}
use Rattle.hp_heap.proofs.HistoryFacts.HeapLaw.{IsNext, next_heap, next_call, joinable_of}
use Rattle.hp_heap.proofs.body.Body.add_chunk.Goals as goal
use Rattle.hp_heap.proofs.body.Body.add_chunk.Goals.{After-self-1}

pub insert_new-requires-clause-least : goal.insert_new-requires-clause-least
insert_new-requires-clause-least c =
    let can = (subst (λ heap. IsParticipant c.args.caller.participant × CanAddChunk c.args.chunk heap) (sym (ap (λ v. v.plain) c.self.view_is)) c.requires.allowed).1 in
    omega (arith, least_len (plain_of c.self.inside) c.args.chunk c.self.invariant.tiled can, ap (λ (r : Span). r.whole) c.whole_of.ensures)

pub insert_new-requires-clause-fits : goal.insert_new-requires-clause-fits
insert_new-requires-clause-fits c =
    let can = (subst (λ heap. IsParticipant c.args.caller.participant × CanAddChunk c.args.chunk heap) (sym (ap (λ v. v.plain) c.self.view_is)) c.requires.allowed).1 in
    chunk_fits c.self.inside c.self.invariant c.args.chunk c.whole_of.result can (ap (λ (r : Span). r.addr) c.whole_of.ensures) (ap (λ (r : Span). r.whole) c.whole_of.ensures)

pub insert_new-requires-clause-joinable : goal.insert_new-requires-clause-joinable
insert_new-requires-clause-joinable c = joinable_of c.self.inside c.self.invariant

pub put-requires-clause-rising : goal.put-requires-clause-rising
put-requires-clause-rising c = subst (λ cs. AreRisingFrom 0 cs) (sym c.self.invariant.chunks) c.self.invariant.kept.rising

pub put-requires-clause-elsewhere : goal.put-requires-clause-elsewhere
put-requires-clause-elsewhere c =
    let can = (subst (λ heap. IsParticipant c.args.caller.participant × CanAddChunk c.args.chunk heap) (sym (ap (λ v. v.plain) c.self.view_is)) c.requires.allowed).1 in
    subst (λ cs. AllByRecursion (λ (other : Chunk). other.addr ≡ c.args.chunk.addr → ⊥) cs) (sym c.self.invariant.chunks) (begins_elsewhere (plain_of c.self.inside) c.args.chunk c.self.invariant.tiled can)

pub put-requires-clause-room : goal.put-requires-clause-room
put-requires-clause-room c =
    omega (arith, c.self.invariant.room_chunks, c.requires.spare, ap (λ v. v.spare) c.self.view_is)

-- the fields afterwards, and the entry
after_call : After-self-1 → Inside
after_call c = record c.self.inside { headers = c.insert_new.new.headers; chunks = c.put.new.chunks; history = c.record.new.history; spare = c.self.inside.spare - 1 }

entry_of : After-self-1 → Entry
entry_of c = record { caller = c.args.caller; call = ChunkCall c.args.chunk; answer = Done }

allowed : (c : After-self-1) → IsParticipant c.args.caller.participant × CanAddChunk c.args.chunk (plain_of c.self.inside)
allowed c = subst (λ heap. IsParticipant c.args.caller.participant × CanAddChunk c.args.chunk heap) (sym (ap (λ v. v.plain) c.self.view_is)) c.requires.allowed

spare_some : (c : After-self-1) → 1 ≤ c.self.inside.spare
spare_some c = omega (arith, c.requires.spare, ap (λ v. v.spare) c.self.view_is)

is_next : (c : After-self-1) → IsNext c.self.inside (after_call c) (entry_of c) (after_chunk c.args.chunk (plain_of c.self.inside))
unfolding after_call entry_of after_entry after after_chunk answer_of
is_next c = record {
  step = refl;
  legal = record { allowed = allowed c; answered = refl };
  index = refl;
  serves = refl;
  history = c.record.ensures.entry;
  ranges = c.insert_new.ensures.ranges
      ∙ ap (λ (r : Span). with_stretch (freed (c.self.inside.headers.insertions + 1) r) (spans_of c.self.inside.headers.items)) c.whole_of.ensures
      ∙ chunk_ranges c.self.inside c.self.invariant c.args.chunk (allowed c).1;
  apart = c.insert_new.ensures.apart;
  exact = c.sound.ensures;
  insertions = c.insert_new.ensures.insertions ∙ ap (λ (n : ℕ). n + 1) c.self.invariant.insertions;
  name = c.self.invariant.name;
  socket = c.self.invariant.socket;
  chunks = c.put.ensures.chunks ∙ ap (with_chunk c.args.chunk) c.self.invariant.chunks;
  lists = c.self.invariant.lists;
  tiled = chunk-tiled (plain_of c.self.inside) c.args.chunk c.self.invariant.tiled (allowed c).1;
  counted = omega (arith, c.insert_new.ensures.insertions, c.self.invariant.counted, c.record.ensures.len);
  room = omega (arith, c.insert_new.ensures.spare, c.self.invariant.room, spare_some c);
  room_history = omega (arith, c.record.ensures.len, c.record.ensures.room, c.self.invariant.room_history, spare_some c);
  room_lists = omega (arith, c.self.invariant.room_lists, spare_some c);
  room_chunks = omega (arith, c.put.ensures.len, c.put.ensures.capacity, c.self.invariant.room_chunks, spare_some c);
}

pub invariant_of-self : goal.invariant_of-self
unfolding after_call
invariant_of-self c = next_heap c.self.inside (after_call c) (entry_of c) (after_chunk c.args.chunk (plain_of c.self.inside)) c.self.invariant (is_next c)

pub returns : goal.returns
unfolding after_call entry_of
returns c =
    next_call c.self.inside (after_call c) (entry_of c) (after_chunk c.args.chunk (plain_of c.self.inside)) c.self.invariant (is_next c) c.args.self.now c.self.view_is
    (omega (arith, c.requires.spare, ap (λ v. v.spare) c.self.view_is))
