use Rattle.std.proofs.Common.{◌-◌, refl, ap, ◌∙◌, arith}
use Rattle.hp_base.specs.declared.chunk.Chunk.{Chunk}
use Rattle.hp_heap.specs.declared.body.Body.TheInside.{Inside}
use Rattle.hp_heap.specs.declared.entry.HeapCall.{HeapCall}
use Rattle.hp_heap.specs.declared.entry.HeapCall.TheVariants.{Share}
use Rattle.hp_heap.specs.declared.entry.HeapAnswer.TheVariants.{Done}
use Rattle.hp_heap.specs.Chunks.{chunk_of, with_mark, after_share}
use Rattle.hp_heap.specs.ChunkKeeping.{with_marks_of}
use Rattle.hp_heap.specs.Allowed.{IsAllowed}
use Rattle.hp_heap.specs.Step.{after, answer_of}
use Rattle.hp_heap.proofs.ChunkFacts.ChunkCalls.{there_is, own_lists}
use Rattle.hp_heap.proofs.ChunkFacts.BesideLemmas.{HasEntry, chunk_kept, marked_heap, marked_call}
use Rattle.hp_heap.proofs.body.Body.share.Goals as goal
use Rattle.hp_heap.proofs.body.Body.share.Goals.{After-self-1}

-- the call that is made of a chunk
abbrev made : Chunk → HeapCall
made x = Share x.addr x.len

pub chunk_of-addr-requires : goal.chunk_of-addr-requires
chunk_of-addr-requires c = chunk_kept c.self.inside c.self.invariant c.args.self.now c.self.view_is c.args.caller c.args.list made c.requires.allowed

pub with_mark-requires : goal.with_mark-requires
with_mark-requires c = (there_is (λ x. IsAllowed c.args.caller.participant (made x) c.args.self.now.plain) (chunk_of c.args.list c.args.self.now.plain) c.requires.allowed).2.0

pub set_marks-requires-clause-own : goal.set_marks-requires-clause-own
set_marks-requires-clause-own c = own_lists c.self.inside c.self.invariant

pub set_marks-requires-clause-there : goal.set_marks-requires-clause-there
set_marks-requires-clause-there c = chunk_kept c.self.inside c.self.invariant c.args.self.now c.self.view_is c.args.caller c.args.list made c.requires.allowed

-- the fields afterwards, and the entry
after_call : After-self-1 → Inside
after_call c = record c.self.inside { chunks = c.set_marks.new.chunks; history = c.record.new.history; spare = c.self.inside.spare - 1 }

has_entry : (c : After-self-1) → HasEntry c.self.inside (after_call c) (record { caller = c.args.caller; call = made c.chunk_of-addr.result; answer = Done })
unfolding after_call
has_entry c = record {
  others = refl;
  history = c.record.ensures.entry;
  spare = omega (arith, c.requires.spare, ap (λ v. v.spare) c.self.view_is);
  len = c.record.ensures.len;
  room = c.record.ensures.room;
  chunk_len = c.set_marks.ensures.len;
  chunk_room = c.set_marks.ensures.capacity;
}

pub invariant_of-self : goal.invariant_of-self
unfolding after_call after after_share answer_of
invariant_of-self c =
    marked_heap c.self.inside c.self.invariant c.args.self.now c.self.view_is c.args.caller c.args.list made c.requires.allowed (with_mark c.args.caller.participant)
    (λ x allowed. allowed.1.external) (λ x. refl) (λ x. refl) c.chunk_of-addr.result c.chunk_of-addr.ensures (after_call c) (has_entry c) refl refl
    (c.set_marks.ensures.chunks ∙ ap (λ marks. with_marks_of c.args.list marks c.self.inside.chunks.items) c.with_mark.ensures)

pub returns : goal.returns
unfolding after_call after after_share answer_of
returns c =
    let d = (goal.at.returns c).After-self-1 in
    marked_call c.self.inside c.self.invariant c.args.self.now c.self.view_is c.args.caller c.args.list made c.requires.allowed (with_mark c.args.caller.participant)
    (λ x allowed. allowed.1.external) (λ x. refl) (λ x. refl) c.chunk_of-addr.result c.chunk_of-addr.ensures (after_call d) (has_entry d) refl refl
    (c.set_marks.ensures.chunks ∙ ap (λ marks. with_marks_of c.args.list marks c.self.inside.chunks.items) c.with_mark.ensures)
