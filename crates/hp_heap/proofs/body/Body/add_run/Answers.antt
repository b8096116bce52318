use Rattle.std.proofs.Common.{ℕ, ◌+◌, ◌-◌, ◌*◌, ◌≤◌, refl, sym, ap, subst, ◌∙◌, arith}
use Rattle.hp_heap.specs.declared.body.Body.TheInside.{Inside}
use Rattle.hp_heap.specs.declared.entry.Entry.{Entry}
use Rattle.hp_heap.specs.declared.entry.HeapCall.TheVariants.{Grow}
use Rattle.hp_heap.specs.declared.entry.HeapAnswer.TheVariants.{Done}
use Rattle.hp_heap.specs.PlainHeap.{free_range}
use Rattle.hp_heap.specs.Joining.{with_stretch}
use Rattle.hp_heap.specs.Growing.{after_grow, CanGrow}
use Rattle.hp_heap.specs.Headers.{spans_of}
use Rattle.hp_heap.specs.Step.{after, answer_of}
use Rattle.hp_heap.specs.History.{after_entry}
use Rattle.hp_heap.specs.Inside.{plain_of}
use Rattle.hp_heap.proofs.GrowLaw.{grow-tiled}
use Rattle.hp_heap.proofs.AddingLemmas.{run_fits, run_least, grow_ranges, grow_insertions, grow-kept}
use Rattle.hp_heap.proofs.CutFacts.NotedPages.{noted_grown}
use Rattle.hp_heap.proofs.HistoryFacts.HeapLaw.{IsNext, next_heap, next_call, joinable_of}
use Rattle.hp_heap.proofs.body.Body.add_run.Goals as goal
use Rattle.hp_heap.proofs.body.Body.add_run.Goals.{After-self-1}

pub insert_new-requires-clause-least : goal.insert_new-requires-clause-least
insert_new-requires-clause-least c =
    omega (
      arith,
      run_least c.args.run.now (plain_of c.self.inside) (subst (λ heap. CanGrow c.args.run.now heap) (sym (ap (λ v. v.plain) c.self.view_is)) c.requires.allowed),
      ap (λ (n : ℕ). n * c.args.run.now.page) c.from.ensures,
    )

pub insert_new-requires-clause-fits : goal.insert_new-requires-clause-fits
insert_new-requires-clause-fits c =
    run_fits c.self.inside c.args.run.now _ c.self.invariant (subst (λ heap. CanGrow c.args.run.now heap) (sym (ap (λ v. v.plain) c.self.view_is)) c.requires.allowed) refl
    (ap (λ (n : ℕ). n * c.args.run.now.page) c.from.ensures)

pub insert_new-requires-clause-joinable : goal.insert_new-requires-clause-joinable
insert_new-requires-clause-joinable c = joinable_of c.self.inside c.self.invariant

pub note-requires-clause-base : goal.note-requires-clause-base
note-requires-clause-base c = (subst (λ heap. CanGrow c.args.run.now heap) (sym (ap (λ v. v.plain) c.self.view_is)) c.requires.allowed).base

pub note-requires-clause-room : goal.note-requires-clause-room
note-requires-clause-room c = omega (arith, c.self.invariant.room_lists, c.requires.spare, ap (λ v. v.spare) c.self.view_is)

-- the fields afterwards, and the entry
after_call : After-self-1 → Inside
after_call c = record c.self.inside { headers = c.insert_new.new.headers; page_lists = c.note.new.lists; history = c.record.new.history; spare = c.self.inside.spare - 1 }

entry_of : After-self-1 → Entry
entry_of c = record { caller = c.args.caller; call = Grow c.args.run.now; answer = Done }

is_next : (c : After-self-1) → IsNext c.self.inside (after_call c) (entry_of c) (after_grow c.args.run.now (plain_of c.self.inside))
unfolding after_call entry_of after_entry after answer_of
is_next c = record {
  step = refl;
  legal = record { allowed = can c; answered = refl };
  index = refl;
  serves = refl;
  history = c.record.ensures.entry;
  ranges = c.insert_new.ensures.ranges
      ∙ ap (λ (n : ℕ). with_stretch (free_range c.args.run.now.addr (n * c.args.run.now.page) c.args.run.now.list c.args.run.now.page (c.self.inside.headers.insertions + 1)) (spans_of c.self.inside.headers.items)) c.from.ensures
      ∙ grow_ranges c.self.inside c.args.run.now c.self.invariant;
  apart = c.insert_new.ensures.apart;
  exact = c.sound.ensures;
  insertions = c.insert_new.ensures.insertions ∙ grow_insertions c.self.inside c.args.run.now c.self.invariant;
  name = c.self.invariant.name ∙ (grow-kept (plain_of c.self.inside) c.args.run.now).name;
  socket = c.self.invariant.socket ∙ (grow-kept (plain_of c.self.inside) c.args.run.now).socket;
  chunks = c.self.invariant.chunks ∙ (grow-kept (plain_of c.self.inside) c.args.run.now).chunks;
  lists = noted_grown (plain_of c.self.inside) c.args.run.now (can c) c.self.inside.page_lists.items c.note.new.lists.items c.note.ensures.noted c.self.invariant.lists;
  tiled = grow-tiled (plain_of c.self.inside) c.args.run.now c.self.invariant.tiled (can c);
  counted = omega (arith, c.insert_new.ensures.insertions, c.self.invariant.counted, c.record.ensures.len);
  room = omega (arith, c.insert_new.ensures.spare, c.self.invariant.room, spare_some c);
  room_history = omega (arith, c.record.ensures.len, c.record.ensures.room, c.self.invariant.room_history, spare_some c);
  room_lists = omega (arith, c.note.ensures.len, c.note.ensures.capacity, c.self.invariant.room_lists, spare_some c);
  room_chunks = omega (arith, c.self.invariant.room_chunks, spare_some c);
}
  where
    spare_some : (c : After-self-1) → 1 ≤ c.self.inside.spare
    spare_some c = omega (arith, c.requires.spare, ap (λ v. v.spare) c.self.view_is)

    can : (c : After-self-1) → CanGrow c.args.run.now (plain_of c.self.inside)
    can c = subst (λ heap. CanGrow c.args.run.now heap) (sym (ap (λ v. v.plain) c.self.view_is)) c.requires.allowed

pub invariant_of-self : goal.invariant_of-self
unfolding after_call
invariant_of-self c = next_heap c.self.inside (after_call c) (entry_of c) (after_grow c.args.run.now (plain_of c.self.inside)) c.self.invariant (is_next c)

pub returns : goal.returns
unfolding after_call entry_of
returns c =
    next_call c.self.inside (after_call c) (entry_of c) (after_grow c.args.run.now (plain_of c.self.inside)) c.self.invariant (is_next c) c.args.self.now c.self.view_is
    (omega (arith, c.requires.spare, ap (λ v. v.spare) c.self.view_is))
