use Rattle.std.proofs.Common.{◌≡◌, ◌-◌, ◌≤◌, ◌++◌, ◌∷◌, [], false, refl, ap, subst, ◌∙◌, arith}
use Rattle.std.proofs.lemmas.Bool.{false≢true}
use Rattle.std.specs.List.{find}
use Rattle.std.specs.Result.{result_err}
use Rattle.hp_heap.specs.declared.body.Body.TheInside.{Inside}
use Rattle.hp_heap.specs.declared.entry.Entry.{Entry}
use Rattle.hp_heap.specs.declared.entry.HeapCall.TheVariants.{Free}
use Rattle.hp_heap.specs.Joining.{after_free, has_data_at}
use Rattle.hp_heap.specs.Headers.{spans_of}
use Rattle.hp_heap.specs.PageLists.{AreNoted}
use Rattle.hp_heap.specs.Freeing.{fault_answer, free_fault}
use Rattle.hp_heap.specs.Step.{after, answer_of}
use Rattle.hp_heap.specs.History.{after_entry}
use Rattle.hp_heap.specs.Inside.{plain_of}
use Rattle.hp_heap.proofs.FreeFacts.FreeTiling.{free-tiled}
use Rattle.hp_heap.proofs.FreeFacts.FreeingLemmas.{freed_ranges, freed_insertions, freed_fault, after_free-kept, free_answered, freed_more}
use Rattle.hp_heap.proofs.HistoryFacts.HeapLaw.{IsNext, next_heap, next_call, of_heap}
use Rattle.hp_heap.proofs.body.Body.free.Goals as goal
use Rattle.hp_heap.proofs.body.Body.free.Goals.{After-self-1}

pub release-freed-requires-clause-of_heap : goal.release-freed-requires-clause-of_heap
release-freed-requires-clause-of_heap c = of_heap c.self.inside c.self.invariant

-- the fields afterwards, and the entry
after_call : After-self-1 → Inside
after_call c = record c.self.inside { headers = c.release-freed.new.headers; history = c.record.new.history; spare = c.self.inside.spare - 1 }

entry_of : After-self-1 → Entry
entry_of c = record { caller = c.args.caller; call = Free c.args.addr false; answer = fault_answer (result_err c.release-freed.result) }

fault_is : (c : After-self-1) → result_err c.release-freed.result ≡ free_fault c.args.addr (plain_of c.self.inside)
fault_is c = c.release-freed.ensures.fault refl
    ∙ freed_fault (plain_of c.self.inside) c.args.addr false (spans_of c.self.inside.headers.items) c.self.inside.headers.insertions c.self.invariant.ranges c.self.invariant.insertions

spare_some : (c : After-self-1) → 1 ≤ c.self.inside.spare
spare_some c = omega (arith, c.requires.spare, ap (λ v. v.spare) c.self.view_is)

is_next : (c : After-self-1) → IsNext c.self.inside (after_call c) (entry_of c) (after_free c.args.addr false (plain_of c.self.inside))
unfolding after_call entry_of after_entry after answer_of
is_next c = record {
  step = refl;
  legal = record { allowed = λ e. absurd (false≢true e); answered = ap fault_answer (fault_is c) ∙ free_answered (plain_of c.self.inside) c.args.addr };
  index = refl;
  serves = refl;
  history = c.record.ensures.entry ∙ ap (λ answer. c.self.inside.history.items ++ record { caller = c.args.caller; call = Free c.args.addr false; answer = answer } ∷ []) c.fault_answer.ensures;
  ranges = c.release-freed.ensures.ranges ∙ freed_ranges (plain_of c.self.inside) c.args.addr false (spans_of c.self.inside.headers.items) c.self.inside.headers.insertions c.self.invariant.ranges c.self.invariant.insertions;
  apart = c.release-freed.ensures.apart;
  exact = c.sound.ensures;
  insertions = c.release-freed.ensures.insertions ∙ freed_insertions (plain_of c.self.inside) c.args.addr false (spans_of c.self.inside.headers.items) c.self.inside.headers.insertions c.self.invariant.ranges c.self.invariant.insertions;
  name = c.self.invariant.name ∙ (after_free-kept (plain_of c.self.inside) c.args.addr false).name;
  socket = c.self.invariant.socket ∙ (after_free-kept (plain_of c.self.inside) c.args.addr false).socket;
  chunks = c.self.invariant.chunks ∙ (after_free-kept (plain_of c.self.inside) c.args.addr false).chunks;
  lists = subst (λ ps. AreNoted ps c.self.inside.page_lists.items) (after_free-kept (plain_of c.self.inside) c.args.addr false).pages c.self.invariant.lists;
  tiled = free-tiled c.args.addr false (plain_of c.self.inside) c.self.invariant.tiled;
  counted = omega (
    arith,
    freed_more (find (has_data_at c.args.addr) (spans_of c.self.inside.headers.items)) false c.self.inside.headers.insertions c.release-freed.new.headers.insertions c.release-freed.ensures.insertions,
    c.self.invariant.counted,
    c.record.ensures.len,
  );
  room = omega (arith, c.release-freed.ensures.spare, c.self.invariant.room, spare_some c);
  room_history = omega (arith, c.record.ensures.len, c.record.ensures.room, c.self.invariant.room_history, spare_some c);
  room_lists = omega (arith, c.self.invariant.room_lists, spare_some c);
  room_chunks = omega (arith, c.self.invariant.room_chunks, spare_some c);
}

pub invariant_of-self : goal.invariant_of-self
unfolding after_call
invariant_of-self c = next_heap c.self.inside (after_call c) (entry_of c) (after_free c.args.addr false (plain_of c.self.inside)) c.self.invariant (is_next c)

pub returns-clause-step : goal.returns-clause-step
unfolding after_call entry_of
returns-clause-step c =
    next_call c.self.inside (after_call c) (entry_of c) (after_free c.args.addr false (plain_of c.self.inside)) c.self.invariant (is_next c) c.args.self.now c.self.view_is
    (omega (arith, c.requires.spare, ap (λ v. v.spare) c.self.view_is))

pub returns-clause-refused : goal.returns-clause-refused
returns-clause-refused c = fault_is (goal.at.returns-clause-refused c).After-self-1 ∙ ap (λ v. free_fault c.args.addr v.plain) c.self.view_is
