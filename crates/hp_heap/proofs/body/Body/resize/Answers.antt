use Rattle.std.proofs.Common.{◌-◌, ◌≤◌, ◌++◌, ◌∷◌, [], refl, sym, ap, subst, ◌∙◌, arith, IsSome}
use Rattle.std.specs.List.{find}
use Rattle.hp_heap.specs.declared.body.Body.TheInside.{Inside}
use Rattle.hp_heap.specs.declared.entry.Entry.{Entry}
use Rattle.hp_heap.specs.declared.entry.HeapCall.TheVariants.{Resize}
use Rattle.hp_heap.specs.Joining.{busy_at, has_data_at}
use Rattle.hp_heap.specs.Resizing.{after_resize, can_resize, CanAskSize}
use Rattle.hp_heap.specs.Headers.{spans_of}
use Rattle.hp_heap.specs.Step.{after, answer_of, resize_answer}
use Rattle.hp_heap.specs.History.{after_entry}
use Rattle.hp_heap.specs.Inside.{plain_of}
use Rattle.hp_heap.specs.PageLists.{AreNoted}
use Rattle.hp_heap.proofs.ResizeFacts.ResizeTiling.{resize-tiled}
use Rattle.hp_heap.proofs.ResizeFacts.ResizeLaw.{resizes_alone}
use Rattle.hp_heap.proofs.ResizeFacts.ResizedLemmas.{IsResizeOf, data_resized, resize_same}
use Rattle.hp_heap.proofs.HistoryFacts.HeapLaw.{IsNext, next_heap, next_call, next_plain, of_heap}
use Rattle.hp_heap.proofs.body.Body.resize.Goals as goal
use Rattle.hp_heap.proofs.body.Body.resize.Goals.{After-self-1}

pub resize_data-had-requires-clause-of_heap : goal.resize_data-had-requires-clause-of_heap
resize_data-had-requires-clause-of_heap c = of_heap c.self.inside c.self.invariant

pub resize_data-had-requires-clause-there : goal.resize_data-had-requires-clause-there
unfolding busy_at
resize_data-had-requires-clause-there c =
    subst (λ zs. IsSome (find (has_data_at c.args.addr) zs)) (sym (c.self.invariant.ranges ∙ ap (λ v. v.plain.ranges) c.self.view_is)) c.requires.allowed.busy

-- the fields afterwards, and the entry
after_call : After-self-1 → Inside
after_call c = record c.self.inside { headers = c.resize_data-had.new.headers; history = c.record.new.history; spare = c.self.inside.spare - 1 }

entry_of : After-self-1 → Entry
entry_of c = record { caller = c.args.caller; call = Resize c.args.addr c.args.size; answer = resize_answer c.resize_data-had.result }

can : (c : After-self-1) → CanAskSize c.args.addr c.args.size (plain_of c.self.inside)
can c = subst (λ heap. CanAskSize c.args.addr c.args.size heap) (sym (ap (λ v. v.plain) c.self.view_is)) c.requires.allowed

done : (c : After-self-1) → IsResizeOf c.args.addr c.args.size (plain_of c.self.inside) (spans_of c.resize_data-had.new.headers.items) c.resize_data-had.new.headers.insertions c.resize_data-had.result
done c =
    data_resized c.args.addr c.args.size (plain_of c.self.inside) c.self.invariant.tiled (can c) c.self.inside.headers c.resize_data-had.new.headers c.self.invariant.apart c.self.invariant.ranges
    c.self.invariant.insertions c.resize_data-had.result c.resize_data-had.ensures.resized

spare_some : (c : After-self-1) → 1 ≤ c.self.inside.spare
spare_some c = omega (arith, c.requires.spare, ap (λ v. v.spare) c.self.view_is)

is_next : (c : After-self-1) → IsNext c.self.inside (after_call c) (entry_of c) (after_resize c.args.addr c.args.size (plain_of c.self.inside))
unfolding after_call entry_of after_entry after answer_of
is_next c = record {
  step = refl;
  legal = record { allowed = can c; answered = ap resize_answer (done c).had_is };
  index = refl;
  serves = refl;
  history = c.record.ensures.entry ∙ ap (λ answer. c.self.inside.history.items ++ record { caller = c.args.caller; call = Resize c.args.addr c.args.size; answer = answer } ∷ []) c.resize_answer.ensures;
  ranges = (done c).ranges_are;
  apart = c.resize_data-had.ensures.apart;
  exact = c.sound.ensures;
  insertions = (done c).insertions_are;
  name = c.self.invariant.name ∙ sym (resize_same (plain_of c.self.inside) c.args.addr c.args.size).name;
  socket = c.self.invariant.socket ∙ sym (resize_same (plain_of c.self.inside) c.args.addr c.args.size).socket;
  chunks = c.self.invariant.chunks ∙ sym (resize_same (plain_of c.self.inside) c.args.addr c.args.size).chunks;
  lists = subst (λ ps. AreNoted ps c.self.inside.page_lists.items) (sym (resize_same (plain_of c.self.inside) c.args.addr c.args.size).pages) c.self.invariant.lists;
  tiled = resize-tiled c.args.addr c.args.size (plain_of c.self.inside) c.self.invariant.tiled (can c);
  counted = omega (arith, c.resize_data-had.ensures.more, c.self.invariant.counted, c.record.ensures.len);
  room = omega (arith, c.resize_data-had.ensures.spare, c.self.invariant.room, spare_some c);
  room_history = omega (arith, c.record.ensures.len, c.record.ensures.room, c.self.invariant.room_history, spare_some c);
  room_lists = omega (arith, c.self.invariant.room_lists, spare_some c);
  room_chunks = omega (arith, c.self.invariant.room_chunks, spare_some c);
}

pub invariant_of-self : goal.invariant_of-self
unfolding after_call
invariant_of-self c = next_heap c.self.inside (after_call c) (entry_of c) (after_resize c.args.addr c.args.size (plain_of c.self.inside)) c.self.invariant (is_next c)

pub returns-clause-step : goal.returns-clause-step
unfolding after_call entry_of
returns-clause-step c =
    next_call c.self.inside (after_call c) (entry_of c) (after_resize c.args.addr c.args.size (plain_of c.self.inside)) c.self.invariant (is_next c) c.args.self.now c.self.view_is
    (omega (arith, c.requires.spare, ap (λ v. v.spare) c.self.view_is))

pub returns-clause-had : goal.returns-clause-had
returns-clause-had c = (done (goal.at.returns-clause-had c).After-self-1).had_is ∙ ap (λ v. can_resize c.args.addr c.args.size v.plain) c.self.view_is

pub returns-clause-refused : goal.returns-clause-refused
unfolding after_call
returns-clause-refused c = λ refused.
    let d = (goal.at.returns-clause-refused c).After-self-1 in
    next_plain c.self.inside (after_call d) (entry_of d) (after_resize c.args.addr c.args.size (plain_of c.self.inside)) c.self.invariant (is_next d)
    ∙ (resizes_alone c.args.addr c.args.size (plain_of c.self.inside) c.self.invariant.tiled (can d)).refused (sym (done d).had_is ∙ refused)
    ∙ ap (λ v. v.plain) c.self.view_is
