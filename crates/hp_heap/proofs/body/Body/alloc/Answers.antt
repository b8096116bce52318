use Rattle.std.proofs.Common.{◌≡◌, ◌-◌, ◌≤◌, ◌++◌, ◌∷◌, [], refl, sym, ap, subst, ◌∙◌, arith, MatchOption}
use Rattle.hp_heap.specs.declared.body.Body.TheInside.{Inside}
use Rattle.hp_heap.specs.declared.entry.Entry.{Entry}
use Rattle.hp_heap.specs.declared.entry.HeapCall.TheVariants.{Alloc}
use Rattle.hp_heap.specs.Choice.{HasNoChoice}
use Rattle.hp_heap.specs.Placing.{after_alloc, IsPlacedIn}
use Rattle.hp_heap.specs.Step.{after, answer_of, address_answer}
use Rattle.hp_heap.specs.History.{after_entry}
use Rattle.hp_heap.specs.Inside.{plain_of}
use Rattle.hp_heap.specs.PageLists.{AreNoted}
use Rattle.hp_heap.proofs.AllocFacts.AllocLaw.{alloc-tiled, allocated-is}
use Rattle.hp_heap.proofs.AllocFacts.AllocKept.{SameButElements, alloc_kept}
use Rattle.hp_heap.proofs.AllocFacts.ChosenLemmas.{IsAfter, alloc_after}
use Rattle.hp_heap.proofs.HistoryFacts.HeapLaw.{IsNext, next_heap, next_call, room_of}
use Rattle.hp_heap.proofs.body.Body.alloc.Goals as goal
use Rattle.hp_heap.proofs.body.Body.alloc.Goals.{After-self-1}

pub allocate-address-requires-clause-room : goal.allocate-address-requires-clause-room
allocate-address-requires-clause-room c = room_of c.self.inside c.self.invariant

-- the fields afterwards, and the entry
after_call : After-self-1 → Inside
after_call c = record c.self.inside { headers = c.allocate-address.new.headers; history = c.record.new.history; spare = c.self.inside.spare - 1 }

entry_of : After-self-1 → Entry
entry_of c = record { caller = c.args.caller; call = Alloc c.args.req.now c.args.tag; answer = address_answer c.allocate-address.result }

done : (c : After-self-1) → IsAfter (plain_of c.self.inside) c.args.caller.participant c.args.req.now c.args.tag c.allocate-address.new.headers c.allocate-address.result
done c =
    alloc_after c.self.inside c.args.caller.participant c.args.req.now c.args.tag c.deref.result.now c.is_some.result c.allocate-address.new.headers c.allocate-address.result c.self.invariant
    c.deref.ensures.value c.is_some.ensures c.allocate-address.ensures.allocated

is_next : (c : After-self-1) → IsNext c.self.inside (after_call c) (entry_of c) (after_alloc c.args.caller.participant c.args.req.now c.args.tag (plain_of c.self.inside))
unfolding after_call entry_of after_entry after answer_of
is_next c = record {
  step = refl;
  legal = record { allowed = tt; answered = ap address_answer (done c).address };
  index = refl;
  serves = refl;
  history = c.record.ensures.entry ∙ ap (λ answer. c.self.inside.history.items ++ record { caller = c.args.caller; call = Alloc c.args.req.now c.args.tag; answer = answer } ∷ []) c.address_answer.ensures;
  ranges = (done c).ranges;
  apart = c.allocate-address.ensures.apart;
  exact = c.sound.ensures;
  insertions = (done c).insertions;
  name = c.self.invariant.name ∙ sym (kept c).name;
  socket = c.self.invariant.socket ∙ sym (kept c).socket;
  chunks = c.self.invariant.chunks ∙ sym (kept c).chunks;
  lists = subst (λ ps. AreNoted ps c.self.inside.page_lists.items) (sym (kept c).pages) c.self.invariant.lists;
  tiled = alloc-tiled (plain_of c.self.inside) c.args.caller.participant c.args.req.now c.args.tag c.self.invariant.tiled;
  counted = omega (arith, c.allocate-address.ensures.more, c.self.invariant.counted, c.record.ensures.len);
  room = omega (arith, c.allocate-address.ensures.spare, c.self.invariant.room, spare_some c);
  room_history = omega (arith, c.record.ensures.len, c.record.ensures.room, c.self.invariant.room_history, spare_some c);
  room_lists = omega (arith, c.self.invariant.room_lists, spare_some c);
  room_chunks = omega (arith, c.self.invariant.room_chunks, spare_some c);
}
  where
    spare_some : (c : After-self-1) → 1 ≤ c.self.inside.spare
    spare_some c = omega (arith, c.requires.spare, ap (λ v. v.spare) c.self.view_is)

    kept : (c : After-self-1) → SameButElements (plain_of c.self.inside) (after_alloc c.args.caller.participant c.args.req.now c.args.tag (plain_of c.self.inside))
    kept c = alloc_kept (plain_of c.self.inside) c.args.caller.participant c.args.req.now c.args.tag

pub invariant_of-self : goal.invariant_of-self
unfolding after_call
invariant_of-self c = next_heap c.self.inside (after_call c) (entry_of c) (after_alloc c.args.caller.participant c.args.req.now c.args.tag (plain_of c.self.inside)) c.self.invariant (is_next c)

pub returns-clause-step : goal.returns-clause-step
unfolding after_call entry_of
returns-clause-step c =
    next_call c.self.inside (after_call c) (entry_of c) (after_alloc c.args.caller.participant c.args.req.now c.args.tag (plain_of c.self.inside)) c.self.invariant (is_next c) c.args.self.now c.self.view_is
    (omega (arith, c.requires.spare, ap (λ v. v.spare) c.self.view_is))

pub returns-clause-choice : goal.returns-clause-choice
returns-clause-choice c =
    let plain : plain_of c.self.inside ≡ c.args.self.now.plain = ap (λ v. v.plain) c.self.view_is in
    let address = (done (goal.at.returns-clause-choice c).After-self-1).address in
    subst (λ heap. MatchOption c.allocate-address.result (HasNoChoice c.args.caller.participant c.args.req.now heap) (IsPlacedIn c.args.caller.participant c.args.req.now heap)) plain
    (subst (λ o. MatchOption o (HasNoChoice c.args.caller.participant c.args.req.now (plain_of c.self.inside)) (IsPlacedIn c.args.caller.participant c.args.req.now (plain_of c.self.inside))) (sym address)
    (allocated-is (plain_of c.self.inside) c.args.caller.participant c.args.req.now c.self.invariant.tiled))
