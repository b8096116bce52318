use Rattle.std.proofs.Common.{◌-◌, ◌≤◌, true, refl, sym, ap, subst, ◌∙◌, arith}
use Rattle.std.specs.List.{find}
use Rattle.hp_heap.specs.declared.body.Body.TheInside.{Inside}
use Rattle.hp_heap.specs.declared.entry.Entry.{Entry}
use Rattle.hp_heap.specs.declared.entry.HeapCall.TheVariants.{Free}
use Rattle.hp_heap.specs.declared.entry.HeapAnswer.TheVariants.{Done}
use Rattle.hp_heap.specs.Joining.{after_free, has_data_at, HasZoneAt}
use Rattle.hp_heap.specs.Headers.{spans_of}
use Rattle.hp_heap.specs.PageLists.{AreNoted}
use Rattle.hp_heap.specs.Step.{after, answer_of}
use Rattle.hp_heap.specs.History.{after_entry}
use Rattle.hp_heap.specs.Inside.{plain_of}
use Rattle.hp_heap.proofs.FreeFacts.FreeTiling.{free-tiled}
use Rattle.hp_heap.proofs.FreeFacts.FreeingLemmas.{freed_ranges, freed_insertions, after_free-kept, zone_answered, freed_more}
use Rattle.hp_heap.proofs.HistoryFacts.HeapLaw.{IsNext, next_heap, next_call, of_heap}
use Rattle.hp_heap.proofs.body.Body.free_zone.Goals as goal
use Rattle.hp_heap.proofs.body.Body.free_zone.Goals.{After-self-1}

pub release-requires-clause-of_heap : goal.release-requires-clause-of_heap
release-requires-clause-of_heap c = of_heap c.self.inside c.self.invariant

-- the fields afterwards, and the entry
after_call : After-self-1 → Inside
after_call c = record c.self.inside { headers = c.release.new.headers; history = c.record.new.history; spare = c.self.inside.spare - 1 }

entry_of : After-self-1 → Entry
entry_of c = record { caller = c.args.caller; call = Free c.args.addr true; answer = Done }

has : (c : After-self-1) → HasZoneAt c.args.addr (plain_of c.self.inside)
has c = subst (λ heap. HasZoneAt c.args.addr heap) (sym (ap (λ v. v.plain) c.self.view_is)) (c.requires.allowed refl)

spare_some : (c : After-self-1) → 1 ≤ c.self.inside.spare
spare_some c = omega (arith, c.requires.spare, ap (λ v. v.spare) c.self.view_is)

is_next : (c : After-self-1) → IsNext c.self.inside (after_call c) (entry_of c) (after_free c.args.addr true (plain_of c.self.inside))
unfolding after_call entry_of after_entry after answer_of
is_next c = record {
  step = refl;
  legal = record { allowed = λ e. has c; answered = zone_answered (plain_of c.self.inside) c.args.addr (has c) };
  index = refl;
  serves = refl;
  history = c.record.ensures.entry;
  ranges = c.release.ensures.ranges ∙ freed_ranges (plain_of c.self.inside) c.args.addr true (spans_of c.self.inside.headers.items) c.self.inside.headers.insertions c.self.invariant.ranges c.self.invariant.insertions;
  apart = c.release.ensures.apart;
  exact = c.sound.ensures;
  insertions = c.release.ensures.insertions ∙ freed_insertions (plain_of c.self.inside) c.args.addr true (spans_of c.self.inside.headers.items) c.self.inside.headers.insertions c.self.invariant.ranges c.self.invariant.insertions;
  name = c.self.invariant.name ∙ (after_free-kept (plain_of c.self.inside) c.args.addr true).name;
  socket = c.self.invariant.socket ∙ (after_free-kept (plain_of c.self.inside) c.args.addr true).socket;
  chunks = c.self.invariant.chunks ∙ (after_free-kept (plain_of c.self.inside) c.args.addr true).chunks;
  lists = subst (λ ps. AreNoted ps c.self.inside.page_lists.items) (after_free-kept (plain_of c.self.inside) c.args.addr true).pages c.self.invariant.lists;
  tiled = free-tiled c.args.addr true (plain_of c.self.inside) c.self.invariant.tiled;
  counted = omega (
    arith,
    freed_more (find (has_data_at c.args.addr) (spans_of c.self.inside.headers.items)) true c.self.inside.headers.insertions c.release.new.headers.insertions c.release.ensures.insertions,
    c.self.invariant.counted,
    c.record.ensures.len,
  );
  room = omega (arith, c.release.ensures.spare, c.self.invariant.room, spare_some c);
  room_history = omega (arith, c.record.ensures.len, c.record.ensures.room, c.self.invariant.room_history, spare_some c);
  room_lists = omega (arith, c.self.invariant.room_lists, spare_some c);
  room_chunks = omega (arith, c.self.invariant.room_chunks, spare_some c);
}

pub invariant_of-self : goal.invariant_of-self
unfolding after_call
invariant_of-self c = next_heap c.self.inside (after_call c) (entry_of c) (after_free c.args.addr true (plain_of c.self.inside)) c.self.invariant (is_next c)

pub returns : goal.returns
unfolding after_call entry_of
returns c =
    next_call c.self.inside (after_call c) (entry_of c) (after_free c.args.addr true (plain_of c.self.inside)) c.self.invariant (is_next c) c.args.self.now c.self.view_is
    (omega (arith, c.requires.spare, ap (λ v. v.spare) c.self.view_is))
