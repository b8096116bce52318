use Rattle.std.proofs.Common.{◌≡◌, ◌-◌, ◌≤◌, ◌++◌, ◌∷◌, [], refl, ap, subst, ◌∙◌, arith, MatchOption}
use Rattle.hp_heap.specs.declared.body.Body.TheInside.{Inside}
use Rattle.hp_heap.specs.declared.entry.Entry.{Entry}
use Rattle.hp_heap.specs.declared.entry.HeapCall.TheVariants.{Cut}
use Rattle.hp_heap.specs.Cut.{after_cut}
use Rattle.hp_heap.specs.Laws.{HasNoPagesAt, IsRunCut}
use Rattle.hp_heap.specs.Step.{after, answer_of, run_answer}
use Rattle.hp_heap.specs.History.{after_entry}
use Rattle.hp_heap.specs.Inside.{plain_of}
use Rattle.hp_heap.proofs.CutFacts.CutTiling.{cut-tiled}
use Rattle.hp_heap.proofs.CutFacts.CutHeap.{IsAfterCut, IsKeptByCut, listed_of, cut_after, cut_kept, answered_run}
use Rattle.hp_heap.proofs.HistoryFacts.HeapLaw.{IsNext, next_heap, next_call, of_heap}
use Rattle.hp_heap.proofs.body.Body.cut_pages.Goals as goal
use Rattle.hp_heap.proofs.body.Body.cut_pages.Goals.{After-self-1}

pub cut-run-requires-clause-of_heap : goal.cut-run-requires-clause-of_heap
cut-run-requires-clause-of_heap c = of_heap c.self.inside c.self.invariant

pub cut-run-requires-clause-listed : goal.cut-run-requires-clause-listed
cut-run-requires-clause-listed c = listed_of c.self.inside c.deref.result.now c.is_some.result c.self.invariant c.deref.ensures.value c.is_some.ensures

-- the fields afterwards, and the entry
after_call : After-self-1 → Inside
after_call c = record c.self.inside { headers = c.cut-run.new.headers; history = c.record.new.history; spare = c.self.inside.spare - 1 }

entry_of : After-self-1 → Entry
entry_of c = record { caller = c.args.caller; call = Cut c.args.addr; answer = run_answer c.cut-run.result }

done : (c : After-self-1) → IsAfterCut c.args.addr (plain_of c.self.inside) c.cut-run.new.headers c.cut-run.result
done c = cut_after c.self.inside c.args.addr c.deref.result.now c.is_some.result c.cut-run.new.headers c.cut-run.result c.self.invariant c.deref.ensures.value c.is_some.ensures c.cut-run.ensures.cut

is_next : (c : After-self-1) → IsNext c.self.inside (after_call c) (entry_of c) (after_cut c.args.addr (plain_of c.self.inside))
unfolding after_call entry_of after_entry after answer_of
is_next c = record {
  step = refl;
  legal = record { allowed = tt; answered = ap run_answer (done c).run };
  index = refl;
  serves = refl;
  history = c.record.ensures.entry ∙ ap (λ answer. c.self.inside.history.items ++ record { caller = c.args.caller; call = Cut c.args.addr; answer = answer } ∷ []) c.run_answer.ensures;
  ranges = (done c).ranges;
  apart = c.cut-run.ensures.apart;
  exact = c.sound.ensures;
  insertions = (done c).insertions;
  name = c.self.invariant.name ∙ (kept c).name;
  socket = c.self.invariant.socket ∙ (kept c).socket;
  chunks = c.self.invariant.chunks ∙ (kept c).chunks;
  lists = (kept c).noted;
  tiled = cut-tiled c.args.addr (plain_of c.self.inside) c.self.invariant.tiled;
  counted = omega (arith, c.cut-run.ensures.more, c.self.invariant.counted, c.record.ensures.len);
  room = omega (arith, c.cut-run.ensures.spare, c.self.invariant.room, spare_some c);
  room_history = omega (arith, c.record.ensures.len, c.record.ensures.room, c.self.invariant.room_history, spare_some c);
  room_lists = omega (arith, c.self.invariant.room_lists, spare_some c);
  room_chunks = omega (arith, c.self.invariant.room_chunks, spare_some c);
}
  where
    spare_some : (c : After-self-1) → 1 ≤ c.self.inside.spare
    spare_some c = omega (arith, c.requires.spare, ap (λ v. v.spare) c.self.view_is)

    kept : (c : After-self-1) → IsKeptByCut (plain_of c.self.inside) (after_cut c.args.addr (plain_of c.self.inside)) c.self.inside.page_lists.items
    kept c = cut_kept (plain_of c.self.inside) c.self.inside.page_lists.items c.args.addr c.self.invariant.lists

pub invariant_of-self : goal.invariant_of-self
unfolding after_call
invariant_of-self c = next_heap c.self.inside (after_call c) (entry_of c) (after_cut c.args.addr (plain_of c.self.inside)) c.self.invariant (is_next c)

pub returns-clause-step : goal.returns-clause-step
unfolding after_call entry_of
returns-clause-step c =
    next_call c.self.inside (after_call c) (entry_of c) (after_cut c.args.addr (plain_of c.self.inside)) c.self.invariant (is_next c) c.args.self.now c.self.view_is
    (omega (arith, c.requires.spare, ap (λ v. v.spare) c.self.view_is))

pub returns-clause-pages : goal.returns-clause-pages
returns-clause-pages c =
    let plain : plain_of c.self.inside ≡ c.args.self.now.plain = ap (λ v. v.plain) c.self.view_is in
    let run = (done (goal.at.returns-clause-pages c).After-self-1).run in
    subst (λ heap. MatchOption c.cut-run.result (HasNoPagesAt c.args.addr heap) (IsRunCut c.args.addr heap)) plain
    (answered_run (plain_of c.self.inside) c.args.addr c.cut-run.result c.self.invariant.tiled run)
