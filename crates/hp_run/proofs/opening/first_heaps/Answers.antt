use Rattle.std.proofs.Common.{◌≡◌, ◌∷◌, [], List, ℕ, Option, ap, ◌∙◌, sym, subst, length, length-append, arith}
use Rattle.std.specs.List.{slice_get}
use Rattle.hp_heap.specs.History.{HeapView}
use Rattle.hp_proc.specs.Heaps.{sockets_of}
use Rattle.hp_run.specs.Opening.{IsFirstHeap}
use Rattle.hp_run.proofs.OpeningLemmas.{AreOpened, first_all, opened_push}
use Rattle.hp_run.proofs.opening.first_heaps.Goals as goal

pub loop-index-init : goal.loop-index-init
loop-index-init c = record {
  count = ap (λ (heaps : List HeapView). length heaps) c.in_ok-heaps.ensures.items;
  opened = subst (λ (heaps : List HeapView). AreOpened (sockets_of c.args.workload.now.pools.items) 0 heaps)
      (sym c.in_ok-heaps.ensures.items) tt;
}

pub loop-index-preserved : goal.loop-index-preserved
loop-index-preserved c =
    let was = c.loop-index.invariant in
    let index = c.loop-index.index in
    let heaps = c.loop-index.heaps.items in
    let heap = c.first_heap.result in
    let sockets : List ℕ = sockets_of c.args.workload.now.pools.items in
    let same : c.deref-in-loop-index.result.now ≡ sockets =
    c.deref-in-loop-index.ensures.value ∙ c.in_ok-sockets.ensures ∙ ap sockets_of c.deref.ensures.value in
    let serves : c.socket_at-serves.result ≡ slice_get sockets index =
    c.socket_at-serves.ensures ∙ ap (λ (sockets : List ℕ). slice_get sockets index) same in
    record {
      count = omega (
        arith,
        ap (λ (heaps : List HeapView). length heaps) c.in_ok-push.ensures.items,
        length-append heaps (heap ∷ []),
        was.count,
      );
      opened = subst (λ (heaps : List HeapView). AreOpened sockets 0 heaps) (sym c.in_ok-push.ensures.items)
          (opened_push sockets 0 index heaps heap (omega (arith, was.count)) was.opened
          (subst (λ (serves : Option ℕ). IsFirstHeap index serves heap) serves c.first_heap.ensures));
    }

pub returns : goal.returns
returns c =
    first_all c.args.workload.now c.loop-index.heaps.items c.loop-index.invariant.opened
    (omega (arith, c.loop-index.invariant.count, c.loop-index-test.false, c.loop-index.auto.index-end))
