-- A pass meets one pen more.
use Rattle.std.proofs.Common.{◌≡◌, ◌∙◌, ℕ, ◌<◌, List, length, set, slice_get, Some, refl, sym, ap, subst, arith}
use Rattle.std.proofs.lemmas.Option.{slice_get_read, slice_get_within}
use Rattle.hp_stats.specs.Pairs.{AreAmong}
use Rattle.hp_stats.specs.StatViews as stats
use Rattle.hp_stats.specs.StatViews.{PenView, seen_of}
use Rattle.hp_threads.proofs.Countings.{met_more, same_set}
use Rattle.hp_threads.proofs.counting.meet_pens.Goals as goal

pub loop-heap-preserved : goal.loop-heap-preserved
loop-heap-preserved g c =
    let was = c.loop-heap.invariant in
    let heap : ℕ = c.loop-heap.heap in
    let pens : List PenView = c.loop-heap.pens.items in
    let first : List PenView = c.args.pens.now.items in
    let pen : PenView = c.index_mut.result.now in
    let long : length pens ≡ length first = ap (λ (l : List PenView). length l) was.pens in
    let below : heap < length pens =
    omega (arith, c.loop-heap-test.true, c.loop-heap.auto.heap-end, c.len-heap-end.ensures, c.args.pens.now.ok.0, long) in
    let there : slice_get first heap ≡ Some pen =
    ap (λ (l : List PenView). slice_get l heap) (sym was.pens) ∙ slice_get_read pens (length pens) heap pen refl below c.index_mut.ensures.value in
    record {
      pens = ap (λ (p : PenView). set pens heap p) c.meet.ensures.pen_same ∙ (same_set pens heap pen c.index_mut.ensures.value ∙ was.pens);
      pass = c.meet.ensures.pass_same ∙ was.pass;
      met = met_more first c.args.pass heap pen there
          (subst (λ (pass : stats.PassView). AreAmong pen.published (seen_of heap pass)) was.pass c.meet.ensures.among) was.met;
    }

pub returns-clause-published : goal.returns-clause-published
returns-clause-published g c = λ heap pen there.
    let below = slice_get_within c.args.pens.now.items heap pen there in
    c.loop-heap.invariant.met heap pen
    (omega (arith, below, c.loop-heap-test.false, c.loop-heap.auto.heap-end, c.len-heap-end.ensures, c.args.pens.now.ok.0)) there
