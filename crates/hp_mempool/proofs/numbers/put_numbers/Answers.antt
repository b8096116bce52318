use Rattle.std.proofs.Common.{ℕ, ◌+◌, List, drop, ap, sym, subst, ◌∙◌, arith}
use Rattle.std.proofs.lemmas.List.{drop_more}
use Rattle.crossbeam_queue.specs.Passes.{ruled_capacity, view}
use Rattle.hp_mempool.specs.declared.view.View.{View}
use Rattle.hp_mempool.specs.Views.{CanPut, after_puts}
use Rattle.hp_mempool.proofs.PutLemmas.{put_one}
use Rattle.hp_mempool.proofs.numbers.put_numbers.Goals as goal

pub put_number-requires-clause-total : goal.put_number-requires-clause-total
put_number-requires-clause-total g c = c.loop-number.invariant.may.total

pub put_number-requires-clause-has : goal.put_number-requires-clause-has
put_number-requires-clause-has g c =
    let at = c.loop-number.number-index in
    let numbers = c.args.numbers.now in
    let v = view c.loop-number.token in
    let next = drop_more numbers at 0 (omega arith) in
    let may = subst (λ (l : List ℕ). CanPut (ruled_capacity c.args.queue.now) l v) next c.loop-number.invariant.may in
    (put_one _ _ _ v may).0

pub loop-number-preserved : goal.loop-number-preserved
loop-number-preserved g c =
    let at = c.loop-number.number-index in
    let numbers = c.args.numbers.now in
    let v = view c.loop-number.token in
    let inv = c.loop-number.invariant in
    let next = drop_more numbers at 0 (omega arith) in
    let may = subst (λ (l : List ℕ). CanPut (ruled_capacity c.args.queue.now) l v) next inv.may in
    let put = c.put_number.ensures.put in
    let same = c.put_number.ensures.queue in
    record {
      same = (same.0 ∙ inv.same.0, same.1 ∙ inv.same.1, same.2 ∙ inv.same.2);
      may = subst (λ (w : View). CanPut (ruled_capacity c.args.queue.now) (drop (at + 1) numbers) w) (sym put) (put_one _ _ _ v may).1;
      rest = ap (after_puts (drop (at + 1) numbers)) put ∙ ap (λ (l : List ℕ). after_puts l v) (sym next) ∙ inv.rest;
    }
