use Rattle.std.proofs.Common.{◌++◌, ◌∷◌, [], sym, ap, ◌∙◌, append-nil, append_assoc}
use Rattle.hp_heap.specs.Headers.{spans_of}
use Rattle.hp_heap.proofs.WalkLemmas.{passed_none, step_at, step_smaller, spans_more, pushed_ok}
use Rattle.hp_heap.proofs.elements.append.Goals as goal

pub loop-next-init : goal.loop-next-init
loop-next-init c = ([], rw c.first-next.ensures (passed_none c.args.headers.now.items c.requires.apart), sym (append-nil c.args.out.now.items))

pub loop-next-smaller : goal.loop-next-smaller
loop-next-smaller c =
    let (passed, was, out) = c.loop-next.invariant in
    step_smaller c.args.headers.now.items c.loop-next.next c.get-node.result.now passed (step_at c.args.headers.now.items c.loop-next.next c.in-Some.key c.get-node.result.now passed c.requires.apart c.in-Some.is c.get-node.ensures.stands was)

pub loop-next-preserved : goal.loop-next-preserved
loop-next-preserved c =
    let (passed, was, out) = c.loop-next.invariant in
    let step = step_at c.args.headers.now.items c.loop-next.next c.in-Some.key c.get-node.result.now passed c.requires.apart c.in-Some.is c.get-node.ensures.stands was in
    let pushed = pushed_ok c.push.result (c.loop-next.out.items ++ (c.get-node.result.now.span ∷ [])) c.loop-next.out.items (sym c.is_err.ensures.value ∙ c.if-is_err.false) in (
      passed ++ step.element ∷ [],
      step.now,
      c.push.ensures.items ∙ pushed
          ∙ ap (λ zs. zs ++ (c.get-node.result.now.span ∷ [])) out
          ∙ append_assoc c.args.out.now.items (spans_of passed) (c.get-node.result.now.span ∷ [])
          ∙ ap (λ zs. c.args.out.now.items ++ zs) (sym (spans_more c.args.headers.now.items c.loop-next.next c.get-node.result.now passed step)),
    )
