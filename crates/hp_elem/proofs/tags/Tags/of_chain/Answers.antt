use Rattle.std.proofs.Common.{◌≡◌, ℕ, Option, length, ap, ◌∙◌, sym, subst, arith}
use Rattle.hp_elem.specs.Tags.{number_at, with_entry}
use Rattle.hp_elem.proofs.FindLemmas.{IsFilling, filling_has, filling_below, filled_more, filled_none, filled_all}
use Rattle.hp_elem.proofs.tags.Tags.of_chain.Goals as goal

pub loop-step-preserved : goal.loop-step-preserved
loop-step-preserved c =
    let filling = c.loop-step.invariant.0 in
    let below = filling_below c.args.chain.now.items (number_at c.loop-step.tags) c.loop-step.next c.loop-step._step filling c.in-Some.key c.args.chain.now.key_end c.in-Some.is c.requires.ordered in
    let filed = c.set.ensures.number (omega (arith, below, c.loop-step.invariant.1)) in (
      filled_more c.args.chain.now.items (number_at c.loop-step.tags) c.loop-step.next c.loop-step._step filling c.in-Some.key (number_at c.set.new.self) c.get-node.result.now
          c.in-Some.is c.requires.ordered.apart c.get-node.ensures.stands
          (filed ∙ ap (λ (n : Option ℕ). with_entry c.in-Some.key n (number_at c.loop-step.tags)) c.number_of.ensures),
      c.set.ensures.len ∙ c.loop-step.invariant.1,
    )
