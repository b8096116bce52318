use Rattle.std.proofs.Common.{◌≡◌, ◌∷◌, [], ◌++◌, Some, sym, ap, subst, ◌∙◌, rules}
use Rattle.hp_elem.specs.Items.{Items}
use Rattle.hp_heap.specs.Headers.{spans_of}
use Rattle.hp_heap.specs.Walk.{IsWalk, items_seen, rest_from}
use Rattle.hp_heap.proofs.WalkLemmas.{step_at, spans_step}
use Rattle.hp_heap.proofs.elements.Elements.next.Goals as goal

pub invariant_of-self : goal.invariant_of-self
invariant_of-self c =
    let there : c.self.inside.headers ≡ Some c.in_ok-headers.headers = search rules in
    let seen : items_seen c.self.inside.headers ≡ c.in_ok-headers.headers.now.items = ap items_seen there in
    let walk = subst (λ (items : Items). IsWalk items c.self.inside.next) seen c.self.invariant in
    let here : c.self.inside.next ≡ Some c.in_ok-key.key = search rules in
    let step = step_at c.in_ok-headers.headers.now.items c.self.inside.next c.in_ok-key.key c.get-node.result.now walk.passed walk.apart here c.get-node.ensures.stands walk.is in
    subst (λ (items : Items). IsWalk items c.get-node.result.now.next) (sym seen) (record { apart = walk.apart; passed = walk.passed ++ step.element ∷ []; is = step.now })

pub returns : goal.returns
returns c =
    let there : c.self.inside.headers ≡ Some c.in_ok-headers.headers = search rules in
    let seen : items_seen c.self.inside.headers ≡ c.in_ok-headers.headers.now.items = ap items_seen there in
    let walk = subst (λ (items : Items). IsWalk items c.self.inside.next) seen c.self.invariant in
    let here : c.self.inside.next ≡ Some c.in_ok-key.key = search rules in
    let step = step_at c.in_ok-headers.headers.now.items c.self.inside.next c.in_ok-key.key c.get-node.result.now walk.passed walk.apart here c.get-node.ensures.stands walk.is in
    sym c.self.view_is
    ∙ subst (λ (items : Items). spans_of (rest_from c.self.inside.next items) ≡ c.get-node.result.now.span ∷ spans_of (rest_from c.get-node.result.now.next items)) (sym seen)
    (spans_step c.in_ok-headers.headers.now.items c.self.inside.next c.get-node.result.now walk.passed step)
