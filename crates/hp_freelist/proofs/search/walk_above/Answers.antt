use Rattle.std.proofs.Common.{ℕ, ◌-◌, Bool, List, None, Some, subst, sym, refl, inl, inr, arith}
use Rattle.hp_chain.specs.Chain.{Keyed}
use Rattle.hp_freelist.specs.Search.{keys_of, IsFirstPassing, SmallFails}
use Rattle.hp_freelist.proofs.SearchLemmas.{stepped, has_read, has_behind, left_none, left_missing}
use Rattle.hp_freelist.proofs.search.walk_above.Goals as goal

pub passes-requires-clause-callable : goal.passes-requires-clause-callable
passes-requires-clause-callable g c =
    c.loop-step.invariant.0 c.in-Some.key
    (has_read c.args.links.now.items c.deref.result.now c.args.links.now.len c.loop-step._step c.in-Some.key c.loop-step.next c.in-Some-get.link.now
    c.deref.ensures.value (omega arith) c.in-Some.is c.in-Some-get.ensures.lookup.0 c.in-Some-get.ensures.lookup.1)

pub passes-requires-clause-small : goal.passes-requires-clause-small
passes-requires-clause-small g c =
    let here = stepped c.args.links.now.items c.deref.result.now c.args.links.now.len c.loop-step._step c.in-Some.key c.loop-step.next c.in-Some-get.link.now
    c.deref.ensures.value (omega arith) c.in-Some.is c.in-Some-get.ensures.lookup.0 c.in-Some-get.ensures.lookup.1 in
    (subst (λ (zs : List (Keyed ℕ)). SmallFails (goal.F-post g c.args.test.now) c.args.most zs) here c.loop-step.invariant.1).0

pub loop-step-preserved : goal.loop-step-preserved
loop-step-preserved g c =
    let here = stepped c.args.links.now.items c.deref.result.now c.args.links.now.len c.loop-step._step c.in-Some.key c.loop-step.next c.in-Some-get.link.now
    c.deref.ensures.value (omega arith) c.in-Some.is c.in-Some-get.ensures.lookup.0 c.in-Some-get.ensures.lookup.1 in (
      λ key has. c.loop-step.invariant.0 key
          (has_behind c.args.links.now.items c.deref.result.now c.args.links.now.len c.loop-step._step c.in-Some.key c.loop-step.next c.in-Some-get.link.now
          c.deref.ensures.value (omega arith) c.in-Some.is c.in-Some-get.ensures.lookup.0 c.in-Some-get.ensures.lookup.1 key has),
      (subst (λ (zs : List (Keyed ℕ)). SmallFails (goal.F-post g c.args.test.now) c.args.most zs) here c.loop-step.invariant.1).1,
      λ found later. c.loop-step.invariant.2 found (subst (λ (zs : List (Keyed ℕ)). IsFirstPassing (goal.F-post g c.args.test.now) (keys_of zs) found) (sym here) (inr (subst (λ (b : Bool). goal.F-post g c.args.test.now c.in-Some.key b) c.if-passes.false c.passes.ensures, later))),
    )

pub returns-then-passes : goal.returns-then-passes
returns-then-passes g c =
    let here = stepped c.args.links.now.items c.deref.result.now c.args.links.now.len c.loop-step._step c.in-Some.key c.loop-step.next c.in-Some-get.link.now
    c.deref.ensures.value (omega arith) c.in-Some.is c.in-Some-get.ensures.lookup.0 c.in-Some-get.ensures.lookup.1 in
    c.loop-step.invariant.2 (Some c.in-Some.key)
    (subst (λ (zs : List (Keyed ℕ)). IsFirstPassing (goal.F-post g c.args.test.now) (keys_of zs) (Some c.in-Some.key)) (sym here) (inl (subst (λ (b : Bool). goal.F-post g c.args.test.now c.in-Some.key b) c.if-passes.true c.passes.ensures, refl)))

pub returns-in_default : goal.returns-in_default
returns-in_default g c =
    c.loop-step.invariant.2 None
    (subst (λ (zs : List (Keyed ℕ)). IsFirstPassing (goal.F-post g c.args.test.now) (keys_of zs) None)
    (sym (left_none c.args.links.now.items (c.args.links.now.len - c.loop-step._step) c.loop-step.next c.in_default.is)) refl)

pub returns-in_default-get : goal.returns-in_default-get
returns-in_default-get g c =
    c.loop-step.invariant.2 None
    (subst (λ (zs : List (Keyed ℕ)). IsFirstPassing (goal.F-post g c.args.test.now) (keys_of zs) None)
    (sym (left_missing c.args.links.now.items c.deref.result.now (c.args.links.now.len - c.loop-step._step) c.in-Some.key c.loop-step.next c.deref.ensures.value c.in-Some.is c.in_default-get.ensures.lookup.0)) refl)
