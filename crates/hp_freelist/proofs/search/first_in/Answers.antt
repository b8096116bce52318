use Rattle.std.proofs.Common.{ℕ, ◌-◌, List, None, Some, subst, sym, refl, inl, inr, arith, of_calls}
use Rattle.hp_chain.specs.Chain.{Keyed}
use Rattle.hp_freelist.specs.Search.{keys_of, IsFirstPassing}
use Rattle.hp_freelist.proofs.SearchLemmas.{stepped, has_read, has_behind, left_none, left_missing}
use Rattle.hp_freelist.proofs.search.first_in.Goals as goal

pub test-requires : goal.test-requires
test-requires g c =
    let callable : goal.F-pre g c.args.test.now c.in-Some.key =
    c.loop-step.invariant.0 c.in-Some.key
    (has_read c.args.links.now.items c.deref.result.now c.args.links.now.len c.loop-step._step c.in-Some.key c.loop-step.next c.in-Some-get.link.now
    c.deref.ensures.value (omega arith) c.in-Some.is c.in-Some-get.ensures.lookup.0 c.in-Some-get.ensures.lookup.1) in
    search (of_calls, callable)

pub loop-step-preserved : goal.loop-step-preserved
loop-step-preserved g c =
    let here = stepped c.args.links.now.items c.deref.result.now c.args.links.now.len c.loop-step._step c.in-Some.key c.loop-step.next c.in-Some-get.link.now
    c.deref.ensures.value (omega arith) c.in-Some.is c.in-Some-get.ensures.lookup.0 c.in-Some-get.ensures.lookup.1 in (
      λ key has. c.loop-step.invariant.0 key
          (has_behind c.args.links.now.items c.deref.result.now c.args.links.now.len c.loop-step._step c.in-Some.key c.loop-step.next c.in-Some-get.link.now
          c.deref.ensures.value (omega arith) c.in-Some.is c.in-Some-get.ensures.lookup.0 c.in-Some-get.ensures.lookup.1 key has),
      λ found later. c.loop-step.invariant.1 found (subst (λ (zs : List (Keyed ℕ)). IsFirstPassing (goal.F-post g c.args.test.now) (keys_of zs) found) (sym here) (inr (c.if-test.ensures, later))),
    )

pub returns-then-test : goal.returns-then-test
returns-then-test g c =
    let here = stepped c.args.links.now.items c.deref.result.now c.args.links.now.len c.loop-step._step c.in-Some.key c.loop-step.next c.in-Some-get.link.now
    c.deref.ensures.value (omega arith) c.in-Some.is c.in-Some-get.ensures.lookup.0 c.in-Some-get.ensures.lookup.1 in
    c.loop-step.invariant.1 (Some c.in-Some.key)
    (subst (λ (zs : List (Keyed ℕ)). IsFirstPassing (goal.F-post g c.args.test.now) (keys_of zs) (Some c.in-Some.key)) (sym here) (inl (c.if-test.ensures, refl)))

pub returns-in_default : goal.returns-in_default
returns-in_default g c =
    c.loop-step.invariant.1 None
    (subst (λ (zs : List (Keyed ℕ)). IsFirstPassing (goal.F-post g c.args.test.now) (keys_of zs) None)
    (sym (left_none c.args.links.now.items (c.args.links.now.len - c.loop-step._step) c.loop-step.next c.in_default.is)) refl)

pub returns-in_default-get : goal.returns-in_default-get
returns-in_default-get g c =
    c.loop-step.invariant.1 None
    (subst (λ (zs : List (Keyed ℕ)). IsFirstPassing (goal.F-post g c.args.test.now) (keys_of zs) None)
    (sym (left_missing c.args.links.now.items c.deref.result.now (c.args.links.now.len - c.loop-step._step) c.in-Some.key c.loop-step.next c.deref.ensures.value c.in-Some.is c.in_default-get.ensures.lookup.0)) refl)
