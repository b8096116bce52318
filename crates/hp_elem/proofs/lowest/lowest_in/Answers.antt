use Rattle.std.proofs.Common.{◌≡◌, ℕ, ◌+◌, ◌-◌, ◌∷◌, List, Option, sym, ap, ◌∙◌, subst, arith}
use Rattle.hp_chain.specs.Chain.{Keyed, walk}
use Rattle.hp_elem.specs.declared.lowest.Lowest.{Lowest}
use Rattle.hp_elem.specs.Tags.{place_at, entry_of, tagged_start}
use Rattle.hp_elem.specs.Lowest.{IsSoFar}
use Rattle.hp_elem.proofs.LowestLemmas.{stepped, left_none, left_missing, left_over, so_far_step, so_far_known, so_far_ended, read_number}
use Rattle.hp_elem.proofs.lowest.lowest_in.Goals as goal

pub lower_at-best-requires-clause-known : goal.lower_at-best-requires-clause-known
lower_at-best-requires-clause-known c =
    let rest : List (Keyed (Option ℕ)) = walk (place_at c.args.links.now.items) (c.args.links.now.len - (c.loop-step._step + 1)) c.in-Some-get.link.now.next in
    let here = stepped c.args.links.now.items c.deref.result.now c.args.links.now.len c.loop-step._step c.in-Some.key c.loop-step.next c.in-Some-get.link.now
    c.deref.ensures.value (omega arith) c.in-Some.is c.in-Some-get.ensures.lookup.0 c.in-Some-get.ensures.lookup.1 in
    so_far_known (entry_of (tagged_start c.args.tag.zone c.args.tag.number) c.args.chain.now.items) c.args.chain.now.items c.loop-step.best
    (walk (place_at c.args.links.now.items) (c.args.links.now.len - c.loop-step._step) c.loop-step.next) c.loop-step.invariant c.in-Some.key c.in-Some-get.link.now.number rest here

pub lower_at-best-requires-clause-number : goal.lower_at-best-requires-clause-number
lower_at-best-requires-clause-number c =
    sym (read_number c.args.links.now.items c.deref.result.now c.in-Some.key c.in-Some-get.link.now c.deref.ensures.value c.in-Some-get.ensures.lookup.0 c.in-Some-get.ensures.lookup.1)
    ∙ ap (λ (table : ℕ → Option ℕ). table c.in-Some.key) c.requires.numbers

pub loop-step-preserved : goal.loop-step-preserved
loop-step-preserved c =
    let table : ℕ → Option ℕ = entry_of (tagged_start c.args.tag.zone c.args.tag.number) c.args.chain.now.items in
    let rest : List (Keyed (Option ℕ)) = walk (place_at c.args.links.now.items) (c.args.links.now.len - (c.loop-step._step + 1)) c.in-Some-get.link.now.next in
    let here = stepped c.args.links.now.items c.deref.result.now c.args.links.now.len c.loop-step._step c.in-Some.key c.loop-step.next c.in-Some-get.link.now
    c.deref.ensures.value (omega arith) c.in-Some.is c.in-Some-get.ensures.lookup.0 c.in-Some-get.ensures.lookup.1 in
    subst (λ (b : Option Lowest). IsSoFar table c.args.chain.now.items b rest) (sym c.lower_at-best.ensures)
    (so_far_step table c.args.chain.now.items c.loop-step.best (walk (place_at c.args.links.now.items) (c.args.links.now.len - c.loop-step._step) c.loop-step.next) c.loop-step.invariant
    c.in-Some.key c.in-Some-get.link.now.number rest here)

pub returns-in_default : goal.returns-in_default
returns-in_default c =
    so_far_ended (entry_of (tagged_start c.args.tag.zone c.args.tag.number) c.args.chain.now.items) c.args.chain.now.items c.loop-step.best
    (walk (place_at c.args.links.now.items) (c.args.links.now.len - c.loop-step._step) c.loop-step.next) c.key_of.result c.loop-step.invariant
    (left_none c.args.links.now.items (c.args.links.now.len - c.loop-step._step) c.loop-step.next c.in_default.is) c.key_of.ensures

pub returns-in_default-get : goal.returns-in_default-get
returns-in_default-get c =
    so_far_ended (entry_of (tagged_start c.args.tag.zone c.args.tag.number) c.args.chain.now.items) c.args.chain.now.items c.loop-step.best
    (walk (place_at c.args.links.now.items) (c.args.links.now.len - c.loop-step._step) c.loop-step.next) c.key_of-in_default-get.result c.loop-step.invariant
    (left_missing c.args.links.now.items c.deref.result.now (c.args.links.now.len - c.loop-step._step) c.in-Some.key c.loop-step.next c.deref.ensures.value c.in-Some.is c.in_default-get.ensures.lookup.0)
    c.key_of-in_default-get.ensures

pub returns : goal.returns
returns c =
    so_far_ended (entry_of (tagged_start c.args.tag.zone c.args.tag.number) c.args.chain.now.items) c.args.chain.now.items c.loop-step.best
    (walk (place_at c.args.links.now.items) (c.args.links.now.len - c.loop-step._step) c.loop-step.next) c.key_of-2.result c.loop-step.invariant
    (left_over c.args.links.now.items (c.args.links.now.len - c.loop-step._step) c.loop-step.next (omega (arith, c.len-step-end.ensures))) c.key_of-2.ensures
