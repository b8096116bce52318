use Rattle.slab.specs.Slab.{slab_len}
use Rattle.std.proofs.Common.{◌≡◌, suc, ◌+◌, ◌-◌, sym, ◌∙◌, arith}
use Rattle.hp_chain.specs.Chain.{walk}
use Rattle.hp_elem.specs.Items.{first_tagged}
use Rattle.hp_elem.specs.Links.{place_at}
use Rattle.hp_elem.proofs.SearchLemmas.{passes_tag}
use Rattle.hp_elem.proofs.search.find_tag.Goals as goal

pub loop-i-preserved : goal.loop-i-preserved
loop-i-preserved c =
    let left_is : c.len-i-end.result - c.loop-i._i ≡ suc (c.len-i-end.result - (c.loop-i._i + 1)) = omega (arith, c.loop-i-test.true) in
    passes_tag c.args.slots.now (c.len-i-end.result - c.loop-i._i) (c.len-i-end.result - (c.loop-i._i + 1)) c.loop-i.at c.in_ok-key.key c.args.tag.number c.args.tag.zone c.in_ok-node.node.now
    (first_tagged c.args.tag.zone c.args.tag.number (walk (place_at c.args.slots.now) (slab_len c.args.slots.now) c.args.from))
    left_is c.in_ok-key.was c.in_ok-node.ensures c.loop-i.invariant (sym c.has_tag.ensures ∙ c.if-has_tag.false)
