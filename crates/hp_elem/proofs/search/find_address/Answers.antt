use Rattle.slab.specs.Slab.{slab_len}
use Rattle.std.proofs.Common.{◌≡◌, suc, ◌+◌, ◌-◌, arith}
use Rattle.hp_chain.specs.Chain.{walk}
use Rattle.hp_elem.specs.Items.{key_at}
use Rattle.hp_elem.specs.Links.{place_at}
use Rattle.hp_elem.proofs.SearchLemmas.{stops_below, goes_on}
use Rattle.hp_elem.proofs.search.find_address.Goals as goal

pub returns-then-addr-node : goal.returns-then-addr-node
returns-then-addr-node c =
    let left_is : c.len-i-end.result - c.loop-i._i ≡ suc (c.len-i-end.result - (c.loop-i._i + 1)) = omega (arith, c.loop-i-test.true) in
    stops_below c.args.slots.now (c.len-i-end.result - c.loop-i._i) (c.len-i-end.result - (c.loop-i._i + 1)) c.loop-i.at c.in_ok-key.key c.args.addr c.in_ok-node.node.now
    (key_at c.args.addr (walk (place_at c.args.slots.now) (slab_len c.args.slots.now) c.args.from))
    left_is c.in_ok-key.was c.in_ok-node.ensures c.loop-i.invariant.0 c.loop-i.invariant.1 c.if-addr-node.true

pub loop-i-preserved : goal.loop-i-preserved
loop-i-preserved c =
    let left_is : c.len-i-end.result - c.loop-i._i ≡ suc (c.len-i-end.result - (c.loop-i._i + 1)) = omega (arith, c.loop-i-test.true) in
    goes_on c.args.slots.now (c.len-i-end.result - c.loop-i._i) (c.len-i-end.result - (c.loop-i._i + 1)) c.loop-i.at c.in_ok-key.key c.args.addr c.in_ok-node.node.now
    (key_at c.args.addr (walk (place_at c.args.slots.now) (slab_len c.args.slots.now) c.args.from))
    left_is c.in_ok-key.was c.in_ok-node.ensures c.loop-i.invariant.0 c.loop-i.invariant.1 c.if-addr-node-2.false
