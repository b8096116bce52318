use Rattle.slab.specs.Slab.{slab_len}
use Rattle.std.proofs.Common.{◌≡◌, ◌-◌}
use Rattle.hp_chain.specs.Chain.{walk}
use Rattle.hp_elem.specs.Items.{key_at}
use Rattle.hp_elem.specs.Order.{IsRising}
use Rattle.hp_elem.specs.Links.{place_at}
use Rattle.hp_elem.proofs.search.find_address.Given as goal

abbrev pub invariant-loop-i : goal.invariant-loop-i
invariant-loop-i l = (key_at l.addr (walk (place_at l.slots) (l._i-end - l._i) l.at) ≡ key_at l.addr (walk (place_at l.slots) (slab_len l.slots) l.fn.from))
    × IsRising 0 (walk (place_at l.slots) (l._i-end - l._i) l.at)
