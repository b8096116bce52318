use Rattle.std.proofs.Common.{◌≡◌, ◌++◌, sym, ap, ◌∙◌, subst}
use Rattle.hp_elem.specs.Items.{Items, IsCutFrom, key_at}
use Rattle.hp_elem.specs.Order.{IsRising}
use Rattle.hp_elem.specs.View.{ChainView}
use Rattle.hp_elem.specs.Links.{items_of}
use Rattle.hp_elem.specs.Index.{reach}
use Rattle.hp_elem.proofs.OrderLemmas.{rising_back, rising_lower}
use Rattle.hp_elem.proofs.AtLemmas.{walk_back_part}
use Rattle.std.proofs.Common.{arith}
use Rattle.hp_elem.proofs.chain.Chain.find_address.Goals as goal

pub find_address-requires : goal.find_address-requires
find_address-requires c =
    let items : Items = items_of c.self.inside.slots c.self.inside.first in
    let cut : IsCutFrom items c.args.from = subst (λ (v : ChainView). IsCutFrom v.items c.args.from) (sym c.self.view_is) c.requires.from in
    let rising : IsRising 0 items = subst (λ (v : ChainView). IsRising 0 v.items) (sym c.self.view_is) c.requires.ordered.rising in
    let back = rising_back 0 cut.front cut.back (subst (λ (zs : Items). IsRising 0 zs) cut.is rising) in
    record {
      rising = subst (λ (zs : Items). IsRising 0 zs)
          (sym (walk_back_part c.self.inside.slots c.self.inside.first c.self.inside.last items cut.front cut.back c.args.from c.self.invariant cut.is cut.first))
          (rising_lower 0 (reach 0 cut.front) cut.back (omega arith) back);
    }

pub returns : goal.returns
returns c = λ front back is first.
    let items : Items = items_of c.self.inside.slots c.self.inside.first in
    let cut : items ≡ front ++ back = subst (λ (v : ChainView). v.items ≡ front ++ back) (sym c.self.view_is) is in
    c.find_address.ensures
    ∙ ap (λ (zs : Items). key_at c.args.addr zs) (walk_back_part c.self.inside.slots c.self.inside.first c.self.inside.last items front back c.args.from c.self.invariant cut first)
