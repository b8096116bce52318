use Rattle.std.proofs.Common.{ℕ, List, sym, subst}
use Rattle.hp_ring.specs.declared.taking.Taken.{Taken}
use Rattle.hp_ring.specs.Exchange.{HasExchanged}
use Rattle.hp_ring.specs.PassViews.{SendView}
use Rattle.hp_ring.specs.Weave.{AreSent}
use Rattle.hp_ring.proofs.WeaveLemmas.{exchanged}
use Rattle.hp_ring.proofs.exchange.exchange.Goals as goal

pub returns : goal.returns
returns g c =
    let first : SendView = c.args.first in
    let second : SendView = c.args.second in
    let first' : SendView = c.by_three-first.result.0 in
    let second' : SendView = c.by_three-first.result.1.0 in
    let after : Taken = c.by_three-first.result.1.1 in
    let odd = c.args.words.now.odd.items in
    let even = c.args.words.now.even.items in
    let all = c.by_three-first.ensures in
    let met = c.compared.ensures in
    subst (λ (p : SendView). HasExchanged first second odd even p c.compared.result.1 c.compared.result.2) (sym met.same.0)
    (subst (λ (p : SendView). HasExchanged first second odd even first' p c.compared.result.2) (sym met.same.1)
    (subst (λ (t : Taken). HasExchanged first second odd even first' second' t) (sym met.same.2)
    (exchanged c.args.ring.now first second first' second' odd even c.args.taken after c.requires.fresh
    (all.first.0, all.first.1, subst (λ (words : List ℕ). AreSent first.who words first'.sent) c.as_slice-odd.ensures.value all.first.2)
    (all.second.0, all.second.1, subst (λ (words : List ℕ). AreSent second.who words second'.sent) c.as_slice-even.ensures.value all.second.2)
    all.taken.0 all.taken.1 met.first met.second)))
