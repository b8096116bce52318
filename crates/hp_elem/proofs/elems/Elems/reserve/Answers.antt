use Rattle.std.proofs.Common.{◌≡◌, ℕ, ◌+◌, ◌≤◌, List, length, nat_eq, ap, arith}
use Rattle.std.specs.HashMap.{get, spare}
use Rattle.std.specs.Vec.{vec_capacity}
use Rattle.hp_elem.specs.Items.{Items}
use Rattle.hp_elem.specs.Index.{gap_starts}
use Rattle.hp_elem.proofs.GapLemmas.{gaps_within}
use Rattle.hp_elem.proofs.NotedLemmas.{noted_more}
use Rattle.hp_elem.proofs.IndexLemmas.{IsSound, sound_reserve}
use Rattle.hp_elem.proofs.elems.Elems.reserve.Goals as goal

gaps_fit : (items news : Items) (gaps : List ℕ) (len count end : ℕ) → len ≡ length gaps → gaps ≡ gap_starts 0 items → news ≡ items → length news + count ≤ end → len ≤ end
gaps_fit items news gaps len count end len_is is same within =
    omega (arith, len_is, ap (λ (gs : List ℕ). length gs) is, gaps_within 0 items, ap (λ (zs : Items). length zs) same, within)

pub overflow_sub-key_end : goal.overflow_sub-key_end
overflow_sub-key_end c =
    let fits = gaps_fit c.self.inside.chain.items c.reserve.new.self.items c.self.inside.gaps.items c.self.inside.gaps.len c.args.n c.reserve.new.self.key_end c.self.inside.gaps.ok.0
    c.self.invariant.0.gapped c.reserve.ensures.items c.in_ok-reserve.ensures.room in
    omega (arith, fits, c.key_end.ensures, c.len.ensures)

failed : (c : goal.After-from_residual-in_err-reserve-3)
    → IsSound c.reserve.new.self.items c.reserve.new.self.key_end (get nat_eq c.reserve-2.new.self) c.reserve-3.new.self.items c.self.inside.spare (spare c.reserve-2.new.self) (vec_capacity c.reserve-3.new.self)
failed c =
    let items : Items = c.self.inside.chain.items in
    let started : get nat_eq c.reserve-2.new.self ≡ get nat_eq c.self.inside.starts = λ i q. c.reserve-2.ensures.entries.2 q i in
    let old = c.self.invariant.1 in
    sound_reserve items c.reserve.new.self.items c.self.inside.chain.key_end c.reserve.new.self.key_end (get nat_eq c.self.inside.starts) (get nat_eq c.reserve-2.new.self)
    c.self.inside.gaps.items c.reserve-3.new.self.items c.self.inside.spare (spare c.self.inside.starts) (vec_capacity c.self.inside.gaps) c.self.inside.spare (spare c.reserve-2.new.self) (vec_capacity c.reserve-3.new.self)
    (c.self.invariant.0, c.self.invariant.1) c.reserve.ensures.items c.reserve.ensures.key_end started c.reserve-3.ensures.items
    (omega (arith, old.keys, c.reserve.ensures.key_end)) (omega (arith, old.starts_fit, c.reserve-2.ensures.spare)) (omega (arith, old.gaps_fit, c.reserve-3.ensures.capacity))

pub invariant_of-self-in_err-reserve-3 : goal.invariant_of-self-in_err-reserve-3
invariant_of-self-in_err-reserve-3 c = let kept = failed c in (kept.0, kept.1, noted_more c.self.inside.chain.items c.reserve.new.self.items c.self.inside.chain.key_end c.reserve.new.self.key_end c.self.inside.tags c.self.invariant.2 c.reserve.ensures.items c.reserve.ensures.key_end)

pub returns-in_err-reserve-3-clause-ordered : goal.returns-in_err-reserve-3-clause-ordered
returns-in_err-reserve-3-clause-ordered c = (failed c).0.ordered

done : (c : goal.After-self-1)
    → IsSound c.reserve.new.self.items c.reserve.new.self.key_end (get nat_eq c.reserve-2.new.self) c.reserve-3.new.self.items c.args.n (spare c.reserve-2.new.self) (vec_capacity c.reserve-3.new.self)
done c =
    let items : Items = c.self.inside.chain.items in
    let started : get nat_eq c.reserve-2.new.self ≡ get nat_eq c.self.inside.starts = λ i q. c.reserve-2.ensures.entries.2 q i in
    let same : length c.reserve.new.self.items ≡ length items = ap (λ (zs : Items). length zs) c.reserve.ensures.items in
    let fits = gaps_fit items c.reserve.new.self.items c.self.inside.gaps.items c.self.inside.gaps.len c.args.n c.reserve.new.self.key_end c.self.inside.gaps.ok.0
    c.self.invariant.0.gapped c.reserve.ensures.items c.in_ok-reserve.ensures.room in
    sound_reserve items c.reserve.new.self.items c.self.inside.chain.key_end c.reserve.new.self.key_end (get nat_eq c.self.inside.starts) (get nat_eq c.reserve-2.new.self)
    c.self.inside.gaps.items c.reserve-3.new.self.items c.self.inside.spare (spare c.self.inside.starts) (vec_capacity c.self.inside.gaps) c.args.n (spare c.reserve-2.new.self) (vec_capacity c.reserve-3.new.self)
    (c.self.invariant.0, c.self.invariant.1) c.reserve.ensures.items c.reserve.ensures.key_end started c.reserve-3.ensures.items
    (omega (arith, c.in_ok-reserve.ensures.room, same)) c.in_ok-reserve-2.ensures.ok
    (omega (arith, c.in_ok-reserve.ensures.room, same, c.in_ok-reserve-3.ensures.ok, c.reserve-3.ensures.len, fits, c.key_end.ensures, c.len.ensures))

pub invariant_of-self-2 : goal.invariant_of-self-2
invariant_of-self-2 c = let kept = done c in (kept.0, kept.1, c.cover.ensures.noted)

pub returns-clause-ordered : goal.returns-clause-ordered
returns-clause-ordered c = (done c).0.ordered
