use Rattle.std.proofs.Common.{◌≡◌, ℕ, ◌<◌, ◌≤◌, ◌^◌, None, Option, true, List, length, nat_eq, is_some, refl, sym, ap, ◌∙◌, subst, arith}
use Rattle.std.specs.HashMap.{get, spare}
use Rattle.std.specs.Vec.{vec_capacity, vec_len}
use Rattle.hp_base.specs.declared.span.Span.{Span}
use Rattle.hp_chain.specs.Chain.{has_key}
use Rattle.hp_elem.specs.Items.{Items, end_of}
use Rattle.hp_elem.specs.View.{ElemsView}
use Rattle.hp_elem.specs.Index.{with_start}
use Rattle.hp_elem.specs.Gaps.{SplitsAt}
use Rattle.hp_elem.specs.Tags.{IsNoted, tag_number}
use Rattle.hp_elem.proofs.NotedLemmas.{noted_entry, at_below, number-hidden}
use Rattle.hp_elem.proofs.EndLemmas.{stands_end}
use Rattle.hp_elem.proofs.AddLemmas.{hidden_gaps, hidden_shut, hidden_room, sound_hide}
use Rattle.hp_elem.proofs.IndexLemmas.{IsSound, found_is, stands_value}
use Rattle.hp_elem.proofs.elems.Elems.hide.Goals as goal

pub overflow_add-end : goal.overflow_add-end
overflow_add-end c =
    let fits : end_of c.get.result.now.span ≤ 2 ^ 63 = stands_end c.args.key c.self.inside.chain.items c.get.result.now c.self.invariant.0.ordered.rising c.get.ensures.stands in
    omega (arith, fits)

has_in : (v : ElemsView) (items : Items) (stamps spare_count key_end key : ℕ) → (record { items = items; stamps = stamps; spare = spare_count; key_end = key_end }) ≡ v → has_key key v.items ≡ true → has_key key items ≡ true
has_in v items stamps spare_count key_end key is has = subst (λ (w : ElemsView). has_key key w.items ≡ true) (sym is) has

closed_is : (c : goal.After-open-arg-1) → (c.place_of-place.result ≤ length c.close.new.gaps.items) × (vec_len c.close.new.gaps < length c.self.inside.chain.items)
closed_is c =
    let items : Items = c.self.inside.chain.items in
    let at = found_is c.args.key items (has_in c.args.self.now items c.self.inside.stamps c.self.inside.spare c.self.inside.chain.key_end c.args.key c.self.view_is c.requires.known) in
    let span_is = stands_value (λ _. Unit {0}) c.args.key items c.get.result.now at c.self.invariant.0.ordered.apart c.get.ensures.stands in
    let addr_is : c.get.result.now.span.addr ≡ at.found.value.addr = ap (λ (s : Span). s.addr) span_is in
    let splits = subst (λ (gs : List ℕ). SplitsAt gs c.get.result.now.span.addr c.place_of-place.result) c.as_slice.ensures.value c.place_of-place.ensures.splits in
    let shut = hidden_shut items c.self.inside.chain.key_end (get nat_eq c.self.inside.starts) c.self.inside.gaps.items c.args.key at c.self.invariant.0 c.close.new.gaps.items
    c.place_of-place.result c.get.result.now.span.addr addr_is splits c.close.ensures.gaps in
    (shut.1, hidden_room items c.self.inside.chain.key_end (get nat_eq c.self.inside.starts) c.self.inside.gaps.items c.args.key at c.self.invariant.0 (vec_len c.close.new.gaps) c.close.new.gaps.items c.close.new.gaps.ok.0 shut.0)

pub open-requires-clause-within : goal.open-requires-clause-within
open-requires-clause-within c = omega (arith, (closed_is c).0, c.close.new.gaps.ok.0)

pub open-requires-clause-room : goal.open-requires-clause-room
open-requires-clause-room c = omega (arith, (closed_is c).1, c.self.invariant.1.gaps_fit, c.close.ensures.capacity)

sound : (c : goal.After-set)
    → IsSound c.remove.new.self.items c.remove.new.self.key_end (get nat_eq c.take.new.starts) c.open.new.gaps.items c.self.inside.spare (spare c.take.new.starts) (vec_capacity c.open.new.gaps)
sound c =
    let items : Items = c.self.inside.chain.items in
    let table : ℕ → Option ℕ = get nat_eq c.self.inside.starts in
    let at = found_is c.args.key items (has_in c.args.self.now items c.self.inside.stamps c.self.inside.spare c.self.inside.chain.key_end c.args.key c.self.view_is c.requires.known) in
    let span_is = stands_value (λ _. Unit {0}) c.args.key items c.get.result.now at c.self.invariant.0.ordered.apart c.get.ensures.stands in
    let addr_is : c.get.result.now.span.addr ≡ at.found.value.addr = ap (λ (s : Span). s.addr) span_is in
    let end_is : end_of c.get.result.now.span ≡ end_of at.found.value = ap (λ (s : Span). end_of s) span_is in
    let splits = subst (λ (gs : List ℕ). SplitsAt gs c.get.result.now.span.addr c.place_of-place.result) c.as_slice.ensures.value c.place_of-place.ensures.splits in
    let adjacent : c.is_some-adjacent.result ≡ is_some (table (end_of c.get.result.now.span)) = c.is_some-adjacent.ensures ∙ ap (λ (o : Option ℕ). is_some o) c.find.ensures in
    let changed = hidden_gaps items c.self.inside.chain.key_end table c.self.inside.gaps.items c.args.key at c.self.invariant.0 c.close.new.gaps.items c.open.new.gaps.items
    c.place_of-place.result c.get.result.now.span.addr (end_of c.get.result.now.span) c.is_some-adjacent.result addr_is end_is
    (adjacent ∙ ap (λ (a : ℕ). is_some (table a)) refl) splits c.close.ensures.gaps c.open.ensures.gaps in
    let capacity : vec_capacity c.open.new.gaps ≡ vec_capacity c.self.inside.gaps = c.open.ensures.capacity ∙ c.close.ensures.capacity in
    subst (λ (n : ℕ). IsSound c.remove.new.self.items c.remove.new.self.key_end (get nat_eq c.take.new.starts) c.open.new.gaps.items c.self.inside.spare (spare c.take.new.starts) n) (sym capacity)
    (sound_hide items c.self.inside.chain.key_end table c.self.inside.gaps.items c.args.key at c.self.invariant.0
    c.remove.new.self.items c.remove.new.self.key_end (get nat_eq c.take.new.starts) c.open.new.gaps.items c.self.inside.spare (spare c.self.inside.starts) (spare c.take.new.starts) (vec_capacity c.self.inside.gaps)
    c.self.invariant.1 c.remove.ensures.items c.remove.ensures.apart c.remove.ensures.key_end
    (c.take.ensures.table ∙ ap (λ (a : ℕ). with_start a None table) addr_is) c.take.ensures.room changed)

noted : (c : goal.After-set) → IsNoted c.remove.new.self.items c.remove.new.self.key_end c.set.new.self
noted c =
    let items : Items = c.self.inside.chain.items in
    let at = found_is c.args.key items (has_in c.args.self.now items c.self.inside.stamps c.self.inside.spare c.self.inside.chain.key_end c.args.key c.self.view_is c.requires.known) in
    noted_entry items c.remove.new.self.items c.self.inside.chain.key_end c.remove.new.self.key_end c.self.inside.tags c.set.new.self c.args.key None c.self.invariant.2
    c.remove.ensures.key_end (at_below (λ _. Unit {0}) c.args.key c.self.inside.chain.key_end items at c.self.invariant.0.ordered) c.set.ensures.len c.set.ensures.number
    (ap (λ (zs : Items). tag_number zs) c.remove.ensures.items ∙ number-hidden items c.self.invariant.0.ordered.apart (λ _. Unit {0}) c.args.key at)

pub invariant_of-self : goal.invariant_of-self
invariant_of-self c = let kept = sound c in (kept.0, kept.1, noted c)

pub returns-clause-ordered : goal.returns-clause-ordered
returns-clause-ordered c = (sound c).0.ordered
