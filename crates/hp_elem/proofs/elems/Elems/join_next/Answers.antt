use Rattle.std.proofs.Common.{◌≡◌, ℕ, ◌≤◌, ◌^◌, Some, None, Option, nat_eq, sym, ap, ◌∙◌, subst, arith}
use Rattle.std.specs.HashMap.{get, spare}
use Rattle.std.specs.Vec.{vec_capacity}
use Rattle.hp_base.specs.declared.span.Span.{Span}
use Rattle.hp_elem.specs.Items.{Items, AreAt, Touches, end_of}
use Rattle.hp_elem.specs.Tags.{IsNoted, tag_number, with_entry}
use Rattle.hp_elem.specs.View.{ElemsView}
use Rattle.hp_elem.specs.Index.{with_start}
use Rattle.hp_elem.proofs.NotedLemmas.{noted_entry, at_below, second_at, second_start, number-joined}
use Rattle.hp_elem.proofs.IndexLemmas.{IsSound, sound_join, stands_value, first_at, touching_fits}
use Rattle.hp_elem.proofs.elems.Elems.join_next.Goals as goal

two_at : (v : ElemsView) (items : Items) (stamps spare_count key_end key : ℕ) → (record { items = items; stamps = stamps; spare = spare_count; key_end = key_end }) ≡ v → AreAt Touches key v.items → AreAt Touches key items
two_at v items stamps spare_count key_end key is two = subst (λ (w : ElemsView). AreAt Touches key w.items) (sym is) two

pub overflow_add-next_addr : goal.overflow_add-next_addr
overflow_add-next_addr c =
    let items : Items = c.self.inside.chain.items in
    let two = two_at c.args.self.now items c.self.inside.stamps c.self.inside.spare c.self.inside.chain.key_end c.args.key c.self.view_is c.requires.next in
    let span_is = stands_value (λ _. Unit {0}) c.args.key items c.get.result.now (first_at Touches c.args.key items two) c.self.invariant.0.ordered.apart c.get.ensures.stands in
    let end_is : end_of c.get.result.now.span ≡ end_of two.found.value = ap (λ (s : Span). end_of s) span_is in
    let fits : end_of two.found.value ≤ 2 ^ 63 = (touching_fits items c.args.key two c.self.invariant.0.ordered.rising).1 in
    omega (arith, end_is, fits)

pub join_next-requires : goal.join_next-requires
join_next-requires c =
    let items : Items = c.self.inside.chain.items in
    let two = two_at c.args.self.now items c.self.inside.stamps c.self.inside.spare c.self.inside.chain.key_end c.args.key c.self.view_is c.requires.next in
    record {
      next = record {
        front = two.front;
        found = two.found;
        next = two.next;
        back = two.back;
        is = two.is;
        same = two.same;
        holds = (touching_fits items c.args.key two c.self.invariant.0.ordered.rising).0;
      };
    }

sound : (c : goal.After-forget)
    → IsSound c.join_next.new.self.items c.join_next.new.self.key_end (get nat_eq c.take-next.new.starts) c.self.inside.gaps.items c.self.inside.spare (spare c.take-next.new.starts) (vec_capacity c.self.inside.gaps)
sound c =
    let items : Items = c.self.inside.chain.items in
    let two = two_at c.args.self.now items c.self.inside.stamps c.self.inside.spare c.self.inside.chain.key_end c.args.key c.self.view_is c.requires.next in
    let span_is = stands_value (λ _. Unit {0}) c.args.key items c.get.result.now (first_at Touches c.args.key items two) c.self.invariant.0.ordered.apart c.get.ensures.stands in
    let next_is : end_of c.get.result.now.span ≡ two.next.value.addr = ap (λ (s : Span). end_of s) span_is ∙ two.holds.adjacent in
    sound_join items c.join_next.new.self.items c.self.inside.chain.key_end c.join_next.new.self.key_end (get nat_eq c.self.inside.starts) (get nat_eq c.take-next.new.starts)
    c.self.inside.gaps.items c.self.inside.spare (spare c.self.inside.starts) (spare c.take-next.new.starts) (vec_capacity c.self.inside.gaps) c.args.key
    (c.self.invariant.0, c.self.invariant.1) c.join_next.ensures.apart c.join_next.ensures.key_end two c.join_next.ensures.items
    (c.take-next.ensures.table ∙ ap (λ (a : ℕ). with_start a None (get nat_eq c.self.inside.starts)) next_is) c.take-next.ensures.room

noted : (c : goal.After-forget) → IsNoted c.join_next.new.self.items c.join_next.new.self.key_end c.forget.new.self
noted c =
    let items : Items = c.self.inside.chain.items in
    let two = two_at c.args.self.now items c.self.inside.stamps c.self.inside.spare c.self.inside.chain.key_end c.args.key c.self.view_is c.requires.next in
    let ordered = c.self.invariant.0.ordered in
    let span_is = stands_value (λ _. Unit {0}) c.args.key items c.get.result.now (first_at Touches c.args.key items two) ordered.apart c.get.ensures.stands in
    let next_is : end_of c.get.result.now.span ≡ two.next.value.addr = ap (λ (s : Span). end_of s) span_is ∙ two.holds.adjacent in
    let taken : c.take-next.result ≡ Some two.next.key =
    c.take-next.ensures.taken ∙ ap (λ (a : ℕ). get nat_eq c.self.inside.starts a) next_is
    ∙ ap (λ (table : ℕ → Option ℕ). table two.next.value.addr) c.self.invariant.0.started ∙ second_start items ordered.apart Touches c.args.key two ordered.rising in
    noted_entry items c.join_next.new.self.items c.self.inside.chain.key_end c.join_next.new.self.key_end c.self.inside.tags c.forget.new.self two.next.key None c.self.invariant.2
    c.join_next.ensures.key_end (at_below (λ _. Unit {0}) two.next.key c.self.inside.chain.key_end items (second_at items ordered.apart Touches c.args.key two) ordered)
    c.forget.ensures.len (c.forget.ensures.number two.next.key taken)
    (ap (λ (zs : Items). tag_number zs) c.join_next.ensures.items ∙ number-joined items ordered.apart Touches c.args.key two)

pub invariant_of-self : goal.invariant_of-self
invariant_of-self c = let kept = sound c in (kept.0, kept.1, noted c)

pub returns-clause-ordered : goal.returns-clause-ordered
returns-clause-ordered c = (sound c).0.ordered
