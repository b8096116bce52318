use Rattle.std.proofs.Common.{ℕ, ◌-◌, ◌<◌, Option, nat_eq, sym, ap, ◌∙◌, subst}
use Rattle.std.specs.HashMap.{get, spare}
use Rattle.std.specs.Vec.{vec_capacity}
use Rattle.hp_base.specs.declared.span.Span.{Span}
use Rattle.hp_elem.specs.Items.{Items, IsAt, IsInside}
use Rattle.hp_elem.specs.Tags.{IsNoted, number_of, tag_number, with_entry}
use Rattle.hp_elem.specs.View.{ElemsView}
use Rattle.hp_elem.proofs.IndexLemmas.{IsSound, sound_split, stands_value}
use Rattle.hp_elem.proofs.NotedLemmas.{noted_entry, number-split}
use Rattle.hp_elem.proofs.elems.Elems.split.Goals as goal

sound : (c : goal.After-self-1)
    → IsSound c.split-second.new.self.items c.split-second.new.self.key_end (get nat_eq c.put.new.starts) c.self.inside.gaps.items (c.self.inside.spare - 1) (spare c.put.new.starts) (vec_capacity c.self.inside.gaps)
sound c =
    let left : 0 < c.self.inside.spare = subst (λ (v : ElemsView). 0 < v.spare) (sym c.self.view_is) c.requires.spare in
    let inside : IsAt (IsInside c.args.at) c.args.key c.self.inside.chain.items = subst (λ (v : ElemsView). IsAt (IsInside c.args.at) c.args.key v.items) (sym c.self.view_is) c.requires.inside in
    sound_split c.self.inside.chain.items c.split-second.new.self.items c.self.inside.chain.key_end c.split-second.new.self.key_end (get nat_eq c.self.inside.starts) (get nat_eq c.put.new.starts)
    c.self.inside.gaps.items c.self.inside.spare (spare c.self.inside.starts) (spare c.put.new.starts) (vec_capacity c.self.inside.gaps) c.args.key
    (c.self.invariant.0, c.self.invariant.1) c.split-second.ensures.apart c.split-second.ensures.key_end c.args.at c.split-second.result left inside c.split-second.ensures.within c.split-second.ensures.items c.put.ensures.table c.put.ensures.room

noted : (c : goal.After-self-1) → IsNoted c.split-second.new.self.items c.split-second.new.self.key_end c.set.new.self
noted c =
    let items : Items = c.self.inside.chain.items in
    let at : IsAt (IsInside c.args.at) c.args.key items = subst (λ (v : ElemsView). IsAt (IsInside c.args.at) c.args.key v.items) (sym c.self.view_is) c.requires.inside in
    let span_is = stands_value (IsInside c.args.at) c.args.key items c.get.result.now at c.self.invariant.0.ordered.apart c.get.ensures.stands in
    let number_is = c.number_of-number.ensures ∙ ap (λ (s : Span). number_of s.state) span_is in
    noted_entry items c.split-second.new.self.items c.self.inside.chain.key_end c.split-second.new.self.key_end c.self.inside.tags c.set.new.self c.split-second.result c.number_of-number.result
    c.self.invariant.2 c.split-second.ensures.key_end c.split-second.ensures.within c.set.ensures.len c.set.ensures.number
    (ap (λ (zs : Items). tag_number zs) c.split-second.ensures.items
    ∙ number-split items c.self.invariant.0.ordered.apart (IsInside c.args.at) c.args.key c.args.at c.split-second.result at c.split-second.ensures.fresh
    ∙ ap (λ (n : Option ℕ). with_entry c.split-second.result n (tag_number items)) (sym number_is))

pub invariant_of-self : goal.invariant_of-self
invariant_of-self c = let kept = sound c in (kept.0, kept.1, noted c)

pub returns-clause-ordered : goal.returns-clause-ordered
returns-clause-ordered c = (sound c).0.ordered
