use Rattle.std.proofs.Common.{◌≡◌, true, nat_eq, Some, None, sym, ap, ◌∙◌, subst}
use Rattle.std.specs.HashMap.{get, spare}
use Rattle.std.specs.Vec.{vec_capacity}
use Rattle.hp_base.specs.declared.span.SpanState.TheVariants.{Busy}
use Rattle.hp_chain.specs.Chain.{has_key}
use Rattle.hp_elem.specs.Items.{Items}
use Rattle.hp_elem.specs.View.{ElemsView}
use Rattle.hp_elem.specs.Tags.{IsNoted, tag_number}
use Rattle.hp_elem.proofs.IndexLemmas.{IsSound, sound_set, found_is}
use Rattle.hp_elem.proofs.NotedLemmas.{noted_entry, at_below, number-set}
use Rattle.hp_elem.proofs.elems.Elems.set_busy.Goals as goal

sound : (c : goal.After-set)
    → IsSound c.set_state.new.self.items c.set_state.new.self.key_end (get nat_eq c.self.inside.starts) c.self.inside.gaps.items c.self.inside.spare (spare c.self.inside.starts) (vec_capacity c.self.inside.gaps)
sound c =
    let has = subst (λ (v : ElemsView). has_key c.args.key v.items ≡ true) (sym c.self.view_is) c.requires.known in
    sound_set c.self.inside.chain.items c.set_state.new.self.items c.self.inside.chain.key_end c.set_state.new.self.key_end (get nat_eq c.self.inside.starts) (get nat_eq c.self.inside.starts)
    c.self.inside.gaps.items c.self.inside.spare (spare c.self.inside.starts) (spare c.self.inside.starts) (vec_capacity c.self.inside.gaps) c.args.key
    (c.self.invariant.0, c.self.invariant.1) c.set_state.ensures.apart c.set_state.ensures.key_end (Busy c.args.pad c.args.size c.args.tag) has c.set_state.ensures.items

noted : (c : goal.After-set) → IsNoted c.set_state.new.self.items c.set_state.new.self.key_end c.set.new.self
noted c =
    let items : Items = c.self.inside.chain.items in
    let at = found_is c.args.key items (subst (λ (v : ElemsView). has_key c.args.key v.items ≡ true) (sym c.self.view_is) c.requires.known) in
    noted_entry items c.set_state.new.self.items c.self.inside.chain.key_end c.set_state.new.self.key_end c.self.inside.tags c.set.new.self c.args.key (Some c.args.tag.number) c.self.invariant.2
    c.set_state.ensures.key_end (at_below (λ _. Unit {0}) c.args.key c.self.inside.chain.key_end items at c.self.invariant.0.ordered) c.set.ensures.len c.set.ensures.number
    (ap (λ (zs : Items). tag_number zs) c.set_state.ensures.items ∙ number-set items c.self.invariant.0.ordered.apart (λ _. Unit {0}) c.args.key (Busy c.args.pad c.args.size c.args.tag) at)

pub invariant_of-self : goal.invariant_of-self
invariant_of-self c = let kept = sound c in (kept.0, kept.1, noted c)

pub returns-clause-ordered : goal.returns-clause-ordered
returns-clause-ordered c = (sound c).0.ordered
