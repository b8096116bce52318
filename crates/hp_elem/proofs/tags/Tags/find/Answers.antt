use Rattle.std.proofs.Common.{◌≡◌, ◌≢◌, ◌%◌, ◌<◌, ℕ, Option, List, None, length, refl, ap, ◌∙◌, sym, subst, arith}
use Rattle.std.proofs.lemmas.List.{get_or_default}
use Rattle.std.proofs.lemmas.Bool.{eqb-true, eqb-false}
use Rattle.std.specs.Vec.{vec_len}
use Rattle.hp_elem.specs.Tags.{number_at, numbers_of, tag_number}
use Rattle.hp_elem.proofs.FindLemmas.{none_tagged, in_links, all_in, all_known}
use Rattle.hp_elem.proofs.LowestLemmas.{lowest_first}
use Rattle.hp_elem.proofs.tags.Tags.find.Goals as goal

pub returns-then-is_empty : goal.returns-then-is_empty
returns-then-is_empty c =
    let numbers = subst (λ (ns : List (Option ℕ)). number_at ns ≡ tag_number c.args.chain.now.items) (sym c.self.view_is) c.requires.numbers in
    let none : vec_len c.self.inside.firsts ≡ 0 = eqb-true (vec_len c.self.inside.firsts) 0 (sym c.is_empty.ensures ∙ c.if-is_empty.true) in
    lowest_first c.args.tag.zone c.args.tag.number 0 c.args.chain.now.items None c.requires.ordered.rising c.requires.ordered.apart
    (none_tagged c.self.inside.links.items c.self.inside.firsts.items c.args.chain.now.items c.args.tag.zone c.args.tag.number c.self.invariant.0 numbers (omega (arith, none, c.self.inside.firsts.ok.0)))

count : (c : goal.After-lowest_in-arg-1) → c.len.result ≡ length c.self.inside.firsts.items
count c = omega (arith, c.len.ensures, c.self.inside.firsts.ok.0)

below : (c : goal.After-lowest_in-arg-1) → c.args.tag.number % c.len.result < length c.self.inside.firsts.items
below c =
    let some : vec_len c.self.inside.firsts ≢ 0 = eqb-false (vec_len c.self.inside.firsts) 0 (sym c.is_empty.ensures ∙ c.if-is_empty.false) in
    omega (arith, some, count c, c.self.inside.firsts.ok.0)

pub lowest_in-requires-clause-all : goal.lowest_in-requires-clause-all
lowest_in-requires-clause-all c =
    let numbers = subst (λ (ns : List (Option ℕ)). number_at ns ≡ tag_number c.args.chain.now.items) (sym c.self.view_is) c.requires.numbers in
    all_in c.self.inside.links.items c.self.inside.firsts.items c.args.chain.now.items c.args.tag.zone c.args.tag.number c.self.invariant.0 numbers
    (c.args.tag.number % c.len.result) c.index.result.now (below c)
    (c.index.ensures ∙ sym (get_or_default c.self.inside.firsts.items (c.args.tag.number % c.len.result) None c.index.result.now (below c)))
    (ap (λ (n : ℕ). c.args.tag.number % n) (count c))

pub lowest_in-requires-clause-known : goal.lowest_in-requires-clause-known
lowest_in-requires-clause-known c =
    let numbers = subst (λ (ns : List (Option ℕ)). number_at ns ≡ tag_number c.args.chain.now.items) (sym c.self.view_is) c.requires.numbers in
    all_known c.self.inside.links.items c.self.inside.firsts.items c.args.chain.now.items c.args.tag.zone c.args.tag.number c.self.invariant.0 numbers
    (c.args.tag.number % c.len.result) c.index.result.now (below c)
    (c.index.ensures ∙ sym (get_or_default c.self.inside.firsts.items (c.args.tag.number % c.len.result) None c.index.result.now (below c)))

pub lowest_in-requires-clause-numbers : goal.lowest_in-requires-clause-numbers
lowest_in-requires-clause-numbers c =
    in_links c.self.inside.links.items c.self.inside.firsts.items c.args.chain.now.items c.args.tag.zone c.args.tag.number c.self.invariant.0
    (subst (λ (ns : List (Option ℕ)). number_at ns ≡ tag_number c.args.chain.now.items) (sym c.self.view_is) c.requires.numbers)

pub returns : goal.returns
returns c =
    lowest_first c.args.tag.zone c.args.tag.number 0 c.args.chain.now.items c.lowest_in.result c.requires.ordered.rising c.requires.ordered.apart c.lowest_in.ensures
