use Rattle.std.proofs.Common.{◌≡◌, ◌≢◌, ℕ, Option, Some, None, sym, ap, ◌∙◌}
use Rattle.std.proofs.lemmas.Option.{none-some, same_Some}
use Rattle.hp_elem.specs.Items.{is_tagged_state}
use Rattle.hp_elem.specs.Tags.{tag_number, tagged_start}
use Rattle.hp_elem.specs.Lowest.{with_start}
use Rattle.hp_elem.proofs.FindLemmas.{no_start}
use Rattle.hp_elem.proofs.LowestLemmas.{stands_entry, start_counts}
use Rattle.hp_elem.proofs.lowest.lower_at.Goals as goal

pub returns-in_default : goal.returns-in_default
returns-in_default c =
    let other : tag_number c.args.chain.now.items c.args.key ≢ Some c.args.tag.number = λ same. none-some c.args.tag.number (sym c.in_default.is ∙ c.requires.number ∙ same) in
    ap (λ (entry : Option ℕ). with_start c.args.best c.args.key entry) (sym (no_start c.args.tag.zone c.args.tag.number c.args.key c.args.chain.now.items other))

pub returns-then-own-tag : goal.returns-then-own-tag
returns-then-own-tag c =
    let other : tag_number c.args.chain.now.items c.args.key ≢ Some c.args.tag.number =
    λ same. c.if-own-tag.true (same_Some c.in-Some.own c.args.tag.number (sym c.in-Some.is ∙ c.requires.number ∙ same)) in
    ap (λ (entry : Option ℕ). with_start c.args.best c.args.key entry) (sym (no_start c.args.tag.zone c.args.tag.number c.args.key c.args.chain.now.items other))

pub returns : goal.returns
returns c =
    let entry = stands_entry (tagged_start c.args.tag.zone c.args.tag.number) c.args.key c.args.chain.now.items c.get.result.now c.requires.apart c.get.ensures.stands in
    c.lower.ensures
    ∙ sym (start_counts c.args.best c.args.key c.get.result.now.span.addr (is_tagged_state c.args.tag.zone c.args.tag.number c.get.result.now.span.state))
    ∙ ap (λ (e : Option ℕ). with_start c.args.best c.args.key e) (sym entry)
