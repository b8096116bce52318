use Rattle.std.proofs.Common.{◌≡◌, ℕ, Option, Some, None, sym, ap, ◌∙◌}
use Rattle.hp_elem.specs.Tags.{place_at, number_in, with_entry}
use Rattle.hp_elem.proofs.EntryLemmas.{entry-same, entry-again}
use Rattle.hp_elem.proofs.filing.refile.Goals as goal

pub put-requires-clause-none : goal.put-requires-clause-none
put-requires-clause-none c =
    ap (λ (table : ℕ → Option ℕ). table c.args.key) c.clear.ensures.numbers ∙ entry-same c.args.key None (number_in (place_at c.args.links.now.items))

pub returns-in-Some-clause-numbers : goal.returns-in-Some-clause-numbers
returns-in-Some-clause-numbers c =
    c.put.ensures.numbers
    ∙ ap (λ (table : ℕ → Option ℕ). with_entry c.args.key (Some c.in-Some.number) table) c.clear.ensures.numbers
    ∙ entry-again c.args.key (Some c.in-Some.number) None (number_in (place_at c.args.links.now.items))
    ∙ ap (λ (n : Option ℕ). with_entry c.args.key n (number_in (place_at c.args.links.now.items))) (sym c.in-Some.is)
