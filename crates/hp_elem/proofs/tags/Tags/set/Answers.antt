use Rattle.std.proofs.Common.{ℕ, Option, sym, ap, ◌∙◌}
use Rattle.hp_elem.specs.Tags.{with_entry}
use Rattle.hp_elem.proofs.FilingLemmas.{numbers_are}
use Rattle.hp_elem.proofs.tags.Tags.set.Goals as goal

pub returns-then-key-len-clause-number : goal.returns-then-key-len-clause-number
returns-then-key-len-clause-number c = λ within.
    rw (← c.self.view_is)
    (numbers_are c.refile.new.links.items ∙ c.refile.ensures.numbers
    ∙ ap (λ (table : ℕ → Option ℕ). with_entry c.args.key c.args.number table) (sym (numbers_are c.self.inside.links.items)))
