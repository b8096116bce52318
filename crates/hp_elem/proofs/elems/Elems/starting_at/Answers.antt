use Rattle.std.proofs.Common.{◌≡◌, ℕ, Option, ap, subst, ◌∙◌}
use Rattle.hp_elem.specs.Items.{key_from}
use Rattle.hp_elem.specs.View.{ElemsView}
use Rattle.hp_elem.proofs.StartLemmas.{start_is}
use Rattle.hp_elem.proofs.elems.Elems.starting_at.Goals as goal

pub returns : goal.returns
returns c =
    subst (λ (v : ElemsView). c.find.result ≡ key_from c.args.addr v.items) c.self.view_is
    (c.find.ensures ∙ ap (λ (table : ℕ → Option ℕ). table c.args.addr) c.self.invariant.0.started ∙ start_is c.args.addr c.self.inside.chain.items)
