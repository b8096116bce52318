use Rattle.std.proofs.Common.{rules, [], ◌∷◌, sym, subst}
use Rattle.hp_stats.specs.declared.stat_pair.StatPair.{StatPair}
use Rattle.hp_stats.specs.CellRule.{IsNewest}
use Rattle.hp_stats.specs.Views.{first_view}
use Rattle.hp_stats.proofs.CellSteps.{begins}
use Rattle.hp_stats.proofs.stat_cell.StatCell.new.Goals as goal

pub ruled-requires : goal.ruled-requires
ruled-requires c = (search rules, (search rules, subst (λ (p : StatPair). IsNewest p (first_view ∷ [])) (sym c.zeros.ensures) begins))
