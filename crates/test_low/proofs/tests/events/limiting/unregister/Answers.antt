-- Those that are left may be called.
use Rattle.std.proofs.Common.{List, subst, sym}
use Rattle.std.specs.List.{All}
use Rattle.std.proofs.lemmas.List.Elements.{All-filter}
use Rattle.hp_events.specs.declared.validator.Validator.{Validator}
use Rattle.test_low.proofs.tests.events.limiting.unregister.Goals as goal

pub returns-in-Ok : goal.returns-in-Ok
returns-in-Ok g c =
    subst (λ (l : List (Validator g.row.F.Denot)). All (λ own. goal.F-IsAlwaysCallable g own.allows) l) (sym c.in-Ok.ensures.ok.left)
    (All-filter _ (λ own. goal.F-IsAlwaysCallable g own.allows) _ c.requires)
