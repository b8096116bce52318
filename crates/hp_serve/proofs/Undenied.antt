-- What a judge answers that denies nothing: the rule "Validators" of docs/OUTSIDE.md.
use Rattle.std.specs.Prelude.{◌≡◌, ℕ, List, Option, Some, None}
use Rattle.hp_core.specs.Judging.{MayAnswer}
use Rattle.hp_serve.specs.Denials.{nobody_denies}

-- asked or not, it denies nothing
pub nothing_denied : (judged : Option (ℕ × ℕ)) (denied : Option (List ℕ × ℕ)) → MayAnswer nobody_denies judged denied → denied ≡ None
nothing_denied None denied given = given
nothing_denied (Some judged) denied given = given
