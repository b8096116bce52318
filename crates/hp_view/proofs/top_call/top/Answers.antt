use Rattle.std.proofs.Common.{refl, rules}
use Rattle.hp_view.specs.Outcome.Ends.{usage}
use Rattle.hp_view.proofs.OutcomeLemmas.{all_balanced, own_ends}
use Rattle.hp_view.proofs.top_call.top.Goals as goal

pub returns-then-not-is_own : goal.returns-then-not-is_own
returns-then-not-is_own g c = record { outcome = usage c.written.result (search rules) refl c.written.ensures refl; balanced = all_balanced }

pub returns : goal.returns
returns g c = record { outcome = own_ends _ _ _ _ _ _ _ (search rules) c.view.ensures.outcome; balanced = all_balanced }
