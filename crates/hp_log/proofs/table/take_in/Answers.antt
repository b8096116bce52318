-- A filter keeps the rows outside the run.
use Rattle.std.proofs.Common.{rules}
use Rattle.std.proofs.lemmas.Fn.{filter_same}
use Rattle.hp_log.proofs.table.take_in.Goals as goal

pub returns-in-Drop : goal.returns-in-Drop
returns-in-Drop c =
    rw c.in-Drop.is (record { ok = filter_same _ _ _ (λ x b f' k. search rules) _ _ c.retain.ensures.filtered })
