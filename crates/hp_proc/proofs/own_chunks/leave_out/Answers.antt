-- A filter keeps those that stand before it, or after it.
use Rattle.std.proofs.Common.{rules}
use Rattle.std.proofs.lemmas.Fn.{filter_same}
use Rattle.hp_proc.proofs.own_chunks.leave_out.Goals as goal

pub returns : goal.returns
returns c = filter_same _ _ _ (λ x b f' k. search rules) _ _ c.retain.ensures.filtered
