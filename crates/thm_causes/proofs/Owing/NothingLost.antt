-- Where a plan loses no message none is lost.
use Rattle.std.proofs.Common.{◌≡◌, ℕ, ◌<◌, List, arith}
use Rattle.hp_base.specs.declared.plan_entry.MsgKind.{MsgKind}
use Rattle.hp_base.specs.declared.plan_entry.PlanEntry.{PlanEntry}
use Rattle.thm_causes.specs.Counting.{LosesNothing, lost_among}
use Rattle.thm_causes.proofs.CountingLemmas.{lost_as_planned}

-- none of the first messages is lost
pub none_lost : (plan : List PlanEntry) (kind : MsgKind) (party n : ℕ) → LosesNothing plan → lost_among plan kind party n ≡ 0
none_lost plan kind party n nothing = omega (arith, lost_as_planned plan kind party n, nothing kind party)

-- so there is no room for one more that is lost
pub not_lost : (plan : List PlanEntry) (kind : MsgKind) (party n m : ℕ) → LosesNothing plan → m < lost_among plan kind party n → ⊥
not_lost plan kind party n m nothing lost = omega (arith, none_lost plan kind party n nothing, lost)
