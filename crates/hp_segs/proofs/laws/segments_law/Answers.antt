-- The laws are lemmas.
use Rattle.hp_segs.proofs.MachineLemmas.{failed_growth_leaves, claim_is_step, retire_is_step, drop_is_step}
use Rattle.hp_segs.proofs.GrowthSteps.GrowLemmas.{grant_is_step}
use Rattle.hp_segs.proofs.GrowthSteps.GrantedRows.{claim_owns_all, rows_are_granted}
use Rattle.hp_segs.proofs.LeaveLemmas.{others_leave}
use Rattle.hp_segs.proofs.laws.segments_law.Goals as goal

pub returns : goal.returns
returns c = record {
  failed_growth = failed_growth_leaves;
  grant = grant_is_step;
  claim = claim_is_step;
  retire = retire_is_step;
  drop = drop_is_step;
  others = others_leave;
  claimed_whole = claim_owns_all;
  granted = rows_are_granted;
}
