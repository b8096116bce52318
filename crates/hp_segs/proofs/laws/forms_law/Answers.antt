-- The laws are lemmas.
use Rattle.hp_segs.proofs.FormCalls.{log_form_leaves, owner_form_leaves, range_form_leaves, roster_form_leaves}
use Rattle.hp_segs.proofs.laws.forms_law.Goals as goal

pub returns : goal.returns
returns c = record {
  logs = log_form_leaves;
  enrols = roster_form_leaves;
  owns = owner_form_leaves;
  ranges = range_form_leaves;
}
