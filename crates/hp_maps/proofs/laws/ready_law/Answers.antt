-- The laws are lemmas.
use Rattle.hp_maps.proofs.BesideLemmas.{attached_beside, detached_beside}
use Rattle.hp_maps.proofs.ReadyLemmas.{new_is_ready, ready_to_attach, ready_to_catch_up, stays_ready, tells_one_a_record}
use Rattle.hp_maps.proofs.laws.ready_law.Goals as goal

pub returns : goal.returns
returns c = record {
  new = new_is_ready;
  stays = stays_ready;
  catch_up = ready_to_catch_up;
  spare = tells_one_a_record;
  attach = ready_to_attach;
  attached = attached_beside;
  detached = detached_beside;
}
