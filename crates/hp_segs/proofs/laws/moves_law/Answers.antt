-- The laws are lemmas.
use Rattle.hp_segs.proofs.Appending.{calls_append, moves_append}
use Rattle.hp_segs.proofs.Moves.{calls_keep, calls_move, moves_compose, moves_keep, moves_stay, moves_widen}
use Rattle.hp_segs.proofs.laws.moves_law.Goals as goal

pub returns : goal.returns
returns c = record {
  calls_keep = calls_keep;
  calls_move = calls_move;
  stay = moves_stay;
  compose = moves_compose;
  keep = moves_keep;
  widen = moves_widen;
  calls_append = calls_append;
  append = moves_append;
}
