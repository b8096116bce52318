use Rattle.hp_external.proofs.BesideLemmas.{adds_beside, attaches_beside, destroys_beside, detaches_beside, removes_beside}
use Rattle.hp_external.proofs.laws.beside_law.Goals as goal

pub returns : goal.returns
returns c = record {
  destroyed = destroys_beside;
  added = adds_beside;
  removed = removes_beside;
  attached = attaches_beside;
  detached = detaches_beside;
}
