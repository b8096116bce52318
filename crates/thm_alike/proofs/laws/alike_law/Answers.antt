-- The laws are lemmas.
use Rattle.thm_alike.proofs.AttachedAlike.{attached_map_alike}
use Rattle.thm_alike.proofs.EndAlike.{ends_alike}
use Rattle.thm_alike.proofs.GivenAttached.{ends_give_attached}
use Rattle.thm_alike.proofs.PagesMapped.{attached_pages_alike, end_pages_alike}
use Rattle.thm_alike.proofs.laws.alike_law.Goals as goal

pub returns : goal.returns
returns c = record {
  between = attached_map_alike;
  at_end = ends_alike;
  pages_between = attached_pages_alike;
  pages = end_pages_alike;
  attached = ends_give_attached;
}
