use Rattle.hp_chair.proofs.MailCame.{came_from, posted_by_one}
use Rattle.hp_chair.proofs.laws.came_law.Goals as goal

pub returns : goal.returns
returns c = record { in_order = came_from; posted = posted_by_one }
