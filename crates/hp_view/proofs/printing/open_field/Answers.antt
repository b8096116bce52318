use Rattle.std.proofs.Common.{append_assoc, rules}
use Rattle.hp_view.proofs.printing.open_field.Goals as goal

pub returns : goal.returns
returns c = search (rules, append_assoc)
