use Rattle.std.proofs.Common.{append_assoc, rules}
use Rattle.std.specs.Fmt.{digits}
use Rattle.hp_view.proofs.log.shrunk_words.Goals as goal

pub returns : goal.returns
unfolding digits
returns c = search (rules, append_assoc)
