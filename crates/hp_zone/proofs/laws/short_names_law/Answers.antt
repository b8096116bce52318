use Rattle.hp_zone.specs.Directory.{opening}
use Rattle.hp_zone.proofs.NameLemmas.{HasShortNames-after, HasShortNames-opening}
use Rattle.hp_zone.proofs.laws.short_names_law.Goals as goal

pub returns : goal.returns
returns c sockets log may short = HasShortNames-after (opening sockets) log (HasShortNames-opening sockets may) short
