use Rattle.std.proofs.Common.{arith}
use Rattle.hp_elem.proofs.FilingLemmas.{place-set}
use Rattle.hp_elem.proofs.link.set_link.Goals as goal

pub returns-clause-places : goal.returns-clause-places
returns-clause-places c = place-set c.args.links.now.items c.args.key c.args.link (omega (arith, c.requires, c.args.links.now.ok.0))
