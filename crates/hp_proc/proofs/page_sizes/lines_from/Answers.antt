use Rattle.hp_proc.proofs.PoolsFrom.{same_sizes}
use Rattle.hp_proc.proofs.page_sizes.lines_from.Goals as goal

pub returns : goal.returns
returns c = λ page. same_sizes c.args.pools.now c.args.socket c.first_of-first.result page c.first_of-first.ensures.place
