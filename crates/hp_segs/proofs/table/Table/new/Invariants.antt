-- What is made of the pools so far.
use Rattle.hp_segs.proofs.NewLemmas.{IsMade}
use Rattle.hp_segs.proofs.table.Table.new.Given as goal

abbrev pub invariant-loop-line : goal.invariant-loop-line
invariant-loop-line l = IsMade l.pools l.line-index l.lists l.masks.items l.kept.items l.counts l.end
