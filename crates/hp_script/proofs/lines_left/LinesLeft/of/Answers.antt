-- A text has at most one line more than bytes.
use Rattle.hp_script.specs.Part.{part_at}
use Rattle.hp_script.proofs.TokenFacts.TextLemmas.{few_lines}
use Rattle.hp_script.proofs.lines_left.LinesLeft.of.Goals as goal

pub returns-clause-few : goal.returns-clause-few
returns-clause-few c = rw c.new.ensures (few_lines (part_at 0 c.args.bytes))
