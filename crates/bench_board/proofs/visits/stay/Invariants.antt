use Rattle.bench_board.specs.Visits.{IsReadyAgain}
use Rattle.bench_board.proofs.visits.stay.Given as goal

abbrev pub invariant-loop : goal.invariant-loop
invariant-loop g l = IsReadyAgain l.board.id l.initial.primary l.primary
