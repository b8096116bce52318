use Rattle.hp_threads.specs.Working.{GoesOnWorking, IsReadyStill}
use Rattle.hp_threads.proofs.serving.serve_all.Given as goal

abbrev pub invariant-loop : goal.invariant-loop
invariant-loop g l = record {
  still : IsReadyStill l.initial.participant l.participant (g.H.Hall.state l.initial.hall) (g.H.Hall.state l.hall);
  goes : GoesOnWorking l.initial.participant l.participant (g.H.Hall.state l.initial.hall) (g.H.Hall.state l.hall);
  goes_on : g.H.Hall.goes_on l.initial.hall l.hall;
}
