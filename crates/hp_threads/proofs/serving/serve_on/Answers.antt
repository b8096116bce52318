-- It served, or was refused memory.
use Rattle.hp_threads.proofs.serving.serve_on.Goals as goal

pub returns-in-Ok : goal.returns-in-Ok
returns-in-Ok g c = record {
  still = c.serve.ensures.still;
  going = λ is. is;
  goes = λ is. c.in-Ok.ensures.goes;
  goes_on = c.serve.ensures.goes_on;
}
