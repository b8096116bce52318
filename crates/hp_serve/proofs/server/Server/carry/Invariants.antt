use Rattle.std.proofs.Common.{◌+◌, ◌*◌, ◌≤◌, List}
use Rattle.hp_hall.specs.HallState.{Did}
use Rattle.hp_hall.specs.Mail.{MailStep}
use Rattle.hp_serve.specs.Falling.{maps_measure, out_measure}
use Rattle.hp_serve.specs.InHall.{StaysAlone, left_to_do}
use Rattle.hp_serve.specs.Posting.{IsSpoken}
use Rattle.hp_serve.proofs.Carrying.{LeadsOn, under_way}
use Rattle.hp_serve.proofs.server.Server.carry.Given as goal

abbrev pub invariant-loop-answer : goal.invariant-loop-answer
invariant-loop-answer g l = record {
  spoken : IsSpoken l.answer;
  carried : (steps : List MailStep) × Did 0 steps (g.H.Hall.state l.fn.hall) (g.H.Hall.state l.hall)
      × LeadsOn (g.H.Hall.state l.fn.hall).count l.fn.self l.fn.answer steps l.self l.answer;
  measure : left_to_do g.H.Hall.scale g.H.Hall.pending l.self (g.H.Hall.state l.hall) + g.H.Hall.scale * out_measure l.answer
      ≤ left_to_do g.H.Hall.scale g.H.Hall.pending l.fn.self (g.H.Hall.state l.fn.hall) + g.H.Hall.scale * out_measure l.fn.answer;
  alone : StaysAlone 0 l.fn.self l.self (g.H.Hall.state l.fn.hall) (g.H.Hall.state l.hall);
  goes_on : g.H.Hall.goes_on l.fn.hall l.hall;
}

abbrev pub decreases-loop-answer : goal.decreases-loop-answer
decreases-loop-answer g l = under_way l.self.core + maps_measure l.answer
