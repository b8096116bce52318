use Rattle.std.proofs.Common.{◌≡◌, ◌+◌, ◌*◌, ◌≤◌, List}
use Rattle.std.specs.Prelude.{nat_lt}
use Rattle.hp_hall.specs.HallState.{Did}
use Rattle.hp_hall.specs.Mail.{MailStep}
use Rattle.hp_serve.specs.Falling.{if_moved}
use Rattle.hp_serve.specs.InHall.{StaysAlone, left_to_do}
use Rattle.hp_serve.specs.Waiting.{AreServings}
use Rattle.hp_serve.proofs.server.Server.serve_some.Given as goal

abbrev pub invariant-loop-time : goal.invariant-loop-time
invariant-loop-time g l = record {
  moved : l.moved ≡ nat_lt 0 l._time;
  served : (steps : List MailStep) × Did l.fn.self.me steps (g.H.Hall.state l.fn.hall) (g.H.Hall.state l.hall)
      × AreServings (g.J.Judge.denies l.judge) (g.H.Hall.state l.fn.hall).count l._time l.fn.self l.self steps;
  measure : left_to_do g.H.Hall.scale g.H.Hall.pending l.self (g.H.Hall.state l.hall) + g.H.Hall.scale * if_moved l.moved
      ≤ left_to_do g.H.Hall.scale g.H.Hall.pending l.fn.self (g.H.Hall.state l.fn.hall);
  alone : StaysAlone l.fn.self.me l.fn.self l.self (g.H.Hall.state l.fn.hall) (g.H.Hall.state l.hall);
  goes_on : g.H.Hall.goes_on l.fn.hall l.hall;
}
