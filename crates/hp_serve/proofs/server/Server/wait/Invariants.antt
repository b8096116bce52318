use Rattle.std.proofs.Common.{◌≡◌, ◌+◌, ◌≤◌, ◌⊎◌, ℕ, List}
use Rattle.hp_hall.specs.HallState.{Did}
use Rattle.hp_hall.specs.Mail.{MailStep}
use Rattle.hp_serve.specs.InHall.{StaysIn, left_to_do}
use Rattle.hp_serve.specs.Waiting.{AreTurns}
use Rattle.hp_serve.proofs.server.Server.wait.Given as goal

abbrev pub invariant-waiting : goal.invariant-waiting
invariant-waiting g l = record {
  turned : (turns : ℕ) × (steps : List MailStep) × Did l.fn.self.me steps (g.H.Hall.state l.fn.hall) (g.H.Hall.state l.hall)
      × AreTurns (g.J.Judge.denies l.judge) (g.H.Hall.state l.fn.hall).count l.until l.heeds turns l.fn.self l.self steps;
  measure : left_to_do g.H.Hall.scale g.H.Hall.pending l.self (g.H.Hall.state l.hall) + g.H.Hall.pending (g.H.Hall.state l.hall).clock l.until
      ≤ left_to_do g.H.Hall.scale g.H.Hall.pending l.fn.self (g.H.Hall.state l.fn.hall)
      + g.H.Hall.pending (g.H.Hall.state l.fn.hall).clock l.until;
  clock : ((g.H.Hall.state l.hall).clock ≡ (g.H.Hall.state l.fn.hall).clock) ⊎ ((g.H.Hall.state l.hall).clock ≤ l.until);
  stays : StaysIn l.fn.self.me l.fn.self l.self (g.H.Hall.state l.fn.hall) (g.H.Hall.state l.hall);
  goes_on : g.H.Hall.goes_on l.fn.hall l.hall;
}

abbrev pub decreases-waiting : goal.decreases-waiting
decreases-waiting g l =
    left_to_do g.H.Hall.scale g.H.Hall.pending l.self (g.H.Hall.state l.hall) + g.H.Hall.pending (g.H.Hall.state l.hall).clock l.until
