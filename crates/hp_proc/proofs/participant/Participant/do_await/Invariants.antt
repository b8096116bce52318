use Rattle.std.proofs.Common.{◌≡◌, ◌+◌, ◌-◌, ◌^◌, List, [], None}
use Rattle.hp_hall.specs.HallState.{Did, IsBusy}
use Rattle.hp_hall.specs.Mail.{MailStep}
use Rattle.hp_proc.specs.Acting.{Acts}
use Rattle.hp_serve.specs.Clocks.{RisesWithin}
use Rattle.hp_serve.specs.InHall.{StaysIn, left_to_do}
use Rattle.hp_proc.proofs.participant.Participant.do_await.Given as goal

abbrev pub invariant-awaiting : goal.invariant-awaiting
invariant-awaiting g l = record {
  waited : (steps : List MailStep) × Did l.fn.self.party.me steps (g.H.Hall.state l.fn.hall) (g.H.Hall.state l.hall)
      × Acts (g.H.Hall.state l.fn.hall).count None None [] l.fn.self l.self [] steps;
  stays : StaysIn l.fn.self.party.me l.fn.self.party l.self.party (g.H.Hall.state l.fn.hall) (g.H.Hall.state l.hall);
  context : l.self.context ≡ l.fn.self.context;
  asked : l.self.party.asked ≡ l.fn.self.party.asked;
  goes_on : g.H.Hall.goes_on l.fn.hall l.hall;
  clock : RisesWithin g.H.Hall.pending (λ hall. IsBusy (g.H.Hall.state hall)) 0 (g.H.Hall.state l.fn.hall).clock (g.H.Hall.state l.hall).clock;
}

abbrev pub decreases-awaiting : goal.decreases-awaiting
decreases-awaiting g l =
    left_to_do g.H.Hall.scale g.H.Hall.pending l.self.party (g.H.Hall.state l.hall) + g.H.Hall.pending (g.H.Hall.state l.hall).clock (2 ^ 64 - 1)
