use Rattle.std.proofs.Common.{◌≡◌, [], length}
use Rattle.hp_hall.specs.HallState.{IsBusy}
use Rattle.hp_proc.proofs.LeavingAll.{AreLeaving}
use Rattle.hp_proc.specs.LineInHall.{IsReadyAgain, IsReadyIn}
use Rattle.hp_serve.specs.Clocks.{RisesWithin}
use Rattle.hp_proc.proofs.participant.Participant.leave_all.Given as goal

abbrev pub invariant-leaving : goal.invariant-leaving
invariant-leaving g l = record {
  leaving : AreLeaving l.fn.self.party.me l.fn.self l.self (g.H.Hall.state l.fn.hall) (g.H.Hall.state l.hall);
  ready : IsReadyIn l.fn.self.party.me l.fn.self (g.H.Hall.state l.fn.hall) → IsReadyAgain l.fn.self.party.me l.fn.self l.self (g.H.Hall.state l.hall);
  alone : l.fn.self.context.standing.chunks ≡ [] → (l.self ≡ l.fn.self) × (l.hall ≡ l.fn.hall);
  clock : RisesWithin g.H.Hall.pending (λ hall. IsBusy (g.H.Hall.state hall)) 0 (g.H.Hall.state l.fn.hall).clock (g.H.Hall.state l.hall).clock;
  goes_on : g.H.Hall.goes_on l.fn.hall l.hall;
}

abbrev pub decreases-leaving : goal.decreases-leaving
decreases-leaving g l = length l.self.context.standing.chunks
