use Rattle.std.proofs.Common.{drop, take, map}
use Rattle.hp_hall.specs.HallState.{IsBusy}
use Rattle.hp_serve.specs.Clocks.{RisesWithin}
use Rattle.hp_proc.specs.Freeing.{acting, looking}
use Rattle.hp_proc.specs.LineInHall.{DoesHere, HasCalled}
use Rattle.hp_proc.proofs.participant.Participant.look_for.Given as goal

abbrev pub invariant-loop-place : goal.invariant-loop-place
invariant-loop-place g l = record {
  does : DoesHere (map (λ place. place.index) (take l.place-index l.places)) l.fn.self.party.me l.fn.self l.self (g.H.Hall.state l.fn.hall) (g.H.Hall.state l.hall) (looking l.tag (acting l.action) l.places)
      (looking l.tag (acting l.action) (drop l.place-index l.places));
  called : HasCalled l.fn.self.party.me l.fn.self l.self (g.H.Hall.state l.hall);
  goes_on : g.H.Hall.goes_on l.fn.hall l.hall;
  clock : RisesWithin g.H.Hall.pending (λ hall. IsBusy (g.H.Hall.state hall)) 0 (g.H.Hall.state l.fn.hall).clock (g.H.Hall.state l.hall).clock;
}
