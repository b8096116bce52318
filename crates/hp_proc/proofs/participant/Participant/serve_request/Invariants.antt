use Rattle.std.proofs.Common.{◌*◌, ◌<◌, ◌≡◌, ◌≤◌, List, drop, length, map, take}
use Rattle.hp_base.specs.declared.limits.TheConstants.{MAX_HEAPS}
use Rattle.hp_hall.specs.HallState.{IsBusy}
use Rattle.hp_hall.specs.Holding.{AgreeWith}
use Rattle.hp_zone.specs.declared.names.Names.{Names as NamesView}
use Rattle.hp_proc.specs.Allocating.{trying}
use Rattle.hp_serve.specs.Clocks.{RisesWithin, longest_growth}
use Rattle.hp_proc.specs.Heaps.{NamedHeap}
use Rattle.hp_proc.specs.LineInHall.{DoesHere, HasCalledBeside}
use Rattle.hp_proc.specs.PlaceLists.{place_named}
use Rattle.hp_proc.proofs.participant.Participant.serve_request.Given as goal

-- the heaps so far were passed
abbrev pub invariant-loop-place : goal.invariant-loop-place
invariant-loop-place g l = record {
  passed : (heaps : List NamedHeap) → map place_named heaps ≡ l.fn.places
      → DoesHere (map (λ place. place.index) (take l.place-index l.fn.places)) l.fn.self.party.me l.fn.self l.self (g.H.Hall.state l.fn.hall) (g.H.Hall.state l.hall)
      (trying l.fn.self.context.pools l.fn.request l.fn.tag heaps)
      (trying l.fn.self.context.pools l.fn.request l.fn.tag (drop l.place-index heaps));
  few : l.last < MAX_HEAPS;
  called : HasCalledBeside l.fn.self.party.me l.fn.self l.self (g.H.Hall.state l.fn.hall) (g.H.Hall.state l.hall);
  agrees : (names : NamesView) → AgreeWith ((g.H.Hall.state l.fn.hall).part l.fn.self.party.me) names
      → AgreeWith ((g.H.Hall.state l.hall).part l.fn.self.party.me) names;
  goes_on : g.H.Hall.goes_on l.fn.hall l.hall;
  along : l.place-index ≤ length l.fn.places;
  clock : RisesWithin g.H.Hall.pending (λ hall. IsBusy (g.H.Hall.state hall)) (l.place-index * longest_growth l.fn.self.party.deadline)
      (g.H.Hall.state l.fn.hall).clock (g.H.Hall.state l.hall).clock;
}
