use Rattle.std.proofs.Common.{◌≡◌, ◌*◌, ◌≤◌, [], drop, length}
use Rattle.hp_base.specs.declared.tag.Tag.{Tag}
use Rattle.hp_proc.specs.Allocating.{asking}
use Rattle.hp_serve.specs.Clocks.{RisesWithin, longest_wait}
use Rattle.hp_proc.specs.Doing.{Doing}
use Rattle.hp_proc.specs.Heaps.{page_sizes_for}
use Rattle.hp_proc.specs.Progress.{Does, in_hand}
use Rattle.hp_hall.specs.HallState.{IsBusy}
use Rattle.hp_proc.specs.LineInHall.{HoldsIn, KnowsAsBefore, did_in, moment}
use Rattle.hp_serve.specs.InHall.{RemainsIn}
use Rattle.hp_proc.proofs.participant.Participant.grow.Given as goal

-- it was granted no page of the sizes so far
abbrev pub invariant-loop-page : goal.invariant-loop-page
invariant-loop-page g l = record {
  pages : l.page-items ≡ page_sizes_for l.fn.self.context.pools l.fn.place.socket l.fn.request.flags;
  does : (tag : Tag) (otherwise : Doing) → Does [] (g.H.Hall.state l.fn.hall).count (did_in l.fn.self.party.me (g.H.Hall.state l.fn.hall) (g.H.Hall.state l.hall))
      (asking l.fn.place.index l.fn.place.socket l.fn.request tag otherwise l.page-items)
      (asking l.fn.place.index l.fn.place.socket l.fn.request tag otherwise (drop l.page-index l.page-items))
      (in_hand l.fn.heap (moment l.fn.self.party.me l.fn.self (g.H.Hall.state l.fn.hall)))
      (in_hand l.heap (moment l.fn.self.party.me l.self (g.H.Hall.state l.hall)));
  holds : HoldsIn l.self.party.me l.self l.heap (g.H.Hall.state l.hall);
  heap : l.heap ≡ l.fn.heap;
  context : l.self.context ≡ l.fn.self.context;
  knows : KnowsAsBefore l.fn.self.party.me (g.H.Hall.state l.fn.hall) (g.H.Hall.state l.hall);
  remains : RemainsIn l.fn.self.party.me l.fn.self.party l.self.party (g.H.Hall.state l.fn.hall) (g.H.Hall.state l.hall);
  goes_on : g.H.Hall.goes_on l.fn.hall l.hall;
  along : l.page-index ≤ length l.page-items;
  clock : RisesWithin g.H.Hall.pending (λ hall. IsBusy (g.H.Hall.state hall)) (l.page-index * longest_wait l.fn.self.party.deadline) (g.H.Hall.state l.fn.hall).clock
      (g.H.Hall.state l.hall).clock;
}
