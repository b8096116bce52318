use Rattle.std.proofs.Common.{◌≡◌, ◌<◌, ◌≤◌, ℕ, length, slice_index}
use Rattle.hp_hall.specs.HallState.{Did, Stays}
use Rattle.hp_serve.specs.Coordinating.{loads_of}
use Rattle.hp_serve.proofs.polling.load_acks.Given as goal

abbrev pub invariant-loop-member : goal.invariant-loop-member
invariant-loop-member g l = record {
  places : length l.acks ≡ 16;
  noted : (member : ℕ) → member < l.member → slice_index l.acks member ≤ ((g.H.Hall.state l.hall).noted 0 member).number;
  did : Did 0 (loads_of (g.H.Hall.state l.fn.hall).count l.acks l.member) (g.H.Hall.state l.fn.hall) (g.H.Hall.state l.hall);
  nobody : (member : ℕ) → (g.H.Hall.state l.fn.hall).count ≤ member → member < 16 → slice_index l.acks member ≡ 0;
  stays : Stays 0 (g.H.Hall.state l.fn.hall) (g.H.Hall.state l.hall);
  measure : (g.H.Hall.state l.hall).measure ≤ (g.H.Hall.state l.fn.hall).measure;
  goes_on : g.H.Hall.goes_on l.fn.hall l.hall;
}
