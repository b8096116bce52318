use Rattle.std.proofs.Common.{◌≡◌, ◌+◌, ◌≤◌, Some, false, true, length}
use Rattle.hp_hall.specs.Measures.{boxes_measure, pending_at}
use Rattle.hp_serve.specs.Falling.{if_moved}
use Rattle.hp_solo.specs.Sequence.{IsServedSome}
use Rattle.hp_solo.specs.Served.{HasServed, KeepsServing}
use Rattle.hp_solo.specs.Solo.{IsPartyServed, party_measure}
use Rattle.hp_solo.proofs.alone.serve_out.Given as goal

abbrev pub invariant-serving : goal.invariant-serving
invariant-serving g l = record {
  served : IsPartyServed l.initial.hall l.hall l.initial.participant l.participant;
  measure : boxes_measure l.hall.boxes + party_measure (pending_at l.hall.clock) (Some l.participant) + if_moved l.moved
      ≤ boxes_measure l.initial.hall.boxes + party_measure (pending_at l.initial.hall.clock) (Some l.initial.participant);
  serves : HasServed (g.J.Judge.denies l.judge) (length l.initial.hall.owns) l.initial.participant.me l.initial.hall l.hall
      l.initial.participant l.participant;
  kept : l.moved ≡ true → KeepsServing (g.J.Judge.denies l.judge) (length l.initial.hall.owns) l.initial.participant.me
      l.initial.hall l.hall l.initial.participant;
  served_some : IsServedSome (g.J.Judge.denies l.judge) l.initial.hall l.hall l.initial.participant l.participant;
  still_hall : l.moved ≡ false → l.hall ≡ l.initial.hall;
  still_party : l.moved ≡ false → l.participant ≡ l.initial.participant;
}

abbrev pub decreases-serving : goal.decreases-serving
decreases-serving g l = boxes_measure l.hall.boxes + party_measure (pending_at l.hall.clock) (Some l.participant)
