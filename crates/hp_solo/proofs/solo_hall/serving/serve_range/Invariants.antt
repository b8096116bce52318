use Rattle.std.proofs.Common.{◌≡◌, ℕ, ◌+◌, ◌<◌, ◌≤◌, ◌⊎◌, false, length}
use Rattle.hp_hall.specs.Measures.{boxes_measure, pending_at}
use Rattle.hp_serve.specs.Falling.{if_moved}
use Rattle.hp_solo.specs.Sequence.{Visits}
use Rattle.hp_solo.specs.Served.{IsInRisingNumber, KeepsServingAt}
use Rattle.hp_solo.specs.Solo.{AreLater, AreTied, IsBetween, IsOutside, IsQuiet, IsServerAtRest, IsServing, LooksLastAt, denials_in, has_stopped, party_at, server_at, servers_measure}
use Rattle.hp_solo.proofs.solo_hall.serving.serve_range.Given as goal

abbrev pub invariant-loop-number : goal.invariant-loop-number
invariant-loop-number g l = record {
  begun : l.from ≤ l.number;
  within : (l.number ≤ l.from) ⊎ (l.number ≤ l.to);
  serving : IsServing (IsOutside l.from l.number) l.initial.hall l.hall;
  rising : IsInRisingNumber l.initial.hall l.hall;
  tied : AreTied l.hall l.servers.items;
  later : AreLater (record { plain = l.initial.hall; servers = l.initial.servers.items }) (record { plain = l.hall; servers = l.servers.items });
  count : length l.servers.items ≡ length l.initial.servers.items;
  measure : boxes_measure l.hall.boxes + servers_measure (pending_at l.hall.clock) l.servers.items + if_moved l.moved
      ≤ boxes_measure l.initial.hall.boxes + servers_measure (pending_at l.initial.hall.clock) l.initial.servers.items;
  rests : (who : ℕ) → l.from ≤ who → who < l.number → IsServerAtRest l.hall.clock (server_at l.servers.items who);
  keeps : (who : ℕ) → l.from ≤ who → who < l.number → KeepsServingAt (denials_in (server_at l.initial.servers.items who)) l.initial.hall
      l.hall who (party_at l.initial.servers.items who);
  looks : (who : ℕ) → l.from ≤ who → who < l.number → LooksLastAt l.initial.hall l.hall who (server_at l.servers.items who);
  others : (who : ℕ) → IsOutside l.from l.number who → server_at l.servers.items who ≡ server_at l.initial.servers.items who;
  quiet : l.moved ≡ false → IsQuiet (IsBetween l.from l.number) (record { plain = l.initial.hall; servers = l.initial.servers.items })
      (record { plain = l.hall; servers = l.servers.items });
  visits : has_stopped l.servers.items ≡ false → Visits l.from l.number (record { plain = l.initial.hall; servers = l.initial.servers.items })
      (record { plain = l.hall; servers = l.servers.items });
}
