-- How a ring is kept. No public clause cites this module.
use Rattle.std.specs.Prelude.{◌≡◌, ◌≤◌, [], vec_capacity}
use Rattle.hp_ring.specs.declared.ring.Ring.TheInside.{Inside}
use Rattle.hp_ring.specs.PassViews.{RingView}

abbrev pub ring_view : Inside → RingView
ring_view a = record { id = a.queue.table.shared.table_id; slots = a.queue.cap; senders = a.senders; name = a.name }

-- there is room for all bulks that the ring can hold
pub record IsRing (a : Inside) : Type 0 where
  pub none : a.left.items ≡ []
  pub room : a.queue.cap ≤ vec_capacity a.left
