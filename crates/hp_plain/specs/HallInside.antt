-- How a hall of plain values is kept. No public clause cites this module.
use Rattle.std.specs.Prelude.{◌≡◌, ◌≤◌, [], vec_capacity}
use Rattle.hp_base.specs.declared.limits.TheConstants.{MAX_HEAPS}
use Rattle.hp_plain.specs.declared.plain_hall.PlainHall.TheInside.{Inside}
use Rattle.hp_plain.specs.HallView.{HallView, IsHall}

abbrev pub hall_view : Inside → HallView
hall_view a = record {
  slots = a.slots.items;
  boxes = a.boxes.items;
  owns = a.owns.items;
  lines = a.lines.items;
  clock = a.clock;
  full_mailboxes = a.full_mailboxes;
  mail = a.mail;
}

-- what holds of every hall, and the vector of the heaps is empty, with room for all
pub record IsInside (a : Inside) : Type 0 where
  pub hall : IsHall (hall_view a)
  pub emptied : a.heaps.items ≡ []
  pub room : MAX_HEAPS ≤ vec_capacity a.heaps
