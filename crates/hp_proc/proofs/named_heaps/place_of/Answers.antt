-- The name is looked up.
use Rattle.std.proofs.Common.{ℕ, Option, ap}
use Rattle.hp_proc.proofs.NamedPlaces.{place_found, place_none}
use Rattle.hp_proc.proofs.named_heaps.place_of.Goals as goal

pub returns-in-Some : goal.returns-in-Some
returns-in-Some c =
    place_found c.args.names.now.heaps c.args.text.now c.in-Some.index c.in-Some.socket
    (record { index = c.in-Some.index; serves = c.served_by.result }) c.requires.sound c.in-Some.ensures.found
    (ap (λ (serves : Option ℕ). record { index = c.in-Some.index; serves = serves }) c.served_by.ensures)

pub returns-in-None : goal.returns-in-None
returns-in-None c = place_none c.args.names.now.heaps c.args.text.now c.requires.sound c.in-None.ensures.none
