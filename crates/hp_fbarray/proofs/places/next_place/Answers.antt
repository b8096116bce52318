use Rattle.hp_fbarray.proofs.PlaceSteps.{IsNextIn-found, IsNextIn-none}
use Rattle.hp_fbarray.proofs.places.next_place.Goals as goal

pub returns-then-bit-lt64 : goal.returns-then-bit-lt64
returns-then-bit-lt64 c =
    rw c.min.ensures
    (IsNextIn-found _ _ _ _ _ _ c.loop-place.invariant c.requires.within c.if-bit-lt64.true c.next_bit-bit.ensures)

pub returns : goal.returns
returns c =
    IsNextIn-none _ _ _ _ _ c.loop-place.invariant c.requires.within c.loop-place-test.false
