use Rattle.std.proofs.Common.{◌≡◌, length, ap, sym, ◌∙◌, arith}
use Rattle.hp_fbarray.proofs.PlaceLemmas.{length-places_of}
use Rattle.hp_fbarray.proofs.PlaceSteps.{IsNextPlace-in}
use Rattle.hp_fbarray.proofs.places.Places.next.Goals as goal

pub next_place-requires-clause-enough : goal.next_place-requires-clause-enough
next_place-requires-clause-enough c =
    let long : c.self.inside.len ≡ length c.args.self.now
    = sym (length-places_of _ _) ∙ ap length c.self.view_is in
    rw c.as_slice.ensures.value (omega (arith, c.self.invariant.enough))

pub returns : goal.returns
returns c =
    let long : c.self.inside.len ≡ length c.args.self.now
    = sym (length-places_of _ _) ∙ ap length c.self.view_is in
    let next = rw c.as_slice.ensures.value at c.next_place.ensures in
    rw (← c.self.view_is) (IsNextPlace-in _ _ _ _ _ _ (omega arith) next)
