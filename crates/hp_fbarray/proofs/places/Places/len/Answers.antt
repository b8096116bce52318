use Rattle.std.proofs.Common.{◌≡◌, length, ap, sym, ◌∙◌, arith}
use Rattle.hp_fbarray.proofs.PlaceLemmas.{length-places_of}
use Rattle.hp_fbarray.proofs.places.Places.len.Goals as goal

pub returns-clause-len : goal.returns-clause-len
returns-clause-len c = sym (length-places_of _ _) ∙ ap length c.self.view_is

pub returns-clause-few : goal.returns-clause-few
returns-clause-few c =
    let long : c.self.inside.len ≡ length c.args.self.now = returns-clause-len c in
    omega (arith, c.self.invariant.enough, c.self.invariant.few)
