use Rattle.std.proofs.Common.{replicate, ap, ◌∙◌, arith}
use Rattle.hp_solo.specs.Solo.{nobody}
use Rattle.hp_solo.proofs.alone.places.Goals as goal

pub returns : goal.returns
returns g c =
    c.loop-place.invariant.0
    ∙ ap (λ n. replicate n nobody) (omega (arith, c.loop-place-test.false, c.loop-place.auto._place-end))
