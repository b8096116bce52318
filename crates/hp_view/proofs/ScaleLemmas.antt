-- A part of a whole on a scale.
use Rattle.std.proofs.Common.{◌≡◌, ℕ, ◌*◌, ◌/◌, ◌<◌, ◌≤◌, true, false, refl, arith}
use Rattle.std.specs.Prelude.{◌==◌, nat_lt}
use Rattle.hp_view.specs.Scales.{scaled}

pub scaled_of_nothing : (part whole pixels : ℕ) → whole ≡ 0 → scaled part whole pixels ≡ 0
unfolding scaled
scaled_of_nothing part whole pixels none = rw none refl

pub scaled_within : (part whole pixels : ℕ) → 0 < whole → part * pixels / whole < pixels → scaled part whole pixels ≡ part * pixels / whole
unfolding scaled
scaled_within part whole pixels some below =
    let test : (whole == 0) ≡ false = grind (arith, some) in
    let less : nat_lt (part * pixels / whole) pixels ≡ true = grind (arith, below) in
    rw (test, less) refl

pub scaled_past : (part whole pixels : ℕ) → 0 < whole → pixels ≤ part * pixels / whole → scaled part whole pixels ≡ pixels
unfolding scaled
scaled_past part whole pixels some above =
    let test : (whole == 0) ≡ false = grind (arith, some) in
    let less : nat_lt (part * pixels / whole) pixels ≡ false = grind (arith, above) in
    rw (test, less) refl
