-- Lists of which a stretch of places is set alike.
use Rattle.std.proofs.Common.{◌≡◌, ℕ, zero, suc, ◌+◌, List, length, set, refl, ◌∙◌, add-one}
use Rattle.std.proofs.Math.ListN.{length-set}
use Rattle.hp_segs.specs.Masks.{with_places}

pub length_with_places : {X : Type 0} (xs : List X) (first n : ℕ) (x : X) → length (with_places xs first n x) ≡ length xs
length_with_places xs first zero x = refl
length_with_places xs first (suc n) x =
    length-set (with_places xs first n x) (first + n) x ∙ length_with_places xs first n x

-- one place more is set
pub with_places_more : {X : Type 0} (xs : List X) (first n : ℕ) (x : X)
    → with_places xs first (n + 1) x ≡ set (with_places xs first n x) (first + n) x
with_places_more xs first n x = rw add-one refl
