-- The values of a hall are there again.
use Rattle.std.proofs.Common.{◌≡◌, ◌≢◌, ℕ, sym, subst, ⊎_elim}
use Rattle.std.proofs.lemmas.Bool.{cases_eq}
use Rattle.hp_plain.specs.HallView.{HallView, IsHome, slot_at}
use Rattle.hp_plain.specs.Opening.{AreHome}

-- all values are there again once a slot that was taken has its value again
pub home_again : (old mid new : HallView) (number : ℕ) → AreHome old
    → ((other : ℕ) → other ≢ number → IsHome (slot_at old other) → IsHome (slot_at mid other))
    → ((other : ℕ) → other ≢ number → IsHome (slot_at mid other) → IsHome (slot_at new other)) → IsHome (slot_at new number) → AreHome new
home_again old mid new number home out back here other below =
    ⊎_elim
    (λ (same : other ≡ number). subst (λ (n : ℕ). IsHome (slot_at new n)) (sym same) here)
    (λ (apart : other ≢ number). back other apart (out other apart (home other below)))
    (cases_eq other number)
