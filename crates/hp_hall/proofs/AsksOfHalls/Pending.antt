-- Deadlines that are still to come, and such as have passed.
use Rattle.std.proofs.Common.{◌≡◌, ℕ, ◌<◌, ◌≤◌, Bool, true, false, ltb, cond, refl, ⊎_elim, arith}
use Rattle.std.proofs.lemmas.Bool.{cases_lt, le-ltb, lt-ltb, ltb-true}
use Rattle.hp_hall.specs.Measures.{pending_at}

if_later : (later : Bool) → later ≡ true → ◌≡◌ {A = ℕ} (cond later 1 0) 1
if_later true is = refl
if_later false is = cc

pub pending_later : (clock deadline : ℕ) → clock < deadline → pending_at clock deadline ≡ 1
unfolding pending_at
pending_later clock deadline below = if_later (ltb clock deadline) (lt-ltb clock deadline below)

later_if : (later : Bool) → ◌≡◌ {A = ℕ} (cond later 1 0) 1 → later ≡ true
later_if true is = refl
later_if false is = cc

pub later_from_pending : (clock deadline : ℕ) → pending_at clock deadline ≡ 1 → clock < deadline
unfolding pending_at
later_from_pending clock deadline is = ltb-true clock deadline (later_if (ltb clock deadline) is)

if_past : (later : Bool) → later ≡ false → ◌≡◌ {A = ℕ} (cond later 1 0) 0
if_past true is = cc
if_past false is = refl

pub pending_past : (clock deadline : ℕ) → deadline ≤ clock → pending_at clock deadline ≡ 0
unfolding pending_at
pending_past clock deadline past = if_past (ltb clock deadline) (le-ltb clock deadline past)

-- what is still to come at a later reading was so before
pub pending_falls : (clock next deadline : ℕ) → clock ≤ next → pending_at next deadline ≤ pending_at clock deadline
pending_falls clock next deadline later =
    ⊎_elim
    (λ (to_come : next < deadline). omega (arith, pending_later next deadline to_come, pending_later clock deadline (omega arith)))
    (λ (past : deadline ≤ next). omega (arith, pending_past next deadline past))
    (cases_lt next deadline)
