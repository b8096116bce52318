-- What decides for the validators of a participant. No public clause of a participant cites `AreTwo`.
use Rattle.std.specs.Prelude.{◌≡◌, ℕ, Bool, true, false}

module _ {F : Type 0} (decides : F → ℕ → ℕ → ℕ → Bool → Type 0) where
  -- whatever it is asked, its answer is that
  abbrev pub AlwaysAnswers : F → Bool → Type 0
  AlwaysAnswers closure answer = (socket limit total : ℕ) (given : Bool) → decides closure socket limit total given → given ≡ answer

  -- of two the first always allows and the second always denies
  pub record AreTwo (allow deny : F) : Type 0 where
    pub allows : AlwaysAnswers allow true
    pub denies : AlwaysAnswers deny false
