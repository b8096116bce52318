-- Which answers a judge may give of a socket and the bytes that it would have: the rule "Validators" of docs/OUTSIDE.md.
use Rattle.std.specs.Prelude.{◌≡◌, ℕ, Bool, List, Option, None}
use Rattle.hp_events.specs.Validators.{AreAnswered}
use Rattle.hp_events.specs.declared.validator.Validator.{Validator}

-- the name and the limit of the validator that denies them, or that none does
abbrev pub Denials : Type 1
Denials = ℕ → ℕ → Option (List ℕ × ℕ) → Type 0

-- no validator denies anything
abbrev pub nobody_denies : Denials
nobody_denies socket total answer = answer ≡ None

-- the answer of a judge that denies nothing
abbrev pub no_denial : ℕ → ℕ → Option (List ℕ × ℕ)
no_denial socket total = None

-- what a validator answers by what its closure always answers
abbrev pub AnswersSo : Bool → ℕ → ℕ → ℕ → Bool → Type 0
AnswersSo allows socket bytes total given = given ≡ allows

-- the first of these validators that denies what is above its limit, or none
abbrev pub denials_by : List (Validator Bool) → Denials
denials_by validators socket total answer = AreAnswered AnswersSo socket total validators answer
