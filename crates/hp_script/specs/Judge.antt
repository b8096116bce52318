-- How a line is judged, step by step: the first refusal stands.
use Rattle.std.specs.Prelude.{ℕ, Bool, true, false, ◌&&◌, nat_le, Result, Ok, Err}
use Rattle.std.specs.Option.{ok_or}
use Rattle.hp_script.specs.Part.{Part}
use Rattle.hp_script.specs.Numbers.{numeral, number}
use Rattle.hp_script.specs.declared.bad_kind.BadKind.{BadKind}
use Rattle.hp_script.specs.declared.bad_kind.BadKind.TheVariants as bad

-- a step, and what follows where it refuses nothing
infixl 10 ◌>>=◌
abbrev pub ◌>>=◌ : {A B : Type 0} → Result A BadKind → (A → Result B BadKind) → Result B BadKind
(Ok x) >>= f = f x
(Err kind) >>= f = Err kind

-- refused so where the test holds
abbrev pub refuse : Bool → BadKind → Result (Unit {0}) BadKind
refuse true kind = Err kind
refuse false kind = Ok tt

-- a number within its range
abbrev pub is_within : ℕ → ℕ → ℕ → Bool
is_within low high n = nat_le low n && nat_le n high

-- a field that is a number
abbrev pub number_field : Part → Result ℕ BadKind
number_field field = ok_or (number field.text) bad.Number

-- a field that names a participant: decimal digits alone
abbrev pub party_field : Part → Result ℕ BadKind
party_field field = ok_or (numeral 10 field.text) bad.Number
