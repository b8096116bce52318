-- How the name of an entry stands beside its text. No public clause cites this module.
use Rattle.std.specs.Prelude.{◌≡◌, ℕ, ◌≤◌, List, length, take}

-- a text of at most 8 bytes stands at the front of other bytes
abbrev pub StandsShort : List ℕ → List ℕ → Type 0
StandsShort text short = length text ≤ 8 → take (length text) short ≡ text
