-- Bulks of words.
use Rattle.std.specs.Prelude.{ℕ, ◌==◌, List}
use Rattle.std.specs.List.{filter}

-- the number of a sender, and its words
pub record BulkView : Type 0 where
  pub sender : ℕ
  pub words : List ℕ

abbrev pub bulk : ℕ → List ℕ → BulkView
bulk sender words = record { sender = sender; words = words }

-- the bulks of a sender among bulks, in their order
abbrev pub bulks_of : ℕ → List BulkView → List BulkView
bulks_of who bulks = filter (λ b. b.sender == who) bulks
