-- How chunks stand in every heap: the rule "External memory" of docs/HEAP.md.
use Rattle.std.specs.Prelude.{ℕ, ◌+◌, ◌^◌, ◌<◌, ◌≤◌, List, [], ◌∷◌, ⊤}
use Rattle.std.specs.List.{AllByRecursion}
use Rattle.hp_base.specs.declared.chunk.Chunk.{Chunk}

-- chunks stand by rising address, from an address on
abbrev pub AreRisingFrom : ℕ → List Chunk → Type 0
AreRisingFrom from [] = ⊤
AreRisingFrom from (chunk ∷ chunks) = (from ≤ chunk.addr) × AreRisingFrom (chunk.addr + 1) chunks

-- chunks as every heap has them: by rising address, and marked by the participants 0 to 15 alone
pub record AreInOrder (chunks : List Chunk) : Type 0 where
  pub rising : AreRisingFrom 0 chunks
  pub marks : AllByRecursion (λ chunk. chunk.attached < 2 ^ 16) chunks
