-- What a taker gathers of one sender.
use Rattle.std.specs.Prelude.{◌≡◌, ℕ, ◌%◌, true, List, map, Contains, length}
use Rattle.hp_ring.specs.declared.gathering.Gathered.{Gathered}
use Rattle.hp_ring.specs.Bulks.{BulkView}
use Rattle.hp_ring.specs.Weave.{words_of}

-- the bytes of words
abbrev pub bytes_of : List ℕ → List ℕ
bytes_of words = map (λ word. word % 256) words

-- of these bulks the bytes were gathered, where there was memory for all of them; and it ended only where one of them has no words
pub record HasGathered (bulks : List BulkView) (gathered : Gathered) : Type 0 where
  pub bytes : gathered.whole ≡ true → gathered.bytes.items ≡ bytes_of (words_of bulks)
  pub ended : gathered.ended ≡ true → (end : BulkView) × Contains bulks end × (length end.words ≡ 0)
