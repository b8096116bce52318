-- Bytes that are written over others.
use Rattle.std.specs.Prelude.{ℕ, List, ◌++◌, length, take, drop}
use Rattle.std.specs.List.{refill}

-- bytes with some written over those from an index on; there are as many as before, and what does not fit is left out
abbrev pub written_over : ℕ → List ℕ → List ℕ → List ℕ
written_over from written bytes =
    refill (length bytes) bytes (take from bytes ++ (written ++ drop (length written) (drop from bytes)))
