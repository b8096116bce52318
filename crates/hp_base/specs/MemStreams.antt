-- Sources and sinks in memory, as contracts see them, and what one call of them does.
use Rattle.std.specs.Prelude.{◌≡◌, ℕ, ◌+◌, ◌-◌, ◌^◌, ◌<◌, ◌≤◌, ◌==◌, ◌⊎◌, min, false, true, List, ◌++◌, length, take, drop, if◌then◌else◌}
use Rattle.hp_base.specs.Streams.{got_failed, put_failed, list_has}
use Rattle.hp_base.specs.declared.source.Got.{Got}
use Rattle.hp_base.specs.declared.source.Got.TheVariants as got
use Rattle.hp_base.specs.declared.sink.Put.{Put}
use Rattle.hp_base.specs.declared.sink.Put.TheVariants as put

-- what is left, the greatest piece, the calls that fail, the calls made and the faults so far
pub record SourceState : Type 0 where
  pub left : List ℕ
  pub piece : ℕ
  pub fails : List ℕ
  pub calls : ℕ
  pub faults : ℕ

abbrev pub source_state : List ℕ → ℕ → ℕ → List ℕ → ℕ → ℕ → SourceState
source_state bytes at piece fails calls faults =
    record { left = drop at bytes; piece = piece; fails = fails; calls = calls; faults = faults }

-- the next byte is among the bytes or at their end, and a piece has some bytes
pub record IsSource (len at piece : ℕ) : Type 0 where
  pub within : at ≤ len
  pub some : 0 < piece

-- what it holds, how many bytes it has room for without taking memory, the greatest piece, the calls that fail, the calls made and the
-- faults so far
pub record SinkState : Type 0 where
  pub held : List ℕ
  pub room : ℕ
  pub piece : ℕ
  pub fails : List ℕ
  pub calls : ℕ
  pub faults : ℕ

-- a piece has some bytes, and the room was set aside
pub record IsSink (piece room capacity : ℕ) : Type 0 where
  pub some : 0 < piece
  pub aside : room ≤ capacity

-- a count one more, which stands still at the end of 64 bits
abbrev pub counted : ℕ → ℕ
counted n = min (n + 1) (2 ^ 64 - 1)

-- what a read of a buffer with some room gives: a fault where the call is to fail, else the most that fits
abbrev pub read_of : SourceState → ℕ → Got
read_of source room =
    if list_has (counted source.calls) source.fails then got.Failed
    else (if length source.left == 0 then got.End
    else got.Bytes (min (min room source.piece) (length source.left)))

-- what is left after an answer
abbrev pub left_after : List ℕ → Got → List ℕ
left_after left (got.Bytes n) = drop n left
left_after left got.End = left
left_after left got.Failed = left

-- the source after a read that gave an answer
abbrev pub after_read : SourceState → Got → SourceState
after_read source answer = record {
  left = left_after source.left answer;
  piece = source.piece;
  fails = source.fails;
  calls = counted source.calls;
  faults = if got_failed answer then counted source.faults else source.faults;
}

-- a write takes the first bytes, a piece at most, only where the call is not to fail; and it fails only where the call is to, or where the
-- room that is set aside does not hold the piece
abbrev pub MayAnswer : SinkState → List ℕ → Put → Type 0
MayAnswer sink bytes (put.Took n) =
    (list_has (counted sink.calls) sink.fails ≡ false) × (n ≡ min (length bytes) sink.piece)
MayAnswer sink bytes put.Failed =
    (list_has (counted sink.calls) sink.fails ≡ true) ⊎ (sink.room < length sink.held + min (length bytes) sink.piece)

-- what is held after an answer to a write of bytes
abbrev pub held_after : List ℕ → List ℕ → Put → List ℕ
held_after held bytes (put.Took n) = held ++ take n bytes
held_after held bytes put.Failed = held

-- the sink after a write of bytes that gave an answer
abbrev pub after_write : SinkState → List ℕ → Put → SinkState
after_write sink bytes answer = record {
  held = held_after sink.held bytes answer;
  room = sink.room;
  piece = sink.piece;
  fails = sink.fails;
  calls = counted sink.calls;
  faults = if put_failed answer then counted sink.faults else sink.faults;
}
