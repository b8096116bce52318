-- What `put` and `get` do with the data of an element. No public clause cites this module.
use Rattle.std.specs.Prelude.{ℕ, ◌+◌, List, length, take, drop, replicate, nat_lt, if◌then◌else◌}
use Rattle.hex.specs.Hex.{encode_lower}
use Rattle.hp_bytes.specs.Written.{written_over}
use Rattle.hp_bytes.specs.declared.answer.Answer.{Answer}
use Rattle.hp_bytes.specs.declared.answer.Answer.TheVariants as answer

abbrev pub put_answer : ℕ → ℕ → ℕ → Answer
put_answer at len size = if nat_lt size (at + len) then answer.Range size else answer.Done

abbrev pub put_data : ℕ → ℕ → ℕ → List ℕ → List ℕ
put_data at byte len bytes = if nat_lt (length bytes) (at + len) then bytes else written_over at (replicate len byte) bytes

abbrev pub get_answer : ℕ → ℕ → List ℕ → Answer
get_answer at len bytes =
    if nat_lt (length bytes) (at + len) then answer.Range (length bytes) else answer.Bytes (encode_lower (take len (drop at bytes)))
