-- The answers of a session as the program writes them: the table of docs/BYTES.md.
use Rattle.std.specs.Prelude.{ℕ, List, ◌++◌, codes, false, flat_map}
use Rattle.std.specs.Fmt.{decimal, radix_digits}
use Rattle.hp_base.specs.declared.request.BadRequest.{BadRequest}
use Rattle.hp_base.specs.declared.request.BadRequest.TheVariants as bad
use Rattle.hp_bytes.specs.declared.answer.Answer.{Answer}
use Rattle.hp_bytes.specs.declared.answer.Answer.TheVariants as answer

-- the word of a refusal of a size
abbrev pub bad_word : BadRequest → List ℕ
bad_word bad.Zero = codes "zero"
bad_word bad.Overflow = codes "overflow"
bad_word bad.Align = codes "align"
bad_word bad.Bound = codes "bound"

-- an answer
abbrev pub answer_text : Answer → List ℕ
answer_text answer.Exists = codes "exists"
answer_text (answer.Bad why) = codes "bad " ++ bad_word why
answer_text answer.Nothing = codes "none"
answer_text (answer.At addr) = codes "ok 0x" ++ radix_digits 16 false addr
answer_text answer.NoLabel = codes "nolabel"
answer_text (answer.Range size) = codes "range " ++ decimal size
answer_text answer.Same = codes "same"
answer_text answer.Done = codes "ok"
answer_text (answer.Bytes digits) = digits

-- answers, each on a line of its own
abbrev pub answers_text : List Answer → List ℕ
answers_text answers = flat_map (λ given. answer_text given ++ codes "\n") answers
