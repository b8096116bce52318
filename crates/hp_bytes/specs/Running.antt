-- The text that the lines of a session are answered with.
use Rattle.std.specs.Prelude.{◌≡◌, ℕ, List}
use Rattle.hp_bytes.specs.Answers.{answers_text}
use Rattle.hp_bytes.specs.PlainSession.{AreAnswers, opening_session}
use Rattle.hp_bytes.specs.declared.answer.Answer.{Answer}
use Rattle.hp_bytes.specs.declared.line.Line.{Line}

-- it has the answers of the plain session, in order
pub record IsReplyText (lines : List Line) (text : List ℕ) : Type 0 where
  pub answers : List Answer
  pub are : AreAnswers 1 lines opening_session answers
  pub is : text ≡ answers_text answers
