-- The lines of the report that answer a workload's lines.
use Rattle.std.specs.Prelude.{ℕ, List, [], ◌∷◌, ◌++◌, codes}
use Rattle.hp_script.specs.ShapeWords.ActVerbs.{verb_word}
use Rattle.hp_script.specs.Answers.{answer_text, number_text}
use Rattle.hp_script.specs.declared.answer.Answer.{Answer}
use Rattle.hp_script.specs.declared.line.Line.{Line}

-- a participant line: its number, its participant, its verb and its answer
abbrev pub line_text : Line → Answer → List ℕ
line_text line answer =
    codes "line" ++ number_text line.line ++ number_text line.participant ++ codes " " ++ verb_word line.act ++ codes " " ++ answer_text answer ++ codes "\n"

-- the participant lines in the order of the workload, each with its answer
abbrev pub lines_text : List Line → List Answer → List ℕ
lines_text (line ∷ lines) (answer ∷ answers) = line_text line answer ++ lines_text lines answers
lines_text _ _ = []
