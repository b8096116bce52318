-- The answers of a mapper, kept one after another.
use Rattle.std.specs.Prelude.{List, [], ◌∷◌, ◌++◌}
use Rattle.hp_base.specs.declared.answers.Past.{Past}
use Rattle.hp_base.specs.declared.answers.Past.TheVariants.{Nothing, Behind}
use Rattle.hp_base.specs.declared.map_answer.MapAnswer.{MapAnswer}

-- all answers, in their order
abbrev pub answers_in : Past → List MapAnswer
answers_in Nothing = []
answers_in (Behind before answer) = before.value ++ answer.value ∷ []
