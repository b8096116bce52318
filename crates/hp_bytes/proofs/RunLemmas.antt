-- One line more of a session.
use Rattle.std.proofs.Common.{◌≡◌, ℕ, ◌+◌, ◌<◌, List, [], ◌∷◌, ◌++◌, length, drop, refl, sym, ap, subst, ◌∙◌, append_assoc, append-nil, arith}
use Rattle.std.specs.Prelude.{codes}
use Rattle.hp_bytes.specs.Answers.{answer_text, answers_text}
use Rattle.hp_bytes.specs.PlainSession.{PlainSession, Done, IsDone, IsDoneFirst, AreAnswers, opening_session}
use Rattle.hp_bytes.specs.Running.{IsReplyText}
use Rattle.hp_bytes.specs.declared.answer.Answer.{Answer}
use Rattle.hp_bytes.specs.declared.line.Line.{Line}

-- the answers to lines, of which those to the first of them are a text so far
pub record IsReplied (lines : List Line) (text : List ℕ) (more : List Answer) : Type 0 where
  pub answers : List Answer
  pub are : AreAnswers 1 lines opening_session answers
  pub is : answers_text answers ≡ text ++ answers_text more

-- a text so far has the answers to the lines before some number, which leave a session
abbrev pub Replies : List Line → List ℕ → ℕ → List Line → PlainSession → Type 0
Replies lines text number rest now = (more : List Answer) → AreAnswers number rest now more → IsReplied lines text more

pub replies_none : (lines : List Line) → Replies lines [] 1 lines opening_session
replies_none lines = λ more are. record { answers = more; are = are; is = refl }

-- a line is done, and answered
pub replies_more : (lines : List Line) (text text' : List ℕ) (number : ℕ) (first : Line) (rest : List Line) (now next : PlainSession) (given : Answer)
    → Replies lines text number (first ∷ rest) now → IsDone number first now (record { answer = given; next = next })
    → text' ≡ text ++ (answer_text given ++ codes "\n") → Replies lines text' (number + 1) rest next
replies_more lines text text' number first rest now next given replies step is = λ more are.
    let whole = replies (given ∷ more) (record { done = record { answer = given; next = next }; first_done = step; more = more; answers_are = refl; others_done = are }) in
    record {
      answers = whole.answers;
      are = whole.are;
      is = whole.is ∙ sym (ap (λ (bytes : List ℕ). bytes ++ answers_text more) is ∙ append_assoc text (answer_text given ++ codes "\n") (answers_text more));
    }

-- all lines are done
pub replies_all : (lines : List Line) (text : List ℕ) (number : ℕ) (rest : List Line) (now : PlainSession) → rest ≡ [] → Replies lines text number rest now → IsReplyText lines text
replies_all lines text number rest now none replies =
    let whole = replies [] (subst (λ (ls : List Line). AreAnswers number ls now []) (sym none) refl) in
    record { answers = whole.answers; are = whole.are; is = sym (whole.is ∙ append-nil text) }
