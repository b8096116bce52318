use Rattle.std.proofs.Common.{◌≡◌, ◌≤◌, List, [], ◌∷◌, length, drop, refl, ap, ◌∙◌}
use Rattle.std.proofs.lemmas.List.{drop_all}
use Rattle.hp_script.specs.declared.answer.Answer.{Answer}
use Rattle.hp_script.specs.declared.line.Line.{Line}
use Rattle.hp_report.specs.LineTexts.{lines_text}
use Rattle.hp_report.proofs.answer_lines.AnswerLinesLines.next.Goals as goal
use Rattle.hp_report.proofs.answer_lines.AnswerLinesLines.next.Goals.{then-self-via-then-self, then-self-via-else-self+then-self-2}

none_answered : (lines : List Line) → lines_text lines [] ≡ []
none_answered [] = refl
none_answered (line ∷ lines) = refl

pub returns-then-self : goal.returns-then-self
returns-then-self c =
    let lines = c.args.self.now.lines.now in
    let answers = c.args.self.now.answers.now in
    let at = c.args.self.now.at in
    record {
      page = refl;
      rest = elim c.then-self.branch [
        | then-self-via-then-self w ↦ ap (λ some. lines_text some (drop at answers)) (drop_all at lines w.if-self.true)
        | then-self-via-else-self+then-self-2 w ↦ ap (λ some. lines_text (drop at lines) some) (drop_all at answers w.if-self-2.true) ∙ none_answered (drop at lines)
      ];
    }
