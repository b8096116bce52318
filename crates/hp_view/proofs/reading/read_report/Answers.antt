use Rattle.std.proofs.Common.{◌≡◌, ◌+◌, ◌∙◌, ap, sym, subst, true, false, List, ℕ, take, rules}
use Rattle.std.specs.Prelude.{MatchResult, None, Ok, Result, codes, position, ◌==◌}
use Rattle.std.specs.Str.{bytes_eq}
use Rattle.hp_view.specs.declared.line.Line.{Line}
use Rattle.hp_view.specs.Reading.{IsFormFault, parts_of, reading_from}
use Rattle.hp_view.proofs.FieldLemmas.{to_end}
use Rattle.hp_view.proofs.ReadingLemmas.{first_line, no_line, other_first_line}
use Rattle.hp_view.proofs.reading.read_report.Goals as goal

pub returns-then-is : goal.returns-then-is
returns-then-is c =
    let input = c.args.input.now in
    let n = c.in-Some.n in
    let is : bytes_eq (take n input) (codes "heapsim report 1") ≡ true = search rules in
    let same = first_line input n (sym c.in-Some.ensures.place) is ∙ ap (λ (text : List ℕ). reading_from 2 (parts_of text)) (sym (to_end (n + 1) input)) in
    subst (λ (due : Result (List Line) ℕ). MatchResult c.read_lines.result (λ lines. due ≡ Ok lines.items) (IsFormFault due)) (sym same) c.read_lines.ensures

pub returns-else-is : goal.returns-else-is
returns-else-is c =
    let is : bytes_eq (take c.in-Some.n c.args.input.now) (codes "heapsim report 1") ≡ false = search rules in
    other_first_line c.args.input.now c.in-Some.n (sym c.in-Some.ensures.place) is

pub returns-in-None : goal.returns-in-None
returns-in-None c =
    let none : position (λ byte. byte == 10) c.args.input.now ≡ None = cc c.in-None.ensures.place in
    no_line c.args.input.now none
