-- The text of the generator, as far as a loop has come.
use Rattle.std.proofs.Common.{◌≡◌, ℕ, zero, suc, ◌+◌, ◌-◌, ◌<◌, ◌≤◌, List, ◌∷◌, ◌++◌, refl, sym, ap, ◌∙◌, append_assoc, arith}
use Rattle.std.specs.List.{flat_map}
use Rattle.std.proofs.lemmas.List.{append-nil}
use Rattle.hp_script.specs.DrawnWords.Generator.{Drawing, opening, drawn_line, behind_line, drawn_lines}
use Rattle.hp_script.specs.DrawnWords.GeneratedText.{setup_text, drawn_line_text, generated_text}
use Rattle.hp_script.specs.declared.drawn_line.DrawnLine.{DrawnLine}

-- the next line, and those after it
next_lines : (from : Drawing) (number left : ℕ) → 0 < left → drawn_lines from number left ≡ drawn_line number from ∷ drawn_lines (behind_line number from) (number + 1) (left - 1)
unfolding drawn_lines
next_lines from number zero some = absurd (omega (arith, some))
next_lines from number (suc more) some =
    let count : suc more - 1 ≡ more = omega arith in
    rw count refl

pub text_begins : (start lines : ℕ) → setup_text ++ flat_map drawn_line_text (drawn_lines (opening start) 1 (lines - 0)) ≡ generated_text start lines
text_begins start lines =
    let all : lines - 0 ≡ lines = omega arith in
    rw all refl

pub text_goes_on : (text longer all : List ℕ) (from behind : Drawing) (line : DrawnLine) (before lines : ℕ) → before < lines
    → text ++ flat_map drawn_line_text (drawn_lines from (before + 1) (lines - before)) ≡ all
    → line ≡ drawn_line (before + 1) from → behind ≡ behind_line (before + 1) from → longer ≡ text ++ drawn_line_text line
    → longer ++ flat_map drawn_line_text (drawn_lines behind (before + 1 + 1) (lines - (before + 1))) ≡ all
text_goes_on text longer all from behind line before lines within so_far line_is behind_is longer_is =
    let left : lines - before - 1 ≡ lines - (before + 1) = omega (arith, within) in
    let next = next_lines from (before + 1) (lines - before) (omega (arith, within)) in
    rw (longer_is, line_is, behind_is) (append_assoc text (drawn_line_text (drawn_line (before + 1) from)) (flat_map drawn_line_text (drawn_lines (behind_line (before + 1) from) (before + 1 + 1) (lines - (before + 1))))
    ∙ ap (λ (n : ℕ). text ++ (drawn_line_text (drawn_line (before + 1) from) ++ flat_map drawn_line_text (drawn_lines (behind_line (before + 1) from) (before + 1 + 1) n))) (sym left)
    ∙ ap (λ some. text ++ flat_map drawn_line_text some) (sym next) ∙ so_far)

pub text_ends : (text all : List ℕ) (from : Drawing) (before lines : ℕ) → lines ≤ before → text ++ flat_map drawn_line_text (drawn_lines from (before + 1) (lines - before)) ≡ all → text ≡ all
unfolding drawn_lines
text_ends text all from before lines past so_far =
    let none : lines - before ≡ 0 = omega (arith, past) in
    sym (append-nil text) ∙ rw none at so_far
