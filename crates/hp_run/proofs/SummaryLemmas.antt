-- What is counted of lines and answers, with one line more.
use Rattle.std.proofs.Common.{◌≡◌, ℕ, ◌+◌, true, false, Bool, cond, List, [], ◌∷◌, ◌++◌, length, length-append, Option, Some, ap, ◌∙◌, sym, arith}
use Rattle.hp_script.specs.declared.answer.Answer.{Answer}
use Rattle.hp_script.specs.declared.line.Line.{Line}
use Rattle.hp_run.specs.AnswersKept.{counts_more, counts_so_far}
use Rattle.hp_run.specs.Deeds.{is_done}
use Rattle.hp_run.specs.Summary.{count_done}
use Rattle.hp_run.specs.declared.deed.Deed.{Deed}
use Rattle.hp_run.specs.declared.deed.Deed.TheVariants.{Allocated, Freed, Resized}
use Rattle.hp_run.specs.declared.summary.Counts.{Counts}

module _ (line : Line) (answer : Answer) where
  -- one line more is counted, where it has done it
  one_more : (deed : Deed) (lines : List Line) (answers : List Answer) → length lines ≡ length answers
      → count_done deed lines answers + cond (is_done deed line.act answer) 1 0 ≡ count_done deed (lines ++ line ∷ []) (answers ++ answer ∷ [])
  one_more deed [] [] even = omega arith
  one_more deed [] (given ∷ answers) even = absurd (omega (arith, even))
  one_more deed (first ∷ lines) [] even = absurd (omega (arith, even))
  one_more deed (first ∷ lines) (given ∷ answers) even =
      let rest = one_more deed lines answers (omega (arith, even)) in omega (arith, rest)

  -- these counts
  abbrev counted : ℕ → ℕ → ℕ → ℕ → Option Counts
  counted lines allocs frees resized = Some (record { lines = lines; allocs = allocs; frees = frees; resized = resized })

  -- what is counted, or not, is so with one line more
  pub counted_on : (counting : Bool) (lines : List Line) (answers : List Answer) (counts : Option Counts) → length lines ≡ length answers
      → counts ≡ counts_so_far counting lines answers
      → counts_more counts line.act answer ≡ counts_so_far counting (lines ++ line ∷ []) (answers ++ answer ∷ [])
  counted_on false lines answers counts even is = ap (λ (some : Option Counts). counts_more some line.act answer) is
  counted_on true lines answers counts even is =
      let longer : length lines + 1 ≡ length (lines ++ line ∷ []) = sym (length-append lines (line ∷ [])) in
      let more : Deed → ℕ = λ deed. count_done deed (lines ++ line ∷ []) (answers ++ answer ∷ []) in
      let now : Deed → ℕ = λ deed. count_done deed lines answers + cond (is_done deed line.act answer) 1 0 in
      ap (λ (some : Option Counts). counts_more some line.act answer) is
      ∙ ap (λ (n : ℕ). counted n (now Allocated) (now Freed) (now Resized)) longer
      ∙ ap (λ (n : ℕ). counted (length (lines ++ line ∷ [])) n (now Freed) (now Resized)) (one_more Allocated lines answers even)
      ∙ ap (λ (n : ℕ). counted (length (lines ++ line ∷ [])) (more Allocated) n (now Resized)) (one_more Freed lines answers even)
      ∙ ap (λ (n : ℕ). counted (length (lines ++ line ∷ [])) (more Allocated) (more Freed) n) (one_more Resized lines answers even)
