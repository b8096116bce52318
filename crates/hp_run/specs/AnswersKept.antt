-- The answers of lines, kept or counted. No public clause cites this module.
use Rattle.std.specs.Prelude.{◌≡◌, ◌+◌, ◌≤◌, Bool, List, [], ◌∷◌, ◌++◌, length, Option, Some, None, if◌then◌else◌}
use Rattle.hp_script.specs.declared.answer.Answer.{Answer}
use Rattle.hp_script.specs.declared.line.Act.{Act}
use Rattle.hp_script.specs.declared.line.Line.{Line}
use Rattle.hp_run.specs.Deeds.{is_done}
use Rattle.hp_run.specs.Summary.{counts_of}
use Rattle.hp_run.specs.declared.answer_log.AnswerPast.{AnswerPast}
use Rattle.hp_run.specs.declared.answer_log.AnswerPast.TheVariants.{Nothing, Answered}
use Rattle.hp_run.specs.declared.deed.Deed.TheVariants.{Allocated, Freed, Resized}
use Rattle.hp_run.specs.declared.summary.Counts.{Counts}
use Rattle.hp_run.specs.declared.told.Held.{Held}
use Rattle.hp_run.specs.declared.told.Held.TheVariants.{Kept, Counted}

-- all of them, in their order
abbrev pub answered_in : AnswerPast → List Answer
answered_in Nothing = []
answered_in (Answered before answer) = before.value ++ answer.value ∷ []

-- the answers so far, and what is counted of them where they are not kept
pub record ToldView : Type 0 where
  pub items : List Answer
  pub counts : Option Counts

-- what is counted
abbrev pub counts_in : Held → Option Counts
counts_in (Kept answers) = None
counts_in (Counted counts) = Some counts

-- what is held is that of the answers: they are kept, or as many lines are counted, and of these at most as many of each deed
abbrev pub IsHeldOf : Held → List Answer → Type 0
IsHeldOf (Kept answers) all = answers.items ≡ all
IsHeldOf (Counted counts) all = (counts.lines ≡ length all) × (counts.allocs ≤ counts.lines) × (counts.frees ≤ counts.lines) × (counts.resized ≤ counts.lines)

-- one line more
abbrev pub count_more : Counts → Act → Answer → Counts
count_more counts act answer = record {
  lines = counts.lines + 1;
  allocs = counts.allocs + (if is_done Allocated act answer then 1 else 0);
  frees = counts.frees + (if is_done Freed act answer then 1 else 0);
  resized = counts.resized + (if is_done Resized act answer then 1 else 0);
}

abbrev pub counts_more : Option Counts → Act → Answer → Option Counts
counts_more None act answer = None
counts_more (Some counts) act answer = Some (count_more counts act answer)

-- what is counted of lines and their answers, where that is asked for
abbrev pub counts_so_far : Bool → List Line → List Answer → Option Counts
counts_so_far counting lines answers = if counting then Some (counts_of lines answers) else None
