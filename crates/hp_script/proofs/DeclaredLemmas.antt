-- Each participant line of a workload is of a declared participant.
use Rattle.std.proofs.Common.{◌≡◌, ℕ, ◌<◌, List, [], ◌∷◌, ◌++◌, ◌∙◌, inl, inr, arith}
use Rattle.std.specs.Prelude.{Ok, ⊤, unwrap_or}
use denote.Ref.{Bor}
use Rattle.hp_script.specs.Part.{Part}
use Rattle.hp_script.specs.Text.{lines_of}
use Rattle.hp_script.specs.Makers.{Makers, makers_of}
use Rattle.hp_script.specs.Setups.{nothing, setup_step}
use Rattle.hp_script.specs.Reading.{read_line}
use Rattle.hp_script.specs.Workloads.{reading_at}
use Rattle.hp_script.specs.Limits.{AreDeclared}
use Rattle.hp_script.specs.declared.line.Act.{Act}
use Rattle.hp_script.specs.declared.line.Act.TheVariants as act
use Rattle.hp_script.specs.declared.line.Line.{Line}
use Rattle.hp_script.specs.declared.shape.Shape.{Shape}
use Rattle.hp_script.specs.declared.shape.Shape.TheVariants.{Setup, Does, Awaits}
use Rattle.hp_script.specs.declared.reader.Reader.{Reader}
use Rattle.hp_script.proofs.SpanLemmas.{KeepsLines, setup_keeps}
use Rattle.hp_script.proofs.StepLemmas.{answered, AddsLine, Adds, read_line_says, along}

-- the lines that were read are of declared participants
abbrev HasDeclared : Reader → Type 0
HasDeclared read = AreDeclared (unwrap_or read.participants 1) read.lines

declared_push : (participants : ℕ) (lines : List Line) (line : Line) → AreDeclared participants lines → line.participant < participants → AreDeclared participants (lines ++ line ∷ [])
declared_push participants [] line declared below = (below, tt)
declared_push participants (first ∷ lines) line declared below = (declared.0, declared_push participants lines line declared.1 below)

-- one line more
more_declared : (read more : Reader) (number party : ℕ) (deed : Act) → HasDeclared read → AddsLine read number party deed more → HasDeclared more
more_declared read more number party deed before adds =
    let below : party < unwrap_or read.participants 1 = grind (arith, adds.declared) in
    rw adds.added (declared_push (unwrap_or read.participants 1) read.lines (record { line = number; participant = party; act = deed }) before below)

-- a setup line stands before all participant lines
none_declared : (read : Reader) → read.lines ≡ [] → HasDeclared read
none_declared read none = rw none tt

module _ (makers : Makers) where
  adds_declared : (read more : Reader) (number : ℕ) (said : Shape) → HasDeclared read → Adds makers read number said more → HasDeclared more
  adds_declared read more number (Setup setup) before adds =
      none_declared more (answered (KeepsLines read) (setup_step read number setup) more adds.1 (setup_keeps read number setup) ∙ adds.0)
  adds_declared read more number (Does party deed) before adds = more_declared read more number party deed before adds.1
  adds_declared read more number (Awaits party other k) before adds = more_declared read more number party (act.Await other k) before adds.adds

  line_declared : (read more : Reader) (number : ℕ) (line : Part) → HasDeclared read → ⊤ → read_line makers read number line ≡ Ok more → HasDeclared more
  line_declared read more number line before _ same =
      elim (read_line_says makers read number line more same) [
        | inl skipped ↦ rw skipped.1 before
        | inr says ↦ adds_declared read more number says.1.said before says.1.adds
      ]

-- each line of what is read of a text is of a declared participant
pub reading_declared : (bytes : Bor (List ℕ)) (read : Reader) → reading_at bytes ≡ Ok read → AreDeclared (unwrap_or read.participants 1) read.lines
unfolding reading_at
reading_declared bytes read same =
    along (makers_of (lines_of bytes)) (λ _ some. HasDeclared some) (λ _ _. ⊤) (line_declared (makers_of (lines_of bytes))) (lines_of bytes) nothing read 1 (λ i d within. tt) tt same
