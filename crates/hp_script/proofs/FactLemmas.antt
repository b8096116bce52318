-- What holds of the participant lines of an accepted text by their verbs, and what their awaits stand after.
use Rattle.std.proofs.Common.{◌≡◌, ℕ, ◌<◌, ◌≤◌, List, [], ◌∷◌, ◌++◌, refl, sym, subst, ◌∙◌, inl, inr, arith}
use Rattle.std.specs.Prelude.{Ok, All, ⊤, unwrap_or}
use Rattle.std.proofs.lemmas.List.{append-nil, append_assoc}
use Rattle.std.proofs.lemmas.List.Elements.{All-push}
use Rattle.std.proofs.lemmas.Bool.Decides.{nat_tests}
use denote.Ref.{Bor}
use Rattle.hp_script.specs.Part.{Part}
use Rattle.hp_script.specs.Text.{lines_of, fields_of}
use Rattle.hp_script.specs.Counts.{lines_by}
use Rattle.hp_script.specs.Facts.{IsActOf, IsLineOf, StandsAfter, AwaitAfter, AwaitEarlier}
use Rattle.hp_script.specs.Makers.{Makers, makers_of}
use Rattle.hp_script.specs.Setups.{nothing, setup_step}
use Rattle.hp_script.specs.ShapeWords.Shapes.{shape_of}
use Rattle.hp_script.specs.Reading.{read_line}
use Rattle.hp_script.specs.Workloads.{reading_at}
use Rattle.hp_script.specs.declared.line.Act.{Act}
use Rattle.hp_script.specs.declared.line.Act.TheVariants as act
use Rattle.hp_script.specs.declared.line.Line.{Line}
use Rattle.hp_script.specs.declared.shape.Shape.{Shape}
use Rattle.hp_script.specs.declared.shape.Shape.TheVariants.{Setup, Does, Awaits}
use Rattle.hp_script.specs.declared.reader.Reader.{Reader}
use Rattle.hp_script.proofs.SpanLemmas.{KeepsLines, setup_keeps}
use Rattle.hp_script.proofs.ActLemmas.{DoesNotAwait, shape_says}
use Rattle.hp_script.proofs.StepLemmas.{answered, AddsLine, Adds, read_line_says, along}

-- the facts of the lines that were read
pub record HasFacts (read : Reader) : Type 0 where
  pub acts : All IsLineOf read.lines
  pub awaits : AwaitEarlier (unwrap_or read.participants 1) read.lines

-- one line more
awaits_push : (participants : ℕ) (before lines : List Line) (line : Line) → AwaitAfter participants before lines → StandsAfter participants (before ++ lines) line.act
    → AwaitAfter participants before (lines ++ line ∷ [])
awaits_push participants before [] line awaits stands = (subst (λ (some : List Line). StandsAfter participants some line.act) (append-nil before) stands, tt)
awaits_push participants before (first ∷ lines) line awaits stands =
    (awaits.0, awaits_push participants (before ++ first ∷ []) lines line awaits.1 (subst (λ (some : List Line). StandsAfter participants some line.act) (sym (append_assoc before (first ∷ []) lines)) stands))

more_facts : (read more : Reader) (number party : ℕ) (deed : Act) → HasFacts read → IsActOf party deed → StandsAfter (unwrap_or read.participants 1) read.lines deed
    → AddsLine read number party deed more → HasFacts more
more_facts read more number party deed before is stands adds =
    let line : Line = record { line = number; participant = party; act = deed } in
    rw adds.added (record {
      acts = All-push IsLineOf read.lines line before.acts is;
      awaits = awaits_push (unwrap_or read.participants 1) [] read.lines line before.awaits stands;
    })

-- no line at all
none_facts : (read : Reader) → read.lines ≡ [] → HasFacts read
none_facts read none = record { acts = rw none (λ k d within. absurd (omega (arith, within))); awaits = rw none tt }

-- a line that does something awaits nothing
stands_alone : (participants : ℕ) (lines : List Line) (deed : Act) → DoesNotAwait deed → StandsAfter participants lines deed
stands_alone participants lines (act.Await other k) none = absurd none
stands_alone participants lines _ none = tt

module _ (makers : Makers) where
  adds_facts : (read more : Reader) (number : ℕ) (fields : List Part) (said : Shape) → HasFacts read → shape_of fields ≡ Ok said → Adds makers read number said more → HasFacts more
  adds_facts read more number fields (Setup setup) before shape adds =
      none_facts more (answered (KeepsLines read) (setup_step read number setup) more adds.1 (setup_keeps read number setup) ∙ adds.0)
  adds_facts read more number [] (Does party deed) before shape adds = absurd cc
  adds_facts read more number (first ∷ others) (Does party deed) before shape adds =
      elim (shape_says first others (Does party deed) shape) [
        | inl call ↦ more_facts read more number party deed before call.1.says.1 (stands_alone (unwrap_or read.participants 1) read.lines deed call.1.says.2) adds.1
        | inr setup ↦ absurd setup.1
      ]
  adds_facts read more number [] (Awaits party other k) before shape adds = absurd cc
  adds_facts read more number (first ∷ others) (Awaits party other k) before shape adds =
      elim (shape_says first others (Awaits party other k) shape) [
        | inl call ↦
            let below : other < unwrap_or read.participants 1 = grind (arith, nat_tests, adds.known) in
            let stands : k ≤ lines_by other read.lines = grind (arith, nat_tests, adds.behind) in
            more_facts read more number party (act.Await other k) before call.1.says.1 (below, stands) adds.adds
        | inr setup ↦ absurd setup.1
      ]

  line_facts : (read more : Reader) (number : ℕ) (line : Part) → HasFacts read → ⊤ → read_line makers read number line ≡ Ok more → HasFacts more
  line_facts read more number line before _ same =
      elim (read_line_says makers read number line more same) [
        | inl skipped ↦ rw skipped.1 before
        | inr says ↦ adds_facts read more number (fields_of line) says.1.said before says.1.shape says.1.adds
      ]

-- the facts of the lines of an accepted text
pub reading_facts : (bytes : Bor (List ℕ)) (read : Reader) → reading_at bytes ≡ Ok read → HasFacts read
unfolding reading_at
reading_facts bytes read same =
    along (makers_of (lines_of bytes)) (λ _ some. HasFacts some) (λ _ _. ⊤) (line_facts (makers_of (lines_of bytes))) (lines_of bytes) nothing read 1 (λ i d within. tt) (none_facts nothing refl) same
