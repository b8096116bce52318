-- The line that makes a label is the first one that makes the name.
use Rattle.std.proofs.Common.{◌≡◌, ℕ, zero, suc, ◌<◌, Bool, true, false, List, [], ◌∷◌, length, get_or, refl, sym, ap, ◌∙◌, ◌⊎◌, inl, inr, arith}
use Rattle.std.specs.Prelude.{Option, Some}
use Rattle.std.specs.List.{find}
use Rattle.std.specs.Option.{option_map_or}
use Rattle.std.specs.Str.{bytes_eq}
use Rattle.std.proofs.lemmas.Slice.Eq.{bytes_eq-Decides}
use Rattle.hp_script.specs.Part.{Part}
use Rattle.hp_script.specs.ShapeWords.Acts.{label_made}
use Rattle.hp_script.specs.Labels.{has_label, name_made, makes_name, maker_of}
use Rattle.hp_script.specs.Limits.{AreParticipantLines, zone_reserved}
use Rattle.hp_script.specs.declared.line.Act.{Act}
use Rattle.hp_script.specs.declared.line.Act.TheVariants as act
use Rattle.hp_script.specs.declared.line.Line.{Line}

-- the first that passes, where none before it does
first_at : (p : Line → Bool) (xs : List Line) (place : ℕ) (d : Line) → place < length xs → p (get_or xs place d) ≡ true → ((i : ℕ) → i < place → p (get_or xs i d) ≡ false)
    → find p xs ≡ Some (get_or xs place d)
first_at p [] place d within is before = absurd (omega (arith, within))
first_at p (x ∷ xs) zero d within is before = rw is refl
first_at p (x ∷ xs) (suc place) d within is before =
    rw (before zero (omega arith)) (first_at p xs place d (omega (arith, within)) is (λ i less. before (suc i) (omega (arith, less))))

module _ (name : List ℕ) where
  abbrev HasText : Option Part → Type 0
  HasText made = option_map_or (λ label. bytes_eq label.text name) made false ≡ true

  -- a label with the name, and what an act makes with it
  labelled : (deed : Act) → HasText (label_made deed) → (label : Part) × (label_made deed ≡ Some label) × (label.text ≡ name) × HasText (name_made deed)
  labelled (act.Alloc label size options) is = (label, refl, (bytes_eq-Decides label.text name).0 is, is)
  labelled _ is = absurd cc

  named : (deed : Act) → HasText (name_made deed)
      → ((label : Part) × (label_made deed ≡ Some label) × (label.text ≡ name)) ⊎ ((zone : Part) × (zone_reserved deed ≡ Some zone) × (zone.text ≡ name))
  named (act.Alloc label size options) is = inl (label, refl, (bytes_eq-Decides label.text name).0 is)
  named (act.Zone zone len options) is = inr (zone, refl, (bytes_eq-Decides zone.text name).0 is)
  named _ is = absurd cc

  pub first_label : (lines : List Line) (place : ℕ) (line : Line) → AreParticipantLines lines → place < length lines → line ≡ get_or lines place line → has_label name line ≡ true
      → maker_of lines name ≡ Some line
  first_label lines place line are within read has =
      first_at (makes_name name) lines place line within (rw is (labelled line.act has).3) before ∙ ap (λ (l : Line). Some l) is
    where
      is : get_or lines place line ≡ line
      is = sym read

      none : (i : ℕ) → i < place → makes_name name (get_or lines i line) ≡ true → ⊥
      none i less makes =
          let own = labelled line.act has in
          let made : label_made (get_or lines place line).act ≡ Some own.0 = rw is own.1 in
          elim (named (get_or lines i line).act makes) [
            | inl other ↦ are.distinct i place line less within other.0 own.0 other.1 made (other.2 ∙ sym own.2)
            | inr zone ↦ are.apart place line within i line (omega (arith, less, within)) own.0 zone.0 made zone.1 (own.2 ∙ sym zone.2)
          ]

      before : (i : ℕ) → i < place → makes_name name (get_or lines i line) ≡ false
      before i less = chosen (makes_name name (get_or lines i line)) refl
        where
          chosen : (test : Bool) → makes_name name (get_or lines i line) ≡ test → test ≡ false
          chosen false makes = refl
          chosen true makes = absurd (none i less makes)
