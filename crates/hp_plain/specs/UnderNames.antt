-- Who changes external memory has the names in hand: the rule "Giving" of docs/HALLS.md, over the steps of a hall.
use Rattle.std.specs.Prelude.{◌≡◌, ℕ, Bool, false, List, [], ◌∷◌, ◌++◌, Some, slice_get, ⊤}
use Rattle.hp_segs.specs.SegsView.{SegsView}
use Rattle.hp_hall.specs.Mail.{MailStep, Gives, steps_of}
use Rattle.hp_hall.specs.Telling.{has_names}
use Rattle.hp_hall.specs.declared.kept.Kept.{Kept}
use Rattle.hp_hall.specs.declared.kept.Kept.TheVariants.{Segments}
use Rattle.hp_plain.specs.Keeping.{values_after}

-- a segment value that is given has the external memory of the one that it replaces, unless its giver has the names in hand
abbrev pub ShowsRanges : Bool → MailStep → List Kept → Type 0
ShowsRanges naming (Gives number (Segments given)) values =
    naming ≡ false → (before : SegsView) → slice_get values number ≡ Some (Segments before) → given.ranges ≡ before.ranges
ShowsRanges naming _ values = ⊤

-- each step shows so (`ShowsRanges`), over the values that the steps before it had left
abbrev pub AreUnderNames : List (ℕ × MailStep) → List (ℕ × MailStep) → List Kept → Type 0
AreUnderNames before [] values = ⊤
AreUnderNames before (step ∷ steps) values =
    ShowsRanges (has_names (steps_of step.0 before)) step.1 values × AreUnderNames (before ++ step ∷ []) steps (values_after step.1 values)

-- whoever gives a segment value has not the names in hand, by its steps until then
abbrev pub HaveNoNamesAtGives : List (ℕ × MailStep) → List (ℕ × MailStep) → Type 0
HaveNoNamesAtGives before steps = (first rest : List (ℕ × MailStep)) (who number : ℕ) (segs : SegsView)
    → steps ≡ first ++ (who, Gives number (Segments segs)) ∷ rest → has_names (steps_of who (before ++ first)) ≡ false
