-- The first lines that make names, as far as a loop has come.
use Rattle.std.proofs.Common.{◌≡◌, ℕ, ◌+◌, ◌&&◌, Bool, true, false, List, [], ◌∷◌, refl, ap, ◌∙◌}
use Rattle.std.specs.Prelude.{Option, Some, None, cond}
use mathlib.Core.Path.{fun_ext}
use Rattle.std.specs.Option.{option_or}
use Rattle.hp_script.specs.Part.{Part, is_word}
use Rattle.hp_script.specs.Text.{is_call}
use Rattle.hp_script.specs.Makers.{Makers, made_by, is_maker, first_maker}
use Rattle.hp_script.specs.Made.{Notes}
use Rattle.hp_script.specs.ShapeWords.Shapes.{is_participant_line}

-- a line is noted, and the lines after it are left
pub noted_more : (verb : List ℕ) (line : Part) (lines : List Part) (number : ℕ) (old new all : List ℕ → Option ℕ)
    → ((name : List ℕ) → option_or (old name) (first_maker verb (line ∷ lines) number name) ≡ all name) → Notes verb line number old new
    → (name : List ℕ) → option_or (new name) (first_maker verb lines (number + 1) name) ≡ all name
noted_more verb line lines number old new all so_far notes name =
    ap (λ first. option_or first (first_maker verb lines (number + 1) name)) (notes name) ∙ moved (old name) (is_maker verb name line) ∙ so_far name
  where
    moved : (first : Option ℕ) (makes : Bool) → option_or (option_or first (cond makes (Some number) None)) (first_maker verb lines (number + 1) name)
        ≡ option_or first (cond makes (Some number) (first_maker verb lines (number + 1) name))
    moved None true = refl
    moved None false = refl
    moved (Some earlier) makes = refl

-- at the end no line is left
pub noted_all : (known all : List ℕ → Option ℕ) → ((name : List ℕ) → option_or (known name) None ≡ all name) → (name : List ℕ) → known name ≡ all name
noted_all known all so_far name = whole (known name) ∙ so_far name
  where
    whole : (first : Option ℕ) → first ≡ option_or first None
    whole None = refl
    whole (Some line) = refl

-- makers are the same where they have the same lines for each name
pub same_makers : (some other : Makers) → ((name : List ℕ) → some.alloc_line name ≡ other.alloc_line name) → ((name : List ℕ) → some.zone_line name ≡ other.zone_line name) → some ≡ other
same_makers some other allocs zones =
    ap (λ (lines : List ℕ → Option ℕ). let makers : Makers = record { alloc_line = lines; zone_line = some.zone_line } in makers) (fun_ext allocs)
    ∙ ap (λ (lines : List ℕ → Option ℕ). let makers : Makers = record { alloc_line = other.alloc_line; zone_line = lines } in makers) (fun_ext zones)

-- a line that is no participant line makes nothing
pub no_call_makes : (verb : List ℕ) (fields : List Part) → is_call fields ≡ false → made_by verb fields ≡ None
no_call_makes verb [] other = refl
no_call_makes verb (first ∷ []) other = refl
no_call_makes verb (first ∷ word ∷ []) other = refl
no_call_makes verb (first ∷ word ∷ name ∷ others) other = rw other refl

-- a line whose second field is another word makes nothing with the verb
pub no_verb_makes : (verb : List ℕ) (first word : Part) (others : List Part) → is_word verb word ≡ false → made_by verb (first ∷ word ∷ others) ≡ None
no_verb_makes verb first word [] other = refl
no_verb_makes verb first word (name ∷ others) other = chosen (is_participant_line first)
  where
    chosen : (test : Bool) → cond (test && is_word verb word) (Some name.text) None ≡ None
    chosen true = rw other refl
    chosen false = refl
