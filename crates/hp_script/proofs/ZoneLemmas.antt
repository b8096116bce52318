-- The line of an accepted text that reserves a memzone is among the makers of the text.
use Rattle.std.proofs.Common.{◌≡◌, ℕ, Bool, true, false, ◌&&◌, List, [], ◌∷◌, refl, sym, ap, ◌∙◌, cond}
use Rattle.std.specs.Prelude.{Option, Some, Ok, IfOk, not, codes}
use Rattle.std.specs.List.{list_all}
use Rattle.std.specs.Map.{lookup}
use Rattle.hp_script.specs.Part.{Part, is_word}
use Rattle.hp_script.specs.Text.{fields_of}
use Rattle.hp_script.specs.Labels.{name_made}
use Rattle.hp_script.specs.Limits.{zone_reserved}
use Rattle.hp_script.specs.Makers.{is_maker}
use Rattle.hp_script.specs.ShapeWords.Shapes.{is_participant_line, participant_line, shape_of}
use Rattle.hp_script.specs.ShapeWords.ShapesMemory.{zone_line}
use Rattle.hp_script.specs.ShapeWords.Verbs.{verbs, verb_named}
use Rattle.hp_script.specs.declared.line.Act.{Act}
use Rattle.hp_script.specs.declared.line.Act.TheVariants as act
use Rattle.hp_script.specs.declared.shape.Shape.TheVariants.{Does}
use Rattle.hp_script.specs.declared.verb.Verb.{Verb}
use Rattle.hp_script.specs.declared.verb.Verb.TheVariants as verb
use Rattle.hp_script.specs.declared.verb.NameCall.TheVariants as name_call
use Rattle.hp_script.proofs.ActLemmas.{IsCall}
use Rattle.hp_script.proofs.LabelLemmas.{label_maker}
use Rattle.hp_script.proofs.MadeLemmas.{SaysMade, zone_made}
use Rattle.hp_script.proofs.StepLemmas.{answered}

-- the verb is `zone`
abbrev is_zone : Option Verb → Bool
is_zone (Some verb.Zone) = true
is_zone _ = false

-- none of the verbs is `zone`
no_zone : (p : List ℕ → Bool) (entries : List (List ℕ × Verb)) → list_all (λ entry. not (is_zone (Some entry.1))) entries ≡ true → is_zone (lookup p entries) ≡ false
no_zone p [] others = refl
no_zone p (entry ∷ entries) others = chosen (p entry.0) (is_zone (Some entry.1)) (list_all (λ entry. not (is_zone (Some entry.1))) entries) refl others (no_zone p entries)
  where
    chosen : (test zone rest : Bool) → is_zone (Some entry.1) ≡ zone → (not zone && rest) ≡ true → (rest ≡ true → is_zone (lookup p entries) ≡ false) → is_zone (cond test (Some entry.1) (lookup p entries)) ≡ false
    chosen test true rest is both further = absurd cc
    chosen true false rest is both further = is
    chosen false false rest is both further = further both

-- only the word `zone` names the verb
zone_word : (word : Part) → verb_named word ≡ Some verb.Zone → is_word (codes "zone") word ≡ true
unfolding verb_named
zone_word word named = chosen (is_word (codes "zone") word) refl
  where
    p : List ℕ → Bool
    p verb = is_word verb word

    behind : List (List ℕ × Verb) → List (List ℕ × Verb)
    behind (first ∷ second ∷ third ∷ zone ∷ entries) = entries
    behind _ = []

    before : (first second third : Bool) (rest : Option Verb) → is_zone rest ≡ false
        → is_zone (cond first (Some verb.Alloc) (cond second (Some (verb.Name name_call.Free)) (cond third (Some verb.Resize) rest))) ≡ false
    before true second third rest none = refl
    before false true third rest none = refl
    before false false true rest none = refl
    before false false false rest none = none

    chosen : (test : Bool) → is_word (codes "zone") word ≡ test → test ≡ true
    chosen true is = refl
    chosen false is =
        let none : is_zone (lookup p verbs) ≡ false =
        rw is (before (p (codes "alloc")) (p (codes "free")) (p (codes "resize")) (lookup p (behind verbs)) (no_zone p (behind verbs) refl)) in
        absurd (let zone : is_zone (Some verb.Zone) ≡ false = ap is_zone (sym named) ∙ none in cc)

module _ (first word label : Part) (others : List Part) where
  zone_line_named : verb_named word ≡ Some verb.Zone → IfOk (participant_line first (word ∷ label ∷ others)) (SaysMade label)
  unfolding participant_line
  zone_line_named named = rw named (zone_made first word label others)

module _ (line first : Part) (others : List Part) (party : ℕ) (zone : Part) where
  no_arguments : (word : Part) (deed : Act) → verb_named word ≡ Some verb.Zone → participant_line first (word ∷ []) ≡ Ok (Does party deed) → ⊥
  unfolding participant_line zone_line
  no_arguments word deed named shape = let fails = rw named at shape in absurd cc

  -- a line that says that a memzone is reserved makes its name
  by_arguments : (deed : Act) (word : Part) (arguments : List Part) → name_made deed ≡ Some zone → verb_named word ≡ Some verb.Zone → is_participant_line first ≡ true
      → fields_of line ≡ first ∷ word ∷ arguments → shape_of (first ∷ word ∷ arguments) ≡ Ok (Does party deed) → is_maker (codes "zone") zone.text line ≡ true
  by_arguments deed word [] makes named digit fields shape = absurd (no_arguments word deed named (rw digit at shape))
  by_arguments deed word (label ∷ more) makes named digit fields shape =
      let says : participant_line first (word ∷ label ∷ more) ≡ Ok (Does party deed) = rw digit at shape in
      let labelled : name_made deed ≡ Some label =
      answered (SaysMade label) (participant_line first (word ∷ label ∷ more)) (Does party deed) says (zone_line_named first word label more named) in
      let one : Some label ≡ Some zone = sym labelled ∙ makes in
      let labels : label ≡ zone = cc in
      rw (← labels) (label_maker (codes "zone") line first word label more fields digit (zone_word word named))

pub zone_maker : (line first : Part) (others : List Part) (party : ℕ) (deed : Act) → fields_of line ≡ first ∷ others → is_participant_line first ≡ true → IsCall first others (Does party deed)
    → shape_of (first ∷ others) ≡ Ok (Does party deed) → (zone : Part) → zone_reserved deed ≡ Some zone → is_maker (codes "zone") zone.text line ≡ true
zone_maker line first others party (act.Zone name len options) fields digit call shape zone reserved =
    by_arguments line first others party zone (act.Zone name len options) call.word call.arguments reserved (call.named ∙ ap (λ verb. Some verb) (sym call.says.0)) digit
    (fields ∙ ap (λ some. first ∷ some) call.others_are) (rw call.others_are at shape)
zone_maker line first others party _ fields digit call shape zone reserved = absurd cc
