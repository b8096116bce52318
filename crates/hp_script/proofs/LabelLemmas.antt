-- The line of an accepted text that makes a label is among the makers of the text.
use Rattle.std.proofs.Common.{◌≡◌, ℕ, suc, zero, ◌+◌, ◌<◌, ◌≤◌, Bool, true, false, ◌&&◌, List, [], ◌∷◌, length, get_or, refl, sym, ap, ◌∙◌, cond, arith}
use Rattle.std.specs.Prelude.{Option, Some, codes, not}
use Rattle.std.specs.List.{list_all}
use Rattle.std.specs.Map.{lookup}
use Rattle.std.proofs.lemmas.Slice.Eq.{bytes_eq-Decides}
use Rattle.hp_script.specs.Part.{Part, is_word}
use Rattle.hp_script.specs.Makers.{is_maker, first_maker}
use Rattle.hp_script.specs.Text.{fields_of}
use Rattle.hp_script.specs.ShapeWords.Shapes.{is_participant_line}
use Rattle.hp_script.specs.ShapeWords.Verbs.{verbs, verb_named}
use Rattle.hp_script.specs.declared.verb.Verb.{Verb}
use Rattle.hp_script.specs.declared.verb.Verb.TheVariants.{Alloc}

-- the verb is `alloc`
abbrev pub is_alloc : Option Verb → Bool
is_alloc (Some Alloc) = true
is_alloc _ = false

-- none of the verbs is `alloc`
abbrev are_others : List (List ℕ × Verb) → Bool
are_others verbs = list_all (λ entry. not (is_alloc (Some entry.1))) verbs

others_only : (p : List ℕ → Bool) (verbs : List (List ℕ × Verb)) → are_others verbs ≡ true → is_alloc (lookup p verbs) ≡ false
others_only p [] others = refl
others_only p (entry ∷ verbs) others = chosen (p entry.0) (is_alloc (Some entry.1)) (are_others verbs) refl others (others_only p verbs)
  where
    chosen : (test alloc rest : Bool) → is_alloc (Some entry.1) ≡ alloc → (not alloc && rest) ≡ true → (rest ≡ true → is_alloc (lookup p verbs) ≡ false) → is_alloc (cond test (Some entry.1) (lookup p verbs)) ≡ false
    chosen test true rest is both further = absurd cc
    chosen true false rest is both further = is
    chosen false false rest is both further = further both

-- only the word `alloc` names the verb
pub alloc_word : (word : Part) → verb_named word ≡ Some Alloc → is_word (codes "alloc") word ≡ true
unfolding verb_named
alloc_word word named = chosen (is_word (codes "alloc") word) refl
  where
    behind : List (List ℕ × Verb) → List (List ℕ × Verb)
    behind [] = []
    behind (entry ∷ entries) = entries

    chosen : (test : Bool) → is_word (codes "alloc") word ≡ test → test ≡ true
    chosen true is = refl
    chosen false is =
        let p : List ℕ → Bool = λ verb. is_word verb word in
        let none : is_alloc (lookup p verbs) ≡ false = rw is (others_only p (behind verbs) refl) in
        absurd (let alloc : is_alloc (Some Alloc) ≡ false = ap is_alloc (sym named) ∙ none in cc)

-- a line with such fields makes the label
pub label_maker : (verb : List ℕ) (line first word label : Part) (others : List Part) → fields_of line ≡ first ∷ word ∷ label ∷ others → is_participant_line first ≡ true → is_word verb word ≡ true
    → is_maker verb label.text line ≡ true
label_maker verb line first word label others fields digit is = rw (fields, digit, is) ((bytes_eq-Decides label.text label.text).1 refl)

-- a line that makes a name stands at the first one, or after it
pub record IsMadeUpTo (makers : List ℕ → Option ℕ) (name : List ℕ) (number : ℕ) : Type 0 where
  pub first : ℕ
  pub made : makers name ≡ Some first
  pub before : first ≤ number

pub maker_known : (verb : List ℕ) (lines : List Part) (start : ℕ) (i : ℕ) (d : Part) (name : List ℕ) → i < length lines → is_maker verb name (get_or lines i d) ≡ true
    → IsMadeUpTo (first_maker verb lines start) name (start + i)
maker_known verb [] start i d name within makes = absurd (omega (arith, within))
maker_known verb (line ∷ lines) start zero d name within makes = record { first = start; made = rw makes refl; before = omega arith }
maker_known verb (line ∷ lines) start (suc i) d name within makes =
    chosen (is_maker verb name line) refl (maker_known verb lines (start + 1) i d name (omega (arith, within)) makes)
  where
    chosen : (test : Bool) → is_maker verb name line ≡ test → IsMadeUpTo (first_maker verb lines (start + 1)) name (start + 1 + i) → IsMadeUpTo (first_maker verb (line ∷ lines) start) name (start + suc i)
    chosen true is rest = record { first = start; made = rw is refl; before = omega arith }
    chosen false is rest = record { first = rest.first; made = rw is rest.made; before = omega (arith, rest.before) }
