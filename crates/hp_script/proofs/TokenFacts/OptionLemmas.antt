-- The options given so far, along the words of a line.
use Rattle.std.proofs.Common.{◌≡◌, ℕ, ◌+◌, ◌<◌, ◌≤◌, List, length, drop, get_or, refl, ◌∙◌, ap}
use Rattle.std.specs.Prelude.{Some, None}
use Rattle.std.specs.Option.{option_and_then}
use Rattle.std.proofs.Math.Seq.{drop-cons}
use Rattle.std.proofs.lemmas.List.{drop_all}
use Rattle.std.proofs.Common.{add-one}
use Rattle.hp_script.specs.Part.{Part}
use Rattle.hp_script.specs.ShapeWords.Options.{given_by, with_option}
use Rattle.hp_script.specs.declared.given.Given.{Given}

-- one word, and the words after it
given_by_next : (given : Given) (words : List Part) (i : ℕ) (d : Part) → i < length words
    → given_by given (drop i words) ≡ option_and_then (λ more. given_by more (drop (i + 1) words)) (with_option given (get_or words i d))
given_by_next given words i d within = rw (add-one, drop-cons words i d within) refl

pub given_by_step : (given more : Given) (words : List Part) (i : ℕ) (d : Part) → i < length words → with_option given (get_or words i d) ≡ Some more
    → given_by given (drop i words) ≡ given_by more (drop (i + 1) words)
given_by_step given more words i d within step =
    given_by_next given words i d within ∙ ap (option_and_then (λ more. given_by more (drop (i + 1) words))) step

pub given_by_refused : (given : Given) (words : List Part) (i : ℕ) (d : Part) → i < length words → with_option given (get_or words i d) ≡ None
    → given_by given (drop i words) ≡ None
given_by_refused given words i d within step =
    given_by_next given words i d within ∙ ap (option_and_then (λ more. given_by more (drop (i + 1) words))) step

pub given_by_end : (given : Given) (words : List Part) (i : ℕ) → length words ≤ i → given_by given (drop i words) ≡ Some given
given_by_end given words i past = rw (drop_all i words past) refl
