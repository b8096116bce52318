-- How a text is cut into its fields.
use Rattle.std.proofs.Common.{◌≡◌, ℕ, ◌+◌, ◌-◌, ◌<◌, ◌≤◌, Bool, true, false, List, [], ◌∷◌, ◌++◌, length, take, drop, refl, sym, ap, ◌∙◌, append_assoc, length-drop, arith}
use Rattle.std.specs.Prelude.{Some, None, position, cond, nat_lt, ◌==◌}
use Rattle.std.specs.List.{slice_split, position_or_len}
use Rattle.std.proofs.lemmas.List.{take_all}
use Rattle.std.proofs.lemmas.List.Sums.{fails_before_first}
use Rattle.std.proofs.lemmas.List.Splits.{slice_split_first, slice_split_none}
use Rattle.hp_view.specs.Form.{fields_of}
use Rattle.hp_view.specs.Reading.{parts_of}

-- a choice that is `Some` or `None` says which way its test went
chosen_some : (b : Bool) (x y : ℕ) → cond b (Some x) None ≡ Some y → (b ≡ true) × (x ≡ y)
chosen_some true x y same = (refl, cc)
chosen_some false x y same = absurd cc

chosen_none : (b : Bool) (x : ℕ) → cond b (Some x) None ≡ None → b ≡ false
chosen_none true x same = absurd cc
chosen_none false x same = refl

-- a list is cut at the first element that passes
split_at_first : (p : ℕ → Bool) (xs : List ℕ) (n : ℕ) → position p xs ≡ Some n → slice_split p xs ≡ take n xs ∷ slice_split p (drop (n + 1) xs)
split_at_first p xs n found =
    let same = chosen_some (nat_lt (position_or_len p xs) (length xs)) (position_or_len p xs) n found in
    let within : position_or_len p xs < length xs = grind (arith, same.0) in
    rw (← same.1) (slice_split_first p xs 0 within)

-- one in which none passes is one part
split_at_none : (p : ℕ → Bool) (xs : List ℕ) → position p xs ≡ None → slice_split p xs ≡ xs ∷ []
split_at_none p xs none =
    let past = chosen_none (nat_lt (position_or_len p xs) (length xs)) (position_or_len p xs) none in
    let all : length xs ≤ position_or_len p xs = grind (arith, past) in
    slice_split_none p xs (λ k d within. fails_before_first p xs k d (omega (arith, all, within)))

pub fields_more : (text : List ℕ) (n : ℕ) → position (λ byte. byte == 32) text ≡ Some n → fields_of text ≡ take n text ∷ fields_of (drop (n + 1) text)
unfolding fields_of
fields_more text n found = split_at_first (λ byte. byte == 32) text n found

pub fields_last : (text : List ℕ) → position (λ byte. byte == 32) text ≡ None → fields_of text ≡ text ∷ []
unfolding fields_of
fields_last text none = split_at_none (λ byte. byte == 32) text none

pub parts_more : (text : List ℕ) (n : ℕ) → position (λ byte. byte == 10) text ≡ Some n → parts_of text ≡ take n text ∷ parts_of (drop (n + 1) text)
unfolding parts_of
parts_more text n found = split_at_first (λ byte. byte == 10) text n found

pub parts_last : (text : List ℕ) → position (λ byte. byte == 10) text ≡ None → parts_of text ≡ text ∷ []
unfolding parts_of
parts_last text none = split_at_none (λ byte. byte == 10) text none

pub parts_nothing : parts_of [] ≡ [] ∷ []
unfolding parts_of
parts_nothing = refl

-- what stands behind an index
pub to_end : (n : ℕ) (text : List ℕ) → take (length text - n) (drop n text) ≡ drop n text
to_end n text = take_all (length text - n) (drop n text) (omega (arith, length-drop n text))

-- one field more
pub fields_step : (fields fields' : List (List ℕ)) (word rest behind line : List ℕ) (n : ℕ) → fields ++ fields_of rest ≡ fields_of line → position (λ byte. byte == 32) rest ≡ Some n
    → word ≡ take n rest → behind ≡ drop (n + 1) rest → fields' ≡ fields ++ word ∷ [] → fields' ++ fields_of behind ≡ fields_of line
fields_step fields fields' word rest behind line n so_far found is over more =
    ap (λ (all : List (List ℕ)). all ++ fields_of behind) more ∙ append_assoc fields (word ∷ []) (fields_of behind)
    ∙ ap (λ (text : List ℕ). fields ++ (text ∷ fields_of behind)) is ∙ ap (λ (text : List ℕ). fields ++ (take n rest ∷ fields_of text)) over
    ∙ sym (ap (λ (all : List (List ℕ)). fields ++ all) (fields_more rest n found)) ∙ so_far

-- and the last one
pub fields_end : (fields fields' : List (List ℕ)) (word rest line : List ℕ) → fields ++ fields_of rest ≡ fields_of line → position (λ byte. byte == 32) rest ≡ None
    → word ≡ rest → fields' ≡ fields ++ word ∷ [] → fields' ≡ fields_of line
fields_end fields fields' word rest line so_far none is more =
    more ∙ ap (λ (text : List ℕ). fields ++ (text ∷ [])) is ∙ sym (ap (λ (all : List (List ℕ)). fields ++ all) (fields_last rest none)) ∙ so_far
