-- The values among words: all words but the first `--`.
use Rattle.std.proofs.Common.{◌≡◌, ℕ, zero, suc, ◌+◌, ◌-◌, ◌<◌, ◌≤◌, Bool, true, false, List, [], ◌∷◌, length, get_or, refl, sym, ap, ◌∙◌, cond, inl, inr, arith}
use Rattle.std.proofs.lemmas.Bool.{cases_lt}
use Rattle.hp_command.specs.Words.{dashes_at, is_dashes, values_of}

-- by the two cases of a test
module _ {X : Type 0} where
  cond_true : (b : Bool) (x y : X) → b ≡ true → cond b x y ≡ x
  cond_true true x y is = refl
  cond_true false x y is = absurd cc

  cond_false : (b : Bool) (x y : X) → b ≡ false → cond b x y ≡ y
  cond_false true x y is = absurd cc
  cond_false false x y is = refl

pub at_first : (word : List ℕ) (words : List (List ℕ)) → is_dashes word ≡ true → dashes_at (word ∷ words) ≡ 0
at_first word words is = cond_true (is_dashes word) 0 (suc (dashes_at words)) is

pub at_later : (word : List ℕ) (words : List (List ℕ)) → is_dashes word ≡ false → dashes_at (word ∷ words) ≡ suc (dashes_at words)
at_later word words is = cond_false (is_dashes word) 0 (suc (dashes_at words)) is

-- the count of values, by where the `--` is
pub record AreCounted (words : List (List ℕ)) : Type 0 where
  pub some : dashes_at words < length words → length (values_of words) + 1 ≡ length words
  pub none : length words ≤ dashes_at words → length (values_of words) ≡ length words
  pub most : dashes_at words ≤ length words

counted_more : (word : List ℕ) (words : List (List ℕ)) (b : Bool) → is_dashes word ≡ b → AreCounted words → AreCounted (word ∷ words)
counted_more word words true is rest =
    let values : length (values_of (word ∷ words)) ≡ length words = ap length (cond_true (is_dashes word) words (word ∷ values_of words) is) in
    let at = at_first word words is in
    record { some = λ some. omega (arith, values); none = λ none. omega (arith, at, none); most = omega (arith, at) }
counted_more word words false is rest =
    let values : length (values_of (word ∷ words)) ≡ suc (length (values_of words)) = ap length (cond_false (is_dashes word) words (word ∷ values_of words) is) in
    let at = at_later word words is in
    let most = rest.most in
    record {
      some = λ some. (let before = rest.some (omega (arith, at, some)) in omega (arith, values, before));
      none = λ none. (let after = rest.none (omega (arith, at, none)) in omega (arith, values, after));
      most = omega (arith, at, most);
    }

pub are_counted : (words : List (List ℕ)) → AreCounted words
are_counted [] = record { some = λ some. absurd (omega (arith, some)); none = λ none. refl; most = omega arith }
are_counted (word ∷ words) = counted_more word words (is_dashes word) refl (are_counted words)

-- the value at an index: the word there, or past the `--` the next one
pub record IsValueAt (words : List (List ℕ)) (k : ℕ) : Type 0 where
  pub front : k < dashes_at words → get_or (values_of words) k [] ≡ get_or words k []
  pub back : dashes_at words ≤ k → k < length (values_of words) → get_or (values_of words) k [] ≡ get_or words (k + 1) []

next_is : (k : ℕ) → suc k ≡ k + 1
next_is k = omega arith

value_more : (word : List ℕ) (words : List (List ℕ)) (b : Bool) → is_dashes word ≡ b → (k : ℕ) → ((j : ℕ) → IsValueAt words j) → IsValueAt (word ∷ words) k
value_more word words true is k rest =
    let values : values_of (word ∷ words) ≡ words = cond_true (is_dashes word) words (word ∷ values_of words) is in
    let at = at_first word words is in
    record {
      front = λ before. absurd (omega (arith, at, before));
      back = λ after inside. ap (λ (l : List (List ℕ)). get_or l k []) values ∙ ap (λ (n : ℕ). get_or (word ∷ words) n []) (next_is k);
    }
value_more word words false is zero rest =
    let values : values_of (word ∷ words) ≡ word ∷ values_of words = cond_false (is_dashes word) words (word ∷ values_of words) is in
    let at = at_later word words is in
    record {
      front = λ before. ap (λ (l : List (List ℕ)). get_or l 0 []) values;
      back = λ after inside. absurd (omega (arith, at, after));
    }
value_more word words false is (suc k) rest =
    let values : values_of (word ∷ words) ≡ word ∷ values_of words = cond_false (is_dashes word) words (word ∷ values_of words) is in
    let at = at_later word words is in
    let later = rest k in
    let long : length (values_of (word ∷ words)) ≡ suc (length (values_of words)) = ap length values in
    record {
      front = λ before. ap (λ (l : List (List ℕ)). get_or l (suc k) []) values ∙ later.front (omega (arith, at, before));
      back = λ after inside. ap (λ (l : List (List ℕ)). get_or l (suc k) []) values ∙ (later.back (omega (arith, at, after)) (omega (arith, long, inside))
          ∙ ap (λ (n : ℕ). get_or (word ∷ words) n []) (ap suc (sym (next_is k)) ∙ next_is (suc k)));
    }

pub is_value_at : (words : List (List ℕ)) (k : ℕ) → IsValueAt words k
is_value_at [] k = record { front = λ before. absurd (omega (arith, before)); back = λ after inside. absurd (omega (arith, inside)) }
is_value_at (word ∷ words) k = value_more word words (is_dashes word) refl k (λ j. is_value_at words j)

-- such an index is one of a word
pub within_front : (words : List (List ℕ)) (dashes k n : ℕ) → length words ≡ n → dashes ≡ dashes_at words → k < dashes → k < n
within_front words dashes k n long at before = let most = (are_counted words).most in omega (arith, most, long, at, before)

pub within_back : (words : List (List ℕ)) (dashes k n : ℕ) → length words ≡ n → dashes ≡ dashes_at words → k < length (values_of words) → dashes ≤ k → k + 1 < n
within_back words dashes k n long at inside after =
    let counted = are_counted words in
    elim (cases_lt (dashes_at words) (length words)) [
      | inl some ↦ let count = counted.some some in omega (arith, count, long, inside)
      | inr none ↦ let count = counted.none none in let most = counted.most in omega (arith, count, most, long, inside, at, after, none)
    ]
