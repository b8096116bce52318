-- The used places of words are their ones.
use Rattle.std.proofs.Common.{◌≡◌, ◌==◌, ℕ, zero, suc, ◌+◌, ◌-◌, ◌*◌, ◌/◌, ◌%◌, ◌^◌, ◌<◌, Bool, false, cond, List, [], ◌∷◌, length, map, get_or, count_by, sum_by, refl, ap, sym, ◌∙◌, subst, arith}
use Rattle.std.proofs.lemmas.List.{map-id}
use Rattle.std.proofs.lemmas.List.FromFn.{length-map-range_with_len, get_or-map-range_with_len, sum_by-map-range_with_len_more}
use Rattle.std.proofs.lemmas.List.Sums.{sum_by-cons}
use Rattle.std.proofs.lemmas.Nat.Bits.{bit_at-lt, same_from_bits_below}
use Rattle.std.proofs.lemmas.Simd.{mask_l-lt, bit_mask_l, ones-mask_l}
use Rattle.std.specs.Int.{bit_at}
use Rattle.std.specs.Int.RustNames.{count_ones}
use Rattle.std.specs.List.{range_with_len}
use Rattle.std.specs.Simd.Lanes.{mask_l}
use Rattle.hp_fbarray.specs.Words.{is_bit, is_place, places_of, HavePlaces}

-- how many of the first n numbers pass
unfoldable passing : (ℕ → Bool) → ℕ → ℕ
passing test n = count_by (λ used. used) (map test (range_with_len 0 n))

passing-zero : (test : ℕ → Bool) → passing test 0 ≡ 0
unfolding passing
passing-zero test = refl

passing-suc : (test : ℕ → Bool) (n : ℕ) → passing test (suc n) ≡ passing test n + cond (test n) 1 0
unfolding passing
passing-suc test n =
    let more : suc n ≡ n + 1 = omega arith in
    ap (passing test) more ∙ sum_by-map-range_with_len_more (λ used. cond used 1 0) test 0 n n (omega arith)

-- two tests that agree pass alike
passing_same : (test other : ℕ → Bool) (n : ℕ) → ((i : ℕ) → i < n → test i ≡ other i)
    → passing test n ≡ passing other n
passing_same test other zero same = passing-zero test ∙ sym (passing-zero other)
passing_same test other (suc n) same =
    let before : passing test n ≡ passing other n
    = passing_same test other n (λ i below. same i (omega arith)) in
    let here : test n ≡ other n = same n (omega arith) in
    passing-suc test n ∙ ap (λ b. passing test n + cond b 1 0) here
    ∙ ap (λ m. m + cond (other n) 1 0) before ∙ sym (passing-suc other n)

passing_none : (test : ℕ → Bool) (n : ℕ) → ((i : ℕ) → i < n → test i ≡ false) → passing test n ≡ 0
passing_none test zero none = passing-zero test
passing_none test (suc n) none =
    let before : passing test n ≡ 0 = passing_none test n (λ i below. none i (omega arith)) in
    passing-suc test n ∙ ap (λ b. passing test n + cond b 1 0) (none n (omega arith))
    ∙ ap (λ m. m + 0) before

-- those of the first m, and those after them
passing-add : (test : ℕ → Bool) (m n : ℕ)
    → passing test (m + n) ≡ passing test m + passing (λ i. test (m + i)) n
passing-add test m zero =
    let none : m + 0 ≡ m = omega arith in
    ap (passing test) none ∙ omega (arith, passing-zero (λ i. test (m + i)))
passing-add test m (suc n) =
    let further : m + suc n ≡ suc (m + n) = omega arith in
    let before : passing test (m + n) ≡ passing test m + passing (λ i. test (m + i)) n
    = passing-add test m n in
    let here : passing test (suc (m + n)) ≡ passing test (m + n) + cond (test (m + n)) 1 0
    = passing-suc test (m + n) in
    let there : passing (λ i. test (m + i)) (suc n) ≡ passing (λ i. test (m + i)) n + cond (test (m + n)) 1 0
    = passing-suc (λ i. test (m + i)) n in
    ap (passing test) further ∙ omega arith

-- a bit is 1 where its test passes
bit_at_test : (word i : ℕ) → cond (is_bit word i) 1 0 ≡ bit_at word i
bit_at_test word i = by_bit (bit_at word i) (bit_at-lt word i)
  where
    by_bit : (b : ℕ) → b < 2 → cond (b == 1) 1 0 ≡ b
    by_bit zero below = refl
    by_bit (suc zero) below = refl
    by_bit (suc (suc b)) below = absurd (omega arith)

-- the number of the tests of its bits is the word
mask_of_bits : (k word : ℕ) → word < 2 ^ k → mask_l (map (is_bit word) (range_with_len 0 k)) ≡ word
mask_of_bits k word fits =
    let long : length (map (is_bit word) (range_with_len 0 k)) ≡ k
    = length-map-range_with_len (is_bit word) 0 k in
    let low : mask_l (map (is_bit word) (range_with_len 0 k)) < 2 ^ k
    = subst (λ (n : ℕ). mask_l (map (is_bit word) (range_with_len 0 k)) < 2 ^ n) long
    (mask_l-lt (map (is_bit word) (range_with_len 0 k))) in
    same_from_bits_below k (mask_l (map (is_bit word) (range_with_len 0 k))) word low fits
    (λ i below.
    bit_mask_l (map (is_bit word) (range_with_len 0 k)) i
    ∙ ap (λ b. cond b 1 0) (get_or-map-range_with_len (is_bit word) 0 k i i false below (omega arith))
    ∙ bit_at_test word i)

-- the bits of a word that are 1 are its ones
passing_bits : (k word : ℕ) → word < 2 ^ k → passing (is_bit word) k ≡ count_ones word
unfolding passing
passing_bits k word fits =
    sym (ones-mask_l (λ used. used) (map (is_bit word) (range_with_len 0 k)))
    ∙ ap (λ bits. count_ones (mask_l bits)) (map-id (map (is_bit word) (range_with_len 0 k)))
    ∙ ap count_ones (mask_of_bits k word fits)

-- the first 64 places are those of the first word
first_word : (word : ℕ) (words : List ℕ) (i : ℕ) → i < 64 → is_place (word ∷ words) i ≡ is_bit word i
first_word word words i below =
    let front : i / 64 ≡ 0 = omega arith in
    let bit : i % 64 ≡ i = omega arith in
    ap (λ w. is_bit (get_or (word ∷ words) w 0) (i % 64)) front ∙ ap (λ b. is_bit word b) bit

-- and the others those of the words after it
later_words : (word : ℕ) (words : List ℕ) (i : ℕ) → is_place (word ∷ words) (64 + i) ≡ is_place words i
later_words word words i =
    let behind : (64 + i) / 64 ≡ suc (i / 64) = omega arith in
    let bit : (64 + i) % 64 ≡ i % 64 = omega arith in
    ap (λ w. is_bit (get_or (word ∷ words) w 0) ((64 + i) % 64)) behind
    ∙ ap (λ b. is_bit (get_or words (i / 64) 0) b) bit

passing_words : (words : List ℕ) → ((i : ℕ) → get_or words i 0 < 2 ^ 64)
    → passing (is_place words) (64 * length words) ≡ sum_by count_ones words
passing_words [] fits = passing-zero (is_place [])
passing_words (word ∷ words) fits =
    let long : 64 * length (word ∷ words) ≡ 64 + 64 * length words = omega arith in
    let front : passing (is_place (word ∷ words)) 64 ≡ count_ones word
    = passing_same (is_place (word ∷ words)) (is_bit word) 64 (first_word word words)
    ∙ passing_bits 64 word (fits 0) in
    let behind : passing (λ i. is_place (word ∷ words) (64 + i)) (64 * length words) ≡ sum_by count_ones words
    = passing_same (λ i. is_place (word ∷ words) (64 + i)) (is_place words) (64 * length words)
    (λ i _. later_words word words i)
    ∙ passing_words words (λ i. fits (suc i)) in
    ap (passing (is_place (word ∷ words))) long
    ∙ passing-add (is_place (word ∷ words)) 64 (64 * length words)
    ∙ omega (arith, sum_by-cons count_ones word words)

-- the ones of the words are the used places
pub count_of_places : (words : List ℕ) (n : ℕ) → HavePlaces words n
    → ((i : ℕ) → get_or words i 0 < 2 ^ 64)
    → sum_by count_ones words ≡ count_by (λ used. used) (places_of words n)
unfolding passing
count_of_places words n have fits =
    let whole : 64 * length words ≡ n + (64 * length words - n) = omega (arith, have.enough) in
    let spare : passing (λ i. is_place words (n + i)) (64 * length words - n) ≡ 0
    = passing_none (λ i. is_place words (n + i)) (64 * length words - n)
    (λ i _. have.spare (n + i) (omega arith)) in
    let both : passing (is_place words) (n + (64 * length words - n)) ≡ passing (is_place words) n
    = passing-add (is_place words) n (64 * length words - n) ∙ omega arith in
    sym (passing_words words fits) ∙ ap (passing (is_place words)) whole ∙ both
