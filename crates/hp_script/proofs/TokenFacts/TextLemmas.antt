-- How a text is cut at its separators.
use Rattle.std.proofs.Common.{◌≡◌, ℕ, ◌+◌, ◌<◌, ◌≤◌, Bool, true, false, List, [], ◌∷◌, length, map, take, drop, get_or, refl, ap, ◌∙◌, arith}
use Rattle.std.specs.Prelude.{Option, Some, None, IfSome, position, filter, not, cond, nat_lt, ◌==◌}
use Rattle.std.specs.Char.{is_ascii_digit}
use Rattle.std.specs.List.{slice_split, onto_first, find, position_or_len}
use Rattle.std.specs.Option.{option_map_or}
use Rattle.std.proofs.lemmas.Bool.Decides.{nat_tests}
use Rattle.std.proofs.lemmas.List.{length-take-le, length-map}
use Rattle.std.proofs.lemmas.List.Sums.{fails_before_first, position_or_len_is, count_by-le-length}
use Rattle.std.proofs.lemmas.List.Splits.{slice_split_first, slice_split_none, length-slice_split}
use Rattle.memchr.specs.Find.{IsFirstByte, is_byte}
use Rattle.hp_script.specs.Part.{Part, behind}
use Rattle.hp_script.specs.Text.{is_separator, placed, parts_of, lines_in, fields_of, is_filled, first_byte, is_call, is_skipped, without_return}
use Rattle.hp_script.specs.declared.text.Separator.{Separator}
use Rattle.hp_script.specs.declared.text.Separator.TheVariants.{Newline, Blank}

-- a choice that is `Some` or `None` says which way its test went
chosen_some : (b : Bool) (x y : ℕ) → cond b (Some x) None ≡ Some y → (b ≡ true) × (x ≡ y)
chosen_some true x y same = (refl, cc)
chosen_some false x y same = absurd cc

chosen_none : (b : Bool) (x : ℕ) → cond b (Some x) None ≡ None → b ≡ false
chosen_none true x same = absurd cc
chosen_none false x same = refl

-- a list is cut at the first element that passes
split_at_first : (p : ℕ → Bool) (xs : List ℕ) (n : ℕ) → position p xs ≡ Some n → slice_split p xs ≡ take n xs ∷ slice_split p (drop (n + 1) xs)
split_at_first p xs n found =
    let same = chosen_some (nat_lt (position_or_len p xs) (length xs)) (position_or_len p xs) n found in
    let within : position_or_len p xs < length xs = grind (arith, same.0) in
    rw (← same.1) (slice_split_first p xs 0 within)

-- a list in which none passes is one part
split_at_none : (p : ℕ → Bool) (xs : List ℕ) → position p xs ≡ None → slice_split p xs ≡ xs ∷ []
split_at_none p xs none =
    let past = chosen_none (nat_lt (position_or_len p xs) (length xs)) (position_or_len p xs) none in
    let all : length xs ≤ position_or_len p xs = grind (arith, past) in
    slice_split_none p xs (λ k d within. fails_before_first p xs k d (omega (arith, all, within)))

-- a part without a separator is its only part
pub parts_none : (separator : Separator) (whole : Part) → position (is_separator separator) whole.text ≡ None → parts_of separator whole ≡ whole ∷ []
unfolding parts_of
parts_none separator whole none = ap (placed whole.base whole.start) (split_at_none (is_separator separator) whole.text none)

-- the first part ends at the first separator
pub parts_some : (separator : Separator) (whole : Part) (n : ℕ) → position (is_separator separator) whole.text ≡ Some n → n < length whole.text
    → parts_of separator whole ≡ record { start = whole.start; text = take n whole.text; base = whole.base } ∷ parts_of separator (behind (n + 1) whole)
unfolding parts_of
parts_some separator whole n found within =
    let len : length (take n whole.text) ≡ n = length-take-le n whole.text (omega arith) in
    let place : whole.start + length (take n whole.text) + 1 ≡ whole.start + (n + 1) = omega (arith, len) in
    ap (placed whole.base whole.start) (split_at_first (is_separator separator) whole.text n found)
    ∙ ap (λ (m : ℕ). record { start = whole.start; text = take n whole.text; base = whole.base } ∷ placed whole.base m (slice_split (is_separator separator) (drop (n + 1) whole.text))) place

not_true : (test : Bool) → ¬ (test ≡ true) → test ≡ false
not_true true none = absurd (none refl)
not_true false none = refl

-- what a search for a newline gives is the place of the first one
pub newline_place : (text : List ℕ) (found : Option ℕ) → IsFirstByte (is_byte 10) text found → found ≡ position (is_separator Newline) text
newline_place text None none =
    let past : position_or_len (is_separator Newline) text ≡ length text = position_or_len_is (is_separator Newline) text (length text) 0 (omega arith)
    (λ k before. not_true (get_or text k 0 == 10) (none k (omega arith) before)) (λ over. absurd (omega (arith, over))) in
    let test : nat_lt (length text) (length text) ≡ false = grind (arith, nat_tests) in
    rw (past, test) refl
newline_place text (Some n) first =
    let within : n < length text = first.0.high in
    let at : position_or_len (is_separator Newline) text ≡ n = position_or_len_is (is_separator Newline) text n 0 (omega (arith, within))
    (λ k before. not_true (get_or text k 0 == 10) (first.0.before k (omega arith) before)) (λ _. first.1) in
    let test : nat_lt n (length text) ≡ true = grind (arith, nat_tests, within) in
    rw (at, test) refl

pub newline_within : (text : List ℕ) (found : Option ℕ) → IsFirstByte (is_byte 10) text found → IfSome found (λ n. n < length text)
newline_within text None none = tt
newline_within text (Some n) first = first.0.high

length-placed : (base : ℕ × ℕ) (at : ℕ) (texts : List (List ℕ)) → length (placed base at texts) ≡ length texts
length-placed base at [] = refl
length-placed base at (text ∷ texts) = let rest = length-placed base (at + length text + 1) texts in omega (arith, rest)

-- a part has at most one line more than bytes
pub few_lines : (part : Part) → length (lines_in part) ≤ length part.text + 1
unfolding parts_of
few_lines part =
    let parts = slice_split (is_separator Newline) part.text in
    let lines : length (map without_return (placed part.base part.start parts)) ≡ length (placed part.base part.start parts) = length-map (placed part.base part.start parts) without_return in
    let places : length (placed part.base part.start parts) ≡ length parts = length-placed part.base part.start parts in
    let newlines = length-slice_split (is_separator Newline) part.text in
    let few = count_by-le-length (is_separator Newline) part.text in
    omega (arith, lines, places, newlines, few)

-- the first byte that is no blank begins the first field
first_filled : (base : ℕ × ℕ) (at : ℕ) (text : List ℕ) → find (λ byte. not (is_separator Blank byte)) text ≡ first_byte (filter is_filled (placed base at (slice_split (is_separator Blank) text)))
first_filled base at [] = refl
first_filled base at (byte ∷ text) = chosen (is_separator Blank byte) (first_filled base (at + 0 + 1) text)
  where
    onto : (parts : List (List ℕ)) → Some byte ≡ first_byte (filter is_filled (placed base at (onto_first byte parts)))
    onto [] = refl
    onto (part ∷ parts) = let filled : nat_lt 0 (length (byte ∷ part)) ≡ true = grind (arith, nat_tests) in rw filled refl

    chosen : (test : Bool) → find (λ other. not (is_separator Blank other)) text ≡ first_byte (filter is_filled (placed base (at + 0 + 1) (slice_split (is_separator Blank) text)))
        → cond (not test) (Some byte) (find (λ other. not (is_separator Blank other)) text)
        ≡ first_byte (filter is_filled (placed base at (cond test ([] ∷ slice_split (is_separator Blank) text) (onto_first byte (slice_split (is_separator Blank) text)))))
    chosen true rest = rest
    chosen false rest = onto (slice_split (is_separator Blank) text)

pub first_of_fields : (line : Part) → find (λ byte. not (is_separator Blank byte)) line.text ≡ first_byte (fields_of line)
unfolding fields_of parts_of
first_of_fields line = first_filled line.base line.start line.text

-- whether a line is skipped, or a participant line, shows at that byte
pub skipped_first : (fields : List Part) → is_skipped fields ≡ option_map_or (λ byte. byte == 35) (first_byte fields) true
skipped_first [] = refl
skipped_first (first ∷ others) = refl

pub call_first : (fields : List Part) → is_call fields ≡ option_map_or is_ascii_digit (first_byte fields) false
call_first [] = refl
call_first (first ∷ others) = refl
