-- The bytes of a word, and how a line is cut after its first field.
use Rattle.std.proofs.Common.{add-one, ◌≡◌, ℕ, ◌+◌, ◌-◌, ◌<◌, ◌≤◌, Bool, true, false, ◌&&◌, List, ◌∷◌, ◌++◌, length, take, drop, get_or, refl, sym, ap, ◌∙◌, cond, arith}
use Rattle.std.specs.Prelude.{Some, None, position, not, nat_lt}
use Rattle.std.specs.List.{list_all, position_or_len}
use Rattle.std.specs.Str.{IsUtf8}
use Rattle.std.proofs.Math.Seq.{drop-cons}
use Rattle.std.proofs.Math.ListN.{take-append-drop}
use Rattle.std.proofs.lemmas.Bool.Decides.{nat_tests}
use Rattle.std.proofs.lemmas.List.{length-take-le, length-drop, get_or-take, get_or-drop}
use Rattle.std.proofs.lemmas.List.Folds.{list_all-append}
use Rattle.std.proofs.lemmas.List.Sums.{AllPass-from_list_all, list_all-from_AllPass, fails_before_first, passes_at_first, position_or_len_is}
use Rattle.std.proofs.lemmas.Str.{IsUtf8-from_ascii}
use Rattle.std.proofs.lemmas.Str.Ascii.{IsAscii-from_all}
use Rattle.hp_script.specs.Part.{Part, behind}
use Rattle.hp_script.specs.Text.{is_separator, is_plain}
use Rattle.hp_script.specs.Words.{is_visible, is_blind, IsWord, IsFieldCut}
use Rattle.hp_script.specs.declared.text.Separator.TheVariants.{Blank}
use Rattle.hp_script.proofs.TokenFacts.TextLemmas.{parts_none, parts_some}

visible_ascii : (byte : ℕ) → is_visible byte ≡ true → byte < 128
visible_ascii byte visible = grind (arith, nat_tests, visible)

visible_plain : (byte : ℕ) → is_visible byte ≡ true → is_plain byte ≡ true
visible_plain byte visible = grind (arith, nat_tests, visible)

visible_no_blank : (byte : ℕ) → is_blind byte ≡ false → is_separator Blank byte ≡ false
visible_no_blank byte visible = grind (arith, nat_tests, visible)

seen : (test : Bool) → not test ≡ false → test ≡ true
seen true is = refl
seen false is = absurd cc

unseen : (test : Bool) → not test ≡ true → test ≡ false
unseen true is = absurd cc
unseen false is = refl

-- a word is a text
pub word_utf8 : (text : List ℕ) → IsWord text → IsUtf8 text
word_utf8 text word =
    IsUtf8-from_ascii text (IsAscii-from_all text (λ k d within. visible_ascii (get_or text k d) (AllPass-from_list_all is_visible text word.visible k d within)))

-- what stands after a word's first bytes is one, where it is not empty
pub word_behind : (text : List ℕ) (n : ℕ) → IsWord text → 1 ≤ length (drop n text) → IsWord (drop n text)
word_behind text n word some =
    let len : length (drop n text) ≡ length text - n = length-drop n text in
    record {
      filled = some;
      short = omega (arith, len, word.short);
      visible = list_all-from_AllPass is_visible (drop n text) (λ k d within.
          rw (get_or-drop n text k d) (AllPass-from_list_all is_visible text word.visible (n + k) d (omega (arith, len, within))));
    }

-- the bytes before the first blind one are visible
front_visible : (xs : List ℕ) (n : ℕ) → n ≤ position_or_len is_blind xs → n ≤ length xs → list_all is_visible (take n xs) ≡ true
front_visible xs n before within =
    let len : length (take n xs) ≡ n = length-take-le n xs within in
    list_all-from_AllPass is_visible (take n xs) (λ k d inside.
    let low : k < n = omega (arith, len, inside) in
    rw (get_or-take n xs k d low) (seen (is_visible (get_or xs k d)) (fails_before_first is_blind xs k d (omega (arith, low, before)))))

all_plain : (xs : List ℕ) → list_all is_visible xs ≡ true → list_all is_plain xs ≡ true
all_plain xs visible = list_all-from_AllPass is_plain xs (λ k d within. visible_plain (get_or xs k d) (AllPass-from_list_all is_visible xs visible k d within))

chosen_some : (b : Bool) (x y : ℕ) → cond b (Some x) None ≡ Some y → (b ≡ true) × (x ≡ y)
chosen_some true x y same = (refl, cc)
chosen_some false x y same = absurd cc

chosen_none : (b : Bool) (x : ℕ) → cond b (Some x) None ≡ None → b ≡ false
chosen_none true x same = absurd cc
chosen_none false x same = refl

-- a list is its front, an element, and what stands after
in_three : (xs : List ℕ) (n : ℕ) → n < length xs → xs ≡ take n xs ++ get_or xs n 0 ∷ drop (n + 1) xs
in_three xs n within =
    sym (take-append-drop n xs) ∙ ap (λ rest. take n xs ++ rest) (rw add-one (drop-cons xs n 0 within))

with_front : (front : List ℕ) (byte : ℕ) (rest : List ℕ) → list_all is_plain front ≡ true → list_all is_plain (front ++ byte ∷ rest) ≡ (is_plain byte && list_all is_plain rest)
with_front front byte rest plain = list_all-append is_plain front (byte ∷ rest) ∙ rw plain refl

module _ (whole : Part) (n : ℕ) (found : position is_blind whole.text ≡ Some n) where
  at : (nat_lt (position_or_len is_blind whole.text) (length whole.text) ≡ true) × (position_or_len is_blind whole.text ≡ n)
  at = chosen_some (nat_lt (position_or_len is_blind whole.text) (length whole.text)) (position_or_len is_blind whole.text) n found

  inside : n < length whole.text
  inside = grind (arith, nat_tests, at.0, at.1)

  front : list_all is_visible (take n whole.text) ≡ true
  front = front_visible whole.text n (omega (arith, at.1)) (omega (arith, inside))

  plain_behind : list_all is_plain whole.text ≡ (is_plain (get_or whole.text n 0) && list_all is_plain (drop (n + 1) whole.text))
  plain_behind =
      ap (list_all is_plain) (in_three whole.text n inside)
      ∙ with_front (take n whole.text) (get_or whole.text n 0) (drop (n + 1) whole.text) (all_plain (take n whole.text) front)

  -- a blind byte that is no blank stands in no line
  pub cut_bad : is_separator Blank (get_or whole.text n 0) ≡ false → list_all is_plain whole.text ≡ false
  cut_bad other =
      let blind : is_blind (get_or whole.text n 0) ≡ true = rw at.1 at (passes_at_first is_blind whole.text 0 (rw at.1 inside)) in
      let bad : is_plain (get_or whole.text n 0) ≡ false = not_plain (get_or whole.text n 0) blind other in
      plain_behind ∙ ap (λ test. test && list_all is_plain (drop (n + 1) whole.text)) bad
    where
      not_plain : (byte : ℕ) → is_blind byte ≡ true → is_separator Blank byte ≡ false → is_plain byte ≡ false
      not_plain byte blind other = grind (arith, nat_tests, blind, other)

  -- a line is cut at a blank
  pub cut_blank : is_separator Blank (get_or whole.text n 0) ≡ true
      → IsFieldCut whole (record { start = whole.start; text = take n whole.text; base = whole.base }) (Some (behind (n + 1) whole))
  cut_blank blank =
      let first : position_or_len (is_separator Blank) whole.text ≡ n = position_or_len_is (is_separator Blank) whole.text n 0 (omega (arith, inside))
      (λ k before. visible_no_blank (get_or whole.text k 0) (fails_before_first is_blind whole.text k 0 (omega (arith, at.1, before)))) (λ _. blank) in
      let place : position (is_separator Blank) whole.text ≡ Some n = rw first (grind (arith, nat_tests, inside)) in
      let plain : is_plain (get_or whole.text n 0) ≡ true = blank_plain (get_or whole.text n 0) blank in
      record {
        parts = parts_some Blank whole n place inside;
        visible = front;
        plain = plain_behind ∙ ap (λ test. test && list_all is_plain (drop (n + 1) whole.text)) plain;
        shorter = rw (length-drop (n + 1) whole.text) (omega (arith, inside));
      }
    where
      blank_plain : (byte : ℕ) → is_separator Blank byte ≡ true → is_plain byte ≡ true
      blank_plain byte blank = grind (arith, nat_tests, blank)

-- a line without a blind byte is one field
pub cut_whole : (whole : Part) → position is_blind whole.text ≡ None → IsFieldCut whole whole None
cut_whole whole none =
    let past = chosen_none (nat_lt (position_or_len is_blind whole.text) (length whole.text)) (position_or_len is_blind whole.text) none in
    let all : length whole.text ≤ position_or_len is_blind whole.text = grind (arith, nat_tests, past) in
    let visible : list_all is_visible whole.text ≡ true = list_all-from_AllPass is_visible whole.text (λ k d within.
    seen (is_visible (get_or whole.text k d)) (fails_before_first is_blind whole.text k d (omega (arith, all, within)))) in
    let first : position_or_len (is_separator Blank) whole.text ≡ length whole.text = position_or_len_is (is_separator Blank) whole.text (length whole.text) 0 (omega arith)
    (λ k before. visible_no_blank (get_or whole.text k 0) (fails_before_first is_blind whole.text k 0 (omega (arith, all, before)))) (λ over. absurd (omega (arith, over))) in
    let place : position (is_separator Blank) whole.text ≡ None = rw first (grind (arith, nat_tests)) in
    record {
      parts = parts_none Blank whole place;
      visible = visible;
      plain = all_plain whole.text visible;
      shorter = tt;
    }
