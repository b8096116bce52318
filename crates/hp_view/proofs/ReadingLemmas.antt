-- The lines of a report, as far as a loop has come.
use Rattle.std.proofs.Common.{◌≡◌, ℕ, ◌+◌, ◌<◌, Bool, true, false, List, [], ◌∷◌, ◌++◌, length, take, drop, refl, sym, ap, ◌∙◌, append_assoc, append-nil, arith}
use Rattle.std.specs.Prelude.{Option, Some, None, Result, Ok, Err, position, cond, ◌==◌, codes}
use Rattle.std.specs.Str.{bytes_eq}
use Rattle.hp_view.specs.declared.line.Line.{Line}
use Rattle.hp_view.specs.Form.{line_of}
use Rattle.hp_view.specs.Reading.{after_first, before, ended, is_end, parts_of, reading, reading_from, reading_of, with_line}
use Rattle.hp_view.proofs.FieldLemmas.{parts_last, parts_more, parts_nothing}

-- what was read before that which is still to be read
abbrev pub with_items : List Line → Result (List Line) ℕ → Result (List Line) ℕ
with_items lines (Ok more) = Ok (lines ++ more)
with_items lines (Err bad) = Err bad

pub none_so_far : (r : Result (List Line) ℕ) → with_items [] r ≡ r
none_so_far (Ok more) = refl
none_so_far (Err bad) = refl

with_items_more : (lines : List Line) (first : Line) (rest : Result (List Line) ℕ) → with_items lines (before first rest) ≡ with_items (lines ++ first ∷ []) rest
with_items_more lines first (Ok more) = ap Ok (sym (append_assoc lines (first ∷ []) more))
with_items_more lines first (Err bad) = refl

-- there is a part after each newline
data IsSome (parts : List (List ℕ)) : Type 0 where
  some : (text : List ℕ) (others : List (List ℕ)) → parts ≡ text ∷ others → IsSome parts

parts_some : (after : List ℕ) → IsSome (parts_of after)
parts_some after = of (position (λ byte. byte == 10) after) refl
  where
    of : (o : Option ℕ) → position (λ byte. byte == 10) after ≡ o → IsSome (parts_of after)
    of None none = some after [] (parts_last after none)
    of (Some n) found = some (take n after) (parts_of (drop (n + 1) after)) (parts_more after n found)

read_front : (number : ℕ) (text after : List ℕ) → reading_from number (text ∷ parts_of after) ≡ with_line (line_of text) number (parts_of after) (reading_from (number + 1) (parts_of after))
read_front number text after = of (parts_some after)
  where
    of : IsSome (parts_of after) → reading_from number (text ∷ parts_of after) ≡ with_line (line_of text) number (parts_of after) (reading_from (number + 1) (parts_of after))
    of (some next others is) = rw is refl

module _ (number n : ℕ) (rest : List ℕ) (found : position (λ byte. byte == 10) rest ≡ Some n) where
  front : reading_from number (parts_of rest)
      ≡ with_line (line_of (take n rest)) number (parts_of (drop (n + 1) rest)) (reading_from (number + 1) (parts_of (drop (n + 1) rest)))
  front = ap (reading_from number) (parts_more rest n found) ∙ read_front number (take n rest) (drop (n + 1) rest)

  line_is : (o : Option Line) → line_of (take n rest) ≡ o
      → reading_from number (parts_of rest) ≡ with_line o number (parts_of (drop (n + 1) rest)) (reading_from (number + 1) (parts_of (drop (n + 1) rest)))
  line_is o is = front ∙ ap (λ (line : Option Line). with_line line number (parts_of (drop (n + 1) rest)) (reading_from (number + 1) (parts_of (drop (n + 1) rest)))) is

  -- the next line is of no form
  pub bad_line : line_of (take n rest) ≡ None → reading_from number (parts_of rest) ≡ Err number
  bad_line none = line_is None none

  -- or it is the last
  pub last_line : (line : Line) → line_of (take n rest) ≡ Some line → is_end line ≡ true
      → reading_from number (parts_of rest) ≡ ended (number + 1) (parts_of (drop (n + 1) rest))
  last_line line is end = line_is (Some line) is ∙ rw end refl

  -- or one more
  one_line : (lines : List Line) (line : Line) → line_of (take n rest) ≡ Some line → is_end line ≡ false
      → with_items (lines ++ line ∷ []) (reading_from (number + 1) (parts_of (drop (n + 1) rest))) ≡ with_items lines (reading_from number (parts_of rest))
  one_line lines line is more =
      sym (ap (with_items lines) (line_is (Some line) is ∙ rw more refl) ∙ with_items_more lines line (reading_from (number + 1) (parts_of (drop (n + 1) rest))))

  -- a loop that comes one line further
  pub lines_step : (lines lines' : List Line) (line : Line) (after input : List ℕ) → with_items lines (reading_from number (parts_of rest)) ≡ reading_from 2 (parts_of input)
      → line_of (take n rest) ≡ Some line → is_end line ≡ false → lines' ≡ lines ++ line ∷ [] → after ≡ drop (n + 1) rest
      → with_items lines' (reading_from (number + 1) (parts_of after)) ≡ reading_from 2 (parts_of input)
  lines_step lines lines' line after input due is more pushed over =
      ap (λ (all : List Line). with_items all (reading_from (number + 1) (parts_of after))) pushed
      ∙ ap (λ (text : List ℕ). with_items (lines ++ line ∷ []) (reading_from (number + 1) (parts_of text))) over
      ∙ one_line lines line is more ∙ due

-- no newline is left, and the last line did not come
pub bad_end : (number : ℕ) (rest : List ℕ) → position (λ byte. byte == 10) rest ≡ None → reading_from number (parts_of rest) ≡ Err number
bad_end number rest none = ap (reading_from number) (parts_last rest none)

-- nothing stands after the last line
pub ended_well : (number : ℕ) (rest : List ℕ) → length rest ≡ 0 → ended number (parts_of rest) ≡ Ok []
ended_well number [] none = rw parts_nothing refl
ended_well number (byte ∷ bytes) none = absurd (omega arith)

more_follows : (number : ℕ) (text next : List ℕ) (others : List (List ℕ)) → ended number (text ∷ next ∷ others) ≡ Err number
more_follows number [] next others = refl
more_follows number (byte ∷ bytes) next others = refl

-- something stands there
pub ended_badly : (number : ℕ) (rest : List ℕ) → 0 < length rest → ended number (parts_of rest) ≡ Err number
ended_badly number [] some_left = absurd (omega arith)
ended_badly number (byte ∷ bytes) some_left = of (position (λ b. b == 10) (byte ∷ bytes)) refl
  where
    of_more : (text after : List ℕ) → IsSome (parts_of after) → ended number (text ∷ parts_of after) ≡ Err number
    of_more text after (some next others is) = rw is (more_follows number text next others)

    of : (o : Option ℕ) → position (λ b. b == 10) (byte ∷ bytes) ≡ o → ended number (parts_of (byte ∷ bytes)) ≡ Err number
    of None none = rw (parts_last (byte ∷ bytes) none) refl
    of (Some n) found =
        ap (ended number) (parts_more (byte ∷ bytes) n found) ∙ of_more (take n (byte ∷ bytes)) (drop (n + 1) (byte ∷ bytes)) (parts_some (drop (n + 1) (byte ∷ bytes)))

-- a test whether nothing is left
pub is_nothing : (b : Bool) (text : List ℕ) → b ≡ (length text == 0) → b ≡ true → length text ≡ 0
is_nothing b text is empty = let test : (length text == 0) ≡ true = sym is ∙ empty in grind (arith, test)

pub is_something : (b : Bool) (text : List ℕ) → b ≡ (length text == 0) → b ≡ false → 0 < length text
is_something b text is full = let test : (length text == 0) ≡ false = sym is ∙ full in grind (arith, test)

-- what a loop over the lines has read is what there is to read, where it ends
module _ (number n : ℕ) (rest : List ℕ) (lines : List Line) (whole : Result (List Line) ℕ)
    (due : with_items lines (reading_from number (parts_of rest)) ≡ whole) where
  -- no newline is left
  pub cut_off : position (λ byte. byte == 10) rest ≡ None → whole ≡ Err number
  cut_off none = sym due ∙ ap (with_items lines) (bad_end number rest none)

  -- a line is of no form
  pub refused : position (λ byte. byte == 10) rest ≡ Some n → line_of (take n rest) ≡ None → whole ≡ Err number
  refused found none = sym due ∙ ap (with_items lines) (bad_line number n rest found none)

  -- a line is the last one, and nothing stands after it
  pub read_all : (line : Line) (after : List ℕ) → position (λ byte. byte == 10) rest ≡ Some n → line_of (take n rest) ≡ Some line → is_end line ≡ true
      → after ≡ drop (n + 1) rest → length after ≡ 0 → whole ≡ Ok lines
  read_all line after found is end over none =
      let ended_here = last_line number n rest found line is end in
      let nothing = ap (λ (text : List ℕ). ended (number + 1) (parts_of text)) (sym over) ∙ ended_well (number + 1) after none in
      sym due ∙ ap (with_items lines) (ended_here ∙ nothing) ∙ ap Ok (append-nil lines)

  -- or something stands there
  pub read_too_much : (line : Line) (after : List ℕ) → position (λ byte. byte == 10) rest ≡ Some n → line_of (take n rest) ≡ Some line → is_end line ≡ true
      → after ≡ drop (n + 1) rest → 0 < length after → whole ≡ Err (number + 1)
  read_too_much line after found is end over some_left =
      let ended_here = last_line number n rest found line is end in
      let something = ap (λ (text : List ℕ). ended (number + 1) (parts_of text)) (sym over) ∙ ended_badly (number + 1) after some_left in
      sym due ∙ ap (with_items lines) (ended_here ∙ something)

-- there is no line
pub no_line : (input : List ℕ) → position (λ byte. byte == 10) input ≡ None → reading input ≡ Err 1
unfolding reading
no_line input none = ap reading_of (parts_last input none)

-- the first line, and what is read after it
first_is : (b : Bool) (input : List ℕ) (n : ℕ) → position (λ byte. byte == 10) input ≡ Some n → bytes_eq (take n input) (codes "heapsim report 1") ≡ b
    → reading input ≡ cond b (reading_from 2 (parts_of (drop (n + 1) input))) (Err 1)
unfolding reading
first_is b input n found is = ap reading_of (parts_more input n found) ∙ of (parts_some (drop (n + 1) input))
  where
    of : IsSome (parts_of (drop (n + 1) input)) → after_first (take n input) (parts_of (drop (n + 1) input)) ≡ cond b (reading_from 2 (parts_of (drop (n + 1) input))) (Err 1)
    of (some next others has) = rw (has, is) refl

pub first_line : (input : List ℕ) (n : ℕ) → position (λ byte. byte == 10) input ≡ Some n → bytes_eq (take n input) (codes "heapsim report 1") ≡ true
    → reading input ≡ reading_from 2 (parts_of (drop (n + 1) input))
first_line input n found is = first_is true input n found is

pub other_first_line : (input : List ℕ) (n : ℕ) → position (λ byte. byte == 10) input ≡ Some n → bytes_eq (take n input) (codes "heapsim report 1") ≡ false
    → reading input ≡ Err 1
other_first_line input n found is = first_is false input n found is
