-- The lines of an input, as far as a loop has come.
use Rattle.std.proofs.Common.{◌≡◌, ℕ, ◌+◌, ◌<◌, ◌≤◌, Bool, true, false, List, [], ◌∷◌, ◌++◌, length, take, drop, refl, sym, ap, ◌∙◌, append_assoc, append-nil, subst, arith}
use Rattle.std.specs.Prelude.{Option, Some, None, Result, Ok, Err, position, cond, nat_lt, ◌==◌, ⊤}
use Rattle.std.specs.List.{slice_split}
use Rattle.std.proofs.lemmas.List.Splits.{length-slice_split}
use Rattle.std.proofs.lemmas.List.Sums.{count_by-le-length}
use Rattle.hp_bytes.specs.Form.{end_of, line_of, parts_of, read_part, reading, reading_from, with_line}
use Rattle.hp_bytes.specs.declared.line.Line.{Line}
use Rattle.hp_bytes.proofs.FieldLemmas.{parts_last, parts_more, parts_nothing}

-- lines before those that are still to be read
abbrev pub with_lines : List Line → Result (List Line) ℕ → Result (List Line) ℕ
with_lines lines (Ok more) = Ok (lines ++ more)
with_lines lines (Err bad) = Err bad

pub none_so_far : (input : List ℕ) → with_lines [] (reading_from 1 (parts_of input)) ≡ reading input
unfolding reading
none_so_far input = of (reading_from 1 (parts_of input))
  where
    of : (r : Result (List Line) ℕ) → with_lines [] r ≡ r
    of (Ok more) = refl
    of (Err bad) = refl

with_lines_more : (lines : List Line) (line : Line) (number : ℕ) (rest : Result (List Line) ℕ) → with_lines lines (with_line (Some line) number rest) ≡ with_lines (lines ++ line ∷ []) rest
with_lines_more lines line number (Ok more) = ap Ok (sym (append_assoc lines (line ∷ []) more))
with_lines_more lines line number (Err bad) = refl

-- there is a part after each newline
read_front : (number : ℕ) (text behind : List ℕ) → reading_from number (text ∷ parts_of behind) ≡ with_line (line_of text) number (reading_from (number + 1) (parts_of behind))
read_front number text behind = of (position (λ byte. byte == 10) behind) refl
  where
    of : (o : Option ℕ) → position (λ byte. byte == 10) behind ≡ o → reading_from number (text ∷ parts_of behind) ≡ with_line (line_of text) number (reading_from (number + 1) (parts_of behind))
    of None none = rw (parts_last behind none) refl
    of (Some n) found = rw (parts_more behind n found) refl

-- the next line is of no form
pub bad_line : (number n : ℕ) (rest : List ℕ) → position (λ byte. byte == 10) rest ≡ Some n → line_of (take n rest) ≡ None → reading_from number (parts_of rest) ≡ Err number
bad_line number n rest found none =
    ap (reading_from number) (parts_more rest n found) ∙ read_front number (take n rest) (drop (n + 1) rest)
    ∙ ap (λ (o : Option Line). with_line o number (reading_from (number + 1) (parts_of (drop (n + 1) rest)))) none

-- or it is one more
pub one_line : (lines : List Line) (line : Line) (number n : ℕ) (rest : List ℕ) → position (λ byte. byte == 10) rest ≡ Some n → Some line ≡ line_of (take n rest)
    → with_lines (lines ++ line ∷ []) (reading_from (number + 1) (parts_of (drop (n + 1) rest))) ≡ with_lines lines (reading_from number (parts_of rest))
one_line lines line number n rest found is =
    sym (ap (λ (parts : List (List ℕ)). with_lines lines (reading_from number parts)) (parts_more rest n found)
    ∙ ap (with_lines lines) (read_front number (take n rest) (drop (n + 1) rest))
    ∙ ap (λ (o : Option Line). with_lines lines (with_line o number (reading_from (number + 1) (parts_of (drop (n + 1) rest))))) (sym is)
    ∙ with_lines_more lines line number (reading_from (number + 1) (parts_of (drop (n + 1) rest))))

-- a last line without a newline is of no form
pub bad_end : (number : ℕ) (rest : List ℕ) → position (λ byte. byte == 10) rest ≡ None → 0 < length rest → reading_from number (parts_of rest) ≡ Err number
bad_end number rest none some = ap (reading_from number) (parts_last rest none) ∙ of rest some
  where
    of : (text : List ℕ) → 0 < length text → end_of number text ≡ Err number
    of [] some = absurd (omega arith)
    of (byte ∷ bytes) some = refl

-- nothing is left
pub all_lines : (lines : List Line) (number : ℕ) (rest : List ℕ) → length rest ≡ 0 → with_lines lines (reading_from number (parts_of rest)) ≡ Ok lines
all_lines lines number [] none = rw parts_nothing (ap Ok (append-nil lines))
all_lines lines number (byte ∷ bytes) none = absurd (omega arith)

-- a loop that comes one line further
pub lines_step : (lines lines' : List Line) (line : Line) (number n : ℕ) (rest behind input : List ℕ) → with_lines lines (reading_from number (parts_of rest)) ≡ reading input
    → position (λ byte. byte == 10) rest ≡ Some n → Some line ≡ line_of (take n rest) → lines' ≡ lines ++ line ∷ [] → behind ≡ drop (n + 1) rest
    → with_lines lines' (reading_from (number + 1) (parts_of behind)) ≡ reading input
lines_step lines lines' line number n rest behind input due found is more over =
    ap (λ (all : List Line). with_lines all (reading_from (number + 1) (parts_of behind))) more
    ∙ ap (λ (text : List ℕ). with_lines (lines ++ line ∷ []) (reading_from (number + 1) (parts_of text))) over
    ∙ one_line lines line number n rest found is ∙ due

-- at most so many lines were read
abbrev Few : ℕ → Result (List Line) ℕ → Type 0
Few n (Ok lines) = length lines ≤ n
Few n (Err bad) = ⊤

fewer : (n m : ℕ) (r : Result (List Line) ℕ) → n ≤ m → Few n r → Few m r
fewer n m (Ok lines) below few = omega (arith, below, few)
fewer n m (Err bad) below few = tt

end_few : (number : ℕ) (text : List ℕ) → Few 1 (end_of number text)
end_few number [] = omega arith
end_few number (byte ∷ bytes) = tt

with_few : (o : Option Line) (number n : ℕ) (rest : Result (List Line) ℕ) → Few n rest → Few (n + 1) (with_line o number rest)
with_few None number n rest few = tt
with_few (Some line) number n (Ok lines) few = omega (arith, few)
with_few (Some line) number n (Err bad) few = tt

part_few : (number : ℕ) (text : List ℕ) (others : List (List ℕ)) (rest : Result (List Line) ℕ) → Few (length others) rest → Few (length others + 1) (read_part number text others rest)
part_few number text [] rest few = end_few number text
part_few number text (next ∷ others) rest few = with_few (line_of text) number (length (next ∷ others)) rest few

parts_few : (number : ℕ) (parts : List (List ℕ)) → Few (length parts) (reading_from number parts)
parts_few number [] = omega arith
parts_few number (text ∷ others) =
    fewer (length others + 1) (length (text ∷ others)) (reading_from number (text ∷ others)) (omega arith)
    (part_few number text others (reading_from (number + 1) others) (parts_few (number + 1) others))

-- there are no more lines than bytes and one
pub lines_few : (input : List ℕ) (lines : List Line) → reading input ≡ Ok lines → length lines ≤ length input + 1
unfolding reading parts_of
lines_few input lines is =
    let few : Few (length (slice_split (λ byte. byte == 10) input)) (Ok lines) =
    subst (λ (r : Result (List Line) ℕ). Few (length (slice_split (λ byte. byte == 10) input)) r) is (parts_few 1 (slice_split (λ byte. byte == 10) input)) in
    omega (arith, few, length-slice_split (λ byte. byte == 10) input, count_by-le-length (λ byte. byte == 10) input)
