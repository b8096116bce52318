-- Names by the number of their line.
use Rattle.std.proofs.Common.{◌≡◌, ℕ, zero, suc, ◌+◌, ◌<◌, ◌≤◌, List, [], ◌∷◌, ◌++◌, length, take, take_all, drop, set, get_or, Bool, true, false, cond, refl, ap, Bor, sym, ◌∙◌, arith}
use Rattle.std.specs.Prelude.{◌==◌, Some, replicate}
use Rattle.std.specs.Option.{option_map_or}
use Rattle.std.specs.List.{find}
use Rattle.std.proofs.Math.Path.{fun_ext}
use Rattle.std.proofs.lemmas.Bool.{eqb-false, eqb-true}
use Rattle.std.proofs.lemmas.List.{drop_all, drop_more}
use Rattle.hp_script.specs.declared.line.Line.{Line}
use Rattle.hp_report.specs.Names.{act_name, has_number, name_at}
use Rattle.hp_report.specs.KnownNames.{kept_at}

-- the name that a line gives
abbrev line_name : Line → List ℕ
line_name line = act_name line.act

-- the names are those of the lines from one on
abbrev pub Keeps : List (Bor (List ℕ)) → List Line → Type 0
Keeps names lines = (number : ℕ) → kept_at names number ≡ name_at lines number

-- past the end there is no name
pub kept_past : (names : List (Bor (List ℕ))) (number : ℕ) → length names ≤ number → kept_at names number ≡ []
kept_past [] number past = refl
kept_past (name ∷ names) zero past = absurd (omega arith)
kept_past (name ∷ names) (suc number) past = kept_past names number (omega arith)

-- the name at a place
pub kept_here : (names : List (Bor (List ℕ))) (number : ℕ) (name : Bor (List ℕ)) → number < length names → name.now ≡ (get_or names number name).now
    → name.now ≡ kept_at names number
kept_here [] number name within is = absurd (omega arith)
kept_here (first ∷ names) zero name within is = is
kept_here (first ∷ names) (suc number) name within is = kept_here names number name (omega arith) is

-- empty names at the end change nothing
kept_empty : (count : ℕ) (none : Bor (List ℕ)) → none.now ≡ [] → (number : ℕ) → kept_at (replicate count none) number ≡ []
kept_empty zero none empty number = refl
kept_empty (suc count) none empty zero = empty
kept_empty (suc count) none empty (suc number) = kept_empty count none empty number

kept_longer : (names : List (Bor (List ℕ))) (count : ℕ) (none : Bor (List ℕ)) → none.now ≡ [] → (number : ℕ)
    → kept_at (names ++ replicate count none) number ≡ kept_at names number
kept_longer [] count none empty number = kept_empty count none empty number
kept_longer (name ∷ names) count none empty zero = refl
kept_longer (name ∷ names) count none empty (suc number) = kept_longer names count none empty number

-- a row made longer by empty names
pub kept_resized : (names : List (Bor (List ℕ))) (size count : ℕ) (none : Bor (List ℕ)) → none.now ≡ [] → length names ≤ size → (number : ℕ)
    → kept_at (take size names ++ replicate count none) number ≡ kept_at names number
kept_resized names size count none empty within number =
    ap (λ front. kept_at (front ++ replicate count none) number) (take_all size names within) ∙ kept_longer names count none empty number

-- a name in place of another
kept_same : (names : List (Bor (List ℕ))) (place : ℕ) (name : Bor (List ℕ)) → place < length names → kept_at (set names place name) place ≡ name.now
kept_same [] place name within = absurd (omega arith)
kept_same (first ∷ names) zero name within = refl
kept_same (first ∷ names) (suc place) name within = kept_same names place name (omega arith)

kept_other : (names : List (Bor (List ℕ))) (place number : ℕ) (name : Bor (List ℕ)) → (place ≡ number → ⊥) → kept_at (set names place name) number ≡ kept_at names number
kept_other [] place number name other = refl
kept_other (first ∷ names) zero zero name other = absurd (other refl)
kept_other (first ∷ names) zero (suc number) name other = refl
kept_other (first ∷ names) (suc place) zero name other = refl
kept_other (first ∷ names) (suc place) (suc number) name other = kept_other names place number name (λ same. other (ap suc same))

pub kept_set : (names : List (Bor (List ℕ))) (place : ℕ) (name : Bor (List ℕ)) → place < length names → (number : ℕ)
    → kept_at (set names place name) number ≡ cond (place == number) name.now (kept_at names number)
kept_set names place name within number = by_test (place == number) refl
  where
    by_test : (test : Bool) → (place == number) ≡ test → kept_at (set names place name) number ≡ cond test name.now (kept_at names number)
    by_test true is = ap (λ k. kept_at (set names place name) k) (sym (eqb-true place number is)) ∙ kept_same names place name within
    by_test false is = kept_other names place number name (eqb-false place number is)

-- the names of a line in front of others
name_first : (line : Line) (lines : List Line) (number : ℕ) → name_at (line ∷ lines) number ≡ cond (line.line == number) (line_name line) (name_at lines number)
name_first line lines number = by_test (line.line == number)
  where
    by_test : (test : Bool) → option_map_or line_name (cond test (Some line) (find (has_number number) lines)) [] ≡ cond test (line_name line) (name_at lines number)
    by_test true = refl
    by_test false = refl

-- a line more in front
pub Keeps-more : (old new : List (Bor (List ℕ))) (lines : List Line) (i : ℕ) (line : Line) (name : List ℕ) → i < length lines → line ≡ get_or lines i line
    → Keeps old (drop (i + 1) lines) → name ≡ line_name line → ((k : ℕ) → kept_at new k ≡ cond (line.line == k) name (kept_at old k)) → Keeps new (drop i lines)
Keeps-more old new lines i line name within here keeps named is number =
    is number
    ∙ ap (λ n. cond (line.line == number) n (kept_at old number)) named
    ∙ ap (λ n. cond (line.line == number) (line_name line) n) (keeps number)
    ∙ sym (name_first line (drop (i + 1) lines) number)
    ∙ ap (λ ls. name_at ls number) (sym (drop_more lines i line within ∙ ap (λ l. l ∷ drop (i + 1) lines) (sym here)))

-- of no line there is no name
pub Keeps-none : (lines : List Line) → Keeps [] (drop (length lines) lines)
Keeps-none lines number = ap (λ ls. name_at ls number) (sym (drop_all (length lines) lines (omega arith)))

-- the name at each number is that of its line
pub known-is : (names : List (Bor (List ℕ))) (lines : List Line) (left : ℕ) → left ≤ 0 → Keeps names (drop left lines) → kept_at names ≡ name_at lines
known-is names lines zero none keeps = fun_ext keeps
known-is names lines (suc left) none keeps = absurd (omega arith)
