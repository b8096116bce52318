-- Lines that are words with one blank between each two: their fields, and the lines of a text of such lines.
use Rattle.std.proofs.Common.{◌≡◌, ℕ, ◌+◌, ◌-◌, Bool, true, false, ◌&&◌, List, [], ◌∷◌, ◌++◌, length, get_or, refl, sym, ap, ◌∙◌, append_assoc, arith}
use Rattle.std.specs.Prelude.{All, Ok, nat_lt, ◌==◌, filter}
use Rattle.std.specs.List.{list_all, list_any, slice_split, flat_map, AllByRecursion}
use Rattle.std.specs.Str.Lines.{strip_carriage_return}
use Rattle.std.proofs.lemmas.Bool.Decides.{nat_tests}
use Rattle.std.proofs.lemmas.List.{append-nil}
use Rattle.std.proofs.lemmas.List.Elements.{All-from_recursion}
use Rattle.std.proofs.lemmas.List.Folds.{list_all-append}
use Rattle.std.proofs.lemmas.List.Splits.{slice_split_at, slice_split_none}
use Rattle.hp_script.specs.Part.{Part}
use Rattle.hp_script.specs.Text.{is_separator, is_plain, is_long, is_filled, placed, parts_of, fields_of, lines_in}
use Rattle.hp_script.specs.Words.{is_visible, IsWord, tokens_in}
use Rattle.hp_script.specs.declared.text.Separator.TheVariants.{Newline, Blank}
use Rattle.hp_script.proofs.LawLemmas.{lines_more}
use Rattle.hp_script.proofs.TokenFacts.TokensLemmas.{tokens_whole}

-- words with one blank between each two
abbrev pub spaced : List ℕ → List (List ℕ) → List ℕ
spaced word [] = word
spaced word (next ∷ others) = word ++ 32 ∷ spaced next others

abbrev pub AreWords : List (List ℕ) → Type 0
AreWords words = AllByRecursion IsWord words

both : (first second : Bool) → (first && second) ≡ true → (first ≡ true) × (second ≡ true)
both true second is = (refl, is)
both false second is = absurd cc

-- bytes that pass one test pass a weaker one
weaker : (p q : ℕ → Bool) → ((byte : ℕ) → p byte ≡ true → q byte ≡ true) → (bytes : List ℕ) → list_all p bytes ≡ true → list_all q bytes ≡ true
weaker p q step [] passes = refl
weaker p q step (byte ∷ bytes) passes =
    let each = both (p byte) (list_all p bytes) passes in
    rw (step byte each.0, weaker p q step bytes each.1) refl

-- bytes that pass a test are other than what it refuses
others : (p q : ℕ → Bool) → ((byte : ℕ) → p byte ≡ true → q byte ≡ false) → (bytes : List ℕ) → list_all p bytes ≡ true → All (λ byte. q byte ≡ false) bytes
others p q step bytes passes = All-from_recursion (λ byte. q byte ≡ false) bytes (each bytes passes)
  where
    each : (some : List ℕ) → list_all p some ≡ true → AllByRecursion (λ byte. q byte ≡ false) some
    each [] is = tt
    each (byte ∷ some) is = let two = both (p byte) (list_all p some) is in (step byte two.0, each some two.1)

word_plain : (word : List ℕ) → IsWord word → list_all is_plain word ≡ true
word_plain word is = weaker is_visible is_plain (λ byte visible. grind (arith, nat_tests, visible)) word is.visible

word_closed : (word : List ℕ) → IsWord word → All (λ byte. is_separator Blank byte ≡ false) word
word_closed word is = others is_visible (is_separator Blank) (λ byte visible. grind (arith, nat_tests, visible)) word is.visible

-- words with blanks between them are plain
pub spaced_plain : (word : List ℕ) (more : List (List ℕ)) → IsWord word → AreWords more → list_all is_plain (spaced word more) ≡ true
spaced_plain word [] is are = word_plain word is
spaced_plain word (next ∷ more) is are =
    rw (list_all-append is_plain word (32 ∷ spaced next more), word_plain word is, spaced_plain next more are.0 are.1) refl

-- their fields are these words
filled_is : (word : List ℕ) → IsWord word → nat_lt 0 (length word) ≡ true
filled_is word is = let some = is.filled in grind (arith, nat_tests, some)

fields_by_word : (base : ℕ × ℕ) (at : ℕ) (word : List ℕ) (more : List (List ℕ)) → IsWord word → AreWords more
    → filter is_filled (placed base at (slice_split (is_separator Blank) (spaced word more))) ≡ placed base at (word ∷ more)
fields_by_word base at word [] is are = rw (slice_split_none (is_separator Blank) word (word_closed word is), filled_is word is) refl
fields_by_word base at word (next ∷ more) is are =
    rw (slice_split_at (is_separator Blank) word 32 (spaced next more) (word_closed word is) refl, filled_is word is, fields_by_word base (at + length word + 1) next more are.0 are.1) refl

pub fields_spaced : (base : ℕ × ℕ) (at : ℕ) (word : List ℕ) (more : List (List ℕ)) → IsWord word → AreWords more
    → fields_of (record { start = at; text = spaced word more; base = base }) ≡ placed base at (word ∷ more)
unfolding fields_of parts_of
fields_spaced base at word more is are = fields_by_word base at word more is are

short_words : (base : ℕ × ℕ) (at : ℕ) (words : List (List ℕ)) → AreWords words → list_any is_long (placed base at words) ≡ false
short_words base at [] are = refl
short_words base at (word ∷ words) are =
    let few = are.0.short in
    let short : nat_lt 255 (length word) ≡ false = grind (arith, nat_tests, few) in
    rw (short, short_words base (at + length word + 1) words are.1) refl

-- and so are their tokens
pub tokens_spaced : (base : ℕ × ℕ) (at : ℕ) (word : List ℕ) (more : List (List ℕ)) → IsWord word → AreWords more
    → tokens_in (record { start = at; text = spaced word more; base = base }) ≡ Ok (placed base at (word ∷ more))
tokens_spaced base at word more is are =
    tokens_whole (record { start = at; text = spaced word more; base = base }) (placed base at (word ∷ more))
    (append-nil (placed base at (word ∷ more)) ∙ sym (fields_spaced base at word more is are)) (spaced_plain word more is are) (short_words base at (word ∷ more) (is, are))

-- a line of words: the first one, and those after it
pub record WordLine : Type 0 where
  pub first : List ℕ
  pub more : List (List ℕ)

abbrev pub line_bytes : WordLine → List ℕ
line_bytes words = spaced words.first words.more

abbrev pub AreWordLines : List WordLine → Type 0
AreWordLines lines = AllByRecursion (λ words. IsWord words.first × AreWords words.more) lines

-- the text of lines of words
abbrev pub word_text : List WordLine → List ℕ
word_text lines = flat_map (λ words. line_bytes words ++ 10 ∷ []) lines

-- the lines of that text; after the last newline stands an empty one
abbrev pub word_parts : ℕ × ℕ → ℕ → List WordLine → List Part
word_parts base at [] = record { start = at; text = []; base = base } ∷ []
word_parts base at (words ∷ lines) = record { start = at; text = line_bytes words; base = base } ∷ word_parts base (at + length (line_bytes words) + 1) lines

-- plain bytes do not end with a carriage return
no_return : (text : List ℕ) → list_all is_plain text ≡ true → strip_carriage_return text ≡ text
no_return [] plain = refl
no_return (byte ∷ text) plain =
    let last : (get_or (byte ∷ text) (length (byte ∷ text) - 1) 0 == 13) ≡ false =
    others is_plain (λ some. some == 13) (λ some is. grind (arith, nat_tests, is)) (byte ∷ text) plain (length (byte ∷ text) - 1) 0 (omega arith) in
    rw last refl

pub lines_words : (base : ℕ × ℕ) (at : ℕ) (lines : List WordLine) → AreWordLines lines
    → lines_in (record { start = at; text = word_text lines; base = base }) ≡ word_parts base at lines
unfolding parts_of
lines_words base at [] are = refl
lines_words base at (words ∷ lines) are =
    let plain = spaced_plain words.first words.more are.0.0 are.0.1 in
    ap (λ text. lines_in (record { start = at; text = text; base = base })) (append_assoc (line_bytes words) (10 ∷ []) (word_text lines))
    ∙ lines_more base at (line_bytes words) (word_text lines) (others is_plain (is_separator Newline) (λ byte is. grind (arith, nat_tests, is)) (line_bytes words) plain)
    ∙ rw (no_return (line_bytes words) plain, lines_words base (at + length (line_bytes words) + 1) lines are.1) refl
