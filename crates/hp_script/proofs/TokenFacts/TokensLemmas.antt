-- The tokens of a line are its fields, and each is a word.
use Rattle.std.proofs.Common.{◌≡◌, ℕ, ◌+◌, Bool, true, false, ◌&&◌, ◌||◌, List, [], ◌∷◌, ◌++◌, length, refl, sym, ap, ◌∙◌, cond, arith}
use Rattle.std.specs.Prelude.{filter, not, Ok, Err, nat_lt, if◌then◌else◌}
use Rattle.std.proofs.lemmas.List.{append-nil}
use Rattle.std.proofs.lemmas.List.Folds.{list_any-append}
use Rattle.std.specs.List.{list_all, list_any, slice_split, onto_first, AllByRecursion}
use Rattle.std.proofs.lemmas.Bool.Decides.{nat_tests}
use Rattle.hp_script.specs.Part.{Part}
use Rattle.hp_script.specs.Text.{is_separator, placed, parts_of, fields_of, is_filled, is_plain, is_long}
use Rattle.hp_script.specs.Words.{is_visible, IsWord, tokens_in}
use Rattle.hp_script.specs.Judge.{◌>>=◌, refuse}
use Rattle.hp_script.specs.declared.bad_kind.BadKind.TheVariants as bad
use Rattle.hp_script.specs.declared.text.Separator.TheVariants.{Blank}

both : (first second : Bool) → (first && second) ≡ true → (first ≡ true) × (second ≡ true)
both true second is = (refl, is)
both false second is = absurd cc

neither : (first second : Bool) → (first || second) ≡ false → (first ≡ false) × (second ≡ false)
neither true second is = absurd cc
neither false second is = (refl, is)

-- a plain byte that is no blank is visible
plain_visible : (byte : ℕ) → is_plain byte ≡ true → is_separator Blank byte ≡ false → is_visible byte ≡ true
plain_visible byte plain other = grind (arith, nat_tests, plain, other)

-- each of some texts is visible
abbrev AreVisible : List (List ℕ) → Type 0
AreVisible texts = AllByRecursion (λ text. list_all is_visible text ≡ true) texts

onto_visible : (byte : ℕ) (texts : List (List ℕ)) → is_visible byte ≡ true → AreVisible texts → AreVisible (onto_first byte texts)
onto_visible byte [] visible texts_are = (rw visible refl, tt)
onto_visible byte (text ∷ texts) visible texts_are = (rw visible texts_are.0, texts_are.1)

-- what stands between the blanks of plain bytes is visible
split_visible : (bytes : List ℕ) → list_all is_plain bytes ≡ true → AreVisible (slice_split (is_separator Blank) bytes)
split_visible [] plain = (refl, tt)
split_visible (byte ∷ bytes) plain =
    let each = both (is_plain byte) (list_all is_plain bytes) plain in
    chosen (is_separator Blank byte) refl each.0 (split_visible bytes each.1)
  where
    chosen : (test : Bool) → is_separator Blank byte ≡ test → is_plain byte ≡ true → AreVisible (slice_split (is_separator Blank) bytes)
        → AreVisible (cond test ([] ∷ slice_split (is_separator Blank) bytes) (onto_first byte (slice_split (is_separator Blank) bytes)))
    chosen true is first rest = (refl, rest)
    chosen false is first rest = onto_visible byte (slice_split (is_separator Blank) bytes) (plain_visible byte first is) rest

-- parts that are filled and short are words
words_of : (base : ℕ × ℕ) (at : ℕ) (texts : List (List ℕ)) → AreVisible texts → list_any is_long (filter is_filled (placed base at texts)) ≡ false
    → AllByRecursion (λ field. IsWord field.text) (filter is_filled (placed base at texts))
words_of base at [] visible short = tt
words_of base at (text ∷ texts) visible short = chosen (nat_lt 0 (length text)) refl short (λ others. words_of base (at + length text + 1) texts visible.1 others)
  where
    next : List Part
    next = filter is_filled (placed base (at + length text + 1) texts)

    part : Part
    part = record { start = at; text = text; base = base }

    chosen : (test : Bool) → nat_lt 0 (length text) ≡ test → list_any is_long (cond test (part ∷ next) next) ≡ false
        → (list_any is_long next ≡ false → AllByRecursion (λ field. IsWord field.text) next) → AllByRecursion (λ field. IsWord field.text) (cond test (part ∷ next) next)
    chosen true is long rest =
        let each = neither (is_long part) (list_any is_long next) long in
        (record { filled = grind (arith, nat_tests, is); short = grind (arith, nat_tests, each.0); visible = visible.0 }, rest each.1)
    chosen false is long rest = rest long

holds : (test : Bool) → not test ≡ false → test ≡ true
holds true is = refl
holds false is = absurd cc

fields_words : (line : Part) → list_all is_plain line.text ≡ true → list_any is_long (fields_of line) ≡ false → AllByRecursion (λ field. IsWord field.text) (fields_of line)
unfolding fields_of parts_of
fields_words line plain short = words_of line.base line.start (slice_split (is_separator Blank) line.text) (split_visible line.text plain) short

-- the tokens of a line are its fields, and each is a word
pub tokens_fields : (line : Part) (tokens : List Part) → tokens_in line ≡ Ok tokens → (tokens ≡ fields_of line) × AllByRecursion (λ field. IsWord field.text) (fields_of line)
unfolding tokens_in
tokens_fields line tokens same = chosen (not (list_all is_plain line.text)) (list_any is_long (fields_of line)) refl refl same
  where
    chosen : (rough long : Bool) → not (list_all is_plain line.text) ≡ rough → list_any is_long (fields_of line) ≡ long
        → (refuse rough bad.Byte >>= (λ _. refuse long bad.Long >>= (λ _. Ok (fields_of line)))) ≡ Ok tokens
        → (tokens ≡ fields_of line) × AllByRecursion (λ field. IsWord field.text) (fields_of line)
    chosen true long is other step = absurd cc
    chosen false true is other step = absurd cc
    chosen false false is other step = (cc, fields_words line (holds (list_all is_plain line.text) is) other)

-- how tokens are read: a byte that may not stand there, a long field, or all fields
pub tokens_byte : (line : Part) → list_all is_plain line.text ≡ false → tokens_in line ≡ Err bad.Byte
unfolding tokens_in
tokens_byte line rough = rw rough refl

long_filled : (field : Part) (rest : List Part) → is_long field ≡ true → list_any is_long (cond (is_filled field) (field ∷ rest) rest) ≡ true
long_filled field rest long = let filled : is_filled field ≡ true = grind (arith, nat_tests, long) in rw (filled, long) refl

pub tokens_long : (line field : Part) (tokens rest : List Part) → tokens ++ cond (is_filled field) (field ∷ rest) rest ≡ fields_of line → list_any is_long tokens ≡ false → is_long field ≡ true
    → tokens_in line ≡ Err (if list_all is_plain line.text then bad.Long else bad.Byte)
unfolding tokens_in
tokens_long line field tokens rest are short long =
    let some : list_any is_long (fields_of line) ≡ true =
    ap (list_any is_long) (sym are) ∙ list_any-append is_long tokens (cond (is_filled field) (field ∷ rest) rest) ∙ ap (λ test. test || list_any is_long (cond (is_filled field) (field ∷ rest) rest)) short ∙ long_filled field rest long in
    chosen (list_all is_plain line.text) (list_any is_long (fields_of line)) some
  where
    chosen : (plain is : Bool) → is ≡ true → (refuse (not plain) bad.Byte >>= (λ _. refuse is bad.Long >>= (λ _. Ok (fields_of line)))) ≡ Err (if plain then bad.Long else bad.Byte)
    chosen true true some = refl
    chosen false true some = refl
    chosen plain false some = absurd cc

pub tokens_whole : (line : Part) (tokens : List Part) → tokens ++ [] ≡ fields_of line → list_all is_plain line.text ≡ true → list_any is_long tokens ≡ false → tokens_in line ≡ Ok tokens
unfolding tokens_in
tokens_whole line tokens are plain short =
    let is : tokens ≡ fields_of line = sym (append-nil tokens) ∙ are in
    rw (← is, plain, short) refl
