-- What clap's walk over words leaves at the command of values: those so far wait under its one argument.
use Rattle.std.proofs.Common.{◌≡◌, ◌∙◌, ap₂, cond, ℕ, suc, ◌≤◌, Bool, true, false, List, [], ◌∷◌, ◌++◌, length, refl, sym, ap, subst, arith, append-nil, append_assoc, Option, Some, None, codes}
use Rattle.std.specs.Prelude.{◌==◌, slice_get, option_map, fold}
use Rattle.std.specs.List.{AllByRecursion}
use Rattle.std.specs.Str.{IsUtf8, bytes_eq, chars}
use Rattle.std.specs.Str.{encode_utf8_all}
use Rattle.std.proofs.lemmas.Str.{encodes-chars, IsUtf8-drop, IsCharBoundary-after_ascii}
use Rattle.clap.specs.Lexer.{long_of, name_and_value, short_of}
use Rattle.clap.specs.Walk.{Held, Text, Waiting, idle, positional, Walk, walked}
use Rattle.clap.specs.Simple.{Shape, built}
use Rattle.clap.specs.Faults.{flags_fault, turn_fault, walk_fault}
use Rattle.clap.specs.Kinds.{Kinds, or_else}
use Rattle.clap.specs.declared.error.kind.ErrorKind.{ErrorKind}
use Rattle.clap.specs.declared.error.kind.ErrorKind.TheVariants as kind
use Rattle.hp_words.specs.Command.{words_app}
use Rattle.hp_words.specs.Forms.{is_dashed, values_of}

-- the command as clap builds it
abbrev pub shape : Shape
shape = (built words_app).top

-- the values so far, as they wait for more
abbrev pub pending : List Text → Option (Text × List Text)
pending [] = None
pending (value ∷ values) = Some (codes "words", value ∷ values)

abbrev pub waiting : List Text → Waiting
waiting [] = idle
waiting (value ∷ values) = positional

abbrev pub holding : List Text → Held
holding values = record { rows = []; pending = pending values; skip = 0 }

-- where the walk stands after these values, and after the `--` or before it
abbrev pub behind : List Text → Bool → Walk
behind values dashes =
    record { held = holding values; waiting = waiting values; position = 1; is_trailing = dashes; stopped = None }

-- ---- words

-- a word that is no `--` and not dashed is no flag
pub no_long : (word : Text) → bytes_eq word (codes "--") ≡ false → is_dashed word ≡ false → long_of word ≡ None
no_long [] other plain = refl
no_long (first ∷ []) other plain = grind arith
no_long (first ∷ second ∷ rest) other plain = grind arith

pub no_short : (word : Text) → is_dashed word ≡ false → short_of word ≡ None
no_short [] plain = refl
no_short (first ∷ []) plain = grind arith
no_short (first ∷ second ∷ rest) plain = grind arith

-- a word that is dashed and no `--` is a long one, or a bundle
pub data IsFlag (word : Text) : Type 0 where
  names : (name : Text × Option Text) → long_of word ≡ Some name → IsFlag word
  bundles : (first : ℕ) (rest : Text) → long_of word ≡ None → short_of word ≡ Some (first ∷ rest) → word ≡ 45 ∷ first ∷ rest → IsFlag word

-- the first character of what stands after the dash
behind_dash : (first : ℕ) (rest : Text) → IsUtf8 (45 ∷ first ∷ rest) → IsUtf8 (first ∷ rest)
behind_dash first rest valid = IsUtf8-drop (45 ∷ first ∷ rest) 1 valid (IsCharBoundary-after_ascii (45 ∷ first ∷ rest) 0 valid (omega arith) (omega arith))

some_first : (first : ℕ) (rest : Text) (spelled : List ℕ) → encode_utf8_all spelled ≡ first ∷ rest → (x : ℕ) × (slice_get spelled 0 ≡ Some x)
some_first first rest [] same = absurd (let long : 0 ≡ suc (length rest) = ap length same in omega arith)
some_first first rest (x ∷ xs) same = (x, refl)

pub first_char : (first : ℕ) (rest : Text) → IsUtf8 (45 ∷ first ∷ rest) → (x : ℕ) × (slice_get (chars (first ∷ rest)) 0 ≡ Some x)
first_char first rest valid = some_first first rest (chars (first ∷ rest)) (encodes-chars (first ∷ rest) (behind_dash first rest valid))

-- ---- steps of the walk

-- after the `--` each word is a value
pub trailing_step : (values : List Text) (word : Text) → walked shape.rules [] (behind values true) word ≡ behind (values ++ word ∷ []) true
unfolding walked
trailing_step [] word = refl
trailing_step (value ∷ values) word = refl

-- before it a word that is no flag is one
pub value_step : (values : List Text) (word : Text) → bytes_eq word (codes "--") ≡ false → long_of word ≡ None → short_of word ≡ None
    → walked shape.rules [] (behind values false) word ≡ behind (values ++ word ∷ []) false
unfolding walked
value_step [] word other long short = rw (other, long, short) refl
value_step (value ∷ values) word other long short = rw (other, long, short) refl

pub dashes_step : (values : List Text) (word : Text) → bytes_eq word (codes "--") ≡ true
    → walked shape.rules [] (behind values false) word ≡ behind values true
unfolding walked
dashes_step [] word is = rw (is) refl
dashes_step (value ∷ values) word is = rw (is) refl

-- ---- faults of a step

pub trailing_passes : (values : List Text) (word : Text) → turn_fault shape [] (behind values true) word ≡ []
trailing_passes [] word = refl
trailing_passes (value ∷ values) word = refl

pub value_passes : (values : List Text) (word : Text) → bytes_eq word (codes "--") ≡ false → long_of word ≡ None → short_of word ≡ None
    → turn_fault shape [] (behind values false) word ≡ []
value_passes [] word other long short = rw (other, long, short) refl
value_passes (value ∷ values) word other long short = rw (other, long, short) refl

pub dashes_pass : (values : List Text) (word : Text) → bytes_eq word (codes "--") ≡ true → turn_fault shape [] (behind values false) word ≡ []
dashes_pass [] word is = rw (is) refl
dashes_pass (value ∷ values) word is = rw (is) refl

-- a flag is refused: the command has none
pub long_refused : (values : List Text) (word : Text) (name : Text × Option Text) → bytes_eq word (codes "--") ≡ false → long_of word ≡ Some name
    → turn_fault shape [] (behind values false) word ≡ kind.UnknownArgument ∷ []
long_refused [] word name other long = rw (other, long) refl
long_refused (value ∷ values) word name other long = rw (other, long) refl

pub bundle_refused : (values : List Text) (word : Text) (first : ℕ) (rest : Text) (x : ℕ) → bytes_eq word (codes "--") ≡ false → long_of word ≡ None
    → short_of word ≡ Some (first ∷ rest) → slice_get (chars (first ∷ rest)) 0 ≡ Some x
    → turn_fault shape [] (behind values false) word ≡ kind.UnknownArgument ∷ []
unfolding flags_fault
bundle_refused [] word first rest x other long short spelled = rw (other, long, short, spelled) refl
bundle_refused (value ∷ values) word first rest x other long short spelled = rw (other, long, short, spelled) refl

-- ---- all words

-- after the `--` all words are values
all_trail : (values words : List Text) → (walk_fault shape [] (behind values true) words ≡ [])
    × (fold (walked shape.rules []) (behind values true) words ≡ behind (values ++ words) true)
unfolding walk_fault
all_trail values [] = (refl, ap (λ values. behind values true) (sym (append-nil values)))
all_trail values (word ∷ words) =
    let next = all_trail (values ++ word ∷ []) words in
    let step = trailing_step values word in (
      ap₂ or_else (trailing_passes values word) (ap (λ place. walk_fault shape [] place words) step) ∙ next.0,
      ap (λ place. fold (walked shape.rules []) place words) step ∙ next.1
          ∙ ap (λ values. behind values true) (append_assoc values (word ∷ []) words),
    )

-- what the walk makes of words after some values: it refuses them where they have no values, and else these wait with the others
pub data Ends (values words : List Text) : Option (List Text) → Type 0 where
  refused : (first : ErrorKind) (more : Kinds) → walk_fault shape [] (behind values false) words ≡ first ∷ more → Ends values words None
  took : (found : List Text) (dashes : Bool) → walk_fault shape [] (behind values false) words ≡ []
      → fold (walked shape.rules []) (behind values false) words ≡ behind (values ++ found) dashes → length found ≤ length words
      → Ends values words (Some found)

dashed_first : (first : ℕ) (rest : Text) → is_dashed (first ∷ rest) ≡ true → first ≡ 45
dashed_first first rest dashed = grind (arith, dashed)

is_flag : (word : Text) → bytes_eq word (codes "--") ≡ false → is_dashed word ≡ true → IsFlag word
is_flag [] other dashed = absurd (grind arith)
is_flag (first ∷ []) other dashed = absurd (grind arith)
is_flag (first ∷ second ∷ rest) other dashed = subst (λ first. IsFlag (first ∷ second ∷ rest)) (sym is) (by_second (second == 45) refl rest same_rest)
  where
    is : first ≡ 45
    is = dashed_first first (second ∷ rest) dashed

    same_rest : bytes_eq (45 ∷ second ∷ rest) (codes "--") ≡ false
    same_rest = subst (λ (first : ℕ). bytes_eq (first ∷ second ∷ rest) (codes "--") ≡ false) is other

    by_second : (b : Bool) → (second == 45) ≡ b → (rest : Text) → bytes_eq (45 ∷ second ∷ rest) (codes "--") ≡ false → IsFlag (45 ∷ second ∷ rest)
    by_second false is rest other = bundles second rest (rw is refl) (rw is refl) refl
    by_second true is [] other = absurd (grind (arith, is, other))
    by_second true is (third ∷ rest) other = names (name_and_value (third ∷ rest)) (rw is refl)

-- one more word that is a value
value_more : (values : List Text) (word : Text) (words : List Text) → turn_fault shape [] (behind values false) word ≡ []
    → walked shape.rules [] (behind values false) word ≡ behind (values ++ word ∷ []) false → (found : Option (List Text))
    → Ends (values ++ word ∷ []) words found → Ends values (word ∷ words) (option_map (λ found. word ∷ found) found)
unfolding walk_fault
value_more values word words passes step None (refused first more is) =
    refused first more (ap₂ or_else passes (ap (λ place. walk_fault shape [] place words) step) ∙ is)
value_more values word words passes step (Some _) (took found dashes is ends few) =
    took (word ∷ found) dashes (ap₂ or_else passes (ap (λ place. walk_fault shape [] place words) step) ∙ is)
    (ap (λ place. fold (walked shape.rules []) place words) step ∙ ends
    ∙ ap (λ values. behind values dashes) (append_assoc values (word ∷ []) found))
    (omega (arith, few))

-- the `--` is dropped
dashes_more : (values : List Text) (word : Text) (words : List Text) → bytes_eq word (codes "--") ≡ true → Ends values (word ∷ words) (Some words)
unfolding walk_fault
dashes_more values word words is =
    let rest = all_trail values words in
    let step = dashes_step values word is in
    took words true (ap₂ or_else (dashes_pass values word is) (ap (λ place. walk_fault shape [] place words) step) ∙ rest.0)
    (ap (λ place. fold (walked shape.rules []) place words) step ∙ rest.1) (omega arith)

-- a flag is refused
flag_more : (values : List Text) (word : Text) (words : List Text) → bytes_eq word (codes "--") ≡ false → IsUtf8 word → IsFlag word
    → Ends values (word ∷ words) None
unfolding walk_fault
flag_more values word words other valid (names name is) =
    refused kind.UnknownArgument [] (ap (λ kinds. or_else kinds (walk_fault shape [] (walked shape.rules [] (behind values false) word) words)) (long_refused values word name other is))
flag_more values word words other valid (bundles first rest none is spelled) =
    let char = first_char first rest (subst IsUtf8 spelled valid) in
    refused kind.UnknownArgument []
    (ap (λ kinds. or_else kinds (walk_fault shape [] (walked shape.rules [] (behind values false) word) words))
    (bundle_refused values word first rest char.0 other none is char.1))

by_word : (values : List Text) (word : Text) (words : List Text) → IsUtf8 word → Ends (values ++ word ∷ []) words (values_of words)
    → (dashes dashed : Bool) → bytes_eq word (codes "--") ≡ dashes → is_dashed word ≡ dashed
    → Ends values (word ∷ words) (cond dashes (Some words) (cond dashed None (option_map (λ found. word ∷ found) (values_of words))))
by_word values word words valid rest true dashed is _ = dashes_more values word words is
by_word values word words valid rest false true other is = flag_more values word words other valid (is_flag word other is)
by_word values word words valid rest false false other plain =
    let long_is = no_long word other plain in
    let short_is = no_short word plain in
    value_more values word words (value_passes values word other long_is short_is) (value_step values word other long_is short_is)
    (values_of words) rest

pub walk_ends : (values words : List Text) → AllByRecursion IsUtf8 words → Ends values words (values_of words)
unfolding walk_fault
walk_ends values [] valid = took [] false refl (ap (λ values. behind values false) (sym (append-nil values))) (omega arith)
walk_ends values (word ∷ words) valid =
    by_word values word words valid.0 (walk_ends (values ++ word ∷ []) words valid.1) (bytes_eq word (codes "--")) (is_dashed word) refl refl
