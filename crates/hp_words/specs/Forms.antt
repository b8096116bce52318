-- Which lists of words are a form of the program.
use Rattle.std.specs.Prelude.{ℕ, ◌==◌, ◌≤◌, ⊤, Bool, true, false, ◌&&◌, nat_lt, List, [], ◌∷◌, length, Option, Some, None, option_map, option_and_then, if◌then◌else◌, slice_index, codes}
use Rattle.std.specs.Str.{bytes_eq}
use Rattle.hp_words.specs.Numbers.{number_within}
use Rattle.hp_words.specs.declared.form.Form.{Form}
use Rattle.hp_words.specs.declared.form.Form.TheVariants.{Solo, Run, Check, Text, Summary}

-- the word begins with `-` and is longer than one byte
abbrev pub is_dashed : List ℕ → Bool
is_dashed word = slice_index word 0 == 45 && nat_lt 1 (length word)

-- the words without the first `--`, where no word before it is dashed
abbrev pub values_of : List (List ℕ) → Option (List (List ℕ))
values_of [] = Some []
values_of (word ∷ words) =
    if bytes_eq word (codes "--") then Some words
    else (if is_dashed word then None else option_map (λ values. word ∷ values) (values_of words))

-- the form of one word
abbrev pub one_word : List ℕ → Option Form
one_word verb =
    if bytes_eq verb (codes "solo") then Some Solo
    else (if bytes_eq verb (codes "run") then Some Run else (if bytes_eq verb (codes "check") then Some Check else None))

-- a workload of 1 to 20,000 lines from any start of 64 bits, or the summary of its run
abbrev pub generated_from : Bool → ℕ → ℕ → Form
generated_from false start lines = Text start lines
generated_from true start lines = Summary start lines

abbrev pub generated_by : Bool → List ℕ → List ℕ → Option Form
generated_by summary start lines =
    option_and_then (λ from. option_map (λ count. generated_from summary from count) (number_within 1 20000 lines))
    (number_within 0 18446744073709551615 start)

abbrev pub three_words : List ℕ → List ℕ → List ℕ → Option Form
three_words verb start lines = if bytes_eq verb (codes "generate") then generated_by false start lines else None

abbrev pub four_words : List ℕ → List ℕ → List ℕ → List ℕ → Option Form
four_words verb start lines last = if bytes_eq last (codes "summary") then (if bytes_eq verb (codes "generate") then generated_by true start lines else None) else None

-- the form of values: `solo`, `run`, `check`, `generate <start> <lines>`, `generate <start> <lines> summary`
abbrev pub form_of_values : List (List ℕ) → Option Form
form_of_values (verb ∷ []) = one_word verb
form_of_values (verb ∷ start ∷ lines ∷ []) = three_words verb start lines
form_of_values (verb ∷ start ∷ lines ∷ last ∷ []) = four_words verb start lines last
form_of_values _ = None

-- a form that generates asks for 1 to 20,000 lines
abbrev pub IsWithin : Form → Type 0
IsWithin Solo = ⊤
IsWithin Run = ⊤
IsWithin Check = ⊤
IsWithin (Text start lines) = (1 ≤ lines) × (lines ≤ 20000)
IsWithin (Summary start lines) = (1 ≤ lines) × (lines ≤ 20000)

-- the form of words
unfoldable pub form_of : List (List ℕ) → Option Form
form_of words = option_and_then form_of_values (values_of words)
