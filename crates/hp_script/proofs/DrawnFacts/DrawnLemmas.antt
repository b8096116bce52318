-- The lines that the generator draws: as words, and what is read of each.
use Rattle.std.proofs.Common.{◌≡◌, ℕ, ◌+◌, ◌^◌, ◌<◌, ◌≤◌, Bool, true, false, List, [], ◌∷◌, ◌++◌, length, refl, ap, ◌∙◌, append_assoc, arith}
use Rattle.std.specs.Prelude.{Option, Some, None, Ok, nat_le, nat_eq, codes}
use Rattle.std.specs.Fmt.{decimal}
use Rattle.std.specs.List.{list_all}
use Rattle.std.specs.Option.{option_map_or}
use Rattle.std.specs.Str.{bytes_eq}
use Rattle.std.proofs.lemmas.Bool.Decides.{nat_tests}
use Rattle.std.proofs.lemmas.Fmt.{decimal_digit, decimal_injective, length-decimal-le}
use Rattle.std.proofs.lemmas.Slice.Eq.{bytes_eq-Decides}
use Rattle.hp_script.specs.Part.{Part}
use Rattle.hp_script.specs.Text.{placed}
use Rattle.hp_script.specs.Words.{is_visible, IsWord}
use Rattle.hp_script.specs.Numbers.{number}
use Rattle.hp_script.specs.ShapeWords.Options.{options_of, with_option, with_socket}
use Rattle.hp_script.specs.ShapeWords.Acts.{is_duplicate, is_unknown, add_act, add_line}
use Rattle.hp_script.specs.Makers.{Makers, made_by, is_maker}
use Rattle.hp_script.specs.ShapeWords.Shapes.{shape_of, participant_line}
use Rattle.hp_script.specs.ShapeWords.ShapesMemory.{alloc_line, resize_line}
use Rattle.hp_script.specs.ShapeWords.ShapesHeaps.{name_line}
use Rattle.hp_script.specs.ShapeWords.Verbs.{verb_named}
use Rattle.hp_script.specs.Reading.{said_step, judged, read_line}
use Rattle.hp_script.specs.DrawnWords.Generated.{label_text, on_socket}
use Rattle.hp_script.specs.DrawnWords.GeneratedText.{drawn_act_text, drawn_line_text}
use Rattle.hp_script.specs.declared.drawn_line.DrawnAct.{DrawnAct}
use Rattle.hp_script.specs.declared.drawn_line.DrawnAct.TheVariants as drawn
use Rattle.hp_script.specs.declared.drawn_line.DrawnLine.{DrawnLine}
use Rattle.hp_script.specs.declared.line.Act.{Act}
use Rattle.hp_script.specs.declared.line.Act.TheVariants as act
use Rattle.hp_script.specs.declared.reader.Reader.{Reader}
use Rattle.hp_script.specs.declared.shape.Shape.TheVariants.{Does}
use Rattle.hp_script.proofs.DecimalLemmas.{never, decimal_word, decimal_first, decimal_not_hash, numeral_decimal, number_decimal}
use Rattle.hp_script.proofs.TokenFacts.SpacedLemmas.{spaced, AreWords, WordLine, line_bytes, fields_spaced, tokens_spaced}
use Rattle.hp_script.proofs.StepLemmas.{with_line}

-- the numbers of an act, and of a line, are within their ranges
abbrev pub FitsAct : DrawnAct → Type 0
FitsAct (drawn.Alloc label size socket) = (label < 100000) × (size < 100000) × (socket < 2)
FitsAct (drawn.Free label) = label < 100000
FitsAct (drawn.Resize label size) = (label < 100000) × (size < 100000)

pub record FitsLine (line : DrawnLine) : Type 0 where
  pub party : line.participant < 4
  pub act : FitsAct line.act

-- the words of a line
abbrev pub socket_text : ℕ → List ℕ
socket_text socket = codes "socket=" ++ decimal socket

abbrev pub act_words : DrawnAct → List (List ℕ)
act_words (drawn.Alloc label size socket) = codes "alloc" ∷ label_text label ∷ decimal size ∷ socket_text socket ∷ []
act_words (drawn.Free label) = codes "free" ∷ label_text label ∷ []
act_words (drawn.Resize label size) = codes "resize" ∷ label_text label ∷ decimal size ∷ []

abbrev pub words_of : DrawnLine → WordLine
words_of line = record { first = decimal line.participant; more = act_words line.act }

-- its text is these words and a newline
act_text_words : (party : List ℕ) (deed : DrawnAct) → party ++ drawn_act_text deed ++ codes "\n" ≡ spaced party (act_words deed) ++ 10 ∷ []
act_text_words party (drawn.Alloc label size socket) =
    let parts : decimal label ++ 32 ∷ [] ++ decimal size ++ codes " socket=" ++ decimal socket ≡ decimal label ++ 32 ∷ (decimal size ++ 32 ∷ socket_text socket) =
    append_assoc (decimal label ++ 32 ∷ [] ++ decimal size) (codes " socket=") (decimal socket)
    ∙ append_assoc (decimal label ++ 32 ∷ []) (decimal size) (codes " socket=" ++ decimal socket)
    ∙ append_assoc (decimal label) (32 ∷ []) (decimal size ++ (codes " socket=" ++ decimal socket)) in
    ap (λ some. party ++ (codes " alloc l" ++ some) ++ 10 ∷ []) parts
act_text_words party (drawn.Free label) = refl
act_text_words party (drawn.Resize label size) =
    let parts : decimal label ++ 32 ∷ [] ++ decimal size ≡ decimal label ++ 32 ∷ decimal size = append_assoc (decimal label) (32 ∷ []) (decimal size) in
    ap (λ some. party ++ (codes " resize l" ++ some) ++ 10 ∷ []) parts

pub line_text_words : (line : DrawnLine) → drawn_line_text line ≡ line_bytes (words_of line) ++ 10 ∷ []
line_text_words line = act_text_words (decimal line.participant) line.act

-- and each of them is a word
label_word : (label : ℕ) → label < 100000 → IsWord (label_text label)
label_word label below =
    let fits : label < 2 ^ 64 = omega (arith, below) in
    record {
      filled = omega arith;
      short = let few = length-decimal-le 20 label (omega arith) (omega (arith, below)) fits in omega (arith, few);
      visible = (decimal_word label fits).visible;
    }

size_word : (size : ℕ) → size < 100000 → IsWord (decimal size)
size_word size below = decimal_word size (omega (arith, below))

socket_word : (socket : ℕ) → socket < 2 → IsWord (socket_text socket)
socket_word socket below =
    let fits : socket < 2 ^ 64 = omega (arith, below) in
    record {
      filled = omega arith;
      short = let few = length-decimal-le 20 socket (omega arith) (omega (arith, below)) fits in omega (arith, few);
      visible = (decimal_word socket fits).visible;
    }

verb_word : (word : List ℕ) → 1 ≤ length word → length word ≤ 255 → list_all is_visible word ≡ true → IsWord word
verb_word word filled short visible = record { filled = filled; short = short; visible = visible }

act_are_words : (deed : DrawnAct) → FitsAct deed → AreWords (act_words deed)
act_are_words (drawn.Alloc label size socket) fits =
    (verb_word (codes "alloc") (omega arith) (omega arith) refl, (label_word label fits.0, (size_word size fits.1, (socket_word socket fits.2, tt))))
act_are_words (drawn.Free label) fits = (verb_word (codes "free") (omega arith) (omega arith) refl, (label_word label fits, tt))
act_are_words (drawn.Resize label size) fits = (verb_word (codes "resize") (omega arith) (omega arith) refl, (label_word label fits.0, (size_word size fits.1, tt)))

pub line_are_words : (line : DrawnLine) → FitsLine line → IsWord (words_of line).first × AreWords (words_of line).more
line_are_words line fits = let party = fits.party in (decimal_word line.participant (omega (arith, party)), act_are_words line.act fits.act)

-- the option of a socket
not_any : (digit : ℕ) → bytes_eq (digit ∷ []) (codes "any") ≡ false
not_any digit = never (nat_eq digit 97)

options_socket : (start : ℕ) (base : ℕ × ℕ) (socket : ℕ) → socket < 2 → options_of (record { start = start; text = socket_text socket; base = base } ∷ []) ≡ Some (on_socket socket)
unfolding options_of with_option with_socket
options_socket start base socket below =
    let other : bytes_eq (decimal socket) (codes "any") ≡ false = rw (decimal_digit socket (omega (arith, below))) (not_any (48 + socket)) in
    let within : nat_le socket 31 ≡ true = grind (arith, nat_tests, below) in
    rw (other, number_decimal socket (omega (arith, below)), within) refl

number_size : (size : ℕ) → size < 100000 → number (decimal size) ≡ Some size
number_size size below = number_decimal size (omega (arith, below))

-- the act that is read, where its words stand from a place on
abbrev pub said_act : ℕ × ℕ → ℕ → DrawnAct → Act
said_act base at (drawn.Alloc label size socket) = act.Alloc (record { start = at + length (codes "alloc") + 1; text = label_text label; base = base }) size (on_socket socket)
said_act base at (drawn.Free label) = act.Free (record { start = at + length (codes "free") + 1; text = label_text label; base = base })
said_act base at (drawn.Resize label size) = act.Resize (record { start = at + length (codes "resize") + 1; text = label_text label; base = base }) size

shape_drawn : (base : ℕ × ℕ) (at party : ℕ) (deed : DrawnAct) → party < 2 ^ 64 → FitsAct deed
    → shape_of (placed base at (decimal party ∷ act_words deed)) ≡ Ok (Does party (said_act base (at + length (decimal party) + 1) deed))
unfolding participant_line verb_named alloc_line name_line resize_line
shape_drawn base at party (drawn.Alloc label size socket) small fits =
    rw (decimal_first party small, numeral_decimal party small, number_size size fits.1, options_socket (at + length (decimal party) + 1 + length (codes "alloc") + 1 + length (label_text label) + 1 + length (decimal size) + 1) base socket fits.2) refl
shape_drawn base at party (drawn.Free label) small fits = rw (decimal_first party small, numeral_decimal party small) refl
shape_drawn base at party (drawn.Resize label size) small fits = rw (decimal_first party small, numeral_decimal party small, number_size size fits.1) refl

-- the act of a line, where the line stands
abbrev pub act_at : ℕ × ℕ → ℕ → DrawnLine → Act
act_at base at line = said_act base (at + length (decimal line.participant) + 1) line.act

-- a line that is neither a duplicate nor unknown is read where there is room, and four participants are declared
pub reads_drawn : (makers : Makers) (read : Reader) (number : ℕ) (base : ℕ × ℕ) (at : ℕ) (line : DrawnLine) → FitsLine line → read.participants ≡ Some 4 → length read.lines < 20000
    → is_duplicate makers number (act_at base at line) ≡ false → is_unknown makers (act_at base at line) ≡ false
    → read_line makers read number (record { start = at; text = line_bytes (words_of line); base = base }) ≡ Ok (with_line read number line.participant (act_at base at line))
unfolding read_line judged said_step add_act add_line
reads_drawn makers read number base at line fits four room once known =
    let party = fits.party in
    let small : line.participant < 2 ^ 64 = omega (arith, party) in
    let words = line_are_words line fits in
    let declared : nat_le 4 line.participant ≡ false = grind (arith, nat_tests, party) in
    let space : nat_le 20000 (length read.lines) ≡ false = grind (arith, nat_tests, room) in
    rw (
      fields_spaced base at (decimal line.participant) (act_words line.act) words.0 words.1,
      decimal_not_hash line.participant small,
      tokens_spaced base at (decimal line.participant) (act_words line.act) words.0 words.1,
      shape_drawn base at line.participant line.act small fits.act,
      once,
      four,
      declared,
      known,
      space,
    ) refl

-- what a line makes with `alloc`: the label of an allocation
abbrev pub label_drawn : DrawnAct → Option ℕ
label_drawn (drawn.Alloc label size socket) = Some label
label_drawn _ = None

abbrev pub makes_label : List ℕ → DrawnAct → Bool
makes_label name deed = option_map_or (λ label. bytes_eq (label_text label) name) (label_drawn deed) false

-- fields make a name with a verb
abbrev makes_with : List ℕ → List ℕ → List Part → Bool
makes_with verb name fields = option_map_or (λ made. bytes_eq made name) (made_by verb fields) false

module _ (base : ℕ × ℕ) (at party : ℕ) (small : party < 2 ^ 64) (name : List ℕ) where
  act_makes : (deed : DrawnAct) → makes_with (codes "alloc") name (placed base at (decimal party ∷ act_words deed)) ≡ makes_label name deed
  act_makes (drawn.Alloc label size socket) = rw (decimal_first party small) refl
  act_makes (drawn.Free label) = rw (decimal_first party small) refl
  act_makes (drawn.Resize label size) = rw (decimal_first party small) refl

  act_no_zone : (deed : DrawnAct) → makes_with (codes "zone") name (placed base at (decimal party ∷ act_words deed)) ≡ false
  act_no_zone (drawn.Alloc label size socket) = rw (decimal_first party small) refl
  act_no_zone (drawn.Free label) = rw (decimal_first party small) refl
  act_no_zone (drawn.Resize label size) = rw (decimal_first party small) refl

maker_with : (base : ℕ × ℕ) (at : ℕ) (line : DrawnLine) (verb name : List ℕ) → FitsLine line
    → is_maker verb name (record { start = at; text = line_bytes (words_of line); base = base }) ≡ makes_with verb name (placed base at (decimal line.participant ∷ act_words line.act))
maker_with base at line verb name fits =
    let words = line_are_words line fits in
    ap (makes_with verb name) (fields_spaced base at (decimal line.participant) (act_words line.act) words.0 words.1)

pub line_makes : (base : ℕ × ℕ) (at : ℕ) (line : DrawnLine) (name : List ℕ) → FitsLine line
    → is_maker (codes "alloc") name (record { start = at; text = line_bytes (words_of line); base = base }) ≡ makes_label name line.act
line_makes base at line name fits =
    let party = fits.party in
    maker_with base at line (codes "alloc") name fits ∙ act_makes base at line.participant (omega (arith, party)) name line.act

pub line_no_zone : (base : ℕ × ℕ) (at : ℕ) (line : DrawnLine) (name : List ℕ) → FitsLine line
    → is_maker (codes "zone") name (record { start = at; text = line_bytes (words_of line); base = base }) ≡ false
line_no_zone base at line name fits =
    let party = fits.party in
    maker_with base at line (codes "zone") name fits ∙ act_no_zone base at line.participant (omega (arith, party)) name line.act

-- two numbers have different labels
behind_first : (first : ℕ) (one other : List ℕ) → first ∷ one ≡ first ∷ other → one ≡ other
behind_first first one other same = cc

pub other_label : (label other : ℕ) → label < 100000 → other < 100000 → label < other → bytes_eq (label_text label) (label_text other) ≡ false
other_label label other fits other_fits before = chosen (bytes_eq (label_text label) (label_text other)) refl
  where
    chosen : (test : Bool) → bytes_eq (label_text label) (label_text other) ≡ test → test ≡ false
    chosen true is =
        let same = decimal_injective label other (omega (arith, fits)) (omega (arith, other_fits)) (behind_first 108 (decimal label) (decimal other) ((bytes_eq-Decides (label_text label) (label_text other)).0 is)) in
        absurd (omega (arith, same, before))
    chosen false is = refl

pub same_label : (label : ℕ) → bytes_eq (label_text label) (label_text label) ≡ true
same_label label = (bytes_eq-Decides (label_text label) (label_text label)).1 refl
