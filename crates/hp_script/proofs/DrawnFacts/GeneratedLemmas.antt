-- The text that the generator writes is read as what was drawn.
use Rattle.std.proofs.Common.{◌≡◌, ℕ, ◌+◌, ◌*◌, ◌<◌, ◌≤◌, true, false, List, [], ◌∷◌, ◌++◌, length, map, refl, sym, ap, ◌∙◌, inl, inr, append_assoc, length-append, arith}
use Rattle.std.specs.Prelude.{Some, None, Ok, nat_lt, codes}
use Rattle.std.specs.Fmt.{decimal}
use Rattle.std.specs.List.{flat_map, list_all, AllByRecursion}
use Rattle.std.proofs.lemmas.Bool.Decides.{nat_tests}
use Rattle.std.proofs.lemmas.Fmt.{length-decimal-le as digits_below}
use Rattle.std.proofs.lemmas.List.{append-nil}
use Rattle.std.proofs.lemmas.List.Elements.{All-nil}
use Rattle.hp_script.specs.Part.{Part}
use Rattle.hp_script.specs.Numbers.{number, numeral}
use Rattle.hp_script.specs.Text.{parts_of, fields_of, lines_in, lines_of}
use Rattle.hp_script.specs.Words.{is_visible, IsWord, tokens_in}
use Rattle.hp_script.specs.Makers.{Makers, makers_of, first_maker}
use Rattle.hp_script.specs.ShapeWords.Acts.{is_duplicate, is_unknown}
use Rattle.hp_script.specs.Setups.{nothing, set_up, set_participants, add_pool}
use Rattle.hp_script.specs.ShapeWords.Shapes.{setup_line}
use Rattle.hp_script.specs.ShapeWords.ShapesSetup.{participants_line, pool_line}
use Rattle.hp_script.specs.ShapeWords.Verbs.{setup_named}
use Rattle.hp_script.specs.Reading.{said_step, judged, read_line}
use Rattle.hp_script.specs.Workloads.{go_on, read_from, reading_at, reading_of}
use Rattle.hp_script.specs.DrawnWords.Generator.{opening, generated_lines}
use Rattle.hp_script.specs.DrawnWords.GeneratedText.{setup_text, drawn_line_text, drawn_act_text, generated_text}
use Rattle.hp_script.specs.DrawnWords.Generated.{label_text, IsActAsDrawn, AreLinesAsDrawn, generated_pool, generated_reading, IsReadAsDrawn}
use Rattle.hp_script.specs.declared.drawn_line.DrawnAct.{DrawnAct}
use Rattle.hp_script.specs.declared.drawn_line.DrawnAct.TheVariants as drawn
use Rattle.hp_script.specs.declared.drawn_line.DrawnLine.{DrawnLine}
use Rattle.hp_script.specs.declared.line.Line.{Line}
use Rattle.hp_script.specs.declared.reader.Reader.{Reader}
use Rattle.hp_script.proofs.TokenFacts.SpacedLemmas.{WordLine, line_bytes, AreWordLines, word_text, word_parts, lines_words}
use Rattle.hp_script.proofs.DrawnFacts.DrawnLemmas.{FitsAct, FitsLine, words_of, line_text_words, line_are_words, act_at, said_act, reads_drawn, label_drawn, makes_label, line_makes, line_no_zone, other_label, same_label}
use Rattle.hp_script.proofs.DrawnFacts.GeneratorLemmas.{IsActOver, AreNumbered, MakesAt, makes_later, makes_before, AreOver, lines_numbered, lines_fit, lines_over, length-drawn_lines}

-- the first three lines as words
abbrev setup_words : List WordLine
setup_words =
    record { first = codes "participants"; more = codes "4" ∷ [] }
    ∷ record { first = codes "pool"; more = codes "0" ∷ codes "2M" ∷ codes "1024" ∷ [] }
    ∷ record { first = codes "pool"; more = codes "1" ∷ codes "2M" ∷ codes "1024" ∷ [] } ∷ []

-- all lines as words
abbrev all_words : List DrawnLine → List WordLine
all_words lines = setup_words ++ map words_of lines

drawn_text_words : (lines : List DrawnLine) → flat_map drawn_line_text lines ≡ word_text (map words_of lines)
drawn_text_words [] = refl
drawn_text_words (line ∷ lines) = rw (line_text_words line, drawn_text_words lines) refl

text_words : (lines : List DrawnLine) → setup_text ++ flat_map drawn_line_text lines ≡ word_text (all_words lines)
text_words lines = ap (λ rest. setup_text ++ rest) (drawn_text_words lines)

drawn_are_words : (lines : List DrawnLine) → AllByRecursion FitsLine lines → AreWordLines (map words_of lines)
drawn_are_words [] fits = tt
drawn_are_words (line ∷ lines) fits = (line_are_words line fits.0, drawn_are_words lines fits.1)

setup_word : (text : List ℕ) → 1 ≤ length text → length text ≤ 255 → list_all is_visible text ≡ true → IsWord text
setup_word text filled short visible = record { filled = filled; short = short; visible = visible }

all_are_words : (lines : List DrawnLine) → AllByRecursion FitsLine lines → AreWordLines (all_words lines)
all_are_words lines fits =
    let pool = setup_word (codes "pool") (omega arith) (omega arith) refl in
    let size = setup_word (codes "2M") (omega arith) (omega arith) refl in
    let pages = setup_word (codes "1024") (omega arith) (omega arith) refl in (
      (setup_word (codes "participants") (omega arith) (omega arith) refl, (setup_word (codes "4") (omega arith) (omega arith) refl, tt)),
      (
        (pool, (setup_word (codes "0") (omega arith) (omega arith) refl, (size, (pages, tt)))),
        (
          (pool, (setup_word (codes "1") (omega arith) (omega arith) refl, (size, (pages, tt)))),
          drawn_are_words lines fits,
        ),
      ),
    )

-- the lines of the text
abbrev setup_part : ℕ → List ℕ → Part
setup_part at text = record { start = at; text = text; base = (0, 0) }

abbrev participants_part : Part
participants_part = setup_part 0 (codes "participants 4")

abbrev pool_part : ℕ → List ℕ → Part
pool_part at socket = setup_part at (codes "pool " ++ socket ++ codes " 2M 1024")

abbrev behind_setup : List DrawnLine → List Part
behind_setup lines = word_parts (0, 0) 45 (map words_of lines)

abbrev all_parts : List DrawnLine → List Part
all_parts lines = participants_part ∷ pool_part 15 (codes "0") ∷ pool_part 30 (codes "1") ∷ behind_setup lines

text_lines : (lines : List DrawnLine) → AllByRecursion FitsLine lines
    → lines_of (record { ref_ptr = (0, 0); now = setup_text ++ flat_map drawn_line_text lines }) ≡ all_parts lines
unfolding lines_of
text_lines lines fits =
    ap (λ text. lines_in (record { start = 0; text = text; base = (0, 0) })) (text_words lines)
    ∙ lines_words (0, 0) 0 (all_words lines) (all_are_words lines fits)

-- the first three lines are read
module _ (makers : Makers) where
  reads_participants : read_line makers nothing 1 participants_part ≡ Ok (record nothing { participants = Some 4 })
  unfolding read_line judged tokens_in fields_of parts_of said_step set_up set_participants setup_line participants_line setup_named number numeral
  reads_participants = refl

  reads_first_pool : read_line makers (record nothing { participants = Some 4 }) 2 (pool_part 15 (codes "0")) ≡ Ok (record nothing { participants = Some 4; pools = generated_pool 0 ∷ [] })
  unfolding read_line judged tokens_in fields_of parts_of said_step set_up add_pool setup_line pool_line setup_named number numeral
  reads_first_pool = refl

  reads_second_pool : read_line makers (record nothing { participants = Some 4; pools = generated_pool 0 ∷ [] }) 3 (pool_part 30 (codes "1")) ≡ Ok (generated_reading [])
  unfolding read_line judged tokens_in fields_of parts_of said_step set_up add_pool setup_line pool_line setup_named number numeral
  reads_second_pool = refl

  reads_setup : (rest : List Part) → read_from makers nothing 1 (participants_part ∷ pool_part 15 (codes "0") ∷ pool_part 30 (codes "1") ∷ rest) ≡ read_from makers (generated_reading []) 4 rest
  reads_setup rest = rw (reads_participants, reads_first_pool, reads_second_pool) refl

-- who makes a label: the three lines and the empty one at the end make nothing
setup_makes : (verb name : List ℕ) (lines : List Part) → first_maker verb (participants_part ∷ pool_part 15 (codes "0") ∷ pool_part 30 (codes "1") ∷ lines) 1 name ≡ first_maker verb lines 4 name
unfolding fields_of parts_of
setup_makes verb name lines = refl

end_makes : (verb name : List ℕ) (base : ℕ × ℕ) (at number : ℕ) → first_maker verb (record { start = at; text = []; base = base } ∷ []) number name ≡ None
unfolding fields_of parts_of
end_makes verb name base at number = refl

no_zones : (name : List ℕ) (base : ℕ × ℕ) (at number : ℕ) (lines : List DrawnLine) → AllByRecursion FitsLine lines → first_maker (codes "zone") (word_parts base at (map words_of lines)) number name ≡ None
no_zones name base at number [] fits = end_makes (codes "zone") name base at number
no_zones name base at number (line ∷ lines) fits =
    rw (line_no_zone base at line name fits.0) (no_zones name base (at + length (line_bytes (words_of line)) + 1) (number + 1) lines fits.1)

-- another line makes another label
makes_other : (label number : ℕ) (deed : DrawnAct) → label < 100000 → number < label → ((made : ℕ) → label_drawn deed ≡ Some made → made ≡ number) → makes_label (label_text label) deed ≡ false
makes_other label number (drawn.Alloc made size socket) small before numbered =
    let same = numbered made refl in
    other_label made label (omega (arith, same, small, before)) small (omega (arith, same, before))
makes_other label number (drawn.Free other) small before numbered = refl
makes_other label number (drawn.Resize other size) small before numbered = refl

-- the line itself makes it
makes_itself : (number : ℕ) (deed : DrawnAct) → label_drawn deed ≡ Some number → makes_label (label_text number) deed ≡ true
makes_itself number (drawn.Alloc made size socket) is = let same : made ≡ number = cc in rw same (same_label number)
makes_itself number (drawn.Free other) is = absurd cc
makes_itself number (drawn.Resize other size) is = absurd cc

-- the label of an allocation is made by its line and by no line before
first_label : (label : ℕ) (base : ℕ × ℕ) (at number : ℕ) (lines : List DrawnLine) → label < 100000 → AllByRecursion FitsLine lines → AreNumbered number lines → MakesAt label number lines
    → first_maker (codes "alloc") (word_parts base at (map words_of lines)) (number + 3) (label_text label) ≡ Some (label + 3)
first_label label base at number [] small fits numbered makes = absurd makes
first_label label base at number (line ∷ lines) small fits numbered makes =
    elim makes [
      | inl here ↦
          let itself : makes_label (label_text label) line.act ≡ true = rw here.0 (makes_itself number line.act here.1) in
          rw (line_makes base at line (label_text label) fits.0, itself) (ap (λ (n : ℕ). Some (n + 3)) (sym here.0))
      | inr later ↦
          let before = makes_later label (number + 1) lines later in
          let other : makes_label (label_text label) line.act ≡ false = makes_other label number line.act small (omega (arith, before)) numbered.0 in
          let count : number + 3 + 1 ≡ number + 1 + 3 = omega arith in
          rw (line_makes base at line (label_text label) fits.0, other, count)
          (first_label label base (at + length (line_bytes (words_of line)) + 1) (number + 1) lines small fits.1 numbered.1 later)
    ]

-- the lines that are read, where their text stands from a place on
abbrev said_line : ℕ × ℕ → ℕ → ℕ → DrawnLine → Line
said_line base at number line = record { line = number + 3; participant = line.participant; act = act_at base at line }

abbrev said_lines : ℕ × ℕ → ℕ → ℕ → List DrawnLine → List Line
said_lines base at number [] = []
said_lines base at number (line ∷ lines) = said_line base at number line ∷ said_lines base (at + length (line_bytes (words_of line)) + 1) (number + 1) lines

said_as_drawn : (base : ℕ × ℕ) (at : ℕ) (deed : DrawnAct) → IsActAsDrawn deed (said_act base at deed)
said_as_drawn base at (drawn.Alloc label size socket) = (refl, refl, refl)
said_as_drawn base at (drawn.Free label) = refl
said_as_drawn base at (drawn.Resize label size) = (refl, refl)

lines_as_drawn : (base : ℕ × ℕ) (at number : ℕ) (lines : List DrawnLine) → AreLinesAsDrawn (number + 3) lines (said_lines base at number lines)
lines_as_drawn base at number [] = tt
lines_as_drawn base at number (line ∷ lines) =
    let count : number + 3 + 1 ≡ number + 1 + 3 = omega arith in
    let next : ℕ = at + length (line_bytes (words_of line)) + 1 in (
      record { number_is = refl; participant_is = refl; act_is = said_as_drawn base (at + length (decimal line.participant) + 1) line.act },
      rw count (lines_as_drawn base next (number + 1) lines),
    )

length-said_lines : (base : ℕ × ℕ) (at number : ℕ) (lines : List DrawnLine) → length (said_lines base at number lines) ≡ length lines
length-said_lines base at number [] = refl
length-said_lines base at number (line ∷ lines) =
    let rest = length-said_lines base (at + length (line_bytes (words_of line)) + 1) (number + 1) lines in omega (arith, rest)

-- a label is made by the line of its number
abbrev IsMade : Makers → ℕ → Type 0
IsMade makers label = makers.alloc_line (label_text label) ≡ Some (label + 3)

is_once : (makers : Makers) (base : ℕ × ℕ) (at number : ℕ) (deed : DrawnAct) → ((name : List ℕ) → makers.zone_line name ≡ None) → IsActOver (IsMade makers) number deed → (label_drawn deed ≡ Some number → IsMade makers number)
    → is_duplicate makers (number + 3) (said_act base at deed) ≡ false
is_once makers base at number (drawn.Alloc label size socket) no_zone over made =
    let same : label ≡ number = over.0 in
    let here : makers.alloc_line (label_text label) ≡ Some (number + 3) = rw same (made (ap (λ (n : ℕ). Some n) same)) in
    let late : nat_lt (number + 3) (number + 3) ≡ false = grind (arith, nat_tests) in
    rw (no_zone (label_text label), here, late) refl
is_once makers base at number (drawn.Free label) no_zone over made = refl
is_once makers base at number (drawn.Resize label size) no_zone over made = refl

is_known : (makers : Makers) (base : ℕ × ℕ) (at number : ℕ) (deed : DrawnAct) → IsActOver (IsMade makers) number deed → is_unknown makers (said_act base at deed) ≡ false
is_known makers base at number (drawn.Alloc label size socket) over = refl
is_known makers base at number (drawn.Free label) over = rw over refl
is_known makers base at number (drawn.Resize label size) over = rw over.0 refl

module _ (makers : Makers) (no_zone : (name : List ℕ) → makers.zone_line name ≡ None) where
  reads_end : (read : Reader) (number at : ℕ) (base : ℕ × ℕ) → read_from makers read number (record { start = at; text = []; base = base } ∷ []) ≡ Ok read
  unfolding read_line fields_of parts_of
  reads_end read number at base = refl

  reads_lines : (base : ℕ × ℕ) (at number : ℕ) (before : List Line) (lines : List DrawnLine) → AllByRecursion FitsLine lines → AreOver (IsMade makers) number lines → length before + length lines ≤ 20000
      → read_from makers (generated_reading before) (number + 3) (word_parts base at (map words_of lines)) ≡ Ok (generated_reading (before ++ said_lines base at number lines))
  reads_lines base at number before [] fits over few = rw (append-nil before) (reads_end (generated_reading before) (number + 3) at base)
  reads_lines base at number before (line ∷ lines) fits over few =
      ap (λ answer. go_on answer (number + 3) (λ more. read_from makers more (number + 3 + 1) rest))
      (reads_drawn makers (generated_reading before) (number + 3) base at line fits.0 refl (omega (arith, few))
      (is_once makers base (at + length (decimal line.participant) + 1) number line.act no_zone over.0.0 over.0.1) (is_known makers base (at + length (decimal line.participant) + 1) number line.act over.0.0))
      ∙ ap (λ (n : ℕ). read_from makers (generated_reading (before ++ here ∷ [])) n rest) (let count : number + 3 + 1 ≡ number + 1 + 3 = omega arith in count)
      ∙ reads_lines base next (number + 1) (before ++ here ∷ []) lines fits.1 over.1 (omega (arith, few, length-append before (here ∷ [])))
      ∙ ap (λ all. Ok (generated_reading all)) (append_assoc before (here ∷ []) (said_lines base next (number + 1) lines))
    where
      here : Line
      here = said_line base at number line

      next : ℕ
      next = at + length (line_bytes (words_of line)) + 1

      rest : List Part
      rest = word_parts base next (map words_of lines)

-- the whole text is read as what was drawn
pub generated_read : (start lines : ℕ) → lines ≤ 20000 → IsReadAsDrawn start lines (reading_of (generated_text start lines))
unfolding reading_at
generated_read start lines few = record { read = said_lines (0, 0) 45 1 ds; whole = whole; drawn = lines_as_drawn (0, 0) 45 1 ds; count = length-said_lines (0, 0) 45 1 ds ∙ length-drawn_lines (opening start) 1 lines }
  where
    ds : List DrawnLine
    ds = generated_lines start lines

    fits : AllByRecursion FitsLine ds
    fits = lines_fit (opening start) 1 lines (All-nil (λ label. label < 100000)) (omega (arith, few))

    makers : Makers
    makers = makers_of (all_parts ds)

    no_zone : (name : List ℕ) → makers.zone_line name ≡ None
    no_zone name = setup_makes (codes "zone") name (behind_setup ds) ∙ no_zones name (0, 0) 45 4 ds fits

    small : (label : ℕ) → MakesAt label 1 ds → label < 100000
    small label makes = let last = makes_before label 1 ds makes in let count = length-drawn_lines (opening start) 1 lines in omega (arith, last, count, few)

    over : AreOver (IsMade makers) 1 ds
    over = lines_over (IsMade makers) (opening start) 1 lines (All-nil (IsMade makers)) (λ label makes.
        setup_makes (codes "alloc") (label_text label) (behind_setup ds)
        ∙ first_label label (0, 0) 45 1 ds (small label makes) fits (lines_numbered (opening start) 1 lines) makes)

    whole : reading_of (generated_text start lines) ≡ Ok (generated_reading (said_lines (0, 0) 45 1 ds))
    whole =
        ap (λ some. read_from (makers_of some) nothing 1 some) (text_lines ds fits)
        ∙ reads_setup makers (behind_setup ds)
        ∙ reads_lines makers no_zone (0, 0) 45 1 [] ds fits over (let count = length-drawn_lines (opening start) 1 lines in omega (arith, count, few))

-- the text is short: at most 30 bytes a line
act_short : (deed : DrawnAct) → FitsAct deed → length (drawn_act_text deed) ≤ 28
act_short (drawn.Alloc label size socket) fits =
    let first = digits_below 5 label (omega arith) fits.0 (omega (arith, fits.0)) in
    let second = digits_below 5 size (omega arith) fits.1 (omega (arith, fits.1)) in
    let third = digits_below 1 socket (omega arith) (omega (arith, fits.2)) (omega (arith, fits.2)) in
    simp length-append (omega (arith, first, second, third))
act_short (drawn.Free label) fits =
    let first = digits_below 5 label (omega arith) fits (omega (arith, fits)) in
    simp length-append (omega (arith, first))
act_short (drawn.Resize label size) fits =
    let first = digits_below 5 label (omega arith) fits.0 (omega (arith, fits.0)) in
    let second = digits_below 5 size (omega arith) fits.1 (omega (arith, fits.1)) in
    simp length-append (omega (arith, first, second))

line_short : (line : DrawnLine) → FitsLine line → length (drawn_line_text line) ≤ 30
line_short line fits =
    let party = fits.party in
    let first = digits_below 1 line.participant (omega arith) (omega (arith, party)) (omega (arith, party)) in
    let rest = act_short line.act fits.act in
    simp length-append (omega (arith, first, rest))

lines_short : (lines : List DrawnLine) → AllByRecursion FitsLine lines → length (flat_map drawn_line_text lines) ≤ 30 * length lines
lines_short [] fits = omega arith
lines_short (line ∷ lines) fits =
    let here = line_short line fits.0 in
    let rest = lines_short lines fits.1 in
    omega (arith, here, rest, length-append (drawn_line_text line) (flat_map drawn_line_text lines))

pub generated_short : (start lines : ℕ) → lines ≤ 20000 → length (generated_text start lines) ≤ 45 + 30 * lines
generated_short start lines few =
    let fits = lines_fit (opening start) 1 lines (All-nil (λ label. label < 100000)) (omega (arith, few)) in
    let short = lines_short (generated_lines start lines) fits in
    let count = length-drawn_lines (opening start) 1 lines in
    omega (arith, short, count, length-append setup_text (flat_map drawn_line_text (generated_lines start lines)))
