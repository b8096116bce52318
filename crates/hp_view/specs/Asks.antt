-- The asks for pages that were refused, over time.
use Rattle.std.specs.Prelude.{ℕ, ◌+◌, ◌==◌, Bool, false, nat_lt, List, [], ◌∷◌, ◌++◌, codes, slice_index_or, Option, Some, None, if◌then◌else◌}
use Rattle.std.specs.Fmt.{decimal}
use Rattle.hp_view.specs.declared.asks.RefusedMark.{RefusedMark}
use Rattle.hp_view.specs.declared.line.Line.{Line}
use Rattle.hp_view.specs.declared.line.Line.TheVariants as line
use Rattle.hp_view.specs.declared.outcome.Outcome.{Outcome}
use Rattle.hp_view.specs.declared.outcome.Outcome.TheVariants as outcome
use Rattle.hp_view.specs.declared.shape.Area.{Area}
use Rattle.hp_view.specs.declared.shape.Colour.TheVariants as colour
use Rattle.hp_view.specs.declared.shape.Shape.{Shape}
use Rattle.hp_view.specs.declared.shape.Style.TheVariants as style
use Rattle.hp_view.specs.Scales.{place, plus}
use Rattle.hp_view.specs.Shapes.{field, label, rectangle}
use Rattle.hp_view.specs.Tallies.{cause_meaning, cause_word}

abbrev pub after_outcome : ℕ → Outcome → ℕ
after_outcome before (outcome.Granted generation) = generation
after_outcome before (outcome.Freed generation) = generation
after_outcome before _ = before

-- the last record that an ask tells
abbrev pub after_ask : ℕ → Line → ℕ
after_ask before (line.Ask how text) = after_outcome before how
after_ask before _ = before

abbrev pub mark_of_outcome : ℕ → ℕ → ℕ → Outcome → Option RefusedMark
mark_of_outcome records at after (outcome.Refused cause) =
    Some (record { at = at; cause = cause; x = place after records; after = after; count = 1 })
mark_of_outcome records at after _ = None

-- the mark of an ask that was refused: it stands after the last record that an ask before it tells
abbrev pub mark_of_ask : ℕ → ℕ → ℕ → Line → Option RefusedMark
mark_of_ask records at after (line.Ask how text) = mark_of_outcome records at after how
mark_of_ask records at after _ = None

abbrev pub stands_at : ℕ → Option RefusedMark → Bool
stands_at x None = false
stands_at x (Some mark) = mark.x == x

abbrev pub one_more : Option RefusedMark → Option RefusedMark
one_more None = None
one_more (Some mark) = Some (record { at = mark.at; cause = mark.cause; x = mark.x; after = mark.after; count = plus mark.count 1 })

abbrev pub refused_area : ℕ → ℕ → Area
refused_area y x = rectangle x y 3 14

abbrev pub text_of : Line → List ℕ
text_of (line.Ask how text) = text
text_of _ = []

abbrev pub refused_words : RefusedMark → List ℕ
refused_words mark =
    codes ": " ++ (cause_meaning mark.cause
    ++ (codes "; after record " ++ (decimal mark.after
    ++ (codes "; " ++ (decimal mark.count ++ codes " refused here")))))

-- the words of a mark: the line of its first ask, what its cause means, and how many asks the mark stands for
abbrev pub words_of : List Line → RefusedMark → List ℕ
words_of all mark = text_of (slice_index_or all mark.at line.Other) ++ refused_words mark

abbrev pub several_words : RefusedMark → List ℕ
several_words mark = cause_word mark.cause ++ (codes ", " ++ (decimal mark.count ++ codes " in all"))

-- the words beside a mark: the line of the ask, or of several the cause of the first and how many they are
abbrev pub beside_words : List Line → RefusedMark → List ℕ
beside_words all mark = if mark.count == 1 then text_of (slice_index_or all mark.at line.Other) else several_words mark

-- they stand there where there is room up to the next mark
abbrev pub beside_shapes : List Line → ℕ → ℕ → RefusedMark → List Shape
beside_shapes all y next mark =
    if nat_lt next (plus mark.x 220) then [] else label (plus mark.x 8) (plus y 12) style.Plain (beside_words all mark) ∷ []

abbrev pub refused_shapes : List Line → ℕ → ℕ → Option RefusedMark → List Shape
refused_shapes all y next None = []
refused_shapes all y next (Some mark) = field (refused_area y mark.x) colour.Refused (words_of all mark) ∷ beside_shapes all y next mark

-- what is drawn of a mark before the next one: nothing where they fall into one pixel
abbrev pub drawn_before : List Line → ℕ → Option RefusedMark → Option RefusedMark → List Shape
drawn_before all y mark None = []
drawn_before all y mark (Some next) = if stands_at next.x mark then [] else refused_shapes all y next.x mark

abbrev pub mark_after : Option RefusedMark → Option RefusedMark → Option RefusedMark
mark_after mark None = mark
mark_after mark (Some next) = if stands_at next.x mark then one_more mark else Some next

-- that no ask was refused
abbrev pub none_shapes : ℕ → List Shape
none_shapes y = label 40 (plus y 12) style.Pale (codes "none") ∷ []

-- what is drawn of the last mark
abbrev pub last_shapes : List Line → ℕ → Option RefusedMark → List Shape
last_shapes all y None = none_shapes y
last_shapes all y (Some mark) = refused_shapes all y 1180 (Some mark)

-- what is drawn of a mark and of the lines that come after it, from a place among all lines on
unfoldable pub refusals : List Line → ℕ → ℕ → ℕ → ℕ → Option RefusedMark → List Line → List Shape
refusals all records y at after mark [] = last_shapes all y mark
refusals all records y at after mark (first ∷ others) =
    drawn_before all y mark (mark_of_ask records at after first)
    ++ refusals all records y (at + 1) (after_ask after first) (mark_after mark (mark_of_ask records at after first)) others
