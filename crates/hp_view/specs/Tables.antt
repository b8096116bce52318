-- The participants, and how far each has followed the log.
use Rattle.std.specs.Prelude.{ℕ, List, [], ◌∷◌, ◌++◌, codes, if◌then◌else◌}
use Rattle.std.specs.Fmt.{decimal}
use Rattle.hp_view.specs.declared.line.Line.{Line}
use Rattle.hp_view.specs.declared.line.Line.TheVariants as line
use Rattle.hp_view.specs.declared.shape.Shape.{Shape}
use Rattle.hp_view.specs.declared.shape.Style.TheVariants as style
use Rattle.hp_view.specs.Counts.{is_table}
use Rattle.hp_view.specs.Scales.{plus}
use Rattle.hp_view.specs.Shapes.{label}

abbrev pub attached_words : ℕ → ℕ → ℕ → ℕ → List ℕ
attached_words who taken records rows =
    codes "participant " ++ (decimal who
    ++ (codes " is attached: it has taken in " ++ (decimal taken
    ++ (codes " of " ++ (decimal records
    ++ (codes " records; rows of pages that it has mapped: " ++ decimal rows))))))

abbrev pub detached_words : ℕ → List ℕ
detached_words who = codes "participant " ++ (decimal who ++ codes " is not attached")

-- the row of a participant
abbrev pub table_words : ℕ → Line → List ℕ
table_words records (line.Table who attached taken rows) =
    if attached then attached_words who taken records rows else detached_words who
table_words records _ = []

abbrev pub table_shapes : ℕ → ℕ → Line → List Shape
table_shapes records y of = label 40 y style.Plain (table_words records of) ∷ []

abbrev pub row_shapes : ℕ → ℕ → Line → List Shape
row_shapes records y of = if is_table of then table_shapes records y of else []

abbrev pub below_row : ℕ → Line → ℕ
below_row y of = if is_table of then plus y 18 else y

-- the rows of the participants among lines
unfoldable pub tables : ℕ → ℕ → List Line → List Shape
tables records y [] = []
tables records y (first ∷ others) = row_shapes records y first ++ tables records (below_row y first) others
