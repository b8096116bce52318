-- The tables of participants as the report shows them.
use Rattle.std.specs.Prelude.{ℕ, Bool, nat_lt, List, [], ◌∷◌, ◌++◌, length, codes, if◌then◌else◌}
use Rattle.std.specs.List.{flat_map, fold}
use Rattle.hp_base.specs.declared.row.Row.{Row}
use Rattle.hp_maps.specs.declared.table.Table.{Table}
use Rattle.hp_script.specs.Answers.{address_text, number_text}
use Rattle.hp_report.specs.Numbered.{numbered}

-- a row in front of the first one that begins above it
abbrev pub with_row : Row → List Row → List Row
with_row row [] = row ∷ []
with_row row (first ∷ rows) = if nat_lt row.addr first.addr then row ∷ (first ∷ rows) else first ∷ with_row row rows

-- rows by rising address; those of one address keep their order
abbrev pub by_address : List Row → List Row
by_address rows = fold (λ sorted row. with_row row sorted) [] rows

-- a mapped row: whose it is, its address, its page size and its socket
abbrev pub row_line : ℕ → Row → List ℕ
row_line participant row = codes "map" ++ number_text participant ++ address_text row.addr ++ number_text row.page ++ number_text row.socket ++ codes "\n"

-- a participant's table: whether it is attached, how many records it has taken in, which is 0 where it is out, and how many rows it has
abbrev pub table_line : ℕ → Table → List ℕ
table_line participant table =
    codes "table" ++ number_text participant ++ (if table.joined then codes " in" else codes " out") ++ number_text (if table.joined then table.number else 0)
    ++ number_text (length table.rows.items) ++ codes "\n"

-- a table with its rows by address
abbrev pub table_text : ℕ → Table → List ℕ
table_text participant table = table_line participant table ++ flat_map (row_line participant) (by_address table.rows.items)

-- the tables of the participants from 0 on
abbrev pub tables_text : List Table → List ℕ
tables_text tables = numbered table_text 0 tables
