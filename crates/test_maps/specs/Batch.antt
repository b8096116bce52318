-- Rows that may be mapped one after the other into a mapper that holds none.
use Rattle.std.specs.Prelude.{ℕ, ◌^◌, Bool, true, ◌&&◌, nat_lt, List, [], ◌∷◌}
use Rattle.hp_base.specs.declared.row.Row.{Row}

-- the row begins after that address, and neither its address nor its page is large
abbrev pub goes_up : ℕ → Row → Bool
goes_up low row = nat_lt low row.addr && (nat_lt row.addr (2 ^ 40) && nat_lt row.page (2 ^ 40))

-- each row begins after the one before it, and the first one after that address
abbrev pub are_rising : ℕ → List Row → Bool
are_rising low [] = true
are_rising low (row ∷ rows) = goes_up low row && are_rising row.addr rows
