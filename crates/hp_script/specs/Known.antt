-- What the reader knows of makers.
use Rattle.std.specs.Prelude.{ℕ, List, Option}
use Rattle.hp_script.specs.Makers.{Makers}
use Rattle.hp_script.specs.Noted.{line_among}
use Rattle.hp_script.specs.declared.makers.KnownMakers.{KnownMakers}

-- the line that is known for a name
abbrev pub line_known : List (List ℕ × ℕ) → List ℕ → Option ℕ
line_known lines name = line_among lines name

-- the lines that are known for labels and for names of memzones
abbrev pub known : KnownMakers → Makers
known makers = record { alloc_line = line_known makers.allocs; zone_line = line_known makers.zones }
