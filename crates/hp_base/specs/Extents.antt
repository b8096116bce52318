-- Where elements, runs and slots lie, in bytes.
use Rattle.std.specs.Prelude.{ℕ, ◌+◌, ◌*◌}
use Rattle.hp_base.specs.declared.row.Run.{Run}
use Rattle.hp_base.specs.declared.span.Span.{Span}

-- the end of an element: the address behind its last byte
abbrev pub span_end : Span → ℕ
span_end span = span.addr + span.whole

-- the address of a slot, counted from 0, of pages that begin at a base
abbrev pub slot_address : ℕ → ℕ → ℕ → ℕ
slot_address base page slot = base + slot * page

-- the bytes of a run
abbrev pub run_bytes : Run → ℕ
run_bytes run = run.count * run.page

-- the end of a run: the address behind its last byte
abbrev pub run_end : Run → ℕ
run_end run = run.addr + run_bytes run
