-- Worked values that the tests use.
use Rattle.std.specs.Prelude.{ℕ}
use Rattle.hp_base.specs.declared.span.Span.{Span}
use Rattle.hp_base.specs.declared.tag.Tag.{Tag}
use Rattle.hp_base.specs.declared.span.SpanState.TheVariants.{Free, Busy}

-- a free element of segment list 3, as pages of 2 MiB bring it
abbrev pub free_span : ℕ → ℕ → Span
free_span addr whole = record { addr = addr; whole = whole; list = 3; page = 2097152; state = Free 0 }

-- an element that is busy with a tag, with no pad
abbrev pub busy_span : ℕ → ℕ → Tag → Span
busy_span addr whole tag = record { addr = addr; whole = whole; list = 3; page = 2097152; state = Busy 0 256 tag }
