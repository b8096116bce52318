-- How many lines of a kind a report has.
use Rattle.std.specs.Prelude.{ℕ, Bool, true, false, List}
use Rattle.std.specs.List.{count_by}
use Rattle.hp_view.specs.declared.counts.Kind.{Kind}
use Rattle.hp_view.specs.declared.counts.Kind.TheVariants as kind
use Rattle.hp_view.specs.declared.line.Line.{Line}
use Rattle.hp_view.specs.declared.line.Line.TheVariants as line
use Rattle.hp_view.specs.declared.outcome.Cause.{Cause}
use Rattle.hp_view.specs.declared.outcome.Cause.TheVariants as cause
use Rattle.hp_view.specs.declared.outcome.Outcome.{Outcome}
use Rattle.hp_view.specs.declared.outcome.Outcome.TheVariants as outcome
use Rattle.hp_view.specs.Logs.{is_record}

-- two causes are one
abbrev pub is_cause : Cause → Cause → Bool
is_cause cause.NoList cause.NoList = true
is_cause cause.TooFew cause.TooFew = true
is_cause cause.ListFull cause.ListFull = true
is_cause cause.CannotHold cause.CannotHold = true
is_cause cause.Denied cause.Denied = true
is_cause cause.MapFailed cause.MapFailed = true
is_cause cause.Late cause.Late = true
is_cause cause.Withdrawn cause.Withdrawn = true
is_cause _ _ = false

abbrev pub is_outcome : Kind → Outcome → Bool
is_outcome kind.Granted (outcome.Granted generation) = true
is_outcome kind.Freed (outcome.Freed generation) = true
is_outcome kind.Stale outcome.Stale = true
is_outcome (kind.Refused due) (outcome.Refused cause) = is_cause due cause
is_outcome _ _ = false

abbrev pub is_heap : Line → Bool
is_heap (line.Heap index name socket total used busy frees) = true
is_heap _ = false

abbrev pub is_table : Line → Bool
is_table (line.Table who attached records rows) = true
is_table _ = false

abbrev pub is_ask : Line → Bool
is_ask (line.Ask how text) = true
is_ask _ = false

abbrev pub ends_so : Kind → Line → Bool
ends_so due (line.Ask how text) = is_outcome due how
ends_so due _ = false

-- a line is of a kind
abbrev pub is_kind : Kind → Line → Bool
is_kind kind.Heap of = is_heap of
is_kind kind.Record of = is_record of
is_kind kind.Ask of = is_ask of
is_kind kind.Table of = is_table of
is_kind due of = ends_so due of

-- how many lines are of a kind
abbrev pub count_of : Kind → List Line → ℕ
count_of due lines = count_by (is_kind due) lines
