-- What a participant has seen of the log, as far as its lines show it: the looks at the segment value, and what came of its asks.
use Rattle.std.specs.Prelude.{◌≡◌, ℕ, ◌+◌, ◌-◌, ◌<◌, ◌≤◌, Bool, true, false, not, ◌&&◌, ◌==◌, nat_lt, List, [], ◌∷◌, ◌++◌, find, length, Option, Some, None, IfSome, Contains, slice_get, ⊤, if◌then◌else◌}
use Rattle.std.specs.List.{All}
use Rattle.std.specs.List.Sorted.{IsNonDecreasing, IsStrictlyIncreasing}
use Rattle.std.specs.Option.{option_map_or}
use Rattle.hp_base.specs.declared.caught.Caught.TheVariants as caught
use Rattle.hp_log.specs.Log.{table_at}
use Rattle.hp_log.specs.declared.log_record.LogRecord.{LogRecord}
use Rattle.hp_log.specs.declared.log_record.LogRecord.TheVariants.{Add, Drop}
use Rattle.hp_maps.specs.Catching.{IsElsewhere}
use Rattle.hp_segs.specs.SegsView.{granted_by, is_outcome_for}
use Rattle.hp_segs.specs.SoundAsks.{is_granted}
use Rattle.hp_segs.specs.declared.outcome.AskLog.{AskLog}
use Rattle.hp_segs.specs.declared.outcome.Outcome.{Outcome}
use Rattle.hp_segs.specs.declared.outcome.Outcome.TheVariants.{Granted, Refused, Stale, Freed}
use Rattle.hp_proc.specs.Doing.{Done}
use Rattle.hp_proc.specs.Doing.Done.{Asked, GaveUp, Looked, CaughtUp}
use Rattle.hp_proc.specs.Courses.{numbered_in, refusals_in}
use Rattle.hp_proc.specs.LinesDone.{Course}

-- a record adds a run for the heap
abbrev pub adds_for : ℕ → LogRecord → Bool
adds_for heap (Add run for) = for == heap
adds_for heap (Drop run) = false

-- the record of that generation is an Add for the heap whose growth failed
abbrev pub has_failed : List LogRecord → List AskLog → ℕ → ℕ → Bool
has_failed log asks heap generation = nat_lt 0 generation
    && (option_map_or (adds_for heap) (slice_get log (generation - 1)) false && not (is_granted asks generation))

-- what an ask shows of the log that its outcome found with so many records: how many there were at most when it was made, and how many its
-- participant has seen once it has the outcome. A grant's record came in between; a growth that failed came and went in between.
abbrev pub seen_by : Bool → ℕ → Outcome → List ℕ
seen_by failed at (Granted generation) = (generation - 1) ∷ generation ∷ []
seen_by true at (Refused cause) = (at - 1) ∷ (at + 1) ∷ []
seen_by false at (Refused cause) = at ∷ at ∷ []
seen_by failed at (Stale done) = []
seen_by failed at (Freed generation) = []

-- what an ask for a heap shows of the log, where it has an outcome
abbrev pub seen_by_ask : List LogRecord → List AskLog → ℕ → Option AskLog → List ℕ
seen_by_ask log asks heap None = []
seen_by_ask log asks heap (Some entry) = seen_by (has_failed log asks heap entry.at) entry.at entry.outcome

-- the numbers of records that a participant's trace shows, one after another, where its asks are numbered on from a number
abbrev pub seen_in : List LogRecord → List AskLog → ℕ → ℕ → List Done → List ℕ
seen_in log asks who number [] = []
seen_in log asks who number (Asked asked run ∷ trace) =
    seen_by_ask log asks asked.heap (find (is_outcome_for who number) asks) ++ seen_in log asks who (number + 1) trace
seen_in log asks who number (GaveUp heap run ∷ trace) = seen_in log asks who (number + 1) trace
seen_in log asks who number (Looked records ∷ trace) = records ∷ seen_in log asks who number trace
seen_in log asks who number (_ ∷ trace) = seen_in log asks who number trace

-- the numbers of records that are seen never fall, so that each look holds the records of one's own earlier asks; and they are no more than
-- the records at the end
pub record AreSeen (records : ℕ) (seen : List ℕ) : Type 0 where
  pub rising : IsNonDecreasing seen
  pub most : All (λ n. n ≤ records) seen

-- how often each participant did a thing, after one did it so many times more
abbrev pub counted_on : (ℕ → ℕ) → ℕ → ℕ → ℕ → ℕ
counted_on count who more other = if other == who then count other + more else count other

-- the numbers of records that lines show which are done one after another, each of a participant that made so many asks before
abbrev pub seen_by_lines : List LogRecord → List AskLog → (ℕ → ℕ) → List Course → List ℕ
seen_by_lines log asks asked [] = []
seen_by_lines log asks asked (course ∷ courses) =
    let who = course.line.participant in
    seen_in log asks who (asked who + 1) course.trace
    ++ seen_by_lines log asks (counted_on asked who (length (numbered_in course.trace))) courses

-- where a catching up was refused, the row is one of the table with which it was to catch up
abbrev pub IsRefusedRow : List LogRecord → Done → Type 0
IsRefusedRow log (CaughtUp to (caught.Refused row number)) = Contains (table_at log to) row
IsRefusedRow log (CaughtUp to (caught.Elsewhere row number got)) = Contains (table_at log to) row × IsElsewhere row got
IsRefusedRow log _ = ⊤

-- the refusals of a participant's catchings up: each is of a row of the log and by a mapping call of its own, whose numbers rise from 1
pub record AreRefusals (log : List LogRecord) (trace : List Done) : Type 0 where
  pub rows : All (IsRefusedRow log) trace
  pub some : All (λ number. 0 < number) (refusals_in trace)
  pub rising : IsStrictlyIncreasing (refusals_in trace)

-- where an outcome grants memory to the participant, the table with that number has taken in the record
abbrev pub HasTakenIn : ℕ → ℕ → AskLog → Type 0
HasTakenIn who number entry = entry.from ≡ who → IfSome (granted_by entry.outcome) (λ generation. generation ≤ number)
