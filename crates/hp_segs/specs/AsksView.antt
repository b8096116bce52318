-- The logged outcomes beside the closed numbers. No public clause cites this module.
use Rattle.std.specs.Prelude.{◌≡◌, ◌==◌, ℕ, ◌<◌, nat_lt, Bool, false, max, Option, Some, None, List, length, map, slice_index, slice_index_or, slice_set, take, if◌then◌else◌}
use Rattle.std.specs.List.{fold, range_with_len}
use Rattle.hp_segs.specs.SegsView.{closed_number, is_stale}
use Rattle.hp_segs.specs.declared.outcome.AskLog.{AskLog}
use Rattle.hp_segs.specs.declared.outcome.Cause.{Cause}
use Rattle.hp_segs.specs.declared.outcome.Cause.TheVariants.{NoList, TooFew, ListFull, CannotHold, Denied, MapFailed, Late, Withdrawn}
use Rattle.hp_segs.specs.declared.outcome.Outcome.{Outcome}
use Rattle.hp_segs.specs.declared.outcome.Outcome.TheVariants as outcome

-- the outcomes, and how many more fit
pub record AsksView : Type 0 where
  pub entries : List AskLog
  pub room : ℕ

-- the numbers are the closed numbers of the participants 0 to 15
abbrev pub AreClosed : List AskLog → List ℕ → Type 0
AreClosed asks closed = closed ≡ map (closed_number asks) (range_with_len 0 16)

-- the closed numbers after one outcome more
abbrev pub closed_after : List ℕ → AskLog → List ℕ
closed_after closed entry =
    if is_stale entry.outcome then closed else slice_set closed entry.from (max (slice_index closed entry.from) entry.number)

-- the number of an entry is above the closed one that outcomes leave to its participant
abbrev pub is_above : List AskLog → AskLog → Bool
is_above asks entry = nat_lt (closed_number asks entry.from) entry.number

-- beside each outcome stands whether its number was above the closed one
abbrev pub AreAbove : List AskLog → List Bool → Type 0
AreAbove asks above =
    (place : ℕ) (d : AskLog) → place < length asks → slice_index_or above place false ≡ is_above (take place asks) (slice_index_or asks place d)

-- the participant and the mapping call of a cause that is a failed mapping
abbrev pub cause_failure : Cause → Option (ℕ × ℕ)
cause_failure NoList = None
cause_failure (TooFew have need) = None
cause_failure (ListFull longest need) = None
cause_failure (CannotHold addr len) = None
cause_failure (Denied validator limit total) = None
cause_failure (MapFailed participant call addr got) = Some (participant, call)
cause_failure (Late participant from to) = None
cause_failure (Withdrawn from to) = None

-- the participant and the mapping call of an outcome that is a failed mapping
abbrev pub failure_of : Outcome → Option (ℕ × ℕ)
failure_of (outcome.Granted generation) = None
failure_of (outcome.Refused cause) = cause_failure cause
failure_of (outcome.Stale done) = None
failure_of (outcome.Freed generation) = None

-- the later of a mapping call and the last one, where there is one
abbrev pub later_call : Option ℕ → ℕ → ℕ
later_call None call = call
later_call (Some last) call = max last call

-- a participant's last failed mapping call, after one failed mapping more
abbrev pub last_after : ℕ → Option ℕ → Option (ℕ × ℕ) → Option ℕ
last_after participant last None = last
last_after participant last (Some failure) = if failure.0 == participant then Some (later_call last failure.1) else last

-- the greatest failed mapping call of a participant that is logged
abbrev pub last_failed : List AskLog → ℕ → Option ℕ
last_failed asks participant = fold (λ last entry. last_after participant last (failure_of entry.outcome)) None asks

-- the calls are the last failed ones of the participants 0 to 255
abbrev pub AreFailed : List AskLog → List (Option ℕ) → Type 0
AreFailed asks failed = failed ≡ map (last_failed asks) (range_with_len 0 256)

-- the last failed calls after one failed mapping more
abbrev pub failed_after : List (Option ℕ) → Option (ℕ × ℕ) → List (Option ℕ)
failed_after failed None = failed
failed_after failed (Some failure) = slice_set failed failure.0 (Some (later_call (slice_index_or failed failure.0 None) failure.1))

-- what is kept beside the outcomes
pub record AreKeptAsks (asks : List AskLog) (above : List Bool) (closed : List ℕ) (failed : List (Option ℕ)) : Type 0 where
  pub now : AreClosed asks closed
  pub long : length above ≡ length asks
  pub each : AreAbove asks above
  pub failures : AreFailed asks failed
