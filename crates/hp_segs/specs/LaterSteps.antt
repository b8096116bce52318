-- What each call of a segment value leaves: stale asks, noted failures, armed asks, and the roster.
use Rattle.std.specs.Prelude.{ℕ, ◌+◌, ◌-◌, ◌*◌, Bool, true, false, not, ◌&&◌, ◌==◌, nat_le, List, Option, Some, None, is_some, slice_index_or, slice_set, if◌then◌else◌}
use Rattle.std.specs.List.{list_any}
use Rattle.std.specs.Option.{option_and_then}
use Rattle.hp_base.specs.declared.row.Row.{Row}
use Rattle.hp_base.specs.declared.row.Run.{Run}
use Rattle.hp_base.specs.declared.map_answer.MapAnswer.{MapAnswer}
use Rattle.hp_base.specs.declared.map_answer.MapAnswer.TheVariants as answer
use Rattle.hp_log.specs.Rows.{in_run}
use Rattle.hp_segs.specs.SegsView.{SegsView, closed_number, grant_or_refusal_of}
use Rattle.hp_segs.specs.Steps.{with_outcome, after_failure}
use Rattle.hp_segs.specs.declared.ask.Ask.{Ask}
use Rattle.hp_segs.specs.declared.outcome.Cause.{Cause}
use Rattle.hp_segs.specs.declared.outcome.Cause.TheVariants.{NoList, TooFew, ListFull, CannotHold, Denied, MapFailed, Late, Withdrawn}
use Rattle.hp_segs.specs.declared.outcome.Outcome.{Outcome}
use Rattle.hp_segs.specs.declared.outcome.Outcome.TheVariants as outcome
use Rattle.hp_segs.specs.declared.outcome.AskLog.{AskLog}
use Rattle.hp_segs.specs.declared.growth.Growth.{Growth}
use Rattle.hp_segs.specs.declared.fault.Closing.{Closing}
use Rattle.hp_segs.specs.declared.fault.Closing.TheVariants as closing

-- `log_stale`: the ask is logged as Stale, beside the closed number
abbrev pub after_stale : ℕ → ℕ → SegsView → SegsView
after_stale from number segs =
    record segs {
      asks = with_outcome segs from number (outcome.Stale (closed_number segs.asks from)) None;
      spare = segs.spare - 1;
    }

-- the cause is a failed mapping of that participant, by this call of its mapper or a later one
abbrev pub fails_from : ℕ → ℕ → Cause → Bool
fails_from participant call NoList = false
fails_from participant call (TooFew have need) = false
fails_from participant call (ListFull longest need) = false
fails_from participant call (CannotHold addr len) = false
fails_from participant call (Denied validator limit total) = false
fails_from participant call (MapFailed who of addr got) = (who == participant) && nat_le call of
fails_from participant call (Late who from to) = false
fails_from participant call (Withdrawn from to) = false

abbrev pub outcome_fails_from : ℕ → ℕ → Outcome → Bool
outcome_fails_from participant call (outcome.Granted generation) = false
outcome_fails_from participant call (outcome.Refused cause) = fails_from participant call cause
outcome_fails_from participant call (outcome.Stale done) = false
outcome_fails_from participant call (outcome.Freed generation) = false

-- a failed mapping of that participant is logged, by this call of its mapper or a later one
abbrev pub has_failed_from : List AskLog → ℕ → ℕ → Bool
has_failed_from asks participant call = list_any (λ entry. outcome_fails_from participant call entry.outcome) asks

-- the row is one of the open growth's
abbrev pub is_growth_row : Growth → Row → Bool
is_growth_row growth row =
    (row.generation == growth.generation) && (in_run growth.run row && ((row.addr == growth.run.addr + (row.slot - growth.run.first) * growth.run.page)
    && ((row.page == growth.run.page) && (row.socket == growth.run.socket))))

-- a failed mapping is taken: the row is the open growth's, none is noted, and none is logged by this call or a later one
abbrev pub is_noted : SegsView → ℕ → ℕ → Row → Option Growth → Bool
is_noted segs participant call row None = false
is_noted segs participant call row (Some growth) =
    is_growth_row growth row && (not (is_some growth.noted) && not (has_failed_from segs.asks participant call))

abbrev pub noting : Cause → Option Growth → Option Growth
noting cause None = None
noting cause (Some growth) = Some (record growth { noted = Some cause })

-- `note_failed`: the failed mapping is noted for the open growth, where it is taken
abbrev pub after_note : ℕ → ℕ → Row → MapAnswer → SegsView → SegsView
after_note participant call row got segs =
    if is_noted segs participant call row segs.growth
    then record segs { growth = noting (MapFailed participant call row.addr got) segs.growth } else segs

-- the answer to a mapping is a failure: it was refused, or came out at another place than the row's
abbrev pub is_failure : Row → MapAnswer → Bool
is_failure row answer.Refused = true
is_failure row (answer.At addr page socket) =
    not ((addr == row.addr) && ((page == row.page) && (socket == row.socket)))

-- the noted failure of the open growth
abbrev pub noted_failure : SegsView → Option Cause
noted_failure segs = option_and_then (λ growth. growth.noted) segs.growth

-- the ask that a participant armed last
abbrev pub armed_ask : SegsView → ℕ → Option Ask
armed_ask segs from = slice_index_or segs.armed from None

-- `arm`: the ask's participant is armed with it and no other
abbrev pub after_arm : Ask → SegsView → SegsView
after_arm ask segs = record segs { armed = slice_set segs.armed ask.from (Some ask) }

-- the growth is of that ask
abbrev pub grows_for : ℕ → ℕ → Growth → Bool
grows_for from number growth = (growth.ask.from == from) && (growth.ask.number == number)

-- the run of a growth, where it is of that ask
abbrev pub own_run : ℕ → ℕ → Growth → Option Run
own_run from number growth = if grows_for from number growth then Some growth.run else None

-- the run of the open growth, where it is of that ask
abbrev pub run_for : ℕ → ℕ → Option Growth → Option Run
run_for from number growth = option_and_then (own_run from number) growth

abbrev pub withdrawn_growth : ℕ → ℕ → Cause → SegsView → Option Growth → SegsView
withdrawn_growth from number cause segs None =
    record segs { asks = with_outcome segs from number (outcome.Refused cause) (armed_ask segs from) }
withdrawn_growth from number cause segs (Some growth) =
    if grows_for from number growth then after_failure growth cause (armed_ask segs from) 0 segs
    else record segs { asks = with_outcome segs from number (outcome.Refused cause) (armed_ask segs from) }

abbrev pub withdrawn_unless : ℕ → ℕ → Cause → SegsView → Option Outcome → SegsView
withdrawn_unless from number cause segs (Some outcome) = segs
withdrawn_unless from number cause segs None = withdrawn_growth from number cause segs segs.growth

-- `withdraw`: where no grant and no refusal stands the ask is refused as withdrawn, and a growth that is open for it is cancelled
abbrev pub after_withdraw : ℕ → ℕ → ℕ → ℕ → SegsView → SegsView
after_withdraw from number since now segs =
    withdrawn_unless from number (Withdrawn since now) segs (grant_or_refusal_of segs.asks from number)

abbrev pub closing_by : Option Outcome → Closing
closing_by None = closing.Withdrawn
closing_by (Some (outcome.Granted generation)) = closing.Granted
closing_by (Some (outcome.Refused cause)) = closing.Refused cause
closing_by (Some (outcome.Stale done)) = closing.Withdrawn
closing_by (Some (outcome.Freed generation)) = closing.Withdrawn

-- what `withdraw` answers
abbrev pub closing_of : SegsView → ℕ → ℕ → Closing
closing_of segs from number = closing_by (grant_or_refusal_of segs.asks from number)

-- `join_roster` and `leave_roster`
abbrev pub after_join : ℕ → SegsView → SegsView
after_join participant segs = record segs { roster = slice_set segs.roster participant true }

abbrev pub after_leave : ℕ → SegsView → SegsView
after_leave participant segs = record segs { roster = slice_set segs.roster participant false }
