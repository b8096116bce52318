-- How often growths were refused as late, how often asks were taken back or stale, and how many asks and notices have no outcome. The rule
-- "Reasons" of docs/RUNS.md.
use Rattle.std.specs.Prelude.{◌≡◌, ℕ, zero, suc, ◌+◌, ◌*◌, ⊤, Bool, true, false, ◌&&◌, ◌==◌, List, count_by, if◌then◌else◌}
use Rattle.std.specs.List.{list_any}
use Rattle.hp_segs.specs.SegsView.{is_outcome_for, is_stale}
use Rattle.hp_segs.specs.declared.outcome.AskLog.{AskLog}
use Rattle.hp_segs.specs.declared.outcome.Cause.{Cause}
use Rattle.hp_segs.specs.declared.outcome.Cause.TheVariants.{CannotHold, Denied, Late, ListFull, MapFailed, NoList, TooFew, Withdrawn}
use Rattle.hp_segs.specs.declared.outcome.Outcome.{Outcome}
use Rattle.hp_segs.specs.declared.outcome.Outcome.TheVariants.{Freed, Granted, Refused, Stale}

-- a growth was refused as that participant was late, and as its asker took it back
abbrev pub is_late : ℕ → Cause → Bool
is_late who (Late participant from to) = participant == who
is_late who NoList = false
is_late who (TooFew have need) = false
is_late who (ListFull longest need) = false
is_late who (CannotHold addr len) = false
is_late who (Denied validator limit total) = false
is_late who (MapFailed participant call addr got) = false
is_late who (Withdrawn from to) = false

abbrev pub is_withdrawn : Cause → Bool
is_withdrawn (Withdrawn from to) = true
is_withdrawn NoList = false
is_withdrawn (TooFew have need) = false
is_withdrawn (ListFull longest need) = false
is_withdrawn (CannotHold addr len) = false
is_withdrawn (Denied validator limit total) = false
is_withdrawn (MapFailed participant call addr got) = false
is_withdrawn (Late participant from to) = false

abbrev pub refuses : (Cause → Bool) → Outcome → Bool
refuses is (Refused cause) = is cause
refuses is (Granted generation) = false
refuses is (Stale done) = false
refuses is (Freed generation) = false

-- how many outcomes name that participant as late, how many of its asks were taken back, and how many of its asks and notices were stale
abbrev pub late_outcomes : ℕ → List AskLog → ℕ
late_outcomes who asks = count_by (λ entry. refuses (is_late who) entry.outcome) asks

abbrev pub withdrawn_outcomes : ℕ → List AskLog → ℕ
withdrawn_outcomes who asks = count_by (λ entry. (entry.from == who) && refuses is_withdrawn entry.outcome) asks

abbrev pub stale_outcomes : ℕ → List AskLog → ℕ
stale_outcomes who asks = count_by (λ entry. (entry.from == who) && is_stale entry.outcome) asks

-- the two readings of a refusal: exactly one deadline apart where a participant was late, and three where an ask was taken back
abbrev pub IsCauseApart : ℕ → Cause → Type 0
IsCauseApart deadline (Late participant from to) = to ≡ from + deadline
IsCauseApart deadline (Withdrawn from to) = to ≡ from + 3 * deadline
IsCauseApart deadline _ = ⊤

-- in an outcome that is such a refusal the two readings are so far apart
abbrev pub IsApart : ℕ → AskLog → Type 0
IsApart deadline entry = (cause : Cause) → entry.outcome ≡ Refused cause → IsCauseApart deadline cause

-- how many of the first asks and notices of that participant, so many, have no outcome but stale ones
unfoldable pub unanswered_among : List AskLog → ℕ → ℕ → ℕ
unanswered_among asks who zero = 0
unanswered_among asks who (suc n) = unanswered_among asks who n + (if list_any (is_outcome_for who (suc n)) asks then 0 else 1)
