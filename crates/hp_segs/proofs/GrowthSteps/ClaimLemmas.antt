-- Grants that are claimed, and that a claim keeps a value sound.
use Rattle.std.proofs.Common.{◌≡◌, ℕ, ◌-◌, ◌<◌, Bool, true, false, List, [], ◌∷◌, length, get_or, Option, Some, None, refl, ap, ◌∙◌, sym, subst, cond, ◌==◌, if◌then◌else◌, map, not}
use Rattle.std.specs.List.{All, find, slice_get}
use Rattle.std.specs.Option.{option_map, option_and_then}
use Rattle.std.proofs.lemmas.Option.{slice_get_within}
use Rattle.std.proofs.lemmas.List.Elements.{All-head, All-tail}
use Rattle.hp_base.specs.declared.row.Run.{Run}
use Rattle.hp_segs.specs.SegsView.{added_run, granted_by, grant_of, grants_or_refuses, run_of, is_opened, is_retiring}
use Rattle.hp_segs.specs.SoundRows.{IsLogged}
use Rattle.hp_segs.specs.SoundAsks.{IsGranted}
use Rattle.hp_log.specs.declared.log_record.LogRecord.{LogRecord}
use Rattle.hp_segs.specs.declared.outcome.AskLog.{AskLog}
use Rattle.hp_segs.specs.declared.outcome.Outcome.{Outcome}
use Rattle.hp_segs.specs.declared.outcome.Outcome.TheVariants.{Granted, Refused, Stale, Freed}
use Rattle.hp_segs.proofs.QueryLemmas.{get_within}
use Rattle.hp_segs.proofs.RowTables.StateLemmas.{chosen_row}
use Rattle.hp_segs.proofs.GrowthSteps.GrowthLemmas.{chosen_same, growth_stays}
use Rattle.hp_base.specs.declared.pool_line.PoolLine.{PoolLine}
use Rattle.hp_segs.specs.declared.row_state.Segment.{Segment}
use Rattle.hp_segs.specs.declared.row_state.RowState.TheVariants.{Opened, Agreed, Owned, Retiring}
use Rattle.hp_segs.specs.declared.row_state.RowState.{RowState}
use Rattle.hp_segs.specs.declared.growth.Growth.{Growth}
use Rattle.hp_segs.specs.Steps.{segment_of, claimed_segment, claimed_state}
use Rattle.hp_log.specs.Rows.{rows_of}

found_by : {X : Type 0} (p : X → Bool) (P : X → Type 0) (x : X) (xs : List X) (b : Bool) (y : X) → All P (x ∷ xs)
    → (find p xs ≡ Some y → P y) → cond b (Some x) (find p xs) ≡ Some y → P y
found_by p P x xs true y all rest found =
    let same : x ≡ y = cc in
    subst P same (All-head P x xs all)
found_by p P x xs false y all rest found = rest found

-- what is found has what holds of all
pub found_has : {X : Type 0} (p : X → Bool) (P : X → Type 0) (xs : List X) (y : X) → All P xs → find p xs ≡ Some y → P y
found_has p P [] y all found = cc
found_has p P (x ∷ xs) y all found =
    found_by p P x xs (p x) y all (found_has p P xs y (All-tail P x xs all)) found

granted_is : (log : List LogRecord) (outcome : Outcome) (generation : ℕ) → IsGranted log outcome → granted_by outcome ≡ Some generation
    → IsGranted log (Granted generation)
granted_is log (Granted stamp) generation granted is =
    let same : stamp ≡ generation = cc in
    subst (λ g. IsGranted log (Granted g)) same granted
granted_is log (Refused cause) generation granted is = cc
granted_is log (Stale done) generation granted is = cc
granted_is log (Freed stamp) generation granted is = cc

grant_found : (log : List LogRecord) (asks : List AskLog) (from number generation : ℕ) (entry : Option AskLog)
    → All (λ entry. IsGranted log entry.outcome) asks → find (grants_or_refuses from number) asks ≡ entry
    → option_and_then granted_by (option_map (λ entry. entry.outcome) entry) ≡ Some generation → IsGranted log (Granted generation)
grant_found log asks from number generation None granted found is = cc
grant_found log asks from number generation (Some entry) granted found is =
    granted_is log entry.outcome generation
    (found_has (grants_or_refuses from number) (λ entry. IsGranted log entry.outcome) asks entry granted found) is

-- the generation of a grant is that of a record that adds a run
pub grant_is : (log : List LogRecord) (asks : List AskLog) (from number generation : ℕ) → All (λ entry. IsGranted log entry.outcome) asks
    → grant_of asks from number ≡ Some generation → IsGranted log (Granted generation)
grant_is log asks from number generation granted is =
    grant_found log asks from number generation (find (grants_or_refuses from number) asks) granted refl is

within_by : (log : List LogRecord) (i : ℕ) (run : Run) (entry : Option LogRecord) → slice_get log i ≡ entry
    → option_and_then added_run entry ≡ Some run → i < length log
within_by log i run None here added = cc
within_by log i run (Some entry) here added = slice_get_within log i entry here

-- the record of a generation with a run is in the log
pub record_within : (log : List LogRecord) (generation : ℕ) (run : Run) → run_of log generation ≡ Some run → generation - 1 < length log
record_within log generation run added = within_by log (generation - 1) run (slice_get log (generation - 1)) refl added

pub record_added : (log : List LogRecord) (generation : ℕ) (d : LogRecord) → generation - 1 < length log
    → added_run (get_or log (generation - 1) d) ≡ run_of log generation
record_added log generation d within =
    ap (option_and_then added_run) (sym (get_within log (generation - 1) d within))

-- the run that is read off a record
pub record_read : (log read : List LogRecord) (generation : ℕ) (d : LogRecord) (result : Option Run)
    → result ≡ added_run (get_or read (generation - 1) d) → read ≡ log → generation - 1 < length log → result ≡ run_of log generation
record_read log read generation d result is same within =
    is ∙ (ap (λ l. added_run (get_or l (generation - 1) d)) same ∙ record_added log generation d within)

pub claimed_opened : (state : RowState) → is_opened (claimed_state state) ≡ is_opened state
claimed_opened Opened = refl
claimed_opened (Agreed heap) = refl
claimed_opened (Owned heap) = refl
claimed_opened Retiring = refl

pub claimed_retired : (state : RowState) → is_retiring (claimed_state state) ≡ is_retiring state
claimed_retired Opened = refl
claimed_retired (Agreed heap) = refl
claimed_retired (Owned heap) = refl
claimed_retired Retiring = refl

pub chosen_test : (test : RowState → Bool) → ((state : RowState) → test (claimed_state state) ≡ test state) → (b : Bool) (segment : Segment)
    → test (if b then segment_of (claimed_state segment.state) segment.row else segment).state ≡ test segment.state
chosen_test test same true segment = same segment.state
chosen_test test same false segment = refl

pub claimed_growth : (pools : List PoolLine) (log : List LogRecord) (generation : ℕ) (growth : Option Growth) (segments : List Segment)
    → IsLogged pools log segments growth → IsLogged pools log (map (claimed_segment generation) segments) growth
claimed_growth pools log generation None segments old = tt
claimed_growth pools log generation (Some growth) segments old =
    growth_stays (claimed_segment generation) segments growth
    (λ segment. chosen_row (segment.row.generation == generation) _ segment refl)
    (λ k d within.
    ap not (chosen_test is_opened claimed_opened ((get_or segments k d).row.generation == generation) (get_or segments k d)))
    (λ k d within.
    chosen_same ((get_or (rows_of growth.run growth.generation) k d).generation == generation) (segment_of Opened (get_or (rows_of growth.run growth.generation) k d)))
    old
