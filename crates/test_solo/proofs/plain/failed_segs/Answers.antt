-- The pool is within its limits; the growth that is opened is refused as late, and leaves nothing to anybody.
use Rattle.std.proofs.Common.{◌≡◌, ◌==◌, ◌∙◌, ℕ, zero, suc, ◌<◌, ◌≤◌, ◌+◌, Bool, true, false, cond, List, [], ◌∷◌, ◌++◌, length, Option, Some, None, filter, map, replicate, refl, sym, ap, subst, arith, ⊎_elim}
use Rattle.std.specs.Prelude.{Contains, slice_index_or}
use Rattle.std.specs.Option.{option_map_or}
use Rattle.std.proofs.lemmas.Bool.{and_right, cases_lt}
use Rattle.std.proofs.lemmas.List.{get_or-replicate, get_or_past, length-replicate}
use Rattle.hp_base.specs.declared.pool_line.PoolLine.{PoolLine}
use Rattle.hp_base.specs.declared.row.Row.{Row}
use Rattle.hp_base.specs.declared.row.Run.{Run}
use Rattle.hp_log.specs.Rows.{rows_of}
use Rattle.hp_log.specs.declared.log_record.LogRecord.{LogRecord}
use Rattle.hp_log.specs.declared.log_record.LogRecord.TheVariants.{Add, Drop}
use Rattle.hp_segs.specs.LaterSteps.{armed_ask}
use Rattle.hp_segs.specs.SegsView.{SegsView, granted_by, is_member, is_owned_by}
use Rattle.hp_segs.specs.Standing.{Holding, claimed_by, given_up_by, is_claimed_for, owned_by, runs_granted, standing_of}
use Rattle.hp_segs.specs.Opening.{opening, opening_roster}
use Rattle.hp_segs.specs.Steps.{after_cancel, after_open, after_reserve, segment_of, without_run}
use Rattle.hp_segs.specs.declared.ask.Ask.{Ask}
use Rattle.hp_segs.specs.declared.outcome.AskLog.{AskLog}
use Rattle.hp_segs.specs.declared.outcome.Cause.{Cause}
use Rattle.hp_segs.specs.declared.outcome.Outcome.TheVariants.{Refused}
use Rattle.hp_segs.specs.declared.row_state.RowState.TheVariants.{Opened}
use Rattle.hp_segs.specs.declared.row_state.Segment.{Segment}
use Rattle.hp_segs.proofs.OnePool.{one_pool}
use Rattle.test_solo.specs.Untouched.{IsUnasked, nothing_held}
use Rattle.test_solo.proofs.plain.failed_segs.Goals as goal

pub new-requires-2-clause-pools : goal.new-requires-2-clause-pools
new-requires-2-clause-pools c =
    rw c.as_slice.ensures
    (one_pool _ (record { socket = omega arith; page = refl; pages = omega arith; some = omega arith; slots = omega arith }))

-- of Opened rows none is a heap's, whichever are left
module _ (heap : ℕ) where
  abbrev owned_among : List Segment → List Segment
  owned_among segments = filter (λ segment. is_owned_by heap segment.state) segments

  one_more : (keeps : Bool) (row : Row) (rest : List Segment) → owned_among rest ≡ [] → owned_among (cond keeps (segment_of Opened row ∷ rest) rest) ≡ []
  one_more true row rest none = none
  one_more false row rest none = none

  nobodys : (kept : Segment → Bool) (rows : List Row) → owned_among (filter kept (map (segment_of Opened) rows)) ≡ []
  nobodys kept [] = refl
  nobodys kept (row ∷ rows) = one_more (kept (segment_of Opened row)) row (filter kept (map (segment_of Opened) rows)) (nobodys kept rows)

-- a value of two participants without a record, of which nobody is armed, and nothing was given up
record IsBare (segs : SegsView) : Type 0 where
  log : segs.log ≡ []
  segments : segs.segments ≡ []
  asks : segs.asks ≡ []
  armed : segs.armed ≡ replicate 16 None
  retired : segs.retired ≡ []
  roster : segs.roster ≡ opening_roster 2 0

module _ (ask : Ask) (run : Run) (cause : Cause) (old new : SegsView) (bare : IsBare old) (is : new ≡ after_cancel cause (after_open ask run old)) where
  abbrev failed : SegsView
  failed = after_cancel cause (after_open ask run old)

  abbrev refused : AskLog
  refused = record { from = ask.from; number = ask.number; outcome = Refused cause; at = length (old.log ++ Add run ask.heap ∷ []); ask = Some ask }

  asks_are : failed.asks ≡ refused ∷ []
  asks_are = ap (λ (l : List AskLog). l ++ refused ∷ []) bare.asks

  nobody : (who : ℕ) → armed_ask new who ≡ None
  nobody who =
      let armed : new.armed ≡ replicate 16 None = ap (λ (s : SegsView). s.armed) is ∙ bare.armed in
      ap (λ (l : List (Option Ask)). slice_index_or l who None) armed
      ∙ ⊎_elim (λ (below : who < 16). get_or-replicate 16 who None None below)
      (λ (past : 16 ≤ who). get_or_past (replicate 16 None) who None (omega (arith, past, length-replicate {A = Option Ask} 16 None)))
      (cases_lt who 16)

  unasked : IsUnasked new
  unasked = record { alone = ap (λ (s : SegsView). s.growth) is; unarmed = nobody }

  granted_none : (entry : AskLog) → Contains (refused ∷ []) entry → granted_by entry.outcome ≡ None
  granted_none entry (zero, inside, here) = ap (λ (e : AskLog). granted_by e.outcome) (sym here)
  granted_none entry (suc k, inside, here) = absurd (omega (arith, inside))

  ungranted : (entry : AskLog) → Contains new.asks entry → granted_by entry.outcome ≡ None
  ungranted entry has =
      granted_none entry (subst (λ (l : List AskLog). Contains l entry) (ap (λ (s : SegsView). s.asks) is ∙ asks_are) has)

  owns_none : (heap : ℕ) → owned_by heap failed ≡ []
  owns_none heap =
      ap (λ (l : List Segment). filter (λ segment. is_owned_by heap segment.state) (without_run run (l ++ map (segment_of Opened) (rows_of run (length old.log + 1)))))
      bare.segments
      ∙ nobodys heap _ (rows_of run (length old.log + 1))

  claims_none : (heap : ℕ) → claimed_by heap failed ≡ []
  claims_none heap =
      ap (filter (is_claimed_for heap failed.segments)) asks_are
      ∙ ap (λ (b : Bool). cond b (refused ∷ []) []) (and_right (option_map_or (λ asked. asked.heap == heap) (Some ask) false) false refl)

  holds_nothing : (heap : ℕ) → standing_of heap new ≡ nothing_held
  holds_nothing heap =
      let retired : given_up_by heap failed.retired ≡ [] = ap (given_up_by heap) bare.retired in
      let owned : standing_of heap failed ≡ record (standing_of heap failed) { owned = [] } =
      ap (λ (owned : List Segment). record (standing_of heap failed) { owned = owned }) (owns_none heap) in
      let claimed : ◌≡◌ {A = Holding} (record (standing_of heap failed) { owned = [] }) (record nothing_held { retired = given_up_by heap failed.retired }) =
      ap (λ (claimed : List AskLog). record { owned = []; claimed = claimed; came = runs_granted failed.log claimed; retired = given_up_by heap failed.retired })
      (claims_none heap) in
      ap (standing_of heap) is ∙ (owned ∙ (claimed ∙ ap (λ (retired : List Run). record nothing_held { retired = retired }) retired))

  two_records : length new.log ≡ 2
  two_records =
      ap (λ (s : SegsView). length s.log) is
      ∙ ap (λ (l : List LogRecord). length ((l ++ Add run ask.heap ∷ []) ++ Drop run ∷ [])) bare.log

  second_is_in : is_member new.roster 1 ≡ true
  second_is_in = ap (λ (s : SegsView). is_member s.roster 1) is ∙ ap (λ (l : List Bool). is_member l 1) bare.roster

-- a new value is one, also once there is room for records
bare_reserved : (pools : List PoolLine) (first before : SegsView) → first ≡ opening pools 2 0 → before ≡ after_reserve 3 first → IsBare before
bare_reserved pools first before is reserved = record {
  log = ap (λ (s : SegsView). s.log) reserved ∙ ap (λ (s : SegsView). s.log) is;
  segments = ap (λ (s : SegsView). s.segments) reserved ∙ ap (λ (s : SegsView). s.segments) is;
  asks = ap (λ (s : SegsView). s.asks) reserved ∙ ap (λ (s : SegsView). s.asks) is;
  armed = ap (λ (s : SegsView). s.armed) reserved ∙ ap (λ (s : SegsView). s.armed) is;
  retired = ap (λ (s : SegsView). s.retired) reserved ∙ ap (λ (s : SegsView). s.retired) is;
  roster = ap (λ (s : SegsView). s.roster) reserved ∙ ap (λ (s : SegsView). s.roster) is;
}

pub returns-clause-unasked : goal.returns-clause-unasked
returns-clause-unasked c =
    unasked _ _ _ c.reserve_records.new.self c.cancel.new.self
    (bare_reserved _ _ _ c.in_ok-segs.ensures c.in_ok-reserve_records.ensures.ok) (c.cancel.ensures.step ∙ ap (after_cancel _) c.open_run.ensures.step)

pub returns-clause-ungranted : goal.returns-clause-ungranted
returns-clause-ungranted c =
    ungranted _ _ _ c.reserve_records.new.self c.cancel.new.self
    (bare_reserved _ _ _ c.in_ok-segs.ensures c.in_ok-reserve_records.ensures.ok) (c.cancel.ensures.step ∙ ap (after_cancel _) c.open_run.ensures.step)

pub returns-clause-bare : goal.returns-clause-bare
returns-clause-bare c =
    holds_nothing _ _ _ c.reserve_records.new.self c.cancel.new.self
    (bare_reserved _ _ _ c.in_ok-segs.ensures c.in_ok-reserve_records.ensures.ok) (c.cancel.ensures.step ∙ ap (after_cancel _) c.open_run.ensures.step)

pub returns-clause-two : goal.returns-clause-two
returns-clause-two c =
    two_records _ _ _ c.reserve_records.new.self c.cancel.new.self
    (bare_reserved _ _ _ c.in_ok-segs.ensures c.in_ok-reserve_records.ensures.ok) (c.cancel.ensures.step ∙ ap (after_cancel _) c.open_run.ensures.step)

pub returns-clause-member : goal.returns-clause-member
returns-clause-member c =
    second_is_in _ _ _ c.reserve_records.new.self c.cancel.new.self
    (bare_reserved _ _ _ c.in_ok-segs.ensures c.in_ok-reserve_records.ensures.ok) (c.cancel.ensures.step ∙ ap (after_cancel _) c.open_run.ensures.step)
