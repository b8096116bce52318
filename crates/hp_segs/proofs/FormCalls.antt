-- What each form of a give leaves, call by call.
use Rattle.std.proofs.Common.{◌≡◌, ◌==◌, ◌∙◌, ℕ, ◌+◌, Bool, true, false, not, ◌&&◌, ◌||◌, cond, List, [], ◌∷◌, ◌++◌, map, filter, length, get_or, Option, Some, None, IsTrue, refl, ap, sym, subst, if◌then◌else◌}
use Rattle.std.specs.List.{All}
use Rattle.std.proofs.lemmas.Bool.{and_right, false≢true}
use Rattle.std.proofs.lemmas.List.{append-nil}
use Rattle.std.proofs.lemmas.List.Elements.{All-head, All-tail, filter-append}
use Rattle.hp_base.specs.declared.row.Row.{Row}
use Rattle.hp_log.specs.Rows.{in_run, rows_of}
use Rattle.hp_segs.specs.Forms.{LeavesOwned, LogFormLeaves, OwnerFormLeaves, RangeFormLeaves, RosterFormLeaves, is_owned}
use Rattle.hp_segs.specs.LaterSteps.{armed_ask}
use Rattle.hp_segs.specs.Moved.{SegsCall, Reserve, OpenRun, CloseAsk, LogStale, NoteFailed, Agree, Cancel, Claim, Arm, Withdraw, Retire, DropRetiring, LogFreed, JoinRoster, LeaveRoster, ClaimRange, ReleaseRange, Leads, after, is_log_call, is_owner_call, is_range_call, is_roster_call}
use Rattle.hp_segs.specs.SegsView.{SegsView, grant_of, is_opened, is_retiring}
use Rattle.hp_segs.specs.Sound.{IsSound}
use Rattle.hp_segs.specs.SoundRows.{growth_run, has_stamp, in_runs}
use Rattle.hp_segs.specs.Steps.{after_failure, agreed_segment, claimed_grant, segment_of, without_run}
use Rattle.hp_segs.specs.declared.ask.Ask.{Ask}
use Rattle.hp_segs.specs.declared.growth.Growth.{Growth}
use Rattle.hp_segs.specs.declared.outcome.Cause.{Cause}
use Rattle.hp_segs.specs.declared.outcome.Cause.TheVariants.{Withdrawn}
use Rattle.hp_segs.specs.declared.row_state.RowState.{RowState}
use Rattle.hp_segs.specs.declared.row_state.RowState.TheVariants.{Opened, Agreed, Owned, Retiring}
use Rattle.hp_segs.specs.declared.row_state.Segment.{Segment}
use Rattle.hp_segs.proofs.CallCases.{agree_holds, cancel_holds, note_holds, withdraw_holds}
use Rattle.hp_segs.proofs.SlotFacts.ListFacts.{filter_alike, filter_twice}
use Rattle.hp_segs.proofs.Moves.{calls_keep}

-- the segments that heaps have among these
abbrev owned : List Segment → List Segment
owned segments = filter (λ segment. is_owned segment.state) segments

none_opened : (rows : List Row) → owned (map (segment_of Opened) rows) ≡ []
none_opened [] = refl
none_opened (row ∷ rows) = none_opened rows

-- Opened rows come
owned_opened : (segments : List Segment) (rows : List Row) → owned (segments ++ map (segment_of Opened) rows) ≡ owned segments
owned_opened segments rows =
    filter-append (λ segment. is_owned segment.state) segments (map (segment_of Opened) rows)
    ∙ (ap (λ more. owned segments ++ more) (none_opened rows) ∙ append-nil (owned segments))

dropped_by : (state : RowState) → (not (is_retiring state) && is_owned state) ≡ is_owned state
dropped_by Opened = refl
dropped_by (Agreed heap) = refl
dropped_by (Owned heap) = refl
dropped_by Retiring = refl

-- Retiring rows go
owned_dropped : (segments : List Segment) → owned (filter (λ segment. not (is_retiring segment.state)) segments) ≡ owned segments
owned_dropped segments =
    filter_twice (λ segment. not (is_retiring segment.state)) (λ segment. is_owned segment.state) segments
    ∙ filter_alike (λ segment. not (is_retiring segment.state) && is_owned segment.state) (λ segment. is_owned segment.state) segments
    (λ k d within. dropped_by (get_or segments k d).state)

failed_by : (state : RowState) (inside : Bool) → is_opened state ≡ (inside || false) → (not inside && is_owned state) ≡ is_owned state
failed_by Opened inside is = and_right (not inside) false refl
failed_by (Agreed heap) inside is = and_right (not inside) false refl
failed_by (Owned heap) true is = cc
failed_by (Owned heap) false is = refl
failed_by Retiring inside is = and_right (not inside) false refl

opened_not_owned : (state : RowState) → is_opened state ≡ true → is_owned state ≡ false
opened_not_owned Opened is = refl
opened_not_owned (Agreed heap) is = refl
opened_not_owned (Owned heap) is = cc
opened_not_owned Retiring is = refl

agreed_by : (heap : ℕ) (segment : Segment) (stamped : Bool) (new old : List Segment) → is_opened segment.state ≡ stamped → new ≡ old
    → cond (is_owned (if stamped then segment_of (Agreed heap) segment.row else segment).state)
    ((if stamped then segment_of (Agreed heap) segment.row else segment) ∷ new) new
    ≡ cond (is_owned segment.state) (segment ∷ old) old
agreed_by heap segment true new old opened same =
    same ∙ sym (ap (λ b. cond b (segment ∷ old) old) (opened_not_owned segment.state opened))
agreed_by heap segment false new old opened same = ap (λ rest. cond (is_owned segment.state) (segment ∷ rest) rest) same

-- the rows of the open growth become Agreed
owned_agreed : (generation heap : ℕ) (segments : List Segment)
    → All (λ segment. is_opened segment.state ≡ (segment.row.generation == generation)) segments
    → owned (map (agreed_segment generation heap) segments) ≡ owned segments
owned_agreed generation heap [] stamped = refl
owned_agreed generation heap (segment ∷ segments) stamped =
    agreed_by heap segment (segment.row.generation == generation) (owned (map (agreed_segment generation heap) segments)) (owned segments)
    (All-head (λ segment. is_opened segment.state ≡ (segment.row.generation == generation)) segment segments stamped)
    (owned_agreed generation heap segments
    (All-tail (λ segment. is_opened segment.state ≡ (segment.row.generation == generation)) segment segments stamped))

stays : (segs : SegsView) → LeavesOwned segs segs
stays segs = record { roster = refl; owned = refl; retired = refl; ranges = refl }

next : (first second third : SegsView) → LeavesOwned first second → LeavesOwned second third → LeavesOwned first third
next first second third here there = record {
  roster = there.roster ∙ here.roster;
  owned = there.owned ∙ here.owned;
  retired = there.retired ∙ here.retired;
  ranges = there.ranges ∙ here.ranges;
}

module _ (segs : SegsView) (sound : IsSound segs) where
  granted : (growth : Growth) → segs.growth ≡ Some growth
      → owned (map (agreed_segment growth.generation growth.ask.heap) segs.segments) ≡ owned segs.segments
  granted growth open_now =
      owned_agreed growth.generation growth.ask.heap segs.segments
      (subst (λ g. All (λ segment. is_opened segment.state ≡ has_stamp g segment.row) segs.segments) open_now sound.rows.stamped)

  failed : (growth : Growth) → segs.growth ≡ Some growth → owned (without_run growth.run segs.segments) ≡ owned segs.segments
  failed growth open_now =
      let opened : All (λ segment. is_opened segment.state ≡ in_runs (growth.run ∷ []) segment.row) segs.segments =
      subst (λ g. All (λ segment. is_opened segment.state ≡ in_runs (growth_run g) segment.row) segs.segments) open_now sound.rows.opened in
      filter_twice (λ segment. not (in_run growth.run segment.row)) (λ segment. is_owned segment.state) segs.segments
      ∙ filter_alike (λ segment. not (in_run growth.run segment.row) && is_owned segment.state) (λ segment. is_owned segment.state)
      segs.segments
      (λ k d within. failed_by (get_or segs.segments k d).state (in_run growth.run (get_or segs.segments k d).row) (opened k d within))

  failure : (growth : Growth) (cause : Cause) (ask : Option Ask) (places : ℕ) → segs.growth ≡ Some growth
      → LeavesOwned segs (after_failure growth cause ask places segs)
  failure growth cause ask places open_now = record { roster = refl; owned = failed growth open_now; retired = refl; ranges = refl }

  log_call_leaves : (call : SegsCall) → IsTrue (is_log_call call) → LeavesOwned segs (after call segs)
  log_call_leaves (Reserve n) is = record { roster = refl; owned = refl; retired = refl; ranges = refl }
  log_call_leaves (OpenRun ask run) is = record {
    roster = refl;
    owned = owned_opened segs.segments (rows_of run (length segs.log + 1));
    retired = refl;
    ranges = refl;
  }
  log_call_leaves (CloseAsk ask cause) is = record { roster = refl; owned = refl; retired = refl; ranges = refl }
  log_call_leaves (LogStale from number) is = record { roster = refl; owned = refl; retired = refl; ranges = refl }
  log_call_leaves (NoteFailed participant call row got) is =
      note_holds (LeavesOwned segs) segs (stays segs) participant call row got
      (record { roster = refl; owned = refl; retired = refl; ranges = refl })
  log_call_leaves (Agree acks) is =
      agree_holds (LeavesOwned segs) segs (stays segs) acks
      (λ growth open_now. record { roster = refl; owned = granted growth open_now; retired = refl; ranges = refl })
  log_call_leaves (Cancel cause) is =
      cancel_holds (LeavesOwned segs) segs (stays segs) cause (λ growth open_now. failure growth cause (Some growth.ask) 2 open_now)
  log_call_leaves (Claim from number) is = cc
  log_call_leaves (Arm ask) is = record { roster = refl; owned = refl; retired = refl; ranges = refl }
  log_call_leaves (Withdraw from number since now) is =
      withdraw_holds (LeavesOwned segs) segs (stays segs) from number since now
      (λ none other. record { roster = refl; owned = refl; retired = refl; ranges = refl })
      (λ none growth open_now own. failure growth (Withdrawn since now) (armed_ask segs from) 0 open_now)
  log_call_leaves (Retire heap run) is = cc
  log_call_leaves DropRetiring is = record { roster = refl; owned = owned_dropped segs.segments; retired = refl; ranges = refl }
  log_call_leaves (LogFreed from number) is = record { roster = refl; owned = refl; retired = refl; ranges = refl }
  log_call_leaves (JoinRoster participant acked) is = cc
  log_call_leaves (LeaveRoster participant) is = cc
  log_call_leaves (ClaimRange list addr len page socket) is = cc
  log_call_leaves (ReleaseRange list) is = cc

logged : (calls : List SegsCall) (old new : SegsView) → IsSound old → Leads calls old new → All (λ call. IsTrue (is_log_call call)) calls
    → LeavesOwned old new
logged [] old new sound leads only = subst (LeavesOwned old) (sym leads) (stays old)
logged (call ∷ calls) old new sound leads only =
    next old (after call old) new
    (log_call_leaves old sound call (All-head (λ call. IsTrue (is_log_call call)) call calls only))
    (logged calls (after call old) new (calls_keep call old sound leads.0) leads.1
    (All-tail (λ call. IsTrue (is_log_call call)) call calls only))

pub log_form_leaves : LogFormLeaves
log_form_leaves steps old new sound moved = logged moved.calls old new sound moved.leads moved.only

-- what each allowed call leaves, all of them together leave
module _ (allowed : SegsCall → Bool) (Leaves : SegsView → SegsView → Type 0) (stay : (segs : SegsView) → Leaves segs segs)
    (compose : (first second third : SegsView) → Leaves first second → Leaves second third → Leaves first third)
    (each : (call : SegsCall) (segs : SegsView) → IsTrue (allowed call) → Leaves segs (after call segs)) where
  moved_by : (calls : List SegsCall) (old new : SegsView) → Leads calls old new → All (λ call. IsTrue (allowed call)) calls → Leaves old new
  moved_by [] old new leads only = subst (Leaves old) (sym leads) (stay old)
  moved_by (call ∷ calls) old new leads only =
      compose old (after call old) new (each call old (All-head (λ call. IsTrue (allowed call)) call calls only))
      (moved_by calls (after call old) new leads.1 (All-tail (λ call. IsTrue (allowed call)) call calls only))

abbrev RosterAlone : SegsView → SegsView → Type 0
RosterAlone old new = new ≡ record old { roster = new.roster; spare = new.spare }

abbrev OwnedAlone : SegsView → SegsView → Type 0
OwnedAlone old new = new ≡ record old { segments = new.segments; retiring = new.retiring; retired = new.retired; spare = new.spare }

abbrev RangesAlone : SegsView → SegsView → Type 0
RangesAlone old new = new ≡ record old { ranges = new.ranges; spare = new.spare }

roster_call_leaves : (call : SegsCall) (segs : SegsView) → IsTrue (is_roster_call call) → RosterAlone segs (after call segs)
roster_call_leaves (Reserve n) segs is = refl
roster_call_leaves (JoinRoster participant acked) segs is = refl
roster_call_leaves (LeaveRoster participant) segs is = refl
roster_call_leaves call segs is = absurd (false≢true is)

claimed_leaves : (segs : SegsView) (grant : Option ℕ) → OwnedAlone segs (claimed_grant segs grant)
claimed_leaves segs None = refl
claimed_leaves segs (Some generation) = refl

owner_call_leaves : (call : SegsCall) (segs : SegsView) → IsTrue (is_owner_call call) → OwnedAlone segs (after call segs)
owner_call_leaves (Reserve n) segs is = refl
owner_call_leaves (Claim from number) segs is = claimed_leaves segs (grant_of segs.asks from number)
owner_call_leaves (Retire heap run) segs is = refl
owner_call_leaves call segs is = absurd (false≢true is)

range_call_leaves : (call : SegsCall) (segs : SegsView) → IsTrue (is_range_call call) → RangesAlone segs (after call segs)
range_call_leaves (Reserve n) segs is = refl
range_call_leaves (ClaimRange list addr len page socket) segs is = refl
range_call_leaves (ReleaseRange list) segs is = refl
range_call_leaves call segs is = absurd (false≢true is)

roster_next : (first second third : SegsView) → RosterAlone first second → RosterAlone second third → RosterAlone first third
roster_next first second third here there =
    there ∙ ap (λ (segs : SegsView). record segs { roster = third.roster; spare = third.spare }) here

owned_next : (first second third : SegsView) → OwnedAlone first second → OwnedAlone second third → OwnedAlone first third
owned_next first second third here there =
    there
    ∙ ap (λ (segs : SegsView). record segs {
      segments = third.segments;
      retiring = third.retiring;
      retired = third.retired;
      spare = third.spare;
    }) here

ranges_next : (first second third : SegsView) → RangesAlone first second → RangesAlone second third → RangesAlone first third
ranges_next first second third here there =
    there ∙ ap (λ (segs : SegsView). record segs { ranges = third.ranges; spare = third.spare }) here

roster_stays : (segs : SegsView) → RosterAlone segs segs
roster_stays segs = refl

owned_stays : (segs : SegsView) → OwnedAlone segs segs
owned_stays segs = refl

ranges_stay : (segs : SegsView) → RangesAlone segs segs
ranges_stay segs = refl

pub roster_form_leaves : RosterFormLeaves
roster_form_leaves steps old new moved =
    moved_by is_roster_call RosterAlone roster_stays roster_next roster_call_leaves moved.calls old new moved.leads moved.only

pub owner_form_leaves : OwnerFormLeaves
owner_form_leaves steps old new moved =
    moved_by is_owner_call OwnedAlone owned_stays owned_next owner_call_leaves moved.calls old new moved.leads moved.only

pub range_form_leaves : RangeFormLeaves
range_form_leaves steps old new moved =
    moved_by is_range_call RangesAlone ranges_stay ranges_next range_call_leaves moved.calls old new moved.leads moved.only
