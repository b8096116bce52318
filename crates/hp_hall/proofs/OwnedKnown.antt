-- The table of a participant has the rows of each heap's segments, where the participant has taken in what was granted.
use Rattle.std.proofs.Common.{◌≡◌, ℕ, ◌≤◌, true, false, List, Some, refl, ap, subst}
use Rattle.std.specs.Prelude.{Contains}
use Rattle.std.proofs.lemmas.Bool.{eqb-true}
use Rattle.std.proofs.lemmas.List.Elements.{All-contains}
use Rattle.hp_base.specs.declared.row.Row.{Row}
use Rattle.hp_heap.proofs.Members.{Contains-image}
use Rattle.hp_log.specs.Log.{table_of}
use Rattle.hp_segs.specs.SegsView.{SegsView, granted_by, is_opened, is_owned_by}
use Rattle.hp_segs.specs.Sound.{IsSound}
use Rattle.hp_segs.specs.SoundAsks.{grants, is_grant_of, is_granted}
use Rattle.hp_segs.specs.Standing.{owned_by}
use Rattle.hp_segs.specs.declared.outcome.AskLog.{AskLog}
use Rattle.hp_segs.specs.declared.outcome.Outcome.{Outcome}
use Rattle.hp_segs.specs.declared.outcome.Outcome.TheVariants.{Granted, Refused, Stale, Freed}
use Rattle.hp_segs.specs.declared.row_state.RowState.{RowState}
use Rattle.hp_segs.specs.declared.row_state.RowState.TheVariants.{Opened, Agreed, Owned, Retiring}
use Rattle.hp_segs.specs.declared.row_state.Segment.{Segment}
use Rattle.hp_segs.proofs.GrowthSteps.GrantedRows.{rows_are_granted}
use Rattle.hp_hall.specs.Own.{Own, rows_known}
use Rattle.hp_hall.proofs.StandingFacts.StandingLists.{contains_passes, contains_unkept, found_in}
use Rattle.hp_hall.proofs.TablesKnown.{row_known}

-- who granted a generation
pub record IsGrantedBy (asks : List AskLog) (generation : ℕ) : Type 0 where
  pub entry : AskLog
  pub there : Contains asks entry
  pub granted : granted_by entry.outcome ≡ Some generation

pub of_outcome : (outcome : Outcome) (generation : ℕ) → is_grant_of generation outcome ≡ true → granted_by outcome ≡ Some generation
of_outcome (Granted stamp) generation is = ap (λ (n : ℕ). Some n) (eqb-true stamp generation is)
of_outcome (Refused cause) generation is = absurd (cc)
of_outcome (Stale done) generation is = absurd (cc)
of_outcome (Freed stamp) generation is = absurd (cc)

pub granted_entry : (asks : List AskLog) (generation : ℕ) → is_granted asks generation ≡ true → IsGrantedBy asks generation
granted_entry asks generation is =
    let found = found_in (grants generation) asks is in
    record { entry = found.element; there = found.among; granted = of_outcome found.element.outcome generation found.passes }

owned_unopened : (heap : ℕ) (state : RowState) → is_owned_by heap state ≡ true → is_opened state ≡ false
owned_unopened heap Opened is = cc
owned_unopened heap (Agreed other) is = cc
owned_unopened heap (Owned other) is = refl
owned_unopened heap Retiring is = cc

-- each grant is one of a record that is not after a number
abbrev pub AreGrantedWithin : ℕ → SegsView → Type 0
AreGrantedWithin number segs = (entry : AskLog) (generation : ℕ) → Contains segs.asks entry → granted_by entry.outcome ≡ Some generation
    → generation ≤ number

pub owned_known : (segs : SegsView) (own : Own) (heap : ℕ) (segment : Segment) → IsSound segs → AreGrantedWithin own.number segs
    → Contains (owned_by heap segs) segment → Contains (rows_known segs.log own) segment.row
owned_known segs own heap segment sound taken owned =
    let among = contains_unkept (λ (segment : Segment). is_owned_by heap segment.state) segs.segments segment owned in
    let used = owned_unopened heap segment.state (contains_passes (λ (segment : Segment). is_owned_by heap segment.state) segs.segments segment owned) in
    let stamp =
    All-contains (λ (segment : Segment). is_opened segment.state ≡ false → is_granted segs.asks segment.row.generation ≡ true) segs.segments segment
    (rows_are_granted segs sound) among used in
    let by = granted_entry segs.asks segment.row.generation stamp in
    let logged : Contains (table_of segs.log) segment.row =
    subst (λ (rows : List Row). Contains rows segment.row) sound.rows.table.table
    (Contains-image (λ (segment : Segment). segment.row) segs.segments segment among) in
    row_known segs.log own segment.row (taken by.entry segment.row.generation by.there by.granted) logged
