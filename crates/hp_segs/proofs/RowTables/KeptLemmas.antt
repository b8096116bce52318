-- Steps that keep a value sound: outcomes and grants.
use Rattle.std.proofs.Common.{◌≡◌, ℕ, ◌-◌, Bool, true, false, if◌then◌else◌, List, [], ◌∷◌, ◌++◌, refl, ◌∙◌, sym, arith}
use Rattle.std.proofs.lemmas.List.Elements.{All-tail}
use Rattle.hp_base.specs.declared.row.Row.{Row}
use Rattle.hp_base.specs.declared.row.Run.{Run}
use Rattle.hp_segs.specs.AsksView.{AsksView}
use Rattle.hp_segs.specs.SegsView.{is_opened, is_retiring}
use Rattle.hp_segs.specs.SoundRows.{AreHeld, has_slot, in_runs}
use Rattle.hp_log.specs.Rows.{IsUsedRun}
use Rattle.hp_segs.specs.Steps.{segment_of}
use Rattle.hp_segs.specs.Table.{IsListRun}
use Rattle.hp_segs.specs.declared.list_info.ListInfo.{ListInfo}
use Rattle.hp_segs.specs.declared.outcome.AskLog.{AskLog}
use Rattle.hp_segs.specs.declared.row_state.RowState.{RowState}
use Rattle.hp_segs.specs.declared.row_state.RowState.TheVariants.{Opened, Agreed, Owned, Retiring}
use Rattle.hp_segs.specs.declared.row_state.Segment.{Segment}
use Rattle.hp_log.proofs.Counts.{count_cons}

-- an outcome after the others
abbrev pub logged_more : AsksView → AskLog → AsksView
logged_more asks entry = record asks { entries = asks.entries ++ entry ∷ []; room = asks.room - 1 }

-- fewer held runs are held
pub held_fewer : {lists : List ListInfo} {rows : List Row} (run : Run) (runs : List Run) → AreHeld lists rows (run ∷ runs) → AreHeld lists rows runs
held_fewer {lists} {rows} run runs held = record {
  listed = All-tail (IsListRun lists) run runs held.listed;
  used = All-tail (IsUsedRun rows) run runs held.used;
  apart = λ list slot. omega (arith, held.apart list slot, count_cons (has_slot list slot) run runs);
}

pub agreed_opened : (b : Bool) (heap : ℕ) (segment : Segment) → is_opened segment.state ≡ b
    → is_opened (if b then segment_of (Agreed heap) segment.row else segment).state ≡ false
agreed_opened true heap segment is = refl
agreed_opened false heap segment is = is

opened_alone : (state : RowState) → is_opened state ≡ true → is_retiring state ≡ false
opened_alone Opened is = refl
opened_alone (Agreed heap) is = refl
opened_alone (Owned heap) is = refl
opened_alone Retiring is = cc

pub agreed_retired : (b : Bool) (heap : ℕ) (segment : Segment) (runs : List Run) → is_opened segment.state ≡ b
    → is_retiring segment.state ≡ in_runs runs segment.row
    → is_retiring (if b then segment_of (Agreed heap) segment.row else segment).state
    ≡ in_runs runs (if b then segment_of (Agreed heap) segment.row else segment).row
agreed_retired true heap segment runs is kept = sym (opened_alone segment.state is) ∙ kept
agreed_retired false heap segment runs is kept = kept
