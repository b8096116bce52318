-- The rows of a heap stay rows that were added for it.
use Rattle.std.proofs.Common.{◌≡◌, ◌==◌, ◌∙◌, ℕ, ◌-◌, Bool, true, false, if◌then◌else◌, List, ◌++◌, map, get_or, Some, refl, ap}
use Rattle.std.specs.List.{All, slice_get}
use Rattle.std.proofs.lemmas.Bool.{eqb-true}
use Rattle.std.proofs.lemmas.List.Elements.{All-append, All-map, All-weaker}
use Rattle.hp_base.specs.declared.row.Row.{Row}
use Rattle.hp_base.specs.declared.row.Run.{Run}
use Rattle.hp_log.specs.Log.{IsAddFor}
use Rattle.hp_log.specs.Rows.{in_run}
use Rattle.hp_segs.specs.SoundRows.{IsStateOf}
use Rattle.hp_segs.specs.Steps.{segment_of, agreed_segment, claimed_segment, claimed_state, retired_segment}
use Rattle.hp_log.specs.declared.log_record.LogRecord.{LogRecord}
use Rattle.hp_log.specs.declared.log_record.LogRecord.TheVariants.{Add}
use Rattle.hp_segs.specs.declared.row_state.RowState.{RowState}
use Rattle.hp_segs.specs.declared.row_state.RowState.TheVariants.{Opened, Agreed, Owned, Retiring}
use Rattle.hp_segs.specs.declared.row_state.Segment.{Segment}
use Rattle.hp_segs.proofs.SlotFacts.ListFacts.{get_stays}

-- a segment's row, where it is a heap's, was added for that heap
abbrev pub IsOfHeap : List LogRecord → Segment → Type 0
IsOfHeap log segment = IsStateOf log segment.row.generation segment.state

pub add_stays : (log more : List LogRecord) (generation heap : ℕ) → IsAddFor log generation heap → IsAddFor (log ++ more) generation heap
add_stays log more generation heap old = record { run = old.run; added = get_stays log more (generation - 1) _ old.added }

state_stays : (log more : List LogRecord) (generation : ℕ) (state : RowState) → IsStateOf log generation state
    → IsStateOf (log ++ more) generation state
state_stays log more generation Opened old = tt
state_stays log more generation (Agreed heap) old = add_stays log more generation heap old
state_stays log more generation (Owned heap) old = add_stays log more generation heap old
state_stays log more generation Retiring old = tt

-- records come after
pub heaps_stay : (log more : List LogRecord) (segments : List Segment) → All (λ segment. IsOfHeap log segment) segments
    → All (λ segment. IsOfHeap (log ++ more) segment) segments
heaps_stay log more segments old =
    All-weaker (λ segment. IsOfHeap log segment) (λ segment. IsOfHeap (log ++ more) segment)
    (λ segment old. state_stays log more segment.row.generation segment.state old) segments old

-- a record comes with its rows, which are Opened
pub heaps_open : (log more : List LogRecord) (segments : List Segment) (rows : List Row) → All (λ segment. IsOfHeap log segment) segments
    → All (λ segment. IsOfHeap (log ++ more) segment) (segments ++ map (segment_of Opened) rows)
heaps_open log more segments rows old =
    All-append (λ segment. IsOfHeap (log ++ more) segment) segments (map (segment_of Opened) rows) (heaps_stay log more segments old)
    (All-map (λ segment. IsOfHeap (log ++ more) segment) (segment_of Opened) rows (λ k d within. tt))

module _ (log : List LogRecord) where
  agreed_at : (run : Run) (stamp heap : ℕ) (b : Bool) (segment : Segment) → slice_get log (stamp - 1) ≡ Some (Add run heap)
      → (segment.row.generation == stamp) ≡ b → IsOfHeap log segment
      → IsOfHeap log (if b then segment_of (Agreed heap) segment.row else segment)
  agreed_at run stamp heap true segment added is old = record {
    run = run;
    added = ap (λ g. slice_get log (g - 1)) (eqb-true segment.row.generation stamp is) ∙ added;
  }
  agreed_at run stamp heap false segment added is old = old

  -- the rows of a growth become Agreed for the heap of its Add
  pub heaps_agreed : (run : Run) (stamp heap : ℕ) (segments : List Segment) → slice_get log (stamp - 1) ≡ Some (Add run heap)
      → All (λ segment. IsOfHeap log segment) segments → All (λ segment. IsOfHeap log segment) (map (agreed_segment stamp heap) segments)
  heaps_agreed run stamp heap segments added old =
      All-map (λ segment. IsOfHeap log segment) (agreed_segment stamp heap) segments
      (λ k d within.
      agreed_at run stamp heap ((get_or segments k d).row.generation == stamp) (get_or segments k d) added refl (old k d within))

  claimed_of : (generation : ℕ) (state : RowState) → IsStateOf log generation state → IsStateOf log generation (claimed_state state)
  claimed_of generation Opened old = tt
  claimed_of generation (Agreed heap) old = old
  claimed_of generation (Owned heap) old = old
  claimed_of generation Retiring old = tt

  claimed_at : (b : Bool) (segment : Segment) → IsOfHeap log segment
      → IsOfHeap log (if b then segment_of (claimed_state segment.state) segment.row else segment)
  claimed_at true segment old = claimed_of segment.row.generation segment.state old
  claimed_at false segment old = old

  -- Agreed rows become Owned by the same heap
  pub heaps_claimed : (stamp : ℕ) (segments : List Segment) → All (λ segment. IsOfHeap log segment) segments
      → All (λ segment. IsOfHeap log segment) (map (claimed_segment stamp) segments)
  heaps_claimed stamp segments old =
      All-map (λ segment. IsOfHeap log segment) (claimed_segment stamp) segments
      (λ k d within. claimed_at ((get_or segments k d).row.generation == stamp) (get_or segments k d) (old k d within))

  retired_at : (b : Bool) (segment : Segment) → IsOfHeap log segment → IsOfHeap log (if b then segment_of Retiring segment.row else segment)
  retired_at true segment old = tt
  retired_at false segment old = old

  -- the rows of a run become Retiring
  pub heaps_retired : (run : Run) (segments : List Segment) → All (λ segment. IsOfHeap log segment) segments
      → All (λ segment. IsOfHeap log segment) (map (retired_segment run) segments)
  heaps_retired run segments old =
      All-map (λ segment. IsOfHeap log segment) (retired_segment run) segments
      (λ k d within. retired_at (in_run run (get_or segments k d).row) (get_or segments k d) (old k d within))
