-- Steps that change states and no row.
use Rattle.std.proofs.Common.{◌≡◌, ◌==◌, ◌∙◌, ℕ, suc, Bool, true, false, not, ◌++◌, length, List, [], ◌∷◌, map, if◌then◌else◌, refl, ap}
use Rattle.hp_base.specs.declared.row.Row.{Row}
use Rattle.hp_base.specs.declared.row.Run.{Run}
use Rattle.hp_log.specs.Rows.{in_run}
use Rattle.hp_segs.specs.SegsView.{is_opened, rows_in}
use Rattle.hp_segs.specs.Steps.{segment_of, agreed_segment, claimed_segment, retired_segment, without_run}
use Rattle.hp_segs.specs.declared.row_state.RowState.{RowState}
use Rattle.hp_segs.specs.declared.row_state.Segment.{Segment}
use Rattle.hp_segs.specs.Machine.{unopened}
use Rattle.hp_segs.specs.declared.row_state.RowState.TheVariants.{Opened}
use Rattle.std.proofs.lemmas.List.{append-nil}
use Rattle.std.proofs.lemmas.List.Elements.{filter-append}
use Rattle.hp_segs.proofs.RetiredRuns.RemoveLemmas.{rows_without}

-- the rows stay where each row does
pub rows_stay : (f : Segment → Segment) → ((segment : Segment) → (f segment).row ≡ segment.row) → (segments : List Segment)
    → rows_in (map f segments) ≡ rows_in segments
rows_stay f same [] = refl
rows_stay f same (segment ∷ segments) =
    let here = same segment in
    let rest = rows_stay f same segments in
    cc

-- a segment that a test chooses, with another state, keeps its row
pub chosen_row : (b : Bool) (changed segment : Segment) → changed.row ≡ segment.row
    → (if b then changed else segment).row ≡ segment.row
chosen_row true changed segment same = same
chosen_row false changed segment same = refl

pub agreed_rows : (generation heap : ℕ) (segments : List Segment)
    → rows_in (map (agreed_segment generation heap) segments) ≡ rows_in segments
agreed_rows generation heap segments =
    rows_stay
    (agreed_segment generation heap)
    (λ segment. chosen_row (segment.row.generation == generation) _ segment refl)
    segments

pub claimed_rows : (generation : ℕ) (segments : List Segment)
    → rows_in (map (claimed_segment generation) segments) ≡ rows_in segments
claimed_rows generation segments =
    rows_stay
    (claimed_segment generation)
    (λ segment. chosen_row (segment.row.generation == generation) _ segment refl)
    segments

pub retired_rows : (run : Run) (segments : List Segment) → rows_in (map (retired_segment run) segments) ≡ rows_in segments
retired_rows run segments =
    rows_stay (retired_segment run) (λ segment. chosen_row (in_run run segment.row) _ segment refl) segments

pub length_rows_in : (segments : List Segment) → length (rows_in segments) ≡ length segments
length_rows_in [] = refl
length_rows_in (segment ∷ segments) = ap suc (length_rows_in segments)

-- rows with a state are these rows
pub rows_of_state : (state : RowState) (rows : List Row) → rows_in (map (segment_of state) rows) ≡ rows
rows_of_state state [] = refl
rows_of_state state (row ∷ rows) = ap (λ rest. row ∷ rest) (rows_of_state state rows)

pub rows_in_append : (segments more : List Segment) → rows_in (segments ++ more) ≡ rows_in segments ++ rows_in more
rows_in_append [] more = refl
rows_in_append (segment ∷ segments) more = ap (λ rest. segment.row ∷ rest) (rows_in_append segments more)

-- the rows with Opened ones after them
pub opened_rows : (segments : List Segment) (state : RowState) (rows : List Row)
    → rows_in (segments ++ map (segment_of state) rows) ≡ rows_in segments ++ rows
opened_rows segments state rows =
    rows_in_append segments (map (segment_of state) rows) ∙ ap (λ more. rows_in segments ++ more) (rows_of_state state rows)

without_by : (b : Bool) (segment : Segment) (segments : List Segment) (run : Run) → not (in_run run segment.row) ≡ b
    → rows_in (without_run run segments) ≡ rows_without run (rows_in segments)
    → rows_in (without_run run (segment ∷ segments)) ≡ rows_without run (rows_in (segment ∷ segments))
without_by true segment segments run kept rest = rw kept (ap (λ more. segment.row ∷ more) rest)
without_by false segment segments run gone rest = rw gone rest

-- the rows without a run's
pub removed_rows : (run : Run) (segments : List Segment) → rows_in (without_run run segments) ≡ rows_without run (rows_in segments)
removed_rows run [] = refl
removed_rows run (segment ∷ segments) =
    without_by (not (in_run run segment.row)) segment segments run refl (removed_rows run segments)

-- Opened rows alone leave nothing
pub opened_gone : (rows : List Row) → unopened (map (segment_of Opened) rows) ≡ []
opened_gone [] = refl
opened_gone (row ∷ rows) = opened_gone rows

-- Opened rows after others leave the others
pub unopened_before : (segments : List Segment) (rows : List Row) → unopened (segments ++ map (segment_of Opened) rows) ≡ unopened segments
unopened_before segments rows =
    filter-append (λ segment. not (is_opened segment.state)) segments (map (segment_of Opened) rows)
    ∙ (ap (λ more. unopened segments ++ more) (opened_gone rows) ∙ append-nil (unopened segments))
