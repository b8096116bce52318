-- The open growth stays where states of other rows change.
use Rattle.std.proofs.Common.{◌≡◌, Bool, true, false, not, List, ◌++◌, map, if◌then◌else◌, ap, ◌∙◌, sym, subst, refl}
use Rattle.std.specs.List.{All}
use Rattle.std.proofs.lemmas.List.{map-append}
use Rattle.hp_base.specs.declared.row.Row.{Row}
use Rattle.hp_base.specs.declared.pool_line.PoolLine.{PoolLine}
use Rattle.hp_segs.specs.Machine.{unopened}
use Rattle.hp_segs.specs.Plan.{IsFirstFor}
use Rattle.hp_log.specs.Rows.{rows_of}
use Rattle.hp_segs.specs.SegsView.{rows_in, is_opened}
use Rattle.hp_segs.specs.SoundRows.{IsGrowth}
use Rattle.hp_segs.specs.Steps.{segment_of}
use Rattle.hp_segs.specs.Table.{HasPages}
use Rattle.hp_segs.specs.declared.growth.Growth.{Growth}
use Rattle.hp_log.specs.declared.log_record.LogRecord.{LogRecord}
use Rattle.hp_segs.specs.declared.row_state.RowState.TheVariants.{Opened}
use Rattle.hp_segs.specs.declared.row_state.Segment.{Segment}
use Rattle.hp_segs.proofs.SlotFacts.ListFacts.{filter_mapped, map_after}
use Rattle.hp_segs.proofs.RowTables.StateLemmas.{rows_stay}

-- a test chooses between the same
pub chosen_same : {X : Type 0} (b : Bool) (x : X) → (if b then x else x) ≡ x
chosen_same true x = refl
chosen_same false x = refl

-- a change of states that leaves rows, the test of Opened, and the growth's own rows
pub growth_stays : {pools : List PoolLine} {log : List LogRecord} (f : Segment → Segment) (segments : List Segment) (growth : Growth)
    → ((segment : Segment) → (f segment).row ≡ segment.row)
    → All (λ segment. not (is_opened (f segment).state) ≡ not (is_opened segment.state)) segments
    → All (λ row. f (segment_of Opened row) ≡ segment_of Opened row) (rows_of growth.run growth.generation)
    → IsGrowth pools log segments growth → IsGrowth pools log (map f segments) growth
growth_stays {pools} f segments growth row test own old =
    let rows : List Row = rows_of growth.run growth.generation in
    let others : unopened (map f segments) ≡ map f (unopened segments) = filter_mapped (λ segment. not (is_opened segment.state)) f segments test in
    let same : rows_in (unopened (map f segments)) ≡ rows_in (unopened segments) = ap rows_in others ∙ rows_stay f row (unopened segments) in
    record {
      participant = old.participant;
      some = old.some;
      last = old.last;
      added = old.added;
      behind =
          ap (map f) old.behind
          ∙ (map-append f (unopened segments) (map (segment_of Opened) rows)
          ∙ (ap (λ more. map f (unopened segments) ++ more) (map_after f (segment_of Opened) (segment_of Opened) rows own)
          ∙ ap (λ front. front ++ map (segment_of Opened) rows) (sym others)));
      first = subst (λ rows. IsFirstFor pools rows growth.ask growth.run) (sym same) old.first;
      pages = subst (λ rows. HasPages pools rows growth.run) (sym same) old.pages;
      place = old.place;
    }
