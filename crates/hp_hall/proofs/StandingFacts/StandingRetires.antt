-- A run that a heap gives up leaves what the value has for the other heaps, and takes its rows from what it has for that heap.
use Rattle.std.proofs.Common.{◌≡◌, ◌≢◌, ◌==◌, ◌∙◌, ℕ, Bool, true, false, not, ◌&&◌, cond, List, [], ◌∷◌, ◌++◌, map, filter, get_or, refl, ap, sym, eq-eqb, if◌then◌else◌}
use Rattle.std.specs.List.{All}
use Rattle.std.proofs.lemmas.List.{map-append}
use Rattle.std.proofs.lemmas.List.Elements.{filter-append}
use Rattle.std.proofs.lemmas.Bool.{and_right, eqb-true, false_from_ne_true, ne_eqb}
use Rattle.hp_base.specs.declared.row.Run.{Run}
use Rattle.hp_log.specs.Rows.{in_run}
use Rattle.hp_segs.specs.Calls.{OwnsRun}
use Rattle.hp_segs.specs.SegsView.{SegsView, is_agreed, is_owned_by, is_unclaimed}
use Rattle.hp_segs.specs.Sound.{IsSound}
use Rattle.hp_segs.specs.Steps.{after_retire, retired_segment, segment_of}
use Rattle.hp_segs.specs.declared.outcome.AskLog.{AskLog}
use Rattle.hp_segs.specs.declared.row_state.RowState.{RowState}
use Rattle.hp_segs.specs.declared.row_state.RowState.TheVariants.{Opened, Agreed, Owned, Retiring}
use Rattle.hp_segs.specs.declared.row_state.Segment.{Segment}
use Rattle.hp_segs.proofs.RetiredRuns.GivenUp.{owned_all, owned_none_agreed}
use Rattle.hp_segs.proofs.GrowthSteps.GrantLemmas.{any_mapped}
use Rattle.hp_segs.proofs.SlotFacts.ListFacts.{filter_alike, filter_twice}
use Rattle.hp_segs.specs.Standing.{claimed_by, given_up_by, is_claimed_for, owned_by, runs_granted, standing_of}
use Rattle.hp_hall.specs.Standings.{RetireLeavesOthers, RetireTakesRows}
use Rattle.hp_hall.proofs.CountedRows.{any_alike, claimed_alike, filter_behind, filter_changed, named_from, standing_from}

-- a row is of one heap
owned_apart : (heap other : ℕ) (state : RowState) → other ≢ heap → is_owned_by heap state ≡ true → is_owned_by other state ≡ false
owned_apart heap other Opened apart owned = refl
owned_apart heap other (Agreed owner) apart owned = refl
owned_apart heap other (Owned owner) apart owned = ne_eqb owner other (λ same. apart (sym same ∙ eqb-true owner heap owned))
owned_apart heap other Retiring apart owned = refl

-- another heap's rows are not at the run's slots
others_by : (heap other : ℕ) (segment : Segment) (inside : Bool) → other ≢ heap → (inside ≡ true → is_owned_by heap segment.state ≡ true)
    → is_owned_by other (if inside then segment_of Retiring segment.row else segment).state ≡ is_owned_by other segment.state
others_by heap other segment true apart owned = sym (owned_apart heap other segment.state apart (owned refl))
others_by heap other segment false apart owned = refl

others_stay : (heap other : ℕ) (segment : Segment) (inside : Bool) → other ≢ heap → (inside ≡ true → is_owned_by heap segment.state ≡ true)
    → is_owned_by other segment.state ≡ true → (if inside then segment_of Retiring segment.row else segment) ≡ segment
others_stay heap other segment true apart owned own =
    let off : is_owned_by other segment.state ≡ false = owned_apart heap other segment.state apart (owned refl) in
    cc
others_stay heap other segment false apart owned own = refl

-- the heap's own rows are those outside the run
and_on : (b : Bool) → b ≡ (b && true)
and_on true = refl
and_on false = refl

own_by : (heap : ℕ) (segment : Segment) (inside : Bool)
    → is_owned_by heap (if inside then segment_of Retiring segment.row else segment).state ≡ (is_owned_by heap segment.state && not inside)
own_by heap segment true = sym (and_right (is_owned_by heap segment.state) false refl)
own_by heap segment false = and_on (is_owned_by heap segment.state)

own_stays : (heap : ℕ) (segment : Segment) (inside : Bool) → (is_owned_by heap segment.state && not inside) ≡ true
    → (if inside then segment_of Retiring segment.row else segment) ≡ segment
own_stays heap segment true passes =
    let off : (is_owned_by heap segment.state && false) ≡ false = and_right (is_owned_by heap segment.state) false refl in
    cc
own_stays heap segment false passes = refl

-- no row of the run is Agreed
agreed_by : (generation : ℕ) (segment : Segment) (inside : Bool) → (inside ≡ true → is_agreed segment.state ≡ false)
    → (((if inside then segment_of Retiring segment.row else segment).row.generation == generation)
    && is_agreed (if inside then segment_of Retiring segment.row else segment).state)
    ≡ ((segment.row.generation == generation) && is_agreed segment.state)
agreed_by generation segment true off =
    and_right (segment.row.generation == generation) false refl
    ∙ sym (and_right (segment.row.generation == generation) (is_agreed segment.state) (off refl))
agreed_by generation segment false off = refl

module _ (segs : SegsView) (heap : ℕ) (run : Run) (sound : IsSound segs) (owns : OwnsRun heap run segs) where
  abbrev made : List Segment
  made = map (retired_segment run) segs.segments

  rows_owned : All (λ segment. in_run run segment.row ≡ true → is_owned_by heap segment.state ≡ true) segs.segments
  rows_owned = owned_all segs.segments heap run sound.rows.table.once owns.owned

  rows_settled : All (λ segment. is_agreed segment.state ≡ true → in_run run segment.row ≡ false) segs.segments
  rows_settled = owned_none_agreed segs.segments heap run sound.rows.table.once owns.owned

  -- what is unclaimed stays so
  unclaimed_stays : (generation : ℕ) → is_unclaimed made generation ≡ is_unclaimed segs.segments generation
  unclaimed_stays generation =
      any_mapped (λ segment. (segment.row.generation == generation) && is_agreed segment.state) (retired_segment run) segs.segments
      ∙ any_alike _ (λ segment. (segment.row.generation == generation) && is_agreed segment.state) segs.segments
      (λ k d within.
      agreed_by generation (get_or segs.segments k d) (in_run run (get_or segs.segments k d).row)
      (λ inside.
      false_from_ne_true (is_agreed (get_or segs.segments k d).state) (λ agreed.
      let wrong : true ≡ false = sym inside ∙ rows_settled k d within agreed in
      cc)))

  claimed_stays : (other : ℕ) → filter (is_claimed_for other made) segs.asks ≡ filter (is_claimed_for other segs.segments) segs.asks
  claimed_stays other =
      filter_alike (is_claimed_for other made) (is_claimed_for other segs.segments) segs.asks
      (λ k d within. claimed_alike other segs.segments made (get_or segs.asks k d) (λ generation is. unclaimed_stays generation))

  -- what other heaps gave up is as it was
  given_up_apart : (other : ℕ) → other ≢ heap → given_up_by other (segs.retired ++ (heap, run) ∷ []) ≡ given_up_by other segs.retired
  given_up_apart other apart =
      ap (map (λ (given : ℕ × Run). given.1))
      (filter_behind (λ (given : ℕ × Run). given.0 == other) segs.retired (heap, run) (ne_eqb heap other (λ same. apart (sym same))))

  pub others_left : (other : ℕ) → other ≢ heap → standing_of other (after_retire heap run segs) ≡ standing_of other segs
  others_left other apart =
      standing_from other segs (after_retire heap run segs)
      (named_from other segs (after_retire heap run segs)
      (filter_changed (λ segment. is_owned_by other segment.state) (λ segment. is_owned_by other segment.state)
      (retired_segment run) segs.segments
      (λ k d within.
      others_by heap other (get_or segs.segments k d) (in_run run (get_or segs.segments k d).row) apart (rows_owned k d within))
      (λ k d within.
      others_stay heap other (get_or segs.segments k d) (in_run run (get_or segs.segments k d).row) apart (rows_owned k d within)))
      (claimed_stays other))
      refl (given_up_apart other apart)

  -- the heap's own rows but those of the run
  pub owned_left : owned_by heap (after_retire heap run segs) ≡ filter (λ segment. not (in_run run segment.row)) (owned_by heap segs)
  owned_left =
      filter_changed (λ segment. is_owned_by heap segment.state)
      (λ segment. is_owned_by heap segment.state && not (in_run run segment.row)) (retired_segment run) segs.segments
      (λ k d within. own_by heap (get_or segs.segments k d) (in_run run (get_or segs.segments k d).row))
      (λ k d within. own_stays heap (get_or segs.segments k d) (in_run run (get_or segs.segments k d).row))
      ∙ sym (filter_twice (λ segment. is_owned_by heap segment.state) (λ segment. not (in_run run segment.row)) segs.segments)

pub retire_leaves_others : RetireLeavesOthers
retire_leaves_others segs heap run sound owns other apart = others_left segs heap run sound owns other apart

-- the run comes after those that the heap gave up
pub given_up_behind : (heap : ℕ) (run : Run) (retired : List (ℕ × Run))
    → given_up_by heap (retired ++ (heap, run) ∷ []) ≡ given_up_by heap retired ++ run ∷ []
given_up_behind heap run retired =
    let own : List (ℕ × Run) = filter (λ (given : ℕ × Run). given.0 == heap) retired in
    ap (map (λ (given : ℕ × Run). given.1))
    (filter-append (λ (given : ℕ × Run). given.0 == heap) retired ((heap, run) ∷ [])
    ∙ ap (λ b. own ++ cond b ((heap, run) ∷ []) []) (eq-eqb heap heap refl))
    ∙ map-append (λ (given : ℕ × Run). given.1) own ((heap, run) ∷ [])

pub retire_takes_rows : RetireTakesRows
retire_takes_rows segs heap run sound owns =
    let made : List Segment = map (retired_segment run) segs.segments in
    let left : List Segment = filter (λ segment. not (in_run run segment.row)) (owned_by heap segs) in
    ap
    (λ (segments : List Segment). record {
      owned = segments;
      claimed = filter (is_claimed_for heap made) segs.asks;
      came = runs_granted segs.log (filter (is_claimed_for heap made) segs.asks);
      retired = given_up_by heap (segs.retired ++ (heap, run) ∷ []);
    })
    (owned_left segs heap run sound owns)
    ∙ (ap
    (λ (asks : List AskLog). record {
      owned = left;
      claimed = asks;
      came = runs_granted segs.log asks;
      retired = given_up_by heap (segs.retired ++ (heap, run) ∷ []);
    })
    (claimed_stays segs heap run sound owns heap)
    ∙ ap
    (λ (runs : List Run). record {
      owned = left;
      claimed = claimed_by heap segs;
      came = runs_granted segs.log (claimed_by heap segs);
      retired = runs;
    })
    (given_up_behind heap run segs.retired))
