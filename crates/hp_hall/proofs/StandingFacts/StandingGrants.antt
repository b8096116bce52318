-- A grant leaves what the value has for each heap: its rows are nobody's yet, and what it grants is not claimed.
use Rattle.std.proofs.Common.{◌≡◌, ◌≢◌, ◌==◌, ◌∙◌, ℕ, zero, suc, ◌<◌, Bool, true, false, ◌&&◌, ◌||◌, List, [], ◌∷◌, ◌++◌, map, length, get_or, Some, refl, ap, sym, subst, arith, eq-eqb, if◌then◌else◌}
use Rattle.std.specs.List.{All, list_any}
use Rattle.std.proofs.lemmas.Bool.{and_from, and_left, and_right, eqb-true, ne_eqb, not_from_true, or_right}
use Rattle.std.proofs.lemmas.List.Elements.{All-head}
use Rattle.std.proofs.lemmas.List.Folds.{list_any-append}
use Rattle.hp_base.specs.declared.row.Row.{Row}
use Rattle.hp_base.specs.declared.row.Run.{Run}
use Rattle.hp_log.specs.Rows.{row_of, rows_below, rows_of}
use Rattle.hp_segs.specs.Lists.{lists_of}
use Rattle.hp_segs.specs.Machine.{unopened}
use Rattle.hp_segs.specs.SegsView.{SegsView, granted_by, is_agreed, is_opened, is_owned_by, is_unclaimed}
use Rattle.hp_segs.specs.Sound.{IsSound}
use Rattle.hp_segs.specs.SoundAsks.{IsUngranted, grants, is_grant_of}
use Rattle.hp_segs.specs.SoundRows.{AreRows}
use Rattle.hp_segs.specs.Steps.{after_grant, agreed_segment, segment_of}
use Rattle.hp_segs.specs.Table.{IsListRun}
use Rattle.hp_segs.specs.declared.growth.Growth.{Growth}
use Rattle.hp_segs.specs.declared.outcome.AskLog.{AskLog}
use Rattle.hp_segs.specs.declared.outcome.Outcome.{Outcome}
use Rattle.hp_segs.specs.declared.outcome.Outcome.TheVariants.{Granted, Refused, Stale, Freed}
use Rattle.hp_segs.specs.declared.row_state.RowState.{RowState}
use Rattle.hp_segs.specs.declared.row_state.RowState.TheVariants.{Opened, Agreed, Owned, Retiring}
use Rattle.hp_segs.specs.declared.row_state.Segment.{Segment}
use Rattle.hp_segs.proofs.GrowthSteps.GrantLemmas.{any_mapped}
use Rattle.hp_segs.proofs.SlotFacts.ListFacts.{any_off, filter_alike}
use Rattle.hp_segs.specs.Standing.{is_claimed_for}
use Rattle.hp_hall.proofs.CountedRows.{any_alike, claimed_alike, filter_behind, filter_changed, named_from, named_of}

opened_not_owned : (heap : ℕ) (state : RowState) → is_opened state ≡ true → is_owned_by heap state ≡ false
opened_not_owned heap Opened is = refl
opened_not_owned heap (Agreed other) is = cc
opened_not_owned heap (Owned other) is = cc
opened_not_owned heap Retiring is = cc

-- the rows that a grant makes Agreed are Opened, and so no heap's
owned_by_none : (heap owner : ℕ) (segment : Segment) (stamped : Bool) → is_opened segment.state ≡ stamped
    → is_owned_by heap (if stamped then segment_of (Agreed owner) segment.row else segment).state ≡ is_owned_by heap segment.state
owned_by_none heap owner segment true opened = sym (opened_not_owned heap segment.state opened)
owned_by_none heap owner segment false opened = refl

owned_stays : (heap owner : ℕ) (segment : Segment) (stamped : Bool) → is_opened segment.state ≡ stamped
    → is_owned_by heap segment.state ≡ true
    → (if stamped then segment_of (Agreed owner) segment.row else segment) ≡ segment
owned_stays heap owner segment true opened owned =
    let off : is_owned_by heap segment.state ≡ false = opened_not_owned heap segment.state opened in
    cc
owned_stays heap owner segment false opened owned = refl

-- a grant's rows are of no other generation
agreed_apart : (generation owner other : ℕ) (segment : Segment) (stamped : Bool) → (segment.row.generation == generation) ≡ stamped
    → other ≢ generation
    → (((if stamped then segment_of (Agreed owner) segment.row else segment).row.generation == other)
    && is_agreed (if stamped then segment_of (Agreed owner) segment.row else segment).state)
    ≡ ((segment.row.generation == other) && is_agreed segment.state)
agreed_apart generation owner other segment true is apart =
    let stamp : segment.row.generation ≡ generation = eqb-true segment.row.generation generation is in
    let off : (segment.row.generation == other) ≡ false = ne_eqb segment.row.generation other (λ same. apart (sym same ∙ stamp)) in
    ap (λ b. b && true) off ∙ sym (and_left (segment.row.generation == other) (is_agreed segment.state) off)
agreed_apart generation owner other segment false is apart = refl

pub unclaimed_apart : (generation owner other : ℕ) (segments : List Segment) → other ≢ generation
    → is_unclaimed (map (agreed_segment generation owner) segments) other ≡ is_unclaimed segments other
unclaimed_apart generation owner other segments apart =
    any_mapped (λ segment. (segment.row.generation == other) && is_agreed segment.state) (agreed_segment generation owner) segments
    ∙ any_alike _ (λ segment. (segment.row.generation == other) && is_agreed segment.state) segments
    (λ k d within. agreed_apart generation owner other (get_or segments k d)
    ((get_or segments k d).row.generation == generation) refl apart)

-- where all rows of a run pass, and there is one, some row passes
some_row : (p : Row → Bool) (run : Run) (generation n : ℕ) → 0 < n → ((k : ℕ) → p (row_of run generation k) ≡ true)
    → list_any p (rows_below run generation n) ≡ true
some_row p run generation zero some passes = absurd (omega (arith, some))
some_row p run generation (suc n) some passes =
    list_any-append p (rows_below run generation n) (row_of run generation n ∷ [])
    ∙ or_right (list_any p (rows_below run generation n)) _ (ap (λ b. b || false) (passes n))

agreed_own : (owner : ℕ) (row : Row)
    → (((agreed_segment row.generation owner (segment_of Opened row)).row.generation == row.generation)
    && is_agreed (agreed_segment row.generation owner (segment_of Opened row)).state) ≡ true
agreed_own owner row =
    let own : (row.generation == row.generation) ≡ true = eq-eqb row.generation row.generation refl in
    let made : agreed_segment row.generation owner (segment_of Opened row) ≡ segment_of (Agreed owner) row =
    ap (λ b. if b then segment_of (Agreed owner) row else segment_of Opened row) own in
    ap (λ (segment : Segment). (segment.row.generation == row.generation) && is_agreed segment.state) made
    ∙ and_from (row.generation == row.generation) true own refl

-- the rows of a grant are Agreed
unclaimed_made : (before : List Segment) (run : Run) (generation owner : ℕ) → 0 < run.count
    → is_unclaimed (map (agreed_segment generation owner) (before ++ map (segment_of Opened) (rows_of run generation))) generation ≡ true
unclaimed_made before run generation owner some =
    let test : Segment → Bool = λ segment. (segment.row.generation == generation) && is_agreed segment.state in
    let made : Segment → Bool = λ segment. test (agreed_segment generation owner segment) in
    any_mapped test (agreed_segment generation owner) (before ++ map (segment_of Opened) (rows_of run generation))
    ∙ (list_any-append made before (map (segment_of Opened) (rows_of run generation))
    ∙ or_right (list_any made before) _
    (any_mapped made (segment_of Opened) (rows_of run generation)
    ∙ some_row (λ row. made (segment_of Opened row)) run generation run.count some (λ k. agreed_own owner (row_of run generation k))))

granted_off : (generation granted : ℕ) (outcome : Outcome) → is_grant_of generation outcome ≡ false → granted_by outcome ≡ Some granted
    → granted ≢ generation
granted_off generation granted (Granted stamp) off is same =
    let stamp_is : stamp ≡ granted = cc in
    let on : (stamp == generation) ≡ true = eq-eqb stamp generation (stamp_is ∙ same) in
    let wrong : true ≡ false = sym on ∙ off in
    cc
granted_off generation granted (Refused cause) off is same = cc
granted_off generation granted (Stale done) off is same = cc
granted_off generation granted (Freed stamp) off is same = cc

module _ (segs : SegsView) (growth : Growth) (sound : IsSound segs) (open_now : segs.growth ≡ Some growth) where
  rows : AreRows segs.pools segs.log segs.segments segs.retiring (Some growth)
  rows = subst (AreRows segs.pools segs.log segs.segments segs.retiring) open_now sound.rows

  ungranted : All (λ entry. grants growth.generation entry ≡ false) segs.asks
  ungranted =
      any_off (grants growth.generation) segs.asks (subst (IsUngranted segs.asks) open_now sound.asks.ungranted)

  abbrev entry : AskLog
  entry = record {
    from = growth.ask.from;
    number = growth.ask.number;
    outcome = Granted growth.generation;
    at = length segs.log;
    ask = Some growth.ask;
  }

  -- the grant is not claimed
  unclaimed : is_unclaimed (after_grant growth segs).segments growth.generation ≡ true
  unclaimed =
      let some = (All-head (IsListRun (lists_of segs.pools)) growth.run segs.retiring rows.held.listed).some in
      ap (λ segments. is_unclaimed (map (agreed_segment growth.generation growth.ask.heap) segments) growth.generation) rows.logged.behind
      ∙ unclaimed_made (unopened segs.segments) growth.run growth.generation growth.ask.heap some

  entry_off : (heap : ℕ) → is_claimed_for heap (after_grant growth segs).segments entry ≡ false
  entry_off heap = and_right (growth.ask.heap == heap) _ (not_from_true _ unclaimed)

  pub named_granted : (heap : ℕ) → named_of heap (after_grant growth segs) ≡ named_of heap segs
  named_granted heap =
      let generation : ℕ = growth.generation in
      let owner : ℕ = growth.ask.heap in
      let new : List Segment = map (agreed_segment generation owner) segs.segments in
      named_from heap segs (after_grant growth segs)
      (filter_changed (λ segment. is_owned_by heap segment.state) (λ segment. is_owned_by heap segment.state)
      (agreed_segment generation owner) segs.segments
      (λ k d within.
      owned_by_none heap owner (get_or segs.segments k d) ((get_or segs.segments k d).row.generation == generation)
      (rows.stamped k d within))
      (λ k d within.
      owned_stays heap owner (get_or segs.segments k d) ((get_or segs.segments k d).row.generation == generation)
      (rows.stamped k d within)))
      (filter_behind (is_claimed_for heap new) segs.asks entry (entry_off heap)
      ∙ filter_alike (is_claimed_for heap new) (is_claimed_for heap segs.segments) segs.asks
      (λ k d within.
      claimed_alike heap segs.segments new (get_or segs.asks k d)
      (λ granted is.
      unclaimed_apart generation owner granted segs.segments
      (granted_off generation granted (get_or segs.asks k d).outcome (ungranted k d within) is))))
