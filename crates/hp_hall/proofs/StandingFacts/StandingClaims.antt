-- A claim leaves what the value has for the other heaps.
use Rattle.std.proofs.Common.{◌≡◌, ◌≢◌, ◌==◌, ◌∙◌, ℕ, Bool, true, false, ◌&&◌, List, map, get_or, Option, Some, None, refl, ap, sym, subst, if◌then◌else◌}
use Rattle.std.specs.Prelude.{Contains}
use Rattle.std.specs.Option.{option_map_or}
use Rattle.std.proofs.lemmas.Bool.{and_left, eqb-true, ne_eqb}
use Rattle.std.proofs.lemmas.List.Elements.{All-contains_itself}
use Rattle.hp_log.specs.Log.{IsAddFor}
use Rattle.hp_log.specs.declared.log_record.LogRecord.{LogRecord}
use Rattle.hp_log.specs.declared.log_record.LogRecord.TheVariants.{Add}
use Rattle.hp_segs.specs.SegsView.{SegsView, granted_by, is_agreed, is_owned_by, is_unclaimed}
use Rattle.hp_segs.specs.Sound.{IsSound}
use Rattle.hp_segs.specs.SoundRows.{IsStateOf}
use Rattle.hp_segs.specs.Steps.{claimed_grant, claimed_segment, claimed_state, segment_of}
use Rattle.hp_segs.specs.declared.ask.Ask.{Ask}
use Rattle.hp_segs.specs.declared.outcome.AskLog.{AskLog}
use Rattle.hp_segs.specs.declared.outcome.Outcome.{Outcome}
use Rattle.hp_segs.specs.declared.outcome.Outcome.TheVariants.{Granted, Refused, Stale, Freed}
use Rattle.hp_segs.specs.declared.row_state.RowState.{RowState}
use Rattle.hp_segs.specs.declared.row_state.RowState.TheVariants.{Opened, Agreed, Owned, Retiring}
use Rattle.hp_segs.specs.declared.row_state.Segment.{Segment}
use Rattle.hp_segs.proofs.GrowthSteps.GrantLemmas.{any_mapped}
use Rattle.hp_segs.proofs.SlotFacts.ListFacts.{filter_alike}
use Rattle.hp_segs.specs.Standing.{is_claimed_for, standing_of}
use Rattle.hp_hall.specs.Standings.{ClaimLeavesOthers, IsGrantFor}
use Rattle.hp_hall.proofs.CountedRows.{any_alike, claimed_as, filter_changed, named_from, standing_from}
use Rattle.hp_hall.proofs.StandingFacts.StandingAsks.{told}

-- a record adds for one heap
pub one_heap : (log : List LogRecord) (generation heap other : ℕ) → IsAddFor log generation heap → IsAddFor log generation other
    → other ≡ heap
one_heap log generation heap other here there =
    let same : Some (Add there.run other) ≡ Some (Add here.run heap) = sym there.added ∙ here.added in
    cc

pub granted_is : (outcome : Outcome) (generation : ℕ) → granted_by outcome ≡ Some generation → outcome ≡ Granted generation
granted_is (Granted stamp) generation is =
    let same : stamp ≡ generation = cc in
    ap Granted same
granted_is (Refused cause) generation is = cc
granted_is (Stale done) generation is = cc
granted_is (Freed stamp) generation is = cc

-- an ask that is kept for a heap
pub record IsAskFor (heap : ℕ) (kept : Option Ask) : Type 0 where
  pub ask : Ask
  pub is : kept ≡ Some ask
  pub its_heap : ask.heap ≡ heap

pub ask_for : (heap : ℕ) (kept : Option Ask) → option_map_or (λ ask. ask.heap == heap) kept false ≡ true → IsAskFor heap kept
ask_for heap None passes = cc
ask_for heap (Some ask) passes = record { ask = ask; is = refl; its_heap = eqb-true ask.heap heap passes }

both_if : (first second third : Bool) → (first ≡ true → second ≡ third) → (first && second) ≡ (first && third)
both_if true second third same = same refl
both_if false second third same = refl

-- a heap's own rows stay its own in a claim
owned_fixed : (heap : ℕ) (state : RowState) → is_owned_by heap state ≡ true → claimed_state state ≡ state
owned_fixed heap Opened owned = refl
owned_fixed heap (Agreed other) owned = cc
owned_fixed heap (Owned other) owned = refl
owned_fixed heap Retiring owned = refl

stays_by : (heap : ℕ) (segment : Segment) (own : Bool) → is_owned_by heap segment.state ≡ true
    → (if own then segment_of (claimed_state segment.state) segment.row else segment) ≡ segment
stays_by heap segment true owned = ap (λ state. segment_of state segment.row) (owned_fixed heap segment.state owned)
stays_by heap segment false owned = refl

pub stays : (heap generation : ℕ) (segment : Segment) → is_owned_by heap segment.state ≡ true → claimed_segment generation segment ≡ segment
stays heap generation segment owned = stays_by heap segment (segment.row.generation == generation) owned

-- rows of other generations are unclaimed, or not, as before
apart_by : (generation other : ℕ) (segment : Segment) (own : Bool) → (segment.row.generation == generation) ≡ own → other ≢ generation
    → (((if own then segment_of (claimed_state segment.state) segment.row else segment).row.generation == other)
    && is_agreed (if own then segment_of (claimed_state segment.state) segment.row else segment).state)
    ≡ ((segment.row.generation == other) && is_agreed segment.state)
apart_by generation other segment true is apart =
    let stamp : segment.row.generation ≡ generation = eqb-true segment.row.generation generation is in
    let off : (segment.row.generation == other) ≡ false = ne_eqb segment.row.generation other (λ same. apart (sym same ∙ stamp)) in
    and_left (segment.row.generation == other) (is_agreed (claimed_state segment.state)) off
    ∙ sym (and_left (segment.row.generation == other) (is_agreed segment.state) off)
apart_by generation other segment false is apart = refl

pub unclaimed_apart : (generation other : ℕ) (segments : List Segment) → other ≢ generation
    → is_unclaimed (map (claimed_segment generation) segments) other ≡ is_unclaimed segments other
unclaimed_apart generation other segments apart =
    any_mapped (λ segment. (segment.row.generation == other) && is_agreed segment.state) (claimed_segment generation) segments
    ∙ any_alike _ (λ segment. (segment.row.generation == other) && is_agreed segment.state) segments
    (λ k d within. apart_by generation other (get_or segments k d) ((get_or segments k d).row.generation == generation) refl apart)

-- the rows of the grant are of one heap, and so no other's
others_by : (log : List LogRecord) (generation heap other : ℕ) → IsAddFor log generation heap → other ≢ heap → (state : RowState)
    → IsStateOf log generation state → is_owned_by other (claimed_state state) ≡ is_owned_by other state
others_by log generation heap other its apart Opened of = refl
others_by log generation heap other its apart (Agreed owner) of =
    ne_eqb owner other (λ same. apart (sym same ∙ one_heap log generation heap owner its of))
others_by log generation heap other its apart (Owned owner) of = refl
others_by log generation heap other its apart Retiring of = refl

others_stay : (log : List LogRecord) (generation heap other : ℕ) → IsAddFor log generation heap → other ≢ heap
    → (segment : Segment) (own : Bool)
    → (segment.row.generation == generation) ≡ own → IsStateOf log segment.row.generation segment.state
    → is_owned_by other (if own then segment_of (claimed_state segment.state) segment.row else segment).state
    ≡ is_owned_by other segment.state
others_stay log generation heap other its apart segment true is of =
    others_by log generation heap other its apart segment.state
    (subst (λ g. IsStateOf log g segment.state) (eqb-true segment.row.generation generation is) of)
others_stay log generation heap other its apart segment false is of = refl

module _ (segs : SegsView) (heap generation : ℕ) (entry : AskLog) (sound : IsSound segs) (among : Contains segs.asks entry)
    (is : IsGrantFor heap generation entry) where
  abbrev made : List Segment
  made = map (claimed_segment generation) segs.segments

  -- the record of the grant adds for the heap
  pub its_record : IsAddFor segs.log generation heap
  its_record = subst (IsAddFor segs.log generation) is.its_heap ((told segs entry sound among).heap is.ask generation is.kept is.granted)

  module _ (other : ℕ) (apart : other ≢ heap) where
    claims_as : (one : AskLog) → Contains segs.asks one → is_claimed_for other made one ≡ is_claimed_for other segs.segments one
    claims_as one within =
        both_if (option_map_or (λ ask. ask.heap == other) one.ask false) _ _ (λ passes.
        let its = ask_for other one.ask passes in
        claimed_as segs.segments made (granted_by one.outcome) (λ granted grants.
        unclaimed_apart generation granted segs.segments (λ same.
        let added = (told segs one sound within).heap its.ask granted its.is (granted_is one.outcome granted grants) in
        let owner : its.ask.heap ≡ heap =
        one_heap segs.log generation heap its.ask.heap its_record (subst (λ g. IsAddFor segs.log g its.ask.heap) same added) in
        apart (sym its.its_heap ∙ owner))))

    pub others_left : standing_of other (claimed_grant segs (Some generation)) ≡ standing_of other segs
    others_left =
        standing_from other segs (claimed_grant segs (Some generation))
        (named_from other segs (claimed_grant segs (Some generation))
        (filter_changed (λ segment. is_owned_by other segment.state) (λ segment. is_owned_by other segment.state)
        (claimed_segment generation) segs.segments
        (λ k d within.
        others_stay segs.log generation heap other its_record apart (get_or segs.segments k d)
        ((get_or segs.segments k d).row.generation == generation) refl (sound.rows.heaps k d within))
        (λ k d within. stays other generation (get_or segs.segments k d)))
        (filter_alike (is_claimed_for other made) (is_claimed_for other segs.segments) segs.asks
        (λ k d within. claims_as (get_or segs.asks k d) (All-contains_itself segs.asks k d within))))
        refl refl

pub claim_leaves_others : ClaimLeavesOthers
claim_leaves_others segs heap from number generation entry sound grant among is other apart =
    subst (λ g. standing_of other (claimed_grant segs g) ≡ standing_of other segs) (sym grant)
    (others_left segs heap generation entry sound among is other apart)
