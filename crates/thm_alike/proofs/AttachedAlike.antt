-- Between two lines each attached participant has taken in and mapped all segments in use.
use Rattle.std.proofs.Common.{◌≡◌, ◌∙◌, ℕ, zero, suc, ◌<◌, ◌≤◌, Bool, true, false, List, [], ◌∷◌, length, Option, Some, None, refl, ap, sym, subst, arith}
use Rattle.std.specs.Prelude.{Contains, slice_get}
use Rattle.std.proofs.lemmas.Bool.{eqb-true}
use Rattle.std.proofs.lemmas.List.Elements.{All-contains}
use Rattle.std.proofs.lemmas.Option.{same_Some, slice_get_within}
use Rattle.hp_base.specs.declared.chunk.Chunk.{Chunk}
use Rattle.hp_base.specs.declared.limits.TheConstants.{MAX_HEAPS}
use Rattle.hp_base.specs.declared.row.Row.{Row}
use Rattle.hp_plain.specs.HallView.{HallView, SlotView, log_in, own_at, part_in, seen_in, segs_in, slot_at}
use Rattle.hp_plain.specs.Keeping.{AreAgreed}
use Rattle.hp_hall.specs.Own.{Own}
use Rattle.hp_hall.specs.Values.{log_of}
use Rattle.hp_hall.specs.declared.kept.Kept.{Kept}
use Rattle.hp_hall.specs.Views.{segs_of}
use Rattle.hp_hall.specs.declared.kept.Kept.TheVariants.{Heap, Names, Segments}
use Rattle.hp_hall.proofs.Gives.{has_nothing}
use Rattle.hp_plain.proofs.Opened.{opened_segs}
use Rattle.hp_hall.proofs.StandingFacts.StandingLists.{contains_unkept, found_in}
use Rattle.hp_heap.proofs.Members.{Contains-image}
use Rattle.hp_log.specs.Log.{table_of}
use Rattle.hp_log.specs.declared.log_record.LogRecord.{LogRecord}
use Rattle.hp_maps.specs.MapsView.{is_of_log, table_in}
use Rattle.hp_script.specs.declared.workload.Workload.{Workload}
use Rattle.hp_segs.specs.SegsView.{SegsView, granted_by, is_member, is_opened}
use Rattle.hp_segs.specs.Sound.{IsSound}
use Rattle.hp_segs.specs.SoundAsks.{grants, is_grant_of, is_granted}
use Rattle.hp_segs.specs.declared.outcome.Outcome.{Outcome}
use Rattle.hp_segs.specs.declared.outcome.Outcome.TheVariants.{Freed, Granted, Refused, Stale}
use Rattle.hp_segs.specs.declared.row_state.Segment.{Segment}
use Rattle.hp_segs.proofs.GrowthSteps.GrantedRows.{rows_are_granted}
use Rattle.hp_proc.specs.LinesDone.{Course}
use Rattle.hp_serve.specs.Party.{Party}
use Rattle.hp_serve.specs.Tied.{HasTable, part_of}
use Rattle.hp_serve.proofs.RowsKnown.{has_lags}
use Rattle.thm_run.specs.SoFar.{SoFar, first_hall, first_names, first_segs}
use Rattle.thm_run.proofs.PathSteps.ByMail.{run_of}
use Rattle.thm_run.proofs.RunFacts.SoFarFacts.{held_many}
use Rattle.thm_run.proofs.SeatFacts.SeatsAlong.{count_along}
use Rattle.thm_run.proofs.SeatFacts.SegsAlong.{sound_along}
use Rattle.thm_alike.specs.Alike.{AttachedMapAlike, HasAllInUse, HasSegment, IsInUse}
use Rattle.thm_alike.proofs.InTables.{in_lagging}

-- the log that everybody sees is that of the segment value
log_kept : (kept : Kept) (segs : SegsView) → segs_of kept ≡ Some segs → log_of kept ≡ segs.log
log_kept (Heap heap pen) segs is = cc
log_kept (Names names) segs is = cc
log_kept (Segments value) segs is = ap (λ (segs : SegsView). segs.log) (same_Some value segs is)

log_at : (slot : Option SlotView) (segs : SegsView) → segs_in slot ≡ Some segs → log_in slot ≡ segs.log
log_at None segs is = cc
log_at (Some slot) segs is = log_kept slot.kept segs is

-- what grants a generation was granted it
granted_so : (generation : ℕ) (outcome : Outcome) → is_grant_of generation outcome ≡ true → granted_by outcome ≡ Some generation
granted_so generation (Granted granted) is = ap Some (eqb-true granted generation is)
granted_so generation (Refused cause) is = cc
granted_so generation (Stale done) is = cc
granted_so generation (Freed freed) is = cc

-- the record of each segment in use was granted
pub in_use_granted : (segs : SegsView) (segment : Segment) → IsSound segs → Contains segs.segments segment → IsInUse segment
    → is_granted segs.asks segment.row.generation ≡ true
in_use_granted segs segment sound among in_use =
    All-contains (λ (segment : Segment). is_opened segment.state ≡ false → is_granted segs.asks segment.row.generation ≡ true)
    segs.segments segment (rows_are_granted segs sound) among in_use

-- and its row is in the table of the log
pub in_use_logged : (segs : SegsView) (segment : Segment) → IsSound segs → Contains segs.segments segment
    → Contains (table_of segs.log) segment.row
in_use_logged segs segment sound among =
    subst (λ (rows : List Row). Contains rows segment.row) sound.rows.table.table
    (Contains-image (λ (segment : Segment). segment.row) segs.segments segment among)

-- what stands at a place of a list
seat_at : {X : Type 0} (xs : List X) (place : ℕ) → place < length xs → (x : X) × (slice_get xs place ≡ Some x)
seat_at [] place within = absurd (omega (arith, within))
seat_at (x ∷ xs) zero within = (x, refl)
seat_at (x ∷ xs) (suc place) within = seat_at xs place (omega (arith, within))

module _ (workload : Workload) (courses : List Course) (parties : List Party) (hall : HallView)
    (so : SoFar workload courses parties hall) where
  abbrev segs : SegsView
  segs = so.now.segs

  sound_now : IsSound segs
  sound_now = sound_along workload.participants workload.absent workload.pools.items so.first so.is_first so.now (run_of so.runs)

  -- a hall that opens has no grant
  first_agreed : AreAgreed (first_hall workload so.held)
  first_agreed value there entry generation member has grant is =
      let same : first_segs workload ≡ value =
      same_Some (first_segs workload) value
      (sym (opened_segs (first_segs workload) (first_names workload) so.held MAX_HEAPS
      (sym (held_many so.held) ∙ so.first_heaps.in_order.count)) ∙ there) in
      absurd (has_nothing entry (subst (λ (value : SegsView). Contains value.asks entry) (sym same) has))

  module _ (who : ℕ) (party : Party) (at : slice_get parties who ≡ Some party) (joined : party.joined ≡ true) where
    abbrev own : Own
    own = own_at hall who

    -- it is in the roster
    enrolled : is_member segs.roster who ≡ true
    enrolled =
        let below : who < length so.now.seats =
        omega (arith, slice_get_within parties who party at, so.count, count_along (run_of so.runs), so.is_first.seats) in
        let its = seat_at so.now.seats who below in
        let same : its.0.party ≡ party = same_Some its.0.party party (sym (so.seats who its.0 its.1).party ∙ at) in
        so.roster who its.0 its.1 ∙ ap (λ (party : Party). party.joined) same ∙ joined

    abbrev marked : ℕ → List Chunk
    marked heap = (part_in hall who heap).marked

    -- its table is what the hall knows of it
    its_own : HasTable segs.log own marked party.maps
    its_own =
        subst (λ (log : List LogRecord). HasTable log own marked party.maps) (log_at (slot_at hall MAX_HEAPS) segs so.its_segs)
        (subst (λ (joined : Bool). HasTable (seen_in hall) (part_of joined own) marked party.maps) joined (so.each who party at).tied.table)

    -- it has taken in the record of each segment in use
    has_taken_in : (segment : Segment) → Contains segs.segments segment → IsInUse segment → segment.row.generation ≤ own.number
    has_taken_in segment among in_use =
        let generation : ℕ = segment.row.generation in
        let found = found_in (grants generation) segs.asks (in_use_granted segs segment sound_now among in_use) in
        so.course.agreed first_agreed segs so.its_segs found.element generation who found.among
        (granted_so generation found.element.outcome found.passes) enrolled

    has_mapped : (segment : Segment) → Contains segs.segments segment → IsInUse segment → HasSegment party.maps.rows segment
    has_mapped segment among in_use =
        contains_unkept is_of_log party.maps.rows segment.row
        (in_lagging segs.log own.number own.unmapped (table_in party.maps.rows) segment.row (has_lags segs.log own marked party.maps its_own)
        (has_taken_in segment among in_use) (in_use_logged segs segment sound_now among))

    has_all : HasAllInUse segs party
    has_all = record {
      taken_in = λ segment among in_use. omega (arith, its_own.number, has_taken_in segment among in_use);
      mapped = has_mapped;
    }

pub attached_map_alike : AttachedMapAlike
attached_map_alike workload courses parties hall segs who party given so there at joined =
    subst (λ (segs : SegsView). HasAllInUse segs party) (same_Some so.now.segs segs (sym so.its_segs ∙ there))
    (has_all workload courses parties hall so who party at joined)
