-- The tables that the participants leave at the end of a hall of all of them.
use Rattle.std.proofs.Common.{◌≡◌, ◌∙◌, ℕ, ◌<◌, ◌≤◌, Bool, true, false, not, if◌then◌else◌, List, [], ◌∷◌, length, get_or, Option, Some, None, IfSome, refl, ap, sym, subst, arith}
use Rattle.std.specs.Prelude.{Contains}
use Rattle.std.specs.List.{All, filter, slice_get}
use Rattle.std.proofs.lemmas.Bool.{eqb-true}
use Rattle.std.proofs.lemmas.List.Elements.{All-contains_itself}
use Rattle.std.proofs.lemmas.Option.{same_Some, slice_get_within}
use Rattle.hp_base.specs.declared.chunk.Chunk.{Chunk}
use Rattle.hp_base.specs.declared.row.Row.{Row}
use Rattle.hp_heap.proofs.AllocFacts.ChoiceLaw.{Contains-here, Contains-none}
use Rattle.hp_plain.specs.HallView.{HallView, own_at, part_in}
use Rattle.hp_plain.specs.Keeping.{AreAgreed}
use Rattle.hp_hall.specs.Own.{Own}
use Rattle.hp_hall.proofs.Gives.{has_nothing}
use Rattle.hp_hall.proofs.StandingFacts.StandingLists.{found_in}
use Rattle.hp_log.specs.declared.log_record.LogRecord.{LogRecord}
use Rattle.hp_maps.specs.Catching.{Lags}
use Rattle.hp_maps.specs.MapsView.{chunk_rows, is_of_log, table_in}
use Rattle.hp_maps.specs.declared.table.Table.{Table}
use Rattle.hp_script.specs.declared.workload.Workload.{Workload}
use Rattle.hp_segs.specs.SegsView.{SegsView, granted_by, is_member, is_opened}
use Rattle.hp_segs.specs.SoundAsks.{grants, is_grant_of}
use Rattle.hp_segs.specs.declared.outcome.AskLog.{AskLog}
use Rattle.hp_segs.specs.declared.outcome.Outcome.{Outcome}
use Rattle.hp_segs.specs.declared.outcome.Outcome.TheVariants.{Freed, Granted, Refused, Stale}
use Rattle.hp_segs.specs.declared.row_state.Segment.{Segment}
use Rattle.hp_segs.proofs.GrowthSteps.GrantedRows.{row_granted}
use Rattle.hp_serve.specs.Ending.{LeavesTable}
use Rattle.hp_proc.specs.Ends.{IsMembersTable, IsTableOf}
use Rattle.hp_proc.specs.LinesDone.{Course, courses_of, opening_standing, standing_after}
use Rattle.hp_serve.specs.Party.{Party}
use Rattle.hp_proc.specs.Seen.{HasTakenIn}
use Rattle.hp_serve.specs.Tied.{HasChunks, HasTable, part_of, nothing_yet}
use Rattle.hp_serve.proofs.RowsKnown.{has_lags}
use Rattle.thm_run.specs.SoFar.{SoFar, first_hall, first_segs}
use Rattle.thm_run.proofs.HallFacts.HallEnds.{are_segs, party_of}
use Rattle.thm_run.proofs.HallFacts.HallSegs.{is_enrolled, segs_sound}
use Rattle.thm_run.proofs.RunFacts.SoFarFacts.{log_is}

pub all_from_contained : {X : Type 0} (P : X → Type 0) (xs : List X) → ((x : X) → Contains xs x → P x) → All P xs
all_from_contained P xs each place x within = each (get_or xs place x) (All-contains_itself xs place x within)

pub if_there : {X : Type 0} (P : X → Type 0) (value : Option X) → ((x : X) → value ≡ Some x → P x) → IfSome value P
if_there P None each = tt
if_there P (Some x) each = each x refl

-- what grants a generation was granted it
pub granted_so : (generation : ℕ) (outcome : Outcome) → is_grant_of generation outcome ≡ true → granted_by outcome ≡ Some generation
granted_so generation (Granted granted) is = ap Some (eqb-true granted generation is)
granted_so generation (Refused cause) is = cc
granted_so generation (Stale done) is = cc
granted_so generation (Freed freed) is = cc

-- a table lags behind more records too
pub lags_further : (log : List LogRecord) (number to more : ℕ) (rows : List Row) → to ≤ more → Lags log number to rows
    → Lags log number more rows
lags_further log number to more rows beyond lags =
    record { reached = lags.reached; from = lags.from; up_to = omega (arith, lags.up_to, beyond); left = lags.left }

-- of what is neither so nor otherwise there is nothing
none_of_both : {X : Type 0} (so : X → Bool) (xs : List X) → filter so xs ≡ [] → filter (λ x. not (so x)) xs ≡ [] → xs ≡ []
none_of_both so [] is other = refl
none_of_both so (x ∷ xs) is other = absurd (by_case (so x) refl)
  where
    by_case : (case : Bool) → so x ≡ case → ⊥
    by_case true case =
        let kept : x ∷ filter so xs ≡ [] = sym (ap (λ (kept : Bool). if kept then x ∷ filter so xs else filter so xs) case) ∙ is in
        cc
    by_case false case =
        let kept : x ∷ filter (λ x. not (so x)) xs ≡ [] =
        sym (ap (λ (left : Bool). if not left then x ∷ filter (λ x. not (so x)) xs else filter (λ x. not (so x)) xs) case) ∙ other in
        cc

-- where nothing is marked there is no row of a chunk
none_marked : (marked : ℕ → List Chunk) (rows : List Row) → HasChunks marked rows → ((heap : ℕ) → marked heap ≡ []) → rows ≡ []
none_marked marked [] has none = refl
none_marked marked (row ∷ rows) has none =
    let its = has.only row (Contains-here row rows) in
    absurd (Contains-none its.1 (subst (λ (chunks : List Chunk). Contains chunks its.1) (none its.0) its.3))

-- a table that has taken in nothing and has no chunk's rows has no row
pub no_rows : (log : List LogRecord) (rows : List Row) → Lags log 0 0 (table_in rows) → chunk_rows rows ≡ [] → rows ≡ []
no_rows log rows lags chunks = none_of_both is_of_log rows lags.left chunks

module _ (workload : Workload) (courses : List Course) (parties : List Party) (hall : HallView)
    (so : SoFar workload courses parties hall) where
  abbrev segs : SegsView
  segs = so.now.segs

  -- a hall that opens has no grant
  pub first_agreed : AreAgreed (first_hall workload so.held)
  first_agreed value there entry generation member has grant is =
      let same : first_segs workload ≡ value =
      same_Some (first_segs workload) value (sym (are_segs workload courses parties hall so).early ∙ there) in
      absurd (has_nothing entry (subst (λ (value : SegsView). Contains value.asks entry) (sym same) has))

  module _ (who : ℕ) (below : who < workload.participants) (party : Party) (at : slice_get parties who ≡ Some party) where
    abbrev own : Own
    own = own_at hall who

    abbrev records : ℕ
    records = (standing_after (opening_standing workload who) (courses_of who courses)).records

    -- its table is what the hall knows of it
    abbrev marked : ℕ → List Chunk
    marked heap = (part_in hall who heap).marked

    pub has_table : HasTable segs.log (part_of party.joined own) marked party.maps
    has_table =
        subst (λ (log : List LogRecord). HasTable log (part_of party.joined own) marked party.maps) (log_is workload courses parties hall so)
        (so.each who party at).tied.table

    module _ (joined : party.joined ≡ true) where
      enrolled : is_member segs.roster who ≡ true
      enrolled = is_enrolled workload courses parties hall so who party at below ∙ joined

      -- it has taken in each record that was granted
      taken_in : (entry : AskLog) (generation : ℕ) → Contains segs.asks entry → granted_by entry.outcome ≡ Some generation
          → generation ≤ own.number
      taken_in entry generation has grant =
          so.course.agreed first_agreed segs so.its_segs entry generation who has grant enrolled

      -- the record of a segment that isn't Opened was granted, and so taken in
      row_taken_in : (place : ℕ) (segment : Segment) → place < length segs.segments
          → is_opened (get_or segs.segments place segment).state ≡ false
          → (get_or segs.segments place segment).row.generation ≤ own.number
      row_taken_in place segment within settled =
          let generation : ℕ = (get_or segs.segments place segment).row.generation in
          let found =
          found_in (grants generation) segs.asks
          (row_granted segs (segs_sound workload courses parties hall so) place segment within settled) in
          taken_in found.element generation found.among (granted_so generation found.element.outcome found.passes)

      its_own : HasTable segs.log own marked party.maps
      its_own = subst (λ (joined : Bool). HasTable segs.log (part_of joined own) marked party.maps) joined has_table

      members_table : (table : Table) → LeavesTable party table → IsMembersTable segs who records table
      members_table table leaves =
          let number_is : table.number ≡ own.number = leaves.number ∙ its_own.number in
          record {
            lags = subst (λ (rows : List Row). Lags segs.log table.number (length segs.log) (table_in rows)) (sym leaves.rows)
                (subst (λ (number : ℕ). Lags segs.log number (length segs.log) (table_in party.maps.rows)) (sym number_is)
                (lags_further segs.log own.number own.unmapped (length segs.log) (table_in party.maps.rows) its_own.seen
                (has_lags segs.log own marked party.maps its_own)));
            since = omega (arith, leaves.number, (so.each who party at).since joined);
            own = all_from_contained (HasTakenIn who table.number) segs.asks (λ entry has mine.
                if_there (λ (generation : ℕ). generation ≤ table.number) (granted_by entry.outcome) (λ generation grant.
                omega (arith, number_is, taken_in entry generation has grant)));
            agreed = λ place segment within settled. omega (arith, number_is, row_taken_in place segment within settled);
          }

    -- who is out has no table
    none_left : party.joined ≡ false → (table : Table) → LeavesTable party table → (table.number ≡ 0) × (table.rows.items ≡ [])
    none_left out table leaves =
        let none : HasTable segs.log nothing_yet marked party.maps =
        subst (λ (joined : Bool). HasTable segs.log (part_of joined own) marked party.maps) out has_table in
        let bare : chunk_rows party.maps.rows ≡ [] = none_marked marked (chunk_rows party.maps.rows) none.chunks ((so.each who party at).left out) in
        (leaves.number ∙ none.number, leaves.rows ∙ no_rows segs.log party.maps.rows (has_lags segs.log nothing_yet marked party.maps none) bare)

    table_by : (joined : Bool) (table : Table) → party.joined ≡ joined → LeavesTable party table → IsTableOf segs who records joined table
    table_by true table is leaves = members_table is table leaves
    table_by false table is leaves = none_left is table leaves

    its_table : (table : Table) → LeavesTable party table
        → (table.joined ≡ is_member segs.roster who) × IsTableOf segs who records table.joined table
    its_table table leaves = (
      leaves.joined ∙ sym (is_enrolled workload courses parties hall so who party at below),
      table_by table.joined table (sym leaves.joined) leaves,
    )

  -- the clause `mapped`
  pub mapped_are : (tables : List Table) → length tables ≡ length parties
      → ((who : ℕ) (party : Party) (table : Table) → slice_get parties who ≡ Some party → slice_get tables who ≡ Some table
      → LeavesTable party table)
      → (who : ℕ) (table : Table) → slice_get tables who ≡ Some table
      → (table.joined ≡ is_member so.now.segs.roster who)
      × IsTableOf so.now.segs who (standing_after (opening_standing workload who) (courses_of who courses)).records table.joined table
  mapped_are tables count leave who table at =
      let below : who < workload.participants = omega (arith, count, so.count, slice_get_within tables who table at) in
      let its = party_of workload courses parties hall so who below in
      its_table who below its.0 its.1 table (leave who its.0 table its.1 at)
