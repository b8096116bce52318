-- Each record of the log is accounted for: steps that keep this.
use Rattle.std.proofs.Common.{◌≡◌, ◌⊎◌, ◌==◌, ◌∙◌, ℕ, zero, suc, ◌+◌, ◌-◌, ◌<◌, Bool, true, false, not, ◌||◌, List, [], ◌∷◌, ◌++◌, map, length, get_or, Option, Some, None, inl, inr, refl, ap, sym, subst, arith, append_assoc, length-append, eq-eqb}
use Rattle.std.specs.List.{All, slice_get}
use Rattle.std.proofs.Math.Seq.{take-length}
use Rattle.std.proofs.lemmas.Bool.{cases_lt, eqb-true, ne_eqb, or_from}
use Rattle.std.proofs.lemmas.List.{append-nil}
use Rattle.std.proofs.lemmas.List.Elements.{All-head, All-tail}
use Rattle.std.proofs.lemmas.List.Folds.{list_any-append, list_any_none}
use Rattle.std.proofs.lemmas.Option.{slice_get_within}
use Rattle.hp_base.specs.declared.row.Run.{Run}
use Rattle.hp_log.specs.Log.{table_at, table_of}
use Rattle.hp_log.specs.Rows.{in_run}
use Rattle.hp_log.specs.declared.log_record.LogRecord.{LogRecord}
use Rattle.hp_log.specs.declared.log_record.LogRecord.TheVariants.{Add, Drop}
use Rattle.hp_log.proofs.LogLemmas.{table_of_push}
use Rattle.hp_segs.specs.SoundAsks.{AreDrops, AreSettled, IsFailedBefore, IsGranted, grants, is_grant_of, is_granted}
use Rattle.hp_segs.specs.SoundRows.{IsOfOneHeap}
use Rattle.hp_segs.specs.declared.growth.Growth.{Growth}
use Rattle.hp_segs.specs.declared.outcome.AskLog.{AskLog}
use Rattle.hp_segs.specs.declared.outcome.Outcome.{Outcome}
use Rattle.hp_segs.specs.declared.outcome.Outcome.TheVariants.{Granted, Refused, Stale, Freed}
use Rattle.hp_segs.proofs.AskFacts.CausedLemmas.{table_at_stays}
use Rattle.hp_segs.proofs.GrowthSteps.ClaimLemmas.{record_within}
use Rattle.hp_segs.proofs.RetiredRuns.GivenUp.{one_heap_fewer, one_heap_stays}
use Rattle.hp_segs.proofs.SlotFacts.ListFacts.{get_pushed, get_stays, or_off_parts}

-- an outcome more grants no other generation
pub granted_beside : (asks : List AskLog) (entry : AskLog) (generation : ℕ) → is_granted asks generation ≡ false → grants generation entry ≡ false
    → is_granted (asks ++ entry ∷ []) generation ≡ false
granted_beside asks entry generation none other =
    list_any-append (grants generation) asks (entry ∷ []) ∙ or_from _ _ none (ap (λ b. b || false) other)

pub granted_before : (asks : List AskLog) (entry : AskLog) (generation : ℕ) → is_granted (asks ++ entry ∷ []) generation ≡ false
    → (is_granted asks generation ≡ false) × (grants generation entry ≡ false)
granted_before asks entry generation none =
    let parts = or_off_parts (is_granted asks generation) (grants generation entry || false)
    (sym (list_any-append (grants generation) asks (entry ∷ [])) ∙ none) in
    (parts.0, (or_off_parts (grants generation entry) false parts.1).0)

grant_below : (log : List LogRecord) (outcome : Outcome) (generation : ℕ) → IsGranted log outcome → length log < generation
    → is_grant_of generation outcome ≡ false
grant_below log (Granted stamp) generation granted above =
    let within = record_within log stamp granted.1.0 granted.1.1 in
    ne_eqb stamp generation (λ same. omega (arith, within, granted.0, above, same))
grant_below log (Refused cause) generation granted above = refl
grant_below log (Stale done) generation granted above = refl
grant_below log (Freed stamp) generation granted above = refl

-- no generation after the log is granted
pub none_granted : (log : List LogRecord) (asks : List AskLog) (generation : ℕ) → All (λ entry. IsGranted log entry.outcome) asks
    → length log < generation → is_granted asks generation ≡ false
none_granted log asks generation granted above =
    list_any_none (grants generation) asks
    (λ k d within. grant_below log (get_or asks k d).outcome generation (granted k d within) above)

pub get_before : {X : Type 0} (xs ys : List X) (i : ℕ) → i < length xs → slice_get (xs ++ ys) i ≡ slice_get xs i
get_before [] ys i within = absurd (omega (arith, within))
get_before (x ∷ xs) ys zero within = refl
get_before (x ∷ xs) ys (suc i) within = get_before xs ys i (omega arith)

no_add : (runs : List Run) (place : ℕ) (run : Run) (heap : ℕ) → slice_get (map (λ run. Drop run) runs) place ≡ Some (Add run heap) → ⊥
no_add [] place run heap here = cc
no_add (first ∷ runs) zero run heap here = cc
no_add (first ∷ runs) (suc place) run heap here = no_add runs place run heap here

-- an Add stands before the Drops after the log
pub added_before : (log : List LogRecord) (runs : List Run) (place : ℕ) (run : Run) (heap : ℕ)
    → slice_get (log ++ map (λ run. Drop run) runs) place ≡ Some (Add run heap) → slice_get log place ≡ Some (Add run heap)
added_before [] runs place run heap here = absurd (no_add runs place run heap here)
added_before (entry ∷ log) runs zero run heap here = here
added_before (entry ∷ log) runs (suc place) run heap here = added_before log runs place run heap here

module _ (log : List LogRecord) (asks : List AskLog) where
  -- an outcome more settles no fewer records
  pub settled_beside : (growth : Option Growth) (entry : AskLog) → AreSettled log asks growth → AreSettled log (asks ++ entry ∷ []) growth
  settled_beside growth entry old place run heap here closed off =
      old place run heap here closed (granted_before asks entry (place + 1) off).0

  -- the open growth is granted
  pub settled_granted : (growth : Growth) (entry : AskLog) → entry.outcome ≡ Granted growth.generation → AreSettled log asks (Some growth)
      → AreSettled log (asks ++ entry ∷ []) None
  settled_granted growth entry is old place run heap here closed off =
      let parts = granted_before asks entry (place + 1) off in
      old place run heap here (ap (is_grant_of (place + 1)) (sym is) ∙ parts.1) parts.0

  failed_by : (growth : Growth) (entry : AskLog) (heap : ℕ) → slice_get log (growth.generation - 1) ≡ Some (Add growth.run heap)
      → growth.generation ≡ length log → AreSettled log asks (Some growth)
      → (place : ℕ) (run : Run) (other : ℕ) → slice_get log place ≡ Some (Add run other) → is_granted asks (place + 1) ≡ false
      → (own : Bool) → (growth.generation == place + 1) ≡ own → slice_get (log ++ Drop growth.run ∷ []) (place + 1) ≡ Some (Drop run)
  failed_by growth entry heap added last old place run other here off true own =
      let same : growth.generation ≡ place + 1 = eqb-true growth.generation (place + 1) own in
      let at : growth.generation - 1 ≡ place = omega (arith, same) in
      let end : length log ≡ place + 1 = omega (arith, same, last) in
      let both : Some (Add growth.run heap) ≡ Some (Add run other) = sym added ∙ (ap (slice_get log) at ∙ here) in
      let its : growth.run ≡ run = cc in
      ap (slice_get (log ++ Drop growth.run ∷ [])) (sym end) ∙ (get_pushed log (Drop growth.run) ∙ ap (λ run. Some (Drop run)) its)
  failed_by growth entry heap added last old place run other here off false closed =
      get_stays log (Drop growth.run ∷ []) (place + 1) _ (old place run other here closed off)

  -- the open growth fails
  pub settled_failed : (growth : Growth) (entry : AskLog) (heap : ℕ) → slice_get log (growth.generation - 1) ≡ Some (Add growth.run heap)
      → growth.generation ≡ length log → AreSettled log asks (Some growth) → AreSettled (log ++ Drop growth.run ∷ []) (asks ++ entry ∷ []) None
  settled_failed growth entry heap added last old place run other here closed off =
      failed_by growth entry heap added last old place run other (added_before log (growth.run ∷ []) place run other here)
      (granted_before asks entry (place + 1) off).0 (growth.generation == place + 1) refl

  -- a growth opens
  pub settled_opened : (growth : Growth) (entry : LogRecord) → growth.generation ≡ length log + 1 → AreSettled log asks None
      → AreSettled (log ++ entry ∷ []) asks (Some growth)
  settled_opened growth entry stamp old place run heap here closed off =
      elim (cases_lt place (length log)) [
        | inl below ↦
            get_stays log (entry ∷ []) (place + 1) _
            (old place run heap (sym (get_before log (entry ∷ []) place below) ∙ here) refl off)
        | inr above ↦
            let within = slice_get_within (log ++ entry ∷ []) place _ here in
            let own : (growth.generation == place + 1) ≡ true =
            eq-eqb growth.generation (place + 1) (omega (arith, within, above, stamp, length-append log (entry ∷ []))) in
            let wrong : true ≡ false = sym own ∙ closed in
            cc
      ]

  -- Drops come after
  pub settled_dropped : (runs : List Run) → AreSettled log asks None → AreSettled (log ++ map (λ run. Drop run) runs) asks None
  settled_dropped runs old place run heap here closed off =
      get_stays log (map (λ run. Drop run) runs) (place + 1) _ (old place run heap (added_before log runs place run heap here) closed off)

  -- an outcome more that grants none of the records before the last one
  pub drops_beside : (entry : AskLog) → ((place : ℕ) → place < length log → grants place entry ≡ false) → AreDrops log asks
      → AreDrops log (asks ++ entry ∷ [])
  drops_beside entry other old place run here =
      elim (old place run here) [
        | inl failed ↦
            inl (record {
              heap = failed.heap;
              some = failed.some;
              added = failed.added;
              ungranted = granted_beside asks entry place failed.ungranted (other place (slice_get_within log place _ here));
            })
        | inr given ↦ inr given
      ]

  -- the Drops of the log, where records come after
  pub drops_stay : (more : List LogRecord) (place : ℕ) (run : Run) → place < length log → slice_get (log ++ more) place ≡ Some (Drop run)
      → AreDrops log asks → IsFailedBefore (log ++ more) asks place run ⊎ IsOfOneHeap (log ++ more) (table_at (log ++ more) place) run
  drops_stay more place run below here old =
      elim (old place run (sym (get_before log more place below) ∙ here)) [
        | inl failed ↦
            inl (record {
              heap = failed.heap;
              some = failed.some;
              added = get_stays log more (place - 1) _ failed.added;
              ungranted = failed.ungranted;
            })
        | inr given ↦
            inr (subst (λ rows. IsOfOneHeap (log ++ more) rows run) (table_at_stays log more place (omega (arith, below)))
            (one_heap_stays log more (table_at log place) run given))
      ]

  -- a growth opens
  pub drops_opened : (run : Run) (heap : ℕ) → AreDrops log asks → AreDrops (log ++ Add run heap ∷ []) asks
  drops_opened run heap old place other here =
      elim (cases_lt place (length log)) [
        | inl below ↦ drops_stay (Add run heap ∷ []) place other below here old
        | inr above ↦
            let within = slice_get_within (log ++ Add run heap ∷ []) place _ here in
            let end : place ≡ length log = omega (arith, within, above, length-append log (Add run heap ∷ [])) in
            let wrong : Some (Add run heap) ≡ Some (Drop other) =
            sym (get_pushed log (Add run heap)) ∙ (ap (slice_get (log ++ Add run heap ∷ [])) (sym end) ∙ here) in
            cc
      ]

  -- a Drop comes after that is accounted for
  pub drops_more : (run : Run)
      → (IsFailedBefore (log ++ Drop run ∷ []) asks (length log) run
      ⊎ IsOfOneHeap (log ++ Drop run ∷ []) (table_at (log ++ Drop run ∷ []) (length log)) run)
      → AreDrops log asks → AreDrops (log ++ Drop run ∷ []) asks
  drops_more run last old place other here =
      elim (cases_lt place (length log)) [
        | inl below ↦ drops_stay (Drop run ∷ []) place other below here old
        | inr above ↦
            let within = slice_get_within (log ++ Drop run ∷ []) place _ here in
            let end : place ≡ length log = omega (arith, within, above, length-append log (Drop run ∷ [])) in
            let both : Some (Drop run) ≡ Some (Drop other) =
            sym (get_pushed log (Drop run)) ∙ (ap (slice_get (log ++ Drop run ∷ [])) (sym end) ∙ here) in
            let same : run ≡ other = cc in
            subst
            (λ run'. IsFailedBefore (log ++ Drop run ∷ []) asks place run' ⊎ IsOfOneHeap (log ++ Drop run ∷ []) (table_at (log ++ Drop run ∷ []) place) run')
            same
            (subst
            (λ at. IsFailedBefore (log ++ Drop run ∷ []) asks at run ⊎ IsOfOneHeap (log ++ Drop run ∷ []) (table_at (log ++ Drop run ∷ []) at) run)
            (sym end)
            last)
      ]

-- the table before the last record
pub table_before_last : (log more : List LogRecord) → table_of log ≡ table_at (log ++ more) (length log)
table_before_last log more = ap table_of (sym (take-length log)) ∙ table_at_stays log more (length log) (omega arith)

-- Drops of runs of one heap each come after
pub drops_dropped : (asks : List AskLog) (runs : List Run) (log : List LogRecord) → All (IsOfOneHeap log (table_of log)) runs → AreDrops log asks
    → AreDrops (log ++ map (λ run. Drop run) runs) asks
drops_dropped asks [] log given old = subst (λ log. AreDrops log asks) (sym (append-nil log)) old
drops_dropped asks (run ∷ runs) log given old =
    let one : List LogRecord = log ++ Drop run ∷ [] in
    let first : IsOfOneHeap one (table_at one (length log)) run =
    subst (λ rows. IsOfOneHeap one rows run) (table_before_last log (Drop run ∷ []))
    (one_heap_stays log (Drop run ∷ []) (table_of log) run (All-head (IsOfOneHeap log (table_of log)) run runs given)) in
    let others : All (IsOfOneHeap one (table_of one)) runs =
    λ k d within.
    subst (λ rows. IsOfOneHeap one rows (get_or runs k d)) (sym (table_of_push log (Drop run)))
    (one_heap_fewer one (table_of log) (λ row. not (in_run run row)) (get_or runs k d)
    (one_heap_stays log (Drop run ∷ []) (table_of log) (get_or runs k d)
    (All-tail (IsOfOneHeap log (table_of log)) run runs given k d within))) in
    subst (λ log. AreDrops log asks) (append_assoc log (Drop run ∷ []) (map (λ run. Drop run) runs))
    (drops_dropped asks runs one others (drops_more log asks run (inr first) old))
