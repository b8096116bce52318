-- Steps that keep the outcomes sound.
use Rattle.std.proofs.Common.{◌≡◌, ◌==◌, ◌∙◌, ℕ, ◌+◌, ◌-◌, ◌≤◌, Bool, true, false, cond, List, [], ◌∷◌, ◌++◌, map, length, Option, Some, None, IfSome, IsTrue, inl, refl, ap, sym, subst, arith, count_by}
use Rattle.std.specs.List.{All, slice_get}
use Rattle.std.specs.Option.{option_and_then}
use Rattle.std.proofs.lemmas.Bool.{eqb-true, ne_eqb}
use Rattle.std.proofs.lemmas.List.Elements.{All-push}
use Rattle.std.proofs.lemmas.List.Sums.{sum_by_push}
use Rattle.hp_base.specs.declared.row.Run.{Run}
use Rattle.hp_base.specs.declared.pool_line.PoolLine.{PoolLine}
use Rattle.hp_log.specs.Log.{table_of}
use Rattle.hp_log.specs.declared.log_record.LogRecord.{LogRecord}
use Rattle.hp_log.specs.declared.log_record.LogRecord.TheVariants.{Add, Drop}
use Rattle.hp_log.proofs.Counts.{none_counts}
use Rattle.hp_segs.specs.Causes.{IsCaused}
use Rattle.hp_segs.specs.Refusals.{IsNoted, IsNotedCause}
use Rattle.hp_segs.specs.SegsView.{added_run, is_unanswered}
use Rattle.hp_segs.specs.SoundAsks.{AreAnsweredOnce, AreAsks, HasUnansweredAsk, IsFailedBefore, IsGranted, IsUngranted, grants, is_grant_of, is_granted}
use Rattle.hp_segs.specs.SoundRows.{IsGrowth, IsOfOneHeap}
use Rattle.hp_segs.specs.declared.growth.Growth.{Growth}
use Rattle.hp_segs.specs.declared.outcome.AskLog.{AskLog}
use Rattle.hp_segs.specs.declared.outcome.Cause.{Cause}
use Rattle.hp_segs.specs.declared.outcome.Outcome.TheVariants.{Granted, Refused}
use Rattle.hp_segs.specs.declared.row_state.Segment.{Segment}
use Rattle.hp_segs.proofs.AskFacts.CausedLemmas.{caused_push, caused_stays, grants_stay, in_time_push}
use Rattle.hp_segs.proofs.SlotFacts.ListFacts.{get_stays}
use Rattle.hp_segs.proofs.AskFacts.OnceLemmas.{once_more}
use Rattle.hp_segs.proofs.AskFacts.Settled.{drops_beside, drops_dropped, drops_more, drops_opened, granted_beside, none_granted, settled_beside, settled_dropped, settled_failed, settled_granted, settled_opened}

once_by : (asks : List AskLog) (entry : AskLog) (generation : ℕ) (own : Bool) → grants generation entry ≡ own
    → (own ≡ true → is_granted asks generation ≡ false) → count_by (grants generation) asks ≤ 1
    → count_by (grants generation) (asks ++ entry ∷ []) ≤ 1
once_by asks entry generation true is none once =
    let one : ◌≡◌ {A = ℕ} (cond (grants generation entry) 1 0) 1 = ap (λ b. cond b 1 0) is in
    omega (arith, one, none_counts (grants generation) asks (none refl), sum_by_push (λ (a : AskLog). cond (grants generation a) 1 0) asks entry)
once_by asks entry generation false is none once =
    let zero_more : ◌≡◌ {A = ℕ} (cond (grants generation entry) 1 0) 0 = ap (λ b. cond b 1 0) is in
    omega (arith, once, zero_more, sum_by_push (λ (a : AskLog). cond (grants generation a) 1 0) asks entry)

-- an outcome more grants each generation at most once, where it grants none that is granted
granted_once_push : (asks : List AskLog) (entry : AskLog) → ((generation : ℕ) → grants generation entry ≡ true → is_granted asks generation ≡ false)
    → ((generation : ℕ) → count_by (grants generation) asks ≤ 1) → (generation : ℕ) → count_by (grants generation) (asks ++ entry ∷ []) ≤ 1
granted_once_push asks entry none once generation =
    once_by asks entry generation (grants generation entry) refl (none generation) (once generation)

ungranted_beside : (asks : List AskLog) (entry : AskLog) (growth : Option Growth) → ((generation : ℕ) → grants generation entry ≡ false)
    → IsUngranted asks growth → IsUngranted (asks ++ entry ∷ []) growth
ungranted_beside asks entry None other old = tt
ungranted_beside asks entry (Some growth) other old = granted_beside asks entry growth.generation old (other growth.generation)

module _ {pools : List PoolLine} {log : List LogRecord} {asks : List AskLog} where
  -- an outcome that grants nothing is logged, beside all records
  pub asks_logged : {growth : Option Growth} (entry : AskLog) → AreAsks pools log asks growth
      → ((generation : ℕ) → grants generation entry ≡ false) → IsGranted log entry.outcome → IsCaused pools log asks entry → length log ≤ entry.at
      → IsNoted (asks ++ entry ∷ []) growth → AreAnsweredOnce (asks ++ entry ∷ []) → HasUnansweredAsk (asks ++ entry ∷ []) growth
      → AreAsks pools log (asks ++ entry ∷ []) growth
  asks_logged {growth} entry old other granted cause at noted once unanswered = record {
    once = once;
    unanswered = unanswered;
    caused = caused_push pools log [] asks entry old.caused cause;
    in_time = in_time_push pools log asks entry old.caused at old.in_time;
    noted = noted;
    granted = All-push (λ entry. IsGranted log entry.outcome) asks entry old.granted granted;
    granted_once =
        granted_once_push asks entry
        (λ generation is.
        let wrong : true ≡ false = sym is ∙ other generation in
        cc)
        old.granted_once;
    ungranted = ungranted_beside asks entry growth other old.ungranted;
    settled = settled_beside log asks growth entry old.settled;
    drops = drops_beside log asks entry (λ place below. other place) old.drops;
  }

  -- a failure is noted for the open growth
  pub asks_noted : (growth : Growth) (cause : Cause) → AreAsks pools log asks (Some growth) → IsNotedCause asks (record growth { noted = Some cause }) cause
      → AreAsks pools log asks (Some (record growth { noted = Some cause }))
  asks_noted growth cause old noted = record {
    once = old.once;
    unanswered = old.unanswered;
    caused = old.caused;
    in_time = old.in_time;
    noted = noted;
    granted = old.granted;
    granted_once = old.granted_once;
    ungranted = old.ungranted;
    settled = old.settled;
    drops = old.drops;
  }

  -- a growth opens
  pub asks_opened : (growth : Growth) → AreAsks pools log asks None → growth.generation ≡ length log + 1 → growth.noted ≡ None
      → IsTrue (is_unanswered asks (Some growth.ask)) → AreAsks pools (log ++ Add growth.run growth.ask.heap ∷ []) asks (Some growth)
  asks_opened growth old stamp unnoted unanswered =
      let more : List LogRecord = Add growth.run growth.ask.heap ∷ [] in
      record {
        once = old.once;
        unanswered = unanswered;
        caused = caused_stays pools log more [] asks old.caused;
        in_time = old.in_time;
        noted = subst (λ noted. IfSome noted (IsNotedCause asks growth)) (sym unnoted) tt;
        granted = grants_stay log more asks old.granted;
        granted_once = old.granted_once;
        ungranted = none_granted log asks growth.generation old.granted (omega (arith, stamp));
        settled = settled_opened log asks growth (Add growth.run growth.ask.heap) stamp old.settled;
        drops = drops_opened log asks growth.run growth.ask.heap old.drops;
      }

  -- the open growth is granted
  pub asks_granted : {segments : List Segment} (growth : Growth) (entry : AskLog) → AreAsks pools log asks (Some growth)
      → IsGrowth pools log segments growth → entry.outcome ≡ Granted growth.generation → IsCaused pools log asks entry
      → entry.from ≡ growth.ask.from → entry.number ≡ growth.ask.number → length log ≤ entry.at
      → AreAsks pools log (asks ++ entry ∷ []) None
  asks_granted growth entry old logged is cause who which at =
      let its : (generation : ℕ) → grants generation entry ≡ (growth.generation == generation) = λ generation. ap (is_grant_of generation) is in
      record {
        once = once_more asks entry growth.ask who which old.unanswered old.once;
        unanswered = tt;
        caused = caused_push pools log [] asks entry old.caused cause;
        in_time = in_time_push pools log asks entry old.caused at old.in_time;
        noted = tt;
        granted =
            All-push (λ entry. IsGranted log entry.outcome) asks entry old.granted
            (subst (IsGranted log) (sym is) (logged.some, (growth.run, ap (option_and_then added_run) logged.added)));
        granted_once =
            granted_once_push asks entry
            (λ generation own.
            subst (λ g. is_granted asks g ≡ false) (eqb-true growth.generation generation (sym (its generation) ∙ own)) old.ungranted)
            old.granted_once;
        ungranted = tt;
        settled = settled_granted log asks growth entry is old.settled;
        drops =
            drops_beside log asks entry
            (λ place below. its place ∙ ne_eqb growth.generation place (λ same. omega (arith, same, below, logged.last)))
            old.drops;
      }

  -- the open growth fails, and its ask is refused
  pub asks_failed : {segments : List Segment} (growth : Growth) (entry : AskLog) (cause : Cause) → AreAsks pools log asks (Some growth)
      → IsGrowth pools log segments growth → entry.outcome ≡ Refused cause
      → IsCaused pools (log ++ Drop growth.run ∷ []) asks entry
      → entry.from ≡ growth.ask.from → entry.number ≡ growth.ask.number → length log ≤ entry.at
      → AreAsks pools (log ++ Drop growth.run ∷ []) (asks ++ entry ∷ []) None
  asks_failed growth entry why old logged is cause who which at =
      let run : Run = growth.run in
      let none : (generation : ℕ) → grants generation entry ≡ false = λ generation. ap (is_grant_of generation) is in
      let last : IsFailedBefore (log ++ Drop run ∷ []) asks (length log) run =
      record {
        heap = growth.ask.heap;
        some = omega (arith, logged.some, logged.last);
        added =
            get_stays log (Drop run ∷ []) (length log - 1) _
            (subst (λ n. slice_get log (n - 1) ≡ Some (Add run growth.ask.heap)) logged.last logged.added);
        ungranted = subst (λ n. is_granted asks n ≡ false) logged.last old.ungranted;
      } in
      record {
        once = once_more asks entry growth.ask who which old.unanswered old.once;
        unanswered = tt;
        caused =
            caused_push pools (log ++ Drop run ∷ []) [] asks entry
            (caused_stays pools log (Drop run ∷ []) [] asks old.caused) cause;
        in_time = in_time_push pools log asks entry old.caused at old.in_time;
        noted = tt;
        granted =
            All-push (λ entry. IsGranted (log ++ Drop run ∷ []) entry.outcome) asks entry
            (grants_stay log (Drop run ∷ []) asks old.granted) (subst (IsGranted (log ++ Drop run ∷ [])) (sym is) tt);
        granted_once =
            granted_once_push asks entry
            (λ generation own.
            let wrong : true ≡ false = sym own ∙ none generation in
            cc)
            old.granted_once;
        ungranted = tt;
        settled = settled_failed log asks growth entry growth.ask.heap logged.added logged.last old.settled;
        drops =
            drops_beside (log ++ Drop run ∷ []) asks entry (λ place below. none place)
            (drops_more log asks run (inl last) old.drops);
      }

  -- runs of one heap each are dropped
  pub asks_dropped : (runs : List Run) → AreAsks pools log asks None → All (IsOfOneHeap log (table_of log)) runs
      → AreAsks pools (log ++ map (λ run. Drop run) runs) asks None
  asks_dropped runs old given = record {
    once = old.once;
    unanswered = tt;
    caused = caused_stays pools log (map (λ run. Drop run) runs) [] asks old.caused;
    in_time = old.in_time;
    noted = tt;
    granted = grants_stay log (map (λ run. Drop run) runs) asks old.granted;
    granted_once = old.granted_once;
    ungranted = tt;
    settled = settled_dropped log asks runs old.settled;
    drops = drops_dropped asks runs log given old.drops;
  }
