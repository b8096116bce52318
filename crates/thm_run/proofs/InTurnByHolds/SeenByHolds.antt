-- What a participant sees of the log by its own holds never falls: between the hold in which it made an ask and the one by which it has the
-- outcome the Add came that was granted, or the one that failed came and went.
use Rattle.std.proofs.Common.{◌≡◌, ◌≢◌, ◌∙◌, ◌==◌, ◌&&◌, ℕ, ◌+◌, ◌-◌, ◌<◌, ◌≤◌, Bool, true, false, not, List, [], ◌∷◌, ◌++◌, length, Option, Some, None, IfSome, Contains, nat_lt, inl, inr, refl, ap, sym, subst, arith, eq-eqb}
use Rattle.std.specs.List.{All, find, slice_get}
use Rattle.std.specs.Option.{option_map_or}
use Rattle.std.proofs.lemmas.Bool.{and_parts, cases_lt, eqb-true, false_from_ne_true, ltb-true, ne_eqb, not-true}
use Rattle.std.proofs.lemmas.List.Folds.{list_any-append}
use Rattle.std.proofs.lemmas.List.Elements.{Contains-append_cases, Contains-append_left}
use Rattle.std.proofs.lemmas.Option.{same_Some, slice_get_within}
use Rattle.hp_base.specs.declared.row.Run.{Run}
use Rattle.hp_heap.proofs.Members.{counted_once, find_some}
use Rattle.hp_hall.proofs.StandingFacts.StandingAsks.{closed_above}
use Rattle.hp_hall.proofs.StandingFacts.StandingLists.{found_in}
use Rattle.hp_log.specs.Log.{IsAddFor}
use Rattle.hp_log.specs.declared.log_record.LogRecord.{LogRecord}
use Rattle.hp_log.specs.declared.log_record.LogRecord.TheVariants.{Add, Drop}
use Rattle.hp_segs.specs.SegsView.{SegsView, closed_number, is_outcome_for, is_stale}
use Rattle.hp_segs.specs.Sound.{IsSound}
use Rattle.hp_segs.specs.SoundAsks.{grants, is_grant_of, is_granted, is_open}
use Rattle.hp_segs.specs.SoundRows.{IsLogged}
use Rattle.hp_segs.specs.declared.ask.Ask.{Ask}
use Rattle.hp_segs.specs.declared.growth.Growth.{Growth}
use Rattle.hp_segs.specs.declared.outcome.AskLog.{AskLog}
use Rattle.hp_segs.specs.declared.outcome.Outcome.{Outcome}
use Rattle.hp_segs.specs.declared.outcome.Outcome.TheVariants.{Freed, Granted, Refused, Stale}
use Rattle.hp_segs.proofs.SlotFacts.ListFacts.{or_off_parts}
use Rattle.hp_segs.proofs.AskFacts.Settled.{get_before}
use Rattle.hp_serve.specs.Asking.{ask_of}
use Rattle.hp_serve.specs.declared.pages_asked.PagesAsked.{PagesAsked}
use Rattle.hp_proc.proofs.LawLemmas.{find_stays}
use Rattle.hp_proc.specs.Doing.{Done}
use Rattle.hp_proc.specs.Seen.{adds_for, has_failed, seen_by, seen_by_ask, seen_in}
use Rattle.hp_weave.specs.Holds.{Chain, Hold, holds_of}
use Rattle.thm_run.proofs.AfterLemmas.{behind_longer, behind_then}
use Rattle.thm_run.proofs.GrownHeaps.GrantTurns.{among_read, grant_is}
use Rattle.thm_run.proofs.InTurnByHolds.NextHolds.{hold_after, next_hold, to_last}
use Rattle.thm_run.proofs.Rising.{Rises, rises_append, rises_lower, seen_rising}
use Rattle.thm_run.proofs.GrownHeaps.UngrantedAdds.{caused_at}
use Rattle.thm_run.specs.OwnHolds.{DoesInHolds, GoesOn, HasLater, IsAskedBetween, NoneGrows, SeesByHolds}

-- ONE ASK

-- the record of a generation that is found to add a run for the heap is an Add for it
added_by : (log : List LogRecord) (heap generation : ℕ) (found : Option LogRecord) → slice_get log (generation - 1) ≡ found
    → option_map_or (adds_for heap) found false ≡ true → IsAddFor log generation heap
added_by log heap generation None here is = cc
added_by log heap generation (Some (Add run for)) here is =
    record { run = run; added = here ∙ ap (λ (for : ℕ). Some (Add run for)) (eqb-true for heap is) }
added_by log heap generation (Some (Drop run)) here is = cc

-- an Add for a heap for which no growth is open is not the open one
not_open : (segs : SegsView) (heap place : ℕ) (run : Run) (growth : Option Growth) → IsLogged segs.pools segs.log segs.segments growth
    → IfSome growth (λ growth. growth.ask.heap ≢ heap) → slice_get segs.log place ≡ Some (Add run heap)
    → is_open growth (place + 1) ≡ false
not_open segs heap place run None logged none added = refl
not_open segs heap place run (Some growth) logged none added =
    ne_eqb growth.generation (place + 1) (λ same.
    let here : growth.generation - 1 ≡ place = omega (arith, same) in
    let one : Some (Add growth.run growth.ask.heap) ≡ Some (Add run heap) =
    sym logged.added ∙ (ap (slice_get segs.log) here ∙ added) in
    let its : growth.ask.heap ≡ heap = cc in
    none its)

-- so where it is not granted a record stands after it: its Drop
followed : (segs : SegsView) (heap generation : ℕ) (run : Run) → IsSound segs → NoneGrows heap segs → 0 < generation
    → slice_get segs.log (generation - 1) ≡ Some (Add run heap) → is_granted segs.asks generation ≡ false
    → generation < length segs.log
followed segs heap generation run sound none some added ungranted =
    let next : generation - 1 + 1 ≡ generation = omega (arith, some) in
    let off : is_granted segs.asks (generation - 1 + 1) ≡ false = ap (is_granted segs.asks) next ∙ ungranted in
    let gone = sound.asks.settled (generation - 1) run heap added
    (not_open segs heap (generation - 1) run segs.growth sound.rows.logged none added) off in
    omega (arith, next, slice_get_within segs.log (generation - 1 + 1) (Drop run) gone)

-- what was not granted later was not before
ungranted_before : (old new : SegsView) (generation : ℕ) → HasLater old new → is_granted new.asks generation ≡ false
    → is_granted old.asks generation ≡ false
ungranted_before old new generation later off =
    (or_off_parts (is_granted old.asks generation) (is_granted later.others generation)
    (sym (list_any-append (grants generation) old.asks later.others)
    ∙ (ap (λ asks. is_granted asks generation) (sym later.asks) ∙ off))).0

-- and a record that was there later was there before, among so many
record_before : (old new : SegsView) (place : ℕ) (entry : LogRecord) → HasLater old new → place < length old.log
    → slice_get new.log place ≡ Some entry → slice_get old.log place ≡ Some entry
record_before old new place entry later within there =
    sym (get_before old.log later.more place within) ∙ (ap (λ log. slice_get log place) (sym later.log) ∙ there)

module _ (who number : ℕ) (asked : PagesAsked) (run : Option Run) (armed heard last : SegsView) (was : IsSound armed) (sound : IsSound heard)
    (mid : HasLater armed heard) (on : HasLater heard last) (is : IsAskedBetween who number asked run armed heard) where
  abbrev entry : AskLog
  entry = is.answer.entry

  its : (is_outcome_for who number entry ≡ true) × Contains heard.asks entry
  its = find_some (is_outcome_for who number) heard.asks entry is.answer.logged

  -- its outcome was not there when it was made
  not_before : Contains armed.asks entry → ⊥
  not_before early =
      let both = and_parts (entry.from == who) ((entry.number == number) && not (is_stale entry.outcome)) its.0 in
      let rest = and_parts (entry.number == number) (not (is_stale entry.outcome)) both.1 in
      let closed : entry.number ≤ closed_number armed.asks who =
      subst (λ from. entry.number ≤ closed_number armed.asks from) (eqb-true entry.from who both.0)
      (closed_above armed.asks entry early (not-true (is_stale entry.outcome) rest.1)) in
      omega (arith, closed, is.fresh, eqb-true entry.number number rest.0)

  since : length armed.log ≤ entry.at
  since =
      elim (Contains-append_cases armed.asks mid.others entry (subst (λ asks. Contains asks entry) mid.asks its.1)) [
        | inl early ↦ absurd (not_before early)
        | inr late ↦ mid.since entry late
      ]

  within : entry.at ≤ length heard.log
  within =
      let read = among_read heard.asks entry its.1 in
      (caused_at heard.pools heard.log [] heard.asks read.0 entry sound.asks.caused read.1).is.within

  -- an Add for its heap, not granted when it was made, came after that
  came : (generation : ℕ) (its_run : Run) → 0 < generation → length armed.log ≤ generation → generation ≤ length heard.log
      → slice_get heard.log (generation - 1) ≡ Some (Add its_run asked.heap) → is_granted armed.asks generation ≡ false
      → length armed.log < generation
  came generation its_run some from to added ungranted =
      elim (cases_lt (length armed.log) generation) [
        | inl later ↦ later
        | inr level ↦
            omega (
              arith,
              from,
              followed armed asked.heap generation its_run was is.before some
                  (record_before armed heard (generation - 1) (Add its_run asked.heap) mid (omega (arith, some, level)) added) ungranted,
            )
      ]

  -- what a grant grants came after it was made
  pub granted_later : (generation : ℕ) → entry.outcome ≡ Granted generation → length armed.log < generation
  granted_later generation granted =
      let (ask, its_run, grant) = grant_is heard entry sound its.1 generation granted in
      let same : ask ≡ ask_of who number asked = same_Some ask (ask_of who number asked) (sym grant.kept ∙ is.answer.kept) in
      let added : slice_get heard.log (generation - 1) ≡ Some (Add its_run asked.heap) =
      grant.grown.added ∙ ap (λ (ask : Ask). Some (Add its_run ask.heap)) same in
      came generation its_run grant.grown.some (omega (arith, since, grant.at)) (omega (arith, within, grant.at)) added
      (ungranted generation granted)
    where
      ungranted : (generation : ℕ) → entry.outcome ≡ Granted generation → is_granted armed.asks generation ≡ false
      ungranted generation granted =
          false_from_ne_true (is_granted armed.asks generation) (λ has.
          let found = found_in (grants generation) armed.asks has in
          let there : Contains heard.asks found.element =
          subst (λ asks. Contains asks found.element) (sym mid.asks)
          (Contains-append_left armed.asks mid.others found.element found.among) in
          let same : found.element ≡ entry =
          counted_once (grants generation) heard.asks found.element entry (sound.asks.granted_once generation) (found.passes, there)
          (ap (is_grant_of generation) granted ∙ eq-eqb generation generation refl, its.1) in
          not_before (subst (Contains armed.asks) same found.among))

  granted_rises : (generation : ℕ) → entry.outcome ≡ Granted generation
      → Rises (length armed.log) (length heard.log) ((generation - 1) ∷ generation ∷ [])
  granted_rises generation granted =
      let (ask, its_run, grant) = grant_is heard entry sound its.1 generation granted in
      let later = granted_later generation granted in
      (omega (arith, later), (omega arith, omega (arith, within, grant.at)))

  -- a growth for its heap that failed
  failed_rises : has_failed last.log last.asks asked.heap entry.at ≡ true
      → Rises (length armed.log) (length heard.log) ((entry.at - 1) ∷ (entry.at + 1) ∷ [])
  failed_rises fails =
      let adds = option_map_or (adds_for asked.heap) (slice_get last.log (entry.at - 1)) false in
      let parts = and_parts (nat_lt 0 entry.at) (adds && not (is_granted last.asks entry.at)) fails in
      let more = and_parts adds (not (is_granted last.asks entry.at)) parts.1 in
      let some : 0 < entry.at = ltb-true 0 entry.at parts.0 in
      let add = added_by last.log asked.heap entry.at (slice_get last.log (entry.at - 1)) refl more.0 in
      let added = record_before heard last (entry.at - 1) (Add add.run asked.heap) on (omega (arith, some, within)) add.added in
      let off = ungranted_before heard last entry.at on (not-true (is_granted last.asks entry.at) more.1) in
      let later = came entry.at add.run some since within added (ungranted_before armed heard entry.at mid off) in
      let gone = followed heard asked.heap entry.at add.run sound is.after some added off in
      (omega (arith, later), (omega arith, omega (arith, gone)))

  rises_by : (failed : Bool) (outcome : Outcome) → entry.outcome ≡ outcome → has_failed last.log last.asks asked.heap entry.at ≡ failed
      → Rises (length armed.log) (length heard.log) (seen_by failed entry.at outcome)
  rises_by failed (Granted generation) is_so fails = granted_rises generation is_so
  rises_by true (Refused cause) is_so fails = failed_rises fails
  rises_by false (Refused cause) is_so fails = (since, (omega arith, within))
  rises_by failed (Stale done) is_so fails = behind_longer armed heard mid
  rises_by failed (Freed generation) is_so fails = behind_longer armed heard mid

  -- what it shows lies between the records when it was made and those when its outcome was heard
  ask_rises : Rises (length armed.log) (length heard.log)
      (seen_by_ask last.log last.asks asked.heap (find (is_outcome_for who number) last.asks))
  ask_rises =
      let found : find (is_outcome_for who number) last.asks ≡ Some entry =
      ap (find (is_outcome_for who number)) on.asks
      ∙ find_stays (is_outcome_for who number) heard.asks on.others entry is.answer.logged in
      subst (λ found. Rises (length armed.log) (length heard.log) (seen_by_ask last.log last.asks asked.heap found)) (sym found)
      (rises_by (has_failed last.log last.asks asked.heap entry.at) entry.outcome refl refl)

-- ALL OF THEM

module _ (who : ℕ) (last : SegsView) where
  abbrev shown : ℕ → List Done → List ℕ
  shown number trace = seen_in last.log last.asks who number trace

  -- what it sees from a value on
  sees_on : (number : ℕ) (trace : List Done) (holds : List (Hold SegsView)) → DoesInHolds who number trace holds → (from : SegsView)
      (all : List (Hold SegsView)) → Chain from all last → All GoesOn all → holds_of who all ≡ holds
      → Rises (length from.log) (length last.log) (shown number trace)
  sees_on _ _ _ (DoesInHolds.ends number) from all chain each own = behind_longer from last (to_last who last from all chain each)
  sees_on _ _ _ (DoesInHolds.passes number trace hold holds stays does) from all chain each own =
      let next = next_hold who last all from hold holds chain each own in
      rises_lower (length from.log) (length hold.given.log) (length last.log) (shown number trace)
      (behind_longer from hold.given (behind_then from hold.taken hold.given next.before next.goes.later))
      (sees_on number trace holds does hold.given next.rest next.chain next.each next.own)
  sees_on _ _ _ (DoesInHolds.looks number trace hold holds stays does) from all chain each own =
      let next = next_hold who last all from hold holds chain each own in (
        behind_longer from hold.taken next.before,
        rises_lower (length hold.taken.log) (length hold.given.log) (length last.log) (shown number trace)
            (behind_longer hold.taken hold.given next.goes.later)
            (sees_on number trace holds does hold.given next.rest next.chain next.each next.own),
      )
  sees_on _ _ _ (DoesInHolds.asks number asked run trace arming between hearing holds is stays does) from all chain each own =
      let made = next_hold who last all from arming (between ++ hearing ∷ holds) chain each own in
      let heard = hold_after who last arming.given made.rest between hearing holds made.chain made.each made.own in
      let one : List ℕ = seen_by_ask last.log last.asks asked.heap (find (is_outcome_for who number) last.asks) in
      rises_lower (length from.log) (length arming.given.log) (length last.log) (one ++ shown (number + 1) trace)
      (behind_longer from arming.given (behind_then from arming.taken arming.given made.before made.goes.later))
      (rises_append (length arming.given.log) (length hearing.given.log) (length last.log) one (shown (number + 1) trace)
      (ask_rises who number asked run arming.given hearing.given last made.goes.sound heard.goes.sound
      (behind_then arming.given hearing.taken hearing.given heard.before heard.goes.later)
      (to_last who last hearing.given heard.rest heard.chain heard.each) is)
      (sees_on (number + 1) trace holds does hearing.given heard.rest heard.chain heard.each heard.own))
  sees_on _ _ _ (DoesInHolds.gives_up number heap run trace holds does) from all chain each own =
      sees_on (number + 1) trace holds does from all chain each own
  sees_on _ _ _ (DoesInHolds.calls number heap call answer trace holds does) from all chain each own =
      sees_on number trace holds does from all chain each own
  sees_on _ _ _ (DoesInHolds.reads_names number names trace holds does) from all chain each own =
      sees_on number trace holds does from all chain each own
  sees_on _ _ _ (DoesInHolds.reads_stats number heap counted trace holds does) from all chain each own =
      sees_on number trace holds does from all chain each own
  sees_on _ _ _ (DoesInHolds.changes_names number change trace holds does) from all chain each own =
      sees_on number trace holds does from all chain each own
  sees_on _ _ _ (DoesInHolds.sees_heap number heap history trace holds does) from all chain each own =
      sees_on number trace holds does from all chain each own
  sees_on _ _ _ (DoesInHolds.plans_range number addr len page plan trace holds does) from all chain each own =
      sees_on number trace holds does from all chain each own
  sees_on _ _ _ (DoesInHolds.maps_chunk number chunk ended trace holds does) from all chain each own =
      sees_on number trace holds does from all chain each own
  sees_on _ _ _ (DoesInHolds.catches_up number to caught trace holds does) from all chain each own =
      sees_on number trace holds does from all chain each own

pub sees_by_holds : SeesByHolds
sees_by_holds who first last holds trace chain each does =
    seen_rising (length last.log) (seen_in last.log last.asks who 1 trace)
    (rises_lower 0 (length first.log) (length last.log) (seen_in last.log last.asks who 1 trace) (omega arith)
    (sees_on who last 1 trace (holds_of who holds) does first holds chain each refl))
