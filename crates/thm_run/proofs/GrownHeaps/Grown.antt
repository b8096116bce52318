-- In a line each heap grew by what was granted for it then, in the order of the log.
use Rattle.std.proofs.Common.{◌≡◌, ◌==◌, ◌∙◌, ℕ, zero, suc, ◌+◌, ◌-◌, Bool, true, false, ◌&&◌, cond, List, [], ◌∷◌, ◌++◌, length, map, Option, Some, None, Contains, slice_get, find, refl, ap, sym, arith, if◌then◌else◌}
use Rattle.std.specs.Option.{option_map_or, option_to_list}
use Rattle.std.proofs.lemmas.Bool.{and_parts, eq-eqb, eqb-true}
use Rattle.std.proofs.lemmas.List.{map-append}
use Rattle.hp_base.specs.declared.row.Run.{Run}
use Rattle.hp_hall.proofs.StandingFacts.StandingLists.{any_contained, found_in}
use Rattle.hp_log.specs.declared.log_record.LogRecord.{LogRecord}
use Rattle.hp_log.specs.declared.log_record.LogRecord.TheVariants.{Add, Drop}
use Rattle.hp_segs.specs.SegsView.{SegsView, is_outcome_for}
use Rattle.hp_segs.specs.SoundAsks.{grants, is_grant_of, is_granted as has_grant}
use Rattle.hp_segs.specs.declared.outcome.AskLog.{AskLog}
use Rattle.hp_segs.specs.declared.outcome.Outcome.TheVariants.{Granted}
use Rattle.hp_proc.specs.Courses.{numbered_in}
use Rattle.hp_proc.specs.Doing.{Done}
use Rattle.hp_proc.specs.Doing.Done.{Asked}
use Rattle.hp_segs.specs.GrantedRuns.{added_for, granted_runs}
use Rattle.hp_serve.specs.declared.pages_asked.PagesAsked.{PagesAsked}
use Rattle.thm_run.proofs.GrownHeaps.GrantedAsks.{AreSettled, IsGrantedBy, granted_by, granted_for, granted_later, grants_rise, same_outcome}
use Rattle.thm_run.proofs.GrownHeaps.GrownTraces.{run_for, runs_for, runs_numbered}
use Rattle.thm_run.proofs.Picked.{PicksRising, picked, picked_at, picked_rise, picks_at, same_rising}
use Rattle.thm_run.proofs.GrownHeaps.GrantTurns.{grant_of_generation}

-- the generation of the record that stood last when an ask was answered
abbrev generation_of : ℕ → List AskLog → ℕ → ℕ
generation_of who asks number = option_map_or (λ entry. entry.at) (find (is_outcome_for who number) asks) 0

-- the granted asks for a heap, each with its generation
abbrev granted_ask : ℕ → ℕ → List AskLog → ℕ → Done → Option (ℕ × Run)
granted_ask who index asks number (Asked asked (Some run)) = if asked.heap == index then Some (generation_of who asks number, run) else None
granted_ask who index asks number _ = None

-- the granted records for a heap, each with its generation
abbrev granted_record : ℕ → List AskLog → ℕ → LogRecord → Option (ℕ × Run)
granted_record index asks generation (Add run for) = if has_grant asks generation && (for == index) then Some (generation, run) else None
granted_record index asks generation (Drop run) = None

-- their runs
abbrev runs_of : List (ℕ × Run) → List Run
runs_of pairs = map (λ pair. pair.1) pairs

run_of_ask : (who index : ℕ) (asks : List AskLog) (number : ℕ) (done : Done)
    → runs_of (option_to_list (granted_ask who index asks number done)) ≡ run_for index done
run_of_ask who index asks number (Asked asked (Some run)) = by_heap (asked.heap == index) where
  by_heap : (mine : Bool) → runs_of (option_to_list (cond mine (Some (generation_of who asks number, run)) None)) ≡ cond mine (run ∷ []) []
  by_heap true = refl
  by_heap false = refl
run_of_ask who index asks number _ = refl

run_of_record : (index : ℕ) (asks : List AskLog) (generation : ℕ) (entry : LogRecord)
    → runs_of (option_to_list (granted_record index asks generation entry)) ≡ added_for index (has_grant asks generation) entry
run_of_record index asks generation (Add run for) = by_heap (has_grant asks generation && (for == index)) where
  by_heap : (mine : Bool) → runs_of (option_to_list (cond mine (Some (generation, run)) None)) ≡ cond mine (run ∷ []) []
  by_heap true = refl
  by_heap false = refl
run_of_record index asks generation (Drop run) = refl

asks_are : (who index : ℕ) (asks : List AskLog) (number : ℕ) (dones : List Done)
    → runs_of (picked (granted_ask who index asks) number dones) ≡ runs_for index dones
asks_are who index asks number [] = refl
asks_are who index asks number (done ∷ dones) =
    map-append (λ (pair : ℕ × Run). pair.1) (option_to_list (granted_ask who index asks number done))
    (picked (granted_ask who index asks) (number + 1) dones)
    ∙ (ap (λ runs. runs ++ runs_of (picked (granted_ask who index asks) (number + 1) dones)) (run_of_ask who index asks number done)
    ∙ ap (λ runs. run_for index done ++ runs) (asks_are who index asks (number + 1) dones))

records_are : (index : ℕ) (asks : List AskLog) (generation : ℕ) (log : List LogRecord)
    → runs_of (picked (granted_record index asks) generation log) ≡ granted_runs index asks generation log
records_are index asks generation [] = refl
records_are index asks generation (entry ∷ log) =
    map-append (λ (pair : ℕ × Run). pair.1) (option_to_list (granted_record index asks generation entry))
    (picked (granted_record index asks) (generation + 1) log)
    ∙ (ap (λ runs. runs ++ runs_of (picked (granted_record index asks) (generation + 1) log)) (run_of_record index asks generation entry)
    ∙ ap (λ runs. added_for index (has_grant asks generation) entry ++ runs) (records_are index asks (generation + 1) log))

-- what is picked of asks
record IsAskPicked (who index : ℕ) (asks : List AskLog) (number : ℕ) (done : Done) (pair : ℕ × Run) : Type 0 where
  pub asked : PagesAsked
  pub run : Run
  pub is : done ≡ Asked asked (Some run)
  pub mine : asked.heap ≡ index
  pub pair_is : pair ≡ (generation_of who asks number, run)

ask_picked : (who index : ℕ) (asks : List AskLog) (number : ℕ) (done : Done) (pair : ℕ × Run)
    → granted_ask who index asks number done ≡ Some pair
    → IsAskPicked who index asks number done pair
ask_picked who index asks number (Asked asked (Some run)) pair picks = by_heap (asked.heap == index) refl picks where
  by_heap : (mine : Bool) → (asked.heap == index) ≡ mine → cond mine (Some (generation_of who asks number, run)) None ≡ Some pair
      → IsAskPicked who index asks number (Asked asked (Some run)) pair
  by_heap true is picks = record { asked = asked; run = run; is = refl; mine = eqb-true asked.heap index is; pair_is = cc }
  by_heap false is picks = cc
ask_picked who index asks number _ pair picks = cc

-- and of records
record IsRecordPicked (index : ℕ) (asks : List AskLog) (generation : ℕ) (entry : LogRecord) (pair : ℕ × Run) : Type 0 where
  pub run : Run
  pub is : entry ≡ Add run index
  pub granted : has_grant asks generation ≡ true
  pub pair_is : pair ≡ (generation, run)

record_picked : (index : ℕ) (asks : List AskLog) (generation : ℕ) (entry : LogRecord) (pair : ℕ × Run)
    → granted_record index asks generation entry ≡ Some pair → IsRecordPicked index asks generation entry pair
record_picked index asks generation (Add run for) pair picks = by_heap (has_grant asks generation && (for == index)) refl picks where
  by_heap : (mine : Bool) → (has_grant asks generation && (for == index)) ≡ mine → cond mine (Some (generation, run)) None ≡ Some pair
      → IsRecordPicked index asks generation (Add run for) pair
  by_heap true is picks =
      let parts = and_parts (has_grant asks generation) (for == index) is in
      record { run = run; is = ap (Add run) (eqb-true for index parts.1); granted = parts.0; pair_is = cc }
  by_heap false is picks = cc
record_picked index asks generation (Drop run) pair picks = cc

-- a generation that is granted is so by an outcome among the others
granted_among : (generation : ℕ) (asks : List AskLog) → has_grant asks generation ≡ true
    → (entry : AskLog) × (entry.outcome ≡ Granted generation) × Contains asks entry
granted_among generation asks has =
    let found = found_in (grants generation) asks has in
    (found.element, grant_of_generation generation found.element.outcome found.passes, found.among)

among_granted : (generation : ℕ) (asks : List AskLog) (entry : AskLog) → Contains asks entry → entry.outcome ≡ Granted generation
    → has_grant asks generation ≡ true
among_granted generation asks entry among granted =
    any_contained (grants generation) asks entry among (ap (is_grant_of generation) granted ∙ eq-eqb generation generation refl)

-- a record after others is that of its place among those that came
pub get_behind : {X : Type 0} (xs ys : List X) (place at : ℕ) → at ≡ length xs + place → slice_get (xs ++ ys) at ≡ slice_get ys place
get_behind [] ys place at is =
    let same : at ≡ place = omega (arith, is) in
    ap (slice_get ys) same
get_behind (x ∷ xs) ys place zero is = absurd (omega (arith, is))
get_behind (x ∷ xs) ys place (suc at) is = get_behind xs ys place at (omega (arith, is))

-- a line of a participant that had taken so many numbers, which began with a log to which more came
module _ (who before : ℕ) (log more : List LogRecord) (segs : SegsView) (is_log : segs.log ≡ log ++ more) (trace : List Done)
    (settled : AreSettled who before (length log) segs trace) (index : ℕ) where
  abbrev start : ℕ
  start = length log

  -- the records that came, by their place
  came_at : (place at : ℕ) → at ≡ start + place → slice_get segs.log at ≡ slice_get more place
  came_at place at is = ap (λ log. slice_get log at) is_log ∙ get_behind log more place at is

  abbrev of_asks : List (ℕ × Run)
  of_asks = picked (granted_ask who index segs.asks) (before + 1) (numbered_in trace)

  abbrev of_records : List (ℕ × Run)
  of_records = picked (granted_record index segs.asks) (start + 1) more

  generation_is : (place : ℕ) (asked : PagesAsked) (run : Run) → (by : IsGrantedBy who segs (before + 1 + place) asked run)
      → generation_of who segs.asks (before + 1 + place) ≡ by.generation
  generation_is place asked run by =
      (ap (λ found. option_map_or (λ (entry : AskLog). entry.at) found 0) by.found ∙ sym by.at)

  picks_record : (number generation : ℕ) (run : Run) (for : ℕ) (pair : ℕ × Run) → number ≡ generation
      → has_grant segs.asks generation ≡ true
      → for ≡ index → pair ≡ (generation, run) → granted_record index segs.asks number (Add run for) ≡ Some pair
  picks_record number generation run for pair same granted mine is = rw (same, granted, eq-eqb for index mine) (ap Some (sym is))

  picks_ask : (number generation : ℕ) (asked : PagesAsked) (run : Run) (pair : ℕ × Run) → generation_of who segs.asks number ≡ generation
      → asked.heap ≡ index → pair ≡ (generation, run) → granted_ask who index segs.asks number (Asked asked (Some run)) ≡ Some pair
  picks_ask number generation asked run pair same mine is = rw (eq-eqb asked.heap index mine, same) (ap Some (sym is))

  -- a granted ask has its record
  there : (pair : ℕ × Run) → Contains of_asks pair → Contains of_records pair
  there pair among =
      let at = picked_at (granted_ask who index segs.asks) (before + 1) (numbered_in trace) pair among in
      let its = ask_picked who index segs.asks (before + 1 + at.place) at.element pair at.picks in
      let by = granted_by who before start segs trace settled at.place its.asked its.run (at.there ∙ ap Some its.is) in
      let past = granted_later who before start segs trace settled at.place its.asked its.run by in
      let place : ℕ = by.generation - (start + 1) in
      let number : start + 1 + place ≡ by.generation = omega (arith, past) in
      let pair_is : pair ≡ (by.generation, its.run) =
      its.pair_is ∙ ap (λ (generation : ℕ). (generation, its.run)) (generation_is at.place its.asked its.run by) in
      picks_at (granted_record index segs.asks) (start + 1) more pair (record {
        place = place;
        element = Add its.run its.asked.heap;
        there = sym (came_at place (by.generation - 1) (omega (arith, past))) ∙ by.grown.added;
        picks = picks_record (start + 1 + place) by.generation its.run its.asked.heap pair number
            (among_granted by.generation segs.asks by.entry by.among by.granted) its.mine pair_is;
      })

  -- a granted record has its ask
  back : (pair : ℕ × Run) → Contains of_records pair → Contains of_asks pair
  back pair among =
      let at = picked_at (granted_record index segs.asks) (start + 1) more pair among in
      let its = record_picked index segs.asks (start + 1 + at.place) at.element pair at.picks in
      let (entry, granted, has) = granted_among (start + 1 + at.place) segs.asks its.granted in
      let (place, asked, run, is, number, from) =
      granted_for who before start segs trace settled entry (start + 1 + at.place) has granted (omega arith) in
      let by = granted_by who before start segs trace settled place asked run is in
      asked_back pair at.place its.run place asked run is by (at.there ∙ ap Some its.is) its.pair_is
      (same_generation entry (start + 1 + at.place) place asked run has granted number from by)
    where
      same_generation : (entry : AskLog) (generation place : ℕ) (asked : PagesAsked) (run : Run) → Contains segs.asks entry
          → entry.outcome ≡ Granted generation → entry.number ≡ before + 1 + place → entry.from ≡ who
          → (by : IsGrantedBy who segs (before + 1 + place) asked run)
          → by.generation ≡ generation
      same_generation entry generation place asked run has granted number from by =
          let same =
          same_outcome who before start segs trace settled entry by.entry generation by.generation has by.among granted by.granted from
          by.from (number ∙ sym by.its) in
          let one : Granted by.generation ≡ Granted generation =
          sym by.granted ∙ (ap (λ (entry : AskLog). entry.outcome) (sym same) ∙ granted) in
          cc

      asked_back : (pair : ℕ × Run) (record_place : ℕ) (added : Run) (place : ℕ) (asked : PagesAsked) (run : Run)
          → slice_get (numbered_in trace) place ≡ Some (Asked asked (Some run)) → (by : IsGrantedBy who segs (before + 1 + place) asked run)
          → slice_get more record_place ≡ Some (Add added index) → pair ≡ (start + 1 + record_place, added)
          → by.generation ≡ start + 1 + record_place
          → Contains of_asks pair
      asked_back pair record_place added place asked run is by here pair_is generation =
          let one : Some (Add run asked.heap) ≡ Some (Add added index) =
          sym by.grown.added ∙ (came_at record_place (by.generation - 1) (omega (arith, generation)) ∙ here) in
          let its_run : run ≡ added = cc in
          let its_heap : asked.heap ≡ index = cc in
          let number : generation_of who segs.asks (before + 1 + place) ≡ start + 1 + record_place =
          generation_is place asked run by ∙ generation in
          let its_pair : pair ≡ (start + 1 + record_place, run) =
          pair_is ∙ ap (λ (run : Run). (start + 1 + record_place, run)) (sym its_run) in
          picks_at (granted_ask who index segs.asks) (before + 1) (numbered_in trace) pair (record {
            place = place;
            element = Asked asked (Some run);
            there = is;
            picks = picks_ask (before + 1 + place) (start + 1 + record_place) asked run pair number its_heap its_pair;
          })

  asks_rise : PicksRising (granted_ask who index segs.asks) (before + 1) (numbered_in trace)
  asks_rise first second x z y w order one two picks_one picks_two =
      let its = ask_picked who index segs.asks (before + 1 + first) x y picks_one in
      let other = ask_picked who index segs.asks (before + 1 + second) z w picks_two in
      let by = granted_by who before start segs trace settled first its.asked its.run (one ∙ ap Some its.is) in
      let by_other = granted_by who before start segs trace settled second other.asked other.run (two ∙ ap Some other.is) in
      let rise = grants_rise who before start segs trace settled first second its.asked other.asked its.run other.run order by by_other in
      let key_one : y.0 ≡ by.generation = ap (λ (pair : ℕ × Run). pair.0) its.pair_is ∙ generation_is first its.asked its.run by in
      let key_two : w.0 ≡ by_other.generation = ap (λ (pair : ℕ × Run). pair.0) other.pair_is
      ∙ generation_is second other.asked other.run by_other in
      omega (arith, rise, key_one, key_two)

  records_rise : PicksRising (granted_record index segs.asks) (start + 1) more
  records_rise first second x z y w order one two picks_one picks_two =
      let its = record_picked index segs.asks (start + 1 + first) x y picks_one in
      let other = record_picked index segs.asks (start + 1 + second) z w picks_two in
      omega (arith, order, ap (λ (pair : ℕ × Run). pair.0) its.pair_is, ap (λ (pair : ℕ × Run). pair.0) other.pair_is)

  -- the granted asks of a line for a heap are the records that were granted for it then, in their order
  pub asks_are_records : runs_for index trace ≡ granted_runs index segs.asks (start + 1) more
  asks_are_records =
      let same : of_asks ≡ of_records =
      same_rising of_asks of_records (picked_rise (granted_ask who index segs.asks) (before + 1) (numbered_in trace) asks_rise)
      (picked_rise (granted_record index segs.asks) (start + 1) more records_rise) there back in
      sym (runs_numbered index trace)
      ∙ (sym (asks_are who index segs.asks (before + 1) (numbered_in trace))
      ∙ (ap runs_of same ∙ records_are index segs.asks (start + 1) more))
