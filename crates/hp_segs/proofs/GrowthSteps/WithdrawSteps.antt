-- An armed ask is taken back by the places that are set aside for it.
use Rattle.std.proofs.Common.{◌≡◌, ◌==◌, ℕ, ◌+◌, ◌-◌, ◌<◌, ◌≤◌, Bool, true, false, List, [], ◌∷◌, ◌++◌, length, Option, Some, None, refl, sym, subst, arith, count_by, eq-eqb, if◌then◌else◌}
use Rattle.std.proofs.lemmas.Bool.{and_from, and_parts, eqb-true}
use Rattle.hp_base.specs.declared.row.Run.{Run}
use Rattle.hp_log.specs.declared.log_record.LogRecord.TheVariants.{Drop}
use Rattle.hp_segs.specs.AsksView.{AsksView}
use Rattle.hp_segs.specs.Calls.{MayWithdraw}
use Rattle.hp_segs.specs.LaterSteps.{armed_ask, grows_for, run_for, withdrawn_growth}
use Rattle.hp_segs.specs.SegsLayout.{IsKept, view_of}
use Rattle.hp_segs.specs.SegsView.{SegsView, grant_or_refusal_of, is_unanswered}
use Rattle.hp_segs.specs.Returned.{AreReturned}
use Rattle.hp_segs.specs.Sound.{IsSound}
use Rattle.hp_segs.specs.SoundAsks.{AreAsks}
use Rattle.hp_segs.specs.Steps.{after_failure, without_run}
use Rattle.hp_segs.specs.Table.{TableView}
use Rattle.hp_segs.specs.declared.ask.Ask.{Ask}
use Rattle.hp_segs.specs.declared.external_range.ExternalRange.{ExternalRange}
use Rattle.hp_segs.specs.declared.growth.Growth.{Growth}
use Rattle.hp_segs.specs.declared.outcome.AskLog.{AskLog}
use Rattle.hp_segs.specs.declared.outcome.Cause.TheVariants.{Withdrawn}
use Rattle.hp_segs.specs.declared.outcome.Outcome.TheVariants.{Refused}
use Rattle.hp_segs.proofs.AskFacts.ClosedLemmas.{aside_falls}
use Rattle.hp_segs.proofs.RowTables.KeptLemmas.{logged_more}
use Rattle.hp_segs.proofs.RowTables.KeptSteps.{kept_answered}
use Rattle.hp_segs.proofs.SoundSteps.{armed_unanswered, armed_with, sound_refused}

-- the open growth, where it is of an ask
pub record IsOwnGrowth (growth : Option Growth) (from number : ℕ) (run : Run) : Type 0 where
  pub grown : Growth
  pub is : growth ≡ Some grown
  pub own : grows_for from number grown ≡ true
  pub its_run : grown.run ≡ run

own_by : (from number : ℕ) (grown : Growth) (run : Run) (own : Bool) → grows_for from number grown ≡ own
    → (if own then Some grown.run else None) ≡ Some run → IsOwnGrowth (Some grown) from number run
own_by from number grown run true own is =
    let same : grown.run ≡ run = cc in
    record { grown = grown; is = refl; own = own; its_run = same }
own_by from number grown run false own is = cc

pub own_growth : (growth : Option Growth) (from number : ℕ) (run : Run) → run_for from number growth ≡ Some run → IsOwnGrowth growth from number run
own_growth None from number run is = cc
own_growth (Some grown) from number run is = own_by from number grown run (grows_for from number grown) refl is

no_run : (own : Bool) (run : Run) → (if own then Some run else None) ≡ None → own ≡ false
no_run true run none = cc
no_run false run none = refl

-- the value after an ask without an open growth is withdrawn
abbrev logged_off : ℕ → ℕ → ℕ → ℕ → SegsView → SegsView
logged_off from number since now segs = record segs {
  asks = segs.asks ++ record {
    from = from;
    number = number;
    outcome = Refused (Withdrawn since now);
    at = length segs.log;
    ask = armed_ask segs from;
  } ∷ [];
}

logged_by : (from number since now : ℕ) (segs : SegsView) (growth : Option Growth) → run_for from number growth ≡ None
    → IsSound (withdrawn_growth from number (Withdrawn since now) segs growth) → IsSound (logged_off from number since now segs)
logged_by from number since now segs None off sound = sound
logged_by from number since now segs (Some grown) off sound =
    let other : grows_for from number grown ≡ false = no_run (grows_for from number grown) grown.run off in
    subst
    (λ b. IsSound (if b then after_failure grown (Withdrawn since now) (armed_ask segs from) 0 segs else logged_off from number since now segs))
    other sound

undone_by : (from number since now : ℕ) (segs : SegsView) (grown : Growth) → grows_for from number grown ≡ true
    → IsSound (withdrawn_growth from number (Withdrawn since now) segs (Some grown))
    → IsSound (after_failure grown (Withdrawn since now) (armed_ask segs from) 0 segs)
undone_by from number since now segs grown own sound =
    subst
    (λ b. IsSound (if b then after_failure grown (Withdrawn since now) (armed_ask segs from) 0 segs else logged_off from number since now segs))
    own sound

-- the outcome by which an ask is withdrawn
abbrev pub withdrawal : SegsView → ℕ → ℕ → ℕ → ℕ → AskLog
withdrawal segs from number since now = record {
  from = from;
  number = number;
  outcome = Refused (Withdrawn since now);
  at = length segs.log;
  ask = armed_ask segs from;
}

module _ {table : TableView} {asks : AsksView} {retiring : List Run} {retired : List (ℕ × Run)} {growth : Option Growth} {roster : List Bool} {armed : List (Option Ask)} {ranges : List ExternalRange} {spare room : ℕ} where
  falls : (from number since now : ℕ) → IsKept table asks retiring retired growth roster armed ranges spare room
      → MayWithdraw from number (view_of table asks retiring retired growth roster armed ranges spare) → grant_or_refusal_of asks.entries from number ≡ None
      → count_by (is_unanswered (asks.entries ++ withdrawal (view_of table asks retiring retired growth roster armed ranges spare) from number since now ∷ [])) armed + 1 ≤ count_by (is_unanswered asks.entries) armed
  falls from number since now kept may none =
      let view : SegsView = view_of table asks retiring retired growth roster armed ranges spare in
      let own = armed_with view from number kept.sound may in
      aside_falls asks.entries (withdrawal (view_of table asks retiring retired growth roster armed ranges spare) from number since now) armed from own.ask own.here
      (and_from (from == own.ask.from) _ (eq-eqb from own.ask.from (sym own.who))
      (and_from (number == own.ask.number) true (eq-eqb number own.ask.number (sym own.which)) refl))
      (armed_unanswered view from number own none)

  -- two places are there
  pub has_places : (from number since now : ℕ) → IsKept table asks retiring retired growth roster armed ranges spare room
      → MayWithdraw from number (view_of table asks retiring retired growth roster armed ranges spare) → grant_or_refusal_of asks.entries from number ≡ None
      → (0 < table.room) × (0 < asks.room)
  has_places from number since now kept may none =
      let fewer = falls from number since now kept may none in
      (omega (arith, kept.records, fewer), omega (arith, kept.outcomes, fewer))

  -- without an open growth
  pub kept_withdrawn : (from number since now : ℕ) → IsKept table asks retiring retired growth roster armed ranges spare room
      → MayWithdraw from number (view_of table asks retiring retired growth roster armed ranges spare) → grant_or_refusal_of asks.entries from number ≡ None
      → run_for from number growth ≡ None
      → IsKept table (logged_more asks (withdrawal (view_of table asks retiring retired growth roster armed ranges spare) from number since now)) retiring retired growth roster armed ranges spare room
  kept_withdrawn from number since now kept may none off =
      let view : SegsView = view_of table asks retiring retired growth roster armed ranges spare in
      let sound = logged_by from number since now view growth off (sound_refused view kept.sound from number since now may none) in
      kept_answered table (withdrawal (view_of table asks retiring retired growth roster armed ranges spare) from number since now) growth kept refl (omega arith)
      (record { rows = sound.rows; asks = sound.asks; places = sound.places; returned = sound.returned }) (falls from number since now kept may none)

  -- with the growth that is open for it
  pub kept_undone : (from number since now : ℕ) → IsKept table asks retiring retired growth roster armed ranges spare room
      → MayWithdraw from number (view_of table asks retiring retired growth roster armed ranges spare) → grant_or_refusal_of asks.entries from number ≡ None
      → (run : Run) → run_for from number growth ≡ Some run
      → IsKept (record table { log = table.log ++ Drop run ∷ []; segments = without_run run table.segments; room = table.room - 1 })
      (logged_more asks (withdrawal (view_of table asks retiring retired growth roster armed ranges spare) from number since now)) retiring retired None roster armed ranges spare room
  kept_undone from number since now kept may none run some =
      let view : SegsView = view_of table asks retiring retired growth roster armed ranges spare in
      let own = own_growth growth from number run some in
      let sound : IsSound (withdrawn_growth from number (Withdrawn since now) view growth) =
      sound_refused view kept.sound from number since now may none in
      let parts = and_parts (own.grown.ask.from == from) (own.grown.ask.number == number) own.own in
      let log = table.log ++ Drop own.grown.run ∷ [] in
      let undone = undone_by from number since now view own.grown own.own
      (subst (λ g. IsSound (withdrawn_growth from number (Withdrawn since now) view g)) own.is sound) in
      subst
      (λ r. IsKept (record table { log = table.log ++ Drop r ∷ []; segments = without_run r table.segments; room = table.room - 1 })
      (logged_more asks (withdrawal (view_of table asks retiring retired growth roster armed ranges spare) from number since now)) retiring retired None roster armed ranges spare room)
      own.its_run
      (kept_answered (record table { log = table.log ++ Drop own.grown.run ∷ []; segments = without_run own.grown.run table.segments; room = table.room - 1 })
      (withdrawal (view_of table asks retiring retired growth roster armed ranges spare) from number since now) None kept refl (omega arith)
      (record {
        rows = undone.rows;
        asks =
            subst
            (λ n. AreAsks table.pools log
            (asks.entries ++ record { from = from; number = n; outcome = Refused (Withdrawn since now); at = length table.log; ask = armed_ask view from } ∷ [])
            None)
            (eqb-true own.grown.ask.number number parts.1)
            (subst
            (λ f. AreAsks table.pools log
            (asks.entries
            ++ record { from = f; number = own.grown.ask.number; outcome = Refused (Withdrawn since now); at = length table.log; ask = armed_ask view from }
            ∷ [])
            None)
            (eqb-true own.grown.ask.from from parts.0) undone.asks);
        places = undone.places;
        returned =
            subst
            (λ n. AreReturned log
            (asks.entries ++ record { from = from; number = n; outcome = Refused (Withdrawn since now); at = length table.log; ask = armed_ask view from } ∷ [])
            retiring retired)
            (eqb-true own.grown.ask.number number parts.1)
            (subst
            (λ f. AreReturned log
            (asks.entries
            ++ record { from = f; number = own.grown.ask.number; outcome = Refused (Withdrawn since now); at = length table.log; ask = armed_ask view from }
            ∷ [])
            retiring retired)
            (eqb-true own.grown.ask.from from parts.0) undone.returned);
      }) (falls from number since now kept may none))
