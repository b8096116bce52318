-- Grants and refusals of a participant come in turn by its own holds: the outcome of an ask is there before the hold in which the next ask
-- is made.
use Rattle.std.proofs.Common.{◌≡◌, ◌∙◌, ◌==◌, ◌&&◌, ℕ, zero, suc, ◌+◌, ◌-◌, ◌<◌, ◌≤◌, Bool, true, false, not, cond, List, [], ◌∷◌, length, Option, Some, None, inl, inr, refl, ap, sym, subst, arith, length-append}
use Rattle.std.specs.List.{All, count_by, slice_get}
use Rattle.std.proofs.lemmas.Bool.{and_from, and_parts, cases_lt, eq-eqb, eqb-true}
use Rattle.std.proofs.lemmas.Option.{get_or_from_slice_get, same_Some, slice_get_within}
use Rattle.hp_base.specs.declared.row.Run.{Run}
use Rattle.hp_hall.proofs.StandingFacts.StandingAsks.{closed_above}
use Rattle.hp_heap.proofs.HistoryFacts.Counting.{count_by-cons}
use Rattle.hp_heap.proofs.Members.{find_some, some_counted}
use Rattle.hp_log.specs.declared.log_record.LogRecord.{LogRecord}
use Rattle.hp_segs.proofs.SlotFacts.ListFacts.{get_stays}
use Rattle.hp_segs.proofs.AskFacts.Settled.{get_before}
use Rattle.hp_segs.specs.SegsView.{SegsView, closed_number, grants_or_refuses, is_grant_or_refusal, is_outcome_for, is_stale}
use Rattle.hp_segs.specs.Sound.{IsSound}
use Rattle.hp_segs.specs.declared.outcome.AskLog.{AskLog}
use Rattle.hp_segs.specs.declared.outcome.Outcome.{Outcome}
use Rattle.hp_segs.specs.declared.outcome.Outcome.TheVariants.{Freed, Granted, Refused, Stale}
use Rattle.hp_serve.specs.Asking.{Gives}
use Rattle.hp_serve.specs.declared.pages_asked.PagesAsked.{PagesAsked}
use Rattle.hp_proc.specs.Courses.{numbered_in}
use Rattle.hp_proc.specs.Doing.{Done}
use Rattle.hp_proc.specs.Doing.Done.{Asked, Called, CaughtUp, ChunkMapped, GaveUp, HeapSeen, Looked, NamesChanged, NamesRead, RangePlanned, StatsRead}
use Rattle.hp_proc.specs.Outcomes.{IsOfATrace, IsOutcomeOf}
use Rattle.hp_weave.specs.Holds.{Chain, Hold, holds_of}
use Rattle.thm_run.proofs.InTurnByHolds.AskedInHolds.{IsAnsweredIn, IsAskAt, two_on}
use Rattle.thm_run.proofs.AfterLemmas.{behind_then}
use Rattle.thm_run.proofs.GrownHeaps.GrantTurns.{among_read, read_among}
use Rattle.thm_run.proofs.InTurnByHolds.OutcomesByHolds.{outcomes_by_holds}
use Rattle.thm_run.proofs.SeenAndShown.SeenLog.{fresh}
use Rattle.thm_run.specs.OwnHolds.{DoesInHolds, GoesOn, TurnsByHolds}

-- elements at two places do not both pass a test that one passes at most
passes_twice : {X : Type 0} (p : X → Bool) (xs : List X) (first later : ℕ) (x y : X) → count_by p xs ≤ 1 → first < later
    → slice_get xs first ≡ Some x → slice_get xs later ≡ Some y → p x ≡ true → p y ≡ true → ⊥
passes_twice p [] first later x y few less here there one other = omega (arith, slice_get_within [] first x here)
passes_twice p (z ∷ zs) first zero x y few less here there one other = omega (arith, less)
passes_twice p (z ∷ zs) zero (suc later) x y few less here there one other =
    let measure : cond {A = ℕ} (p z) 1 0 ≡ 1 = rw (ap p (same_Some z x here) ∙ one) refl in
    omega (arith, few, count_by-cons p z zs, measure, some_counted p zs y other (read_among zs later y there))
passes_twice p (z ∷ zs) (suc first) (suc later) x y few less here there one other =
    passes_twice p zs first later x y (omega (arith, few, count_by-cons p z zs)) (omega (arith, less)) here there one other

-- what a grant or a refusal is of is an ask
pub ask_of_trace : (log : List LogRecord) (trace : List Done) (place : ℕ) (outcome : Outcome) (done : Done) → is_grant_or_refusal outcome ≡ true
    → slice_get (numbered_in trace) place ≡ Some done → IsOutcomeOf log outcome done → IsAskAt (numbered_in trace) place
ask_of_trace log trace place (Granted generation) (Asked asked run) shown there kind = record { asked = asked; run = run; there = there }
ask_of_trace log trace place (Refused cause) (Asked asked run) shown there kind = record { asked = asked; run = run; there = there }
ask_of_trace log trace place (Stale done) other shown there kind = cc
ask_of_trace log trace place (Freed generation) other shown there kind = cc
ask_of_trace log trace place (Granted generation) (GaveUp heap run) shown there kind = absurd kind
ask_of_trace log trace place (Granted generation) (Called heap call answer) shown there kind = absurd kind
ask_of_trace log trace place (Granted generation) (Looked records) shown there kind = absurd kind
ask_of_trace log trace place (Granted generation) (CaughtUp to caught) shown there kind = absurd kind
ask_of_trace log trace place (Refused cause) (GaveUp heap run) shown there kind = absurd kind
ask_of_trace log trace place (Refused cause) (Called heap call answer) shown there kind = absurd kind
ask_of_trace log trace place (Refused cause) (Looked records) shown there kind = absurd kind
ask_of_trace log trace place (Refused cause) (CaughtUp to caught) shown there kind = absurd kind
ask_of_trace log trace place (Granted generation) (NamesRead names) shown there kind = absurd kind
ask_of_trace log trace place (Granted generation) (NamesChanged change) shown there kind = absurd kind
ask_of_trace log trace place (Granted generation) (HeapSeen heap history) shown there kind = absurd kind
ask_of_trace log trace place (Granted generation) (ChunkMapped chunk caught) shown there kind = absurd kind
ask_of_trace log trace place (Granted generation) (StatsRead heap counted) shown there kind = absurd kind
ask_of_trace log trace place (Granted generation) (RangePlanned addr len page plan) shown there kind = absurd kind
ask_of_trace log trace place (Refused cause) (NamesRead names) shown there kind = absurd kind
ask_of_trace log trace place (Refused cause) (NamesChanged change) shown there kind = absurd kind
ask_of_trace log trace place (Refused cause) (HeapSeen heap history) shown there kind = absurd kind
ask_of_trace log trace place (Refused cause) (ChunkMapped chunk caught) shown there kind = absurd kind
ask_of_trace log trace place (Refused cause) (StatsRead heap counted) shown there kind = absurd kind
ask_of_trace log trace place (Refused cause) (RangePlanned addr len page plan) shown there kind = absurd kind

pub gives_shown : (log : List LogRecord) (outcome : Outcome) (run : Option Run) → Gives log outcome run → is_grant_or_refusal outcome ≡ true
gives_shown log (Granted generation) run gives = refl
gives_shown log (Refused cause) run gives = refl
gives_shown log (Stale done) (Some run) gives = absurd gives
gives_shown log (Stale done) None gives = absurd gives
gives_shown log (Freed generation) (Some run) gives = absurd gives
gives_shown log (Freed generation) None gives = absurd gives

pub settles : (who number : ℕ) (entry : AskLog) → entry.from ≡ who → entry.number ≡ number → is_grant_or_refusal entry.outcome ≡ true
    → grants_or_refuses who number entry ≡ true
settles who number entry from which shown =
    and_from (entry.from == who) ((entry.number == number) && is_grant_or_refusal entry.outcome) (eq-eqb entry.from who from)
    (and_from (entry.number == number) (is_grant_or_refusal entry.outcome) (eq-eqb entry.number number which) shown)

-- the grant or refusal of an ask stands among the outcomes that were there when it was heard
module _ (last : SegsView) (sound : IsSound last) (who number : ℕ) (asked : PagesAsked) (run : Option Run) (from : SegsView)
    (is : IsAnsweredIn who number asked run from last) where
  stands_before : (place : ℕ) (entry : AskLog) → slice_get last.asks place ≡ Some entry → entry.from ≡ who → entry.number ≡ number
      → is_grant_or_refusal entry.outcome ≡ true → place < length is.heard.asks
  stands_before place entry here own which shown =
      let found = find_some (is_outcome_for who number) is.heard.asks is.is.answer.entry is.is.answer.logged in
      let read = among_read is.heard.asks is.is.answer.entry found.1 in
      let both = and_parts (is.is.answer.entry.from == who) ((is.is.answer.entry.number == number) && not (is_stale is.is.answer.entry.outcome))
      found.0 in
      let rest = and_parts (is.is.answer.entry.number == number) (not (is_stale is.is.answer.entry.outcome)) both.1 in
      let there : slice_get last.asks read.0 ≡ Some is.is.answer.entry =
      ap (λ asks. slice_get asks read.0) is.after.asks ∙ get_stays is.heard.asks is.after.others read.0 is.is.answer.entry read.1 in
      let its = settles who number is.is.answer.entry (eqb-true is.is.answer.entry.from who both.0)
      (eqb-true is.is.answer.entry.number number rest.0) (gives_shown is.heard.log is.is.answer.entry.outcome run is.is.answer.given) in
      one_place place read.0 entry is.is.answer.entry here there (settles who number entry own which shown) its
      (slice_get_within is.heard.asks read.0 is.is.answer.entry read.1)
    where
      one_place : (place found : ℕ) (entry answer : AskLog) → slice_get last.asks place ≡ Some entry → slice_get last.asks found ≡ Some answer
          → grants_or_refuses who number entry ≡ true → grants_or_refuses who number answer ≡ true → found < length is.heard.asks
          → place < length is.heard.asks
      one_place place found entry answer here there passes its within = elim (cases_lt place found) [
        | inl less ↦ omega (arith, less, within)
        | inr level ↦ elim (cases_lt found place) [
          | inl more ↦
              absurd (passes_twice (grants_or_refuses who number) last.asks found place answer entry (sound.asks.once who number) more there here
              its passes)
          | inr same ↦ omega (arith, same, level, within)
        ]
      ]

-- the outcome of an ask comes after those that were there when it was made
module _ (last : SegsView) (who number : ℕ) (asked : PagesAsked) (run : Option Run) (from : SegsView)
    (is : IsAnsweredIn who number asked run from last) where
  stands_behind : (place : ℕ) (entry : AskLog) → slice_get last.asks place ≡ Some entry → entry.from ≡ who → entry.number ≡ number
      → is_stale entry.outcome ≡ false → length is.armed.asks ≤ place
  stands_behind place entry here own which unstale =
      let on = behind_then is.armed is.heard last is.mid is.after in
      elim (cases_lt place (length is.armed.asks)) [
        | inl before ↦
            let there : slice_get is.armed.asks place ≡ Some entry =
            sym (get_before is.armed.asks on.others place before) ∙ (ap (λ asks. slice_get asks place) (sym on.asks) ∙ here) in
            let closed : entry.number ≤ closed_number is.armed.asks who =
            subst (λ from. entry.number ≤ closed_number is.armed.asks from) own
            (closed_above is.armed.asks entry (read_among is.armed.asks place entry there) unstale) in
            absurd (omega (arith, closed, which, is.is.fresh))
        | inr behind ↦ behind
      ]

module _ (did : ℕ → List Done) (first last : SegsView) (holds : List (Hold SegsView)) (sound : IsSound last) (chain : Chain first holds last)
    (each : All GoesOn holds) (does : (who : ℕ) → DoesInHolds who 1 (did who) (holds_of who holds)) where
  -- an earlier grant or refusal has no greater number
  no_greater : (who place later : ℕ) (entry other : AskLog) → slice_get last.asks place ≡ Some entry → slice_get last.asks later ≡ Some other
      → place < later → entry.from ≡ who → other.from ≡ who → is_grant_or_refusal entry.outcome ≡ true
      → is_grant_or_refusal other.outcome ≡ true → 0 < other.number → IsAskAt (numbered_in (did who)) (entry.number - 1)
      → IsAskAt (numbered_in (did who)) (other.number - 1)
      → other.number < entry.number → ⊥
  no_greater who place later entry other here there before own its shown shows some at next greater =
      let both = two_on who last 1 (did who) (holds_of who holds) (does who) first holds chain each refl (other.number - 1) (entry.number - 1)
      (omega (arith, greater, some)) next at in
      let one : other.number ≡ 1 + (other.number - 1) = omega (arith, some) in
      let two : entry.number ≡ 1 + (entry.number - 1) = omega (arith, some, greater) in
      let low = stands_before last sound who (1 + (other.number - 1)) both.asked both.run first both.one later other there its one shows in
      let high =
      stands_behind last who (1 + (entry.number - 1)) both.asked_next both.run_next both.one.heard both.next place entry here own two
      (fresh entry shown) in
      let long = ap length both.next.before.asks in
      omega (arith, low, high, before, long, length-append both.one.heard.asks both.next.before.others)

pub turns_by_holds : TurnsByHolds
turns_by_holds did first last holds all = record {
  above = λ place later entry other here there before same shown shows.
      let its = traced_at place entry here shown in
      let next = traced_at later other there shows in
      by_number place later entry other here there before same shown shows its next;
}
  where
    traced_at : (place : ℕ) (entry : AskLog) → slice_get last.asks place ≡ Some entry → is_grant_or_refusal entry.outcome ≡ true
        → IsOfATrace last.log did entry
    traced_at place entry here shown =
        subst (λ (entry : AskLog). is_grant_or_refusal entry.outcome ≡ true → IsOfATrace last.log did entry)
        (get_or_from_slice_get last.asks place entry entry here)
        (outcomes_by_holds did first last holds all place entry (slice_get_within last.asks place entry here)) shown

    at : (who : ℕ) (entry : AskLog) → entry.from ≡ who → is_grant_or_refusal entry.outcome ≡ true → IsOfATrace last.log did entry
        → IsAskAt (numbered_in (did who)) (entry.number - 1)
    at who entry own shown is =
        subst (λ who. IsAskAt (numbered_in (did who)) (entry.number - 1)) own
        (ask_of_trace last.log (did entry.from) (entry.number - 1) entry.outcome is.done shown is.its is.kind)

    by_number : (place later : ℕ) (entry other : AskLog) → slice_get last.asks place ≡ Some entry → slice_get last.asks later ≡ Some other
        → place < later → entry.from ≡ other.from → is_grant_or_refusal entry.outcome ≡ true → is_grant_or_refusal other.outcome ≡ true
        → IsOfATrace last.log did entry → IsOfATrace last.log did other → entry.number < other.number
    by_number place later entry other here there before same shown shows its next = elim (cases_lt entry.number other.number) [
      | inl less ↦ less
      | inr most ↦ elim (cases_lt other.number entry.number) [
        | inl greater ↦
            absurd (no_greater did first last holds all.sound all.chain all.each all.does entry.from place later entry other here there
            before refl (sym same) shown shows next.some (at entry.from entry refl shown its) (at entry.from other (sym same) shows next) greater)
        | inr level ↦
            let number : other.number ≡ entry.number = omega (arith, most, level) in
            absurd (passes_twice (grants_or_refuses entry.from entry.number) last.asks place later entry other
            (all.sound.asks.once entry.from entry.number) before here there (settles entry.from entry.number entry refl refl shown)
            (settles entry.from entry.number other (sym same) number shows))
      ]
    ]
