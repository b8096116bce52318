-- What a participant takes back is an ask that it made, and that has no outcome yet: so outcomes keep coming in turn.
use Rattle.std.proofs.Common.{◌≡◌, ◌==◌, ℕ, ◌-◌, ◌<◌, ◌≤◌, Bool, true, false, ◌&&◌, cond, List, [], ◌∷◌, ◌++◌, length, Option, Some, None, refl, ◌∙◌, sym, subst, arith, eq-eqb}
use Rattle.std.specs.List.{All, find, slice_get}
use Rattle.std.specs.Option.{option_map}
use Rattle.std.proofs.lemmas.Bool.{and_from, and_parts, eqb-true}
use Rattle.std.proofs.lemmas.List.Elements.{All-cons, All-nil}
use Rattle.hp_base.specs.declared.pool_line.PoolLine.{PoolLine}
use Rattle.hp_log.specs.declared.log_record.LogRecord.{LogRecord}
use Rattle.hp_segs.specs.Causes.{AllCaused, HasCause}
use Rattle.hp_segs.specs.LaterSteps.{after_withdraw, armed_ask}
use Rattle.hp_segs.specs.SegsView.{SegsView, closed_number, grant_or_refusal_of, grants_or_refuses, is_grant_or_refusal, is_stale}
use Rattle.hp_segs.specs.declared.ask.Ask.{Ask}
use Rattle.hp_segs.specs.declared.outcome.AskLog.{AskLog}
use Rattle.hp_segs.specs.declared.outcome.Cause.{Cause}
use Rattle.hp_segs.specs.declared.outcome.Cause.TheVariants.{Withdrawn}
use Rattle.hp_segs.specs.declared.outcome.Outcome.TheVariants.{Refused}
use Rattle.hp_proc.specs.Doing.{Done}
use Rattle.hp_proc.specs.Doing.Done.{Asked, GaveUp}
use Rattle.thm_run.proofs.RunFacts.CallCases.{withdraw_holds}
use Rattle.thm_run.proofs.Made.{IsMade, IsNumbered, answered, freed, stale_ask, stale_notice, took_number}
use Rattle.thm_run.proofs.TracesTold.Traced.{AreMade, AreNumbered, numbered_pushed}
use Rattle.thm_run.proofs.Turns.{IsBelow, closed_below}

-- where none is found none passes
unfound_by : {X : Type 0} (p : X → Bool) (passes : Bool) (x : X) (rest : Option X) → p x ≡ passes → cond passes (Some x) rest ≡ None
    → (p x ≡ false) × (rest ≡ None)
unfound_by p true x rest is found = cc
unfound_by p false x rest is found = (is, found)

unfound : {X : Type 0} (p : X → Bool) (xs : List X) → find p xs ≡ None → All (λ x. p x ≡ false) xs
unfound p [] found = All-nil (λ x. p x ≡ false)
unfound p (x ∷ xs) found =
    let both = unfound_by p (p x) x (find p xs) refl found in
    All-cons (λ x. p x ≡ false) x xs both.0 (unfound p xs both.1)

no_outcome : (found : Option AskLog) → option_map (λ (entry : AskLog). entry.outcome) found ≡ None → found ≡ None
no_outcome None is = refl
no_outcome (Some entry) is = cc

-- the last outcome has its cause
record IsCausedLast (pools : List PoolLine) (log : List LogRecord) (entry : AskLog) : Type 0 where
  pub before : List AskLog
  pub cause : HasCause pools log before entry entry.outcome

caused_last : (pools : List PoolLine) (log : List LogRecord) (before asks : List AskLog) (entry : AskLog)
    → AllCaused pools log before (asks ++ entry ∷ []) → IsCausedLast pools log entry
caused_last pools log before [] entry caused = record { before = before; cause = caused.0.cause }
caused_last pools log before (first ∷ asks) entry caused = caused_last pools log (before ++ first ∷ []) asks entry caused.1

module _ (took : ℕ → List Done) (segs : SegsView) (made : AreMade took segs.armed) (are : AreNumbered took segs.asks) (who number : ℕ)
    (none : grant_or_refusal_of segs.asks who number ≡ None) (last : length (took who) ≤ number) where
  -- that number is one of an ask, so no outcome has it
  module _ (ask : Ask) (its : IsMade took ask) (whose : ask.from ≡ who) (which : ask.number ≡ number) where
    -- the outcome is no grant or refusal of that number
    abbrev IsOther : AskLog → Type 0
    IsOther entry = grants_or_refuses who number entry ≡ false

    not_this : (entry : AskLog) → IsNumbered took entry → IsOther entry → entry.from ≡ who → is_stale entry.outcome ≡ false
        → entry.number ≡ number → ⊥
    not_this entry (stale_ask is was) other own fresh same =
        let wrong : true ≡ false = sym is ∙ fresh in
        cc
    not_this entry (stale_notice is was) other own fresh same =
        let wrong : true ≡ false = sym is ∙ fresh in
        cc
    not_this entry (answered kept_ask is kept_made from its_number kept) other own fresh same =
        let this : grants_or_refuses who number entry ≡ true =
        and_from (entry.from == who) ((entry.number == number) && is_grant_or_refusal entry.outcome) (eq-eqb entry.from who own)
        (and_from (entry.number == number) (is_grant_or_refusal entry.outcome) (eq-eqb entry.number number same) is) in
        let wrong : true ≡ false = sym this ∙ other in
        cc
    not_this entry (freed generation is was) other own fresh same =
        let mine : slice_get (took who) (entry.number - 1) ≡ Some (GaveUp was.heap was.run) =
        subst (λ n. slice_get (took n) (entry.number - 1) ≡ Some (GaveUp was.heap was.run)) own was.its in
        let here : slice_get (took who) (number - 1) ≡ Some (GaveUp was.heap was.run) =
        subst (λ n. slice_get (took who) (n - 1) ≡ Some (GaveUp was.heap was.run)) same mine in
        let asked : slice_get (took who) (ask.number - 1) ≡ Some (Asked its.asked its.run) =
        subst (λ n. slice_get (took n) (ask.number - 1) ≡ Some (Asked its.asked its.run)) whose its.its in
        let there : slice_get (took who) (number - 1) ≡ Some (Asked its.asked its.run) =
        subst (λ n. slice_get (took who) (n - 1) ≡ Some (Asked its.asked its.run)) which asked in
        let wrong : Some (GaveUp was.heap was.run) ≡ Some (Asked its.asked its.run) = sym here ∙ there in
        cc

    below : (entry : AskLog) → IsNumbered took entry → IsOther entry → IsBelow who (number - 1) entry
    below entry is other own fresh =
        let apart : entry.number ≡ number → ⊥ = not_this entry is other own fresh in
        let within : entry.number ≤ length (took who) =
        subst (λ n. entry.number ≤ length (took n)) own (took_number took entry is).within in
        omega (arith, apart, within, last)

    above : closed_number segs.asks who < number
    above =
        let others : All IsOther segs.asks =
        unfound (grants_or_refuses who number) segs.asks (no_outcome (find (grants_or_refuses who number) segs.asks) none) in
        let under : closed_number segs.asks who ≤ number - 1 =
        closed_below who (number - 1) segs.asks (λ k d within. below _ (are.each k d within) (others k d within)) in
        omega (arith, under, its.some, which)

  -- the refusal, where it has a cause
  pub refused_numbered : (pools : List PoolLine) (log : List LogRecord) (at from which : ℕ) (cause : Cause) → from ≡ who → which ≡ number
      → AllCaused pools log []
      (segs.asks ++ record { from = from; number = which; outcome = Refused cause; at = at; ask = armed_ask segs who } ∷ [])
      → AreNumbered took
      (segs.asks ++ record { from = from; number = which; outcome = Refused cause; at = at; ask = armed_ask segs who } ∷ [])
  refused_numbered pools log at from which cause own same caused =
      let entry : AskLog = record { from = from; number = which; outcome = Refused cause; at = at; ask = armed_ask segs who } in
      let has = caused_last pools log [] segs.asks entry caused in
      let kept = has.cause.1 in
      let its = made who has.cause.0 kept.kept in
      let number_is : has.cause.0.number ≡ number = kept.which ∙ same in
      numbered_pushed took segs.asks entry are
      (answered has.cause.0 refl its.made (sym kept.who) (sym kept.which) kept.kept)
      (λ fresh.
      subst (λ n. closed_number segs.asks n < which) (sym own)
      (subst (λ n. closed_number segs.asks who < n) (sym same) (above has.cause.0 its.made its.own number_is)))

-- where its outcomes are caused, they have numbers that were taken, and come in turn
abbrev AreNumberedIfCaused : (ℕ → List Done) → SegsView → Type 0
AreNumberedIfCaused took new =
    (pools : List PoolLine) (log : List LogRecord) → AllCaused pools log [] new.asks → AreNumbered took new.asks

-- after a withdrawal that leaves the outcomes caused, they have numbers that were taken, and come in turn
pub withdraw_numbers : (took : ℕ → List Done) (segs : SegsView) (who number since now : ℕ) → AreMade took segs.armed
    → AreNumbered took segs.asks → length (took who) ≤ number → (pools : List PoolLine) (log : List LogRecord)
    → AllCaused pools log [] (after_withdraw who number since now segs).asks
    → AreNumbered took (after_withdraw who number since now segs).asks
withdraw_numbers took segs who number since now made are last =
    withdraw_holds (AreNumberedIfCaused took) segs (λ pools log caused. are) who number since now
    (λ none other pools log caused.
    refused_numbered took segs made are who number none last pools log (length segs.log) who number (Withdrawn since now) refl refl caused)
    (λ none growth is own pools log caused.
    let both = and_parts (growth.ask.from == who) (growth.ask.number == number) own in
    refused_numbered took segs made are who number none last pools log (length segs.log) growth.ask.from growth.ask.number
    (Withdrawn since now)
    (eqb-true growth.ask.from who both.0) (eqb-true growth.ask.number number both.1) caused)
