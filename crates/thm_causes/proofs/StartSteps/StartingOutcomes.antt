-- Outcomes that are logged for an ask: it is closed then, and a growth's is answered.
use Rattle.std.proofs.Common.{◌≡◌, ℕ, ◌+◌, ◌<◌, ◌≤◌, ◌==◌, max, Bool, true, false, not, ◌&&◌, ◌||◌, List, [], ◌∷◌, ◌++◌, Option, Some, None, inl, inr, refl, sym, ap, subst, ◌∙◌, arith, eq-eqb, if◌then◌else◌}
use Rattle.std.proofs.lemmas.Bool.{and_from, and_right, cases_eq, ne_eqb}
use Rattle.std.proofs.lemmas.Bool.Decides.{nat_tests}
use Rattle.std.proofs.lemmas.List.Folds.{list_any-append}
use Rattle.std.specs.List.{list_any}
use Rattle.std.specs.Prelude.{nat_le, slice_get, slice_index_or}
use Rattle.hp_segs.specs.declared.outcome.Cause.TheVariants.{Denied}
use Rattle.hp_core.specs.Asks.{asker, is_armed_by, number_of}
use Rattle.hp_core.specs.Starting.{cause_of}
use Rattle.hp_core.specs.declared.asked.Asked.{Asked}
use Rattle.hp_core.specs.declared.asked.Asked.TheVariants as want
use Rattle.hp_maps.specs.MapsView.{calls_of}
use Rattle.hp_segs.specs.LaterSteps.{fails_from}
use Rattle.hp_segs.specs.SegsView.{closed_number, grants_or_refuses, is_grant_or_refusal, is_member, is_stale}
use Rattle.hp_segs.specs.declared.ask.Ask.{Ask}
use Rattle.hp_segs.specs.declared.outcome.AskLog.{AskLog}
use Rattle.hp_segs.specs.declared.outcome.Cause.{Cause}
use Rattle.hp_segs.specs.declared.outcome.Outcome.TheVariants.{Freed, Granted, Refused}
use Rattle.hp_segs.specs.declared.plan_refusal.PlanRefusal.{PlanRefusal}
use Rattle.hp_segs.specs.declared.plan_refusal.PlanRefusal.TheVariants as plan
use Rattle.hp_segs.proofs.AskFacts.ClosedLemmas.{closed_push}
use Rattle.hp_serve.specs.Party.{Party}
use Rattle.thm_causes.specs.RoundTrip.{IsAnsweredFor, IsClosed, IsToDo, RunState, number_of_party}
use Rattle.thm_causes.specs.Outcomes.{is_late, is_withdrawn}
use Rattle.thm_causes.proofs.CaughtUp.{IsOwnFailure}
use Rattle.thm_causes.proofs.StartSteps.StartingBase.{IsOrderly}

-- an ask with an outcome other than Stale is closed
closed_by : (asks : List AskLog) (entry : AskLog) (from number : ℕ) → entry.from ≡ from → entry.number ≡ number
    → is_stale entry.outcome ≡ false → number ≤ closed_number (asks ++ entry ∷ []) from
closed_by asks entry from number who which fresh =
    let counts : ((entry.from == from) && not (is_stale entry.outcome)) ≡ true =
    and_from (entry.from == from) (not (is_stale entry.outcome)) (eq-eqb entry.from from who) (ap not fresh) in
    let now : closed_number (asks ++ entry ∷ []) from ≡ max (closed_number asks from) entry.number =
    closed_push asks entry from
    ∙ ap (λ (b : Bool). if b then max (closed_number asks from) entry.number else closed_number asks from) counts in
    omega (arith, now, which)

-- then the ask of the entry is closed
pub closed_behind : (call : Asked) (world : RunState) (asks : List AskLog) (entry : AskLog) → world.shared.segs.asks ≡ asks ++ entry ∷ []
    → entry.from ≡ asker call → entry.number ≡ number_of call → is_stale entry.outcome ≡ false → IsClosed call world
closed_behind call world asks entry is who which fresh =
    subst (λ (asks : List AskLog). number_of call ≤ closed_number asks (asker call)) (sym is)
    (closed_by asks entry (asker call) (number_of call) who which fresh)

or_last : (a b : Bool) → b ≡ true → (a || (b || false)) ≡ true
or_last true b is = refl
or_last false b is = ap (λ (b : Bool). b || false) is

-- and a growth's is answered, where the entry is a grant or a refusal
pub answered_behind : (call : Asked) (world : RunState) (asks : List AskLog) (entry : AskLog) → world.shared.segs.asks ≡ asks ++ entry ∷ []
    → entry.from ≡ asker call → entry.number ≡ number_of call → is_grant_or_refusal entry.outcome ≡ true → IsAnsweredFor call world
answered_behind (want.Shrink from number) world asks entry is who which good = tt
answered_behind (want.Grow ask) world asks entry is who which good =
    ap (list_any (grants_or_refuses ask.from ask.number)) is
    ∙ (list_any-append (grants_or_refuses ask.from ask.number) asks (entry ∷ [])
    ∙ or_last (list_any (grants_or_refuses ask.from ask.number) asks) (grants_or_refuses ask.from ask.number entry)
    (and_from (entry.from == ask.from) _ (eq-eqb entry.from ask.from who)
    (and_from (entry.number == ask.number) _ (eq-eqb entry.number ask.number which) good)))

-- an ask is to do where the outcomes and the armed asks are the same
pub to_do_same : (call : Asked) (old new : RunState) → new.shared.segs.asks ≡ old.shared.segs.asks → new.shared.segs.armed ≡ old.shared.segs.armed
    → IsToDo call old → IsToDo call new
to_do_same (want.Grow ask) old new asks armed to_do = (
  subst (λ (asks : List AskLog). closed_number asks ask.from < ask.number) (sym asks) to_do.0,
  ap (λ (armed : List (Option Ask)). is_armed_by ask (slice_index_or armed ask.from None)) armed ∙ to_do.1,
)
to_do_same (want.Shrink from number) old new asks armed to_do =
    subst (λ (asks : List AskLog). closed_number asks from < number) (sym asks) to_do

-- ORDERLY OUTCOMES

-- the ask of the entry was sent
abbrev pub WasSent : RunState → AskLog → Type 0
WasSent world entry = (party : Party) → slice_get world.parties entry.from ≡ Some party → entry.number ≤ party.asked

-- why an ask is refused before a growth is opened for it: there is no plan, or its run is denied
pub data IsRefusedAtOnce : Cause → Type 0 where
  by_plan : (refusal : PlanRefusal) → IsRefusedAtOnce (cause_of refusal)
  by_judge : (validator : List ℕ) (limit total : ℕ) → IsRefusedAtOnce (Denied validator limit total)

-- a refusal by the plan
plan_fails : (refusal : PlanRefusal) (who call : ℕ) → fails_from who call (cause_of refusal) ≡ false
plan_fails (plan.StaleAsk number done) who call = refl
plan_fails (plan.GrowthOpen generation) who call = refl
plan_fails plan.NoList who call = refl
plan_fails (plan.TooFew have need) who call = refl
plan_fails (plan.ListFull longest need) who call = refl
plan_fails (plan.CannotHold addr len) who call = refl

plan_late : (refusal : PlanRefusal) (who : ℕ) → is_late who (cause_of refusal) ≡ false
plan_late (plan.StaleAsk number done) who = refl
plan_late (plan.GrowthOpen generation) who = refl
plan_late plan.NoList who = refl
plan_late (plan.TooFew have need) who = refl
plan_late (plan.ListFull longest need) who = refl
plan_late (plan.CannotHold addr len) who = refl

plan_stands : (refusal : PlanRefusal) → is_withdrawn (cause_of refusal) ≡ false
plan_stands (plan.StaleAsk number done) = refl
plan_stands (plan.GrowthOpen generation) = refl
plan_stands plan.NoList = refl
plan_stands (plan.TooFew have need) = refl
plan_stands (plan.ListFull longest need) = refl
plan_stands (plan.CannotHold addr len) = refl

-- such a refusal is no failed mapping, names nobody as late, and takes nothing back
once_fails : (cause : Cause) → IsRefusedAtOnce cause → (who call : ℕ) → fails_from who call cause ≡ false
once_fails _ (by_plan refusal) who call = plan_fails refusal who call
once_fails _ (by_judge validator limit total) who call = refl

once_late : (cause : Cause) → IsRefusedAtOnce cause → (who : ℕ) → is_late who cause ≡ false
once_late _ (by_plan refusal) who = plan_late refusal who
once_late _ (by_judge validator limit total) who = refl

once_stands : (cause : Cause) → IsRefusedAtOnce cause → is_withdrawn cause ≡ false
once_stands _ (by_plan refusal) = plan_stands refusal
once_stands _ (by_judge validator limit total) = refl

module _ (world : RunState) (from number at : ℕ) (ask : Option Ask) where
  pub orderly_refusal : (cause : Cause) → IsRefusedAtOnce cause
      → WasSent world (record { from = from; number = number; outcome = Refused cause; at = at; ask = ask })
      → IsOrderly world (record { from = from; number = number; outcome = Refused cause; at = at; ask = ask })
  orderly_refusal cause once sent = record {
    granted = λ who generation member its. cc;
    failed = λ who party found. once_fails cause once who (calls_of party.maps + 1);
    sent = sent;
    in_time = once_late cause once;
    stands = once_stands cause once;
    fresh = refl;
  }

  -- a notice that was answered
  pub orderly_notice : (generation : ℕ)
      → WasSent world (record { from = from; number = number; outcome = Freed generation; at = at; ask = ask })
      → IsOrderly world (record { from = from; number = number; outcome = Freed generation; at = at; ask = ask })
  orderly_notice generation sent = record {
    granted = λ who generation member its. cc;
    failed = λ who party found. refl;
    sent = sent;
    in_time = λ who. refl;
    stands = refl;
    fresh = refl;
  }

  -- a grant that each member has acknowledged
  pub orderly_grant : (generation : ℕ)
      → ((who : ℕ) → is_member world.shared.segs.roster who ≡ true → generation ≤ number_of_party world who)
      → WasSent world (record { from = from; number = number; outcome = Granted generation; at = at; ask = ask })
      → IsOrderly world (record { from = from; number = number; outcome = Granted generation; at = at; ask = ask })
  orderly_grant generation acknowledged sent = record {
    granted = λ who other member its.
        let same : generation ≡ other = cc in
        subst (λ (n : ℕ). n ≤ number_of_party world who) same (acknowledged who member);
    failed = λ who party found. refl;
    sent = sent;
    in_time = λ who. refl;
    stands = refl;
    fresh = refl;
  }

  -- a mapping of participant 0 that failed, by a call that it has made
  pub orderly_failure : (cause : Cause) (calls : ℕ) → IsOwnFailure 0 calls cause
      → ((party : Party) → slice_get world.parties 0 ≡ Some party → calls ≤ calls_of party.maps)
      → WasSent world (record { from = from; number = number; outcome = Refused cause; at = at; ask = ask })
      → IsOrderly world (record { from = from; number = number; outcome = Refused cause; at = at; ask = ask })
  orderly_failure cause calls own made sent = record {
    granted = λ who generation member its. cc;
    failed = λ who party found.
        ap (fails_from who (calls_of party.maps + 1)) own.is
        ∙ elim (cases_eq who 0) [
          | inl same ↦
              and_right (0 == who) (nat_le (calls_of party.maps + 1) own.call)
              (not_yet (calls_of party.maps) own.call (own.made) (made party (ap (slice_get world.parties) (sym same) ∙ found)))
          | inr other ↦ ap (λ (b : Bool). b && nat_le (calls_of party.maps + 1) own.call) (ne_eqb 0 who (λ same. other (sym same)))
        ];
    sent = sent;
    in_time = λ who. ap (is_late who) own.is;
    stands = ap is_withdrawn own.is;
    fresh = refl;
  }
    where
      not_yet : (now call : ℕ) → call ≤ calls → calls ≤ now → nat_le (now + 1) call ≡ false
      not_yet now call before made = grind (arith, nat_tests)
