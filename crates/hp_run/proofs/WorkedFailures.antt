-- Worked values: what an outcome may say of a mapping that failed. By a line `elsewhere 2 1` the page came out one page above its address; an
-- outcome that says that it was refused, or that it came out at another place, is none that the plan has.
use Rattle.std.proofs.Common.{◌≡◌, ◌∙◌, ◌⊎◌, ℕ, ◌+◌, ◌*◌, ◌^◌, Bool, true, List, [], ◌∷◌, Contains, Option, Some, inl, inr, refl, sym, ap, arith}
use Rattle.hp_base.specs.Mapping.{FailingCall}
use Rattle.hp_base.specs.Requests.{IsAccepted}
use Rattle.hp_base.specs.declared.map_answer.MapAnswer.{MapAnswer}
use Rattle.hp_base.specs.declared.map_answer.MapAnswer.TheVariants as answer
use Rattle.hp_base.specs.declared.plan_entry.PlanEntry.{PlanEntry}
use Rattle.hp_base.specs.declared.plan_entry.PlanEntry.TheVariants.{Mapping}
use Rattle.hp_heap.proofs.AllocFacts.ChoiceLaw.{Contains-cases, Contains-here, Contains-none}
use Rattle.hp_segs.specs.declared.ask.Ask.{Ask}
use Rattle.hp_segs.specs.declared.outcome.AskLog.{AskLog}
use Rattle.hp_segs.specs.declared.outcome.Cause.TheVariants.{MapFailed}
use Rattle.hp_segs.specs.declared.outcome.Outcome.TheVariants.{Refused}
use Rattle.hp_run.specs.Failures.{AreFailuresNamed, IsFailedAsPlanned, IsUnsteady, planned_answer}

-- the line
abbrev plan : List PlanEntry
plan = Mapping 2 1 true 3 ∷ []

-- three mappers that refuse no call
abbrev mappers : List (Option (List FailingCall))
mappers = Some [] ∷ Some [] ∷ Some [] ∷ []

all_steady : IsUnsteady mappers 2 → ⊥
all_steady unsteady = let same : Some (Some []) ≡ Some unsteady.may_fail = unsteady.its in unsteady.unsteady cc

module _ (accepted : IsAccepted 1024 64 0) where
  -- participant 0 asked for a page of 2M
  abbrev ask : Ask
  ask = record {
    from = 0;
    number = 1;
    heap = 0;
    socket = 0;
    page = 2 ^ 21;
    request = record { size = 1024; align = 64; bound = 0; flags = 0; accepted = accepted };
  }

  -- which participant 2 could not map, and was answered so
  abbrev outcome : MapAnswer → AskLog
  outcome got = record { from = 0; number = 1; outcome = Refused (MapFailed 2 1 (2 ^ 32) got); at = 1; ask = Some ask }

  -- the plan's one line moves the page
  moves : (elsewhere : Bool) (line : ℕ) → Contains plan (Mapping 2 1 elsewhere line) → elsewhere ≡ true
  moves elsewhere line has = by_cases (Contains-cases (Mapping 2 1 true 3) (Mapping 2 1 elsewhere line) [] has)
    where
      by_cases : (Mapping 2 1 true 3 ≡ Mapping 2 1 elsewhere line) ⊎ Contains [] (Mapping 2 1 elsewhere line) → elsewhere ≡ true
      by_cases (inl same) = cc
      by_cases (inr none) = absurd (Contains-none (Mapping 2 1 elsewhere line) none)

  -- so it came out one page above its address
  one_page_above : (got : MapAnswer) → AreFailuresNamed plan mappers (outcome got ∷ []) → got ≡ answer.At (2 ^ 32 + 2 ^ 21) (2 ^ 21) 0
  one_page_above got all =
      by_cases (all (outcome got) 2 1 (Contains-here (outcome got) []) (record { addr = 2 ^ 32; got = got; its = refl }))
    where
      by_cases : IsFailedAsPlanned plan 2 1 (2 ^ 32) got (Some ask) ⊎ IsUnsteady mappers 2 → got ≡ answer.At (2 ^ 32 + 2 ^ 21) (2 ^ 21) 0
      by_cases (inr unsteady) = absurd (all_steady unsteady)
      by_cases (inl named) =
          let kept : Some ask ≡ Some named.ask = named.asked in
          let its : ask ≡ named.ask = cc in
          named.answered
          ∙ ap (λ (elsewhere : Bool). planned_answer elsewhere (2 ^ 32) named.ask) (moves named.elsewhere named.line named.planned)
          ∙ ap (λ (ask : Ask). planned_answer true (2 ^ 32) ask) (sym its)

  not_refused : AreFailuresNamed plan mappers (outcome answer.Refused ∷ []) → ⊥
  not_refused named = let wrong = one_page_above answer.Refused named in cc

  -- nor two pages above
  not_further_on : AreFailuresNamed plan mappers (outcome (answer.At (2 ^ 32 + 2 * 2 ^ 21) (2 ^ 21) 0) ∷ []) → ⊥
  not_further_on named =
      let same = one_page_above (answer.At (2 ^ 32 + 2 * 2 ^ 21) (2 ^ 21) 0) named in
      let wrong : 2 ^ 32 + 2 * 2 ^ 21 ≡ 2 ^ 32 + 2 ^ 21 = ap address_of same in
      omega (arith, wrong)
    where
      address_of : MapAnswer → ℕ
      address_of (answer.At addr page socket) = addr
      address_of answer.Refused = 0
