-- What an asker knows of its ask once that has its answer: it is settled; and what it knows where outcomes follow.
use Rattle.std.proofs.Common.{◌≡◌, ◌==◌, ◌∙◌, ℕ, true, false, List, [], ◌∷◌, ◌++◌, Option, Some, None, inl, inr, ap, sym, subst}
use Rattle.std.specs.Prelude.{Contains}
use Rattle.std.specs.List.{find}
use Rattle.std.proofs.lemmas.Bool.{and_from, eq-eqb}
use Rattle.std.proofs.lemmas.List.Elements.{Contains-append_cases, Contains-append_left}
use Rattle.hp_heap.proofs.AllocFacts.ChoiceLaw.{AllByRecursion-contains, Contains-cases, Contains-none}
use Rattle.hp_heap.proofs.Members.{find_none}
use Rattle.hp_hall.proofs.StandingFacts.StandingAsks.{found_once}
use Rattle.hp_hall.proofs.StandingFacts.StandingClaims.{granted_is}
use Rattle.hp_hall.proofs.StandingFacts.StandingLists.{IsFoundIn, found_in}
use Rattle.hp_hall.specs.Asks.{IsClaimedIn, IsKnownSettled}
use Rattle.hp_hall.specs.Holding.{HeapPart}
use Rattle.hp_segs.specs.SegsView.{SegsView, granted_by, grants_or_refuses, is_grant_or_refusal}
use Rattle.hp_segs.specs.Sound.{IsSound}
use Rattle.hp_segs.specs.Standing.{Holding}
use Rattle.hp_segs.specs.declared.ask.Ask.{Ask}
use Rattle.hp_segs.specs.declared.outcome.AskLog.{AskLog}
use Rattle.hp_segs.specs.declared.outcome.Cause.{Cause}
use Rattle.hp_segs.specs.declared.outcome.Outcome.TheVariants.{Refused}
use Rattle.hp_serve.specs.Asking.{HasSettledAsks}
use Rattle.hp_serve.proofs.AskingFacts.AskLooks.{any_of_found}
use Rattle.hp_serve.proofs.AskingFacts.AskOutcomes.{outcome_found}

-- a grant answers its ask
grant_answers : (ask : Ask) (entry : AskLog) (generation : ℕ) → entry.from ≡ ask.from → entry.number ≡ ask.number
    → granted_by entry.outcome ≡ Some generation → grants_or_refuses ask.from ask.number entry ≡ true
grant_answers ask entry generation who which granted =
    and_from (entry.from == ask.from) _ (eq-eqb entry.from ask.from who)
    (and_from (entry.number == ask.number) _ (eq-eqb entry.number ask.number which)
    (ap is_grant_or_refusal (granted_is entry.outcome generation granted)))

-- what answers an ask is that outcome, and no other one
abbrev pub IsOnly : List AskLog → Ask → AskLog → Type 0
IsOnly asks ask entry = (other : AskLog) → Contains asks other → grants_or_refuses ask.from ask.number other ≡ true → entry ≡ other

-- in a sound value the first answer is the only one
pub only_answer : (segs : SegsView) (ask : Ask) (entry : AskLog) → IsSound segs
    → find (grants_or_refuses ask.from ask.number) segs.asks ≡ Some entry → IsOnly segs.asks ask entry
only_answer segs ask entry sound found other among passes =
    let one = found_once (grants_or_refuses ask.from ask.number) segs.asks other (sound.asks.once ask.from ask.number) among passes in
    let both : Some entry ≡ Some other = sym found ∙ one in
    cc

-- what comes after all other outcomes is, where none of them answers
pub only_last : (asks : List AskLog) (ask : Ask) (entry : AskLog) → find (grants_or_refuses ask.from ask.number) asks ≡ None
    → IsOnly (asks ++ entry ∷ []) ask entry
only_last asks ask entry none other among passes = elim (Contains-append_cases asks (entry ∷ []) other among) [
  | inl before ↦
      let fails : grants_or_refuses ask.from ask.number other ≡ false =
      AllByRecursion-contains (λ other. grants_or_refuses ask.from ask.number other ≡ false) asks other
      (find_none (grants_or_refuses ask.from ask.number) asks none) before in
      let wrong : true ≡ false = sym passes ∙ fails in
      absurd (cc)
  | inr here ↦ elim (Contains-cases entry other [] here) [
    | inl same ↦ same
    | inr nowhere ↦ absurd (Contains-none other nowhere)
  ]
]

-- the ask is settled, as its participant knows, where its heap has claimed what that answer granted
pub known_by : (asks : List AskLog) (holding : Option Holding) (ask : Ask) (entry : AskLog)
    → find (grants_or_refuses ask.from ask.number) asks ≡ Some entry → IsOnly asks ask entry
    → ((generation : ℕ) → granted_by entry.outcome ≡ Some generation → IsClaimedIn holding entry) → IsKnownSettled asks holding ask
known_by asks holding ask entry found only claimed = record {
  answered = any_of_found (grants_or_refuses ask.from ask.number) asks entry found;
  claims = λ other generation among who which granted.
      let same : entry ≡ other = only other among (grant_answers ask other generation who which granted) in
      subst (IsClaimedIn holding) same (claimed generation (ap (λ (entry : AskLog). granted_by entry.outcome) same ∙ granted));
}

-- so it is where the answer refuses
pub refused_known : (asks : List AskLog) (holding : Option Holding) (ask : Ask) (entry : AskLog) (cause : Cause)
    → find (grants_or_refuses ask.from ask.number) asks ≡ Some entry → IsOnly asks ask entry → entry.outcome ≡ Refused cause
    → IsKnownSettled asks holding ask
refused_known asks holding ask entry cause found only refused = known_by asks holding ask entry found only (λ generation granted.
    let wrong : None ≡ Some generation = sym (ap granted_by refused) ∙ granted in
    absurd (cc))

-- what is known to be settled is so in a sound value whose outcomes follow
pub known_more : (segs : SegsView) (heard more : List AskLog) (holding : Option Holding) (ask : Ask) → IsSound segs
    → segs.asks ≡ heard ++ more → IsKnownSettled heard holding ask → IsKnownSettled segs.asks holding ask
known_more segs heard more holding ask sound grown known =
    let answers = grants_or_refuses ask.from ask.number in
    let there : IsFoundIn answers heard = found_in answers heard known.answered in
    let among : Contains segs.asks there.element =
    subst (λ asks. Contains asks there.element) (sym grown) (Contains-append_left heard more there.element there.among) in
    let found = found_once answers segs.asks there.element (sound.asks.once ask.from ask.number) among there.passes in
    let its = outcome_found segs.asks ask there.element found in
    known_by segs.asks holding ask there.element found (only_answer segs ask there.element sound found) (λ generation granted.
    known.claims there.element generation there.among its.who its.which granted)

-- so are a participant's asks, where it is armed as before and what it holds is as it was
pub settled_more : (segs : SegsView) (old new : ℕ → HeapPart) (heard more : List AskLog) → IsSound segs → segs.asks ≡ heard ++ more
    → ((heap : ℕ) → (new heap).armed ≡ (old heap).armed) → ((heap : ℕ) → (new heap).holding ≡ (old heap).holding)
    → HasSettledAsks old heard → HasSettledAsks new segs.asks
settled_more segs old new heard more sound grown armed held settled heap ask is its =
    known_more segs heard more (new heap).holding ask sound grown
    (subst (λ (holding : Option Holding). IsKnownSettled heard holding ask) (sym (held heap)) (settled heap ask (sym (armed heap) ∙ is) its))
