-- What came of an ask: the grant or refusal that stands keeps it, and what was granted is not claimed yet.
use Rattle.std.proofs.Common.{◌≡◌, ◌==◌, ◌∙◌, ℕ, true, List, [], ◌∷◌, ◌++◌, Option, Some, None, IsTrue, refl, ap, sym, subst, arith}
use Rattle.std.specs.Prelude.{Contains, IsSome, IsSomeAnd}
use Rattle.std.specs.List.{All, find}
use Rattle.std.specs.Option.{option_and_then, option_map}
use Rattle.std.proofs.lemmas.Bool.{and_parts, eqb-true}
use Rattle.std.proofs.lemmas.List.Elements.{All-cons, All-contains, All-nil}
use Rattle.hp_base.specs.declared.pool_line.PoolLine.{PoolLine}
use Rattle.hp_heap.proofs.Members.{find_some}
use Rattle.hp_hall.proofs.StandingFacts.StandingAsks.{rest_can_be_claimed}
use Rattle.hp_hall.specs.Holding.{AreStanding, HeapPart}
use Rattle.hp_segs.specs.Standing.{Holding, standing_of}
use Rattle.hp_hall.specs.Standings.{IsGrantFor}
use Rattle.hp_log.specs.declared.log_record.LogRecord.{LogRecord}
use Rattle.hp_segs.specs.Calls.{IsUnclaimedGrant}
use Rattle.hp_segs.specs.Causes.{AllCaused, HasCause}
use Rattle.hp_segs.specs.LaterSteps.{armed_ask}
use Rattle.hp_segs.specs.SegsView.{SegsView, grant_of, granted_by, grants_or_refuses, is_grant_or_refusal, is_unclaimed}
use Rattle.hp_segs.specs.Sound.{IsSound}
use Rattle.hp_segs.specs.declared.ask.Ask.{Ask}
use Rattle.hp_segs.specs.declared.outcome.AskLog.{AskLog}
use Rattle.hp_segs.specs.declared.outcome.Outcome.{Outcome}
use Rattle.hp_segs.specs.declared.outcome.Outcome.TheVariants.{Granted, Refused, Stale, Freed}
use Rattle.hp_serve.specs.Asking.{IsAwaiting}

-- an outcome keeps an ask of its own number
record KeepsAsk (entry : AskLog) : Type 0 where
  pub ask : Ask
  pub kept : entry.ask ≡ Some ask
  pub which : ask.number ≡ entry.number

keeps_by : (pools : List PoolLine) (log : List LogRecord) (before : List AskLog) (entry : AskLog) (outcome : Outcome)
    → HasCause pools log before entry outcome → is_grant_or_refusal outcome ≡ true → KeepsAsk entry
keeps_by pools log before entry (Granted generation) has is = record { ask = has.0; kept = has.2.kept; which = has.2.which }
keeps_by pools log before entry (Refused cause) has is = record { ask = has.0; kept = has.1.kept; which = has.1.which }
keeps_by pools log before entry (Stale done) has is = cc
keeps_by pools log before entry (Freed generation) has is = cc

keep_from : (pools : List PoolLine) (log : List LogRecord) (before asks : List AskLog) → AllCaused pools log before asks
    → All (λ entry. is_grant_or_refusal entry.outcome ≡ true → KeepsAsk entry) asks
keep_from pools log before [] caused = All-nil (λ (entry : AskLog). is_grant_or_refusal entry.outcome ≡ true → KeepsAsk entry)
keep_from pools log before (entry ∷ asks) caused =
    All-cons (λ (entry : AskLog). is_grant_or_refusal entry.outcome ≡ true → KeepsAsk entry) entry asks
    (keeps_by pools log before entry entry.outcome caused.0.cause) (keep_from pools log (before ++ entry ∷ []) asks caused.1)

-- what a grant or refusal of an ask is
pub record IsOutcomeOf (asks : List AskLog) (ask : Ask) (entry : AskLog) : Type 0 where
  pub among : Contains asks entry
  pub who : entry.from ≡ ask.from
  pub which : entry.number ≡ ask.number
  pub settles : is_grant_or_refusal entry.outcome ≡ true

pub outcome_found : (asks : List AskLog) (ask : Ask) (entry : AskLog) → find (grants_or_refuses ask.from ask.number) asks ≡ Some entry
    → IsOutcomeOf asks ask entry
outcome_found asks ask entry found =
    let is = find_some (grants_or_refuses ask.from ask.number) asks entry found in
    let parts = and_parts (entry.from == ask.from) _ is.0 in
    let rest = and_parts (entry.number == ask.number) _ parts.1 in
    record {
      among = is.1;
      who = eqb-true entry.from ask.from parts.0;
      which = eqb-true entry.number ask.number rest.0;
      settles = rest.1;
    }

module _ (ask : Ask) (parts : ℕ → HeapPart) (segs : SegsView) (sound : IsSound segs) (standing : AreStanding ask.from parts segs)
    (awaits : IsAwaiting ask parts) where
  -- the participant is armed with the ask in the value
  pub is_armed_in : armed_ask segs ask.from ≡ Some ask
  is_armed_in = sym (standing.armed ask.heap) ∙ awaits.armed.armed ask.heap

  module _ (entry : AskLog) (found : find (grants_or_refuses ask.from ask.number) segs.asks ≡ Some entry) where
    its : IsOutcomeOf segs.asks ask entry
    its = outcome_found segs.asks ask entry found

    -- the outcome keeps the ask
    pub keeps_the_ask : entry.ask ≡ Some ask
    keeps_the_ask =
        let keeps =
        All-contains (λ (entry : AskLog). is_grant_or_refusal entry.outcome ≡ true → KeepsAsk entry) segs.asks entry
        (keep_from segs.pools segs.log [] segs.asks sound.asks.caused) its.among its.settles in
        let here : armed_ask segs entry.from ≡ Some ask = ap (armed_ask segs) its.who ∙ is_armed_in in
        let same : ask ≡ keeps.ask =
        standing.sound.kept entry keeps.ask ask its.among keeps.kept here (sym its.which ∙ sym keeps.which) in
        keeps.kept ∙ ap Some (sym same)

    -- what was granted is not among what the heap has claimed
    not_claimed : (held : Option Holding) → (parts ask.heap).holding ≡ held → IsSome held
        → ¬ (Contains (standing_of ask.heap segs).claimed entry)
    not_claimed None is some among = cc
    not_claimed (Some holding) is some among =
        let there = subst (λ (holding : Holding). Contains holding.claimed entry) (sym (standing.held ask.heap holding is)) among in
        let below = awaits.armed.unclaimed ask.heap holding entry is there its.who in
        omega (arith, below, its.which)

    module _ (generation : ℕ) (granted : entry.outcome ≡ Granted generation) where
      -- it is a grant for the heap
      pub grant_for : IsGrantFor ask.heap generation entry
      grant_for = record { ask = ask; kept = keeps_the_ask; its_heap = refl; granted = granted }

      pub grant_is : grant_of segs.asks ask.from ask.number ≡ Some generation
      grant_is =
          ap (λ (found : Option AskLog). option_and_then granted_by (option_map (λ entry. entry.outcome) found)) found
          ∙ ap granted_by granted

      -- and can be claimed
      pub can_claim : IsUnclaimedGrant ask.from ask.number segs
      can_claim =
          let rest =
          rest_can_be_claimed segs ask.heap generation entry sound its.among grant_for
          (not_claimed (parts ask.heap).holding refl awaits.holds) in
          subst (λ (grant : Option ℕ). IsSomeAnd grant (λ generation. IsTrue (is_unclaimed segs.segments generation)))
          (sym grant_is) rest.rows

      pub is_among : Contains segs.asks entry
      is_among = its.among
