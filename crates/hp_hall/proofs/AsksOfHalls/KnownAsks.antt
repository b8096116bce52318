-- What a participant knows to be settled is settled; and what was granted to an armed ask that is settled its heap has claimed.
use Rattle.std.proofs.Common.{◌≡◌, ◌==◌, ◌∙◌, ℕ, Bool, true, false, not, ◌||◌, List, ◌++◌, Option, Some, refl, ap, sym, subst}
use Rattle.std.specs.Prelude.{Contains}
use Rattle.std.specs.List.{list_any}
use Rattle.std.specs.Option.{option_map_or}
use Rattle.std.proofs.lemmas.Bool.{and_from, and_parts, eq-eqb}
use Rattle.std.proofs.lemmas.List.Elements.{Contains-append_left}
use Rattle.std.proofs.lemmas.List.Folds.{list_any-append}
use Rattle.hp_segs.specs.LaterSteps.{armed_ask}
use Rattle.hp_segs.specs.SegsView.{SegsView, grant_of, granted_by, grants_or_refuses, is_grant_or_refusal, is_outcome_for, is_unclaimed}
use Rattle.hp_segs.specs.SettledAsks.{IsSettled}
use Rattle.hp_segs.specs.Sound.{IsSound}
use Rattle.hp_segs.specs.Standing.{is_claimed_for, standing_of}
use Rattle.hp_segs.specs.declared.ask.Ask.{Ask}
use Rattle.hp_segs.specs.declared.outcome.AskLog.{AskLog}
use Rattle.hp_segs.proofs.AskFacts.SettledLaws.{answers}
use Rattle.hp_hall.specs.AskLaws.{KnownIsSettled, SettledIsClaimed}
use Rattle.hp_hall.specs.Asks.{IsKnownSettled}
use Rattle.hp_hall.proofs.AsksOfHalls.AskFacts.{IsGrantIn, grant_in, keeps_ask}
use Rattle.hp_hall.proofs.AsksOfHalls.OwnerAsks.{any_more}
use Rattle.hp_hall.proofs.StandingFacts.StandingAsks.{contains_kept, found_once, own_grant, told}
use Rattle.hp_hall.proofs.StandingFacts.StandingClaims.{granted_is}
use Rattle.hp_hall.proofs.StandingFacts.StandingLists.{IsFoundIn, contains_passes, found_in}

-- a grant answers its ask
grant_answers : (from number generation : ℕ) (entry : AskLog) → entry.from ≡ from → entry.number ≡ number
    → granted_by entry.outcome ≡ Some generation → grants_or_refuses from number entry ≡ true
grant_answers from number generation entry who which granted =
    and_from (entry.from == from) _ (eq-eqb entry.from from who)
    (and_from (entry.number == number) _ (eq-eqb entry.number number which) (ap is_grant_or_refusal (granted_is entry.outcome generation granted)))

not_off : (b : Bool) → not b ≡ true → b ≡ false
not_off true is = cc
not_off false is = refl

gone_by : (heap generation : ℕ) (segs : SegsView) (entry : AskLog) → granted_by entry.outcome ≡ Some generation
    → is_claimed_for heap segs.segments entry ≡ true → is_unclaimed segs.segments generation ≡ false
gone_by heap generation segs entry granted claimed =
    let parts = and_parts (option_map_or (λ ask. ask.heap == heap) entry.ask false) _ claimed in
    not_off (is_unclaimed segs.segments generation)
    (sym (ap (λ (g : Option ℕ). option_map_or (λ generation. not (is_unclaimed segs.segments generation)) g false) granted) ∙ parts.1)

module _ (segs : SegsView) (heard more : List AskLog) (ask : Ask) (sound : IsSound segs) (goes : segs.asks ≡ heard ++ more)
    (known : IsKnownSettled heard (Some (standing_of ask.heap segs)) ask) where
  -- the answer that was heard is the only one
  heard_answer : (entry : AskLog) → Contains segs.asks entry → grants_or_refuses ask.from ask.number entry ≡ true → Contains heard entry
  heard_answer entry among passes =
      let found : IsFoundIn (grants_or_refuses ask.from ask.number) heard = found_in (grants_or_refuses ask.from ask.number) heard known.answered in
      let there : Contains segs.asks found.element =
      subst (λ l. Contains l found.element) (sym goes) (Contains-append_left heard more found.element found.among) in
      let one = found_once (grants_or_refuses ask.from ask.number) segs.asks entry (sound.asks.once ask.from ask.number) among passes in
      let other =
      found_once (grants_or_refuses ask.from ask.number) segs.asks found.element (sound.asks.once ask.from ask.number) there found.passes in
      let both : Some found.element ≡ Some entry = sym other ∙ one in
      let same : found.element ≡ entry = cc in
      subst (Contains heard) same found.among

  known_settled : IsSettled ask.from ask.number segs
  known_settled = record {
    answered =
        any_more (grants_or_refuses ask.from ask.number) (is_outcome_for ask.from ask.number) (answers ask.from ask.number) segs.asks
        (ap (list_any (grants_or_refuses ask.from ask.number)) goes
        ∙ (list_any-append (grants_or_refuses ask.from ask.number) heard more
        ∙ ap (λ b. b || list_any (grants_or_refuses ask.from ask.number) more) known.answered));
    claimed = λ generation granted.
        let its : IsGrantIn segs.asks ask.from ask.number generation = grant_in segs.asks ask.from ask.number generation granted in
        let here = heard_answer its.entry its.there (grant_answers ask.from ask.number generation its.entry its.who its.which its.granted) in
        gone_by ask.heap generation segs its.entry its.granted
        (contains_passes (is_claimed_for ask.heap segs.segments) segs.asks its.entry
        (known.claims its.entry generation here its.who its.which its.granted));
  }

pub known_is_settled : KnownIsSettled
known_is_settled segs heard more ask sound goes known = known_settled segs heard more ask sound goes known

pub settled_is_claimed : SettledIsClaimed
settled_is_claimed segs ask sound keeps armed settled entry generation among who which granted =
    let kept = keeps_ask segs entry generation sound among granted in
    let number : kept.0.number ≡ entry.number = ((told segs entry sound among).closes kept.0 kept.1).which in
    let same : ask ≡ kept.0 = keeps entry kept.0 ask among kept.1 (ap (armed_ask segs) who ∙ armed) (sym which ∙ sym number) in
    let owner : option_map_or (λ asked. asked.heap == ask.heap) entry.ask false ≡ true =
    ap (λ (asked : Option Ask). option_map_or (λ asked. asked.heap == ask.heap) asked false) kept.1
    ∙ eq-eqb kept.0.heap ask.heap (ap (λ (asked : Ask). asked.heap) (sym same)) in
    let its : grant_of segs.asks ask.from ask.number ≡ Some generation =
    ap (λ from. grant_of segs.asks from ask.number) (sym who)
    ∙ (ap (grant_of segs.asks entry.from) (sym which) ∙ own_grant segs entry generation sound among (granted_is entry.outcome generation granted)) in
    let gone : option_map_or (λ generation. not (is_unclaimed segs.segments generation)) (granted_by entry.outcome) false ≡ true =
    ap (λ (g : Option ℕ). option_map_or (λ generation. not (is_unclaimed segs.segments generation)) g false) granted
    ∙ ap not (settled.claimed generation its) in
    contains_kept (is_claimed_for ask.heap segs.segments) segs.asks entry among (and_from _ _ owner gone)
