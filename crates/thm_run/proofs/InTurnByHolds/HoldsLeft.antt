-- A participant's holds among those of all, one after another: who is armed, and which asks have their outcomes, from one to the next.
use Rattle.std.proofs.Common.{◌≡◌, ◌≢◌, ◌∙◌, ◌==◌, ◌&&◌, ◌||◌, ℕ, ◌<◌, ◌≤◌, Bool, true, false, cond, List, [], ◌∷◌, ◌++◌, length, Option, Some, None, IfSome, Contains, inl, inr, refl, ap, sym, subst, arith, eq-eqb}
use Rattle.std.specs.List.{All, find, list_any}
use Rattle.std.specs.Option.{option_and_then}
use Rattle.std.proofs.lemmas.Bool.{and_parts, cases_eq, eqb-true, false≢true}
use Rattle.std.proofs.lemmas.List.Elements.{All-head, All-tail}
use Rattle.std.proofs.lemmas.Option.{same_Some}
use Rattle.hp_base.specs.declared.row.Run.{Run}
use Rattle.hp_heap.proofs.Members.{find_some}
use Rattle.hp_hall.proofs.StandingFacts.StandingAsks.{closed_above}
use Rattle.hp_hall.proofs.StandingFacts.StandingLists.{found_in}
use Rattle.hp_log.specs.declared.log_record.LogRecord.{LogRecord}
use Rattle.hp_segs.specs.GrowthLaws.{HasArmedGrowth, IsOfArmed}
use Rattle.hp_segs.specs.LaterSteps.{armed_ask}
use Rattle.hp_segs.specs.SegsView.{SegsView, added_run, closed_number, grants_or_refuses, is_grant_or_refusal, is_outcome_for}
use Rattle.hp_segs.specs.Sound.{IsSound}
use Rattle.hp_segs.specs.declared.ask.Ask.{Ask}
use Rattle.hp_segs.specs.declared.growth.Growth.{Growth}
use Rattle.hp_segs.specs.declared.outcome.AskLog.{AskLog}
use Rattle.hp_segs.specs.declared.outcome.Outcome.{Outcome}
use Rattle.hp_segs.specs.declared.outcome.Outcome.TheVariants.{Freed, Granted, Refused, Stale}
use Rattle.hp_serve.proofs.AskingFacts.Armed.{closed_more}
use Rattle.hp_serve.proofs.AskingFacts.AskLooks.{narrower}
use Rattle.hp_serve.specs.Asking.{Gives}
use Rattle.hp_serve.specs.declared.pages_asked.PagesAsked.{PagesAsked}
use Rattle.hp_proc.proofs.LawLemmas.{find_stays, gives_stays}
use Rattle.hp_proc.specs.Outcomes.{IsAnsweredSo}
use Rattle.hp_weave.proofs.Interleaving.{holds_of-other}
use Rattle.hp_weave.specs.Holds.{Chain, Hold, holds_of}
use Rattle.thm_run.proofs.AfterLemmas.{behind_then, none_behind}
use Rattle.thm_run.proofs.GrownHeaps.GrantTurns.{grant_is}
use Rattle.thm_run.proofs.InTurnByHolds.NextHolds.{next_hold}
use Rattle.thm_run.proofs.SeenAndShown.SeenLog.{fresh}
use Rattle.thm_run.specs.OwnHolds.{GoesOn, HasLater, NoneGrows, StaysArmed}
use Rattle.thm_run.specs.OwnLines.{IsOfGood, NoneElseGrows}

-- WHICH ASKS HAVE THEIR OUTCOMES

-- the ask with which a participant is armed has an outcome
abbrev pub IsAnswered : ℕ → SegsView → Type 0
IsAnswered who segs = (ask : Ask) → armed_ask segs who ≡ Some ask → ask.number ≤ closed_number segs.asks who

-- so it is later, where it is armed as before
pub answered_on : (who : ℕ) (old new : SegsView) → HasLater old new → armed_ask new who ≡ armed_ask old who → IsAnswered who old
    → IsAnswered who new
answered_on who old new later same was ask is =
    let low = was ask (sym same ∙ is) in
    let more = closed_more old.asks later.others who in
    omega (arith, low, more, ap (λ asks. closed_number asks who) later.asks)

-- an ask of which a grant or a refusal was heard has one
closed_heard : (who number : ℕ) (asks : List AskLog) → list_any (grants_or_refuses who number) asks ≡ true → number ≤ closed_number asks who
closed_heard who number asks heard =
    let found = found_in (grants_or_refuses who number) asks heard in
    let both = and_parts (found.element.from == who) ((found.element.number == number) && is_grant_or_refusal found.element.outcome)
    found.passes in
    let rest = and_parts (found.element.number == number) (is_grant_or_refusal found.element.outcome) both.1 in
    let closed : found.element.number ≤ closed_number asks who =
    subst (λ from. found.element.number ≤ closed_number asks from) (eqb-true found.element.from who both.0)
    (closed_above asks found.element found.among (fresh found.element rest.1)) in
    omega (arith, closed, eqb-true found.element.number number rest.0)

pub answered_heard : (who : ℕ) (ask : Ask) (segs : SegsView) → armed_ask segs who ≡ Some ask
    → list_any (grants_or_refuses who ask.number) segs.asks ≡ true → IsAnswered who segs
answered_heard who ask segs its heard other is =
    let same : ask ≡ other = same_Some ask other (sym its ∙ is) in
    omega (arith, closed_heard who ask.number segs.asks heard, ap (λ (ask : Ask). ask.number) same)

-- while it has, no growth is open for a heap for which nobody else's is
pub none_own : (who : ℕ) (segs : SegsView) (heap : ℕ) → HasArmedGrowth segs → NoneElseGrows who heap segs → IsAnswered who segs
    → NoneGrows heap segs
none_own who segs heap armed alone answered = by segs.growth armed alone
  where
    by : (growth : Option Growth) → IfSome growth (IsOfArmed segs.asks segs.armed)
        → IfSome growth (λ growth. growth.ask.heap ≡ heap → growth.ask.from ≡ who) → IfSome growth (λ growth. growth.ask.heap ≢ heap)
    by None is alone = tt
    by (Some growth) is alone = λ same.
        let own : growth.ask.from ≡ who = alone same in
        let low : growth.ask.number ≤ closed_number segs.asks who =
        answered growth.ask (subst (λ from. armed_ask segs from ≡ Some growth.ask) own is.its_ask) in
        let above : closed_number segs.asks who < growth.ask.number =
        subst (λ from. closed_number segs.asks from < growth.ask.number) own is.above in
        omega (arith, low, above)

-- THE OUTCOME OF ONE THAT WAS HEARD

wider_by : {X : Type 0} (q : X → Bool) (y : X) (ys : List X) (any first second : Bool) → (first ≡ true → second ≡ true)
    → (any ≡ true → (x : X) × (find q ys ≡ Some x)) → (first || any) ≡ true → (x : X) × (cond second (Some y) (find q ys) ≡ Some x)
wider_by q y ys any first true implies rest is = (y, refl)
wider_by q y ys any false false implies rest is = rest is
wider_by q y ys any true false implies rest is = absurd (false≢true (implies refl))

-- where an element passes, one is found that passes a weaker test
pub find_wider : {X : Type 0} (p q : X → Bool) → ((x : X) → p x ≡ true → q x ≡ true) → (xs : List X) → list_any p xs ≡ true
    → (x : X) × (find q xs ≡ Some x)
find_wider p q implies [] any = absurd (false≢true any)
find_wider p q implies (y ∷ ys) any =
    wider_by q y ys (list_any p ys) (p y) (q y) (implies y) (find_wider p q implies ys) any

-- a grant in a sound value is of a run that its log had already
gives_then : (heard : SegsView) (more : List LogRecord) (entry : AskLog) → IsSound heard → Contains heard.asks entry → (outcome : Outcome)
    → entry.outcome ≡ outcome → (run : Option Run) → Gives (heard.log ++ more) outcome run → Gives heard.log outcome run
gives_then heard more entry sound among (Granted generation) is (Some run) gives =
    let (ask, its_run, grant) = grant_is heard entry sound among generation is in
    let here : Gives heard.log (Granted generation) (Some its_run) = ap (λ added. option_and_then added_run added) grant.grown.added in
    let later : Gives (heard.log ++ more) (Granted generation) (Some its_run) =
    gives_stays heard.log more (Granted generation) (Some its_run) here in
    let same : its_run ≡ run = same_Some its_run run (sym later ∙ gives) in
    subst (λ run. Gives heard.log (Granted generation) (Some run)) same here
gives_then heard more entry sound among (Granted generation) is None gives = absurd gives
gives_then heard more entry sound among (Refused cause) is (Some run) gives = absurd gives
gives_then heard more entry sound among (Refused cause) is None gives = tt
gives_then heard more entry sound among (Stale done) is (Some run) gives = absurd gives
gives_then heard more entry sound among (Stale done) is None gives = absurd gives
gives_then heard more entry sound among (Freed generation) is (Some run) gives = absurd gives
gives_then heard more entry sound among (Freed generation) is None gives = absurd gives

-- what an ask has for outcome at last it had when a grant or a refusal of it was heard
pub answered_then : (heard last : SegsView) (who number : ℕ) (asked : PagesAsked) (run : Option Run) → IsSound heard → HasLater heard last
    → list_any (grants_or_refuses who number) heard.asks ≡ true → IsAnsweredSo last.log last.asks who number asked run
    → IsAnsweredSo heard.log heard.asks who number asked run
answered_then heard last who number asked run sound later any so =
    let found = find_wider (grants_or_refuses who number) (is_outcome_for who number) (narrower who number) heard.asks any in
    let there : find (is_outcome_for who number) last.asks ≡ Some found.0 =
    ap (find (is_outcome_for who number)) later.asks
    ∙ find_stays (is_outcome_for who number) heard.asks later.others found.0 found.1 in
    let same : found.0 ≡ so.entry = same_Some found.0 so.entry (sym there ∙ so.logged) in
    let logged : find (is_outcome_for who number) heard.asks ≡ Some so.entry = found.1 ∙ ap (λ (entry : AskLog). Some entry) same in
    record {
      entry = so.entry;
      logged = logged;
      kept = so.kept;
      given = gives_then heard later.more so.entry sound
          (find_some (is_outcome_for who number) heard.asks so.entry logged).1 so.entry.outcome refl run
          (subst (λ log. Gives log so.entry.outcome run) later.log so.given);
    }

-- HOLD AFTER HOLD

module _ (who : ℕ) (last : SegsView) where
  -- these are the participant's holds that are left from a value on, among those of all, each of good values
  pub record AreLeft (holds : List (Hold SegsView)) (from : SegsView) : Type 0 where
    pub all : List (Hold SegsView)
    pub chain : Chain from all last
    pub each : All GoesOn all
    pub own : holds_of who all ≡ holds
    pub good : All IsOfGood holds

  -- between two holds of a participant nobody arms it
  next_armed : (from : SegsView) (all : List (Hold SegsView)) (hold : Hold SegsView) (holds : List (Hold SegsView)) → Chain from all last
      → All GoesOn all → holds_of who all ≡ hold ∷ holds → armed_ask hold.taken who ≡ armed_ask from who
  next_armed from [] hold holds chain each own = absurd (omega (arith, ap length own))
  next_armed from (first ∷ all) hold holds chain each own =
      elim (cases_eq first.who who) [
        | inl mine ↦
            let whole : first ∷ holds_of who all ≡ hold ∷ holds =
            sym (ap (λ is. cond is (first ∷ holds_of who all) (holds_of who all)) (eq-eqb first.who who mine)) ∙ own in
            let its : first ≡ hold = cc in
            ap (λ (hold : Hold SegsView). armed_ask hold.taken who) (sym its) ∙ ap (λ value. armed_ask value who) chain.0
        | inr other ↦
            next_armed first.given all hold holds chain.1 (All-tail GoesOn first all each)
            (sym (holds_of-other first all who (λ same. other (sym same))) ∙ own)
            ∙ ((All-head GoesOn first all each).others who (λ same. other (sym same)) ∙ ap (λ value. armed_ask value who) chain.0)
      ]

  -- the next one
  pub record IsOne (from : SegsView) (hold : Hold SegsView) (holds : List (Hold SegsView)) : Type 0 where
    pub before : HasLater from hold.taken
    pub armed : armed_ask hold.taken who ≡ armed_ask from who
    pub goes : GoesOn hold
    pub good : IsOfGood hold
    pub left : AreLeft holds hold.given

  pub one_left : (from : SegsView) (hold : Hold SegsView) (holds : List (Hold SegsView)) → AreLeft (hold ∷ holds) from
      → IsOne from hold holds
  one_left from hold holds left =
      let next = next_hold who last left.all from hold holds left.chain left.each left.own in
      record {
        before = next.before;
        armed = next_armed from left.all hold holds left.chain left.each left.own;
        goes = next.goes;
        good = All-head IsOfGood hold holds left.good;
        left = record {
          all = next.rest;
          chain = next.chain;
          each = next.each;
          own = next.own;
          good = All-tail IsOfGood hold holds left.good;
        };
      }

  -- and some that leave it armed as it was
  pub record ArePassed (from : SegsView) (holds : List (Hold SegsView)) : Type 0 where
    pub to : SegsView
    pub later : HasLater from to
    pub armed : armed_ask to who ≡ armed_ask from who
    pub left : AreLeft holds to

  pub pass_on : (first holds : List (Hold SegsView)) (from : SegsView) → AreLeft (first ++ holds) from → All (StaysArmed who) first
      → ArePassed from holds
  pass_on [] holds from left stays = record { to = from; later = none_behind from; armed = refl; left = left }
  pass_on (hold ∷ first) holds from left stays =
      let one = one_left from hold (first ++ holds) left in
      let on = pass_on first holds hold.given one.left (All-tail (StaysArmed who) hold first stays) in
      record {
        to = on.to;
        later = behind_then from hold.given on.to (behind_then from hold.taken hold.given one.before one.goes.later) on.later;
        armed = on.armed ∙ (All-head (StaysArmed who) hold first stays ∙ one.armed);
        left = on.left;
      }
