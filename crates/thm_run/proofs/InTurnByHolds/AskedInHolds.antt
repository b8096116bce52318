-- Where a participant made its asks in its own holds: each was made after an earlier value, and has its outcome before the last one, and a
-- later ask was made once the outcome of an earlier one was there.
use Rattle.std.proofs.Common.{◌≡◌, ℕ, zero, suc, ◌+◌, ◌<◌, List, [], ◌∷◌, ◌++◌, Option, Some, arith, subst}
use Rattle.std.specs.List.{All, slice_get}
use Rattle.std.proofs.lemmas.Option.{slice_get_within}
use Rattle.hp_base.specs.declared.row.Run.{Run}
use Rattle.hp_segs.specs.SegsView.{SegsView}
use Rattle.hp_serve.specs.declared.pages_asked.PagesAsked.{PagesAsked}
use Rattle.hp_proc.specs.Courses.{numbered_in}
use Rattle.hp_proc.specs.Doing.{Done}
use Rattle.hp_proc.specs.Doing.Done.{Asked, GaveUp}
use Rattle.hp_weave.specs.Holds.{Chain, Hold, holds_of}
use Rattle.thm_run.proofs.AfterLemmas.{behind_then, none_behind}
use Rattle.thm_run.proofs.InTurnByHolds.NextHolds.{hold_after, next_hold, to_last}
use Rattle.thm_run.specs.OwnHolds.{DoesInHolds, GoesOn, HasLater, IsAskedBetween}

-- an ask of that number was made after a value, and had its outcome before the last one
pub record IsAnsweredIn (who number : ℕ) (asked : PagesAsked) (run : Option Run) (from last : SegsView) : Type 0 where
  pub armed : SegsView
  pub heard : SegsView
  pub before : HasLater from armed
  pub after : HasLater heard last
  pub mid : HasLater armed heard
  pub is : IsAskedBetween who number asked run armed heard

-- two asks, the later one made once the outcome of the earlier one was there
pub record AreBothIn (who number other : ℕ) (from last : SegsView) : Type 0 where
  pub asked : PagesAsked
  pub run : Option Run
  pub one : IsAnsweredIn who number asked run from last
  pub asked_next : PagesAsked
  pub run_next : Option Run
  pub next : IsAnsweredIn who other asked_next run_next one.heard last

abbrev earlier_from : (who number : ℕ) (asked : PagesAsked) (run : Option Run) (from mid last : SegsView) → HasLater from mid
    → IsAnsweredIn who number asked run mid last → IsAnsweredIn who number asked run from last
earlier_from who number asked run from mid last on is = record {
  armed = is.armed;
  heard = is.heard;
  before = behind_then from mid is.armed on is.before;
  after = is.after;
  mid = is.mid;
  is = is.is;
}

both_from : (who number other : ℕ) (from mid last : SegsView) → HasLater from mid → AreBothIn who number other mid last
    → AreBothIn who number other from last
both_from who number other from mid last on both = record {
  asked = both.asked;
  run = both.run;
  one = earlier_from who number both.asked both.run from mid last on both.one;
  asked_next = both.asked_next;
  run_next = both.run_next;
  next = both.next;
}

-- an ask stands at that place of what took numbers
pub record IsAskAt (numbered : List Done) (place : ℕ) : Type 0 where
  pub asked : PagesAsked
  pub run : Option Run
  pub there : slice_get numbered place ≡ Some (Asked asked run)

-- after another that took a number
abbrev ask_next : (done : Done) (numbered : List Done) (place : ℕ) → IsAskAt (done ∷ numbered) (suc place) → IsAskAt numbered place
ask_next done numbered place at = record { asked = at.asked; run = at.run; there = at.there }

given_up_no_ask : (heap : ℕ) (run : Run) (asked : PagesAsked) (given : Option Run) → Some (GaveUp heap run) ≡ Some (Asked asked given) → ⊥
given_up_no_ask heap run asked given same = cc

asked_is : (asked other : PagesAsked) (run given : Option Run) → Some (Asked asked run) ≡ Some (Asked other given) → asked ≡ other
asked_is asked other run given same = cc

run_is : (asked other : PagesAsked) (run given : Option Run) → Some (Asked asked run) ≡ Some (Asked other given) → run ≡ given
run_is asked other run given same = cc

nothing_no_ask : (place : ℕ) → IsAskAt [] place → ⊥
nothing_no_ask place at = omega (arith, slice_get_within [] place (Asked at.asked at.run) at.there)

module _ (who : ℕ) (last : SegsView) where
  pub one_on : (number : ℕ) (trace : List Done) (holds : List (Hold SegsView)) → DoesInHolds who number trace holds → (from : SegsView)
      (all : List (Hold SegsView)) → Chain from all last → All GoesOn all → holds_of who all ≡ holds → (place : ℕ)
      → (at : IsAskAt (numbered_in trace) place) → IsAnsweredIn who (number + place) at.asked at.run from last
  one_on _ _ _ (DoesInHolds.ends number) from all chain each own place at = absurd (nothing_no_ask place at)
  one_on _ _ _ (DoesInHolds.passes number trace hold holds stays does) from all chain each own place at =
      let next = next_hold who last all from hold holds chain each own in
      earlier_from who (number + place) at.asked at.run from hold.given last
      (behind_then from hold.taken hold.given next.before next.goes.later)
      (one_on number trace holds does hold.given next.rest next.chain next.each next.own place at)
  one_on _ _ _ (DoesInHolds.looks number trace hold holds stays does) from all chain each own place at =
      let next = next_hold who last all from hold holds chain each own in
      earlier_from who (number + place) at.asked at.run from hold.given last
      (behind_then from hold.taken hold.given next.before next.goes.later)
      (one_on number trace holds does hold.given next.rest next.chain next.each next.own place at)
  one_on _ _ _ (DoesInHolds.asks number asked run trace arming between hearing holds is stays does) from all chain each own zero at =
      let made = next_hold who last all from arming (between ++ hearing ∷ holds) chain each own in
      let heard = hold_after who last arming.given made.rest between hearing holds made.chain made.each made.own in
      let same : number ≡ number + 0 = omega arith in
      let its_asked : asked ≡ at.asked = asked_is asked at.asked run at.run at.there in
      let its_run : run ≡ at.run = run_is asked at.asked run at.run at.there in
      subst (λ number. IsAnsweredIn who number at.asked at.run from last) same
      (subst (λ asked. IsAnsweredIn who number asked at.run from last) its_asked
      (subst (λ run. IsAnsweredIn who number asked run from last) its_run (record {
        armed = arming.given;
        heard = hearing.given;
        before = behind_then from arming.taken arming.given made.before made.goes.later;
        after = to_last who last hearing.given heard.rest heard.chain heard.each;
        mid = behind_then arming.given hearing.taken hearing.given heard.before heard.goes.later;
        is = is;
      })))
  one_on _ _ _ (DoesInHolds.asks number asked run trace arming between hearing holds is stays does) from all chain each own (suc place) at =
      let made = next_hold who last all from arming (between ++ hearing ∷ holds) chain each own in
      let heard = hold_after who last arming.given made.rest between hearing holds made.chain made.each made.own in
      let same : number + 1 + place ≡ number + suc place = omega arith in
      earlier_from who (number + suc place) at.asked at.run from hearing.given last
      (behind_then from arming.given hearing.given (behind_then from arming.taken arming.given made.before made.goes.later)
      (behind_then arming.given hearing.taken hearing.given heard.before heard.goes.later))
      (subst (λ number. IsAnsweredIn who number at.asked at.run hearing.given last) same
      (one_on (number + 1) trace holds does hearing.given heard.rest heard.chain heard.each heard.own place
      (ask_next (Asked asked run) (numbered_in trace) place at)))
  one_on _ _ _ (DoesInHolds.gives_up number heap run trace holds does) from all chain each own zero at =
      absurd (given_up_no_ask heap run at.asked at.run at.there)
  one_on _ _ _ (DoesInHolds.gives_up number heap run trace holds does) from all chain each own (suc place) at =
      let same : number + 1 + place ≡ number + suc place = omega arith in
      subst (λ number. IsAnsweredIn who number at.asked at.run from last) same
      (one_on (number + 1) trace holds does from all chain each own place (ask_next (GaveUp heap run) (numbered_in trace) place at))
  one_on _ _ _ (DoesInHolds.calls number heap call answer trace holds does) from all chain each own place at =
      one_on number trace holds does from all chain each own place at
  one_on _ _ _ (DoesInHolds.reads_names number names trace holds does) from all chain each own place at =
      one_on number trace holds does from all chain each own place at
  one_on _ _ _ (DoesInHolds.reads_stats number heap counted trace holds does) from all chain each own place at =
      one_on number trace holds does from all chain each own place at
  one_on _ _ _ (DoesInHolds.changes_names number change trace holds does) from all chain each own place at =
      one_on number trace holds does from all chain each own place at
  one_on _ _ _ (DoesInHolds.sees_heap number heap history trace holds does) from all chain each own place at =
      one_on number trace holds does from all chain each own place at
  one_on _ _ _ (DoesInHolds.plans_range number addr len page plan trace holds does) from all chain each own place at =
      one_on number trace holds does from all chain each own place at
  one_on _ _ _ (DoesInHolds.maps_chunk number chunk ended trace holds does) from all chain each own place at =
      one_on number trace holds does from all chain each own place at
  one_on _ _ _ (DoesInHolds.catches_up number to caught trace holds does) from all chain each own place at =
      one_on number trace holds does from all chain each own place at

  -- after an ask, or a notice, which took one number
  module _ (number : ℕ) (trace : List Done) (from mid : SegsView) (on : HasLater from mid)
      (further : (place other : ℕ) → place < other → IsAskAt (numbered_in trace) place → IsAskAt (numbered_in trace) other
      → AreBothIn who (number + 1 + place) (number + 1 + other) mid last) where
    both_further : (place other : ℕ) → suc place < suc other → IsAskAt (numbered_in trace) place → IsAskAt (numbered_in trace) other
        → AreBothIn who (number + suc place) (number + suc other) from last
    both_further place other less at later =
        let first : number + 1 + place ≡ number + suc place = omega arith in
        let second : number + 1 + other ≡ number + suc other = omega arith in
        both_from who (number + suc place) (number + suc other) from mid last on
        (subst (λ second. AreBothIn who (number + suc place) second mid last) second
        (subst (λ first. AreBothIn who first (number + 1 + other) mid last) first (further place other (omega (arith, less)) at later)))

  two_asked : (number : ℕ) (asked : PagesAsked) (run : Option Run) (trace : List Done) (from : SegsView)
      (here : IsAnsweredIn who number asked run from last)
      → ((other : ℕ) → (at : IsAskAt (numbered_in trace) other) → IsAnsweredIn who (number + 1 + other) at.asked at.run here.heard last)
      → ((place other : ℕ) → place < other → IsAskAt (numbered_in trace) place → IsAskAt (numbered_in trace) other
      → AreBothIn who (number + 1 + place) (number + 1 + other) here.heard last)
      → (place other : ℕ) → place < other → IsAskAt (Asked asked run ∷ numbered_in trace) place
      → IsAskAt (Asked asked run ∷ numbered_in trace) other
      → AreBothIn who (number + place) (number + other) from last
  two_asked number asked run trace from here one further place zero less at later = absurd (omega (arith, less))
  two_asked number asked run trace from here one further zero (suc other) less at later =
      let first : number ≡ number + 0 = omega arith in
      let second : number + 1 + other ≡ number + suc other = omega arith in
      subst (λ first. AreBothIn who first (number + suc other) from last) first (record {
        asked = asked;
        run = run;
        one = here;
        asked_next = later.asked;
        run_next = later.run;
        next = subst (λ number. IsAnsweredIn who number later.asked later.run here.heard last) second
            (one other (ask_next (Asked asked run) (numbered_in trace) other later));
      })
  two_asked number asked run trace from here one further (suc place) (suc other) less at later =
      both_further number trace from here.heard (behind_then from here.armed here.heard here.before here.mid) further place
      other less (ask_next (Asked asked run) (numbered_in trace) place at) (ask_next (Asked asked run) (numbered_in trace) other later)

  two_given : (number heap : ℕ) (run : Run) (trace : List Done) (from : SegsView)
      → ((place other : ℕ) → place < other → IsAskAt (numbered_in trace) place → IsAskAt (numbered_in trace) other
      → AreBothIn who (number + 1 + place) (number + 1 + other) from last)
      → (place other : ℕ) → place < other → IsAskAt (GaveUp heap run ∷ numbered_in trace) place
      → IsAskAt (GaveUp heap run ∷ numbered_in trace) other
      → AreBothIn who (number + place) (number + other) from last
  two_given number heap run trace from further place zero less at later = absurd (omega (arith, less))
  two_given number heap run trace from further zero (suc other) less at later =
      absurd (given_up_no_ask heap run at.asked at.run at.there)
  two_given number heap run trace from further (suc place) (suc other) less at later =
      both_further number trace from from (none_behind from) further place other less
      (ask_next (GaveUp heap run) (numbered_in trace) place at) (ask_next (GaveUp heap run) (numbered_in trace) other later)

  pub two_on : (number : ℕ) (trace : List Done) (holds : List (Hold SegsView)) → DoesInHolds who number trace holds → (from : SegsView)
      (all : List (Hold SegsView)) → Chain from all last → All GoesOn all → holds_of who all ≡ holds → (place other : ℕ) → place < other
      → IsAskAt (numbered_in trace) place → IsAskAt (numbered_in trace) other → AreBothIn who (number + place) (number + other) from last
  two_on _ _ _ (DoesInHolds.ends number) from all chain each own place other less at later = absurd (nothing_no_ask place at)
  two_on _ _ _ (DoesInHolds.passes number trace hold holds stays does) from all chain each own place other less at later =
      let next = next_hold who last all from hold holds chain each own in
      both_from who (number + place) (number + other) from hold.given last
      (behind_then from hold.taken hold.given next.before next.goes.later)
      (two_on number trace holds does hold.given next.rest next.chain next.each next.own place other less at later)
  two_on _ _ _ (DoesInHolds.looks number trace hold holds stays does) from all chain each own place other less at later =
      let next = next_hold who last all from hold holds chain each own in
      both_from who (number + place) (number + other) from hold.given last
      (behind_then from hold.taken hold.given next.before next.goes.later)
      (two_on number trace holds does hold.given next.rest next.chain next.each next.own place other less at later)
  two_on _ _ _ (DoesInHolds.asks number asked run trace arming between hearing holds is stays does) from all chain each own place other less
      at later =
      let made = next_hold who last all from arming (between ++ hearing ∷ holds) chain each own in
      let heard = hold_after who last arming.given made.rest between hearing holds made.chain made.each made.own in
      two_asked number asked run trace from (record {
        armed = arming.given;
        heard = hearing.given;
        before = behind_then from arming.taken arming.given made.before made.goes.later;
        after = to_last who last hearing.given heard.rest heard.chain heard.each;
        mid = behind_then arming.given hearing.taken hearing.given heard.before heard.goes.later;
        is = is;
      })
      (one_on (number + 1) trace holds does hearing.given heard.rest heard.chain heard.each heard.own)
      (two_on (number + 1) trace holds does hearing.given heard.rest heard.chain heard.each heard.own) place other less at later
  two_on _ _ _ (DoesInHolds.gives_up number heap run trace holds does) from all chain each own place other less at later =
      two_given number heap run trace from (two_on (number + 1) trace holds does from all chain each own) place other less at later
  two_on _ _ _ (DoesInHolds.calls number heap call answer trace holds does) from all chain each own place other less at later =
      two_on number trace holds does from all chain each own place other less at later
  two_on _ _ _ (DoesInHolds.reads_names number names trace holds does) from all chain each own place other less at later =
      two_on number trace holds does from all chain each own place other less at later
  two_on _ _ _ (DoesInHolds.reads_stats number heap counted trace holds does) from all chain each own place other less at later =
      two_on number trace holds does from all chain each own place other less at later
  two_on _ _ _ (DoesInHolds.changes_names number change trace holds does) from all chain each own place other less at later =
      two_on number trace holds does from all chain each own place other less at later
  two_on _ _ _ (DoesInHolds.sees_heap number heap history trace holds does) from all chain each own place other less at later =
      two_on number trace holds does from all chain each own place other less at later
  two_on _ _ _ (DoesInHolds.plans_range number addr len page plan trace holds does) from all chain each own place other less at later =
      two_on number trace holds does from all chain each own place other less at later
  two_on _ _ _ (DoesInHolds.maps_chunk number chunk ended trace holds does) from all chain each own place other less at later =
      two_on number trace holds does from all chain each own place other less at later
  two_on _ _ _ (DoesInHolds.catches_up number to caught trace holds does) from all chain each own place other less at later =
      two_on number trace holds does from all chain each own place other less at later
