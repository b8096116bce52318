-- While one participant does its line, beside the records of a growth that fails or is granted one outcome alone is logged: all asks of the
-- others are closed when the line begins, and they ask for nothing meanwhile. It goes by hp_core's walk over a step, and carries through it
-- that what stands apart does so where the outcomes are sound.
use Rattle.std.proofs.Common.{◌≡◌, ◌≢◌, ◌⊎◌, ◌∙◌, ℕ, zero, suc, ◌+◌, ◌<◌, ◌≤◌, max, List, [], ◌∷◌, ◌++◌, length, replicate, Option, Some, None, IfSome, inl, inr, refl, ap, sym, subst, arith, length-append}
use Rattle.std.specs.Prelude.{slice_index_or, slice_set}
use Rattle.std.proofs.lemmas.Bool.{cases_eq}
use Rattle.std.proofs.lemmas.Option.{slice_get_within}
use Rattle.hp_base.specs.declared.caught.Caught.{Caught}
use Rattle.hp_base.specs.declared.caught.Caught.TheVariants as caught
use Rattle.hp_base.specs.declared.pool_line.PoolLine.{PoolLine}
use Rattle.hp_base.specs.declared.row.Run.{Run}
use Rattle.hp_core.specs.Core.{Core}
use Rattle.hp_core.specs.Following.{after_catching}
use Rattle.hp_core.specs.Stepping.{caught_in, stepped}
use Rattle.hp_core.specs.declared.asked.Asked.TheVariants as want
use Rattle.hp_core.specs.declared.event.CoreEvent.{CoreEvent}
use Rattle.hp_core.specs.declared.event.CoreEvent.TheVariants.{Grow, Poll, SelfMapped, Shrink}
use Rattle.hp_core.proofs.GivingLemmas.{catches_note}
use Rattle.hp_core.proofs.StepWalk.{HoldsAlone, HoldsInRound, HoldsStarted, came_holds, caught_holds, poll_holds}
use Rattle.hp_segs.specs.GrowthLaws.{HasArmedGrowth}
use Rattle.hp_segs.specs.LaterSteps.{after_arm, after_withdraw, armed_ask}
use Rattle.hp_segs.specs.Moved.{is_log_call}
use Rattle.hp_segs.specs.SegsView.{SegsView, closed_number, grant_of}
use Rattle.hp_segs.specs.Sound.{IsSound}
use Rattle.hp_segs.specs.Steps.{after_claim, claimed_grant}
use Rattle.hp_segs.specs.declared.ask.Ask.{Ask}
use Rattle.hp_segs.proofs.Moves.{moves_keep}
use Rattle.hp_serve.specs.Attaching.{after_attaching}
use Rattle.hp_serve.specs.Coordinating.{stepping, with_room}
use Rattle.hp_proc.specs.Courses.{numbered_in}
use Rattle.hp_proc.specs.Doing.{Done}
use Rattle.hp_serve.specs.Asking.{ask_of}
use Rattle.hp_serve.specs.declared.pages_asked.PagesAsked.{PagesAsked}
use Rattle.thm_run.specs.Seats.{Handles, Seat}
use Rattle.thm_run.specs.Together.{IsFirst, GlobalState, RunsByMail, Steps}
use Rattle.thm_run.proofs.PathSteps.ApartBySteps.{agree_apart, cancel_apart, catching_apart, claim_apart, close_apart, freed_apart, open_apart, stale_apart, withdraw_apart}
use Rattle.thm_run.proofs.Lasting.{runs_longer, step_longer}
use Rattle.thm_run.proofs.Leaving.{room_sound}
use Rattle.thm_run.proofs.TracesTold.Numbers.{its_numbers, numbered_both, numbers_of}
use Rattle.thm_run.proofs.SeatFacts.Seating.{its_seat}
use Rattle.thm_run.proofs.SeatFacts.SegsAlong.{armed_along, sound_along}
use Rattle.thm_run.proofs.TracesTold.Traced.{AreTraced}
use Rattle.thm_run.proofs.StandingApart.{ApartIfSound, HasSoundAsks, IsOwnGrowth, StandsApart}
use Rattle.thm_run.proofs.TracesTold.TracedRuns.{traced_runs}
use Rattle.thm_run.proofs.Turns.{AreRising}
use Rattle.thm_run.proofs.PathSteps.ByMail.{by_mail_then, run_of}

-- each ask that somebody is armed with is closed
abbrev pub AreClosed : SegsView → Type 0
AreClosed segs = (who : ℕ) (ask : Ask) → armed_ask segs who ≡ Some ask → ask.number ≤ closed_number segs.asks who

-- what holds of each armed ask does so where one more participant is armed with one of which it holds
pub armed_set : (armed : List (Option Ask)) (by : ℕ) (ask : Ask) (P : ℕ → Ask → Type 0) → P by ask
    → ((other : ℕ) (one : Ask) → slice_index_or armed other None ≡ Some one → P other one)
    → (other : ℕ) (one : Ask) → slice_index_or (slice_set armed by (Some ask)) other None ≡ Some one → P other one
armed_set [] by ask P new old other one is = old other one is
armed_set (first ∷ armed) zero ask P new old zero one is =
    let same : ask ≡ one = cc in
    subst (P 0) same new
armed_set (first ∷ armed) zero ask P new old (suc other) one is = old (suc other) one is
armed_set (first ∷ armed) (suc by) ask P new old zero one is = old zero one is
armed_set (first ∷ armed) (suc by) ask P new old (suc other) one is =
    armed_set armed by ask (λ other one. P (suc other) one) new (λ other one is. old (suc other) one is) other one is

-- a claim leaves the outcomes as they are
claimed_asks : (segs : SegsView) (generation : Option ℕ) → HasSoundAsks (claimed_grant segs generation) → HasSoundAsks segs
claimed_asks segs None kept = kept
claimed_asks segs (Some generation) kept = kept

claimed_rising : (segs : SegsView) (generation : Option ℕ) → AreRising (claimed_grant segs generation).asks → AreRising segs.asks
claimed_rising segs None rising = rising
claimed_rising segs (Some generation) rising = rising

module _ (who before base start : ℕ) where
  abbrev Stands : SegsView → Type 0
  Stands segs = StandsApart who before base start segs

  abbrev IfSound : SegsView → Type 0
  IfSound segs = ApartIfSound who before base start segs

  module _ (segs : SegsView) (sound : IsSound segs) (old : Stands segs) where
    starts_apart : segs.growth ≡ None → HoldsStarted IfSound segs
    starts_apart alone = record {
      stale = λ from number kept. stale_apart who before base start segs sound old from number;
      refused = λ ask cause armed. close_apart who before base start segs sound old alone ask cause;
      opened = λ ask run armed fresh kept. open_apart who before base start segs sound old ask run armed fresh;
      freed = λ from number kept. freed_apart who before base start segs sound old from number;
    }

    round_apart : (acks : List ℕ) → HoldsInRound IfSound acks segs
    round_apart acks = record {
      cancelled = λ cause its kept. cancel_apart who before base start segs sound old cause;
      agreed = λ kept. agree_apart who before base start segs sound old acks;
    }

    alone_apart : (one : Caught) → HoldsAlone IfSound one segs
    alone_apart one = record {
      cancelled = λ cause its kept. cancel_apart who before base start segs sound old cause;
      agreed = λ generation none mapped kept. agree_apart who before base start segs sound old (replicate 16 generation);
    }

  -- participant 0 has caught up, or failed to
  caught_apart : (core : Core) (segs : SegsView) (one : Caught) (now : ℕ) → IsSound segs → Stands segs
      → IfSound (caught_in core segs one now core.phase).segs
  caught_apart core segs one now sound old =
      let mid = after_catching 0 one segs in
      let kept : IsSound mid = moves_keep is_log_call 0 segs mid sound (catches_note 0 one segs sound.places.primary).moved in
      let stands_so : Stands mid = catching_apart who before base start segs 0 one old in
      caught_holds IfSound core segs one now core.phase (λ sound. old) (λ sound. stands_so) (alone_apart mid kept stands_so one)

  -- each step of the coordinator
  step_apart : (denial : ℕ → ℕ → Option (List ℕ × ℕ)) (event : CoreEvent) (core : Core) (segs : SegsView) → IsSound segs → Stands segs
      → IfSound (stepped denial event core segs).segs
  step_apart denial (Grow ask) core segs sound old =
      came_holds IfSound denial segs (λ kept. old) (starts_apart segs sound old) (want.Grow ask) core
  step_apart denial (Shrink from number) core segs sound old =
      came_holds IfSound denial segs (λ kept. old) (starts_apart segs sound old) (want.Shrink from number) core
  step_apart denial (SelfMapped one now) core segs sound old = caught_apart core segs one now sound old
  step_apart denial (Poll now acks) core segs sound old =
      poll_holds IfSound denial core segs now acks core.phase (λ kept. old) (starts_apart segs sound old) (round_apart segs sound old acks)

  event_apart : (denied : Option (List ℕ × ℕ)) (event : CoreEvent) (core : Core) (segs : SegsView) → IsSound segs → Stands segs
      → IfSound (stepping denied event core segs).segs
  event_apart denied event core segs sound old =
      step_apart (λ socket total. denied) event core (with_room segs) (room_sound segs sound)
      (record { armed = old.armed; apart = old.apart; since = old.since; log = old.log; growth = old.growth })

  -- a participant attaches, or tries to
  attach_apart : (by : ℕ) (ended : Caught) (segs : SegsView) → Stands segs → Stands (after_attaching by ended segs)
  attach_apart by caught.Done segs old =
      record { armed = old.armed; apart = old.apart; since = old.since; log = old.log; growth = old.growth }
  attach_apart by (caught.Refused row call) segs old = old
  attach_apart by (caught.Elsewhere row call got) segs old = old

  -- one is armed with an ask of the line
  arm_apart : (by number : ℕ) (ask : Ask) (segs : SegsView) → ask.from ≡ by → by ≡ who → before < ask.number → Stands segs
      → Stands (after_arm ask segs)
  arm_apart by number ask segs from own above old = record {
    armed = armed_set segs.armed ask.from ask
        (λ other one. (one.number ≤ closed_number segs.asks other) ⊎ ((other ≡ who) × (before < one.number)))
        (inr (from ∙ own, above)) old.armed;
    apart = old.apart;
    since = old.since;
    log = old.log;
    growth = old.growth;
  }

  -- one takes back what it asked for last, and claims
  settle_apart : (segs : SegsView) (by number since now : ℕ) → IsSound segs → HasArmedGrowth segs → Stands segs
      → IsSound (after_claim by number (after_withdraw by number since now segs))
      → AreRising (after_claim by number (after_withdraw by number since now segs)).asks
      → Stands (after_claim by number (after_withdraw by number since now segs))
  settle_apart segs by number since now sound growth old kept rising =
      let mid = after_withdraw by number since now segs in
      claim_apart who before base start mid by number
      (withdraw_apart who before base start segs sound old by number since now (cases_eq by who) growth
      (claimed_asks mid (grant_of mid.asks by number) kept.asks)
      (claimed_rising mid (grant_of mid.asks by number) rising))

  -- what a participant makes of the segment value
  handles_apart : {count by : ℕ} {old new : Seat} {taken given : SegsView} → Handles count by old new taken given → IsSound taken
      → HasArmedGrowth taken → Stands taken → IsSound given → AreRising given.asks
      → ((number : ℕ) → old.party.asked < number → length (numbered_in old.trace) < length (numbered_in new.trace)
      → (by ≡ who) × (before < number)) → Stands given
  handles_apart (Handles.looks seat segs) sound growth old kept rising asks = old
  handles_apart (Handles.moves_ranges seat segs ranges moves) sound growth old kept rising asks =
      record { armed = old.armed; apart = old.apart; since = old.since; log = old.log; growth = old.growth }
  handles_apart (Handles.steps seat segs event core is its knows denied may) sound growth old kept rising asks =
      event_apart denied event core segs sound old kept.asks
  handles_apart (Handles.maps seat segs caught table now core is its caught_up) sound growth old kept rising asks =
      event_apart None (SelfMapped caught now) core segs sound old kept.asks
  handles_apart {count} {by} (Handles.follows seat segs caught table member caught_up) sound growth old kept rising asks =
      catching_apart who before base start segs by caught old
  handles_apart {count} {by} (Handles.arms seat segs asked run number is) sound growth old kept rising asks =
      let above : seat.party.asked < number = above_asked seat.party.asked (closed_number segs.asks by) number is in
      let its = asks number above (one_more seat.trace asked run) in
      arm_apart by number (ask_of by number asked) segs refl its.0 its.1 old
    where
      above_asked : (asked closed number : ℕ) → number ≡ max asked closed + 1 → asked < number
      above_asked asked closed number is = omega (arith, is)

      one_more : (trace : List Done) (asked : PagesAsked) (run : Option Run)
          → length (numbered_in trace) < length (numbered_in (trace ++ Done.Asked asked run ∷ []))
      one_more trace asked run =
          omega (
            arith,
            ap length (numbered_both trace (Done.Asked asked run ∷ [])),
            length-append (numbered_in trace) (Done.Asked asked run ∷ []),
          )
  handles_apart {count} {by} (Handles.claims seat segs) sound growth old kept rising asks =
      claim_apart who before base start segs by seat.party.asked old
  handles_apart {count} {by} (Handles.settles seat segs since now late) sound growth old kept rising asks =
      settle_apart segs by seat.party.asked since now sound growth old kept rising
  handles_apart (Handles.cuts seat segs heap addr run) sound growth old kept rising asks =
      record { armed = old.armed; apart = old.apart; since = old.since; log = old.log; growth = old.growth }
  handles_apart {count} {by} (Handles.attaches seat segs caught after tried) sound growth old kept rising asks =
      attach_apart by caught segs old
  handles_apart (Handles.detaches seat segs told secondary none heard) sound growth old kept rising asks =
      record { armed = old.armed; apart = old.apart; since = old.since; log = old.log; growth = old.growth }

  -- in a step in which no other one takes a number, that stays
  step_stands : {count : ℕ} {old new : GlobalState} → Steps count old new → AreTraced old → before ≤ length (numbers_of old.seats who)
      → ((other : ℕ) → other ≢ who → length (numbers_of new.seats other) ≤ length (numbers_of old.seats other)) → IsSound old.segs
      → HasArmedGrowth old.segs → AreRising new.segs.asks → Stands old.segs → Stands new.segs
  step_stands (Steps.quietly at by old new there did) traced few beside sound growth rising was = was
  step_stands (Steps.mails at by old new step there did) traced few beside sound growth rising was = was
  step_stands (Steps.handles at by old new given there did kept armed) traced few beside sound growth rising was =
      handles_apart did sound growth was kept rising (λ number above longer. by_who number above longer (cases_eq by who))
    where
      had : numbers_of at.seats by ≡ numbered_in old.trace
      had = its_numbers at.seats by old there

      has : numbers_of (slice_set at.seats by new) by ≡ numbered_in new.trace
      has = its_numbers (slice_set at.seats by new) by new (its_seat at.seats by old new there)

      by_who : (number : ℕ) → old.party.asked < number → length (numbered_in old.trace) < length (numbered_in new.trace)
          → (by ≡ who) ⊎ (by ≢ who) → (by ≡ who) × (before < number)
      by_who number above longer (inl own) = (
        own,
        omega (
          arith,
          above,
          few,
          (traced.seats by old there).count,
          ap length had,
          ap (λ who. length (numbers_of at.seats who)) own,
        ),
      )
      by_who number above longer (inr other) = absurd (omega (arith, longer, beside by other, ap length had, ap length has))

-- from the beginning of a line on, after a run
module _ (count absent : ℕ) (pools : List PoolLine) (first start : GlobalState) (is : IsFirst count absent pools first)
    (runs : RunsByMail count first start) (who before : ℕ) (few : before ≤ length (numbers_of start.seats who)) (alone : start.segs.growth ≡ None)
    (closed : AreClosed start.segs) where
  abbrev pub StandsSince : SegsView → Type 0
  StandsSince segs = StandsApart who before (length start.segs.asks) (length start.segs.log) segs

  -- nothing came yet
  start_stands : StandsSince start.segs
  start_stands = record {
    armed = λ other ask is. inl (closed other ask is);
    apart = λ one later x y from here there order shown shows same.
        absurd (omega (arith, from, slice_get_within start.segs.asks one x here));
    since = λ place entry from here. absurd (omega (arith, from, slice_get_within start.segs.asks place entry here));
    log = omega arith;
    growth = subst
        (λ growth. IfSome growth (IsOwnGrowth who before (length start.segs.asks) (length start.segs.log) start.segs.asks)) (sym alone) tt;
  }

  -- nobody else took a number
  abbrev pub NoneBeside : GlobalState → Type 0
  NoneBeside now = (other : ℕ) → other ≢ who → length (numbers_of now.seats other) ≤ length (numbers_of start.seats other)

  -- while nobody else asks, what came stands apart
  pub stands_on_line : {now : GlobalState} → RunsByMail count start now → NoneBeside now → StandsSince now.segs
  stands_on_line on beside = along start on refl beside where
    along : {now : GlobalState} (begun : GlobalState) → RunsByMail count begun now → begun ≡ start → NoneBeside now → StandsSince now.segs
    along begun (RunsByMail.stands at) same beside = subst (λ (at : GlobalState). StandsSince at.segs) (sym same) start_stands
    along begun (RunsByMail.goes_on _ mid last before_it step by) same beside =
        let to_mid : RunsByMail count start mid = subst (λ begun. RunsByMail count begun mid) same before_it in
        let from_first : RunsByMail count first mid = by_mail_then count first start mid runs to_mid in
        let traced = traced_runs count absent pools first is last (RunsByMail.goes_on first mid last from_first step by) in
        step_stands who before (length start.segs.asks) (length start.segs.log) step
        (traced_runs count absent pools first is mid from_first)
        (omega (arith, few, runs_longer (run_of to_mid) who))
        (λ other apart. omega (arith, beside other apart, runs_longer (run_of to_mid) other))
        (sound_along count absent pools first is mid (run_of from_first))
        (armed_along count absent pools first is mid (run_of from_first)).growth
        traced.asks.turn
        (along begun before_it same (λ other apart. omega (arith, beside other apart, step_longer step other)))
