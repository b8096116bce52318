-- Participants that came home by their ways came together: there is a run of all.
use Rattle.std.proofs.Common.{◌≡◌, ℕ, List, [], ◌∷◌, Some, slice_get, sym, subst, arith}
use Rattle.std.specs.List.{All}
use Rattle.std.proofs.lemmas.List.Elements.{All-cons, All-head, All-nil, All-tail, All-weaker}
use Rattle.hp_heap.specs.History.{HeapView}
use Rattle.hp_maps.specs.declared.table.Table.{Table}
use Rattle.hp_script.specs.declared.answer.Answer.{Answer}
use Rattle.hp_script.specs.declared.workload.Workload.{Workload}
use Rattle.hp_segs.specs.GrowthLaws.{HasArmedGrowth}
use Rattle.hp_segs.specs.SegsView.{SegsView}
use Rattle.hp_segs.specs.Sound as segments
use Rattle.hp_segs.specs.Standing.{IsArmed}
use Rattle.hp_weave.specs.Deeds.{Gathering}
use Rattle.hp_weave.specs.Holds.{Chain, Hold}
use Rattle.thm_run.proofs.PathSteps.Apart.{come_together}
use Rattle.thm_run.proofs.SeatFacts.FirstSegs.{armed_first, sound_first}
use Rattle.thm_run.proofs.InTurnByHolds.LinesInHolds.{way_by_lines}
use Rattle.thm_run.specs.Apart.{CameTogether, WentApart}
use Rattle.thm_run.specs.ByRuns.{GivesGood}
use Rattle.thm_run.specs.EndLaws.{IsGiven}
use Rattle.thm_run.specs.Seats.{SeatTrace, Seat}
use Rattle.thm_run.specs.SoFar.{first_segs}
use Rattle.thm_together.specs.CameHome.{AllCameHome}

-- a value is sound, with its growth and its asks of the armed
pub record IsGoodValue (segs : SegsView) : Type 0 where
  pub sound : segments.IsSound segs
  pub armed : IsArmed segs

pub first_good : (workload : Workload) → IsGiven workload → IsGoodValue (first_segs workload)
first_good workload given = record {
  sound = sound_first workload.pools.items workload.participants workload.absent given.pools given.primary given.present;
  armed = armed_first workload.pools.items workload.participants workload.absent;
}

-- in a chain each hold takes a good value where each gives one
pub takes_good : (first last : SegsView) (holds : List (Hold SegsView)) → IsGoodValue first → Chain first holds last → All GivesGood holds
    → All (λ (hold : Hold SegsView). IsGoodValue hold.taken) holds
takes_good first last [] good chain gives = All-nil (λ (hold : Hold SegsView). IsGoodValue hold.taken)
takes_good first last (hold ∷ holds) good chain gives =
    let given = All-head GivesGood hold holds gives in
    All-cons (λ (hold : Hold SegsView). IsGoodValue hold.taken) hold holds (subst IsGoodValue (sym chain.0) good)
    (takes_good hold.given last holds (record { sound = given.sound; armed = given.armed }) chain.1 (All-tail GivesGood hold holds gives))

module _ (workload : Workload) (answers : List Answer) (heaps : List HeapView) (segs : SegsView) (tables : List Table)
    (home : AllCameHome workload answers heaps segs tables) where
  abbrev pub first_all : Gathering Seat SegsView
  first_all = record { seats = home.first; value = first_segs workload }

  abbrev pub last_all : Gathering Seat SegsView
  last_all = record { seats = home.last; value = segs }

  pub path_of : (who : ℕ) (old new : Seat) → slice_get home.first who ≡ Some old → slice_get home.last who ≡ Some new
      → SeatTrace workload.participants who old new (home.steps who)
  path_of who old new early late =
      (way_by_lines workload.participants who old new (home.courses who) (home.steps who) (home.went who old new early late).way).0

  pub went_apart : WentApart workload.participants first_all last_all home.steps home.holds
  went_apart = record {
    size = home.count;
    ways = path_of;
    nobody_else = λ who beyond. home.no_steps who (omega (arith, beyond, home.begun));
    chain = home.held.chain;
    own = home.held.own;
  }

  pub came : CameTogether workload.participants first_all last_all home.steps home.holds
  came = come_together workload.participants first_all last_all home.steps home.holds went_apart

  pub good_taken : All (λ (hold : Hold SegsView). IsGoodValue hold.taken) home.holds
  good_taken = takes_good (first_segs workload) segs home.holds (first_good workload home.given) home.held.chain home.held.good

  pub armed_taken : All (λ (hold : Hold SegsView). HasArmedGrowth hold.taken) home.holds
  armed_taken =
      All-weaker (λ (hold : Hold SegsView). IsGoodValue hold.taken) (λ hold. HasArmedGrowth hold.taken) (λ hold good. good.armed.growth)
      home.holds good_taken

  pub sound_given : All (λ (hold : Hold SegsView). segments.IsSound hold.given) home.holds
  sound_given = All-weaker GivesGood (λ hold. segments.IsSound hold.given) (λ hold good. good.sound) home.holds home.held.good

-- what a chain ends with is good
pub last_good : (first last : SegsView) (holds : List (Hold SegsView)) → IsGoodValue first → Chain first holds last → All GivesGood holds
    → IsGoodValue last
last_good first last [] good chain gives = subst IsGoodValue (sym chain) good
last_good first last (hold ∷ holds) good chain gives =
    let given = All-head GivesGood hold holds gives in
    last_good hold.given last holds (record { sound = given.sound; armed = given.armed }) chain.1 (All-tail GivesGood hold holds gives)
