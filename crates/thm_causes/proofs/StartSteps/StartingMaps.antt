-- What participant 0 has come to once it has caught up for a round, or failed to.
use Rattle.std.proofs.Common.{◌≡◌, ◌≢◌, ℕ, ◌<◌, ◌≤◌, Bool, List, [], ◌∷◌, length, Some, refl, sym, ap, subst, ◌∙◌, arith}
use Rattle.std.specs.Prelude.{slice_get, slice_index_or, slice_set}
use Rattle.std.proofs.lemmas.Option.{same_Some}
use Rattle.std.proofs.lemmas.Bool.{or_left}
use Rattle.hp_base.specs.Mapping.{is_done}
use Rattle.hp_base.specs.declared.caught.Caught.{Caught}
use Rattle.hp_base.specs.declared.caught.Caught.TheVariants as caught
use Rattle.hp_core.specs.Core.{Core, Done, Stepped, going_on}
use Rattle.hp_core.specs.Mapped.{mapped}
use Rattle.hp_core.specs.Stepping.{caught_in}
use Rattle.hp_core.specs.declared.asked.Asked.{Asked}
use Rattle.hp_core.specs.declared.event.CoreEvent.TheVariants.{SelfMapped}
use Rattle.hp_core.specs.declared.out.Out.{Out}
use Rattle.hp_core.specs.declared.phase.Phase.{Phase}
use Rattle.hp_core.specs.declared.phase.Phase.TheVariants.{Mapping}
use Rattle.hp_core.specs.declared.phase.Round.{Round}
use Rattle.hp_segs.specs.Standing.{IsArmed}
use Rattle.hp_maps.specs.MapsView.{MapsView, calls_of}
use Rattle.hp_segs.specs.LaterSteps.{noted_failure}
use Rattle.hp_segs.specs.SegsView.{SegsView}
use Rattle.hp_segs.specs.Sound.{IsSound}
use Rattle.hp_segs.specs.declared.outcome.Cause.{Cause}
use Rattle.hp_serve.specs.Coordinating.{stepping, with_core, with_room}
use Rattle.hp_serve.specs.Party.{Party}
use Rattle.hp_serve.specs.Serving.{CatchesUp, after_catching_up}
use Rattle.thm_causes.specs.RoundTrip.{HasCoordinator, IsBase, IsNotedCall, Setting, AskPhase, RunState, number_of_party}
use Rattle.thm_causes.specs.Servings.{MapsItself, numbered}
use Rattle.thm_causes.specs.Shared.{Shared, with_segs}
use Rattle.thm_causes.specs.Stages.{ComesTo, world_with}
use Rattle.thm_causes.proofs.CaughtUp.{Ends, ends_so, failed, whole}
use Rattle.thm_causes.proofs.Said.{index_set, index_unset, set_found, set_long}
use Rattle.thm_causes.proofs.StartSteps.StartingBase.{Follows, GoesOn, LogsOne}

first_twice : (parties : List Party) (between after : Party) → slice_set (slice_set parties 0 between) 0 after ≡ slice_set parties 0 after
first_twice [] between after = refl
first_twice (party ∷ parties) between after = refl

-- where it comes to from a world in between, it comes to from the first
pub comes_on : (set : Setting) (call : Asked) (sent : ℕ) (leads : Bool) (world : RunState) (mid new : Shared) (between after : Party)
    → ComesTo set call sent leads (world_with mid world.mail 0 between world) 0 new after → ComesTo set call sent leads world 0 new after
comes_on set call sent leads world mid new between after comes =
    let same : world_with new comes.mail 0 after (world_with mid world.mail 0 between world) ≡ world_with new comes.mail 0 after world =
    ap (λ (parties : List Party). record { shared = new; mail = comes.mail; parties = parties }) (first_twice world.parties between after) in
    record {
      mail = comes.mail;
      base = subst (IsBase set) same comes.base;
      stage = subst (AskPhase set call sent leads) same comes.stage;
    }

-- the table and the numbers after a catching up
pub record ComesUp (world : RunState) (primary : Party) (table : MapsView) (at : Shared) : Type 0 where
  pub segs : at.segs ≡ world.shared.segs
  pub boxes : at.boxes ≡ world.shared.boxes
  pub clock : at.clock ≡ world.shared.clock
  pub long : length at.numbers ≡ length world.shared.numbers
  pub others : (who : ℕ) → who ≢ 0 → slice_index_or at.numbers who 0 ≡ number_of_party world who
  pub number : table.number ≡ slice_index_or at.numbers 0 0
  pub rises : number_of_party world 0 ≤ slice_index_or at.numbers 0 0
  pub within : slice_index_or at.numbers 0 0 ≤ length world.shared.segs.log
  pub calls : calls_of primary.maps ≤ calls_of table

module _ (set : Setting) (world : RunState) (primary : Party) (base : IsBase set world) (there : slice_get world.parties 0 ≡ Some primary)
    (some : 0 < set.count) where
  calls_rise : (table : MapsView) (ended : Caught) → Ends world.shared.segs.log primary.maps table ended → calls_of primary.maps ≤ calls_of table
  calls_rise table ended (whole is number calls) = calls
  calls_rise table ended (failed call fails later last none number) = omega (arith, later, last)

  own_number : primary.maps.number ≡ number_of_party world 0
  own_number = let own = base.places 0 primary there in own.number (sym own.joined ∙ base.primary)

  -- it has failed, and acknowledged nothing
  stays_behind : (table : MapsView) → table.number ≡ primary.maps.number → calls_of primary.maps ≤ calls_of table
      → ComesUp world primary table world.shared
  stays_behind table number calls = record {
    segs = refl;
    boxes = refl;
    clock = refl;
    long = refl;
    others = λ who apart. refl;
    number = number ∙ own_number;
    rises = omega arith;
    within = (base.places 0 primary there).within;
    calls = calls;
  }

  pub comes_up : (table : MapsView) (ended : Caught) → CatchesUp world.shared.segs.log primary.maps table ended
      → ComesUp world primary table (numbered 0 ended world.shared)
  comes_up table caught.Done is =
      let number = index_set world.shared.numbers 0 (length world.shared.segs.log) 0 (omega (arith, base.numbers, some)) in
      record {
        segs = refl;
        boxes = refl;
        clock = refl;
        long = set_long world.shared.numbers 0 (length world.shared.segs.log);
        others = λ who apart. index_unset world.shared.numbers 0 who (length world.shared.segs.log) 0 apart;
        number = is.number ∙ sym number;
        rises = omega (arith, number, (base.places 0 primary there).within);
        within = omega (arith, number);
        calls = calls_rise table caught.Done (ends_so world.shared.segs.log primary.maps table caught.Done is);
      }
  comes_up table (caught.Refused row call) is =
      stays_behind table is.number (calls_rise table _ (ends_so world.shared.segs.log primary.maps table (caught.Refused row call) is))
  comes_up table (caught.Elsewhere row call got) is =
      stays_behind table is.number (calls_rise table _ (ends_so world.shared.segs.log primary.maps table (caught.Elsewhere row call got) is))

-- participant 0 has caught up for a round, or failed to, and this is what its coordinator makes of that
pub record HasMapped (world : RunState) (round : Round) (mid : Shared) (primary between : Party) (answer : Out) : Type 0 where
  pub caught : Caught
  pub table : MapsView
  pub core : Core
  pub there : primary.core ≡ Some core
  pub caught_up : CatchesUp world.shared.segs.log primary.maps table caught
  pub done : Done
  pub is : done ≡ mapped round caught world.shared.clock (with_room world.shared.segs)
  pub answer_is : answer ≡ done.next.out
  pub shared : mid ≡ with_segs done.segs (numbered 0 caught world.shared)
  pub after_is : between ≡ with_core (record core { phase = done.next.phase }) (after_catching_up world.shared.segs.log caught table primary)
  pub sound : IsSound mid.segs
  pub armed : IsArmed mid.segs

module _ (set : Setting) (world : RunState) (round : Round) (mid : Shared) (primary between : Party) (answer : Out) (base : IsBase set world)
    (there : slice_get world.parties 0 ≡ Some primary) (some : 0 < set.count) where
  pub has_mapped : (call : Asked) (holds : Bool) → HasCoordinator set world (Mapping round) call holds
      → MapsItself world.shared mid primary between answer → HasMapped world round mid primary between answer
  has_mapped call holds coordinator maps =
      let up = comes_up set world primary base there some maps.table maps.caught maps.caught_up_is in
      let same : primary ≡ coordinator.primary = cc (there, coordinator.there) in
      let cores : Some maps.core ≡ Some coordinator.is.its =
      sym maps.there ∙ (ap (λ (party : Party). party.core) same ∙ coordinator.is.there) in
      let phase : maps.core.phase ≡ Mapping round =
      ap (λ (core : Core). core.phase) (same_Some maps.core coordinator.is.its cores) ∙ coordinator.is.phase_is in
      let at = numbered 0 maps.caught world.shared in
      let step : stepping maps.steps.denied (SelfMapped maps.caught world.shared.clock) maps.core at.segs
      ≡ going_on maps.core (mapped round maps.caught world.shared.clock (with_room world.shared.segs)) =
      ap (λ (segs : SegsView). caught_in maps.core (with_room segs) maps.caught world.shared.clock maps.core.phase) up.segs
      ∙ ap (caught_in maps.core (with_room world.shared.segs) maps.caught world.shared.clock) phase in
      record {
        caught = maps.caught;
        table = maps.table;
        core = maps.core;
        there = maps.there;
        caught_up = maps.caught_up_is;
        done = mapped round maps.caught world.shared.clock (with_room world.shared.segs);
        is = refl;
        answer_is = maps.steps.answer_is ∙ ap (λ (after : Stepped). after.out) step;
        shared = maps.steps.shared ∙ ap (λ (after : Stepped). with_segs after.segs at) step;
        after_is = maps.after_is
            ∙ ap (λ (core : Core). with_core core (after_catching_up world.shared.segs.log maps.caught maps.table primary))
            (maps.steps.core_is ∙ ap (λ (after : Stepped). after.core) step);
        sound = maps.steps.sound;
        armed = maps.steps.armed (subst IsArmed (sym up.segs) base.armed);
      }

  pub maps_after : (has : HasMapped world round mid primary between answer) → between.maps ≡ has.table
  maps_after has = ap (λ (party : Party). party.maps) has.after_is

  -- participant 0 goes on
  pub mapped_on : HasMapped world round mid primary between answer → GoesOn primary between
  mapped_on has = record {
    me = ap (λ (party : Party). party.me) has.after_is;
    plan = ap (λ (party : Party). party.plan) has.after_is;
    deadline = ap (λ (party : Party). party.deadline) has.after_is;
    asked = ap (λ (party : Party). party.asked) has.after_is;
    answered = ap (λ (party : Party). party.answered) has.after_is;
    allocs = ap (λ (party : Party). party.sent.allocs) has.after_is;
    frees = ap (λ (party : Party). party.sent.frees) has.after_is;
    calls = omega (arith, (comes_up set world primary base there some has.table has.caught has.caught_up).calls, ap calls_of (maps_after has));
  }

  -- what all share, and participant 0, after it
  pub mapped_follows : (has : HasMapped world round mid primary between answer) → has.done.segs.roster ≡ world.shared.segs.roster
      → length world.shared.segs.log ≤ length has.done.segs.log
      → LogsOne (world_with mid world.mail 0 between world) world.shared.segs.asks has.done.segs.asks
      → ((cause : Cause) → noted_failure has.done.segs ≡ Some cause → IsNotedCall (world_with mid world.mail 0 between world) cause)
      → Follows set world mid primary between
  mapped_follows has roster longer asks noted =
      let up = comes_up set world primary base there some has.table has.caught has.caught_up in
      let own = base.places 0 primary there in
      let segs_are : mid.segs ≡ has.done.segs = ap (λ (shared : Shared). shared.segs) has.shared in
      let numbers_are : mid.numbers ≡ (numbered 0 has.caught world.shared).numbers = ap (λ (shared : Shared). shared.numbers) has.shared in
      let first : slice_index_or mid.numbers 0 0 ≡ slice_index_or (numbered 0 has.caught world.shared).numbers 0 0 =
      ap (λ (numbers : List ℕ). slice_index_or numbers 0 0) numbers_are in
      let log_is : length mid.segs.log ≡ length has.done.segs.log = ap (λ (segs : SegsView). length segs.log) segs_are in
      let maps_are : between.maps ≡ has.table = maps_after has in
      record {
        boxes = ap (λ (shared : Shared). shared.boxes) has.shared ∙ up.boxes;
        clock = ap (λ (shared : Shared). shared.clock) has.shared ∙ up.clock;
        long = ap length numbers_are ∙ up.long;
        others = λ who apart. ap (λ (numbers : List ℕ). slice_index_or numbers who 0) numbers_are ∙ up.others who apart;
        sound = has.sound;
        armed = has.armed;
        roster = ap (λ (segs : SegsView). segs.roster) segs_are ∙ roster;
        longer = omega (arith, log_is, longer);
        on = mapped_on has;
        sent = ap (λ (party : Party). party.sent) has.after_is;
        joined = ap (λ (party : Party). party.joined) has.after_is
            ∙ or_left primary.joined (is_done has.caught) (sym own.joined ∙ base.primary);
        number = ap (λ (maps : MapsView). maps.number) maps_are ∙ (up.number ∙ sym first);
        rises = omega (arith, first, up.rises);
        within = omega (arith, first, up.within, log_is, longer);
        asks = subst (λ (segs : SegsView). LogsOne (world_with mid world.mail 0 between world) world.shared.segs.asks segs.asks) (sym segs_are) asks;
        noted = λ cause is. noted cause (ap noted_failure (sym segs_are) ∙ is);
      }

  -- its coordinator goes on with that phase
  pub mapped_coordinator : (call : Asked) (holds : Bool) (phase : Phase) (has : HasMapped world round mid primary between answer)
      → HasCoordinator set world (Mapping round) call holds → has.done.next.phase ≡ phase
      → HasCoordinator set (world_with mid world.mail 0 between world) phase call holds
  mapped_coordinator call holds phase has old is =
      let same : primary ≡ old.primary = cc (there, old.there) in
      let cores : Some has.core ≡ Some old.is.its = sym has.there ∙ (ap (λ (party : Party). party.core) same ∙ old.is.there) in
      let core_is : has.core ≡ old.is.its = same_Some has.core old.is.its cores in
      record {
        primary = between;
        there = set_found world.parties 0 primary between there;
        is = record {
          its = record has.core { phase = has.done.next.phase };
          there = ap (λ (party : Party). party.core) has.after_is;
          deadline = ap (λ (core : Core). core.deadline) core_is ∙ old.is.deadline;
          phase_is = is;
          held = ap (λ (core : Core). core.held) core_is ∙ old.is.held;
        };
      }
