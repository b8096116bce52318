-- A turn's end, and what a pause leaves: while nothing moved the clock goes no further than the deadline of the round under way.
use Rattle.std.proofs.Common.{◌≡◌, ◌≢◌, ◌∙◌, ◌+◌, ◌-◌, ◌*◌, ◌^◌, ◌<◌, ◌≤◌, ◌⊎◌, ℕ, zero, suc, min, Bool, true, false, List, [], length, Some, inl, inr, sym, ap, subst, arith}
use Rattle.std.specs.Prelude.{slice_get}
use Rattle.std.specs.List.{list_any}
use Rattle.hp_core.specs.Core.{due_of}
use Rattle.hp_core.specs.declared.asked.Asked.{Asked}
use Rattle.hp_core.specs.declared.phase.Phase.{Phase}
use Rattle.hp_core.specs.declared.asked.Asked.TheVariants as want
use Rattle.hp_core.specs.declared.phase.Phase.TheVariants.{Idle, Waiting}
use Rattle.hp_core.specs.declared.phase.Round.{Round}
use Rattle.hp_frame.specs.declared.message.Body.{Body}
use Rattle.hp_plain.specs.Boxes.{box_of}
use Rattle.hp_hall.specs.Measures.{pending_at}
use Rattle.hp_hall.proofs.AsksOfHalls.Pending.{pending_falls}
use Rattle.hp_serve.specs.Party.{Party, due_in}
use Rattle.hp_serve.proofs.Scaled.{own_measure_lower}
use Rattle.thm_causes.specs.RoundTrip.{AreDoubled, AreOthersEmpty, EndsLevel, FollowsGrowth, GrowsLevel, HasCoordinator, IsAnsweredFor, IsBase, IsToDo, IsUnanswered, MayBeTakenBack, SettlesLevel, Setting, AskPhase, RunState, is_sync, mail_of}
use Rattle.thm_causes.specs.Quiet.{IsQuietOwing, IsQuietState}
use Rattle.thm_causes.specs.Stages.{IsSent}
use Rattle.thm_causes.specs.Waits.{IsAtTurn, core_in, is_last, measure_in}
use Rattle.thm_causes.proofs.TurnSteps.TurnsMembers.{mail_empty}
use Rattle.thm_causes.proofs.TurnSteps.TurnsQuiet.{leads_again, over_with, quiet_over}
use Rattle.thm_causes.proofs.TurnSteps.TurnsServings.{FollowsAt, IsCoreAtRest}

-- all have served
pub record HasTurned (set : Setting) (call : Asked) (sent : ℕ) (world : RunState) : Type 0 where
  pub at_turn : IsAtTurn set call sent world
  pub rested : (primary : Party) → slice_get world.parties 0 ≡ Some primary → IsCoreAtRest world.shared.clock primary.core

pub has_turned : (set : Setting) (call : Asked) (sent visited : ℕ) (world : RunState) → IsSent set call sent → FollowsAt set call sent visited world
    → ((who : ℕ) → who ≢ 0 → box_of world.shared.boxes who ≡ []) → HasTurned set call sent world
has_turned set call sent visited world is_sent follows none =
    let empty : AreOthersEmpty world = λ who beside. mail_empty set world who follows.base (none who beside) in
    let again = leads_again set call sent world empty follows.stage in
    record {
      at_turn = record {
        base = follows.base;
        stage = again.stage;
        empty = empty;
        ended = λ last. quiet_over set call sent is_sent world follows.base (all_empty empty (follows.last (again.last last)))
            (over_with set call sent true world again.stage last) (λ primary found. (follows.rested primary found).holds);
        light = follows.light;
      };
      rested = follows.rested;
    }
  where
    all_empty : AreOthersEmpty world → box_of world.shared.boxes 0 ≡ [] → (who : ℕ) → mail_of world who ≡ []
    all_empty empty first zero = mail_empty set world 0 follows.base first
    all_empty empty first (suc who) = empty (suc who) (λ (same : suc who ≡ 0). omega arith)

-- THE CLOCK GOES ON

-- the world at a later reading
abbrev pub at_clock : ℕ → RunState → RunState
at_clock now world = record {
  shared = record { segs = world.shared.segs; boxes = world.shared.boxes; clock = now; numbers = world.shared.numbers };
  mail = world.mail;
  parties = world.parties;
}

pub base_at : (set : Setting) (now : ℕ) (world : RunState) → IsBase set world → IsBase set (at_clock now world)
base_at set now world base = record {
  boxes = base.boxes;
  numbers = base.numbers;
  mail = base.mail;
  parties = base.parties;
  said = base.said;
  sound = base.sound;
  armed = base.armed;
  primary = base.primary;
  declared = base.declared;
  places = λ who party found.
      let its = base.places who party found in
      record {
        me = its.me;
        deadline = its.deadline;
        plan = its.plan;
        joined = its.joined;
        number = its.number;
        within = its.within;
        granted = its.granted;
        failed = its.failed;
        closed = its.closed;
        follower = its.follower;
        syncs = its.syncs;
      };
  noted = λ cause is.
      let its = base.noted cause is in
      record { who = its.who; call = its.call; addr = its.addr; got = its.got; is = its.is; made = its.made };
  excused = λ who primary party first found.
      let its = base.excused who primary party first found in
      record { late = its.late; withdrawn = its.withdrawn };
  apart = base.apart;
}

pub quiet_at : (set : Setting) (now : ℕ) (world : RunState) → IsQuietState set world → IsQuietState set (at_clock now world)
quiet_at set now world quiet = record {
  base = base_at set now world quiet.base;
  idle = quiet.idle;
  growth = quiet.growth;
  empty = quiet.empty;
  doubled = quiet.doubled;
  told = quiet.told;
  in_time = quiet.in_time;
  level = quiet.level;
}

-- and with what is owed in it
pub owing_at : (set : Setting) (owes : Bool) (now : ℕ) (world : RunState) → IsQuietOwing set owes world
    → IsQuietOwing set owes (at_clock now world)
owing_at set owes now world owing = record { quiet = quiet_at set now world owing.quiet; gone = owing.gone }

-- when the deadline of the round passes
due_waiting : (set : Setting) (call : Asked) (world : RunState) (round : Round) (since : ℕ) (holds : Bool)
    (coordinator : HasCoordinator set world (Waiting round since) call holds)
    → due_in coordinator.primary.core ≡ Some (min (since + set.deadline) (2 ^ 64 - 1))
due_waiting set call world round since holds coordinator =
    ap due_in coordinator.is.there
    ∙ ap (λ (phase : Phase). due_of coordinator.is.its.deadline phase) coordinator.is.phase_is
    ∙ ap (λ (deadline : ℕ). Some (min (since + deadline) (2 ^ 64 - 1))) coordinator.is.deadline

-- the clock goes on to no further than that
abbrev pub GoesNoFurther : ℕ → RunState → Type 0
GoesNoFurther now world = (primary : Party) → slice_get world.parties 0 ≡ Some primary → (due : ℕ) → due_in primary.core ≡ Some due
    → due < 2 ^ 64 - 1 → now ≤ due

module _ (set : Setting) (call : Asked) (sent now : ℕ) (is_sent : IsSent set call sent) (world : RunState)
    (none : (who : ℕ) → mail_of world who ≡ []) (no_further : GoesNoFurther now world) (in_time : now ≤ sent + 3 * set.deadline) where
  waits_within : (round : Round) (since : ℕ) (holds : Bool) → HasCoordinator set world (Waiting round since) call holds
      → since ≤ sent + set.deadline → now ≤ since + set.deadline
  waits_within round since holds coordinator early =
      let due = due_waiting set call world round since holds coordinator in
      let soon : since + set.deadline < 2 ^ 64 - 1 = omega (arith, early, is_sent.early, is_sent.setting.within) in
      let least : min (since + set.deadline) (2 ^ 64 - 1) ≡ since + set.deadline = omega (arith, soon) in
      let its : due_in coordinator.primary.core ≡ Some (since + set.deadline) = due ∙ ap (λ (n : ℕ). Some n) least in
      no_further coordinator.primary coordinator.there (since + set.deadline) its soon

  no_syncs : (member : ℕ) → list_any is_sync (mail_of world member) ≡ true → ⊥
  no_syncs member some =
      let not_any : list_any is_sync (mail_of world member) ≡ false = ap (λ (bodies : List Body). list_any is_sync bodies) (none member) in
      cc

  follows_later : (generation since member : ℕ) → FollowsGrowth set world generation since member
      → FollowsGrowth set (at_clock now world) generation since member
  follows_later generation since member (FollowsGrowth.told stands some) = absurd (no_syncs member some)
  follows_later generation since member (FollowsGrowth.has reached) = FollowsGrowth.has reached
  follows_later generation since member (FollowsGrowth.fails noted) = FollowsGrowth.fails noted
  follows_later generation since member (FollowsGrowth.lost primary found fewer) = FollowsGrowth.lost primary found fewer

  coordinator_at : (phase : Phase) (holds : Bool) → HasCoordinator set world phase call holds
      → HasCoordinator set (at_clock now world) phase call holds
  coordinator_at phase holds coordinator = record { primary = coordinator.primary; there = coordinator.there; is = coordinator.is }

  -- the stage at the later reading
  pub record StandsAt (before : AskPhase set call sent true world) : Type 0 where
    pub stage : AskPhase set call sent true (at_clock now world)
    pub last : is_last stage ≡ true → is_last before ≡ true

  none_some : 0 < length (mail_of world 0) → ⊥
  none_some some = omega (arith, some, ap length (none 0))

  unanswered_at : IsUnanswered call world → IsUnanswered call (at_clock now world)
  unanswered_at unanswered = record { asked = unanswered.asked; unheard = unanswered.unheard; nowhere = unanswered.nowhere }

  doubled_at : (holds : Bool) → AreDoubled set world call holds false → AreDoubled set (at_clock now world) call holds false
  doubled_at holds doubled = record { asker_is = doubled.asker_is; others = doubled.others; told = doubled.told }

  to_do_at : (those : Asked) → IsToDo those world → IsToDo those (at_clock now world)
  to_do_at (want.Grow ask) to_do = to_do
  to_do_at (want.Shrink from number) to_do = to_do

  answered_at : (those : Asked) → IsAnsweredFor those world → IsAnsweredFor those (at_clock now world)
  answered_at (want.Grow ask) answered = answered
  answered_at (want.Shrink from number) answered = answered

  back_at : (those : Asked) → MayBeTakenBack set those world → MayBeTakenBack set those (at_clock now world)
  back_at (want.Grow ask) back = back
  back_at (want.Shrink from number) back = back

  grows_at : GrowsLevel world → GrowsLevel (at_clock now world)
  grows_at level = record { gone = level.gone; room = level.room }

  settles_at : (generation : ℕ) → SettlesLevel set world generation → SettlesLevel set (at_clock now world) generation
  settles_at generation level = record { gone = level.gone; whole = level.whole; follows = level.follows }

  ends_at : EndsLevel set world → EndsLevel set (at_clock now world)
  ends_at level = record { gone = level.gone; level = level.level }

  stands_at : (before : AskPhase set call sent true world) → StandsAt before
  stands_at (AskPhase.fresh clock unanswered coordinator alone to_do copies some empty doubled level) = absurd (none_some some)
  stands_at (AskPhase.lost clock unanswered coordinator alone to_do gone empty doubled back loses) = record {
    stage = AskPhase.lost in_time (unanswered_at unanswered) (coordinator_at Idle false coordinator) alone (to_do_at call to_do) gone empty
        (doubled_at false doubled) (back_at call back) loses;
    last = λ last. last;
  }
  stands_at (AskPhase.growing round holds kind from number unanswered coordinator its to_do clock bodies doubled follow awaited level) =
      record {
        stage = AskPhase.growing round holds kind from number (unanswered_at unanswered)
            (coordinator_at (Waiting round sent) holds coordinator) its (to_do_at call to_do)
            (waits_within round sent holds coordinator (omega arith)) bodies (doubled_at holds doubled)
            (λ member there. follows_later round.generation sent member (follow member there))
            (λ leads member some. absurd (no_syncs member some)) (grows_at level);
        last = λ last. last;
      }
  stands_at
      (AskPhase.settling round since holds kind from number unanswered coordinator alone closed early clock logged bodies doubled waits
      answered level) =
      record {
        stage = AskPhase.settling round since holds kind from number (unanswered_at unanswered)
            (coordinator_at (Waiting round since) holds coordinator) alone closed early (waits_within round since holds coordinator early) logged
            bodies (doubled_at holds doubled) (λ leads member some. absurd (no_syncs member some)) (answered_at call answered)
            (settles_at round.generation level);
        last = λ last. last;
      }
  stands_at (AskPhase.over holds coordinator alone closed bodies doubled told answered level) = record {
    stage = AskPhase.over holds (coordinator_at Idle holds coordinator) alone closed bodies (doubled_at holds doubled) told
        (answered_at call answered) (ends_at level);
    last = λ last. last;
  }

-- A PAUSE

-- with fewer deadlines to come the measure is no more
pub lighter_at : (now : ℕ) (world : RunState) → world.shared.clock ≤ now → measure_in (at_clock now world) ≤ measure_in world
lighter_at now world later =
    omega (
      arith,
      own_measure_lower 1 (pending_at now) (pending_at world.shared.clock) (λ deadline. pending_falls world.shared.clock now deadline later)
          (core_in (slice_get world.parties 0)),
    )

pub paused_at : (set : Setting) (call : Asked) (sent now : ℕ) (world : RunState) → IsSent set call sent → IsAtTurn set call sent world
    → (now ≡ world.shared.clock)
    ⊎ ((world.shared.clock ≤ now) × ((who : ℕ) → mail_of world who ≡ []) × GoesNoFurther now world × (now ≤ sent + 3 * set.deadline))
    → IsAtTurn set call sent (at_clock now world)
paused_at set call sent now world is_sent at_turn (inl stands) =
    subst (λ (clock : ℕ). IsAtTurn set call sent (at_clock clock world)) (sym stands) at_turn
paused_at set call sent now world is_sent at_turn (inr goes) =
    let stands = stands_at set call sent now is_sent world goes.1 goes.2 goes.3 at_turn.stage in
    record {
      base = base_at set now world at_turn.base;
      stage = stands.stage;
      empty = at_turn.empty;
      ended = λ last. quiet_at set now world (at_turn.ended (stands.last last));
      light = omega (arith, lighter_at now world goes.0, at_turn.light);
    }
