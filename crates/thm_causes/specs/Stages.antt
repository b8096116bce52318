-- What one serving makes of an ask's stage. The rule "Reasons" of docs/RUNS.md.
use Rattle.std.specs.Prelude.{◌≡◌, ◌≢◌, ℕ, ◌+◌, ◌<◌, ◌≤◌, ◌^◌, ⊤, Bool, true, false, List, Some, None, slice_get, slice_set}
use Rattle.std.specs.List.{All, list_any}
use Rattle.hp_core.specs.Asks.{asker}
use Rattle.hp_core.specs.Outs.{IsAskOf}
use Rattle.hp_core.specs.declared.asked.Asked.{Asked}
use Rattle.hp_core.specs.declared.event.CoreEvent.{CoreEvent}
use Rattle.hp_core.specs.declared.phase.Phase.TheVariants.{Idle}
use Rattle.hp_frame.specs.declared.message.Body.{Body}
use Rattle.hp_serve.specs.Denials.{Denials}
use Rattle.hp_serve.specs.Party.{Party}
use Rattle.thm_causes.specs.RoundTrip.{AreDoubled, AreOthersEmpty, HasCoordinator, IsBase, IsCopy, IsSetting, IsToDo, IsUnanswered, Setting, AskPhase, StartsLevel, RunState, copies_left, doubles, is_sync, mail_of, number_of_party}
use Rattle.thm_causes.specs.Outcomes.{stale_outcomes}
use Rattle.thm_causes.specs.Servings.{CoreServes, Handles, MemberServes, Polls}
use Rattle.thm_causes.specs.Shared.{Shared}

-- the world after what one participant did
abbrev pub world_with : Shared → List (List Body) → ℕ → Party → RunState → RunState
world_with shared mail who after old = record { shared = shared; mail = mail; parties = slice_set old.parties who after }

-- it comes to a stage of the ask
pub record ComesTo (set : Setting) (call : Asked) (sent : ℕ) (leads : Bool) (old : RunState) (who : ℕ) (shared : Shared) (after : Party) : Type 0 where
  pub mail : List (List Body)
  pub base : IsBase set (world_with shared mail who after old)
  pub stage : AskPhase set call sent leads (world_with shared mail who after old)

-- an ask that is sent at a reading at which the clock's type has not ended for long
pub record IsSent (set : Setting) (call : Asked) (sent : ℕ) : Type 0 where
  pub setting : IsSetting set
  pub declared : asker call < set.count
  pub early : sent ≤ 2 ^ 62

-- participant 0 has fetched an ask that is to do: all else is quiet, but for further copies of it
pub record IsStarting (set : Setting) (call : Asked) (sent : ℕ) (world : RunState) : Type 0 where
  pub clock : world.shared.clock ≡ sent
  pub unanswered : IsUnanswered call world
  pub coordinator : HasCoordinator set world Idle call false
  pub alone : world.shared.segs.growth ≡ None
  pub to_do : IsToDo call world
  pub copies : All (IsCopy call) (mail_of world 0)
  pub empty : AreOthersEmpty world
  pub doubled : AreDoubled set world call false false
  pub level : StartsLevel set call world

-- participant 0 has fetched one more copy of an ask: there is room for one more that is stale
abbrev pub HasOneMore : Setting → RunState → Asked → Bool → Type 0
HasOneMore set world call holds = (party : Party) → slice_get world.parties (asker call) ≡ Some party
    → stale_outcomes (asker call) world.shared.segs.asks + copies_left world holds + 1 ≤ doubles set (asker call) party

-- What is to be shown of participant 0, whatever its judge denies, over the world after its fetch, if there was one:

-- it starts a fresh ask
abbrev pub StartsFresh : Type 1
StartsFresh = (denies : Denials) (set : Setting) (call : Asked) (sent : ℕ) (event : CoreEvent) (world : RunState) (shared : Shared)
    (primary after : Party)
    → IsSent set call sent → IsBase set world → IsStarting set call sent world → slice_get world.parties 0 ≡ Some primary → IsAskOf event call
    → Handles denies set.count event world.shared shared primary after → ComesTo set call sent true world 0 shared after

-- a further copy may come: one of a fresh ask is started instead, and of one that was lost there is none
abbrev pub HasRoomFor : (set : Setting) (call : Asked) (sent : ℕ) (leads : Bool) (world : RunState) → AskPhase set call sent leads world → Type 0
HasRoomFor set call sent leads world (AskPhase.fresh clock unanswered coordinator alone to_do copies some empty doubled level) = ⊥
HasRoomFor set call sent leads world (AskPhase.lost clock unanswered coordinator alone to_do none empty doubled taken_back loses) = ⊥
HasRoomFor set call sent leads world
    (AskPhase.growing round holds kind from number unanswered coordinator its to_do clock bodies doubled follow awaited level) =
    HasOneMore set world call holds
HasRoomFor set call sent leads world
    (AskPhase.settling round since holds kind from number unanswered coordinator alone closed early clock logged bodies doubled waits granted level) =
    HasOneMore set world call holds
HasRoomFor set call sent leads world (AskPhase.over holds coordinator alone closed bodies doubled told granted level) = HasOneMore set world call holds

-- a further copy comes: it is held, or stale
abbrev pub TakesACopy : Type 1
TakesACopy = (denies : Denials) (set : Setting) (call : Asked) (sent : ℕ) (event : CoreEvent) (world : RunState) (shared : Shared)
    (primary after : Party)
    → IsSent set call sent → IsBase set world → (stage : AskPhase set call sent true world) → HasRoomFor set call sent true world stage
    → slice_get world.parties 0 ≡ Some primary → IsAskOf event call
    → Handles denies set.count event world.shared shared primary after → ComesTo set call sent true world 0 shared after

-- a poll may come: who has a SYNC of a settling round in its mailbox has not acknowledged the round
abbrev pub MayPoll : (set : Setting) (call : Asked) (sent : ℕ) (leads : Bool) (world : RunState) → AskPhase set call sent leads world → Type 0
MayPoll set call sent leads world (AskPhase.fresh clock unanswered coordinator alone to_do copies some empty doubled level) = ⊤
MayPoll set call sent leads world (AskPhase.lost clock unanswered coordinator alone to_do none empty doubled taken_back loses) = ⊤
MayPoll set call sent leads world
    (AskPhase.growing round holds kind from number unanswered coordinator its to_do clock bodies doubled follow awaited level) = ⊤
MayPoll set call sent leads world
    (AskPhase.settling round since holds kind from number unanswered coordinator alone closed early clock logged bodies doubled waits granted level) =
    (member : ℕ) → list_any is_sync (mail_of world member) ≡ true → number_of_party world member < round.generation
MayPoll set call sent leads world (AskPhase.over holds coordinator alone closed bodies doubled told granted level) = ⊤

-- it polls: by a reply while a round is under way, as a deadline has passed, or to start what it holds
abbrev pub PollsOn : Type 1
PollsOn = (denies : Denials) (set : Setting) (call : Asked) (sent : ℕ) (world : RunState) (shared : Shared) (primary after : Party)
    → IsSent set call sent → IsBase set world → (stage : AskPhase set call sent true world) → MayPoll set call sent true world stage
    → slice_get world.parties 0 ≡ Some primary → Polls denies set.count world.shared shared primary after
    → ComesTo set call sent true world 0 shared after

-- it serves once, whatever lies in its mailbox
abbrev pub PrimaryServes : Type 1
PrimaryServes = (denies : Denials) (set : Setting) (call : Asked) (sent : ℕ) (world : RunState) (shared : Shared) (primary after : Party)
    (moved : Bool)
    → IsSent set call sent → IsBase set world → AskPhase set call sent true world → slice_get world.parties 0 ≡ Some primary
    → CoreServes denies set.count world.shared shared primary after moved → ComesTo set call sent true world 0 shared after

-- What is to be shown of members:

-- a member serves once
abbrev pub MemberServesOnce : Type 0
MemberServesOnce = (set : Setting) (call : Asked) (sent : ℕ) (world : RunState) (who : ℕ) (shared : Shared) (party after : Party) (moved : Bool)
    → IsSent set call sent → IsBase set world → AskPhase set call sent false world → who ≢ 0 → slice_get world.parties who ≡ Some party
    → MemberServes world.shared shared party after moved → ComesTo set call sent false world who shared after
