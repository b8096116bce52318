-- The coordinator's moves are moves of the segment value, and of the plain machine.
use Rattle.std.proofs.Common.{◌≡◌, ℕ, Bool, true, false, List, replicate, Option, Some, None, IsTrue, refl, ap, ◌∙◌, sym, subst, arith, if◌then◌else◌}
use Rattle.std.specs.Prelude.{IsSomeAnd}
use Rattle.std.specs.Option.{option_and_then}
use Rattle.hp_segs.specs.Calls.{MayAgree, MayDrop}
use Rattle.hp_segs.specs.LaterSteps.{after_note, is_noted, noting}
use Rattle.hp_segs.specs.Machine.{Drops, Grows, machine_of}
use Rattle.hp_segs.specs.Moved.{SegsCall, OpenRun, CloseAsk, LogStale, NoteFailed, Agree, Cancel, DropRetiring, LogFreed, IsMovedBy, after, is_log_call}
use Rattle.hp_segs.specs.SegsView.{SegsView}
use Rattle.hp_segs.specs.Sound.{IsSound}
use Rattle.hp_segs.specs.Steps.{after_agree, after_drop, after_grant, agreed_growth, granted_unless, lowest_below, lowest_member_below}
use Rattle.hp_segs.specs.declared.ask.Ask.{Ask}
use Rattle.hp_segs.specs.declared.growth.Growth.{Growth}
use Rattle.hp_segs.specs.declared.outcome.Cause.{Cause}
use Rattle.hp_segs.specs.declared.outcome.Cause.TheVariants.{MapFailed}
use Rattle.hp_segs.proofs.Moves.{calls_keep, calls_move, moves_compose, moves_stay, moves_widen}
use Rattle.hp_segs.proofs.LeaveLemmas.{others_leave}
use Rattle.hp_segs.proofs.MachineLemmas.{drop_is_step}
use Rattle.hp_segs.proofs.GrowthSteps.GrowLemmas.{grant_is_step}
use Rattle.hp_core.specs.Laws.{IsMachineMove, MovesAreMoved, MovesAreSteps, same, drops, grows}
use Rattle.hp_core.specs.Moves.{IsGrowStart, IsRoundMove, IsStart, cancels, frees, grants, grants_alone, grows as starts_grow, notes, opens, passes, refuses, rounds, stale, starts, waits}
use Rattle.hp_core.specs.declared.times.Times.{Times}

-- one value comes from another by logging calls
abbrev Moved : ℕ → SegsView → SegsView → Type 0
Moved steps old new = IsMovedBy is_log_call steps old new

same_call : (call : SegsCall) → IsTrue (is_log_call call) → IsTrue (is_log_call call)
same_call call is = is

wider : (old new : SegsView) → Moved 0 old new → Moved 1 old new
wider old new moved = moves_widen is_log_call is_log_call 0 1 old new same_call (omega arith) moved

-- no step and then one are one
then_one : (old mid new : SegsView) → Moved 0 old mid → Moved 1 mid new → Moved 1 old new
then_one old mid new here there = moves_compose is_log_call 0 1 old mid new here there

dropped : (old : SegsView) → MayDrop old → Moved 0 old (after_drop old)
dropped old may = calls_move is_log_call DropRetiring old refl may

grow_moved : (old new : SegsView) → IsGrowStart old new → Moved 1 old new
grow_moved old new (refuses ask cause may is) =
    subst (Moved 1 old) (sym is) (wider old (after (CloseAsk ask cause) old) (calls_move is_log_call (CloseAsk ask cause) old refl may))
grow_moved old new (opens ask run may is) = subst (Moved 1 old) (sym is) (calls_move is_log_call (OpenRun ask run) old refl may)

start_moved : (old new : SegsView) → IsStart old new → Moved 1 old new
start_moved old new (passes is) = subst (Moved 1 old) (sym is) (wider old old (moves_stay is_log_call old))
start_moved old new (stale from number may is) =
    subst (Moved 1 old) (sym is) (wider old (after (LogStale from number) old) (calls_move is_log_call (LogStale from number) old refl may))
start_moved old new (starts_grow may grown) = then_one old (after_drop old) new (dropped old may) (grow_moved (after_drop old) new grown)
start_moved old new (frees from number may freed is) =
    subst (Moved 1 old) (sym is) (then_one old (after_drop old) (after (LogFreed from number) (after_drop old)) (dropped old may)
    (wider (after_drop old) (after (LogFreed from number) (after_drop old)) (calls_move is_log_call (LogFreed from number) (after_drop old) refl freed)))

round_moved : (times : Times) (acks : List ℕ) (old new : SegsView) → IsRoundMove times acks old new → Moved 1 old new
round_moved times acks old new (waits is) = subst (Moved 1 old) (sym is) (wider old old (moves_stay is_log_call old))
round_moved times acks old new (grants may long all is) =
    subst (Moved 1 old) (sym is) (calls_move is_log_call (Agree acks) old refl (may, long))
round_moved times acks old new (grants_alone generation alone its may all is) =
    subst (Moved 1 old) (sym is) (calls_move is_log_call (Agree (replicate 16 generation)) old refl (may, refl))
round_moved times acks old new (cancels cause may timely is) =
    subst (Moved 1 old) (sym is) (wider old (after (Cancel cause) old) (calls_move is_log_call (Cancel cause) old refl may))

-- each move is by logging calls under their conditions, at most one of which opens or grants a growth
pub moves_are_moved : MovesAreMoved
moves_are_moved times acks old new (starts start) = start_moved old new start
moves_are_moved times acks old new (rounds round) = round_moved times acks old new round
moves_are_moved times acks old new (notes call row got may round) =
    then_one old (after_note 0 call row got old) new (calls_move is_log_call (NoteFailed 0 call row got) old refl may)
    (round_moved times acks (after_note 0 call row got old) new round)

-- a machine that a value stands for goes on to one that another does
same_as : (old new : SegsView) → new ≡ old → IsMachineMove old new
same_as old new is = same (ap machine_of is)

dropped_step : (old new : SegsView) → IsSound old → MayDrop old → machine_of new ≡ machine_of (after_drop old) → IsMachineMove old new
dropped_step old new sound may is =
    drops (subst (Drops old.pools (machine_of old)) (sym is) (drop_is_step old sound may.alone))

sound_behind : (old : SegsView) → IsSound old → MayDrop old → IsSound (after_drop old)
sound_behind old sound may = calls_keep DropRetiring old sound may

grow_leaves : (old new : SegsView) → IsSound old → IsGrowStart old new → machine_of new ≡ machine_of old
grow_leaves old new sound (refuses ask cause may is) = ap machine_of is ∙ others_leave (CloseAsk ask cause) old sound refl
grow_leaves old new sound (opens ask run may is) = ap machine_of is ∙ others_leave (OpenRun ask run) old sound refl

start_steps : (old new : SegsView) → IsSound old → IsStart old new → IsMachineMove old new
start_steps old new sound (passes is) = same_as old new is
start_steps old new sound (stale from number may is) = same (ap machine_of is ∙ others_leave (LogStale from number) old sound refl)
start_steps old new sound (starts_grow may grown) =
    dropped_step old new sound may (grow_leaves (after_drop old) new (sound_behind old sound may) grown)
start_steps old new sound (frees from number may freed is) =
    dropped_step old new sound may
    (ap machine_of is ∙ others_leave (LogFreed from number) (after_drop old) (sound_behind old sound may) refl)

-- a value whose open growth all have acknowledged is granted by it
granted_by : (words : List ℕ) (old : SegsView) (open_now : Option Growth) → old.growth ≡ open_now → IsSomeAnd open_now (λ growth. growth.noted ≡ None)
    → lowest_below old words ≡ None → (growth : Growth) × (old.growth ≡ Some growth) × (after_agree words old ≡ after_grant growth old)
granted_by words old None is unnoted all = absurd unnoted
granted_by words old (Some growth) is unnoted all =
    let none : lowest_member_below old.roster words growth.generation ≡ None =
    sym (ap (λ open_now. option_and_then (λ growth. lowest_member_below old.roster words growth.generation) open_now) is) ∙ all in
    (growth, is, ap (agreed_growth words old) is ∙ ap (granted_unless growth old) none)

agreed_steps : (words : List ℕ) (old new : SegsView) → IsSound old → MayAgree old → lowest_below old words ≡ None → new ≡ after_agree words old
    → IsMachineMove old new
agreed_steps words old new sound may all is =
    let found = granted_by words old old.growth refl may.unnoted all in
    grows found.0.ask found.0.generation
    (subst (λ open_now. IsSomeAnd open_now (λ growth. (growth.ask ≡ found.0.ask) × (growth.generation ≡ found.0.generation))) (sym found.1) (refl, refl))
    (subst (λ new. Grows old.pools found.0.ask found.0.generation (machine_of old) (machine_of new)) (sym (is ∙ found.2))
    (grant_is_step old found.0 sound found.1))

round_steps : (times : Times) (acks : List ℕ) (old new : SegsView) → IsSound old → IsRoundMove times acks old new → IsMachineMove old new
round_steps times acks old new sound (waits is) = same_as old new is
round_steps times acks old new sound (grants may long all is) = agreed_steps acks old new sound may all is
round_steps times acks old new sound (grants_alone generation alone its may all is) =
    agreed_steps (replicate 16 generation) old new sound may all is
round_steps times acks old new sound (cancels cause may timely is) = same (ap machine_of is ∙ others_leave (Cancel cause) old sound refl)

-- a noted failure leaves the pools, the machine, and of which ask the open growth is
record Left (old new : SegsView) : Type 0 where
  pub pools : new.pools ≡ old.pools
  pub asks : (ask : Ask) (generation : ℕ) → IsSomeAnd new.growth (λ growth. (growth.ask ≡ ask) × (growth.generation ≡ generation))
      → IsSomeAnd old.growth (λ growth. (growth.ask ≡ ask) × (growth.generation ≡ generation))

same_ask : (cause : Cause) (open_now : Option Growth) (ask : Ask) (generation : ℕ)
    → IsSomeAnd (noting cause open_now) (λ growth. (growth.ask ≡ ask) × (growth.generation ≡ generation))
    → IsSomeAnd open_now (λ growth. (growth.ask ≡ ask) × (growth.generation ≡ generation))
same_ask cause None ask generation is = is
same_ask cause (Some growth) ask generation is = is

left_by : (cause : Cause) (segs : SegsView) (taken : Bool) → Left segs (if taken then record segs { growth = noting cause segs.growth } else segs)
left_by cause segs true = record { pools = refl; asks = same_ask cause segs.growth }
left_by cause segs false = record { pools = refl; asks = λ ask generation is. is }

behind_note : (old mid new : SegsView) → Left old mid → machine_of mid ≡ machine_of old → IsMachineMove mid new → IsMachineMove old new
behind_note old mid new left is (same machine) = same (machine ∙ is)
behind_note old mid new left is (drops dropped_now) =
    drops (subst (λ machine. Drops old.pools machine (machine_of new)) is (subst (λ pools. Drops pools (machine_of mid) (machine_of new)) left.pools dropped_now))
behind_note old mid new left is (grows ask generation opened grown) =
    grows ask generation (left.asks ask generation opened)
    (subst (λ machine. Grows old.pools ask generation machine (machine_of new)) is
    (subst (λ pools. Grows pools ask generation (machine_of mid) (machine_of new)) left.pools grown))

-- each move takes the plain machine to itself, through the drops, or through one growth
pub moves_are_steps : MovesAreSteps
moves_are_steps times acks old new sound (starts start) = start_steps old new sound start
moves_are_steps times acks old new sound (rounds round) = round_steps times acks old new sound round
moves_are_steps times acks old new sound (notes call row got may round) =
    behind_note old (after_note 0 call row got old) new
    (left_by (MapFailed 0 call row.addr got) old (is_noted old 0 call row old.growth))
    (others_leave (NoteFailed 0 call row got) old sound refl)
    (round_steps times acks (after_note 0 call row got old) new (calls_keep (NoteFailed 0 call row got) old sound may) round)
