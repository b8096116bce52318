-- The measure of mailboxes and of a coordinator, and that each serving makes it less: the rule "Messages" of docs/PARTICIPANTS.md.
use Rattle.std.specs.Prelude.{◌≡◌, ◌+◌, ◌≤◌, ℕ, Bool, Option}
use Rattle.hp_core.specs.Core.{Core}
use Rattle.hp_hall.specs.Measures.{boxes_measure, pending_at}
use Rattle.hp_serve.specs.Denials.{Denials}
use Rattle.hp_serve.specs.Falling.{if_moved, own_measure}
use Rattle.hp_serve.specs.Party.{Party}
use Rattle.thm_causes.specs.Servings.{CoreServes, MemberServes}
use Rattle.thm_causes.specs.Shared.{Shared}

-- the measure of mailboxes and of a coordinator at the present reading
abbrev pub measure_of : Shared → Option Core → ℕ
measure_of at core = boxes_measure at.boxes + own_measure 1 (pending_at at.clock) core

-- a serving of participant 0 that does something makes the measure smaller
abbrev pub CoreWeighsLess : Type 1
CoreWeighsLess = (denies : Denials) (count : ℕ) (old new : Shared) (party after : Party) (moved : Bool) → party.me ≡ 0
    → CoreServes denies count old new party after moved → measure_of new after.core + if_moved moved ≤ measure_of old party.core

-- a serving of a member that does something makes the measure smaller, whatever participant 0 has under way
abbrev pub MemberWeighsLess : Type 0
MemberWeighsLess = (old new : Shared) (party after : Party) (moved : Bool) (core : Option Core) → MemberServes old new party after moved
    → measure_of new core + if_moved moved ≤ measure_of old core
