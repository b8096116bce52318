-- That all is quiet between asks and notices. The rule "Reasons" of docs/RUNS.md.
use Rattle.std.specs.Prelude.{◌≡◌, ℕ, ◌≤◌, Bool, false, [], Some, None, replicate, slice_get}
use Rattle.hp_core.specs.Core.{Core}
use Rattle.hp_core.specs.declared.asked.Asked.{Asked}
use Rattle.hp_core.specs.declared.phase.Phase.TheVariants.{Idle}
use Rattle.hp_serve.specs.Party.{Party}
use Rattle.thm_causes.specs.Counting.{LosesNothing}
use Rattle.thm_causes.specs.RoundTrip.{HaveCaughtUp, IsBase, IsInTime, IsToldBefore, Setting, RunState, doubles, mail_of, notices_lost}
use Rattle.thm_causes.specs.Outcomes.{stale_outcomes, unanswered_among}

-- between asks and notices all is quiet
pub record IsQuietState (set : Setting) (world : RunState) : Type 0 where
  pub base : IsBase set world
  pub idle : (primary : Party) → slice_get world.parties 0 ≡ Some primary
      → (core : Core) × (primary.core ≡ Some core) × (core.deadline ≡ set.deadline) × (core.phase ≡ Idle) × (core.held ≡ replicate 16 None)
  pub growth : world.shared.segs.growth ≡ None
  pub empty : (who : ℕ) → mail_of world who ≡ []
  pub doubled : (who : ℕ) (party : Party) → slice_get world.parties who ≡ Some party
      → stale_outcomes who world.shared.segs.asks ≤ doubles set who party
  -- asks and notices without an outcome are no more than the notices that were lost
  pub told : (who : ℕ) (party : Party) → slice_get world.parties who ≡ Some party
      → unanswered_among world.shared.segs.asks who party.asked ≤ notices_lost set who party
  -- asks and notices without an outcome when the line began have none still
  pub in_time : (who : ℕ) (party : Party) → slice_get world.parties who ≡ Some party → IsInTime set world.shared.segs.asks who party.asked
  -- where the plan loses no message all members have taken in all records
  pub level : LosesNothing set.plan → HaveCaughtUp world

-- all is quiet but for an ask that was lost: all other asks and notices have an outcome, or are notices that were lost
pub record IsQuietBut (set : Setting) (call : Asked) (world : RunState) : Type 0 where
  pub base : IsBase set world
  pub idle : (primary : Party) → slice_get world.parties 0 ≡ Some primary
      → (core : Core) × (primary.core ≡ Some core) × (core.deadline ≡ set.deadline) × (core.phase ≡ Idle) × (core.held ≡ replicate 16 None)
  pub growth : world.shared.segs.growth ≡ None
  pub empty : (who : ℕ) → mail_of world who ≡ []
  pub doubled : (who : ℕ) (party : Party) → slice_get world.parties who ≡ Some party
      → stale_outcomes who world.shared.segs.asks ≤ doubles set who party
  pub told : (who : ℕ) (party : Party) → slice_get world.parties who ≡ Some party
      → IsToldBefore set world.shared.segs.asks call who party
  pub level : LosesNothing set.plan → HaveCaughtUp world

-- all is quiet; and where the plan loses no message nothing that was given up is left, unless a participant still has to post a notice
pub record IsQuietOwing (set : Setting) (owes : Bool) (world : RunState) : Type 0 where
  pub quiet : IsQuietState set world
  pub gone : LosesNothing set.plan → owes ≡ false → world.shared.segs.retiring ≡ []
