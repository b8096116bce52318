-- Two senders that put words, and a taker that takes them all.
use Rattle.std.specs.Prelude.{◌≡◌, ℕ, List, []}
use Rattle.hp_ring.specs.declared.taking.Taken.{Taken}
use Rattle.hp_ring.specs.Bulks.{BulkView, bulks_of}
use Rattle.hp_ring.specs.PassViews.{RingView, SendView}
use Rattle.hp_ring.specs.Taking.{HasTaken}
use Rattle.hp_ring.specs.Weave.{AreSent}

-- the passes of a ring with two senders, who have put nothing
pub record AreFresh (ring : RingView) (first second : SendView) (taken : Taken) : Type 0 where
  pub first_ring : first.ring ≡ ring.id
  pub second_ring : second.ring ≡ ring.id
  pub taker_ring : taken.pass.ring ≡ ring.id
  pub first_is : first.who ≡ 0
  pub second_is : second.who ≡ 1
  pub first_new : first.sent ≡ []
  pub second_new : second.sent ≡ []
  pub gathered : HasTaken taken

-- what a sender has put was all taken, and is what was gathered of it where there was memory for that
pub record HasPassed (who : ℕ) (words : List ℕ) (sent taken : List BulkView) : Type 0 where
  pub put : AreSent who words sent
  pub all : bulks_of who taken ≡ sent

pub record HasExchanged (first second : SendView) (odd even : List ℕ) (first' second' : SendView) (taken : Taken) : Type 0 where
  pub first_same : (first'.ring ≡ first.ring) × (first'.who ≡ first.who)
  pub second_same : (second'.ring ≡ second.ring) × (second'.who ≡ second.who)
  pub ring_same : taken.pass.ring ≡ first.ring
  pub first_passed : HasPassed first.who odd first'.sent taken.pass.taken
  pub second_passed : HasPassed second.who even second'.sent taken.pass.taken
  pub gathered : HasTaken taken
