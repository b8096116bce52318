-- What a taker has of two senders.
use Rattle.std.specs.Prelude.{◌≡◌, ◌++◌, List, [], ◌∷◌, true}
use Rattle.hp_ring.specs.declared.taking.Taken.{Taken}
use Rattle.hp_ring.specs.Bulks.{BulkView, bulks_of}
use Rattle.hp_ring.specs.Gathering.{HasGathered}

-- of the bulks that were taken, those of the senders 0 and 1 were gathered, each by themselves
pub record HasTaken (taker : Taken) : Type 0 where
  pub first : HasGathered (bulks_of 0 taker.pass.taken) taker.first
  pub second : HasGathered (bulks_of 1 taker.pass.taken) taker.second

-- both have ended
pub record HasTakenAll (taker : Taken) : Type 0 where
  pub taken : HasTaken taker
  pub first_ended : taker.first.ended ≡ true
  pub second_ended : taker.second.ended ≡ true

-- all but the last bulk was gathered
pub record HasTakenBut (bulk : BulkView) (taker : Taken) : Type 0 where
  pub before : List BulkView
  pub taken : taker.pass.taken ≡ before ++ bulk ∷ []
  pub first : HasGathered (bulks_of 0 before) taker.first
  pub second : HasGathered (bulks_of 1 before) taker.second
