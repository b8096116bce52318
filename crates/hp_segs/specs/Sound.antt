-- What holds of every segment value: its rows, its outcomes, its places and what was given up, each over the parts that they need.
use Rattle.hp_segs.specs.SegsView.{SegsView}
use Rattle.hp_segs.specs.SoundRows.{AreRows}
use Rattle.hp_segs.specs.Returned.{AreReturned}
use Rattle.hp_segs.specs.SoundAsks.{AreAsks}
use Rattle.hp_segs.specs.SoundPlaces.{ArePlaces}

-- the value is sound
pub record IsSound (segs : SegsView) : Type 0 where
  pub rows : AreRows segs.pools segs.log segs.segments segs.retiring segs.growth
  pub asks : AreAsks segs.pools segs.log segs.asks segs.growth
  pub places : ArePlaces segs.pools segs.roster segs.armed segs.ranges
  pub returned : AreReturned segs.log segs.asks segs.retiring segs.retired
