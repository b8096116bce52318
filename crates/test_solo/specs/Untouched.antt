-- What participants and heaps have before anybody does anything, for the tests of this crate.
use Rattle.std.specs.Prelude.{◌≡◌, ℕ, [], None}
use Rattle.hp_hall.specs.Holding.{HeapPart}
use Rattle.hp_segs.specs.LaterSteps.{armed_ask}
use Rattle.hp_segs.specs.SegsView.{SegsView}
use Rattle.hp_segs.specs.Standing.{Holding}

-- a participant has made no entry in a heap, and is armed with no ask
pub record IsUntouched (part : HeapPart) : Type 0 where
  pub entries : part.entries ≡ []
  pub unarmed : part.armed ≡ None

-- no growth is open, and nobody is armed
pub record IsUnasked (segs : SegsView) : Type 0 where
  pub alone : segs.growth ≡ None
  pub unarmed : (who : ℕ) → armed_ask segs who ≡ None

-- a heap that has claimed nothing, and given nothing up
abbrev pub nothing_held : Holding
nothing_held = record { owned = []; claimed = []; came = []; retired = [] }
