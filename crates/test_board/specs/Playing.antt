-- What a participant that grows by hand keeps between its turns, and what it has while it holds the segment value.
use Rattle.std.specs.Prelude.{◌≡◌, ℕ, Bool, true, ◌≤◌, List, [], ◌∷◌, map, Some, None}
use Rattle.atomic_table.specs.Seated.{TableId}
use Rattle.hp_base.specs.declared.limits.TheConstants.{MAX_SEGMENTS}
use Rattle.hp_segs.specs.LaterSteps.{armed_ask}
use Rattle.hp_segs.specs.SegsView.{SegsView, is_member}
use Rattle.hp_segs.specs.Sound.{IsSound}
use Rattle.hp_segs.specs.Standing.{Holding, standing_of}
use Rattle.hp_maps.specs.MapsView.{MapsView}
use Rattle.hp_hall.specs.Giving.{GivesSegments, Knows}
use Rattle.hp_hall.specs.Holding.{AreStanding}
use Rattle.hp_hall.specs.Standings.{LeavesStanding}
use Rattle.hp_hall.specs.declared.kept.Kept.TheVariants.{Segments}
use Rattle.hp_serve.specs.Tied.{IsTied, no_chunks}
use Rattle.hp_board.specs.Knowing.{heap_part}
use Rattle.hp_board.specs.SeatView.{SeatView}
use Rattle.hp_board.specs.Views.{own_of, value_of, without}
use Rattle.hp_board.specs.declared.view.Mine.{Mine}

-- a participant has a seat at a board of three, is in the roster, and its table is what it knows of it
pub record IsPlaying (board : TableId) (seat : SeatView) (maps : MapsView) : Type 0 where
  pub board_is : seat.board ≡ board
  pub three : seat.mine.opening.participants ≡ 3
  pub joined : seat.mine.joined ≡ true
  pub tied : IsTied seat.mine.log (own_of seat.mine) no_chunks true maps

-- it has the segment value in hand, and knows of that what a taker does
pub record HoldsSegs (board : TableId) (segs : SegsView) (seat : SeatView) (maps : MapsView) : Type 0 where
  pub playing : IsPlaying board seat maps
  pub sound : IsSound segs
  pub holds : value_of 32 seat.mine.held ≡ Some (Segments segs)
  pub log : seat.mine.log ≡ segs.log
  pub heard : seat.mine.heard ≡ segs.asks
  pub member : is_member segs.roster seat.mine.who ≡ true
  pub standing : AreStanding seat.mine.who (heap_part seat.mine) segs

-- with the segment value it has what else it had
pub record HasSegs (old : Mine) (segs : SegsView) (mine : Mine) : Type 0 where
  pub who : mine.who ≡ old.who
  pub held : mine.held ≡ (32, Segments segs) ∷ old.held
  pub holdings : mine.holdings ≡ old.holdings
  pub claims : mine.claims ≡ old.claims
  pub armed : mine.armed ≡ old.armed
  pub made : mine.made ≡ old.made

-- it has come on in the log, or failed to, or has loaded numbers; nothing else has changed
abbrev pub HasComeOn : Mine → Mine → Type 0
HasComeOn old new = (number unmapped : ℕ) × (joining : Bool) × (noted : List (ℕ × ℕ))
    × (new ≡ record old { number = number; unmapped = unmapped; joining = joining; noted = noted })

-- it has given a segment value, and what else it had it has still; it knows no more of external memory than before
pub record HasGiven (old : Mine) (given : SegsView) (mine : Mine) : Type 0 where
  pub who : mine.who ≡ old.who
  pub held : mine.held ≡ without 32 old.held
  pub holdings : mine.holdings ≡ map (λ pair. (pair.0, standing_of pair.0 given)) old.holdings
  pub unclaimed : old.claims ≡ None → mine.claims ≡ None
  pub armed : mine.armed ≡ armed_ask given old.who
  pub made : mine.made ≡ old.made
  pub heard : mine.heard ≡ given.asks

-- a turn in which the segment value was taken and given leaves all else: the slots that were held besides, what was known of a heap in hand,
-- the armed ask, and the entries; and who did not know what external memory is claimed does not know it then
pub record HasTurned (old new : Mine) : Type 0 where
  pub who : new.who ≡ old.who
  pub held : new.held ≡ without 32 old.held
  pub holdings : (heap : ℕ) (holding : Holding) → old.holdings ≡ (heap, holding) ∷ [] → new.holdings ≡ old.holdings
  pub unclaimed : old.claims ≡ None → new.claims ≡ None
  pub armed : new.armed ≡ old.armed
  pub made : new.made ≡ old.made

-- a participant has come back with its seat, and holds nothing
pub record IsBack (board : TableId) (who : ℕ) (seat : SeatView) : Type 0 where
  pub board_is : seat.board ≡ board
  pub three : seat.mine.opening.participants ≡ 3
  pub who_is : seat.mine.who ≡ who
  pub held : seat.mine.held ≡ []

-- a participant before its first turn: it plays, holds nothing, knows nothing of external memory, is armed with no ask, and has made no entry
pub record IsNewcomer (board : TableId) (who : ℕ) (seat : SeatView) (maps : MapsView) : Type 0 where
  pub playing : IsPlaying board seat maps
  pub who_is : seat.mine.who ≡ who
  pub held : seat.mine.held ≡ []
  pub holdings : seat.mine.holdings ≡ []
  pub unclaimed : seat.mine.claims ≡ None
  pub armed : seat.mine.armed ≡ None
  pub made : seat.mine.made ≡ []

-- a table that has taken in nothing, with room for the slots of all lists
pub record IsEmptyTable (maps : MapsView) : Type 0 where
  pub rows : maps.rows ≡ []
  pub number : maps.number ≡ 0
  pub room : MAX_SEGMENTS ≤ maps.capacity

-- a failed mapping was noted in a segment value, or nothing: whoever holds it may give it, and what else it says is as it was
pub record IsNotedIn (taken given : SegsView) : Type 0 where
  pub gives : (knows : Knows) → GivesSegments knows taken given
  pub leaves : LeavesStanding taken given
  pub roster : given.roster ≡ taken.roster
  pub asks : given.asks ≡ taken.asks
