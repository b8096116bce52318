-- How one that does a line in a hall comes to ask for pages for heap 0: what has to hold before each of its calls.
use Rattle.std.specs.Prelude.{◌≡◌, ℕ, None, IsSome}
use Rattle.hp_hall.specs.HallState.{HallState}
use Rattle.hp_serve.specs.Asking.{HasSettledAsks}
use Rattle.hp_serve.specs.InHall.{CanServe}
use Rattle.hp_serve.specs.Party.{Party}

-- one that may serve and was never armed may take heap 0, which takes the pages of a socket
pub record MayBegin (party : Party) (state : HallState) : Type 0 where
  pub can : CanServe party.me party state
  pub home : state.may_take 0
  pub serves : IsSome (state.part party.me 0).serves
  pub unarmed : (heap : ℕ) → (state.part party.me heap).armed ≡ None

-- one that may serve and holds heap 0 may ask for pages
pub record MayAsk (party : Party) (state : HallState) : Type 0 where
  pub can : CanServe party.me party state
  pub holds : IsSome (state.part party.me 0).holding
  pub settled : HasSettledAsks (state.part party.me) (state.heard party.me)
