-- What contracts see of a ring and of its passes, and what becomes of a pass.
use Rattle.std.specs.Prelude.{◌≡◌, ℕ, ◌<◌, List, [], ◌∷◌, ◌++◌, length, map, slice_index_or}
use Rattle.std.specs.List.{range_with_len}
use Rattle.atomic_table.specs.Seated.{TableId}
use Rattle.hp_ring.specs.Bulks.{BulkView, bulks_of}

-- which ring it is, for how many bulks it has room, how many senders it has, and its name
pub record RingView : Type 0 where
  pub id : TableId
  pub slots : ℕ
  pub senders : ℕ
  pub name : List ℕ

-- the ring that a sender's pass is for, the sender's number, and the bulks that it has put
pub record SendView : Type 0 where
  pub ring : TableId
  pub who : ℕ
  pub sent : List BulkView

-- the ring that the taker's pass is for, and the bulks that it has taken
pub record TakeView : Type 0 where
  pub ring : TableId
  pub taken : List BulkView

-- a sender's pass before its first step
abbrev pub new_sender : TableId → ℕ → SendView
new_sender id who = record { ring = id; who = who; sent = [] }

-- the passes of all senders before their first step, by number
abbrev pub new_senders : RingView → List SendView
new_senders ring = map (new_sender ring.id) (range_with_len 0 ring.senders)

abbrev pub new_taker : TableId → TakeView
new_taker id = record { ring = id; taken = [] }

abbrev pub after_put : BulkView → SendView → SendView
after_put bulk pass = record pass { sent = pass.sent ++ bulk ∷ [] }

abbrev pub after_take : BulkView → TakeView → TakeView
after_take bulk pass = record pass { taken = pass.taken ++ bulk ∷ [] }

-- the bulks of the sender in the ring were the last ones of those that it has put
pub record ShowsSent (pass : SendView) (bulks : List BulkView) : Type 0 where
  pub before : List BulkView
  pub in_order : bulks_of pass.who (before ++ bulks) ≡ pass.sent

-- the ring had a bulk in every slot at a step of the call, for all that the sender's pass knows
abbrev pub WasFull : RingView → SendView → Type 0
WasFull ring pass = (bulks : List BulkView) × (length bulks ≡ ring.slots) × ShowsSent pass bulks

-- The ring had no bulk at a step of the call, for all that the taker's pass knows. That is no more than that what was taken goes with an
-- empty ring: a taker does not know what the senders have put.
abbrev pub WasEmpty : TakeView → Type 0
WasEmpty pass =
    (bulks : List BulkView) × (bulks ≡ []) × ((put : ℕ → List BulkView) × ((who : ℕ) → bulks_of who (pass.taken ++ bulks) ≡ put who))

-- they are the passes of all senders, by number
pub record AreSenders (ring : RingView) (passes : List SendView) : Type 0 where
  pub count : length passes ≡ ring.senders
  pub ring_is : (k : ℕ) (d : SendView) → k < length passes → (slice_index_or passes k d).ring ≡ ring.id
  pub who_is : (k : ℕ) (d : SendView) → k < length passes → (slice_index_or passes k d).who ≡ k

-- Of each sender: the bulks that were taken of it, and then those of it that are left, are the ones that it has put, in its order, each
-- once and whole.
abbrev pub HaveAll : List SendView → List BulkView → List BulkView → Type 0
HaveAll senders taken left = (k : ℕ) (d : SendView) → k < length senders
    → bulks_of (slice_index_or senders k d).who (taken ++ left) ≡ (slice_index_or senders k d).sent

-- The bulks that were taken of a sender, and then those of it that were in the ring at a step of the call, are the ones that it has put, in
-- its order, each once and whole.
abbrev pub WasInOrder : TakeView → SendView → Type 0
WasInOrder taker sender = (bulks : List BulkView) × (bulks_of sender.who taker.taken ++ bulks_of sender.who bulks ≡ sender.sent)

-- the ring has that name, room for so many bulks, and so many senders
pub record IsMade (ring : RingView) (name : List ℕ) (slots senders : ℕ) : Type 0 where
  pub name_is : ring.name ≡ name
  pub slots_is : ring.slots ≡ slots
  pub senders_is : ring.senders ≡ senders
