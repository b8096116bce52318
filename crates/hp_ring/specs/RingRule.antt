-- The rule of a ring, which holds between any two steps of any threads. A pass of the queue has a number, its seat, and `views` has its
-- view there.
use Rattle.std.specs.Prelude.{◌≡◌, ℕ, ◌<◌, ◌≤◌, true, List, [], ◌++◌, Contains}
use mathlib.Core.Option.{some}
use lib.ListN.{get_elem?}
use Rattle.hp_ring.specs.Bulks.{BulkView, bulks_of}
use Rattle.hp_ring.specs.declared.view.Sender.{Sender}
use Rattle.hp_ring.specs.declared.view.View.{View}

-- what no pass sees alone: the pass of each sender, the one that takes and the one that deals; how many senders have a pass; what each has
-- put; and what was taken
pub record Hidden : Type 0 where
  pub pass_of : ℕ → ℕ
  pub taker : ℕ
  pub dealer : ℕ
  pub dealt : ℕ
  pub sent : ℕ → List BulkView
  pub taken : List BulkView

-- a sender is that pass's, and what the pass knows of it is what it has put
pub record IsSenderAt (x : Hidden) (seat : ℕ) (s : Sender) : Type 0 where
  pub dealt : s.who < x.dealt
  pub there : x.pass_of s.who ≡ seat
  pub known : s.sent ≡ x.sent s.who

-- What a pass knows is so. No two passes have one sender, at most one takes, and at most one deals.
pub record IsKnown (x : Hidden) (seat : ℕ) (v : View) : Type 0 where
  pub senders : (s : Sender) → Contains v.senders s → IsSenderAt x seat s
  pub takes : v.takes ≡ true → (x.taker ≡ seat) × (v.taken ≡ x.taken)
  pub deals : v.deals ≡ true → (x.dealer ≡ seat) × (v.dealt ≡ x.dealt)

-- The bulks taken of each sender, and then those of it in the queue, are the ones that it has put, in its order, each once and whole.
pub record AreInOrder (bulks : List BulkView) (views : List View) : Type 0 where
  pub hidden : Hidden
  pub in_order : (who : ℕ) → bulks_of who (hidden.taken ++ bulks) ≡ hidden.sent who
  pub undealt : (who : ℕ) → hidden.dealt ≤ who → hidden.sent who ≡ []
  pub known : (seat : ℕ) (v : View) → get_elem? views seat ≡ some v → IsKnown hidden seat v
