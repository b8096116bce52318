-- The rule of a mailbox, which holds between any two steps of any threads. A pass of the queue has a number, its seat, and `views` has its
-- view there.
use Rattle.std.specs.Prelude.{◌≡◌, ℕ, ◌<◌, ◌≤◌, true, List, [], ◌++◌, Contains}
use mathlib.Core.Option.{some}
use lib.ListN.{get_elem?}
use Rattle.hp_frame.specs.declared.frame.Frame.{Frame}
use Rattle.hp_mail.specs.declared.letter.Letter.{Letter}
use Rattle.hp_mail.specs.declared.view.Sender.{Sender}
use Rattle.hp_mail.specs.declared.view.View.{View}
use Rattle.hp_mail.specs.Views.{frames_of}

-- what no pass sees alone: the pass of each sender, the one that fetches and the one that deals; how many participants have a pass; what
-- each has posted; and what was fetched
pub record Hidden : Type 0 where
  pub pass_of : ℕ → ℕ
  pub fetcher : ℕ
  pub dealer : ℕ
  pub dealt : ℕ
  pub posted : ℕ → List Frame
  pub fetched : List Letter

-- a sender is that pass's, and what the pass knows of it is what it has posted
pub record IsSenderAt (x : Hidden) (seat : ℕ) (s : Sender) : Type 0 where
  pub dealt : s.who < x.dealt
  pub there : x.pass_of s.who ≡ seat
  pub known : s.posted ≡ x.posted s.who

-- What a pass knows is so. No two passes have one sender, at most one fetches, and at most one deals.
pub record IsKnown (x : Hidden) (seat : ℕ) (v : View) : Type 0 where
  pub senders : (s : Sender) → Contains v.senders s → IsSenderAt x seat s
  pub fetches : v.fetches ≡ true → (x.fetcher ≡ seat) × (v.fetched ≡ x.fetched)
  pub deals : v.deals ≡ true → (x.dealer ≡ seat) × (v.dealt ≡ x.dealt)

-- The frames fetched of each sender, and then those of it in the queue, are the ones that it posted, in its order, each once.
pub record Delivers (letters : List Letter) (views : List View) : Type 0 where
  pub hidden : Hidden
  pub in_order : (who : ℕ) → frames_of who (hidden.fetched ++ letters) ≡ hidden.posted who
  pub undealt : (who : ℕ) → hidden.dealt ≤ who → hidden.posted who ≡ []
  pub known : (seat : ℕ) (v : View) → get_elem? views seat ≡ some v → IsKnown hidden seat v
