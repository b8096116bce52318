-- How a mailbox keeps its frames. No public clause cites this module.
use Rattle.std.specs.Prelude.{ℕ, List, ◌≤◌, ◌<◌, drop, take}
use Rattle.hp_frame.specs.declared.frame.Frame.{Frame}
use Rattle.hp_plain.specs.declared.mailbox.TheConstants.{MAILBOX_FRAMES}

-- the frames that wait: those from the first place up to the end
abbrev pub waiting : ℕ → ℕ → List Frame → List Frame
waiting first end frames = drop first (take end frames)

-- those that wait are from the first place up to the end, which are places of so many, and there is memory for as many as a mailbox has
-- room for
pub record IsMailbox (first end len capacity : ℕ) : Type 0 where
  pub order : first ≤ end
  pub within : end ≤ len
  pub room : MAILBOX_FRAMES ≤ capacity

-- the same order, and memory for a frame after the end
pub record HasRoom (first end len capacity : ℕ) : Type 0 where
  pub order : first ≤ end
  pub within : end ≤ len
  pub room : end < capacity
