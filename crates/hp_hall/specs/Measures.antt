-- The measure by which serving ends: what a frame weighs: the rule "Messages" of docs/PARTICIPANTS.md.
use Rattle.std.specs.Prelude.{◌≡◌, ◌≤◌, ◌⊎◌, ℕ, ◌-◌, ◌==◌, ◌||◌, Bool, true, false, nat_lt, List, Option, Some, None, Result, Ok, Err, slice_index_or, sum_by, if◌then◌else◌}
use Rattle.std.proofs.Common.{arith}
use Rattle.hp_frame.specs.declared.frame.Frame.{Frame}

-- An ask may bring a growth: the first round of one weighs 96, and an ask that is held 187. A SYNC brings a reply. What doesn't read is
-- dropped. The kind of a frame is its first byte: 1 and 2 are asks, 3 is a SYNC, 4 an answer.
abbrev pub kind_measure : ℕ → ℕ
kind_measure kind = if (kind == 1) || (kind == 2) then 188 else (if kind == 3 then 3 else 1)

-- what a frame weighs
abbrev pub frame_measure : Frame → ℕ
frame_measure frame = kind_measure (slice_index_or frame.bytes 0 0)

abbrev pub box_measure : List Frame → ℕ
box_measure box = sum_by frame_measure box

-- what all mailboxes weigh
abbrev pub boxes_measure : List (List Frame) → ℕ
boxes_measure boxes = sum_by box_measure boxes

-- what was fetched weighs
abbrev pub fetched_measure : Option Frame → ℕ
fetched_measure None = 0
fetched_measure (Some frame) = frame_measure frame

-- 1 for a deadline that is still to come at a reading of the clock
unfoldable pub pending_at : ℕ → ℕ → ℕ
pending_at clock deadline = if nat_lt clock deadline then 1 else 0

-- what a turn of a wait uses up in itself: 1 where the clock does not count, and else where nothing moved the clock does
abbrev pub pause_measure : ℕ → Bool → ℕ
pause_measure scale true = 1 - scale
pause_measure scale false = 1

-- 1 where a participant that served did something, or met a refusal of memory on the way
abbrev pub moved_of : {E : Type 0} → Result Bool E → ℕ
moved_of (Ok true) = 1
moved_of (Ok false) = 0
moved_of (Err refusal) = 1

-- what a deadline counts for, where there is one
abbrev pub counted : (ℕ → ℕ) → Option ℕ → ℕ
counted pending None = 0
counted pending (Some deadline) = pending deadline

-- a deadline is still to come; without one a turn may end where something moved, or where frames do not count
abbrev pub IsPending : ℕ → (ℕ → ℕ) → Bool → Option ℕ → Type 0
IsPending scale pending moved None = (moved ≡ true) ⊎ (scale ≡ 0)
IsPending scale pending moved (Some deadline) = pending deadline ≡ scale

at_most_one : (later : Bool) → (if later then 1 else 0) ≤ 1
at_most_one true = omega arith
at_most_one false = omega arith

-- no deadline counts for more than 1
pub pending_most_one : (clock deadline : ℕ) → pending_at clock deadline ≤ 1
unfolding pending_at
pending_most_one clock deadline = at_most_one (nat_lt clock deadline)
