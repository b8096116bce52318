-- What the steps of one participant come to at a board and in mailboxes: the rule "A seat at the board" of docs/HALLS.md.
use Rattle.std.specs.Prelude.{ℕ, ◌==◌, List, [], ◌∷◌, flat_map, replicate, Option, Some, None, if◌then◌else◌}
use Rattle.std.specs.List.{fold}
use Rattle.hp_frame.specs.declared.frame.Frame.{Frame}
use Rattle.hp_mail.specs.PassView.{copies}
use Rattle.hp_hall.specs.Mail.{Fetches, Gives, MailStep, Notes, Posts, Takes}
use Rattle.hp_hall.specs.declared.kept.Kept.{Kept}
use Rattle.hp_hall.specs.declared.kept.Kept.TheVariants.{Heap}
use Rattle.hp_hall.specs.declared.note.Note.TheVariants.{Published, ReadStats}
use Rattle.hp_stats.specs.declared.stat_pair.StatPair.{StatPair}
use Rattle.hp_board.specs.declared.view.Move.{Move}
use Rattle.hp_board.specs.declared.view.Move.TheVariants.{Took, Gave}

-- a step is a move at the board where a value was taken or given back
abbrev pub move_in : MailStep → List Move
move_in (Posts to frame action posted) = []
move_in (Fetches frame) = []
move_in (Takes slot kept) = Took slot kept ∷ []
move_in (Gives slot kept) = Gave slot kept ∷ []
move_in (Notes note) = []

-- what was taken and given, in its order over all slots
abbrev pub moves_in : List MailStep → List Move
moves_in steps = flat_map move_in steps

-- what is in hand of a slot after a step
abbrev pub hand_after : ℕ → MailStep → Option Kept → Option Kept
hand_after slot (Posts to frame action posted) kept = kept
hand_after slot (Fetches frame) kept = kept
hand_after slot (Takes other taken) kept = if other == slot then Some taken else kept
hand_after slot (Gives other given) kept = if other == slot then None else kept
hand_after slot (Notes note) kept = kept

-- what is in hand of a slot after some steps, where this was in hand before them
abbrev pub in_hand : ℕ → Option Kept → List MailStep → Option Kept
in_hand slot kept [] = kept
in_hand slot kept (step ∷ steps) = in_hand slot (hand_after slot step kept) steps

-- the pair of a heap that was published last since the heap was taken, after one step more
abbrev pub told_after : ℕ → Option StatPair → MailStep → Option StatPair
told_after heap told (Takes slot (Heap taken pen)) = if slot == heap then None else told
told_after heap told (Gives slot (Heap given pen)) = if slot == heap then None else told
told_after heap told (Notes (Published index pair)) = if index == heap then Some pair else told
told_after heap told _ = told

abbrev pub told_in : ℕ → List MailStep → Option StatPair
told_in heap steps = fold (told_after heap) None steps

-- the pair of a heap that a step published or read, where it did
abbrev pub pairs_at : ℕ → MailStep → List StatPair
pairs_at heap (Notes (Published index pair)) = if index == heap then pair ∷ [] else []
pairs_at heap (Notes (ReadStats index pair)) = if index == heap then pair ∷ [] else []
pairs_at heap _ = []

-- all pairs of a heap that were published or read, in their order
abbrev pub pairs_in : ℕ → List MailStep → List StatPair
pairs_in heap steps = flat_map (pairs_at heap) steps

-- the frames that a step brings into the mailbox of a participant, each as often as it came there
abbrev pub posts_to : ℕ → MailStep → List Frame
posts_to place (Posts to frame action posted) = if to == place then replicate (copies posted) frame else []
posts_to place (Fetches frame) = []
posts_to place (Takes slot kept) = []
posts_to place (Gives slot kept) = []
posts_to place (Notes note) = []

-- all frames that were posted to a participant
abbrev pub posted_to : ℕ → List MailStep → List Frame
posted_to place steps = flat_map (posts_to place) steps

abbrev pub frames_out : Option Frame → List Frame
frames_out None = []
frames_out (Some frame) = frame ∷ []

-- the frame that a step fetched, where it found one
abbrev pub fetches : MailStep → List Frame
fetches (Posts to frame action posted) = []
fetches (Fetches frame) = frames_out frame
fetches (Takes slot kept) = []
fetches (Gives slot kept) = []
fetches (Notes note) = []

-- all frames that were fetched
abbrev pub fetched_by : List MailStep → List Frame
fetched_by steps = flat_map fetches steps
