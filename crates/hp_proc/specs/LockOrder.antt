-- In which order a participant takes slots: the names, then a heap, then the segment value; the rule "Lock order" of docs/PARTICIPANTS.md.
use Rattle.std.specs.Prelude.{◌≡◌, ℕ, ◌<◌, not, ◌==◌, List, [], ◌∷◌, filter, if◌then◌else◌, ⊤}
use Rattle.std.specs.List.{All}
use Rattle.hp_base.specs.declared.limits.TheConstants.{MAX_HEAPS}
use Rattle.hp_hall.specs.Mail.{MailStep, Gives, Posts, Takes}
use Rattle.hp_base.specs.declared.row.Run.{Run}
use Rattle.hp_hall.specs.declared.slot.TheConstants.{NAMES_SLOT}
use Rattle.hp_serve.specs.Asking.{free_body}
use Rattle.hp_serve.specs.Frames.{Says}
use Rattle.hp_script.specs.declared.line.Act.{Act}
use Rattle.hp_script.specs.declared.line.Act.TheVariants as act

-- the place of a slot in the order: the names, all heaps alike, the segment value
abbrev pub rank : ℕ → ℕ
rank slot = if slot == NAMES_SLOT then 0 else (if slot == MAX_HEAPS then 2 else 1)

-- the slots in hand after a step
abbrev pub hand_after : MailStep → List ℕ → List ℕ
hand_after (Takes slot kept) hand = slot ∷ hand
hand_after (Gives slot kept) hand = filter (λ other. not (other == slot)) hand
hand_after _ hand = hand

-- a slot that is taken comes after all that are in hand, so that no two heaps are in hand at once, and nothing is taken beside the segment value
abbrev pub ComesAfterHand : MailStep → List ℕ → Type 0
ComesAfterHand (Takes slot kept) hand = All (λ other. rank other < rank slot) hand
ComesAfterHand _ hand = ⊤

-- steps are in the lock order, from these slots in hand on
abbrev pub AreInOrderFrom : List ℕ → List MailStep → Type 0
AreInOrderFrom hand [] = ⊤
AreInOrderFrom hand (step ∷ steps) = ComesAfterHand step hand × AreInOrderFrom (hand_after step hand) steps

abbrev pub IsInLockOrder : List MailStep → Type 0
IsInLockOrder steps = AreInOrderFrom [] steps

-- a notice of a run that was given up is posted with nothing in hand: who waits for its answer keeps nobody else waiting
abbrev pub IsToldEmptyHanded : MailStep → List ℕ → Type 0
IsToldEmptyHanded (Posts to frame action posted) hand = (who number heap : ℕ) (run : Run) → Says frame (free_body who number heap run) → hand ≡ []
IsToldEmptyHanded _ hand = ⊤

abbrev pub AreToldEmptyHandedFrom : List ℕ → List MailStep → Type 0
AreToldEmptyHandedFrom hand [] = ⊤
AreToldEmptyHandedFrom hand (step ∷ steps) = IsToldEmptyHanded step hand × AreToldEmptyHandedFrom (hand_after step hand) steps

abbrev pub TellsEmptyHanded : List MailStep → Type 0
TellsEmptyHanded steps = AreToldEmptyHandedFrom [] steps

-- where the names are in hand no heap is taken
abbrev pub TakesNoHeapWith : MailStep → List ℕ → Type 0
TakesNoHeapWith (Takes slot kept) hand = All (λ other. other ≡ NAMES_SLOT → slot ≡ MAX_HEAPS) hand
TakesNoHeapWith _ hand = ⊤

abbrev pub GivesNamesFirstFrom : List ℕ → List MailStep → Type 0
GivesNamesFirstFrom hand [] = ⊤
GivesNamesFirstFrom hand (step ∷ steps) = TakesNoHeapWith step hand × GivesNamesFirstFrom (hand_after step hand) steps

abbrev pub GivesNamesFirst : List MailStep → Type 0
GivesNamesFirst steps = GivesNamesFirstFrom [] steps

-- the lines of memzones and of external heaps have the names in hand while they have a heap in hand; every other line gives them back before
-- it takes a heap
abbrev pub HoldsNamesAsMay : Act → List MailStep → Type 0
HoldsNamesAsMay (act.Zone name len options) steps = ⊤
HoldsNamesAsMay (act.Unzone name) steps = ⊤
HoldsNamesAsMay (act.Heap name) steps = ⊤
HoldsNamesAsMay (act.Unheap name) steps = ⊤
HoldsNamesAsMay (act.Add heap addr len page) steps = ⊤
HoldsNamesAsMay (act.Remove heap addr len) steps = ⊤
HoldsNamesAsMay (act.Map heap addr len) steps = ⊤
HoldsNamesAsMay (act.Unmap heap addr len) steps = ⊤
HoldsNamesAsMay _ steps = GivesNamesFirst steps
