-- What slots keep while values are taken and given back: the rule "Halls" of docs/PARTICIPANTS.md.
use Rattle.std.specs.Prelude.{◌≡◌, ◌≢◌, ℕ, ◌<◌, List, [], ◌∷◌, ◌++◌, Some, map, slice_get, slice_set, ⊤}
use Rattle.std.specs.List.{AllByRecursion}
use Rattle.std.specs.Option.{option_map_or}
use Rattle.hp_base.specs.declared.limits.TheConstants.{MAX_HEAPS}
use Rattle.hp_heap.specs.declared.entry.Entry.{Entry}
use Rattle.hp_heap.specs.History.{HeapView, entries_of}
use Rattle.hp_segs.specs.LaterSteps.{armed_ask}
use Rattle.hp_segs.specs.Moved.{IsMoved}
use Rattle.hp_segs.specs.SegsView.{SegsView, is_member}
use Rattle.hp_hall.specs.declared.kept.Kept.{Kept}
use Rattle.hp_hall.specs.Later.{AreLaterNames}
use Rattle.hp_hall.specs.Named.{GivesNames}
use Rattle.hp_hall.specs.Views.{AreOfOneKind}
use Rattle.hp_plain.specs.HallView.{HallView, own_at, segs_in, slot_at}
use Rattle.hp_hall.specs.TakenIn.{AreTakenIn}
use Rattle.hp_segs.specs.Standing.{IsArmed}
use Rattle.hp_hall.specs.Mail.{MailStep, Posts, Fetches, Takes, Gives, Notes}
use Rattle.hp_hall.specs.Values.{IsSoundKept, history_of}

-- a heap after a give: it opened as before, and has entries of the giver alone after those that it had
pub record IsHeapGivenBy (who : ℕ) (taken given : HeapView) : Type 0 where
  pub index : given.plain.index ≡ taken.plain.index
  pub serves : given.plain.serves ≡ taken.plain.serves
  pub own : List Entry
  pub history : given.history ≡ taken.history ++ own
  pub only : AllByRecursion (λ entry. entry.caller.participant ≡ who) own

-- a segment value after a give: it moved by its own calls; of the others the armed asks stayed, and who is in the roster; and the open growth
-- and the kept asks stayed those of the armed
pub record AreSegsGivenBy (who : ℕ) (taken given : SegsView) : Type 0 where
  pub moved : IsMoved taken given
  pub armed : (other : ℕ) → other ≢ who → armed_ask given other ≡ armed_ask taken other
  pub members : (other : ℕ) → other ≢ who → is_member given.roster other ≡ is_member taken.roster other
  pub of_armed : IsArmed taken → IsArmed given

-- a value after a give; of names both logs go on
abbrev pub IsGivenBy : ℕ → Kept → Kept → Type 0
IsGivenBy who = AreOfOneKind (λ taken given. IsHeapGivenBy who taken.heap given.heap) (AreSegsGivenBy who) AreLaterNames

-- the entries of a participant in the heap of a slot, among these values
abbrev pub entries_among : ℕ → List Kept → ℕ → List Entry
entries_among who values heap = option_map_or (λ kept. entries_of who (history_of kept)) (slice_get values heap) []

-- each zone that came into names lies where an allocation of the giver in the zone's heap was answered
abbrev pub AreAllocatedBy : ℕ → List Kept → Kept → Kept → Type 0
AreAllocatedBy who values = AreOfOneKind (λ taken given. ⊤) (λ taken given. ⊤) (GivesNames (entries_among who values))

-- a sound value comes into a slot, in place of the one that this had
pub record GivesInto (who number : ℕ) (given : Kept) (values : List Kept) : Type 0 where
  pub before : Kept
  pub there : slice_get values number ≡ Some before
  pub by : IsGivenBy who before given
  pub allocated : AreAllocatedBy who values before given
  pub sound : IsSoundKept given

-- what a step shows of the values that slots keep: what is taken is the slot's value
abbrev pub ShowsValues : ℕ → MailStep → List Kept → Type 0
ShowsValues who (Posts to frame action posted) values = ⊤
ShowsValues who (Fetches frame) values = ⊤
ShowsValues who (Takes number kept) values = slice_get values number ≡ Some kept
ShowsValues who (Gives number kept) values = GivesInto who number kept values
ShowsValues who (Notes note) values = ⊤

-- the values after a step: a give alone changes one
abbrev pub values_after : MailStep → List Kept → List Kept
values_after (Posts to frame action posted) values = values
values_after (Fetches frame) values = values
values_after (Takes number kept) values = values
values_after (Gives number kept) values = slice_set values number kept
values_after (Notes note) values = values

-- a step over these values is one of a declared participant
pub record IsStepOver (count : ℕ) (step : ℕ × MailStep) (values : List Kept) : Type 0 where
  pub declared : step.0 < count
  pub shows : ShowsValues step.0 step.1 values

-- slots came from some values to others by these steps of so many participants
abbrev pub IsKeptBy : ℕ → List (ℕ × MailStep) → List Kept → List Kept → Type 0
IsKeptBy count [] old new = new ≡ old
IsKeptBy count (step ∷ steps) old new = IsStepOver count step old × IsKeptBy count steps (values_after step.1 old) new

-- the values that the slots of a hall keep, by number; while one is out, as it was taken
abbrev pub values_in : HallView → List Kept
values_in hall = map (λ slot. slot.kept) hall.slots

-- each member of the roster has taken in each record that was granted
abbrev pub AreAgreed : HallView → Type 0
AreAgreed hall = (segs : SegsView) → segs_in (slot_at hall MAX_HEAPS) ≡ Some segs
    → AreTakenIn (λ who. (own_at hall who).number) segs
