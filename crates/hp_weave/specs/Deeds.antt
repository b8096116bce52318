-- What participants do, each by itself and all together: what is theirs alone, and what they make of the value that they share.
use Rattle.std.specs.Prelude.{◌≡◌, ℕ, ◌==◌, List, [], ◌∷◌, ◌++◌, filter, map, Some, slice_get, slice_set}
use Rattle.hp_weave.specs.Holds.{Hold}

-- one deed of a participant, from where it stood to where it stands afterwards: by itself, or with the value, which it takes and gives back
pub data Deed (L S : Type 0) : Type 0 where
  Alone : L → L → Deed L S
  Holding : L → L → S → S → Deed L S

-- deeds lead from one place to another, each on from where the one before it led
abbrev pub LeadTo : {L S : Type 0} → L → List (Deed L S) → L → Type 0
LeadTo first [] last = last ≡ first
LeadTo first (Deed.Alone old new ∷ deeds) last = (old ≡ first) × LeadTo new deeds last
LeadTo first (Deed.Holding old new taken given ∷ deeds) last = (old ≡ first) × LeadTo new deeds last

-- the holds among deeds of a participant
abbrev pub holds_in : {L S : Type 0} → ℕ → List (Deed L S) → List (Hold S)
holds_in who [] = []
holds_in who (Deed.Alone old new ∷ deeds) = holds_in who deeds
holds_in who (Deed.Holding old new taken given ∷ deeds) = record { who = who; taken = taken; given = given } ∷ holds_in who deeds

-- all participants by number, each with where it stands, and the value at a moment at which nobody has it
pub record Gathering (L S : Type 0) : Type 0 where
  pub seats : List L
  pub value : S

-- a deed of one of them
pub record Turn (L S : Type 0) : Type 0 where
  pub who : ℕ
  pub deed : Deed L S

-- a participant does what it can do there: it stands where the deed begins, and takes the value as it is
abbrev pub Can : {L S : Type 0} → ℕ → Deed L S → Gathering L S → Type 0
Can who (Deed.Alone old new) at = slice_get at.seats who ≡ Some old
Can who (Deed.Holding old new taken given) at = (slice_get at.seats who ≡ Some old) × (taken ≡ at.value)

-- what a deed leaves of all
abbrev pub after_deed : {L S : Type 0} → ℕ → Deed L S → Gathering L S → Gathering L S
after_deed who (Deed.Alone old new) at = record { seats = slice_set at.seats who new; value = at.value }
after_deed who (Deed.Holding old new taken given) at = record { seats = slice_set at.seats who new; value = given }

-- turns one after another, of one participant after another
abbrev pub Runs : {L S : Type 0} → Gathering L S → List (Turn L S) → Gathering L S → Type 0
Runs first [] last = last ≡ first
Runs first (turn ∷ turns) last = Can turn.who turn.deed first × Runs (after_deed turn.who turn.deed first) turns last

-- the deeds of one participant among all turns, and the holds of all
abbrev pub deeds_of : {L S : Type 0} → ℕ → List (Turn L S) → List (Deed L S)
deeds_of who turns = map (λ turn. turn.deed) (filter (λ turn. turn.who == who) turns)

abbrev pub holds_among : {L S : Type 0} → List (Turn L S) → List (Hold S)
holds_among [] = []
holds_among (turn ∷ turns) = holds_in turn.who (turn.deed ∷ []) ++ holds_among turns
