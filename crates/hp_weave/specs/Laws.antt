-- What comes together of what participants do one by one.
use Rattle.std.specs.Prelude.{◌≡◌, ℕ, ◌≤◌, ◌==◌, List, [], filter, length, map, Some, slice_get}
use Rattle.hp_weave.specs.Deeds.{Deed, Gathering, LeadTo, Runs, Turn, deeds_of, holds_among, holds_in}
use Rattle.hp_weave.specs.Holds.{Chain, Hold, holds_of}
use Rattle.hp_weave.specs.Weaving.{woven}

-- each participant went by its deeds from its first seat to its last one, and nobody else did anything; all holds make a chain from the
-- first value to the last one, and those of each participant are its own, in its order
pub record GoApart {L S : Type 0} (first last : Gathering L S) (deeds : ℕ → List (Deed L S)) (holds : List (Hold S)) : Type 0 where
  pub count : length last.seats ≡ length first.seats
  pub leads : (who : ℕ) (old new : L) → slice_get first.seats who ≡ Some old → slice_get last.seats who ≡ Some new → LeadTo old (deeds who) new
  pub nobody_else : (who : ℕ) → length first.seats ≤ who → deeds who ≡ []
  pub chain : Chain first.value holds last.value
  pub own : (who : ℕ) → holds_of who holds ≡ holds_in who (deeds who)

-- participants went together: in turns of all, in which each one's deeds are its own, in its order, and the holds are that chain
pub record GoTogether {L S : Type 0} (first last : Gathering L S) (deeds : ℕ → List (Deed L S)) (holds : List (Hold S)) : Type 0 where
  pub turns : List (Turn L S)
  pub runs : Runs first turns last
  pub own : (who : ℕ) → deeds_of who turns ≡ deeds who
  pub held : holds_among turns ≡ holds

-- wherever they went apart so, they went together
abbrev pub GoTogetherWhereApart : Type 0 → Type 0 → Type 0
GoTogetherWhereApart L S = (first last : Gathering L S) (deeds : ℕ → List (Deed L S)) (holds : List (Hold S))
    → GoApart first last deeds holds → GoTogether first last deeds holds

-- items are in the order of these lines, each is told of its line, and those of each participant are its own, in its order
pub record IsWoven {A B : Type 0} (line : A → B) (participant : B → ℕ) (lines : List B) (items : ℕ → List A) (all : List A) : Type 0 where
  pub in_order : map line all ≡ lines
  pub own : (who : ℕ) → filter (λ item. participant (line item) == who) all ≡ items who

-- where each participant has an item for each of its lines, in order, the woven items have one for each line, in the order of the lines
abbrev pub WeavesByTurns : Type 0 → Type 0 → Type 0
WeavesByTurns A B = (line : A → B) (participant : B → ℕ) (lines : List B) (items : ℕ → List A)
    → ((who : ℕ) → map line (items who) ≡ filter (λ one. participant one == who) lines)
    → IsWoven line participant lines items (woven (map participant lines) items)

-- what is told of each item is woven as the items are
abbrev pub WovenOfEach : Type 0 → Type 0 → Type 0
WovenOfEach A B = (told : A → B) (whos : List ℕ) (items : ℕ → List A)
    → map told (woven whos items) ≡ woven whos (λ who. map told (items who))
