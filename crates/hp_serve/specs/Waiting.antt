-- What a participant does while it waits: the rule "Turns of a wait" of docs/PARTICIPANTS.md.
use Rattle.std.specs.Prelude.{◌≡◌, ℕ, zero, suc, ◌<◌, ◌≤◌, ◌⊎◌, Bool, true, false, ◌||◌, ◌&&◌, List, [], ◌∷◌, ◌++◌, Option, Some, None, unwrap_or, nat_lt}
use Rattle.hp_hall.specs.Mail.{MailStep, Notes}
use Rattle.hp_hall.specs.declared.note.Note.TheVariants.{Paused, Read, Yielded}
use Rattle.hp_serve.specs.Coordinating.{IsServed}
use Rattle.hp_serve.specs.Denials.{Denials}
use Rattle.hp_serve.specs.Party.{Party, due_in}

-- how often a participant serves itself in a turn at most
abbrev pub most_servings : ℕ
most_servings = 1024

-- what so many servings make of a participant, one after another, each of which did something
unfoldable pub AreServings : Denials → ℕ → ℕ → Party → Party → List MailStep → Type 0
AreServings denies count zero party after steps = (after ≡ party) × (steps ≡ [])
AreServings denies count (suc n) party after steps =
    (mid : Party) × (before : List MailStep) × (last : List MailStep) × AreServings denies count n party mid before
    × IsServed denies count mid after last (Some true) × (steps ≡ before ++ last)

-- what its own serving in a turn makes of it, by what it did, and its answer: whether it did something, or that it stopped
pub data IsServedOut (denies : Denials) (count : ℕ) (party after : Party) (steps : List MailStep) (answer : Option Bool) : Type 0 where
  -- it served until nothing was left for it
  rests : (times : ℕ) (mid : Party) (first last : List MailStep) → times < most_servings → AreServings denies count times party mid first
      → IsServed denies count mid after last (Some false) → steps ≡ first ++ last → answer ≡ Some (nat_lt 0 times)
      → IsServedOut denies count party after steps answer
  -- it stopped
  stops : (times : ℕ) (mid : Party) (first last : List MailStep) → times < most_servings → AreServings denies count times party mid first
      → IsServed denies count mid after last None → steps ≡ first ++ last → answer ≡ None
      → IsServedOut denies count party after steps answer
  -- it served as often as it may
  enough : AreServings denies count most_servings party after steps → answer ≡ Some true → IsServedOut denies count party after steps answer

-- all serve in a turn: those below it first, then the participant itself, then those above; and the answer: whether something moved, or
-- that somebody stopped
pub data HaveServed (denies : Denials) (count : ℕ) (party after : Party) (steps : List MailStep) (answer : Option Bool) : Type 0 where
  -- one of those below met a refusal, before it served itself
  below_stops : steps ≡ Notes (Yielded false None) ∷ [] → after ≡ party → answer ≡ None → HaveServed denies count party after steps answer
  -- it stopped itself
  stops : (below : Bool) (own : List MailStep) → IsServedOut denies count party after own None
      → steps ≡ Notes (Yielded false (Some below)) ∷ own
      → answer ≡ None → HaveServed denies count party after steps answer
  -- one of those above met a refusal, after it had served
  above_stops : (below mine : Bool) (own : List MailStep) → IsServedOut denies count party after own (Some mine)
      → steps ≡ Notes (Yielded false (Some below)) ∷ (own ++ Notes (Yielded true None) ∷ []) → answer ≡ None
      → HaveServed denies count party after steps answer
  -- all have served, and it or others moved something
  ends : (below mine above : Bool) (own : List MailStep) → IsServedOut denies count party after own (Some mine)
      → steps ≡ Notes (Yielded false (Some below)) ∷ (own ++ Notes (Yielded true (Some above)) ∷ [])
      → answer ≡ Some (mine || (below || above)) → HaveServed denies count party after steps answer

-- the sooner of the deadline that is waited for and that of its own round, where a reading of the clock has not reached that
pub record IsSoonerOf (reading until : ℕ) (due : Option ℕ) (sooner : ℕ) : Type 0 where
  pub within : sooner ≤ until
  pub whose : (sooner ≡ until) ⊎ ((due ≡ Some sooner) × (reading < sooner))
  pub least : (other : ℕ) → due ≡ Some other → reading < other → sooner ≤ other

-- a turn in which something moved, or nothing, ends with a pause until the sooner deadline, by a reading of the clock
pub record PausesAt (until : ℕ) (due : Option ℕ) (moved : Bool) (steps : List MailStep) : Type 0 where
  pub now : ℕ
  pub next : ℕ
  pub sooner : IsSoonerOf now until due next
  pub are : steps ≡ Notes (Read now) ∷ Notes (Paused moved (Some next)) ∷ []

-- what a turn of its wait until a deadline makes of it, by what it did, and the turn's answer: whether something moved, or that a refusal
-- of memory ended it
pub data IsTurned (denies : Denials) (count until : ℕ) (party after : Party) (steps : List MailStep) (answer : Option Bool) : Type 0 where
  stops : HaveServed denies count party after steps None → answer ≡ None → IsTurned denies count until party after steps answer
  ends : (moved : Bool) (served paused : List MailStep) → HaveServed denies count party after served (Some moved)
      → PausesAt until (due_in after.core) moved paused → steps ≡ served ++ paused → answer ≡ Some moved
      → IsTurned denies count until party after steps answer

-- its wait is over at the answer to its last ask, where the wait is for that
abbrev pub is_over : Bool → Party → Bool
is_over heeds party = heeds && party.answered

-- its wait until a deadline has ended at a reading of its clock: it is over, or that has reached the deadline
abbrev pub HasWaited : Bool → Party → ℕ → ℕ → Type 0
HasWaited heeds party until now = (is_over heeds party ≡ true) ⊎ (until ≤ now)

-- its wait until a deadline has not ended at a reading of its clock
pub record WaitsOn (heeds : Bool) (party : Party) (until now : ℕ) : Type 0 where
  pub still : is_over heeds party ≡ false
  pub early : now < until

-- what so many turns make of it, each of which began at a reading at which its wait had not ended, and came to its end
unfoldable pub AreTurns : Denials → ℕ → ℕ → Bool → ℕ → Party → Party → List MailStep → Type 0
AreTurns denies count until heeds zero party after steps = (after ≡ party) × (steps ≡ [])
AreTurns denies count until heeds (suc n) party after steps =
    (mid : Party) × (before : List MailStep) × (last : List MailStep) × (now : ℕ) × (moved : Bool)
    × AreTurns denies count until heeds n party mid before × WaitsOn heeds mid until now
    × IsTurned denies count until mid after last (Some moved)
    × (steps ≡ before ++ (Notes (Read now) ∷ last))

-- what a wait until a deadline makes of it, by what it did; the last part is the reading at which it ended, or none where a refusal of
-- memory ended it
pub data IsWaited (denies : Denials) (count until : ℕ) (heeds : Bool) (party after : Party) (steps : List MailStep)
    (ended : Option ℕ) : Type 0 where
  ends : (turns now : ℕ) (first : List MailStep) → AreTurns denies count until heeds turns party after first
      → HasWaited heeds after until now
      → steps ≡ first ++ (Notes (Read now) ∷ []) → ended ≡ Some now → IsWaited denies count until heeds party after steps ended
  stops : (turns now : ℕ) (mid : Party) (first last : List MailStep) → AreTurns denies count until heeds turns party mid first
      → WaitsOn heeds mid until now → IsTurned denies count until mid after last None → steps ≡ first ++ (Notes (Read now) ∷ last)
      → ended ≡ None → IsWaited denies count until heeds party after steps ended

-- all serve in a turn, whoever stops: those below it first, then the participant itself, then those above; and whether something moved. Others
-- that stopped moved something; its own serving counts as nothing where it stopped
pub record HaveServedOn (denies : Denials) (count : ℕ) (party after : Party) (steps : List MailStep) (moved : Bool) : Type 0 where
  pub below : Option Bool
  pub mine : Option Bool
  pub above : Option Bool
  pub own : List MailStep
  pub served : IsServedOut denies count party after own mine
  pub are : steps ≡ Notes (Yielded false below) ∷ (own ++ Notes (Yielded true above) ∷ [])
  pub moves : moved ≡ (unwrap_or mine false || (unwrap_or below true || unwrap_or above true))

-- such a turn of its wait until a deadline comes to its end whoever stops, with a pause until the sooner deadline, as one in which something
-- moved, or nothing
pub record IsTurnedOn (denies : Denials) (count until : ℕ) (party after : Party) (steps : List MailStep) : Type 0 where
  pub moved : Bool
  pub served : List MailStep
  pub paused : List MailStep
  pub all : HaveServedOn denies count party after served moved
  pub pause : PausesAt until (due_in after.core) moved paused
  pub are : steps ≡ served ++ paused

-- what so many such turns make of it, each of which began at a reading at which its wait had not ended
unfoldable pub AreTurnsOn : Denials → ℕ → ℕ → Bool → ℕ → Party → Party → List MailStep → Type 0
AreTurnsOn denies count until heeds zero party after steps = (after ≡ party) × (steps ≡ [])
AreTurnsOn denies count until heeds (suc n) party after steps =
    (mid : Party) × (before : List MailStep) × (last : List MailStep) × (now : ℕ) × AreTurnsOn denies count until heeds n party mid before
    × WaitsOn heeds mid until now × IsTurnedOn denies count until mid after last × (steps ≡ before ++ (Notes (Read now) ∷ last))

-- it outlasts the rest of a wait by such turns, to the reading at which that ended
pub record IsOutlasted (denies : Denials) (count until : ℕ) (heeds : Bool) (party after : Party) (steps : List MailStep)
    (ended : ℕ) : Type 0 where
  pub turns : ℕ
  pub first : List MailStep
  pub are_turns : AreTurnsOn denies count until heeds turns party after first
  pub waited : HasWaited heeds after until ended
  pub are : steps ≡ first ++ (Notes (Read ended) ∷ [])

-- it sees a wait until a deadline through, to the reading at which that ended: where somebody stopped, it outlasts the rest
pub data IsWaitedOut (denies : Denials) (count until : ℕ) (heeds : Bool) (party after : Party) (steps : List MailStep) (ended : ℕ)
    (stopped : Bool) : Type 0 where
  whole : IsWaited denies count until heeds party after steps (Some ended) → stopped ≡ false
      → IsWaitedOut denies count until heeds party after steps ended stopped
  outlasts : (mid : Party) (first rest : List MailStep) → IsWaited denies count until heeds party mid first None
      → IsOutlasted denies count until heeds mid after rest ended → steps ≡ first ++ rest → stopped ≡ true
      → IsWaitedOut denies count until heeds party after steps ended stopped

-- a reading of the clock: every deadline after it is still to come
abbrev pub IsReading : (ℕ → Type 0) → ℕ → Type 0
IsReading IsToCome reading = (deadline : ℕ) → reading < deadline → IsToCome deadline

-- a turn pauses for the sooner deadline at a reading: the clock stands, or goes on to no further than there
pub record PausesFor (IsToCome : ℕ → Type 0) (until : ℕ) (due : Option ℕ) (clock behind : ℕ) : Type 0 where
  pub reading : ℕ
  pub sooner : ℕ
  pub read : IsReading IsToCome reading
  pub is_sooner : IsSoonerOf reading until due sooner
  pub goes : (behind ≡ clock) ⊎ (behind ≤ sooner)

-- what serving leaves of its asks: the number of the last one, and its answer, once that has come
pub record LeavesAsked (old new : Party) : Type 0 where
  pub asked : new.asked ≡ old.asked
  pub answered : old.answered ≡ true → new.answered ≡ true
