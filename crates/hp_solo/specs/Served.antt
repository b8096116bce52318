-- How participants serve while others do their lines: the rule "Turns in one thread" of docs/RUNS.md.
use Rattle.std.specs.Prelude.{◌≡◌, ℕ, Bool, false, List, [], ◌∷◌, ◌++◌, length, Option, Some, None, ⊤}
use Rattle.std.specs.List.Sorted.{IsNonDecreasingBy}
use Rattle.hp_plain.specs.HallView.{HallView, HasDone}
use Rattle.hp_hall.specs.Mail.{MailStep, Notes}
use Rattle.hp_hall.specs.declared.note.Note.TheVariants.{Paused}
use Rattle.hp_serve.specs.Denials.{Denials}
use Rattle.hp_serve.specs.Coordinating.{IsServed}
use Rattle.hp_serve.specs.Party.{Party}

-- servings one after another, by a judge that denies so, and pauses between them
pub data ServesOn (denies : Denials) (count : ℕ) : Party → Party → List MailStep → Type 0 where
  rests : (party : Party) → ServesOn denies count party party []
  serves : (party mid after : Party) (first last : List MailStep) (moved : Bool) → ServesOn denies count party mid first
      → IsServed denies count mid after last (Some moved) → ServesOn denies count party after (first ++ last)
  -- a turn of all ends in which nothing moved: that changes nothing in it, and it waits for no deadline of its own
  pauses : (party after : Party) (first : List MailStep) → ServesOn denies count party after first
      → ServesOn denies count party after (first ++ Notes (Paused false None) ∷ [])

-- from one state to a later one a participant served, and did nothing else but pause
pub record HasServed (denies : Denials) (count who : ℕ) (old new : HallView) (party after : Party) : Type 0 where
  pub steps : List MailStep
  pub did : HasDone old new who steps
  pub serves : ServesOn denies count party after steps

-- the participant of that number served, where it is there, and did nothing else but pause; of one that is away nothing is said
abbrev pub HasServedAt : Denials → HallView → HallView → ℕ → Option Party → Option Party → Type 0
HasServedAt denies old new who None after = ⊤
HasServedAt denies old new who (Some party) None = ⊥
HasServedAt denies old new who (Some party) (Some after) = HasServed denies (length old.owns) who old new party after

-- one that is there served, by its own number, and did nothing else but pause
abbrev pub HasServedAs : Denials → HallView → HallView → Option Party → Option Party → Type 0
HasServedAs denies old new None after = ⊤
HasServedAs denies old new (Some party) None = ⊥
HasServedAs denies old new (Some party) (Some after) = HasServed denies (length old.owns) party.me old new party after

-- one that is there served at least once, also where it has stopped: its first steps are those of a serving
pub record KeepsServing (denies : Denials) (count who : ℕ) (old new : HallView) (party : Party) : Type 0 where
  pub after : Party
  pub answer : Option Bool
  pub first : List MailStep
  pub rest : List MailStep
  pub did : HasDone old new who (first ++ rest)
  pub serves : IsServed denies count party after first answer

-- one that is there served at least once; of one that is away nothing is said
abbrev pub KeepsServingAs : Denials → HallView → HallView → Option Party → Type 0
KeepsServingAs denies old new None = ⊤
KeepsServingAs denies old new (Some party) = KeepsServing denies (length old.owns) party.me old new party

-- the participant of that number served at least once, where it is there
abbrev pub KeepsServingAt : Denials → HallView → HallView → ℕ → Option Party → Type 0
KeepsServingAt denies old new who None = ⊤
KeepsServingAt denies old new who (Some party) = KeepsServing denies (length old.owns) who old new party

-- from one state to a later one participants served in rising number: nobody did anything after one of a higher number had
pub record IsInRisingNumber (old new : HallView) : Type 0 where
  pub steps : List (ℕ × MailStep)
  pub mail : new.mail ≡ old.mail ++ steps
  pub rising : IsNonDecreasingBy (λ step. step.0) steps
