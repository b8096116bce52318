-- In which order one that does a line and those beside it did what they did: the rule "Turns in one thread" of docs/RUNS.md.
use Rattle.std.specs.Prelude.{◌≡◌, ℕ, suc, Bool, true, false, List, [], ◌∷◌, length, map, Option, Some, None, IfSome, slice_set, ⊤}
use Rattle.hp_events.specs.declared.validator.Validator.{Validator}
use Rattle.hp_plain.specs.Course.{IsCourse}
use Rattle.hp_plain.specs.HallSteps.{after_pause, with_note}
use Rattle.hp_plain.specs.HallView.{HallView, HasDone}
use Rattle.hp_hall.specs.Mail.{MailStep, Fetches, Gives, Notes, Posts, Takes}
use Rattle.hp_hall.specs.declared.note.Note.{Note}
use Rattle.hp_hall.specs.declared.note.Note.TheVariants.{Acked, Emptied, Loaded, LoadedDone, Paused, Published, Read, ReadStats, Stored, Unmapped, Yielded}
use Rattle.hp_serve.specs.Coordinating.{IsServed}
use Rattle.hp_serve.specs.Denials.{Denials}
use Rattle.hp_serve.specs.Party.{Party}
use Rattle.hp_solo.specs.Solo.{IsAway, IsBeside, IsNextDue, IsQuiet, AloneView, SoloView, denials_in, has_stopped, party_at, server_at}

-- from one state of the values to a later one, one participant made these steps, and nobody else any
pub record IsMadeBy (who : ℕ) (steps : List MailStep) (old new : HallView) : Type 0 where
  pub course : IsCourse old new
  pub are : course.steps ≡ map (λ step. (who, step)) steps

-- the place of one that is there with these validators and has met no refusal of memory
abbrev pub going_place : List (Validator Bool) → Party → AloneView
going_place validators party = record { party = Some party; validators = validators; stopped = false }

-- one that is there served once, by a judge that denies so, and tells whether it did something
pub record ServesOnce (denies : Denials) (who : ℕ) (moved : Bool) (old new : SoloView) : Type 0 where
  pub validators : List (Validator Bool)
  pub party : Party
  pub after : Party
  pub steps : List MailStep
  pub there : server_at old.servers who ≡ Some (going_place validators party)
  pub serves : IsServed denies (length old.plain.owns) party after steps (Some moved)
  pub made : IsMadeBy who steps old.plain new.plain
  pub servers : new.servers ≡ slice_set old.servers who (going_place validators after)

-- it served some times, and did something each time
pub data ServesSome (denies : Denials) (who : ℕ) : SoloView → SoloView → Type 0 where
  none : (hall : SoloView) → ServesSome denies who hall hall
  more : (old mid new : SoloView) → ServesSome denies who old mid → ServesOnce denies who true mid new → ServesSome denies who old new

-- a visit: one that is there serves until nothing is left for it, by a judge that denies so, and one that is away does nothing
pub data Visit (denies : Denials) (who : ℕ) (old new : SoloView) : Type 0 where
  serves : (between : SoloView) → ServesSome denies who old between → ServesOnce denies who false between new → Visit denies who old new
  is_away : party_at old.servers who ≡ None → new ≡ old → Visit denies who old new

-- those from one number on to below another are visited in turn, each by what its place denies
pub data Visits (from : ℕ) : ℕ → SoloView → SoloView → Type 0 where
  none : (hall : SoloView) → Visits from from hall hall
  next : (to : ℕ) (old mid new : SoloView) → Visits from to old mid → Visit (denials_in (server_at mid.servers to)) to mid new
      → Visits from (suc to) old new

-- those below one are visited, or those above it
abbrev pub VisitsBeside : ℕ → Bool → SoloView → SoloView → Type 0
VisitsBeside me false old new = Visits 0 me old new
VisitsBeside me true old new = Visits (suc me) (length old.servers) old new

-- a note by which nobody else serves, and the clock stands
abbrev pub IsCallNote : Note → Type 0
IsCallNote (Read now) = ⊤
IsCallNote (Loaded participant number) = ⊤
IsCallNote (Acked number) = ⊤
IsCallNote Unmapped = ⊤
IsCallNote Emptied = ⊤
IsCallNote (Stored lines) = ⊤
IsCallNote (LoadedDone participant lines) = ⊤
IsCallNote (Published heap pair) = ⊤
IsCallNote (ReadStats heap pair) = ⊤
IsCallNote (Yielded above moved) = ⊥
IsCallNote (Paused moved until) = ⊥

-- a step by which nobody else serves, and the clock stands
abbrev pub IsCall : MailStep → Type 0
IsCall (Posts to frame action posted) = ⊤
IsCall (Fetches frame) = ⊤
IsCall (Takes slot kept) = ⊤
IsCall (Gives slot kept) = ⊤
IsCall (Notes note) = IsCallNote note

-- one call of a participant that is away from its place, and what it makes of the hall
pub data Makes (me : ℕ) (old new : SoloView) : MailStep → Type 0 where
  -- it made that step, and nothing else is done
  calls : (step : MailStep) → IsCall step → IsMadeBy me (step ∷ []) old.plain new.plain → new.servers ≡ old.servers
      → new.plain.clock ≡ old.plain.clock → Makes me old new step
  -- it let those on one side serve, in rising number; where nothing moved all is as it was
  yields : (above moved : Bool) (between : SoloView) → VisitsBeside me above old between
      → (moved ≡ false → IsQuiet (IsBeside me above) old between)
      → new ≡ record between { plain = with_note me (Yielded above (Some moved)) between.plain }
      → Makes me old new (Notes (Yielded above (Some moved)))
  -- it paused: where something moved the clock stands, and else it goes on to the next deadline
  pauses : (moved : Bool) (until : Option ℕ) → new.plain ≡ after_pause me moved until new.plain.clock old.plain → new.servers ≡ old.servers
      → (moved ≡ true → new.plain.clock ≡ old.plain.clock)
      → (moved ≡ false → IfSome until (λ deadline. IsNextDue old.plain.clock old.servers deadline new.plain.clock))
      → Makes me old new (Notes (Paused moved until))

-- its calls, one after another, and the steps that they are
pub data Sequence (me : ℕ) : SoloView → List MailStep → SoloView → Type 0 where
  stands : (hall : SoloView) → Sequence me hall [] hall
  goes_on : (old mid new : SoloView) (step : MailStep) (steps : List MailStep) → Makes me old mid step → Sequence me mid steps new
      → Sequence me old (step ∷ steps) new

-- one alone is away
pub record IsAloneAway (me : ℕ) (servers : List AloneView) : Type 0 where
  pub away : IsAway (server_at servers me)
  pub alone : (who : ℕ) → IsAway (server_at servers who) → who ≡ me

-- where one alone is away, and nobody has stopped in the end, what it did is a sequence of calls
abbrev pub IsInSequence : SoloView → SoloView → Type 0
IsInSequence old new = (me : ℕ) → IsAloneAway me old.servers → has_stopped new.servers ≡ false
    → (steps : List MailStep) × HasDone old.plain new.plain me steps × Sequence me old steps new

-- one that is there served some times, and did something each time, whichever others are there
abbrev pub IsServedSome : Denials → HallView → HallView → Party → Party → Type 0
IsServedSome denies old new party after = (servers : List AloneView) (validators : List (Validator Bool))
    → server_at servers party.me ≡ Some (going_place validators party)
    → ServesSome denies party.me (record { plain = old; servers = servers })
    (record { plain = new; servers = slice_set servers party.me (going_place validators after) })

-- one that is there was visited, whichever others are there
abbrev pub IsVisited : Denials → HallView → HallView → Party → Party → Type 0
IsVisited denies old new party after = (servers : List AloneView) (validators : List (Validator Bool))
    → server_at servers party.me ≡ Some (going_place validators party)
    → Visit denies party.me (record { plain = old; servers = servers })
    (record { plain = new; servers = slice_set servers party.me (going_place validators after) })

-- one that is there was visited; of one that is away nothing is said
abbrev pub IsVisitedAs : Denials → HallView → HallView → Option Party → Option Party → Type 0
IsVisitedAs denies old new None after = ⊤
IsVisitedAs denies old new (Some party) None = ⊥
IsVisitedAs denies old new (Some party) (Some after) = IsVisited denies old new party after
