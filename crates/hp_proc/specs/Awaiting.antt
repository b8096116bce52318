-- How a line goes on once another participant has done its first lines: the rule "Awaits" of docs/PARTICIPANTS.md.
use Rattle.std.specs.Prelude.{◌≡◌, ◌⊎◌, ℕ, ◌<◌, ◌≤◌, List, [], ◌∷◌, ◌++◌, ⊤}
use Rattle.hp_hall.specs.HallState.{HallState}
use Rattle.hp_hall.specs.Mail.{MailStep, Notes}
use Rattle.hp_hall.specs.declared.note.Note.TheVariants.{LoadedDone}
use Rattle.hp_script.specs.declared.line.Act.{Act}
use Rattle.hp_script.specs.declared.line.Act.TheVariants as act

-- the last thing that was done was to look up that so many lines of that participant are done, or more
pub record LooksUpLast (other lines : ℕ) (steps : List MailStep) : Type 0 where
  pub before : List MailStep
  pub found : ℕ
  pub enough : lines ≤ found
  pub last : steps ≡ before ++ Notes (LoadedDone other found) ∷ []

-- a line that awaits others ends so; the names and the heaps that its participant takes from then on hold what those lines changed
abbrev pub HasAwaited : Act → List MailStep → Type 0
HasAwaited (act.Await other lines) steps = LooksUpLast other lines steps
HasAwaited _ steps = ⊤

-- a wait for lines ends: that participant has told to have done so many, as far as the hall knows; or deadlines count for nothing in the hall,
-- whose participants each have a thread and do their lines meanwhile
abbrev pub CanAwait : ℕ → ℕ → ℕ → HallState → Type 0
CanAwait scale other lines state = (lines ≤ state.lines other) ⊎ (scale ≡ 0)

-- a line may be done as far as its awaits go
abbrev pub MayAwait : ℕ → Act → HallState → Type 0
MayAwait scale (act.Await other lines) state = (other < state.count) × CanAwait scale other lines state
MayAwait scale _ state = ⊤
