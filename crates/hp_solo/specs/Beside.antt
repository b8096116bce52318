-- What those beside one that waits do for it: the rule "Turns in one thread" of docs/RUNS.md.
use Rattle.std.specs.Prelude.{◌≡◌, ℕ, Bool, false, Some}
use Rattle.hp_plain.specs.HallSteps.{with_note}
use Rattle.hp_hall.specs.declared.note.Note.TheVariants.{Yielded}
use Rattle.hp_solo.specs.Served.{IsInRisingNumber, KeepsServingAt}
use Rattle.hp_solo.specs.Solo.{IsBeside, IsNotBeside, IsQuiet, IsServerAtRest, IsServing, LooksLastAt, SoloView, denials_in, party_at, server_at}

-- these have served, and whether something moved: they alone, and not who is apart, in rising number. Each of them served at least once,
-- also one that has met a refusal of memory. Each that has met none rests then, and looked last into its mailbox, which was empty; and where
-- nothing moved it had looked there once.
pub record HaveServedAmong (these apart : ℕ → Type 0) (old new : SoloView) (moved : Bool) : Type 0 where
  pub serving : IsServing apart old.plain new.plain
  pub rising : IsInRisingNumber old.plain new.plain
  pub places : (who : ℕ) → apart who → server_at new.servers who ≡ server_at old.servers who
  pub keeps : (who : ℕ) → these who → KeepsServingAt (denials_in (server_at old.servers who)) old.plain new.plain who
      (party_at old.servers who)
  pub rests : (who : ℕ) → these who → IsServerAtRest new.plain.clock (server_at new.servers who)
  pub looks : (who : ℕ) → these who → LooksLastAt old.plain new.plain who (server_at new.servers who)
  pub quiet : moved ≡ false → IsQuiet these old new

-- those below one that waits have served so, or those above
abbrev pub HaveServedBeside : ℕ → Bool → SoloView → SoloView → Bool → Type 0
HaveServedBeside me above old new moved = HaveServedAmong (IsBeside me above) (IsNotBeside me above) old new moved

-- it let them serve, and noted so
pub record HasYielded (me : ℕ) (above : Bool) (old new : SoloView) (moved : Bool) : Type 0 where
  pub between : SoloView
  pub served : HaveServedBeside me above old between moved
  pub noted : new ≡ record between { plain = with_note me (Yielded above (Some moved)) between.plain }
