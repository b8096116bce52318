-- A text on its way to a sink: what a call adds to it.
use Rattle.std.specs.Prelude.{◌≡◌, ℕ, ◌<◌, Bool, true, false, List, [], ◌++◌, Option, Result, Ok, Err, MatchResult}
use Rattle.hp_base.specs.Streams.{CountsFault}
use Rattle.hp_report.specs.Writing.{Holds, HoldsFront}
use Rattle.hp_report.specs.declared.render_fault.RenderFault.{RenderFault}
use Rattle.hp_report.specs.declared.render_fault.RenderFault.TheVariants.{WriteFault, OutOfMemory}

-- what the sink holds, where it tells, how often it has failed, and what stands on the page and is not handed to it yet
pub record Way : Type 0 where
  pub held : Option (List ℕ)
  pub faults : ℕ
  pub page : List ℕ

abbrev pub way : Option (List ℕ) → ℕ → List ℕ → Way
way held faults page = record { held = held; faults = faults; page = page }

-- a text was added: a front of what stood on the page and of the text went to the sink, and the rest stands on the page
pub record HasAdded (old new : Way) (text : List ℕ) : Type 0 where
  pub sent : List ℕ
  pub held : Holds old.held new.held sent
  pub page : sent ++ new.page ≡ old.page ++ text
  pub faults : new.faults ≡ old.faults

-- it stopped on the way: the sink has taken a front of the page and the text, and has one more fault where it failed
pub record HasStopped (old new : Way) (text : List ℕ) (failed : Bool) : Type 0 where
  pub front : HoldsFront old.held new.held (old.page ++ text)
  pub cause : CountsFault old.faults new.faults failed

-- the sink failed
abbrev pub is_write_fault : RenderFault → Bool
is_write_fault WriteFault = true
is_write_fault OutOfMemory = false

-- the sink failed in a call
abbrev pub failed_writing : {T : Type 0} → Result T RenderFault → Bool
failed_writing (Ok done) = false
failed_writing (Err fault) = is_write_fault fault

-- what a call that adds a text leaves
abbrev pub Adds : {T : Type 0} → Way → Way → List ℕ → Result T RenderFault → Type 0
Adds old new text result = MatchResult result (λ done. HasAdded old new text) (λ fault. HasStopped old new text (is_write_fault fault))

-- one line was made of those that are left
pub record IsNextLine (page page' rest rest' : List ℕ) (count count' : ℕ) : Type 0 where
  pub line : List ℕ
  pub made : page' ≡ page ++ line
  pub was : rest ≡ line ++ rest'
  pub fewer : count' < count

-- no line is left
pub record IsLastLine (before after left : List ℕ) : Type 0 where
  pub page : after ≡ before
  pub rest : left ≡ []

-- what making the next line leaves
abbrev pub MakesLine : List ℕ → List ℕ → List ℕ → List ℕ → ℕ → ℕ → Bool → Type 0
MakesLine page page' rest rest' count count' true = IsNextLine page page' rest rest' count count'
MakesLine page page' rest rest' count count' false = IsLastLine page page' rest
