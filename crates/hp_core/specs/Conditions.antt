-- The conditions of a step and of its parts.
use Rattle.std.specs.Prelude.{◌≡◌, ◌+◌, ◌<◌, ◌≤◌, List, [], length, Option, None, IfSome}
use Rattle.std.specs.List.{All}
use Rattle.hp_segs.specs.SegsView.{SegsView, closed_number}
use Rattle.hp_segs.specs.declared.ask.Ask.{Ask}
use Rattle.hp_core.specs.Asks.{asker}
use Rattle.hp_core.specs.declared.asked.Asked.{Asked}
use Rattle.hp_core.specs.declared.event.CoreEvent.{CoreEvent}
use Rattle.hp_core.specs.declared.event.CoreEvent.TheVariants.{Grow, Shrink, SelfMapped, Poll}

-- each held ask is of one of the participants 0 to 15, and there is a place for each of them
pub record AreHeld (held : List (Option Asked)) : Type 0 where
  pub places : length held ≡ 16
  pub declared : All (λ asked. IfSome asked (λ asked. asker asked < 16)) held

-- the event names none but the participants 0 to 15
abbrev pub NamesParticipants : CoreEvent → Type 0
NamesParticipants (Grow ask) = ask.from < 16
NamesParticipants (Shrink from number) = from < 16
NamesParticipants (SelfMapped caught now) = Unit {0}
NamesParticipants (Poll now acks) = Unit {0}

-- a place is left for each Retiring run and for three records and outcomes more
abbrev pub HasSpare : SegsView → Type 0
HasSpare segs = length segs.retiring + 3 ≤ segs.spare

-- `step`: the participants are declared, and places are left
pub record MayStep (event : CoreEvent) (segs : SegsView) : Type 0 where
  pub participant : NamesParticipants event
  pub spare : HasSpare segs

-- an ask may be started: nothing is open, and places are left
pub record MayStart (asked : Asked) (segs : SegsView) : Type 0 where
  pub participant : asker asked < 16
  pub alone : segs.growth ≡ None
  pub spare : HasSpare segs

-- an ask for memory after the drops: it is not closed, nothing is open, no row is Retiring, and a place is left
pub record IsAfterDrops (ask : Ask) (segs : SegsView) : Type 0 where
  pub participant : ask.from < 16
  pub above : closed_number segs.asks ask.from < ask.number
  pub alone : segs.growth ≡ None
  pub dropped : segs.retiring ≡ []
  pub spare : 0 < segs.spare
