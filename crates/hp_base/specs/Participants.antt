-- The participants of a workload: their sockets, and who is absent at the start. The rule "Participants" of docs/OUTSIDE.md.
use Rattle.std.specs.Prelude.{◌≡◌, ℕ, ◌%◌, ◌^◌, ◌<◌, ◌≤◌, List, All}
use Rattle.hp_base.specs.declared.limits.TheConstants.{MAX_PARTICIPANTS, MAX_SOCKETS}

-- the own sockets of participants are below 32 ("Participants")
pub record AreSockets (sockets : List ℕ) : Type 0 where
  pub below : All (λ socket. socket < MAX_SOCKETS) sockets

-- there are 1 to 16 participants, and bits of participants from 1 to below that number alone are set ("Participants")
pub record IsAbsent (participants absent : ℕ) : Type 0 where
  pub some : 0 < participants
  pub few : participants ≤ MAX_PARTICIPANTS
  pub primary : absent % 2 ≡ 0
  pub declared : absent < 2 ^ participants
