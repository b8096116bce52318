-- Each change of the names leaves what it says, and each socket has its heap in whatever names are handed.
use Rattle.std.proofs.Common.{◌≡◌, ℕ, List, [], ◌∷◌, ◌++◌, length, refl, subst}
use Rattle.hp_base.specs.declared.pool_line.PoolLine.{PoolLine}
use Rattle.hp_segs.specs.declared.external_range.ExternalRange.{ExternalRange}
use Rattle.hp_zone.specs.Directory.{HasSocketHeaps, PlainDirectory, after_change, directory_after, opening}
use Rattle.hp_zone.specs.Zones as memzones
use Rattle.hp_zone.specs.declared.name_change.NameChange.{NameChange}
use Rattle.hp_zone.specs.declared.zone.Zone.{Zone}
use Rattle.hp_zone.specs.declared.zone.ZoneChange.{ZoneChange}
use Rattle.hp_proc.specs.ClaimedMemory.{claimed_after, claims_after, claims_in}
use Rattle.hp_proc.specs.Heaps.{sockets_of}
use Rattle.hp_proc.specs.SharedNames.{SharedNames}
use Rattle.hp_proc.specs.VerbLaws.{HandedSockets, NamesFollow}

directory_follows : (plain : PlainDirectory) (log : List NameChange) (change : NameChange)
    → directory_after plain (log ++ change ∷ []) ≡ after_change (directory_after plain log) change
directory_follows plain [] change = refl
directory_follows plain (first ∷ log) change = directory_follows (after_change plain first) log change

zones_follow : (zones : List Zone) (log : List ZoneChange) (change : ZoneChange)
    → memzones.zones_after zones (log ++ change ∷ []) ≡ memzones.after_change (memzones.zones_after zones log) change
zones_follow zones [] change = refl
zones_follow zones (first ∷ log) change = zones_follow (memzones.after_change zones first) log change

claims_follow : (pools : ℕ) (plain : PlainDirectory) (claims : List ExternalRange) (log : List NameChange) (change : NameChange)
    → claimed_after pools plain claims (log ++ change ∷ [])
    ≡ claims_after pools (directory_after plain log) (claimed_after pools plain claims log) change
claims_follow pools plain claims [] change = refl
claims_follow pools plain claims (first ∷ log) change =
    claims_follow pools (after_change plain first) (claims_after pools plain claims first) log change

pub names_follow : (pools : List PoolLine) (names : SharedNames) → NamesFollow pools names
unfolding claims_in
names_follow pools names = record {
  directory = λ change. directory_follows (opening (sockets_of pools)) names.heaps change;
  zones = λ change. zones_follow [] names.zones change;
  claims = λ change. claims_follow (length pools) (opening (sockets_of pools)) [] names.heaps change;
}

pub handed_sockets : HandedSockets
handed_sockets workload did whole names changes front =
    let sockets = sockets_of workload.pools.items in
    subst (λ (log : List NameChange). HasSocketHeaps sockets (directory_after (opening sockets) log)) front.heaps
    (changes.sockets (length names.heaps))
