-- How a plan finds its entries. No public clause cites this module.
use Rattle.std.specs.Prelude.{◌≡◌, ℕ, Bool, ◌&&◌, ◌==◌, List, AllPairs, Option, find}
use Rattle.std.specs.HashMap.{HashMap, get}
use Rattle.std.specs.declared.hash.FoldHasher.{FoldHasher}
use Rattle.std.specs.declared.hash.BuildHasherDefault.{BuildHasherDefault}
use Rattle.hp_base.specs.Plans.{IsOtherEntry, kind_place}
use Rattle.hp_base.specs.declared.named.Named.{Named}
use Rattle.hp_base.specs.declared.plan_entry.MsgKind.{MsgKind}
use Rattle.hp_base.specs.declared.plan_entry.PlanEntry.{PlanEntry}
use Rattle.hp_base.specs.declared.plan_entry.PlanEntry.TheVariants.{Message, Mapping}

-- the name of a message
abbrev pub message_named : MsgKind → ℕ → ℕ → Named
message_named kind party k = record { kind = kind_place kind; party = party; count = k }

-- the name of a mapping call
abbrev pub mapping_named : ℕ → ℕ → Named
mapping_named party call = record { kind = 5; party = party; count = call }

-- what an entry names
abbrev pub named_by : PlanEntry → Named
named_by (Message kind party k twice line) = message_named kind party k
named_by (Mapping party call elsewhere line) = mapping_named party call

abbrev pub is_named : Named → Named → Bool
is_named named other = (named.kind == other.kind) && ((named.party == other.party) && (named.count == other.count))

-- the first entry of that name
abbrev pub entry_named : List PlanEntry → Named → Option PlanEntry
entry_named entries named = find (λ entry. is_named named (named_by entry)) entries

-- no two entries name the same message or mapping call, and the index has each under its name
pub record IsIndexed (index : HashMap Named PlanEntry (BuildHasherDefault FoldHasher)) (entries : List PlanEntry) : Type 0 where
  pub distinct : AllPairs IsOtherEntry entries
  pub found : (named : Named) → get is_named index named ≡ entry_named entries named
