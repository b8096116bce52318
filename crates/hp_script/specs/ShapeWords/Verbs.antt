-- The words of a workload: the verbs with the fields that they take, the setup lines, and the kinds of message.
use Rattle.std.specs.Prelude.{ℕ, true, false, List, [], ◌∷◌, Option, codes}
use Rattle.std.specs.Map.{lookup}
use Rattle.hp_script.specs.Part.{Part, is_word}
use Rattle.hp_base.specs.declared.plan_entry.MsgKind.{MsgKind}
use Rattle.hp_base.specs.declared.plan_entry.MsgKind.TheVariants as message
use Rattle.hp_script.specs.declared.verb.Verb.{Verb}
use Rattle.hp_script.specs.declared.verb.Verb.TheVariants.{Alloc, Zone, Resize, Name, Member, Add, Range, Limit, Unlimit, Await}
use Rattle.hp_script.specs.declared.verb.NameCall.TheVariants as name
use Rattle.hp_script.specs.declared.verb.MemberCall.TheVariants as member
use Rattle.hp_script.specs.declared.verb.RangeCall.TheVariants as range
use Rattle.hp_script.specs.declared.verb.SetupVerb.{SetupVerb}
use Rattle.hp_script.specs.declared.verb.SetupVerb.TheVariants as setup

-- the verbs with the fields that they take: of memory, of external heaps, and of participants, watchers and validators
abbrev pub verbs : List (List ℕ × Verb)
verbs =
    (codes "alloc", Alloc) ∷ (codes "free", Name name.Free) ∷ (codes "resize", Resize)
    ∷ (codes "zone", Zone) ∷ (codes "lookup", Name name.Lookup) ∷ (codes "unzone", Name name.Unzone)
    ∷ (codes "dump", Name name.Dump) ∷ (codes "stats", Name name.Stats)
    ∷ (codes "heap", Name name.Heap) ∷ (codes "unheap", Name name.Unheap) ∷ (codes "add", Add)
    ∷ (codes "remove", Range range.Remove) ∷ (codes "map", Range range.Map) ∷ (codes "unmap", Range range.Unmap)
    ∷ (codes "attach", Member member.Attach) ∷ (codes "detach", Member member.Detach)
    ∷ (codes "watch", Name name.Watch) ∷ (codes "unwatch", Name name.Unwatch)
    ∷ (codes "limit", Limit) ∷ (codes "unlimit", Unlimit) ∷ (codes "await", Await) ∷ []

-- the verb that a field names
unfoldable pub verb_named : Part → Option Verb
verb_named word = lookup (λ verb. is_word verb word) verbs

-- the first fields of setup lines
abbrev pub setup_verbs : List (List ℕ × SetupVerb)
setup_verbs =
    (codes "participants", setup.Participants) ∷ (codes "absent", setup.Absent) ∷ (codes "socket", setup.Socket)
    ∷ (codes "deadline", setup.Deadline) ∷ (codes "pool", setup.Pool)
    ∷ (codes "lose", setup.Message false) ∷ (codes "repeat", setup.Message true)
    ∷ (codes "refuse", setup.Mapping false) ∷ (codes "elsewhere", setup.Mapping true) ∷ []

-- the setup line that a field names
unfoldable pub setup_named : Part → Option SetupVerb
setup_named word = lookup (λ verb. is_word verb word) setup_verbs

-- the kinds of message
abbrev pub message_kinds : List (List ℕ × MsgKind)
message_kinds =
    (codes "alloc", message.Alloc) ∷ (codes "free", message.Free) ∷ (codes "sync", message.Sync)
    ∷ (codes "reply", message.Reply) ∷ (codes "answer", message.Answer) ∷ []

-- the kind of message that a field names
unfoldable pub kind_named : Part → Option MsgKind
kind_named word = lookup (λ kind. is_word kind word) message_kinds
