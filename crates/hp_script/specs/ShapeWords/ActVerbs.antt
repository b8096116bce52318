-- The verbs of acts, and the words that stand for them.
use Rattle.std.specs.Prelude.{ℕ, List, codes}
use Rattle.hp_script.specs.declared.line.Act.{Act}
use Rattle.hp_script.specs.declared.line.Act.TheVariants as act
use Rattle.hp_script.specs.declared.verb.Verb.{Verb}
use Rattle.hp_script.specs.declared.verb.Verb.TheVariants.{Alloc, Zone, Resize, Name, Member, Add, Range, Limit, Unlimit, Await}
use Rattle.hp_script.specs.declared.verb.NameCall.TheVariants as name
use Rattle.hp_script.specs.declared.verb.MemberCall.TheVariants as member
use Rattle.hp_script.specs.declared.verb.RangeCall.TheVariants as range

-- the verb of an act
abbrev pub verb_of : Act → Verb
verb_of (act.Alloc label size options) = Alloc
verb_of (act.Free label) = Name name.Free
verb_of (act.Resize label size) = Resize
verb_of (act.Zone called len options) = Zone
verb_of (act.Lookup called) = Name name.Lookup
verb_of (act.Unzone called) = Name name.Unzone
verb_of act.Attach = Member member.Attach
verb_of act.Detach = Member member.Detach
verb_of (act.Heap called) = Name name.Heap
verb_of (act.Unheap called) = Name name.Unheap
verb_of (act.Add heap addr len page) = Add
verb_of (act.Remove heap addr len) = Range range.Remove
verb_of (act.Map heap addr len) = Range range.Map
verb_of (act.Unmap heap addr len) = Range range.Unmap
verb_of (act.Watch called) = Name name.Watch
verb_of (act.Unwatch called) = Name name.Unwatch
verb_of (act.Limit called socket bytes allow) = Limit
verb_of (act.Unlimit called socket) = Unlimit
verb_of (act.Await other lines) = Await
verb_of (act.Dump heap) = Name name.Dump
verb_of (act.Stats heap) = Name name.Stats

-- the word of an act's verb
abbrev pub verb_word : Act → List ℕ
verb_word (act.Alloc label size options) = codes "alloc"
verb_word (act.Free label) = codes "free"
verb_word (act.Resize label size) = codes "resize"
verb_word (act.Zone called len options) = codes "zone"
verb_word (act.Lookup called) = codes "lookup"
verb_word (act.Unzone called) = codes "unzone"
verb_word act.Attach = codes "attach"
verb_word act.Detach = codes "detach"
verb_word (act.Heap called) = codes "heap"
verb_word (act.Unheap called) = codes "unheap"
verb_word (act.Add heap addr len page) = codes "add"
verb_word (act.Remove heap addr len) = codes "remove"
verb_word (act.Map heap addr len) = codes "map"
verb_word (act.Unmap heap addr len) = codes "unmap"
verb_word (act.Watch called) = codes "watch"
verb_word (act.Unwatch called) = codes "unwatch"
verb_word (act.Limit called socket bytes allow) = codes "limit"
verb_word (act.Unlimit called socket) = codes "unlimit"
verb_word (act.Await other lines) = codes "await"
verb_word (act.Dump heap) = codes "dump"
verb_word (act.Stats heap) = codes "stats"
