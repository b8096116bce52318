-- What the lines of memzones do: the rule "Memzones" of docs/HEAP.md.
use Rattle.std.specs.Prelude.{ℕ, true, not, nat_le, List, length, Option, Some, None, if◌then◌else◌}
use Rattle.std.specs.List.{list_any}
use Rattle.std.specs.Option.{option_map_or}
use Rattle.hp_base.specs.Requests.{is_align, is_bound, rounded_size}
use Rattle.hp_base.specs.declared.tag.Tag.{Tag}
use Rattle.hp_heap.specs.declared.entry.HeapCall.TheVariants as call
use Rattle.hp_script.specs.declared.answer.Answer.{Answer}
use Rattle.hp_script.specs.declared.answer.Answer.TheVariants as answer
use Rattle.hp_script.specs.declared.line.Line.{Line}
use Rattle.hp_script.specs.declared.options.Options.{Options}
use Rattle.hp_zone.specs.Directory.{PlainDirectory}
use Rattle.hp_zone.specs.Zones as memzones
use Rattle.hp_zone.specs.declared.fault.ZoneFault.{ZoneFault}
use Rattle.hp_zone.specs.declared.fault.ZoneFault.TheVariants as refused
use Rattle.hp_zone.specs.declared.limits.TheConstants.{MAX_ZONES}
use Rattle.hp_zone.specs.declared.zone.Zone.{Zone}
use Rattle.hp_zone.specs.declared.zone.ZoneChange.TheVariants.{Gone, Put}
use Rattle.hp_proc.specs.Doing.{Deed, Doing}
use Rattle.hp_proc.specs.Doing.Deed.{Call}
use Rattle.hp_proc.specs.Doing.Doing.{Ended, Then}
use Rattle.hp_proc.specs.ExternalLines.{calling, changing}
use Rattle.hp_proc.specs.Freeing.{cutting}
use Rattle.hp_proc.specs.Lines.{Facts, Maker, allocating_by}
use Rattle.hp_proc.specs.SharedNames.{heaps_in, is_short_name, socket_at}
use Rattle.hp_proc.specs.SharedNames.NamesChange.{OfZones}
use Rattle.hp_proc.specs.declared.searched_heap.SearchedHeap.{SearchedHeap}

-- which heap was called last, once this is done
abbrev pub last_called : Option ℕ → Deed → Option ℕ
last_called last (Call heap call) = Some heap
last_called last _ = last

-- the tree of a line that has more to do where another tree ends: by the heap that was called last, and by the answer that it came to
unfoldable pub continued : (Option ℕ → Answer → Doing) → Option ℕ → Doing → Doing
continued more last (Ended given) = more last given
continued more last (Then deed next) = Then deed (λ given. continued more (last_called last deed) (next given))

-- what stands against a reservation of so many bytes under a name, where something does: the first in the order in which it is judged
abbrev pub zone_fault : List Zone → List ℕ → ℕ → Options → Option ZoneFault
zone_fault zones text len options =
    if not (is_short_name text) then Some refused.NameLong
    else (if list_any (memzones.has_name text) zones then Some refused.Exists
    else (if nat_le MAX_ZONES (length zones) then Some (refused.NoSpace MAX_ZONES)
    else (if not (is_align options.align) then Some refused.BadAlign
    else (if is_bound (rounded_size len) options.bound then None else Some refused.BadBound))))

abbrev pub zone_answer : ZoneFault → Answer
zone_answer refused.NameLong = answer.NameTooLong
zone_answer refused.Exists = answer.Exists
zone_answer (refused.NoSpace limit) = answer.NoSpace
zone_answer refused.BadAlign = answer.BadAlign
zone_answer refused.BadBound = answer.BadBound

-- the tag of a memzone's element: its number is that of the first line that reserves the name
abbrev pub zone_tag : Line → Option Maker → Tag
zone_tag line maker =
    record { who = line.participant; zone = true; number = option_map_or (λ first. first.line) maker line.line }

-- memory was found for a memzone: the memzones have it, with its length in whole cache lines
abbrev pub put_zone : PlainDirectory → List ℕ → ℕ → Option ℕ → Answer → Doing
put_zone plain text len (Some heap) (answer.Address address) =
    changing (OfZones (Put (record {
      name = text;
      addr = address;
      len = rounded_size len;
      socket = socket_at plain heap;
      heap = heap;
    }))) (Ended (answer.Address address))
put_zone plain text len last given = Ended given

-- `zone`: nothing stands against the reservation, and it is allocated as an allocation is, whose request may still be refused
abbrev pub reserving : PlainDirectory → Facts → Line → List ℕ → ℕ → Options → Option ZoneFault → Doing
reserving plain facts line text len options (Some fault) = Ended (zone_answer fault)
reserving plain facts line text len options None =
    continued (put_zone plain text len) None (allocating_by (heaps_in plain) facts (zone_tag line facts.maker) len options)

-- `lookup`
abbrev pub found_zone : Option Zone → Doing
found_zone None = Ended answer.NotFound
found_zone (Some zone) = Ended (answer.Found zone.addr zone.len)

-- `unzone`: the memzones lose it, and then its element is freed; in the heap of a socket its whole pages are cut
abbrev pub freeing_zone : (ℕ → SearchedHeap) → Option Zone → Doing
freeing_zone place_of None = Ended answer.NotFound
freeing_zone place_of (Some zone) =
    changing (OfZones (Gone zone.name)) (calling zone.heap (call.Free zone.addr true) (cutting (place_of zone.heap) zone.addr))
