-- Worked values: the lines of memzones, and what participants are handed of the names.
use Rattle.std.proofs.Common.{◌≡◌, refl, ap, sym, arith, ℕ, ◌+◌, ◌-◌, ◌^◌, true, false, List, [], ◌∷◌, length, Option, Some, None}
use Rattle.std.specs.Prelude.{codes}
use Rattle.std.specs.List.{list_any}
use lib.Count.{ones}
use Rattle.hp_base.specs.Flags as flags
use Rattle.hp_base.specs.Requests.{IsAccepted}
use Rattle.hp_base.specs.declared.pool_line.PoolLine.{PoolLine}
use Rattle.hp_base.specs.declared.request.BadRequest.TheVariants as bad
use Rattle.hp_base.specs.declared.request.Request.{Request}
use Rattle.hp_base.specs.declared.row.Run.{Run}
use Rattle.hp_base.specs.declared.tag.Tag.{Tag}
use Rattle.hp_heap.specs.declared.entry.HeapAnswer.TheVariants as gives
use Rattle.hp_heap.specs.declared.entry.HeapCall.TheVariants as call
use Rattle.hp_script.specs.Part.{Part}
use Rattle.hp_script.specs.declared.answer.Answer.TheVariants as answer
use Rattle.hp_script.specs.declared.line.Act.{Act}
use Rattle.hp_script.specs.declared.line.Act.TheVariants as act
use Rattle.hp_script.specs.declared.line.Line.{Line}
use Rattle.hp_script.specs.declared.options.Options.{Options}
use Rattle.hp_script.specs.declared.options.SocketChoice.TheVariants as choose
use Rattle.hp_serve.specs.declared.pages_asked.PagesAsked.{PagesAsked}
use Rattle.hp_zone.specs.Directory as directory
use Rattle.hp_zone.specs.Zones as memzones
use Rattle.hp_zone.specs.declared.fault.ZoneFault.{ZoneFault}
use Rattle.hp_zone.specs.declared.fault.ZoneFault.TheVariants as refused
use Rattle.hp_zone.specs.declared.limits.TheConstants.{MAX_ZONES}
use Rattle.hp_zone.specs.declared.zone.Zone.{Zone}
use Rattle.hp_zone.specs.declared.zone.ZoneChange.TheVariants.{Gone, Put}
use Rattle.hp_proc.specs.LineTrees.{doing_of}
use Rattle.hp_proc.specs.Lines.{Facts}
use Rattle.hp_proc.specs.Doing.{Doing, Done, Goes, Leads}
use Rattle.hp_proc.specs.Doing.Done.{Asked, Called, GaveUp, NamesChanged, NamesRead}
use Rattle.hp_proc.specs.Handed.{AreNamesHanded, names_shown}
use Rattle.hp_proc.specs.SharedNames.{SharedNames, directory_in, heaps_in, no_changes, zones_in}
use Rattle.hp_proc.specs.SharedNames.NamesChange.{OfZones}
use Rattle.hp_proc.specs.ZoneLines.{continued, reserving, zone_fault}

abbrev pools : List PoolLine
pools = record { socket = 0; page = 2 ^ 21; pages = 4; slots = 4 } ∷ []

abbrev part : List ℕ → Part
part text = record { base = (0, 0); start = 0; text = text }

-- a name of 31 letters, and one of 32
abbrev name : List ℕ
name = codes "zzzzzzzzzzzzzzzzzzzzzzzzzzzzzzz"

abbrev long_name : List ℕ
long_name = codes "zzzzzzzzzzzzzzzzzzzzzzzzzzzzzzzz"

abbrev line_of : ℕ → Act → Line
line_of who act = record { line = 7; participant = who; act = act }

abbrev facts : Option Request → Facts
facts request = record {
  attached = true;
  own_socket = 0;
  pools = pools;
  request = request;
  maker = Some (record { line = 2; participant = 0; zone = true });
  own_heap = None;
  watchers = [];
  validators = [];
  chunks = [];
}

abbrev options : ℕ → Option Part → Options
options bound heap = record { socket = choose.Any; heap = heap; align = 0; bound = bound; flags = 0 }

abbrev zoning : List ℕ → ℕ → Options → Act
zoning text len options = act.Zone (part text) len options

-- the memzone of 100 bytes at the end of the first page
abbrev zone : Zone
zone = record { name = name; addr = 2 ^ 32 + 2 ^ 21 - 128; len = 128; socket = 0; heap = 0 }

abbrev reserved : SharedNames
reserved = record { zones = Put zone ∷ []; heaps = [] }

abbrev freed : SharedNames
freed = record { zones = Put zone ∷ Gone name ∷ []; heaps = [] }

abbrev tag : Tag
tag = record { who = 0; zone = true; number = 2 }

abbrev run : Run
run = record { list = 0; first = 0; count = 1; addr = 2 ^ 32; page = 2 ^ 21; socket = 0 }

module _ (accepted : IsAccepted 128 64 0) where
  abbrev request : Request
  request = record { size = 128; align = 64; bound = 0; flags = 0; accepted = accepted }

  abbrev asked : PagesAsked
  asked = record { heap = 0; socket = 0; page = 2 ^ 21; request = request }

  -- it is allocated as an allocation is, and then the memzones have it
  a_zone : Leads (doing_of (line_of 0 (zoning name 100 (options 0 None))) (zoning name 100 (options 0 None)) (facts (Some request)))
      (NamesRead no_changes ∷ Called 0 (call.Alloc request tag) gives.Nothing ∷ Asked asked (Some run)
      ∷ Called 0 (call.Grow run) gives.Done ∷ Called 0 (call.Alloc request tag) (gives.Address zone.addr)
      ∷ NamesChanged (OfZones (Put zone)) ∷ [])
      (Doing.Ended (answer.Address zone.addr))
  unfolding Goes Leads doing_of continued directory.socket_name heaps_in flags.is_hint
  a_zone =
      (no_changes, refl, (gives.Nothing, refl, (Some run, refl, (gives.Done, refl, (gives.Address zone.addr, refl, (tt, refl, refl))))))

  -- without memory nothing changes
  no_zone : Leads (doing_of (line_of 0 (zoning name 100 (options 0 None))) (zoning name 100 (options 0 None)) (facts (Some request)))
      (NamesRead no_changes ∷ Called 0 (call.Alloc request tag) gives.Nothing ∷ Asked asked None ∷ []) (Doing.Ended answer.None)
  unfolding Goes Leads doing_of continued directory.socket_name heaps_in flags.is_hint
  no_zone = (no_changes, refl, (gives.Nothing, refl, (None, refl, refl)))

  no_such_heap : Leads (doing_of (line_of 0 (zoning name 100 (options 0 (Some (part name))))) (zoning name 100 (options 0 (Some (part name))))
      (facts (Some request))) (NamesRead no_changes ∷ []) (Doing.Ended answer.NoHeap)
  unfolding Goes Leads doing_of continued directory.socket_name heaps_in flags.is_hint
  no_such_heap = (no_changes, refl, refl)

-- its name is taken, or too long; its length overflows, but a bound that is too small for it is judged first
a_name_taken : Leads (doing_of (line_of 0 (zoning name 100 (options 0 None))) (zoning name 100 (options 0 None)) (facts None))
    (NamesRead reserved ∷ []) (Doing.Ended answer.Exists)
unfolding Goes Leads doing_of
a_name_taken = (reserved, refl, refl)

a_name_too_long : Leads (doing_of (line_of 0 (zoning long_name 100 (options 0 None))) (zoning long_name 100 (options 0 None)) (facts None))
    (NamesRead reserved ∷ []) (Doing.Ended answer.NameTooLong)
unfolding Goes Leads doing_of
a_name_too_long = (reserved, refl, refl)

too_large : Leads (doing_of (line_of 0 (zoning name (2 ^ 64 - 1) (options 0 None))) (zoning name (2 ^ 64 - 1) (options 0 None)) (facts None))
    (NamesRead no_changes ∷ []) (Doing.Ended (answer.BadRequest bad.Overflow))
unfolding Goes Leads doing_of continued
too_large = (no_changes, refl, refl)

too_large_for_bound : Leads (doing_of (line_of 0 (zoning name (2 ^ 64 - 1) (options 1 None)))
    (zoning name (2 ^ 64 - 1) (options 1 None)) (facts None)) (NamesRead no_changes ∷ []) (Doing.Ended answer.BadBound)
unfolding Goes Leads doing_of continued ones
too_large_for_bound = (no_changes, refl, refl)

-- its alignment is no power of two
abbrev misaligned : Options
misaligned = record (options 0 None) { align = 3 }

a_bad_alignment : Leads (doing_of (line_of 0 (zoning name 100 misaligned)) (zoning name 100 misaligned) (facts None))
    (NamesRead no_changes ∷ []) (Doing.Ended answer.BadAlign)
unfolding Goes Leads doing_of continued ones
a_bad_alignment = (no_changes, refl, refl)

-- there is no place for it beside as many memzones as there may be
no_place_beside : (zones : List Zone) → list_any (memzones.has_name name) zones ≡ false → length zones ≡ MAX_ZONES
    → zone_fault zones name 100 (options 0 None) ≡ Some (refused.NoSpace MAX_ZONES)
no_place_beside zones fresh full = rw fresh (rw full refl)

no_place : (names : SharedNames) → list_any (memzones.has_name name) (zones_in names) ≡ false → length (zones_in names) ≡ MAX_ZONES
    → Leads (doing_of (line_of 0 (zoning name 100 (options 0 None))) (zoning name 100 (options 0 None)) (facts None)) (NamesRead names ∷ [])
    (Doing.Ended answer.NoSpace)
unfolding Goes Leads doing_of
no_place names fresh full = (
  names,
  refl,
  ap (λ (fault : Option ZoneFault). reserving (directory_in pools names) (facts None) (line_of 0 (zoning name 100 (options 0 None)))
      name 100 (options 0 None) fault) (sym (no_place_beside (zones_in names) fresh full)),
)

-- a free of its name finds the element, which is a memzone's
a_free_refused : Leads (doing_of (line_of 0 (act.Free (part name))) (act.Free (part name)) (facts None))
    (NamesRead reserved ∷ Called 0 (call.Find tag) (gives.Address zone.addr) ∷ Called 0 (call.Free zone.addr false) gives.IsZone ∷ [])
    (Doing.Ended answer.IsZone)
unfolding Goes Leads doing_of directory.socket_name heaps_in
a_free_refused = (reserved, refl, (gives.Address zone.addr, refl, (gives.IsZone, refl, refl)))

-- its address and its length in whole cache lines are found under its name, until it is freed with its page
a_zone_found : Leads (doing_of (line_of 1 (act.Lookup (part name))) (act.Lookup (part name)) (facts None)) (NamesRead reserved ∷ [])
    (Doing.Ended (answer.Found zone.addr 128))
unfolding Goes Leads doing_of
a_zone_found = (reserved, refl, refl)

a_zone_freed : Leads (doing_of (line_of 1 (act.Unzone (part name))) (act.Unzone (part name)) (facts None))
    (NamesRead reserved ∷ NamesChanged (OfZones (Gone name)) ∷ Called 0 (call.Free zone.addr true) gives.Done
    ∷ Called 0 (call.Cut zone.addr) (gives.Pages run) ∷ GaveUp 0 run ∷ [])
    (Doing.Ended answer.Done)
unfolding Goes Leads doing_of
a_zone_freed = (reserved, refl, (tt, refl, (gives.Done, refl, (gives.Pages run, refl, (tt, refl, refl)))))

none_found : Leads (doing_of (line_of 1 (act.Lookup (part name))) (act.Lookup (part name)) (facts None)) (NamesRead freed ∷ [])
    (Doing.Ended answer.NotFound)
unfolding Goes Leads doing_of
none_found = (freed, refl, refl)

-- two pools of a program that another one looks up
abbrev pool : Zone
pool = record { name = codes "MP_mbuf_pool"; addr = 2 ^ 32 + 2304; len = 18872064; socket = 0; heap = 0 }

abbrev two : SharedNames
two = record { zones = Put pool ∷ Put zone ∷ []; heaps = [] }

a_pool_found : Leads (doing_of (line_of 1 (act.Lookup (part (codes "MP_mbuf_pool")))) (act.Lookup (part (codes "MP_mbuf_pool"))) (facts None))
    (NamesRead two ∷ []) (Doing.Ended (answer.Found 4294969600 18872064))
unfolding Goes Leads doing_of
a_pool_found = (two, refl, refl)

-- what a participant is handed after it has reserved a memzone lacks that memzone: so it may not be
abbrev forgetting : List Done
forgetting = NamesRead no_changes ∷ NamesChanged (OfZones (Put zone)) ∷ NamesRead no_changes ∷ []

shows : names_shown no_changes forgetting ≡ no_changes ∷ reserved ∷ no_changes ∷ []
shows = refl

forgets_own_zone : AreNamesHanded reserved (names_shown no_changes forgetting) → ⊥
forgets_own_zone handed = let falls = handed.zones 1 2 0 in grind (arith, falls)
