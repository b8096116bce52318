-- Worked values: allocations from a heap by its name, and what an end says of names, of memzones and of what was handed.
use Rattle.std.proofs.Common.{◌≡◌, refl, arith, ℕ, ◌+◌, ◌-◌, ◌^◌, true, false, List, [], ◌∷◌, Option, Some, None}
use Rattle.std.specs.Prelude.{codes}
use Rattle.std.proofs.lemmas.List.Sorted.{IsPermutation-refl, length_permutation}
use Rattle.hp_base.specs.Flags as flags
use Rattle.hp_base.specs.Requests.{IsAccepted}
use Rattle.hp_base.specs.declared.request.BadRequest.TheVariants as bad
use Rattle.hp_base.specs.declared.request.Request.{Request}
use Rattle.hp_base.specs.declared.span.Span.{Span}
use Rattle.hp_base.specs.declared.span.SpanState.TheVariants.{Busy}
use Rattle.hp_base.specs.declared.tag.Tag.{Tag}
use Rattle.hp_heap.proofs.AllocFacts.ChoiceLaw.{Contains-here}
use Rattle.hp_heap.specs.History as history
use Rattle.hp_heap.specs.History.{HeapView}
use Rattle.hp_heap.specs.Joining.{zone_ranges}
use Rattle.hp_heap.specs.declared.entry.Entry.{Entry}
use Rattle.hp_heap.specs.declared.entry.HeapAnswer.TheVariants as gives
use Rattle.hp_heap.specs.declared.entry.HeapCall.TheVariants as call
use Rattle.hp_script.specs.Part.{Part}
use Rattle.hp_script.specs.declared.answer.Answer.TheVariants as answer
use Rattle.hp_script.specs.declared.line.Act.{Act}
use Rattle.hp_script.specs.declared.line.Act.TheVariants as act
use Rattle.hp_script.specs.declared.line.Line.{Line}
use Rattle.hp_script.specs.declared.options.Options.{Options}
use Rattle.hp_script.specs.declared.options.SocketChoice.TheVariants as choose
use Rattle.hp_zone.specs.Directory as directory
use Rattle.hp_zone.specs.declared.name_change.NameChange.TheVariants.{Named}
use Rattle.hp_zone.specs.declared.zone.Zone.{Zone}
use Rattle.hp_zone.specs.declared.zone.ZoneChange.TheVariants.{Put}
use Rattle.hp_proc.specs.LineTrees.{doing_of}
use Rattle.hp_proc.specs.Lines.{Facts}
use Rattle.hp_proc.specs.Doing.{Counted, Doing, Done, Goes, Leads}
use Rattle.hp_proc.specs.Doing.Done.{Called, HeapSeen, NamesChanged, NamesRead, StatsRead}
use Rattle.hp_proc.specs.Handed.{AreStatesHanded, AreStatsHanded}
use Rattle.hp_proc.specs.LinesDone.{Course}
use Rattle.hp_proc.specs.NamesAtEnd.{AreElementsOf, IsReserved}
use Rattle.hp_proc.specs.OneThread.{names_by}
use Rattle.hp_proc.specs.SharedNames.{SharedNames, heaps_in, no_changes}
use Rattle.hp_proc.specs.SharedNames.NamesChange.{OfHeaps, OfZones}

abbrev part : List ℕ → Part
part text = record { base = (0, 0); start = 0; text = text }

abbrev line_of : ℕ → ℕ → Act → Line
line_of number who act = record { line = number; participant = who; act = act }

abbrev facts : Option Request → Facts
facts request = record {
  attached = true;
  own_socket = 0;
  pools = record { socket = 0; page = 2 ^ 21; pages = 4; slots = 4 } ∷ [];
  request = request;
  maker = None;
  own_heap = None;
  watchers = [];
  validators = [];
  chunks = [];
}

abbrev options : Option Part → Options
options heap = record { socket = choose.Any; heap = heap; align = 0; bound = 0; flags = 0 }

abbrev from_ext : ℕ → Act
from_ext size = act.Alloc (part (codes "x")) size (options (Some (part (codes "ext"))))

abbrev named : SharedNames
named = record { zones = []; heaps = Named 1 256 (codes "ext") ∷ [] }

module _ (accepted : IsAccepted 1024 64 0) where
  abbrev request : ℕ → Request
  request bits = record { size = 1024; align = 64; bound = 0; flags = bits; accepted = accepted }

  abbrev tag : ℕ → Tag
  tag who = record { who = who; zone = false; number = 6 }

  -- external memory is searched once, with its page sizes as a hint; it cannot grow
  from_external : Leads (doing_of (line_of 6 0 (from_ext 1000)) (from_ext 1000) (facts (Some (request 0))))
      (NamesRead named ∷ Called 1 (call.Alloc (request 4) (tag 0)) (gives.Address 481040530432) ∷ [])
      (Doing.Ended (answer.Address 481040530432))
  unfolding Goes Leads doing_of directory.socket_name heaps_in flags.is_hint
  from_external = (named, refl, (gives.Address 481040530432, refl, refl))

  none_external : Leads (doing_of (line_of 6 1 (from_ext 1000)) (from_ext 1000) (facts (Some (request 0))))
      (NamesRead named ∷ Called 1 (call.Alloc (request 4) (tag 1)) gives.Nothing ∷ []) (Doing.Ended answer.None)
  unfolding Goes Leads doing_of directory.socket_name heaps_in flags.is_hint
  none_external = (named, refl, (gives.Nothing, refl, refl))

  no_heap_named : Leads (doing_of (line_of 6 0 (from_ext 1000)) (from_ext 1000) (facts (Some (request 0))))
      (NamesRead no_changes ∷ []) (Doing.Ended answer.NoHeap)
  unfolding Goes Leads doing_of directory.socket_name heaps_in flags.is_hint
  no_heap_named = (no_changes, refl, refl)

-- a request that is refused reads no names
bad_first : doing_of (line_of 6 0 (from_ext 0)) (from_ext 0) (facts None) ≡ Doing.Ended (answer.BadRequest bad.Zero)
unfolding doing_of
bad_first = refl

-- statistics are those that were published, by nobody yet: zeros, after no entry
abbrev zeros : Counted
zeros = record { entries = 0; stats = record { total = 0; free = 0; used = 0; greatest = 0; busy = 0; frees = 0 } }

some_statistics : Leads (doing_of (line_of 6 0 (act.Stats (part (codes "ext")))) (act.Stats (part (codes "ext"))) (facts None))
    (NamesRead named ∷ StatsRead 1 zeros ∷ []) (Doing.Ended (answer.Statistics zeros.stats))
unfolding Goes Leads doing_of directory.socket_name heaps_in
some_statistics = (named, refl, (zeros, refl, refl))

-- a heap with the element of a memzone
abbrev name : List ℕ
name = codes "RG_rx"

abbrev element : ℕ → Span
element number = record {
  addr = 2 ^ 32 + 2 ^ 21 - 256;
  whole = 256;
  list = 0;
  page = 2 ^ 21;
  state = Busy 0 128 (record { who = 0; zone = true; number = number });
}

abbrev heap_with : List Span → List Entry → HeapView
heap_with ranges history = record {
  plain = record {
    index = 0;
    serves = Some 0;
    name = Some (codes "socket_0");
    socket = 0;
    pages = [];
    chunks = [];
    ranges = ranges;
    insertions = 0;
  };
  lists = [];
  history = history;
  spare = 0;
}

abbrev zone : Zone
zone = record { name = name; addr = 2 ^ 32 + 2 ^ 21 - 128; len = 128; socket = 0; heap = 0 }

abbrev with_zone : SharedNames
with_zone = record { zones = Put zone ∷ []; heaps = [] }

-- it lies where its element has its data, and nowhere where there is no element
an_element : AreElementsOf with_zone 0 (heap_with (element 2 ∷ []) []).plain
unfolding zone_ranges
an_element = IsPermutation-refl (zone.addr ∷ [])

without_element : AreElementsOf with_zone 0 (heap_with [] []).plain → ⊥
unfolding zone_ranges
without_element are = let many = length_permutation (zone.addr ∷ []) [] are in grind (arith, many)

-- it was reserved where an allocation was answered its address
module _ (accepted : IsAccepted 128 64 0) where
  abbrev zone_request : Request
  zone_request = record { size = 128; align = 64; bound = 0; flags = 0; accepted = accepted }

  abbrev reserving_entry : Entry
  reserving_entry = record {
    caller = record { participant = 0; number = 3 };
    call = call.Alloc zone_request (record { who = 0; zone = true; number = 2 });
    answer = gives.Address zone.addr;
  }

  a_reservation : IsReserved (heap_with [] (reserving_entry ∷ []) ∷ []) zone
  a_reservation = record {
    heap = heap_with [] (reserving_entry ∷ []);
    there = refl;
    allocated = record {
      entry = reserving_entry;
      there = Contains-here reserving_entry [];
      at = record { request = zone_request; tag = record { who = 0; zone = true; number = 2 }; asked = refl; answered = refl };
    };
  }

-- what lines leave of the names which are done one after another
abbrev course : Act → List Done → Course
course act trace = record { line = line_of 2 0 act; answer = answer.Done; trace = trace }

two_changes : names_by (course act.Detach (NamesRead no_changes ∷ NamesChanged (OfZones (Put zone)) ∷ [])
    ∷ course act.Detach (NamesChanged (OfHeaps (Named 1 256 (codes "ext"))) ∷ []) ∷ [])
    ≡ record { zones = Put zone ∷ []; heaps = Named 1 256 (codes "ext") ∷ [] }
two_changes = refl

-- statistics that grow older are none that a participant was handed
abbrev counted : ℕ → Counted
counted entries = record { entries = entries; stats = zeros.stats }

older_again : AreStatsHanded 0 (StatsRead 0 (counted 3) ∷ StatsRead 0 (counted 2) ∷ []) (heap_with [] []) → ⊥
older_again handed = let falls = handed.rising 0 in grind (arith, falls)

-- and the state of a heap that lacks a call which the participant had made is none
lacks_own_call : AreStatesHanded 0 (Called 0 call.Stats (gives.Statistics zeros.stats) ∷ HeapSeen 0 [] ∷ [])
    (heap_with [] []) → ⊥
unfolding history.entries_of
lacks_own_call handed =
    let missing = handed.own (Called 0 call.Stats (gives.Statistics zeros.stats) ∷ []) [] ([], refl) in cc
