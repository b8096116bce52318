-- Each line goes orderly to its end. It looks at the log only where it attaches and is out, and reads statistics that were published only where
-- it asks for them. It walks over what each line does as a tree.
use Rattle.std.proofs.Common.{◌≡◌, ℕ, Bool, true, false, List, [], ◌∷◌, Option, Some, None, is_some, find, refl, sym, subst, if◌then◌else◌}
use Rattle.std.specs.Option.{option_to_list}
use Rattle.std.specs.Prelude.{⊤}
use Rattle.hp_base.specs.Requests.{refusal_of, rounded_size}
use Rattle.hp_base.specs.declared.caught.Caught.{Caught}
use Rattle.hp_base.specs.declared.caught.Caught.TheVariants as caught
use Rattle.hp_base.specs.declared.request.BadRequest.{BadRequest}
use Rattle.hp_base.specs.declared.request.Request.{Request}
use Rattle.hp_base.specs.declared.row.Run.{Run}
use Rattle.hp_base.specs.declared.tag.Tag.{Tag}
use Rattle.hp_heap.specs.declared.entry.HeapAnswer.{HeapAnswer}
use Rattle.hp_heap.specs.declared.entry.HeapAnswer.TheVariants as gives
use Rattle.hp_heap.specs.declared.entry.HeapCall.TheVariants as call
use Rattle.hp_script.specs.declared.answer.Answer.{Answer}
use Rattle.hp_script.specs.declared.answer.Answer.TheVariants as answer
use Rattle.hp_script.specs.declared.line.Act.{Act}
use Rattle.hp_script.specs.declared.line.Act.TheVariants as act
use Rattle.hp_script.specs.declared.line.Line.{Line}
use Rattle.hp_script.specs.declared.options.Options.{Options}
use Rattle.hp_proc.specs.Courses.{searched_heap_at}
use Rattle.hp_proc.specs.ExternalLines.{adding_memory, destroying_heap, leaving_all, leaving_memory, making_heap, mapping_memory, removing_memory}
use Rattle.hp_proc.specs.LineTrees.{allocating_line, doing_of, on_made, reserving_line}
use Rattle.hp_proc.specs.Doing.{Deed, Doing, Done, Goes, Leads}
use Rattle.hp_proc.specs.Doing.Done.{Called}
use Rattle.hp_proc.specs.Freeing.{cutting, freed, freeing, giving_up, going_on, if_sized, looking, resize_refusal, resized, resizing, resizing_to}
use Rattle.hp_proc.specs.Heaps.{NamedHeap, has_name, socket_heaps}
use Rattle.hp_proc.specs.Lines.{Facts, Maker, allocating, allocating_by, attached_with, attaching, by_heaps, dumping, if_attached, is_own_maker, judged_by, places_of, reading_names, reading_stats, tag_made, tag_of, with_statistics}
use Rattle.hp_proc.specs.Registering.{limiting, unlimiting, unwatching, watching}
use Rattle.hp_proc.specs.SharedNames.{SharedNames, directory_in, heaps_in, meant_by, meant_in, zone_named, zones_in}
use Rattle.hp_proc.specs.ZoneLines.{found_zone, freeing_zone, reserving, zone_answer, zone_fault, zone_tag}
use Rattle.hp_proc.specs.declared.searched_heap.SearchedHeap.{SearchedHeap}
use Rattle.hp_zone.specs.declared.fault.ZoneFault.{ZoneFault}
use Rattle.thm_run.proofs.TracesTold.OrderlyExternal.{add_orderly, heap_orderly, leave_orderly, map_orderly, remove_orderly, unheap_orderly, unmap_orderly}
use Rattle.thm_run.proofs.TracesTold.OrderlyZones.{lookup_orderly, unzone_orderly, zone_orderly}
use Rattle.thm_run.proofs.TracesTold.OrderlyTraces.{GoesAnyhow, GoesOrderly, IsOrderly, call_orderly, ended_orderly, goes_on, ends, serving_orderly, tells, then_orderly}

-- a line may look where it attaches a participant that is out, and where it asks for statistics
abbrev pub MayLook : Bool → Act → Bool → Type 0
MayLook looks act.Attach attached = attached ≡ false → looks ≡ true
MayLook looks (act.Stats heap) attached = looks ≡ true
MayLook looks _ attached = ⊤

module _ (looks : Bool) where
  attached_orderly : (attached : Bool) (doing : Doing) → GoesOrderly looks false doing → GoesOrderly looks false (if_attached attached doing)
  attached_orderly true doing goes = goes
  attached_orderly false doing goes = ended_orderly looks answer.Detached false

  judged_orderly : (named : List NamedHeap) (facts : Facts) (tag : Tag) (options : Options) (refused : Option BadRequest) (request : Option Request)
      → GoesAnyhow looks (judged_by named facts tag options refused request)
  judged_orderly named facts tag options (Some kind) request = ended_orderly looks (answer.BadRequest kind)
  judged_orderly named facts tag options None None = ended_orderly looks answer.None
  judged_orderly named facts tag options None (Some request) = serving_orderly looks facts.pools request tag _

  allocating_orderly : (named : List NamedHeap) (facts : Facts) (tag : Tag) (size : ℕ) (options : Options)
      → GoesOrderly looks false (allocating_by named facts tag size options)
  allocating_orderly named facts tag size options =
      judged_orderly named facts tag options (refusal_of size options.align options.bound) facts.request false

  -- the names are read
  reading_orderly : (goes : SharedNames → Doing) → ((names : SharedNames) → GoesOrderly looks false (goes names))
      → GoesOrderly looks false (reading_names goes)
  reading_orderly goes each = then_orderly looks false Deed.ReadNames goes (λ names. tt) each

  heaps_orderly : (facts : Facts) (goes : List NamedHeap → Doing) → ((named : List NamedHeap) → GoesOrderly looks false (goes named))
      → GoesOrderly looks false (by_heaps facts goes)
  heaps_orderly facts goes each =
      reading_orderly (λ names. goes (heaps_in (directory_in facts.pools names))) (λ names. each (heaps_in (directory_in facts.pools names)))

  sized_orderly : (refused : Option BadRequest) (doing : Doing) → GoesOrderly looks false doing → GoesOrderly looks false (if_sized refused doing)
  sized_orderly (Some kind) doing goes = ended_orderly looks (answer.BadRequest kind) false
  sized_orderly None doing goes = goes

  alloc_orderly : (facts : Facts) (tag : Tag) (size : ℕ) (options : Options) → GoesOrderly looks false (allocating_line facts tag size options)
  alloc_orderly facts tag size options = by_choice (is_some options.heap)
    where
      by_choice : (named : Bool) → GoesOrderly looks false
          (if named
          then if_sized (refusal_of size options.align options.bound) (by_heaps facts (λ named. allocating_by named facts tag size options))
          else allocating facts tag size options)
      by_choice true =
          sized_orderly (refusal_of size options.align options.bound) (by_heaps facts (λ named. allocating_by named facts tag size options))
          (heaps_orderly facts (λ named. allocating_by named facts tag size options)
          (λ named. allocating_orderly named facts tag size options))
      by_choice false = allocating_orderly (socket_heaps facts.pools) facts tag size options

  -- an element that is looked for
  going_on_orderly : (found : ℕ → Doing) (otherwise : Doing) → ((address : ℕ) → GoesOrderly looks false (found address))
      → GoesOrderly looks false otherwise → (given : HeapAnswer) → GoesOrderly looks false (going_on found otherwise given)
  going_on_orderly found otherwise goes rest (gives.Address address) = goes address
  going_on_orderly found otherwise goes rest _ = rest

  looking_orderly : (tag : Tag) (found : SearchedHeap → ℕ → Doing)
      → ((place : SearchedHeap) (address : ℕ) → GoesOrderly looks false (found place address)) → (places : List SearchedHeap)
      → GoesOrderly looks false (looking tag found places)
  looking_orderly tag found goes [] = ended_orderly looks answer.NoElement false
  looking_orderly tag found goes (place ∷ places) =
      let rest : GoesOrderly looks false (looking tag found places) = looking_orderly tag found goes places in
      call_orderly looks false place.index (call.Find tag) (going_on (found place) (looking tag found places)) refl (λ given. tt)
      (going_on_orderly (found place) (looking tag found places) (goes place) rest)

  -- a run that was cut is given up, and that is the end
  told_orderly : (heap address : ℕ) (run : Run) (trace : List Done) (given : Answer)
      → Leads (giving_up heap (gives.Pages run)) trace (Doing.Ended given)
      → IsOrderly looks given false (Called heap (call.Cut address) (gives.Pages run) ∷ trace)
  unfolding Leads Goes
  told_orderly heap address run [] given leads = cc
  told_orderly heap address run (done ∷ []) given (none, is, left) =
      subst (λ (done : Done). IsOrderly looks given false (Called heap (call.Cut address) (gives.Pages run) ∷ done ∷ [])) (sym is)
      (tells heap address run (freed_so left))
    where
      freed_so : Doing.Ended given ≡ Doing.Ended answer.Done → given ≡ answer.Done
      freed_so same = cc
  told_orderly heap address run (done ∷ (next ∷ trace)) given (none, is, left) = elim left [ ]

  cut_orderly : (heap address : ℕ) (found : HeapAnswer) (trace : List Done) (given : Answer)
      → Leads (giving_up heap found) trace (Doing.Ended given) → IsOrderly looks given false (Called heap (call.Cut address) found ∷ trace)
  cut_orderly heap address (gives.Pages run) trace given leads = told_orderly heap address run trace given leads
  cut_orderly heap address found trace given leads =
      goes_on false (Called heap (call.Cut address) found) trace (refl, tt) (ended_orderly looks answer.Done false trace given leads)

  -- an element that is freed
  cuts_orderly : (heap address : ℕ) → GoesOrderly looks false (Doing.Then (Deed.Call heap (call.Cut address)) (giving_up heap))
  unfolding Leads Goes
  cuts_orderly heap address [] given leads = ends false
  cuts_orderly heap address (done ∷ trace) given (found, is, left) =
      subst (λ (done : Done). IsOrderly looks given false (done ∷ trace)) (sym is) (cut_orderly heap address found trace given left)

  cutting_orderly : (place : SearchedHeap) (address : ℕ) → GoesOrderly looks false (cutting place address)
  cutting_orderly place address = by_kind (is_some place.serves) where
    by_kind : (serves : Bool) → GoesOrderly looks false
        (if serves then Doing.Then (Deed.Call place.index (call.Cut address)) (giving_up place.index) else Doing.Ended answer.Done)
    by_kind true = cuts_orderly place.index address
    by_kind false = ended_orderly looks answer.Done false

  freed_orderly : (place : SearchedHeap) (address : ℕ) (given : HeapAnswer) → GoesOrderly looks false (freed place address given)
  freed_orderly place address gives.Done = cutting_orderly place address
  freed_orderly place address gives.IsZone = ended_orderly looks answer.IsZone false
  freed_orderly place address _ = ended_orderly looks answer.NoElement false

  freeing_orderly : (place : SearchedHeap) (address : ℕ) → GoesOrderly looks false (freeing place address)
  freeing_orderly place address =
      call_orderly looks false place.index (call.Free address false) (freed place address) refl (λ given. tt) (freed_orderly place address)

  -- one that is resized
  resized_orderly : (given : HeapAnswer) → GoesOrderly looks false (resized given)
  resized_orderly gives.Yes = ended_orderly looks answer.Yes false
  resized_orderly _ = ended_orderly looks answer.No false

  resizing_orderly : (zone : Bool) (size : ℕ) (place : SearchedHeap) (address : ℕ) → GoesOrderly looks false (resizing zone size place address)
  resizing_orderly true size place address = ended_orderly looks answer.IsZone false
  resizing_orderly false size place address =
      call_orderly looks false place.index (call.Resize address size) resized refl (λ given. tt) resized_orderly

  made_orderly : (who : ℕ) (facts : Facts) (goes : Tag → List SearchedHeap → Doing)
      → ((tag : Tag) (places : List SearchedHeap) → GoesOrderly looks false (goes tag places))
      → (maker : Option Maker) → GoesOrderly looks false (on_made who facts goes maker)
  made_orderly who facts goes orderly None = ended_orderly looks answer.NoElement false
  made_orderly who facts goes orderly (Some maker) = by_owner (is_own_maker who maker)
    where
      by_owner : (own : Bool) → GoesOrderly looks false
          (if own then goes (tag_made who maker) (option_to_list facts.own_heap)
          else by_heaps facts (λ named. goes (tag_made who maker) (places_of named)))
      by_owner true = orderly (tag_made who maker) (option_to_list facts.own_heap)
      by_owner false =
          heaps_orderly facts (λ named. goes (tag_made who maker) (places_of named)) (λ named. orderly (tag_made who maker) (places_of named))

  -- a dump, and an attach
  statistics_orderly : (given : HeapAnswer) → GoesOrderly looks false (with_statistics given)
  statistics_orderly (gives.Statistics stats) = ended_orderly looks (answer.Statistics stats) false
  statistics_orderly _ = ended_orderly looks answer.NotFound false

  dumping_orderly : (heap : Option NamedHeap) → GoesOrderly looks false (dumping heap)
  dumping_orderly None = ended_orderly looks answer.NotFound false
  dumping_orderly (Some heap) = call_orderly looks false heap.index call.Stats with_statistics refl (λ given. tt) statistics_orderly

  -- statistics that were published, of a heap that is looked up by its name
  published_orderly : looks ≡ true → (heap : Option NamedHeap) → GoesOrderly looks false (reading_stats heap)
  published_orderly may None = ended_orderly looks answer.NotFound false
  published_orderly may (Some heap) =
      then_orderly looks false (Deed.ReadStats heap.index) (λ counted. Doing.Ended (answer.Statistics counted.stats)) (λ counted. may)
      (λ counted. ended_orderly looks (answer.Statistics counted.stats) false)

  attached_with_orderly : (records : ℕ) (caught : Caught) → GoesOrderly looks true (attached_with records caught)
  attached_with_orderly records caught.Done = ended_orderly looks (answer.Records records) true
  attached_with_orderly records (caught.Refused row number) = ended_orderly looks (answer.Refused number) true
  attached_with_orderly records (caught.Elsewhere row number got) = ended_orderly looks (answer.Refused number) true

  attaching_orderly : (attached : Bool) → (attached ≡ false → looks ≡ true) → GoesOrderly looks false (attaching attached)
  attaching_orderly true may = ended_orderly looks answer.Already false
  attaching_orderly false may =
      then_orderly looks false Deed.Look (λ records. Doing.Then (Deed.CatchUp records) (attached_with records)) (λ records. may refl)
      (λ records.
      then_orderly looks true (Deed.CatchUp records) (attached_with records) (λ ended. may refl) (attached_with_orderly records))

  -- a reservation under the names that are handed
  reserving_orderly : (facts : Facts) (line : Line) (text : List ℕ) (len : ℕ) (options : Options) (names : SharedNames)
      → GoesOrderly looks false (reserving_line facts line text len options names)
  reserving_orderly facts line text len options names = by_fault (zone_fault (zones_in names) text len options)
    where
      by_fault : (fault : Option ZoneFault) → GoesOrderly looks false (reserving (directory_in facts.pools names) facts line text len options fault)
      by_fault (Some fault) = ended_orderly looks (zone_answer fault) false
      by_fault None =
          zone_orderly looks (directory_in facts.pools names) text len
          (allocating_by (heaps_in (directory_in facts.pools names)) facts (zone_tag line facts.maker) len options)
          (allocating_orderly (heaps_in (directory_in facts.pools names)) facts (zone_tag line facts.maker) len options)

  -- each line goes so that may look where it does
  pub line_orderly : (line : Line) (does : Act) (facts : Facts) → MayLook looks does facts.attached
      → GoesOrderly looks false (doing_of line does facts)
  unfolding doing_of
  line_orderly line (act.Alloc label size options) facts may =
      attached_orderly facts.attached (allocating_line facts (tag_of line) size options) (alloc_orderly facts (tag_of line) size options)
  line_orderly line (act.Free label) facts may =
      attached_orderly facts.attached (on_made line.participant facts (λ tag. looking tag freeing) facts.maker)
      (made_orderly line.participant facts (λ tag. looking tag freeing) (λ tag. looking_orderly tag freeing freeing_orderly) facts.maker)
  line_orderly line (act.Resize label size) facts may =
      attached_orderly facts.attached (if_sized (resize_refusal size) (on_made line.participant facts (resizing_to size) facts.maker))
      (sized_orderly (resize_refusal size) (on_made line.participant facts (resizing_to size) facts.maker)
      (made_orderly line.participant facts (resizing_to size)
      (λ tag. looking_orderly tag (resizing tag.zone (rounded_size size)) (resizing_orderly tag.zone (rounded_size size)))
      facts.maker))
  line_orderly line (act.Zone name len options) facts may =
      attached_orderly facts.attached (reading_names (reserving_line facts line name.text len options))
      (reading_orderly (reserving_line facts line name.text len options) (reserving_orderly facts line name.text len options))
  line_orderly line (act.Lookup name) facts may =
      attached_orderly facts.attached (reading_names (λ names. found_zone (zone_named name.text names)))
      (reading_orderly (λ names. found_zone (zone_named name.text names)) (λ names. lookup_orderly looks (zone_named name.text names)))
  line_orderly line (act.Unzone name) facts may =
      attached_orderly facts.attached (reading_names (λ names. freeing_zone (searched_heap_at facts.pools) (zone_named name.text names)))
      (reading_orderly (λ names. freeing_zone (searched_heap_at facts.pools) (zone_named name.text names))
      (λ names. unzone_orderly looks (searched_heap_at facts.pools) cutting_orderly (zone_named name.text names)))
  line_orderly line act.Attach facts may = attaching_orderly facts.attached may
  line_orderly line act.Detach facts may =
      attached_orderly facts.attached (leaving_all facts.chunks) (leave_orderly looks facts.chunks)
  line_orderly line (act.Heap name) facts may =
      attached_orderly facts.attached (reading_names (λ names. making_heap name.text (directory_in facts.pools names)))
      (reading_orderly (λ names. making_heap name.text (directory_in facts.pools names))
      (λ names. heap_orderly looks name.text (directory_in facts.pools names)))
  line_orderly line (act.Unheap name) facts may =
      attached_orderly facts.attached (reading_names (λ names. destroying_heap (meant_by name.text (directory_in facts.pools names))))
      (reading_orderly (λ names. destroying_heap (meant_by name.text (directory_in facts.pools names)))
      (λ names. unheap_orderly looks (meant_by name.text (directory_in facts.pools names))))
  line_orderly line (act.Add heap addr len page) facts may =
      attached_orderly facts.attached (reading_names (λ names. adding_memory addr len page (meant_by heap.text (directory_in facts.pools names))))
      (reading_orderly (λ names. adding_memory addr len page (meant_by heap.text (directory_in facts.pools names)))
      (λ names. add_orderly looks addr len page (meant_by heap.text (directory_in facts.pools names))))
  line_orderly line (act.Remove heap addr len) facts may =
      attached_orderly facts.attached (reading_names (λ names. removing_memory addr len (meant_by heap.text (directory_in facts.pools names))))
      (reading_orderly (λ names. removing_memory addr len (meant_by heap.text (directory_in facts.pools names)))
      (λ names. remove_orderly looks addr len (meant_by heap.text (directory_in facts.pools names))))
  line_orderly line (act.Map heap addr len) facts may =
      attached_orderly facts.attached
      (reading_names (λ names. mapping_memory line.participant addr len (meant_in heap.text (directory_in facts.pools names))))
      (reading_orderly (λ names. mapping_memory line.participant addr len (meant_in heap.text (directory_in facts.pools names)))
      (λ names. map_orderly looks line.participant addr len (meant_in heap.text (directory_in facts.pools names))))
  line_orderly line (act.Unmap heap addr len) facts may =
      attached_orderly facts.attached
      (reading_names (λ names. leaving_memory line.participant addr len (meant_in heap.text (directory_in facts.pools names))))
      (reading_orderly (λ names. leaving_memory line.participant addr len (meant_in heap.text (directory_in facts.pools names)))
      (λ names. unmap_orderly looks line.participant addr len (meant_in heap.text (directory_in facts.pools names))))
  line_orderly line (act.Await other lines) facts may = ended_orderly looks answer.Done false
  line_orderly line (act.Dump heap) facts may =
      attached_orderly facts.attached (by_heaps facts (λ named. dumping (find (has_name heap.text) named)))
      (heaps_orderly facts (λ named. dumping (find (has_name heap.text) named)) (λ named. dumping_orderly (find (has_name heap.text) named)))
  line_orderly line (act.Watch name) facts may =
      attached_orderly facts.attached (Doing.Ended (watching facts.watchers name.text))
      (ended_orderly looks (watching facts.watchers name.text) false)
  line_orderly line (act.Unwatch name) facts may =
      attached_orderly facts.attached (Doing.Ended (unwatching facts.watchers name.text))
      (ended_orderly looks (unwatching facts.watchers name.text) false)
  line_orderly line (act.Limit name socket bytes allow) facts may =
      attached_orderly facts.attached (Doing.Ended (limiting facts.validators name.text socket))
      (ended_orderly looks (limiting facts.validators name.text socket) false)
  line_orderly line (act.Unlimit name socket) facts may =
      attached_orderly facts.attached (Doing.Ended (unlimiting facts.validators name.text socket))
      (ended_orderly looks (unlimiting facts.validators name.text socket) false)
  line_orderly line (act.Stats heap) facts may =
      attached_orderly facts.attached (by_heaps facts (λ named. reading_stats (find (has_name heap.text) named)))
      (heaps_orderly facts (λ named. reading_stats (find (has_name heap.text) named))
      (λ named. published_orderly may (find (has_name heap.text) named)))

-- so does each, whether it looks or not
pub line_in_order : (line : Line) (does : Act) (facts : Facts) → GoesOrderly true false (doing_of line does facts)
line_in_order line does facts = line_orderly true line does facts (anyhow does facts.attached)
  where
    anyhow : (does : Act) (attached : Bool) → MayLook true does attached
    anyhow act.Attach attached = λ out. refl
    anyhow (act.Stats heap) attached = refl
    anyhow _ attached = tt
