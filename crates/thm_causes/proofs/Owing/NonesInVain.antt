-- A line that allocates and is answered that there is no memory: each of its heaps found no address, and each of its asks was granted
-- nothing. It walks over what such a line does as a tree.
use Rattle.std.proofs.Common.{◌≡◌, ◌==◌, ℕ, Bool, true, false, List, [], ◌∷◌, ◌++◌, append-nil, Option, Some, None, is_some, if◌then◌else◌, refl, sym, ap, subst, ◌∙◌}
use Rattle.std.specs.List.{All, list_any}
use Rattle.std.proofs.lemmas.Bool.{or_parts}
use Rattle.std.proofs.lemmas.List.Elements.{All-cons, All-filter, All-head, All-nil, All-tail}
use Rattle.hp_base.specs.Requests.{refusal_of}
use Rattle.hp_base.specs.declared.pool_line.PoolLine.{PoolLine}
use Rattle.hp_base.specs.declared.request.BadRequest.{BadRequest}
use Rattle.hp_base.specs.declared.request.Request.{Request}
use Rattle.hp_base.specs.declared.row.Run.{Run}
use Rattle.hp_base.specs.declared.tag.Tag.{Tag}
use Rattle.hp_heap.specs.declared.entry.HeapAnswer.{HeapAnswer}
use Rattle.hp_heap.specs.declared.entry.HeapAnswer.TheVariants as gives
use Rattle.hp_heap.specs.declared.entry.HeapCall.TheVariants as call
use Rattle.hp_script.specs.declared.answer.Answer.{Answer}
use Rattle.hp_script.specs.declared.answer.Answer.TheVariants as answer
use Rattle.hp_script.specs.declared.line.Act.{Act}
use Rattle.hp_script.specs.declared.line.Act.TheVariants as act
use Rattle.hp_script.specs.declared.line.Line.{Line}
use Rattle.hp_script.specs.declared.options.Options.{Options}
use Rattle.hp_script.specs.Part.{Part}
use Rattle.hp_script.specs.declared.workload.Workload.{Workload}
use Rattle.hp_proc.specs.LineTrees.{allocating_line, doing_of, reserving_line}
use Rattle.hp_proc.specs.Allocating.{asking, first_flags, growing, serving, trying, unless_found, with_flags, with_run}
use Rattle.hp_proc.specs.Courses.{Allocates, Standing, after_line}
use Rattle.hp_proc.specs.Freeing.{if_sized}
use Rattle.hp_proc.specs.Doing.{Deed, Doing, Done, Goes, Leads}
use Rattle.hp_proc.specs.Doing.Done.{Asked}
use Rattle.hp_proc.specs.Heaps.{NamedHeap, page_sizes_for, socket_heaps}
use Rattle.hp_proc.specs.LinesDone.{AreDone, Course, IsNoneUngranted, courses_of, is_grant, opening_standing}
use Rattle.hp_proc.specs.Lines.{Facts, allocating, allocating_by, by_heaps, if_attached, judged_by, reading_names, tag_of}
use Rattle.hp_proc.specs.SharedNames.{SharedNames, directory_in, heaps_in, zones_in}
use Rattle.hp_proc.specs.ZoneLines.{continued, put_zone, reserving, zone_answer, zone_fault, zone_tag}
use Rattle.hp_serve.specs.declared.pages_asked.PagesAsked.{PagesAsked}
use Rattle.hp_zone.specs.Directory.{PlainDirectory}
use Rattle.hp_zone.specs.declared.fault.ZoneFault.{ZoneFault}
use Rattle.thm_run.proofs.TracesTold.OrderlyZones.{continued_leads}
use Rattle.thm_causes.specs.Nones.{CameToNothing, IsNoAddress, NothingWasFound, NonesFoundNothing}

-- each trace through a tree to the answer that there is no memory, in which nothing is granted, came to nothing
abbrev InVain : Doing → Type 0
InVain doing = (trace : List Done) → Leads doing trace (Doing.Ended answer.None) → list_any is_grant trace ≡ false → All CameToNothing trace

ended_in_vain : (last : Answer) → InVain (Doing.Ended last)
unfolding Leads Goes
ended_in_vain last [] leads none = All-nil CameToNothing
ended_in_vain last (done ∷ trace) leads none = elim leads [ ]

-- a line that is answered an address is not answered that there is no memory
not_none : (address : ℕ) (trace : List Done) → Leads (Doing.Ended (answer.Address address)) trace (Doing.Ended answer.None) → ⊥
unfolding Leads Goes
not_none address [] leads = cc
not_none address (done ∷ trace) leads = leads

-- what is left once a heap was searched is the rest of the line, unless it found an address
found_none : (rest : Doing) (found : HeapAnswer) (trace : List Done) → Leads (unless_found rest found) trace (Doing.Ended answer.None)
    → IsNoAddress found × Leads rest trace (Doing.Ended answer.None)
found_none rest (gives.Address address) trace leads = absurd (not_none address trace leads)
found_none rest gives.Nothing trace leads = (λ address same. cc, leads)
found_none rest gives.Done trace leads = (λ address same. cc, leads)
found_none rest gives.NotAnElement trace leads = (λ address same. cc, leads)
found_none rest gives.IsZone trace leads = (λ address same. cc, leads)
found_none rest gives.Yes trace leads = (λ address same. cc, leads)
found_none rest gives.No trace leads = (λ address same. cc, leads)
found_none rest (gives.Pages run) trace leads = (λ address same. cc, leads)
found_none rest (gives.Statistics stats) trace leads = (λ address same. cc, leads)

searched_in_vain : (heap : ℕ) (request : Request) (tag : Tag) (rest : Doing) → InVain rest
    → InVain (Doing.Then (Deed.Call heap (call.Alloc request tag)) (unless_found rest))
unfolding Leads Goes
searched_in_vain heap request tag rest nothing_found [] leads none = All-nil CameToNothing
searched_in_vain heap request tag rest nothing_found (done ∷ trace) (found, is, left) none =
    let is_none = found_none rest found trace left in
    All-cons CameToNothing done trace (subst CameToNothing (sym is) is_none.0)
    (nothing_found trace is_none.1 (or_parts (is_grant done) (list_any is_grant trace) none).1)

granted_not : (asked : PagesAsked) (run : Run) (done : Done) → done ≡ Asked asked (Some run) → is_grant done ≡ false → ⊥
granted_not asked run done is none = true_not (sym (ap is_grant is) ∙ none) where
  true_not : true ≡ false → ⊥
  true_not same = cc

-- an ask is granted nothing, and the line goes on
asked_in_vain : (asked : PagesAsked) (tag : Tag) (rest : Doing) → InVain rest
    → InVain (Doing.Then (Deed.Ask asked) (with_run asked.heap asked.request tag rest))
unfolding Leads Goes
asked_in_vain asked tag rest nothing_found [] leads none = All-nil CameToNothing
asked_in_vain asked tag rest nothing_found (done ∷ trace) (None, is, left) none =
    All-cons CameToNothing done trace (subst CameToNothing (sym is) refl)
    (nothing_found trace left (or_parts (is_grant done) (list_any is_grant trace) none).1)
asked_in_vain asked tag rest nothing_found (done ∷ trace) (Some run, is, left) none =
    absurd (granted_not asked run done is (or_parts (is_grant done) (list_any is_grant trace) none).0)

asking_in_vain : (heap socket : ℕ) (request : Request) (tag : Tag) (otherwise : Doing) (pages : List ℕ) → InVain otherwise
    → InVain (asking heap socket request tag otherwise pages)
asking_in_vain heap socket request tag otherwise [] nothing_found = nothing_found
asking_in_vain heap socket request tag otherwise (page ∷ pages) nothing_found =
    asked_in_vain (record { heap = heap; socket = socket; page = page; request = request }) tag
    (asking heap socket request tag otherwise pages) (asking_in_vain heap socket request tag otherwise pages nothing_found)

growing_in_vain : (pools : List PoolLine) (heap : NamedHeap) (serves : Option ℕ) (request : Request) (tag : Tag) (otherwise : Doing)
    → InVain otherwise → InVain (growing pools heap serves request tag otherwise)
growing_in_vain pools heap None request tag otherwise nothing_found = nothing_found
growing_in_vain pools heap (Some socket) request tag otherwise nothing_found =
    asking_in_vain heap.index socket request tag otherwise (page_sizes_for pools socket request.flags) nothing_found

trying_in_vain : (pools : List PoolLine) (request : Request) (tag : Tag) (heaps : List NamedHeap) → InVain (trying pools request tag heaps)
trying_in_vain pools request tag [] = ended_in_vain answer.None
trying_in_vain pools request tag (heap ∷ heaps) =
    searched_in_vain heap.index (with_flags (first_flags heap.serves request.flags) request) tag
    (growing pools heap heap.serves request tag (trying pools request tag heaps))
    (growing_in_vain pools heap heap.serves request tag (trying pools request tag heaps) (trying_in_vain pools request tag heaps))

serving_in_vain : (pools : List PoolLine) (request : Request) (tag : Tag) (heaps : List NamedHeap) → InVain (serving pools request tag heaps)
serving_in_vain pools request tag [] = ended_in_vain answer.NoHeap
serving_in_vain pools request tag (heap ∷ heaps) = trying_in_vain pools request tag (heap ∷ heaps)

judged_in_vain : (named : List NamedHeap) (facts : Facts) (tag : Tag) (options : Options) (refused : Option BadRequest) (request : Option Request)
    → InVain (judged_by named facts tag options refused request)
judged_in_vain named facts tag options (Some kind) request = ended_in_vain (answer.BadRequest kind)
judged_in_vain named facts tag options None None = ended_in_vain answer.None
judged_in_vain named facts tag options None (Some request) = serving_in_vain facts.pools request tag _

allocating_in_vain : (named : List NamedHeap) (facts : Facts) (tag : Tag) (size : ℕ) (options : Options)
    → InVain (allocating_by named facts tag size options)
allocating_in_vain named facts tag size options =
    judged_in_vain named facts tag options (refusal_of size options.align options.bound) facts.request

attached_in_vain : (attached : Bool) (doing : Doing) → InVain doing → InVain (if_attached attached doing)
attached_in_vain true doing nothing_found = nothing_found
attached_in_vain false doing nothing_found = ended_in_vain answer.Detached

-- the names are read first
reading_in_vain : (goes : SharedNames → Doing) → ((names : SharedNames) → InVain (goes names)) → InVain (reading_names goes)
unfolding Leads Goes
reading_in_vain goes each [] leads none = All-nil CameToNothing
reading_in_vain goes each (done ∷ trace) (names, is, left) none =
    All-cons CameToNothing done trace (subst CameToNothing (sym is) tt)
    (each names trace left (or_parts (is_grant done) (list_any is_grant trace) none).1)

sized_in_vain : (refused : Option BadRequest) (doing : Doing) → InVain doing → InVain (if_sized refused doing)
sized_in_vain (Some kind) doing nothing_found = ended_in_vain (answer.BadRequest kind)
sized_in_vain None doing nothing_found = nothing_found

named_in_vain : (facts : Facts) (tag : Tag) (size : ℕ) (options : Options) (named : Bool)
    → InVain
    (if named
    then if_sized (refusal_of size options.align options.bound) (by_heaps facts (λ named. allocating_by named facts tag size options))
    else allocating facts tag size options)
named_in_vain facts tag size options true =
    sized_in_vain (refusal_of size options.align options.bound) (by_heaps facts (λ named. allocating_by named facts tag size options))
    (reading_in_vain (λ names. allocating_by (heaps_in (directory_in facts.pools names)) facts tag size options)
    (λ names. allocating_in_vain (heaps_in (directory_in facts.pools names)) facts tag size options))
named_in_vain facts tag size options false = allocating_in_vain (socket_heaps facts.pools) facts tag size options

allocation_in_vain : (line : Line) (label : Part) (size : ℕ) (options : Options) (facts : Facts)
    → InVain (doing_of line (act.Alloc label size options) facts)
unfolding doing_of
allocation_in_vain line label size options facts =
    attached_in_vain facts.attached (allocating_line facts (tag_of line) size options)
    (named_in_vain facts (tag_of line) size options (is_some options.heap))

-- A MEMZONE

-- a reservation that is answered that there is no memory put no memzone
put_none : (plain : PlainDirectory) (text : List ℕ) (len : ℕ) (last : Option ℕ) (mid : Answer) (back : List Done)
    → Leads (put_zone plain text len last mid) back (Doing.Ended answer.None) → (mid ≡ answer.None) × (back ≡ [])
unfolding Leads Goes
put_none plain text len (Some heap) (answer.Address address) [] leads = cc
put_none plain text len (Some heap) (answer.Address address) (done ∷ []) (none, is, left) = cc
put_none plain text len (Some heap) (answer.Address address) (done ∷ (next ∷ back)) (none, is, left) = elim left [ ]
put_none plain text len last mid back leads = by_end back leads
  where
    by_end : (back : List Done) → Leads (Doing.Ended mid) back (Doing.Ended answer.None) → (mid ≡ answer.None) × (back ≡ [])
    by_end [] ended =
        let same : answer.None ≡ mid = cc in
        (sym same, refl)
    by_end (done ∷ back) ended = elim ended [ ]

reserved_in_vain : (plain : PlainDirectory) (text : List ℕ) (len : ℕ) (allocating : Doing) → InVain allocating
    → InVain (continued (put_zone plain text len) None allocating)
reserved_in_vain plain text len allocating nothing_found trace leads none =
    let parts = continued_leads (put_zone plain text len) None allocating trace answer.None leads in
    let last = put_none plain text len parts.last parts.mid parts.back parts.rest in
    let all : trace ≡ parts.front = parts.is ∙ ap (λ (back : List Done). parts.front ++ back) last.1 ∙ append-nil parts.front in
    subst (All CameToNothing) (sym all)
    (nothing_found parts.front
    (subst (λ (mid : Answer). Leads allocating parts.front (Doing.Ended mid)) last.0 parts.first)
    (sym (ap (list_any is_grant) all) ∙ none))

reserving_in_vain : (facts : Facts) (line : Line) (text : List ℕ) (len : ℕ) (options : Options) (names : SharedNames)
    → InVain (reserving_line facts line text len options names)
reserving_in_vain facts line text len options names = by_fault (zone_fault (zones_in names) text len options)
  where
    by_fault : (fault : Option ZoneFault) → InVain (reserving (directory_in facts.pools names) facts line text len options fault)
    by_fault (Some fault) = ended_in_vain (zone_answer fault)
    by_fault None =
        reserved_in_vain (directory_in facts.pools names) text len
        (allocating_by (heaps_in (directory_in facts.pools names)) facts (zone_tag line facts.maker) len options)
        (allocating_in_vain (heaps_in (directory_in facts.pools names)) facts (zone_tag line facts.maker) len options)

reservation_in_vain : (line : Line) (name : Part) (len : ℕ) (options : Options) (facts : Facts)
    → InVain (doing_of line (act.Zone name len options) facts)
unfolding doing_of
reservation_in_vain line name len options facts =
    attached_in_vain facts.attached (reading_names (reserving_line facts line name.text len options))
    (reading_in_vain (reserving_line facts line name.text len options) (reserving_in_vain facts line name.text len options))

-- so it is with each line that allocates
act_in_vain : (line : Line) (does : Act) (facts : Facts) → Allocates does → InVain (doing_of line does facts)
act_in_vain line (act.Alloc label size options) facts allocates = allocation_in_vain line label size options facts
act_in_vain line (act.Zone name len options) facts allocates = reservation_in_vain line name len options facts
act_in_vain line does facts allocates = absurd allocates

-- and of which nothing was granted
pub line_in_vain : (course : Course) (facts : Facts) → Leads (doing_of course.line course.line.act facts) course.trace (Doing.Ended course.answer)
    → IsNoneUngranted course → NothingWasFound course
line_in_vain course facts leads ungranted allocates none_is =
    act_in_vain course.line course.line.act facts allocates course.trace
    (subst (λ given. Leads (doing_of course.line course.line.act facts) course.trace (Doing.Ended given)) none_is leads)
    (ungranted none_is)

lines_in_vain : (workload : Workload) (standing : Standing) (courses : List Course) → AreDone workload standing courses
    → All IsNoneUngranted courses → All NothingWasFound courses
lines_in_vain workload standing [] done ungranted = All-nil NothingWasFound
lines_in_vain workload standing (course ∷ courses) done ungranted =
    All-cons NothingWasFound course courses
    (line_in_vain course done.0.facts done.0.does (All-head IsNoneUngranted course courses ungranted))
    (lines_in_vain workload (after_line course.line course.answer course.trace standing) courses done.1
    (All-tail IsNoneUngranted course courses ungranted))

pub nones_are_in_vain : NonesFoundNothing
nones_are_in_vain workload answers heaps segs tables end who below =
    lines_in_vain workload (opening_standing workload who) (courses_of who end.courses) (end.done who below)
    (All-filter (λ (course : Course). course.line.participant == who) IsNoneUngranted end.courses end.none)
