-- The heaps, the plan and the hall with which a run begins.
use Rattle.std.proofs.Common.{◌≡◌, ◌∙◌, ℕ, zero, suc, ◌+◌, ◌<◌, ◌≤◌, Bool, false, cond, List, [], ◌∷◌, ◌++◌, filter, get_or, get_or-take, length, length-take-le, take, Some, Result, Ok, Err, IfOk, replicate, sym, ap, subst, arith, add-one}
use Rattle.std.specs.List.{All, AllPairs, range_with_len, slice_get}
use Rattle.std.specs.List.Sorted.{IsStrictlyIncreasing}
use Rattle.std.proofs.lemmas.List.{get_or_default, length-replicate}
use Rattle.std.proofs.lemmas.List.Elements.{All-cons, All-filter, All-get_or, All-nil, filter-append}
use Rattle.std.proofs.lemmas.List.Folds.{list_any_none}
use Rattle.std.proofs.lemmas.List.FromFn.{get_or-range_with_len, length-range_with_len}
use Rattle.std.proofs.lemmas.List.Kept.{IsStrictlyIncreasing-filter}
use Rattle.std.proofs.lemmas.Option.{get_or_from_slice_get, same_Some, slice_get_within}
use Rattle.hp_base.specs.Plans.{IsOtherEntry, has_named, names_same}
use Rattle.hp_base.specs.declared.limits.TheConstants.{MAX_HEAPS}
use Rattle.hp_base.specs.declared.plan_entry.PlanEntry.{PlanEntry}
use Rattle.hp_base.specs.declared.pool_line.PoolLine.{PoolLine}
use Rattle.hp_heap.specs.History.{HeapView, IsSound, opening_of, replay}
use Rattle.hp_heap.specs.PlainHeap.{PlainHeap, opening_heap}
use Rattle.hp_heap.specs.declared.entry.Entry.{Entry}
use Rattle.hp_script.specs.declared.workload.Workload.{Workload}
use Rattle.hp_plain.specs.HallSteps.{opening_hall}
use Rattle.hp_plain.specs.HallView.{HallView}
use Rattle.hp_plain.specs.Opening.{MayOpenWith, OpensWith}
use Rattle.hp_plain.proofs.FirstHall.{new_opens}
use Rattle.hp_plain.proofs.FirstNames.{heaps_agree}
use Rattle.hp_hall.specs.Own.{after_ack}
use Rattle.hp_segs.specs.SegsView.{SegsView}
use Rattle.hp_proc.specs.Heaps.{names_socket, sockets_of}
use Rattle.hp_solo.specs.Solo.{SoloView, nobody}
use Rattle.thm_run.specs.SoFar.{AreFirstHeaps, AreSoundNames, first_names, first_segs}
use Rattle.thm_run.proofs.RunFacts.Opens.{few_sockets}
use Rattle.hp_zone.specs.Directory.{DirectoryView, MayOpen}
use Rattle.hp_zone.specs.Zones.{ZonesView}
use Rattle.hp_zone.specs.declared.limits.TheConstants.{FIRST_EXTERNAL_SOCKET}
use Rattle.hp_zone.specs.declared.names.Names.{Names as NamesView}
use Rattle.hp_run.specs.Opening.{IsEmptyHall, IsFirstHeap}

range_more : (a n j : ℕ) → a + n ≡ j → range_with_len a (suc n) ≡ range_with_len a n ++ j ∷ []
range_more a zero j is = ap (λ k. k ∷ []) (omega (arith, is))
range_more a (suc n) j is = ap (λ rest. a ∷ rest) (range_more (a + 1) n j (omega (arith, is)))

-- numbers that follow each other rise, and are below where they end
range_rises : (a n : ℕ) → IsStrictlyIncreasing (range_with_len a n)
range_rises a n k within =
    let long = length-range_with_len a n in
    omega (arith, get_or-range_with_len a n k 0 (omega (arith, within, long)), get_or-range_with_len a n (k + 1) 0 (omega (arith, within, long)))

range_low : (a n : ℕ) → a + n ≤ FIRST_EXTERNAL_SOCKET → All (λ (number : ℕ). number < FIRST_EXTERNAL_SOCKET) (range_with_len a n)
range_low a zero below = All-nil (λ (number : ℕ). number < FIRST_EXTERNAL_SOCKET)
range_low a (suc n) below =
    All-cons (λ (number : ℕ). number < FIRST_EXTERNAL_SOCKET) a (range_with_len (a + 1) n) (omega arith) (range_low (a + 1) n (omega arith))

-- the named sockets below one number more
pub named_more : (pools : List PoolLine) (socket : ℕ) (named : Bool) → names_socket pools socket ≡ named
    → filter (names_socket pools) (range_with_len 0 (socket + 1))
    ≡ filter (names_socket pools) (range_with_len 0 socket) ++ cond named (socket ∷ []) []
named_more pools socket named is =
    ap (λ n. filter (names_socket pools) (range_with_len 0 n)) (add-one socket)
    ∙ (ap (filter (names_socket pools)) (range_more 0 socket socket (omega arith))
    ∙ (filter-append (names_socket pools) (range_with_len 0 socket) (socket ∷ [])
    ∙ ap (λ b. filter (names_socket pools) (range_with_len 0 socket) ++ cond b (socket ∷ []) []) is))

-- heaps before their first call, by index from a number on
abbrev pub AreOpened : List ℕ → ℕ → List HeapView → Type 0
AreOpened sockets from [] = Unit {0}
AreOpened sockets from (heap ∷ heaps) = IsFirstHeap from (slice_get sockets from) heap × AreOpened sockets (from + 1) heaps

-- one heap more
pub opened_push : (sockets : List ℕ) (from index : ℕ) (heaps : List HeapView) (heap : HeapView) → from + length heaps ≡ index
    → AreOpened sockets from heaps → IsFirstHeap index (slice_get sockets index) heap → AreOpened sockets from (heaps ++ heap ∷ [])
opened_push sockets from index [] heap is are first =
    let same : index ≡ from = omega (arith, is) in
    (subst (λ (n : ℕ). IsFirstHeap n (slice_get sockets n) heap) same first, tt)
opened_push sockets from index (front ∷ heaps) heap is are first =
    (are.0, opened_push sockets (from + 1) index heaps heap (omega (arith, is)) are.1 first)

-- the heap at a place
opened_at : (sockets : List ℕ) (from : ℕ) (heaps : List HeapView) (place : ℕ) (heap : HeapView) → AreOpened sockets from heaps
    → slice_get heaps place ≡ Some heap → IsFirstHeap (from + place) (slice_get sockets (from + place)) heap
opened_at sockets from [] place heap are is = cc
opened_at sockets from (front ∷ heaps) zero heap are is =
    let at : from ≡ from + 0 = omega arith in
    subst (λ (n : ℕ). IsFirstHeap n (slice_get sockets n) heap) at
    (subst (λ (h : HeapView). IsFirstHeap from (slice_get sockets from) h) (same_Some front heap is) are.0)
opened_at sockets from (front ∷ heaps) (suc place) heap are is =
    let at : from + 1 + place ≡ from + suc place = omega arith in
    subst (λ (n : ℕ). IsFirstHeap n (slice_get sockets n) heap) at (opened_at sockets (from + 1) heaps place heap are.1 is)

first_at : (sockets : List ℕ) (heaps : List HeapView) → AreOpened sockets 0 heaps → (place : ℕ) (heap : HeapView)
    → slice_get heaps place ≡ Some heap → IsFirstHeap place (slice_get sockets place) heap
first_at sockets heaps are place heap is =
    let at : 0 + place ≡ place = omega arith in
    subst (λ (n : ℕ). IsFirstHeap n (slice_get sockets n) heap) at (opened_at sockets 0 heaps place heap are is)

all_sound : (sockets : List ℕ) (from : ℕ) (heaps : List HeapView) → AreOpened sockets from heaps → All IsSound heaps
all_sound sockets from [] are = All-nil IsSound
all_sound sockets from (heap ∷ heaps) are = All-cons IsSound heap heaps are.0.sound (all_sound sockets (from + 1) heaps are.1)

-- all of them are the heaps of a workload before its first line
pub first_all : (workload : Workload) (heaps : List HeapView) → AreOpened (sockets_of workload.pools.items) 0 heaps
    → length heaps ≡ MAX_HEAPS → AreFirstHeaps workload heaps
first_all workload heaps are count =
    let at = first_at (sockets_of workload.pools.items) heaps are in
    record {
      in_order = record { count = count; index = λ number heap is. ap (λ (plain : PlainHeap). plain.index) (at number heap is).plain };
      unused = λ number heap is. (at number heap is).history;
      each = λ place heap is. record {
        index = ap (λ (plain : PlainHeap). plain.index) (at place heap is).plain;
        serves = ap (λ (plain : PlainHeap). plain.serves) (at place heap is).plain;
      };
      sound = all_sound (sockets_of workload.pools.items) 0 heaps are;
    }

-- they are as they opened
first_plain : (workload : Workload) (heaps : List HeapView) → AreFirstHeaps workload heaps → (index : ℕ) (heap : HeapView)
    → slice_get heaps index ≡ Some heap → heap.plain ≡ opening_heap index (slice_get (sockets_of workload.pools.items) index)
first_plain workload heaps first index heap there =
    let its = first.each index heap there in
    let sound : IsSound heap =
    subst IsSound (get_or_from_slice_get heaps index heap heap there)
    (All-get_or IsSound heaps index heap (slice_get_within heaps index heap there) first.sound) in
    sound.stands.left ∙ ap (λ (history : List Entry). replay (opening_of heap.plain) history) (first.unused index heap there)
    ∙ ap (λ (n : ℕ). opening_heap n heap.plain.serves) its.index ∙ ap (opening_heap index) its.serves

-- an entry of a plan names none that an earlier one names
pub not_named : (entries plan : List PlanEntry) (index : ℕ) (other : PlanEntry) → AllPairs IsOtherEntry entries → plan ≡ take index entries
    → index < length entries → has_named plan (get_or entries index other) ≡ false
not_named entries plan index other distinct so_far within =
    let entry : PlanEntry = get_or entries index other in
    ap (λ (plan : List PlanEntry). has_named plan entry) so_far
    ∙ list_any_none (λ (earlier : PlanEntry). names_same earlier entry) (take index entries) (λ i d below.
    let early : i < index = subst (λ (n : ℕ). i < n) (length-take-le index entries (omega (arith, within))) below in
    subst (λ (earlier : PlanEntry). names_same earlier entry ≡ false) (sym (get_or-take index entries i d early))
    (subst (λ (late : PlanEntry). names_same (get_or entries i d) late ≡ false) (get_or_default entries index d other within)
    (distinct i index d early within)))

-- a hall may open with the heaps, the segment value and the names of a workload
pub first_opens : (workload : Workload) (heaps : List HeapView) (segs : SegsView) (names : NamesView) → AreFirstHeaps workload heaps
    → segs ≡ first_segs workload → names ≡ first_names workload → MayOpenWith heaps segs names
first_opens workload heaps segs names first is are =
    new_opens workload.pools.items workload.participants workload.absent heaps segs names is first.unused
    (λ index heap there. ap (λ (plain : PlainHeap). plain.pages) (first_plain workload heaps first index heap there))
    (heaps_agree (sockets_of workload.pools.items) heaps names first.in_order.count (first_plain workload heaps first)
    (ap (λ (n : NamesView). n.heaps) are) (ap (λ (n : NamesView). n.zones) are))

-- a directory may open with the sockets that pool lines name
pub sockets_open : (pools : List PoolLine) → MayOpen (sockets_of pools)
sockets_open pools = record {
  few = few_sockets pools;
  rising = IsStrictlyIncreasing-filter (names_socket pools) (range_with_len 0 32) (range_rises 0 32);
  low = All-filter (names_socket pools) (λ (socket : ℕ). socket < FIRST_EXTERNAL_SOCKET) (range_with_len 0 32) (range_low 0 32 (omega arith));
}

-- names are what their parts are
abbrev named_of : ZonesView → DirectoryView → NamesView
named_of zones heaps = record { zones = zones; heaps = heaps }

pub names_are : (names : NamesView) (zones : ZonesView) (heaps : DirectoryView) → names.zones ≡ zones → names.heaps ≡ heaps
    → names ≡ record { zones = zones; heaps = heaps }
names_are names zones heaps of_zones of_heaps =
    ap (λ (zones : ZonesView). named_of zones names.heaps) of_zones ∙ ap (named_of zones) of_heaps

-- the hall over these values, to which nobody has come yet
pub empty_hall_is : (workload : Workload) (heaps : List HeapView) (segs : SegsView) (names : NamesView) (plain : HallView) (hall : SoloView)
    → AreFirstHeaps workload heaps → segs ≡ first_segs workload → names ≡ first_names workload → AreSoundNames names
    → OpensWith workload.participants heaps segs names plain
    → hall ≡ record { plain = plain; servers = replicate (length plain.owns) nobody } → IsEmptyHall workload hall
empty_hall_is workload heaps segs names plain hall first segs_are named sound opens is =
    let count : length plain.owns ≡ workload.participants =
    ap (λ (hall : HallView). length hall.owns) opens.hall_is ∙ length-replicate workload.participants (after_ack 0) in (
      record {
        held = opens.held;
        first = subst (AreFirstHeaps workload) (sym opens.heaps_are) first;
        names_sound = subst AreSoundNames named sound;
        plain = ap (λ (hall : SoloView). hall.plain) is
            ∙ (opens.hall_is ∙ (ap (λ (segs : SegsView). opening_hall workload.participants opens.held segs names) segs_are
            ∙ ap (opening_hall workload.participants opens.held (first_segs workload)) named));
      },
      ap (λ (hall : SoloView). hall.servers) is ∙ ap (λ (count : ℕ). replicate count nobody) count,
    )

-- what holds of a value that came holds of it by a further fact
pub if_ok : {T E : Type 0} (P Q : T → Type 0) (result : Result T E) → ((value : T) → P value → Q value) → IfOk result P → IfOk result Q
if_ok P Q (Ok value) more holds = more value holds
if_ok P Q (Err refusal) more holds = tt

-- what two facts say of it holds together
pub if_both : {T E : Type 0} (P Q : T → Type 0) (result : Result T E) → IfOk result P → IfOk result Q
    → IfOk result (λ value. P value × Q value)
if_both P Q (Ok value) one other = (one, other)
if_both P Q (Err refusal) one other = tt

-- and by three
pub if_three : {T E : Type 0} (P Q R S : T → Type 0) (result : Result T E) → ((value : T) → P value → Q value → R value → S value)
    → IfOk result P → IfOk result Q → IfOk result R → IfOk result S
if_three P Q R S (Ok value) more one other last = more value one other last
if_three P Q R S (Err refusal) more one other last = tt
