-- Names agree with the heaps once an allocation in a heap was answered: they do still, or with the memzone that was reserved.
use Rattle.std.proofs.Common.{◌≡◌, ◌∙◌, ℕ, ◌+◌, ◌<◌, ◌==◌, Bool, true, false, cond, eqb, List, [], ◌∷◌, ◌++◌, filter, map, Option, Some, None, refl, ap, sym, subst, arith, inl, inr, ⊎_elim}
use Rattle.std.specs.Prelude.{◌⊎◌}
use Rattle.std.specs.List.{Contains}
use Rattle.std.specs.List.Sorted.{IsPermutation}
use Rattle.std.specs.Option.{option_map}
use Rattle.std.proofs.lemmas.Bool.{cond-false, cond-true, eq-eqb}
use Rattle.std.proofs.lemmas.Bool.Decides.{eqb_tells}
use Rattle.std.proofs.lemmas.List.Elements.{Contains-push, filter-append}
use Rattle.std.proofs.lemmas.Option.{none-some, same_Some}
use Rattle.hp_base.specs.declared.limits.TheConstants.{MAX_HEAPS}
use Rattle.hp_base.specs.declared.request.Request.{Request}
use Rattle.hp_base.specs.declared.tag.Caller.{Caller}
use Rattle.hp_base.specs.declared.tag.Tag.{Tag}
use Rattle.hp_hall.proofs.LeavesNaming.{IsNamedAs, named_freed, named_placed}
use Rattle.hp_hall.proofs.NamesLeft.{call_leaves}
use Rattle.hp_hall.specs.Holding.{AgreeWith, HeapPart}
use Rattle.hp_hall.specs.Named.{IsAllocated}
use Rattle.hp_hall.specs.Naming.{Naming, naming_of, unmarked}
use Rattle.hp_heap.specs.Choice.{chosen}
use Rattle.hp_heap.specs.History.{HeapView, IsCall, entries_of}
use Rattle.hp_heap.specs.Joining.{after_free, busy_at, zone_ranges}
use Rattle.hp_heap.specs.Placing.{after_alloc, allocated}
use Rattle.hp_heap.specs.PlainHeap.{PlainHeap, data_address}
use Rattle.hp_heap.specs.Step.{address_answer, after, answer_of}
use Rattle.hp_heap.specs.Tiling.{IsTiled}
use Rattle.hp_heap.specs.declared.entry.Entry.{Entry}
use Rattle.hp_heap.specs.declared.entry.HeapAnswer.TheVariants as gives
use Rattle.hp_heap.specs.declared.entry.HeapCall.TheVariants as call
use Rattle.hp_script.specs.declared.answer.Answer.{Answer}
use Rattle.hp_script.specs.declared.answer.Answer.TheVariants.{Address}
use Rattle.hp_zone.specs.declared.names.Names.{Names as NamesView}
use Rattle.hp_zone.specs.declared.zone.Zone.{Zone}
use Rattle.hp_proc.specs.NamesInHand.{with_naming}
use Rattle.hp_proc.specs.Progress.{with_hand}
use Rattle.hp_proc.specs.ZonesInHand.{AgreeOnceAnswered, HasFoundNone, HaveZoneMore, parts_with}
use Rattle.hp_proc.proofs.HandFacts.BesideNames.{held_agrees, naming_apart, naming_claims, naming_here}
use Rattle.hp_proc.proofs.ZoneElements.{zone_allocated, zone_freed}
use Rattle.hp_proc.proofs.ZoneNames.{HasGone, HasOneMore, HasPut, gone_agrees, naming_with, put_agrees}

-- WITH A HEAP IN HAND

-- what a heap in hand has of entries makes no difference to the names
part_naming : (who : ℕ) (heap : HeapView) (parts : ℕ → HeapPart) (index : ℕ) → (with_hand who heap parts index).naming ≡ (parts index).naming
part_naming who heap parts index = by_test (eqb index heap.plain.index)
  where
    by_test : (b : Bool) → (cond b (record (parts index) { entries = entries_of who heap.history }) (parts index)).naming ≡ (parts index).naming
    by_test true = refl
    by_test false = refl

part_claims : (who : ℕ) (heap : HeapView) (parts : ℕ → HeapPart) (index : ℕ) → (with_hand who heap parts index).claims ≡ (parts index).claims
part_claims who heap parts index = by_test (eqb index heap.plain.index)
  where
    by_test : (b : Bool) → (cond b (record (parts index) { entries = entries_of who heap.history }) (parts index)).claims ≡ (parts index).claims
    by_test true = refl
    by_test false = refl

module _ (who : ℕ) (heap : HeapView) (parts : ℕ → HeapPart) {names : NamesView} where
  pub into_parts : AgreeWith (with_naming heap parts) names → AgreeWith (parts_with who heap parts) names
  into_parts = held_agrees heap heap parts (with_hand who heap parts) refl refl (part_naming who heap parts) (part_claims who heap parts)

  pub from_parts : AgreeWith (parts_with who heap parts) names → AgreeWith (with_naming heap parts) names
  from_parts =
      held_agrees heap heap (with_hand who heap parts) parts refl refl (λ index. sym (part_naming who heap parts index))
      (λ index. sym (part_claims who heap parts index))

-- the entries of a heap in hand
pub hand_entries : (who : ℕ) (heap : HeapView) (parts : ℕ → HeapPart) (index : ℕ) → index ≡ heap.plain.index
    → (parts_with who heap parts index).entries ≡ entries_of who heap.history
hand_entries who heap parts index same =
    let hand : HeapPart = record (parts index) { entries = entries_of who heap.history } in
    let test : eqb index heap.plain.index ≡ true = eq-eqb index heap.plain.index same in
    by_test (eqb index heap.plain.index) test
  where
    by_test : (b : Bool) → b ≡ true
        → (cond b (record (cond b (record (parts index) { entries = entries_of who heap.history }) (parts index)) {
          naming = option_map (λ (naming : Naming). naming_of heap.plain)
              (cond b (record (parts index) { entries = entries_of who heap.history }) (parts index)).naming;
        }) (cond b (record (parts index) { entries = entries_of who heap.history }) (parts index))).entries ≡ entries_of who heap.history
    by_test true is = refl
    by_test false is = cc

-- what is known of a heap is known so by every other value
one_known : {X Y : Type 0} (f : Y) (found : Option X) (y : Y) → option_map (λ (x : X). f) found ≡ Some y
    → (y ≡ f) × ((g : Y) → option_map (λ (x : X). g) found ≡ Some g)
one_known f None y is = absurd (none-some y is)
one_known f (Some x) y is = (sym (same_Some f y is), λ g. refl)

module _ (heap next : HeapView) (parts : ℕ → HeapPart) (same : next.plain.index ≡ heap.plain.index) (few : heap.plain.index < MAX_HEAPS)
    (names given : NamesView) (agree : AgreeWith (with_naming heap parts) names) where
  abbrev at : ℕ
  at = heap.plain.index

  at_known : (agree.namings at ≡ naming_of heap.plain)
      × ((g : Naming) → option_map (λ (naming : Naming). g) (parts at).naming ≡ Some g)
  at_known =
      one_known (naming_of heap.plain) (parts at).naming (agree.namings at) (sym (naming_here heap parts at refl) ∙ agree.known at few)

  abbrev now : ℕ → Naming
  now = naming_with at (naming_of next.plain) agree.namings

  all_known : (index : ℕ) → index < MAX_HEAPS → (with_naming next parts index).naming ≡ Some (now index)
  all_known index below =
      ⊎_elim
      (λ its.
      let here : index ≡ next.plain.index = its.1 ∙ sym same in
      naming_here next parts index here
      ∙ (ap (λ (index : ℕ). option_map (λ (naming : Naming). naming_of next.plain) (parts index).naming) its.1
      ∙ (at_known.1 (naming_of next.plain)
      ∙ ap Some (sym (cond-true (eqb index at) (naming_of next.plain) (agree.namings index) its.0)))))
      (λ other.
      ap (λ (part : HeapPart). part.naming) (naming_apart next parts index (ap (eqb index) same ∙ other.0))
      ∙ (sym (ap (λ (part : HeapPart). part.naming) (naming_apart heap parts index other.0))
      ∙ (agree.known index below ∙ ap Some (sym (cond-false (eqb index at) (naming_of next.plain) (agree.namings index) other.0)))))
      (eqb_tells index at)

  all_claimed : (index : ℕ) → (with_naming next parts index).claims ≡ Some agree.claims
  all_claimed index = naming_claims next parts index ∙ (sym (naming_claims heap parts index) ∙ agree.claimed index)

  -- a memzone came, and its element with it
  pub more_agrees : (addr : ℕ) → HasPut at addr names given → HasOneMore addr (naming_of heap.plain) (naming_of next.plain)
      → AgreeWith (with_naming next parts) given
  more_agrees addr put more = record {
    namings = now;
    claims = agree.claims;
    known = all_known;
    claimed = all_claimed;
    agreed = put_agrees at addr names given agree.namings agree.claims agree.agreed (naming_of next.plain) few put
        (subst (λ (naming : Naming). HasOneMore addr naming (naming_of next.plain)) (sym at_known.0) more);
  }

  -- one went, and its element with it
  pub less_agrees : (addr : ℕ) → HasGone at addr names given → HasOneMore addr (naming_of next.plain) (naming_of heap.plain)
      → AgreeWith (with_naming next parts) given
  less_agrees addr gone more = record {
    namings = now;
    claims = agree.claims;
    known = all_known;
    claimed = all_claimed;
    agreed = gone_agrees at addr names given agree.namings agree.claims agree.agreed (naming_of next.plain) few gone
        (subst (λ (naming : Naming). HasOneMore addr (naming_of next.plain) naming) (sym at_known.0) more);
  }

-- A MEMZONE'S ELEMENT

named_alloc : (participant : ℕ) (request : Request) (tag : Tag) (heap : PlainHeap) → IsNamedAs heap (after_alloc participant request tag heap)
unfolding after_alloc
named_alloc participant request tag heap = named_placed heap request tag (chosen participant request heap)

named_free : (addr : ℕ) (heap : PlainHeap) → IsNamedAs heap (after_free addr true heap)
unfolding after_free
named_free addr heap = named_freed heap true (busy_at addr heap)

one_more : (addr : ℕ) (fewer more : PlainHeap) → IsNamedAs fewer more
    → IsPermutation (map data_address (zone_ranges more)) (addr ∷ map data_address (zone_ranges fewer))
    → HasOneMore addr (naming_of fewer) (naming_of more)
unfolding naming_of
one_more addr fewer more named zones = record { name = named.name; socket = named.socket; chunks = ap (map unmarked) named.chunks; zones = zones }

one_less : (addr : ℕ) (more fewer : PlainHeap) → IsNamedAs more fewer
    → IsPermutation (map data_address (zone_ranges more)) (addr ∷ map data_address (zone_ranges fewer))
    → HasOneMore addr (naming_of fewer) (naming_of more)
unfolding naming_of
one_less addr more fewer named zones =
    record { name = sym named.name; socket = sym named.socket; chunks = ap (map unmarked) (sym named.chunks); zones = zones }

address_is : (found : Option ℕ) (addr : ℕ) → gives.Address addr ≡ address_answer found → found ≡ Some addr
address_is None addr is = cc
address_is (Some found) addr is = cc

-- an allocation for a memzone
pub alloc_more : (caller : Caller) (request : Request) (tag : Tag) (addr : ℕ) (old new : HeapView) → IsTiled old.plain → tag.zone ≡ true
    → IsCall caller (call.Alloc request tag) (gives.Address addr) old new → HasOneMore addr (naming_of old.plain) (naming_of new.plain)
unfolding after answer_of
alloc_more caller request tag addr old new tiled zone step =
    let is : allocated caller.participant request old.plain ≡ Some addr =
    address_is (allocated caller.participant request old.plain) addr step.answered in
    subst (λ (h : PlainHeap). HasOneMore addr (naming_of old.plain) (naming_of h)) (sym step.heap)
    (one_more addr old.plain (after_alloc caller.participant request tag old.plain) (named_alloc caller.participant request tag old.plain)
    (zone_allocated caller.participant request tag old.plain tiled zone addr is))

-- and a free of its element
pub free_more : (caller : Caller) (addr : ℕ) (old new : HeapView) → IsTiled old.plain → IsCall caller (call.Free addr true) gives.Done old new
    → HasOneMore addr (naming_of new.plain) (naming_of old.plain)
unfolding after answer_of
free_more caller addr old new tiled step =
    subst (λ (h : PlainHeap). HasOneMore addr (naming_of h) (naming_of old.plain)) (sym step.heap)
    (one_less addr old.plain (after_free addr true old.plain) (named_free addr old.plain)
    (zone_freed addr old.plain tiled (step.allowed refl) step.answered))

-- ONCE AN ALLOCATION IS ANSWERED

-- no address was given
pub agrees_none : {tag : Tag} {given : Option Answer} {heap : ℕ} {old new : ℕ → HeapPart} → ((addr : ℕ) → given ≡ Some (Address addr) → ⊥)
    → ((names : NamesView) → AgreeWith old names → AgreeWith new names) → AgreeOnceAnswered tag given heap old new
agrees_none none keeps = record {
  still = λ names found agree. keeps names agree;
  with_more = λ names more zone zoned is. absurd (none zone.addr is);
  allocated = λ addr is. absurd (none addr is);
}

-- it was answered after others had been passed
pub agrees_then : {tag : Tag} {given : Option Answer} {heap : ℕ} {old mid new : ℕ → HeapPart}
    → ((names : NamesView) → AgreeWith old names → AgreeWith mid names) → AgreeOnceAnswered tag given heap mid new
    → AgreeOnceAnswered tag given heap old new
agrees_then before there = record {
  still = λ names found agree. there.still names found (before names agree);
  with_more = λ names more zone zoned is at have agree. there.with_more names more zone zoned is at have (before names agree);
  allocated = there.allocated;
}

pub no_address : (given : Option Answer) → given ≡ None → (addr : ℕ) → given ≡ Some (Address addr) → ⊥
no_address None none addr is = none-some (Address addr) is
no_address (Some given) none addr is = cc

pub agrees_passed : {tag : Tag} {heap : ℕ} {old new : ℕ → HeapPart}
    → ((names : NamesView) → AgreeWith old names → AgreeWith new names) → AgreeOnceAnswered tag None heap old new
agrees_passed keeps = agrees_none (no_address None refl) keeps

same_address : (one other : ℕ) → Some (Address one) ≡ Some (Address other) → one ≡ other
same_address one other same = cc

module _ (caller : Caller) (heap next : HeapView) (asked : Request) (tag : Tag) (addr : ℕ)
    (step : IsCall caller (call.Alloc asked tag) (gives.Address addr) heap next) (tiled : IsTiled heap.plain)
    (same : next.plain.index ≡ heap.plain.index) (few : heap.plain.index < MAX_HEAPS) (old parts : ℕ → HeapPart)
    (before : (names : NamesView) → AgreeWith old names → AgreeWith (with_naming heap parts) names) where
  abbrev who : ℕ
  who = caller.participant

  abbrev after_it : ℕ → HeapPart
  after_it = parts_with who next parts

  unzoned_agrees : tag.zone ≡ false → (names : NamesView) → AgreeWith old names → AgreeWith after_it names
  unzoned_agrees is names agree =
      into_parts who next parts
      (held_agrees heap next parts parts same (call_leaves caller (call.Alloc asked tag) (gives.Address addr) heap next step tiled is).naming
      (λ index. refl) (λ index. refl) (before names agree))

  zoned_agrees : tag.zone ≡ true → (names more : NamesView) (zone : Zone) → addr ≡ zone.addr → zone.heap ≡ next.plain.index → HaveZoneMore zone names more
      → AgreeWith old names → AgreeWith after_it more
  zoned_agrees is names more zone its there have agree =
      into_parts who next parts
      (more_agrees heap next parts same few names more (before names agree) addr
      (record { zone = zone; at_is = sym its; heap = there ∙ same; zones = have.zones; heaps = have.heaps })
      (alloc_more caller asked tag addr heap next tiled is step))

  entry_there : IsAllocated addr (after_it next.plain.index).entries
  unfolding entries_of
  entry_there =
      let entry : Entry = record { caller = caller; call = call.Alloc asked tag; answer = gives.Address addr } in
      let own : Entry → Bool = λ entry. entry.caller.participant == who in
      let last : filter own (entry ∷ []) ≡ entry ∷ [] = rw (eq-eqb who who refl) refl in
      let entries : entries_of who next.history ≡ entries_of who heap.history ++ entry ∷ [] =
      ap (filter own) step.history
      ∙ (filter-append own heap.history (entry ∷ []) ∙ ap (λ (rest : List Entry). filter own heap.history ++ rest) last) in
      record {
        entry = entry;
        there = subst (λ (entries : List Entry). Contains entries entry) (sym (hand_entries who next parts next.plain.index refl ∙ entries))
            (Contains-push (entries_of who heap.history) entry);
        at = record { request = asked; tag = tag; asked = refl; answered = refl };
      }

  pub agrees_found : AgreeOnceAnswered tag (Some (Address addr)) next.plain.index old after_it
  agrees_found = record {
    still = λ names found agree.
        ⊎_elim (λ is. unzoned_agrees is names agree) (λ (none : (addr' : ℕ) → Some (Address addr) ≡ Some (Address addr') → ⊥). absurd (none addr refl)) found;
    with_more = λ names more zone is given there have agree. zoned_agrees is names more zone (same_address addr zone.addr given) there have agree;
    allocated = λ other is. subst (λ (addr : ℕ). IsAllocated addr (after_it next.plain.index).entries) (same_address addr other is) entry_there;
  }
