-- A memzone goes with the names and its heap in hand, and its element is freed.
use Rattle.std.proofs.Common.{◌≡◌, ◌≢◌, ◌∙◌, ℕ, Bool, ◌+◌, ◌<◌, drop, take, get_or, eq-eqb, eqb, List, [], ◌∷◌, ◌++◌, append-nil, append_assoc, map, Option, None, Some, true, refl, ap, ap₂, sym, subst, inl, inr, arith}
use Rattle.std.specs.List.{Contains, filter}
use Rattle.std.proofs.lemmas.List.{drop_more, take-append-drop}
use Rattle.std.proofs.lemmas.List.Elements.{Contains-append_cases}
use Rattle.std.proofs.lemmas.List.Sorted.{Contains-permutation}
use Rattle.hp_base.specs.declared.limits.TheConstants.{MAX_HEAPS}
use Rattle.hp_base.specs.declared.span.Span.{Span}
use Rattle.hp_hall.proofs.HallStates.{did_same, did_then}
use Rattle.hp_hall.specs.HallState.{Did, HallState, OthersStay}
use Rattle.hp_hall.specs.Holding.{AgreeWith, HeapPart}
use Rattle.hp_hall.specs.Mail.{MailStep}
use Rattle.hp_hall.specs.Named.{GivesNames}
use Rattle.hp_hall.specs.Naming.{Naming, naming_of}
use Rattle.hp_hall.specs.Values.{IsSoundKept}
use Rattle.hp_hall.specs.declared.kept.Kept.{Kept}
use Rattle.hp_hall.specs.declared.kept.Kept.TheVariants.{Names}
use Rattle.hp_hall.specs.declared.slot.TheConstants.{NAMES_SLOT}
use Rattle.hp_heap.proofs.AllocFacts.ChoiceLaw.{Contains-cases, Contains-filter, Contains-none}
use Rattle.hp_heap.proofs.Members.{Contains-image, Contains-imaged, Contains-kept}
use Rattle.hp_heap.specs.History.{HeapView, IsCall}
use Rattle.hp_heap.specs.Joining.{HasZoneAt, is_zone_range, zone_ranges}
use Rattle.hp_heap.specs.PlainHeap.{data_address}
use Rattle.hp_heap.specs.Tiling.{IsTiled}
use Rattle.hp_heap.specs.declared.entry.Entry.{Entry}
use Rattle.hp_heap.specs.declared.entry.HeapAnswer.TheVariants as gives
use Rattle.hp_heap.specs.declared.entry.HeapCall.TheVariants as call
use Rattle.hp_zone.specs.Zones.{AreApart, Frees, IsFound}
use Rattle.hp_zone.specs.declared.name_change.NameChange.{NameChange}
use Rattle.hp_zone.specs.declared.names.Names.{Names as NamesView}
use Rattle.hp_zone.specs.declared.zone.Zone.{Zone}
use Rattle.hp_zone.specs.declared.zone.ZoneChange.{ZoneChange}
use Rattle.hp_zone.specs.declared.zone.ZoneChange.TheVariants.{Gone, Put}
use Rattle.hp_proc.specs.Acting.{Acts, AreAsked}
use Rattle.hp_proc.specs.Contexts.{Context}
use Rattle.hp_proc.specs.Courses.{calls_in}
use Rattle.hp_proc.specs.Doing.{Doing, Done, Goes, Leads}
use Rattle.hp_proc.specs.Doing.Done.{Called, NamesChanged}
use Rattle.hp_proc.specs.ExternalLines.{calling, changing}
use Rattle.hp_proc.specs.Freeing.{cutting, left_of}
use Rattle.hp_proc.specs.Heaps.{sockets_of}
use Rattle.hp_proc.specs.Histories.{entries_for}
use Rattle.hp_proc.specs.LineInHall.{DoesHeld, HoldsIn, KeepsHeld, did_in, moment_with}
use Rattle.hp_proc.specs.NamesInHand.{DoesNamedHeld, HasNamesBeside, KeepsNamed, entries_with, with_naming}
use Rattle.hp_proc.specs.ParticipantView.{ParticipantView, after_call}
use Rattle.hp_proc.specs.Progress.{caller_of, with_hand}
use Rattle.hp_proc.specs.SharedNames.NamesChange.{OfZones}
use Rattle.hp_proc.specs.ZoneLines.{freeing_zone}
use Rattle.hp_proc.specs.declared.element_act.Left.{Left}
use Rattle.hp_proc.specs.declared.searched_heap.SearchedHeap.{SearchedHeap}
use Rattle.hp_proc.proofs.ChunksLeft.{call_chunks, call_marks}
use Rattle.hp_proc.proofs.HandFacts.BesideNames.{held_agrees, knows_same}
use Rattle.hp_proc.proofs.HandFacts.HandAllocates.{chunks_held}
use Rattle.hp_proc.proofs.HandFacts.HandCalls.{call_index, call_serves, hand_goes, held_still}
use Rattle.hp_proc.proofs.HandFacts.HandDone.{does_made}
use Rattle.hp_proc.proofs.HandFacts.HandNamed.{known_here}
use Rattle.hp_proc.proofs.HandFacts.Holds.{keeps_then, remains_same}
use Rattle.hp_proc.proofs.InHandUntold.{changes_quiet, untold_in_hand}
use Rattle.hp_proc.proofs.Joining.{does_then}
use Rattle.hp_proc.proofs.LinesApart.{cutting_nameless}
use Rattle.hp_proc.proofs.NamesAround.{names_give_on}
use Rattle.hp_proc.proofs.PagesStay.{free_pages}
use Rattle.hp_proc.proofs.TreeDeeds.{IsNameless, nameless_changes, nameless_read, only_leads}
use Rattle.hp_proc.proofs.ZoneAgrees.{free_more, less_agrees}
use Rattle.hp_proc.proofs.ZoneElements.{zone_there}
use Rattle.hp_proc.proofs.ZoneNames.{HasGone}
use Rattle.hp_proc.proofs.ZonesWithout.{left_without}
use Rattle.hp_serve.proofs.Carrying.{same_party}

-- THE MEMZONE'S ELEMENT

-- a memzone that the names have in a heap is an element there
pub zone_in : (heap : HeapView) (parts : ℕ → HeapPart) (names : NamesView) (zone : Zone) → IsTiled heap.plain
    → AgreeWith (with_naming heap parts) names → heap.plain.index < MAX_HEAPS → IsFound names.zones.zones zone.name zone
    → zone.heap ≡ heap.plain.index → HasZoneAt zone.addr heap.plain
unfolding zone_ranges naming_of
zone_in heap parts names zone tiled agree few found there =
    let at = heap.plain.index in
    let zones = names.zones.zones in
    let here : Zone → Bool = λ (other : Zone). eqb other.heap at in
    let among : Contains (map (λ (zone : Zone). zone.addr) (filter here zones)) zone.addr =
    Contains-image (λ (zone : Zone). zone.addr) (filter here zones) zone
    (Contains-kept here zones zone (eq-eqb zone.heap at there) found.there) in
    let its : Contains (map data_address (agree.namings at).zones) zone.addr =
    Contains-permutation (map (λ (zone : Zone). zone.addr) (filter here zones)) (map data_address (agree.namings at).zones) zone.addr
    (agree.agreed.each at few).zones among in
    let known : naming_of heap.plain ≡ agree.namings at = known_here heap parts names agree few in
    let same : Contains (map data_address (filter is_zone_range heap.plain.ranges)) zone.addr =
    subst (λ (naming : Naming). Contains (map data_address naming.zones) zone.addr) (sym known) its in
    let one = Contains-imaged data_address (filter is_zone_range heap.plain.ranges) zone.addr same in
    let is = Contains-filter is_zone_range heap.plain.ranges one.0 one.1 in
    subst (λ (addr : ℕ). HasZoneAt addr heap.plain) one.2 (zone_there heap.plain one.0 tiled is.1 is.0)

-- names of which a memzone has gone
pub gone_of : (names given : NamesView) (zone : Zone) (at : ℕ) → AreApart names.zones.zones → Frees names.zones given.zones zone.name zone
    → given.heaps ≡ names.heaps → zone.heap ≡ at → HasGone at zone.addr names given
gone_of names given zone at apart frees heaps there =
    let zones = names.zones.zones in
    let (i, within, is) = frees.found.there in
    let tail : drop i zones ≡ zone ∷ drop (i + 1) zones =
    drop_more zones i zone within ∙ ap (λ (z : Zone). z ∷ drop (i + 1) zones) is in
    record {
      zone = zone;
      at_is = refl;
      heap = there;
      front = take i zones;
      back = drop (i + 1) zones;
      were = sym (take-append-drop i zones) ∙ ap (λ (rest : List Zone). take i zones ++ rest) tail;
      are = frees.zones
          ∙ sym (left_without zones i zone.name zone within apart (ap (λ (z : Zone). z.name) is));
      heaps = heaps;
    }

-- so they may be given still
pub gives_gone : (entries : ℕ → List Entry) (was names given : NamesView) (text : List ℕ) → GivesNames entries was names
    → given.zones.log ≡ names.zones.log ++ Gone text ∷ [] → given.heaps ≡ names.heaps → GivesNames entries was given
gives_gone entries was names given text gives log heaps = record {
  goes_on = record {
    sockets = ap (λ d. d.sockets) heaps ∙ gives.goes_on.sockets;
    more_zones = gives.goes_on.more_zones ++ Gone text ∷ [];
    zones = log
        ∙ (ap (λ (l : List ZoneChange). l ++ Gone text ∷ []) gives.goes_on.zones
        ∙ append_assoc was.zones.log gives.goes_on.more_zones (Gone text ∷ []));
    more_heaps = gives.goes_on.more_heaps;
    heaps = ap (λ d. d.log) heaps ∙ gives.goes_on.heaps;
  };
  allocated = λ zone among. gives.allocated zone (put_before gives.goes_on.more_zones zone among);
}
  where
    put_is : (zone : Zone) → Put zone ≡ Gone text → ⊥
    put_is zone same = cc

    put_before : (more : List ZoneChange) (zone : Zone) → Contains (more ++ Gone text ∷ []) (Put zone) → Contains more (Put zone)
    put_before more zone among = elim (Contains-append_cases more (Gone text ∷ []) (Put zone) among) [
      | inl here ↦ here
      | inr last ↦ elim (Contains-cases (Gone text) (Put zone) [] last) [
        | inl same ↦ absurd (put_is zone (sym same))
        | inr none ↦ absurd (Contains-none (Put zone) none)
      ]
    ]

names_out : (taken : Option Kept) (names : NamesView) → taken ≡ None → taken ≡ Some (Names names) → ⊥
names_out taken names none some = cc

module _ (doer : ParticipantView) (names given : NamesView) (heap next : HeapView) (state : HallState) (zone : Zone)
    (step : IsCall (caller_of doer) (call.Free zone.addr true) gives.Done heap next) (holds : HoldsIn doer.party.me doer heap state)
    (has : HasNamesBeside doer.party.me doer names heap state) (frees : Frees names.zones given.zones zone.name zone)
    (heaps : given.heaps ≡ names.heaps) (there : zone.heap ≡ heap.plain.index) where
  abbrev me : ℕ
  me = doer.party.me

  abbrev at : ℕ
  at = heap.plain.index

  abbrev trace : List Done
  trace = NamesChanged (OfZones (Gone zone.name)) ∷ (Called at (call.Free zone.addr true) gives.Done ∷ [])

  does_freed_at : (rest : Doing) → DoesNamedHeld me doer (after_call doer) names given heap next state state
      (changing (OfZones (Gone zone.name)) (calling at (call.Free zone.addr true) rest)) rest
  unfolding AreAsked Leads Goes
  does_freed_at rest = record {
    does = does_made doer (after_call doer) heap (state.part me) (state.part me) (state.seen me) (state.heard me) (state.seen me) (state.heard me)
        state.count (λ steps. Did me steps state state) (changing (OfZones (Gone zone.name)) (calling at (call.Free zone.addr true) rest)) rest trace
        [] (tt, refl, (gives.Done, refl, refl)) (did_same me state)
        (Acts.and_then (Some at) (Some at) (Some at) [] [] doer doer (after_call doer) (NamesChanged (OfZones (Gone zone.name)) ∷ [])
        (Called at (call.Free zone.addr true) gives.Done ∷ []) [] [] (Acts.changes_names (Some at) doer (OfZones (Gone zone.name)))
        (Acts.makes_call doer at (call.Free zone.addr true) gives.Done refl))
        (λ index. refl) (λ index. refl) (same_party doer.party) refl [] (sym (append-nil (state.seen me))) [] (sym (append-nil (state.heard me)))
        next (call.Free zone.addr true) gives.Done step refl refl;
    names = record {
      changed = ap₂ (λ (z : List ZoneChange) (l : List NameChange). record { zones = z; heaps = l }) frees.log (ap (λ d. d.log) heaps);
      unread = refl;
      untold = (tt, (tt, tt));
    };
  }

  -- it went, and was freed
  pub does_freed : (place_of : ℕ → SearchedHeap) → DoesNamedHeld me doer (after_call doer) names given heap next state state
      (freeing_zone place_of (Some zone)) (cutting (place_of zone.heap) zone.addr)
  does_freed place_of =
      subst (λ (index : ℕ). DoesNamedHeld me doer (after_call doer) names given heap next state state
      (changing (OfZones (Gone zone.name)) (calling index (call.Free zone.addr true) (cutting (place_of zone.heap) zone.addr)))
      (cutting (place_of zone.heap) zone.addr)) (sym there) (does_freed_at (cutting (place_of zone.heap) zone.addr))

  -- the heap is in hand still
  pub keeps_freed : KeepsHeld me doer (after_call doer) heap next state state
  keeps_freed =
      let hand = holds.in_hand in
      let of = call.Free zone.addr true in
      record {
        in_hand = hand_goes doer (state.part me) (state.seen me) (state.heard me) of gives.Done heap next step state.taken hand (after_call doer) refl
            (held_still doer (state.part me) (state.seen me) (state.heard me) of gives.Done heap next step state.taken hand
            (state.part me heap.plain.index).holding (free_pages _ zone.addr true gives.Done heap next step) refl refl hand.held)
            (chunks_held state.taken me (state.part me heap.plain.index).claims heap.plain next.plain
            (λ none. absurd (names_out (state.taken NAMES_SLOT) has.was none has.taken)) (call_chunks (caller_of doer) of gives.Done heap next step tt)
            hand.claimed);
        index = call_index (caller_of doer) of gives.Done heap next step;
        its_socket = call_serves (caller_of doer) of gives.Done heap next step;
        marks = call_marks me (caller_of doer) of gives.Done heap next step tt;
        context = refl;
        settled = holds.settled;
        mapped = holds.mapped;
        knows = knows_same me state;
        remains = remains_same me doer.party state holds.can.tied;
      }

  -- and the names agree with it as it is by now
  pub agrees_freed : AgreeWith (with_naming next (state.part me)) given
  agrees_freed =
      less_agrees heap next (state.part me) (call_index (caller_of doer) (call.Free zone.addr true) gives.Done heap next step) holds.in_hand.few names
      given has.agrees zone.addr (gone_of names given zone at has.sound.0.apart frees heaps there)
      (free_more (caller_of doer) zone.addr heap next holds.in_hand.sound.tiled step)

-- and whole pages are cut
module _ (doer mid last : ParticipantView) (names given : NamesView) (heap next more : HeapView) (from to : HallState) (zone : Zone)
    (step : IsCall (caller_of doer) (call.Free zone.addr true) gives.Done heap next) (counted : mid ≡ after_call doer)
    (holds : HoldsIn doer.party.me doer heap from) (has : HasNamesBeside doer.party.me doer names heap from)
    (frees : Frees names.zones given.zones zone.name zone) (heaps : given.heaps ≡ names.heaps) (there : zone.heap ≡ heap.plain.index) where
  abbrev own : ℕ
  own = doer.party.me

  front : (place_of : ℕ → SearchedHeap) → DoesNamedHeld own doer mid names given heap next from from
      (freeing_zone place_of (Some zone)) (cutting (place_of zone.heap) zone.addr)
  front place_of =
      subst (λ (mid : ParticipantView). DoesNamedHeld own doer mid names given heap next from from
      (freeing_zone place_of (Some zone)) (cutting (place_of zone.heap) zone.addr)) (sym counted)
      (does_freed doer names given heap next from zone step holds has frees heaps there place_of)

  pub keeps_front : KeepsHeld own doer mid heap next from from
  keeps_front =
      subst (λ (mid : ParticipantView). KeepsHeld own doer mid heap next from from) (sym counted)
      (keeps_freed doer names given heap next from zone step holds has frees heaps there)

  is_me : mid.party.me ≡ own
  is_me = ap (λ (doer : ParticipantView). doer.party.me) counted

  module _ (place_of : ℕ → SearchedHeap) (place : SearchedHeap) (its : place ≡ place_of heap.plain.index) (index : (at : ℕ) → (place_of at).index ≡ at)
      (left : Left) (cut : DoesHeld mid.party.me mid last next more from to (cutting place zone.addr) (left_of place.index left)) where
    cut_there : DoesHeld own mid last next more from to (cutting (place_of zone.heap) zone.addr) (left_of zone.heap left)
    cut_there =
        subst (λ (at : ℕ). DoesHeld own mid last next more from to (cutting (place_of zone.heap) zone.addr) (left_of at left)) (index zone.heap)
        (subst (λ (place : SearchedHeap). DoesHeld own mid last next more from to (cutting place zone.addr) (left_of place.index left))
        (its ∙ ap place_of (sym there))
        (subst (λ (who : ℕ). DoesHeld who mid last next more from to (cutting place zone.addr) (left_of place.index left)) is_me cut))

    pub freed_cut : DoesNamedHeld own doer last names given heap more from to (freeing_zone place_of (Some zone)) (left_of zone.heap left)
    unfolding does_then
    freed_cut =
        let first = front place_of in
        let rest = cut_there in
        let tree = cutting (place_of zone.heap) zone.addr in
        let nameless =
        only_leads IsNameless tree rest.trace (left_of zone.heap left)
        (cutting_nameless (place_of zone.heap) zone.addr (place_of zone.heap).serves refl) rest.leads in
        record {
          does = does_then from.count (did_in own from from) (did_in own from to) (did_in own from to) (freeing_zone place_of (Some zone)) tree
              (left_of zone.heap left) (moment_with heap own doer from) (moment_with next own mid from) (moment_with more own last to)
              (λ one two. did_then) first.does rest;
          names = changes_quiet names given first.does.trace rest.trace first.names (nameless_changes rest.trace nameless)
              (nameless_read rest.trace nameless)
              (untold_in_hand from.count (Some next.plain.index) (Some more.plain.index) [] mid last rest.trace rest.steps rest.acts refl
              next.plain.index more.plain.index refl refl);
        }

    grown : (at : ℕ) → entries_with own more to at
        ≡ entries_with own heap from at ++ entries_for own at (doer.context.calls + 1) (calls_in freed_cut.does.trace)
    grown at =
        subst (λ (who : ℕ). (with_hand who more (to.part own) at).entries
        ≡ entries_with own heap from at ++ entries_for own at (doer.context.calls + 1) (calls_in freed_cut.does.trace)) freed_cut.does.same.me
        (freed_cut.does.entries at)

    -- both are in hand still
    pub freed_keeps : OthersStay mid.party.me from to → KeepsHeld mid.party.me mid last next more from to
        → naming_of more.plain ≡ naming_of next.plain → IsSoundKept (Names given) → KeepsNamed own doer last given heap more from to
    freed_keeps others kept says sound =
        let keeps = keeps_then keeps_front kept in
        let slots = keeps.remains.slots in
        record {
          held = keeps;
          beside = record {
            told = keeps.knows.told ∙ has.told;
            was = has.was;
            taken = slots.taken NAMES_SLOT ∙ has.taken;
            sound = sound;
            goes_on = gives_gone (entries_with own more to) has.was names given zone.name
                (names_give_on {old = entries_with own heap from} {new = entries_with own more to} {taken = has.was} {given = names}
                (λ (at : ℕ). (entries_for own at (doer.context.calls + 1) (calls_in freed_cut.does.trace), grown at)) has.goes_on)
                frees.log heaps;
            agrees = held_agrees next more (from.part own) (to.part own)
                kept.index says
                (subst (λ (who : ℕ). (at : ℕ) → (to.part who at).naming ≡ (from.part who at).naming) is_me kept.knows.naming)
                (subst (λ (who : ℕ). (at : ℕ) → (to.part who at).claims ≡ (from.part who at).claims) is_me kept.knows.claims)
                (agrees_freed doer names given heap next from zone step holds has frees heaps there);
            sockets = ap (λ d. d.sockets) heaps
                ∙ (has.sockets ∙ sym (ap (λ (context : Context). sockets_of context.pools) keeps.context));
          };
          others = subst (λ (who : ℕ). OthersStay who from to) is_me others;
        }
