-- The memzone goes, its element is freed, and whole pages are cut.
use Rattle.std.proofs.Common.{◌≡◌, ◌≢◌, ◌∙◌, ℕ, List, Err, IfOk, Ok, OnErr, Result, ap, refl, sym, subst, arith}
use Rattle.std.proofs.lemmas.List.Elements.{All-contains}
use Rattle.hp_zone.specs.Zones.{Frees, IsFound, IsNotFound, ZonesView}
use Rattle.hp_zone.specs.declared.fault.NotFound.{NotFound}
use Rattle.hp_zone.specs.declared.names.Names.{Names as NamesView}
use Rattle.hp_zone.specs.declared.zone.Zone.{Zone}
use Rattle.hp_proc.specs.Courses.{searched_heap_at}
use Rattle.hp_proc.specs.declared.searched_heap.SearchedHeap.{SearchedHeap}
use Rattle.hp_proc.proofs.HandFacts.HandCalls.{call_index, call_serves}
use Rattle.hp_proc.proofs.HandFacts.HandFreed.{freed_cut, freed_keeps, keeps_front, zone_in}
use Rattle.hp_proc.proofs.HandFacts.Holds.{holds_on, room_called}
use Rattle.hp_proc.proofs.participant.Participant.free_named.Goals as goal

-- a memzone that was found goes
freed_of : (old new : ZonesView) (text name : List ℕ) (zone : Zone) (result : Result Zone NotFound) → text ≡ name → IsFound old.zones name zone
    → IfOk result (Frees old new text) → OnErr result (IsNotFound old.zones text) → Frees old new name zone
freed_of old new text name zone result same found freed missing =
    by_result result (subst (λ (text : List ℕ). IfOk result (Frees old new text)) same freed)
    (subst (λ (text : List ℕ). OnErr result (IsNotFound old.zones text)) same missing)
  where
    by_result : (result : Result Zone NotFound) → IfOk result (Frees old new name) → OnErr result (IsNotFound old.zones name) → Frees old new name zone
    by_result (Ok gone) freed missing = record { found = found; zones = freed.zones; log = freed.log; room = freed.room }
    by_result (Err fault) freed missing =
        absurd (All-contains (λ (zone : Zone). zone.name ≢ name) old.zones zone missing found.there found.named)

pub free_zone_in-requires-clause-allowed : goal.free_zone_in-requires-clause-allowed
free_zone_in-requires-clause-allowed g c = λ is.
    zone_in c.args.heap.now ((g.H.Hall.state c.args.hall.now).part c.args.self.now.party.me) c.args.names.now c.args.zone.now
    c.requires.holds.in_hand.sound.tiled c.requires.names.agrees c.requires.holds.in_hand.few c.requires.found c.requires.there

pub free_zone_in-requires-clause-spare : goal.free_zone_in-requires-clause-spare
free_zone_in-requires-clause-spare g c = let spare = c.requires.room.spare in omega (arith, spare)

pub free_zone_in-requires-clause-counted : goal.free_zone_in-requires-clause-counted
free_zone_in-requires-clause-counted g c = let counted = c.requires.room.counted in omega (arith, counted)

pub cut_held-requires : goal.cut_held-requires
cut_held-requires g c =
    let doer = c.args.self.now in
    let mid = c.free_zone_in.new.self in
    let heap = c.args.heap.now in
    let next = c.free_zone_in.new.heap in
    let state = g.H.Hall.state c.args.hall.now in
    let names = c.args.names.now in
    let given : NamesView = record names { zones = c.remove-gone.new.self } in
    let zone = c.args.zone.now in
    let hand = c.requires.holds.in_hand in
    let step = c.free_zone_in.ensures.step in
    let counted = c.free_zone_in.ensures.counted in
    let frees =
    freed_of names.zones given.zones c.as_bytes.result.now zone.name zone c.remove-gone.result c.as_bytes.ensures.text c.requires.found
    c.remove-gone.ensures.freed c.remove-gone.ensures.not_found in
    record {
      holds = holds_on
          (keeps_front doer mid mid names given heap next next state state zone step counted c.requires.holds c.requires.names frees refl c.requires.there)
          c.requires.holds;
      its = ap (λ (place : SearchedHeap). place.index) c.requires.its ∙ sym (call_index _ _ _ _ _ step);
      of_socket = ap (λ (place : SearchedHeap). place.serves) c.requires.its
          ∙ (sym (hand.its_socket ∙ hand.sockets heap.plain.index) ∙ sym (call_serves _ _ _ _ _ step));
      room = room_called 1 doer mid heap next step.spare counted c.requires.room;
    }

pub returns : goal.returns
returns g c =
    let doer = c.args.self.now in
    let mid = c.free_zone_in.new.self in
    let last = c.cut_held.new.self in
    let heap = c.args.heap.now in
    let next = c.free_zone_in.new.heap in
    let more = c.cut_held.new.heap in
    let from = g.H.Hall.state c.args.hall.now in
    let to = g.H.Hall.state c.cut_held.new.hall in
    let names = c.args.names.now in
    let given : NamesView = record names { zones = c.remove-gone.new.self } in
    let zone = c.args.zone.now in
    let step = c.free_zone_in.ensures.step in
    let counted = c.free_zone_in.ensures.counted in
    let frees =
    freed_of names.zones given.zones c.as_bytes.result.now zone.name zone c.remove-gone.result c.as_bytes.ensures.text c.requires.found
    c.remove-gone.ensures.freed c.remove-gone.ensures.not_found in
    let is = c.cut_held.ensures in
    let place_of = searched_heap_at doer.context.pools in
    record {
      does = freed_cut doer mid last names given heap next more from to zone step counted c.requires.holds c.requires.names frees refl
          c.requires.there place_of c.args.place.now c.requires.its (λ at. refl) c.cut_held.result is.does;
      keeps = freed_keeps doer mid last names given heap next more from to zone step counted c.requires.holds c.requires.names frees refl
          c.requires.there place_of c.args.place.now c.requires.its (λ at. refl) c.cut_held.result is.does is.others is.keeps is.says
          c.are_sound.ensures;
      goes_on = is.goes_on;
    }
