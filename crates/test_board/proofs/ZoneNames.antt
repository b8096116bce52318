-- What comes of the names, and of external memory, by participants that reserve and free memzones.
use Rattle.std.proofs.Common.{◌≡◌, ◌∙◌, ℕ, zero, suc, ◌+◌, ◌==◌, true, ◌-◌, Bool, false, not, filter, length, get_or, List, [], ◌∷◌, ◌++◌, Result, Ok, Err, OnOk, refl, sym, ap, subst, arith}
use Rattle.std.specs.List.{Contains}
use Rattle.std.proofs.lemmas.Bool.{cond-false, eqb-true}
use Rattle.std.proofs.lemmas.List.{append_assoc, append-nil, get_or-append_right, get_or_append_left, length-append}
use Rattle.std.proofs.lemmas.Slice.Eq.{bytes_eq-Decides}
use Rattle.std.proofs.lemmas.List.Elements.{Contains-append_left, Contains-push, filter-append}
use Rattle.std.specs.Result.{is_ok}
use Rattle.hp_base.specs.declared.chunk.Chunk.{Chunk}
use Rattle.hp_base.specs.declared.tag.Caller.{Caller}
use Rattle.hp_external.specs.Adding.{Adds}
use Rattle.hp_external.specs.Creating.{Creates}
use Rattle.hp_external.specs.Tie.{AreClaimed}
use Rattle.hp_segs.specs.declared.external_range.ExternalRange.{ExternalRange}
use Rattle.hp_heap.proofs.AllocFacts.ChoiceLaw.{Contains-parts}
use Rattle.hp_heap.proofs.Members.{AllByRecursion-each, filter_whole}
use Rattle.hp_heap.specs.ChunkOrder.{AreInOrder}
use Rattle.hp_heap.specs.History.{HeapView}
use Rattle.hp_heap.specs.Tiling.{IsTiled}
use Rattle.hp_heap.specs.declared.entry.Entry.{Entry}
use Rattle.hp_heap.specs.declared.entry.HeapAnswer.TheVariants as answer
use Rattle.hp_heap.specs.declared.entry.HeapCall.TheVariants as call
use Rattle.hp_segs.proofs.Moves.{calls_move}
use Rattle.hp_segs.specs.Moved.{ClaimRange, is_range_call}
use Rattle.hp_segs.specs.SegsView.{SegsView}
use Rattle.hp_zone.specs.Directory.{DirectoryView}
use Rattle.hp_zone.specs.declared.name_change.NameChange.{NameChange}
use Rattle.hp_zone.specs.declared.name_change.NameChange.TheVariants.{Named, Range}
use Rattle.hp_zone.specs.declared.names.Names.{Names as NamesView}
use Rattle.hp_zone.specs.declared.zone.Zone.{Zone}
use Rattle.hp_zone.specs.declared.zone.ZoneChange.TheVariants.{Gone, Put}
use Rattle.hp_zone.specs.Zones.{AreApart, Frees, IsZones, ZonesView, has_name, without}
use Rattle.hp_hall.specs.Named.{IsAllocated, NamesGoOn, seen_of_names}
use Rattle.hp_board.specs.Views.{made_in, under, values_of}
use Rattle.hp_board.specs.declared.view.Mine.{Mine}
use Rattle.hp_board.proofs.OwnershipFacts.PagesLeft.{chunk_pages}
use Rattle.hp_board.proofs.Pairs.{values_of-append, values_of-under}
use Rattle.test_board.specs.Zoned.{HasCalls, HasClaimed, HasGone, HasPut, HasReserved, HaveHeaps}
use Rattle.test_board.proofs.ZoneLemmas.{one_called}

-- a heap got a name
pub created_heaps : (old new : NamesView) (text : List ℕ) (index socket : ℕ) → Creates old new text index socket → HaveHeaps old new
created_heaps old new text index socket made = record {
  zones = ap (λ z. z.log) made.zones;
  sockets = ap (λ (d : DirectoryView). d.sockets) made.given.changed;
  more = Named index socket text ∷ [];
  heaps = ap (λ (d : DirectoryView). d.log) made.given.changed;
}

module _ (caller : Caller) (text : List ℕ) (addr len page : ℕ) (names new : NamesView) (segs given : SegsView) (heap full : HeapView) (adds : Adds caller text addr len page names new segs given heap full) where
  -- it got memory
  pub added_heaps : HaveHeaps names new
  added_heaps = record {
    zones = ap (λ z. z.log) adds.zones;
    sockets = ap (λ (d : DirectoryView). d.sockets) adds.listed;
    more = Range heap.plain.index addr len page ∷ [];
    heaps = ap (λ (d : DirectoryView). d.log) adds.listed;
  }

  -- which is claimed
  pub added_claims : HasClaimed segs given
  added_claims = subst (HasClaimed segs) (sym adds.claimed) (record {
    moved = calls_move is_range_call (ClaimRange adds.list addr len page adds.socket) segs refl adds.planned;
    still = λ range has.
        Contains-append_left segs.ranges (record { list = adds.list; addr = addr; len = len; page = page; socket = adds.socket } ∷ []) range has;
    log = refl;
    armed = refl;
  })

-- it has no chunk
pub no_chunks : (chunks : List Chunk) → (length chunks == 0) ≡ true → chunks ≡ []
no_chunks [] none = refl
no_chunks (chunk ∷ chunks) none = absurd (omega (arith, eqb-true (length (chunk ∷ chunks)) 0 none))

-- a heap without memory has claimed all that it has
pub none_claimed : (claims : List ExternalRange) (chunks : List Chunk) → (length chunks == 0) ≡ true → AreClaimed claims chunks
none_claimed claims [] none = tt
none_claimed claims (chunk ∷ chunks) none = absurd (omega (arith, eqb-true (length (chunk ∷ chunks)) 0 none))

-- by a call of the third participant, its second
pub added_calls : (caller : Caller) (text : List ℕ) (addr len page : ℕ) (names new : NamesView) (segs given : SegsView) (heap full : HeapView) → Adds caller text addr len page names new segs given heap full
    → caller ≡ record { participant = 2; number = 2 } → IsTiled heap.plain → AreInOrder heap.plain.chunks → HasCalls 2 1 2 heap full
added_calls caller text addr len page names new segs given heap full adds is tiled order =
    let chunk : Chunk = record { list = adds.list; addr = addr; len = len; page = page; socket = adds.socket; attached = 0 } in
    one_called 2 1 heap full caller (call.Chunk chunk) answer.Done is adds.came tiled order (chunk_pages caller chunk answer.Done heap full adds.came) refl refl

-- what holds where a call was answered Ok
pub is_added : {A E : Type 0} {P : Type 0} (result : Result A E) → is_ok result ≡ true → OnOk result P → P
is_added (Ok x) fine added = added
is_added (Err e) fine added = absurd (cc)

-- one after the other
pub heaps_then : (old mid new : NamesView) → HaveHeaps old mid → HaveHeaps mid new → HaveHeaps old new
heaps_then old mid new first next = record {
  zones = next.zones ∙ first.zones;
  sockets = next.sockets ∙ first.sockets;
  more = first.more ++ next.more;
  heaps = next.heaps ∙ (ap (λ (l : List NameChange). l ++ next.more) first.heaps ∙ append_assoc old.heaps.log first.more next.more);
}

-- the names go on where the directory has changed alone
pub heaps_go : (old new : NamesView) → HaveHeaps old new → NamesGoOn (seen_of_names old) (seen_of_names new)
heaps_go old new have = record {
  sockets = have.sockets;
  more_zones = [];
  zones = have.zones ∙ sym (append-nil old.zones.log);
  more_heaps = have.more;
  heaps = have.heaps;
}

-- where they are as they were
pub same_go : (names : NamesView) → NamesGoOn (seen_of_names names) (seen_of_names names)
same_go names = record {
  sockets = refl;
  more_zones = [];
  zones = sym (append-nil names.zones.log);
  more_heaps = [];
  heaps = sym (append-nil names.heaps.log);
}

-- and where a zone was put
pub put_goes : (addr : ℕ) (old new : NamesView) → HasPut addr old new → NamesGoOn (seen_of_names old) (seen_of_names new)
put_goes addr old new put = record {
  sockets = ap (λ (d : DirectoryView). d.sockets) put.heaps;
  more_zones = Put put.zone ∷ [];
  zones = put.log;
  more_heaps = [];
  heaps = ap (λ (d : DirectoryView). d.log) put.heaps ∙ sym (append-nil old.heaps.log);
}

-- or went
pub gone_goes : (addr : ℕ) (old new : NamesView) → HasGone addr old new → NamesGoOn (seen_of_names old) (seen_of_names new)
gone_goes addr old new gone = record {
  sockets = ap (λ (d : DirectoryView). d.sockets) gone.heaps;
  more_zones = Gone gone.zone.name ∷ [];
  zones = gone.log;
  more_heaps = [];
  heaps = ap (λ (d : DirectoryView). d.log) gone.heaps ∙ sym (append-nil old.heaps.log);
}

-- no zone came
none_came : (zone : Zone) (P : Type 0) → Contains [] (Put zone) → P
none_came zone P among = let inside = among.1 in absurd (omega (arith, inside))

pub same_none : (names : NamesView) (zone : Zone) (P : Type 0) → Contains (same_go names).more_zones (Put zone) → P
unfolding same_go
same_none names zone P among = none_came zone P among

pub heaps_none : (old new : NamesView) (have : HaveHeaps old new) (zone : Zone) (P : Type 0) → Contains (heaps_go old new have).more_zones (Put zone) → P
unfolding heaps_go
heaps_none old new have zone P among = none_came zone P among

only : {A : Type 0} (x y : A) → Contains (x ∷ []) y → x ≡ y
only x y (zero, inside, is) = is
only x y (suc k, inside, is) = absurd (omega (arith, inside))

pub gone_none : (addr : ℕ) (old new : NamesView) (gone : HasGone addr old new) (zone : Zone) (P : Type 0) → Contains (gone_goes addr old new gone).more_zones (Put zone) → P
unfolding gone_goes
gone_none addr old new gone zone P among = let wrong : Gone gone.zone.name ≡ Put zone = only (Gone gone.zone.name) (Put zone) among in absurd (cc)

-- the zone that was put lies where the giver's allocation in heap 1 was answered
pub put_allocated : (who made addr : ℕ) (heap given : HeapView) (old new : NamesView) (before mine : Mine) (reserved : HasReserved who made addr heap given) (put : HasPut addr old new)
    → mine.made ≡ before.made ++ under 1 reserved.calls.own → (zone : Zone) → Contains (put_goes addr old new put).more_zones (Put zone) → IsAllocated zone.addr (made_in zone.heap mine)
unfolding put_goes
put_allocated who made addr heap given old new before mine reserved put made_is zone among =
    let entry : Entry = record { caller = record { participant = who; number = made + 1 }; call = call.Alloc reserved.request reserved.tag; answer = answer.Address addr } in
    let one : Put put.zone ≡ Put zone = only (Put put.zone) (Put zone) among in
    let same : put.zone ≡ zone = cc in
    let all : made_in 1 mine ≡ made_in 1 before ++ entry ∷ [] =
    ap (values_of 1) made_is ∙ (values_of-append 1 before.made (under 1 reserved.calls.own)
    ∙ ap (λ (l : List Entry). made_in 1 before ++ l) (values_of-under 1 reserved.calls.own ∙ reserved.entry)) in
    let has : IsAllocated addr (made_in 1 mine) =
    record {
      entry = entry;
      there = subst (λ (l : List Entry). Contains l entry) (sym all) (Contains-push (made_in 1 before) entry);
      at = record { request = reserved.request; tag = reserved.tag; asked = refl; answered = refl };
    } in
    subst (λ (z : Zone). IsAllocated z.addr (made_in z.heap mine)) same
    (subst (λ (k : ℕ). IsAllocated put.zone.addr (made_in k mine)) (sym put.heap) (subst (λ (a : ℕ). IsAllocated a (made_in 1 mine)) (sym put.at) has))

-- A ZONE IS FREED

false_else : (b : Bool) → (b ≡ true → ⊥) → b ≡ false
false_else true fails = absurd (fails refl)
false_else false fails = refl

module _ (front back : List Zone) (zone : Zone) (apart : AreApart (front ++ zone ∷ back)) where
  abbrev all : List Zone
  all = front ++ zone ∷ back

  long : length all ≡ length front + suc (length back)
  long = length-append front (zone ∷ back)

  zone_there : (d : Zone) → get_or all (length front) d ≡ zone
  zone_there d =
      let none : length front - length front ≡ 0 = omega arith in
      get_or-append_right front (zone ∷ back) (length front) (length front) d refl (omega arith) ∙ ap (λ (n : ℕ). get_or (zone ∷ back) n d) none

  -- no other one has its name
  not_front : (other : Zone) → Contains front other → other.name ≡ zone.name → ⊥
  not_front other (k, inside, at) same =
      let here : get_or all k other ≡ other = get_or_append_left front (zone ∷ back) other k inside ∙ at in
      let one : k ≡ length front =
      apart k (length front) other (omega (arith, long, inside)) (omega (arith, long)) (ap (λ (z : Zone). z.name) here ∙ (same ∙ ap (λ (z : Zone). z.name) (sym (zone_there other)))) in
      omega (arith, one, inside)

  not_back : (other : Zone) → Contains back other → other.name ≡ zone.name → ⊥
  not_back other (k, inside, at) same =
      let j : ℕ = length front + suc k in
      let behind : j - length front ≡ suc k = omega arith in
      let here : get_or all j other ≡ other =
      get_or-append_right front (zone ∷ back) (length front) j other refl (omega arith) ∙ (ap (λ (n : ℕ). get_or (zone ∷ back) n other) behind ∙ at) in
      let one : j ≡ length front =
      apart j (length front) other (omega (arith, long, inside)) (omega (arith, long)) (ap (λ (z : Zone). z.name) here ∙ (same ∙ ap (λ (z : Zone). z.name) (sym (zone_there other)))) in
      omega (arith, one)

  passes : (text : List ℕ) → zone.name ≡ text → (other : Zone) → (other.name ≡ zone.name → ⊥) → not (has_name text other) ≡ true
  passes text named other apart =
      ap not (false_else (has_name text other) (λ same. apart ((bytes_eq-Decides other.name text).0 same ∙ sym named)))

  -- without it there are the others
  others_left : (text : List ℕ) → zone.name ≡ text → without text all ≡ front ++ back
  others_left text named =
      let kept : Zone → Bool = λ (z : Zone). not (has_name text z) in
      let before : filter kept front ≡ front =
      filter_whole kept front (AllByRecursion-each (λ (z : Zone). kept z ≡ true) front (λ z has. passes text named z (not_front z has))) in
      let after : filter kept back ≡ back =
      filter_whole kept back (AllByRecursion-each (λ (z : Zone). kept z ≡ true) back (λ z has. passes text named z (not_back z has))) in
      let gone : filter kept (zone ∷ back) ≡ filter kept back =
      cond-false (kept zone) (zone ∷ filter kept back) (filter kept back) (ap not ((bytes_eq-Decides zone.name text).1 named)) in
      filter-append kept front (zone ∷ back) ∙ (ap (λ (l : List Zone). l ++ filter kept (zone ∷ back)) before ∙ ap (λ (l : List Zone). front ++ l) (gone ∙ after))

-- a zone of heap 1 that was freed went from between others
pub frees_gone : (old new : ZonesView) (heaps : DirectoryView) (text : List ℕ) (zone : Zone) → IsZones old → Frees old new text zone → zone.heap ≡ 1
    → HasGone zone.addr (record { zones = old; heaps = heaps }) (record { zones = new; heaps = heaps })
frees_gone old new heaps text zone sound frees heap =
    let (front, back, parts) = Contains-parts old.zones zone frees.found.there in
    record {
      zone = zone;
      at = refl;
      heap = heap;
      front = front;
      back = back;
      were = parts;
      are = frees.zones ∙ (ap (without text) parts ∙ others_left front back zone (subst AreApart parts sound.apart) text frees.found.named);
      log = frees.log ∙ ap (λ (name : List ℕ). old.log ++ Gone name ∷ []) (sym frees.found.named);
      heaps = refl;
    }
