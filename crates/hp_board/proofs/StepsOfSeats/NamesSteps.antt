-- What was seen of the names stays a front of them, and each zone lies where an allocation was answered, through every kind of step.
use Rattle.std.proofs.Common.{◌≡◌, ◌≢◌, ◌∙◌, ⊎_elim, ℕ, ◌<◌, Bool, true, false, cond, eqb, eqb-true, List, [], ◌∷◌, ◌++◌, refl, sym, ap, subst, arith}
use Rattle.std.specs.List.{All, Contains}
use Rattle.std.proofs.lemmas.List.Elements.{All-head, All-tail, Contains-append_cases, Contains-append_left}
use Rattle.hp_base.specs.declared.limits.TheConstants.{MAX_HEAPS}
use Rattle.hp_heap.proofs.AllocFacts.ChoiceLaw.{Contains-filter}
use Rattle.hp_heap.specs.declared.entry.Entry.{Entry}
use Rattle.hp_heap.specs.History.{entries_of}
use Rattle.hp_segs.specs.SegsView.{SegsView}
use Rattle.hp_hall.specs.Giving.{GivesSegments, GivesTheNames}
use Rattle.hp_hall.specs.Named.{IsAllocated}
use Rattle.hp_hall.specs.Values.{history_of}
use Rattle.hp_hall.specs.Views.{HeldHeap}
use Rattle.hp_hall.specs.declared.kept.Kept.{Kept}
use Rattle.hp_hall.specs.declared.kept.Kept.TheVariants.{Heap, Names, Segments}
use Rattle.hp_hall.specs.declared.slot.TheConstants.{NAMES_SLOT}
use Rattle.hp_zone.specs.declared.names.Names.{Names as NamesView}
use Rattle.hp_zone.specs.declared.zone.Zone.{Zone}
use Rattle.hp_zone.specs.declared.zone.ZoneChange.{ZoneChange}
use Rattle.hp_zone.specs.declared.zone.ZoneChange.TheVariants.{Put}
use Rattle.hp_board.specs.Giving.{GivesAt, GivesHeldAt}
use Rattle.hp_board.specs.HeapsKept.{AreKept}
use Rattle.hp_board.specs.KeptValues.{IsKeptAt}
use Rattle.hp_board.specs.Knowing.{knows_of}
use Rattle.hp_board.specs.NamesKept.{AreNamed, IsReserved}
use Rattle.hp_board.specs.Views.{Learned, BeginsWith, after_give, after_take, made_in, names_seen, values_of, zones_seen}
use Rattle.hp_board.specs.declared.opening.Opening.{Opening}
use Rattle.hp_board.specs.declared.view.Mine.{Mine}
use Rattle.hp_board.specs.declared.words.TheConstants.{SLOTS}
use Rattle.hp_board.proofs.Fronts.{front_itself, front_on}
use Rattle.hp_board.proofs.OwnershipFacts.GivenTaken.{by_gives}
use Rattle.hp_board.proofs.Updates.{with_at, with_at-here, with_at-else, each}

-- an entry that was made in the heap of a slot has a slot of the board
placed_by : (slot : ℕ) (pair : ℕ × Entry) (values : List Entry) (entry : Entry) (same : Bool) → eqb pair.0 slot ≡ same → pair.0 < SLOTS → (Contains values entry → slot < SLOTS)
    → Contains (cond same (pair.1 ∷ values) values) entry → slot < SLOTS
placed_by slot pair values entry true is first rest has = omega (arith, first, eqb-true pair.0 slot is)
placed_by slot pair values entry false is first rest has = rest has

placed_low : (slot : ℕ) (made : List (ℕ × Entry)) (entry : Entry) → All (λ (pair : ℕ × Entry). pair.0 < SLOTS) made → Contains (values_of slot made) entry → slot < SLOTS
placed_low slot [] entry placed (at, inside, is) = absurd (omega (arith, inside))
placed_low slot (pair ∷ made) entry placed has =
    placed_by slot pair (values_of slot made) entry (eqb pair.0 slot) refl (All-head (λ (p : ℕ × Entry). p.0 < SLOTS) pair made placed)
    (placed_low slot made entry (All-tail (λ (p : ℕ × Entry). p.0 < SLOTS) pair made placed)) has

-- only a heap has entries
heap_low : (opening : Opening) (slot : ℕ) (kept : Kept) (entry : Entry) → IsKeptAt opening slot kept → Contains (history_of kept) entry → slot < MAX_HEAPS
heap_low opening slot (Heap heap pen) entry at has = at.heap.below
heap_low opening slot (Segments segs) entry at (place, inside, is) = absurd (omega (arith, inside))
heap_low opening slot (Names names) entry at (place, inside, is) = absurd (omega (arith, inside))

-- an address that was answered stays so
allocated_on : (addr : ℕ) (history own later : List Entry) → later ≡ history ++ own → IsAllocated addr history → IsAllocated addr later
allocated_on addr history own later is was = record {
  entry = was.entry;
  there = subst (λ (l : List Entry). Contains l was.entry) (sym is) (Contains-append_left history own was.entry was.there);
  at = was.at;
}

-- the entries of one participant are entries of the history
one_of : (who : ℕ) (history : List Entry) (entry : Entry) → Contains (entries_of who history) entry → Contains history entry
unfolding entries_of
one_of who history entry has = (Contains-filter (λ (e : Entry). eqb e.caller.participant who) history entry has).1

module _ (opening : Opening) (kept : ℕ → Kept) (mine : ℕ → Mine) (named : AreNamed opening kept mine) (part : Mine) (known : part ≡ mine part.who) where
  zones_same : (new : Mine) → new.zones ≡ part.zones → (who : ℕ) → who < opening.participants → BeginsWith named.names.zones.log (with_at part.who new mine who).zones
  zones_same new zones =
      each (λ w m. w < opening.participants → BeginsWith named.names.zones.log m.zones) part.who new mine
      (λ may. subst (BeginsWith named.names.zones.log) (sym (zones ∙ ap (λ (m : Mine). m.zones) known)) (named.zones part.who may)) (λ w apart. named.zones w)

  changes_same : (new : Mine) → new.names ≡ part.names → (who : ℕ) → who < opening.participants → BeginsWith named.names.heaps.log (with_at part.who new mine who).names
  changes_same new names =
      each (λ w m. w < opening.participants → BeginsWith named.names.heaps.log m.names) part.who new mine
      (λ may. subst (BeginsWith named.names.heaps.log) (sym (names ∙ ap (λ (m : Mine). m.names) known)) (named.heaps part.who may)) (λ w apart. named.heaps w)

  -- what was seen of the names stays, and so do the values
  pub named_same : (new : Mine) → new.zones ≡ part.zones → new.names ≡ part.names → AreNamed opening kept (with_at part.who new mine)
  named_same new zones names = record {
    names = named.names;
    there = named.there;
    zones = zones_same new zones;
    heaps = changes_same new names;
    reserved = named.reserved;
  }

  -- all of the names was seen
  named_all : (new : Mine) → new.zones ≡ named.names.zones.log → new.names ≡ named.names.heaps.log → AreNamed opening kept (with_at part.who new mine)
  named_all new zones names = record {
    names = named.names;
    there = named.there;
    zones = each (λ w m. w < opening.participants → BeginsWith named.names.zones.log m.zones) part.who new mine
        (λ may. subst (BeginsWith named.names.zones.log) (sym zones) (front_itself named.names.zones.log)) (λ w apart. named.zones w);
    heaps = each (λ w m. w < opening.participants → BeginsWith named.names.heaps.log m.names) part.who new mine
        (λ may. subst (BeginsWith named.names.heaps.log) (sym names) (front_itself named.names.heaps.log)) (λ w apart. named.heaps w);
    reserved = named.reserved;
  }

  -- a slot is taken
  pub named_take : (slot : ℕ) (learned : Learned) → IsKeptAt opening slot (kept slot) → AreNamed opening kept (with_at part.who (after_take slot (kept slot) learned part) mine)
  named_take slot learned at = by (kept slot) refl at
    where
      by : (value : Kept) → kept slot ≡ value → IsKeptAt opening slot value → AreNamed opening kept (with_at part.who (after_take slot (kept slot) learned part) mine)
      by (Heap heap pen) is at =
          subst (λ (v : Kept). AreNamed opening kept (with_at part.who (after_take slot v learned part) mine)) (sym is)
          (named_same (after_take slot (Heap heap pen) learned part) refl refl)
      by (Segments segs) is at =
          subst (λ (v : Kept). AreNamed opening kept (with_at part.who (after_take slot v learned part) mine)) (sym is)
          (named_same (after_take slot (Segments segs) learned part) refl refl)
      by (Names names) is at =
          let both : Names names ≡ Names named.names = sym is ∙ (ap kept at.last ∙ named.there) in
          subst (λ (v : Kept). AreNamed opening kept (with_at part.who (after_take slot v learned part) mine)) (sym (is ∙ both))
          (named_all (after_take slot (Names named.names) learned part) refl refl)

  module _ (heaps : AreKept opening kept mine) (declared : part.who < opening.participants) (slot : ℕ) (taken given : Kept) (taken_is : kept slot ≡ taken)
      (own : List Entry) (history : history_of given ≡ history_of taken ++ own) where
    -- where an allocation was answered, one still was
    reserved_on : (zone : Zone) → IsReserved kept zone → IsReserved (with_at slot given kept) zone
    reserved_on zone was = record {
      below = was.below;
      allocated =
          each (λ k v. IsAllocated zone.addr (history_of (kept k)) → IsAllocated zone.addr (history_of v)) slot given kept
          (λ is. allocated_on zone.addr (history_of taken) own (history_of given) history (subst (λ (v : Kept). IsAllocated zone.addr (history_of v)) taken_is is))
          (λ k apart is. is) zone.heap was.allocated;
    }

    -- and one was where the giver says so, in a heap that is home or as it was taken
    reserved_new : (zone : Zone) → IsAllocated zone.addr (made_in zone.heap part) → IsReserved kept zone
    reserved_new zone is =
        let placed : All (λ (pair : ℕ × Entry). pair.0 < SLOTS) part.made =
        subst (λ (m : Mine). All (λ (pair : ℕ × Entry). pair.0 < SLOTS) m.made) (sym known) (heaps.placed part.who declared) in
        let low : zone.heap < SLOTS = placed_low zone.heap part.made is.entry placed is.there in
        let entries : entries_of part.who (history_of (kept zone.heap)) ≡ made_in zone.heap part =
        heaps.own part.who zone.heap declared low ∙ ap (made_in zone.heap) (sym known) in
        let there : Contains (history_of (kept zone.heap)) is.entry =
        one_of part.who (history_of (kept zone.heap)) is.entry (subst (λ (l : List Entry). Contains l is.entry) (sym entries) is.there) in
        record {
          below = heap_low opening zone.heap (kept zone.heap) is.entry (heaps.at zone.heap low) there;
          allocated = record { entry = is.entry; there = there; at = is.at };
        }

    -- a value that is no names is given
    named_else : slot ≢ NAMES_SLOT → (new : Mine) → new.zones ≡ part.zones → new.names ≡ part.names → AreNamed opening (with_at slot given kept) (with_at part.who new mine)
    named_else apart new zones names = record {
      names = named.names;
      there = with_at-else slot given kept NAMES_SLOT (λ same. apart (sym same)) ∙ named.there;
      zones = zones_same new zones;
      heaps = changes_same new names;
      reserved = λ zone has. reserved_on zone (named.reserved zone has);
    }

  module _ (heaps : AreKept opening kept mine) (declared : part.who < opening.participants) (slot : ℕ) where
    -- names are given
    named_on : (given : NamesView) → slot ≡ NAMES_SLOT → (gives : GivesTheNames (knows_of part) named.names given)
        → AreNamed opening (with_at slot (Names given) kept) (with_at part.who (after_give slot (Names given) part) mine)
    named_on given last gives =
        let on = gives.names.goes_on in
        let value : kept slot ≡ Names named.names = ap kept last ∙ named.there in
        let later = reserved_on heaps declared slot (Names named.names) (Names given) value [] refl in
        record {
          names = given;
          there = ap (with_at slot (Names given) kept) (sym last) ∙ with_at-here slot (Names given) kept;
          zones = each (λ w m. w < opening.participants → BeginsWith given.zones.log m.zones) part.who (after_give slot (Names given) part) mine
              (λ _. front_itself given.zones.log)
              (λ w apart may. front_on named.names.zones.log given.zones.log (mine w).zones (on.more_zones, on.zones) (named.zones w may));
          heaps = each (λ w m. w < opening.participants → BeginsWith given.heaps.log m.names) part.who (after_give slot (Names given) part) mine
              (λ _. front_itself given.heaps.log)
              (λ w apart may. front_on named.names.heaps.log given.heaps.log (mine w).names (on.more_heaps, on.heaps) (named.heaps w may));
          reserved = λ zone has.
              ⊎_elim
              (λ old. later zone (named.reserved zone old))
              (λ new. later zone (reserved_new heaps declared slot (Names named.names) (Names given) value [] refl zone (gives.names.allocated zone new)))
              (Contains-append_cases named.names.zones.log on.more_zones (Put zone) (subst (λ (l : List ZoneChange). Contains l (Put zone)) on.zones has));
        }

    -- what a give leaves, once the slot's value is known
    abbrev GoesOn : Kept → Kept → Type 0
    GoesOn taken given = kept slot ≡ taken → IsKeptAt opening slot taken → (own : List Entry) → history_of given ≡ history_of taken ++ own
        → AreNamed opening (with_at slot given kept) (with_at part.who (after_give slot given part) mine)

    -- a value is given
    pub named_give : (taken given : Kept) → GivesAt (knows_of part) taken given → GoesOn taken given
    named_give = by_gives (knows_of part) GoesOn of_heap of_segs of_names
      where
        of_heap : (taken given : HeldHeap) → GivesHeldAt (knows_of part) taken given → GoesOn (Heap taken.heap taken.pen) (Heap given.heap given.pen)
        of_heap taken given gives is at own history =
            let below = at.heap.below in
            named_else heaps declared slot (Heap taken.heap taken.pen) (Heap given.heap given.pen) is own history (λ same. omega (arith, same, below))
            (after_give slot (Heap given.heap given.pen) part) refl refl

        of_segs : (taken given : SegsView) → GivesSegments (knows_of part) taken given → GoesOn (Segments taken) (Segments given)
        of_segs taken given gives is at own history =
            let last = at.last in
            named_else heaps declared slot (Segments taken) (Segments given) is own history (λ same. omega (arith, same, last))
            (after_give slot (Segments given) part) refl refl

        of_names : (taken given : NamesView) → GivesTheNames (knows_of part) taken given → GoesOn (Names taken) (Names given)
        of_names taken given gives is at own history =
            let both : Names taken ≡ Names named.names = sym is ∙ (ap kept at.last ∙ named.there) in
            let same : taken ≡ named.names = cc in
            named_on given at.last (subst (λ (n : NamesView). GivesTheNames (knows_of part) n given) same gives)

    -- the logs of a given value go on from what its giver had seen of them
    abbrev LogsOn : Kept → Kept → Type 0
    LogsOn taken given = kept slot ≡ taken → IsKeptAt opening slot taken → BeginsWith (zones_seen given part.zones) part.zones × BeginsWith (names_seen given part.names) part.names

    pub logs_give : (taken given : Kept) → GivesAt (knows_of part) taken given → LogsOn taken given
    logs_give =
        by_gives (knows_of part) LogsOn (λ taken given gives is at. (front_itself part.zones, front_itself part.names))
        (λ taken given gives is at. (front_itself part.zones, front_itself part.names)) of_names
      where
        of_names : (taken given : NamesView) → GivesTheNames (knows_of part) taken given → LogsOn (Names taken) (Names given)
        of_names taken given gives is at =
            let both : Names taken ≡ Names named.names = sym is ∙ (ap kept at.last ∙ named.there) in
            let same : named.names ≡ taken = cc in
            let on = gives.names.goes_on in (
              front_on taken.zones.log given.zones.log part.zones (on.more_zones, on.zones)
                  (subst (λ (n : NamesView). BeginsWith n.zones.log part.zones) same (subst (λ (m : Mine). BeginsWith named.names.zones.log m.zones) (sym known) (named.zones part.who declared))),
              front_on taken.heaps.log given.heaps.log part.names (on.more_heaps, on.heaps)
                  (subst (λ (n : NamesView). BeginsWith n.heaps.log part.names) same (subst (λ (m : Mine). BeginsWith named.names.heaps.log m.names) (sym known) (named.heaps part.who declared))),
            )
