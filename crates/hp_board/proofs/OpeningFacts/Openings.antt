-- A new board meets its rule.
use Rattle.std.proofs.Common.{◌≡◌, ℕ, zero, suc, ◌+◌, ◌<◌, ◌≤◌, ◌^◌, ⊎_elim, Bool, true, false, cond, eqb, List, [], ◌∷◌, map, length, get_or, replicate, Option, Some, None, refl, sym, ap, subst, ◌∙◌, arith, lit<}
use Rattle.std.specs.List.{Contains, All, slice_get, range_with_len}
use Rattle.std.proofs.lemmas.List.{length-map, get_or-map}
use Rattle.std.proofs.lemmas.List.Elements.{All-cons, All-nil}
use Rattle.std.proofs.lemmas.List.FromFn.{length-range_with_len, get_or-range_with_len}
use Rattle.std.proofs.lemmas.Option.{slice_get-get_or, slice_get-map}
use mathlib.Core.Option.{some, some-injective, some-ne-none}
use lib.ListN.{get_elem?}
use Rattle.atomic_table.specs.Table.{opening}
use Rattle.hp_heap.specs.History.{HeapView, IsSound, entries_of}
use Rattle.hp_heap.specs.PlainHeap.{opening_heap}
use Rattle.hp_heap.specs.declared.entry.Entry.{Entry}
use Rattle.hp_hall.specs.declared.kept.Kept.TheVariants.{Heap, Names, Segments}
use Rattle.hp_hall.specs.declared.slot.TheConstants.{NAMES_SLOT}
use Rattle.hp_zone.specs.Directory.{IsDirectory}
use Rattle.hp_zone.specs.Zones.{IsZones}
use Rattle.hp_zone.specs.declared.names.Names.{Names as NamesView}
use Rattle.hp_zone.specs.declared.zone.ZoneChange.{ZoneChange}
use Rattle.hp_board.specs.declared.opening.Opening.{Opening}
use Rattle.hp_board.specs.declared.view.Mine.{Mine}
use Rattle.hp_board.specs.declared.view.View.{View}
use Rattle.hp_board.specs.BoardRule.{IsBoard}
use Rattle.hp_base.specs.declared.limits.TheConstants.{MAX_HEAPS, MAX_PARTICIPANTS}
use Rattle.hp_hall.specs.declared.kept.Kept.{Kept}
use Rattle.hp_hall.specs.Holding.{HasHolding}
use Rattle.hp_hall.specs.Values.{history_of, marks_of}
use Rattle.hp_segs.specs.Standing.{standing_of}
use Rattle.hp_zone.specs.declared.zone.ZoneChange.TheVariants.{Put}
use Rattle.hp_segs.specs.Sound as segments
use Rattle.hp_stats.specs.StatViews.{PenView, new_pen}
use Rattle.atomic_table.specs.Seated.{TableId}
use Rattle.std.specs.Option.{option_map}
use Rattle.hp_segs.specs.SegsView.{SegsView, is_member}
use Rattle.hp_segs.specs.declared.outcome.AskLog.{AskLog}
use Rattle.hp_board.specs.declared.words.TheConstants.{SLOTS, WORDS}
use Rattle.hp_board.specs.KeptValues.{IsKeptAt, IsPenAt}
use Rattle.hp_board.specs.Lines.{IsMarkOf}
use Rattle.hp_board.specs.Words.{ack_word, done_word}
use Rattle.hp_board.specs.Moved.{slots_of}
use Rattle.hp_board.specs.MovesKept.{OpensWith}
use Rattle.hp_board.specs.Ownership.{HasBegun, IsOwnedIn}
use Rattle.std.proofs.lemmas.Bool.{cases_lt}
use Rattle.hp_board.specs.Served.{serves_of, AreOpeningHeaps, AreOpeningNames, AreOpeningPens, AreOpeningSegs}
use Rattle.hp_board.specs.Views.{newcomer, none_done}
use Rattle.hp_board.proofs.StepsOfSeats.LinesSteps.{IsWithin}
use Rattle.hp_board.specs.Parts.{parts_from, whole_view}
use Rattle.hp_board.proofs.Histories.{entries_of-nil}
use Rattle.hp_stats.specs.declared.stat_pair.StatPair.{StatPair}
use Rattle.hp_board.proofs.StepsOfSeats.ClaimedSteps.{claimed_at_home}
use Rattle.hp_board.proofs.StepsOfSeats.LockSteps.{held_no}
use Rattle.hp_board.proofs.OwnershipFacts.StandingGrows.{begun_has}
use Rattle.hp_board.specs.Agreed.{AreNamesAgreed, naming_in}
use Rattle.hp_board.proofs.OpeningFacts.OpeningNamed.{bare_naming, opening_agrees}
use Rattle.hp_board.proofs.OpeningFacts.OpeningOwned.{bare_armed, bare_marks, bare_pending, bare_standing, heap_bare}

-- what stands for a heap past the last
abbrev no_heap : HeapView
no_heap = record { plain = opening_heap 0 None; lists = []; history = []; spare = 0 }

abbrev heap_at : List HeapView → ℕ → HeapView
heap_at heaps slot = get_or heaps slot no_heap

-- the part of a new view
part_is : (o : Opening) (who count : ℕ) (part : Mine) → Contains (parts_from o who count) part → (part ≡ newcomer o part.who) × (part.who < who + count)
part_is o who count part (k, inside, is) =
    let long : k < count = omega (arith, length-map (range_with_len who count) (newcomer o), length-range_with_len who count) in
    let place : newcomer o (who + k) ≡ part =
    ap (newcomer o) (sym (get_or-range_with_len who count k 0 long)) ∙ sym (get_or-map (newcomer o) (range_with_len who count) k 0 part (omega (arith, length-range_with_len who count))) ∙ is in
    let number : who + k ≡ part.who = ap (λ (m : Mine). m.who) place in
    (sym place ∙ ap (newcomer o) number, omega arith)

-- the lock words of a new board
pub zeros : (count slot : ℕ) → let none : ℕ = 0 in get_or (replicate count none) slot none ≡ none
zeros zero slot = refl
zeros (suc count) zero = refl
zeros (suc count) (suc slot) = zeros count slot

-- what the slots of a new board have
kept_in : List HeapView → List PenView → SegsView → NamesView → ℕ → Kept
kept_in [] pens segs names zero = Segments segs
kept_in [] pens segs names (suc slot) = Names names
kept_in (heap ∷ heaps) [] segs names slot = Segments segs
kept_in (heap ∷ heaps) (pen ∷ pens) segs names zero = Heap heap pen
kept_in (heap ∷ heaps) (pen ∷ pens) segs names (suc slot) = kept_in heaps pens segs names slot

-- the slot of a heap has that with the pen of its place
record IsHeapIn (heaps : List HeapView) (pens : List PenView) (segs : SegsView) (names : NamesView) (slot : ℕ) : Type 0 where
  pen : PenView
  its : slice_get pens slot ≡ Some pen
  is : kept_in heaps pens segs names slot ≡ Heap (heap_at heaps slot) pen

kept_heap : (heaps : List HeapView) (pens : List PenView) (segs : SegsView) (names : NamesView) (slot : ℕ) → slot < length heaps → length pens ≡ length heaps
    → IsHeapIn heaps pens segs names slot
unfolding kept_in
kept_heap [] pens segs names slot inside many = absurd (omega (arith, inside))
kept_heap (heap ∷ heaps) [] segs names slot inside many = absurd (omega (arith, many))
kept_heap (heap ∷ heaps) (pen ∷ pens) segs names zero inside many = record { pen = pen; its = refl; is = refl }
kept_heap (heap ∷ heaps) (pen ∷ pens) segs names (suc slot) inside many =
    let rest = kept_heap heaps pens segs names slot (omega (arith, inside)) (omega (arith, many)) in
    record { pen = rest.pen; its = rest.its; is = rest.is }

kept_segs : (heaps : List HeapView) (pens : List PenView) (segs : SegsView) (names : NamesView) (slot : ℕ) → slot ≡ length heaps → length pens ≡ length heaps
    → kept_in heaps pens segs names slot ≡ Segments segs
unfolding kept_in
kept_segs [] pens segs names zero is many = refl
kept_segs [] pens segs names (suc slot) is many = absurd (omega (arith, is))
kept_segs (heap ∷ heaps) [] segs names slot is many = refl
kept_segs (heap ∷ heaps) (pen ∷ pens) segs names zero is many = absurd (omega (arith, is))
kept_segs (heap ∷ heaps) (pen ∷ pens) segs names (suc slot) is many = kept_segs heaps pens segs names slot (omega (arith, is)) (omega (arith, many))

kept_names : (heaps : List HeapView) (pens : List PenView) (segs : SegsView) (names : NamesView) (slot : ℕ) → slot ≡ length heaps + 1 → length pens ≡ length heaps
    → kept_in heaps pens segs names slot ≡ Names names
unfolding kept_in
kept_names [] pens segs names zero is many = absurd (omega (arith, is))
kept_names [] pens segs names (suc slot) is many = refl
kept_names (heap ∷ heaps) [] segs names slot is many = absurd (omega (arith, many))
kept_names (heap ∷ heaps) (pen ∷ pens) segs names zero is many = absurd (omega (arith, is))
kept_names (heap ∷ heaps) (pen ∷ pens) segs names (suc slot) is many = kept_names heaps pens segs names slot (omega (arith, is)) (omega (arith, many))

-- there is a slot for each heap, and two more
pub count_slots : (heaps : List HeapView) (pens : List PenView) (segs : SegsView) (names : NamesView) → length pens ≡ length heaps
    → length (slots_of heaps pens segs names) ≡ length heaps + 2
count_slots [] pens segs names many = refl
count_slots (heap ∷ heaps) [] segs names many = absurd (omega (arith, many))
count_slots (heap ∷ heaps) (pen ∷ pens) segs names many = omega (arith, count_slots heaps pens segs names (omega (arith, many)))

-- the value of a slot is at home
home_is : (heaps : List HeapView) (pens : List PenView) (segs : SegsView) (names : NamesView) (slot : ℕ) → slot < length heaps + 2 → length pens ≡ length heaps
    → get_elem? (map some (slots_of heaps pens segs names)) slot ≡ some (some (Some (kept_in heaps pens segs names slot)))
unfolding kept_in
home_is [] pens segs names zero inside many = refl
home_is [] pens segs names (suc zero) inside many = refl
home_is [] pens segs names (suc (suc slot)) inside many = absurd (omega (arith, inside))
home_is (heap ∷ heaps) [] segs names slot inside many = absurd (omega (arith, many))
home_is (heap ∷ heaps) (pen ∷ pens) segs names zero inside many = refl
home_is (heap ∷ heaps) (pen ∷ pens) segs names (suc slot) inside many = home_is heaps pens segs names slot (omega (arith, inside)) (omega (arith, many))

-- what holds of each heap in its slot, of the segment value and of the names holds of every slot
each_kept : (heaps : List HeapView) (pens : List PenView) (segs : SegsView) (names : NamesView) → length heaps ≡ MAX_HEAPS → length pens ≡ length heaps → (P : ℕ → Kept → Type 0)
    → ((slot : ℕ) (pen : PenView) → slot < MAX_HEAPS → slice_get pens slot ≡ Some pen → P slot (Heap (heap_at heaps slot) pen))
    → ((slot : ℕ) → slot ≡ MAX_HEAPS → P slot (Segments segs)) → ((slot : ℕ) → slot ≡ NAMES_SLOT → P slot (Names names))
    → (slot : ℕ) → slot < SLOTS → P slot (kept_in heaps pens segs names slot)
each_kept heaps pens segs names count many P of_heap of_segs of_names slot within =
    ⊎_elim
    (λ below.
    let one = kept_heap heaps pens segs names slot (omega (arith, below, count)) many in
    subst (P slot) (sym one.is) (of_heap slot one.pen below one.its))
    (λ above.
    ⊎_elim
    (λ next. let is : slot ≡ MAX_HEAPS = omega (arith, above, next) in subst (P slot) (sym (kept_segs heaps pens segs names slot (omega (arith, is, count)) many)) (of_segs slot is))
    (λ last. let is : slot ≡ NAMES_SLOT = omega (arith, last, within) in subst (P slot) (sym (kept_names heaps pens segs names slot (omega (arith, is, count)) many)) (of_names slot is))
    (cases_lt slot NAMES_SLOT))
    (cases_lt slot MAX_HEAPS)

-- the pen of a place is that of its cell, and nothing was published by it
new_at : (cell : Option TableId) (pen : PenView) → option_map new_pen cell ≡ Some pen → (cell ≡ Some pen.cell) × (pen.published ≡ [])
new_at None pen is = absurd (cc)
new_at (Some cell) pen is =
    let same : new_pen cell ≡ pen = cc in
    (ap (λ (p : PenView). Some p.cell) same, ap (λ (p : PenView). p.published) (sym same))

pen_at : (o : Opening) (pens : List PenView) (slot : ℕ) (heap : HeapView) (pen : PenView) → pens ≡ map new_pen o.cells.value → slice_get pens slot ≡ Some pen
    → IsPenAt o slot heap pen
pen_at o pens slot heap pen are is =
    let new = new_at (slice_get o.cells.value slot) pen (sym (slice_get-map new_pen o.cells.value slot) ∙ (ap (λ (l : List PenView). slice_get l slot) (sym are) ∙ is)) in
    record { cell = new.0; pairs = λ p among. absurd (let inside = (subst (λ (l : List StatPair). Contains l p) new.1 among).1 in omega (arith, inside)) }

same_either : (b : Bool) → let none : ℕ = 0 in cond b none none ≡ none
same_either true = refl
same_either false = refl

at_views : (view view' : View) (id : ℕ) → get_elem? (view ∷ []) id ≡ some view' → (id ≡ 0) × (view ≡ view')
at_views view view' zero is = (refl, some-injective view view' is)
at_views view view' (suc id) is = absurd (some-ne-none view' (sym is))

-- there is a pen for each heap
pub as_many : (heaps : List HeapView) (pens : List PenView) (cells : List TableId) → AreOpeningHeaps heaps → AreOpeningPens cells pens → length pens ≡ length heaps
as_many heaps pens cells are new =
    let heaps_count = are.count in
    let cells_count = new.count in
    let long = ap length new.unused in
    omega (arith, heaps_count, cells_count, long, length-map cells new_pen)

-- a board of heaps without an entry, each at its index, a segment value without a record and names without a change, with every word 0, and one
-- view for everybody
pub starts : (words : List ℕ) (heaps : List HeapView) (pens : List PenView) (segs : SegsView) (names : NamesView) (o : Opening) → length words ≡ WORDS → ((slot : ℕ) → get_or words slot 0 ≡ 0)
    → AreOpeningHeaps heaps → AreOpeningPens o.cells.value pens → All IsSound heaps → o.serves ≡ map serves_of heaps → o.participants ≤ MAX_PARTICIPANTS → AreOpeningSegs o.participants segs → segments.IsSound segs → o.segs.value ≡ segs
    → AreOpeningNames heaps names → IsZones names.zones × IsDirectory names.heaps → o.names.value ≡ names → IsBoard o (opening words (slots_of heaps pens segs names) (whole_view o))
starts words heaps pens segs names o wide free are are_pens sound serves few are-segs sound-segs same are-names sound-names same-names =
    let count = are.count in
    let many = as_many heaps pens o.cells.value are are_pens in
    let kept : ℕ → Kept = kept_in heaps pens segs names in
    let every = each_kept heaps pens segs names count many in
    let got : (slot : ℕ) → slot < MAX_HEAPS → slice_get heaps slot ≡ Some (heap_at heaps slot) = λ slot within. slice_get-get_or heaps slot no_heap (omega arith) in
    let empty : (slot : ℕ) → slot < MAX_HEAPS → (heap_at heaps slot).history ≡ [] = λ slot within. are.empty slot (heap_at heaps slot) (got slot within) in
    let segs_at : kept MAX_HEAPS ≡ Segments segs = kept_segs heaps pens segs names MAX_HEAPS (omega (arith, count)) many in
    let names_at : kept NAMES_SLOT ≡ Names names = kept_names heaps pens segs names NAMES_SLOT (omega (arith, count)) many in
    let none : (slot : ℕ) → slot < SLOTS → history_of (kept slot) ≡ [] =
    every (λ slot v. history_of v ≡ []) (λ slot pen below its. empty slot below) (λ slot is. refl) (λ slot is. refl) in
    let at_opening : (slot : ℕ) → slot < SLOTS → IsKeptAt o slot (kept slot) =
    every (IsKeptAt o)
    (λ slot pen below its. record {
      heap = record {
        below = below;
        sound = sound slot no_heap (omega arith);
        index = are.index slot (heap_at heaps slot) (got slot below);
        serves = ap (λ (l : List (Option ℕ)). slice_get l slot) serves ∙ slice_get-map serves_of heaps slot ∙ ap (option_map serves_of) (got slot below);
      };
      pen = pen_at o pens slot (heap_at heaps slot) pen are_pens.unused its;
    })
    (λ slot is. record { last = is; sound = sound-segs })
    (λ slot is. record { last = is; zones = sound-names.0; heaps = sound-names.1; sockets = ap (λ (n : NamesView). n.heaps.sockets) (sym same-names) }) in
    let bare : (slot : ℕ) → slot < MAX_HEAPS → HasHolding (heap_at heaps slot) (standing_of slot segs) =
    λ slot below. heap_bare slot (heap_at heaps slot) segs (sound slot no_heap (omega arith)) (empty slot below) (bare_standing segs sound-segs are-segs.log are-segs.asks slot) in
    let unmarked : (who slot : ℕ) → slot < SLOTS → marks_of who (kept slot) ≡ [] =
    λ who. every (λ slot v. marks_of who v ≡ []) (λ slot pen below its. bare_marks who (heap_at heaps slot) (sound slot no_heap (omega arith)) (empty slot below))
    (λ slot is. refl) (λ slot is. refl) in
    let member : (who : ℕ) → is_member o.segs.value.roster who ≡ is_member segs.roster who = λ who. ap (λ (v : SegsView). is_member v.roster who) same in
    let agreed : AreNamesAgreed o.participants words kept (newcomer o) =
    record {
      names = names;
      there = names_at;
      segs = segs;
      segs_there = segs_at;
      home = λ _. opening_agrees heaps names segs.ranges are-names sound-names are-segs.ranges (λ slot. naming_in (kept slot)) (λ slot below.
          let one = kept_heap heaps pens segs names slot (omega (arith, count, below)) many in
          record {
            heap = heap_at heaps slot;
            there = got slot below;
            is = ap naming_in one.is;
            bare = bare_naming (heap_at heaps slot) (sound slot no_heap (omega (arith, count, below))) (empty slot below);
          });
      holder = λ who may is. absurd (let none-held = free NAMES_SLOT in omega (arith, is, none-held));
      others = λ who may apart. record { namings = refl; claims = refl };
    } in
    record {
      kept = kept;
      mine = newcomer o;
      seat_of = λ who. 0;
      words = wide;
      few = few;
      seated = record {
        part = λ seat view part at has.
            let one = at_views (whole_view o) view seat at in
            let its = part_is o 0 o.participants part (subst (λ (v : View). Contains v.parts part) (sym one.1) has) in
            record { declared = let low = its.1 in omega arith; known = its.0; there = sym one.0 };
      };
      locked = record {
        low = λ slot within. let none-held = free slot in omega arith;
        home = λ slot within _. home_is heaps pens segs names slot (omega arith) many;
        held = λ who slot may within. sym (held_no who (get_or words slot 0) (kept slot) (λ is. let none-held = free slot in omega arith));
      };
      heaps = record {
        at = at_opening;
        own = λ who slot may within. ap (entries_of who) (none slot within) ∙ entries_of-nil who;
        strange = λ who slot may within. ap (entries_of who) (none slot within) ∙ entries_of-nil who;
        numbered = λ who may. tt;
        placed = λ who may. All-nil (λ (pair : ℕ × Entry). pair.0 < SLOTS);
      };
      prefixes = record {
        opened = λ who may. refl;
        seen = λ who slot may within. (history_of (kept slot), refl);
      };
      marked = record {
        own = λ who slot may within. unmarked who slot within;
        strange = λ who slot strange within. unmarked who slot within;
      };
      named = record {
        names = names;
        there = names_at;
        zones = λ who may. (names.zones.log, refl);
        heaps = λ who may. (names.heaps.log, refl);
        reserved = λ zone has. absurd (let inside = (subst (λ (l : List ZoneChange). Contains l (Put zone)) are-names.zones has).1 in omega (arith, inside));
      };
      agreed = agreed;
      claimed = claimed_at_home o.participants words kept (newcomer o) agreed (free NAMES_SLOT);
      lines = record {
        told = λ who may. free (done_word who);
        few = λ who may. subst (λ (n : ℕ). n < 2 ^ 32) (sym (free (done_word who))) (lit< tt);
        known = λ who other may may'. let zero-word = free (done_word other) in let nothing = same_either (eqb other who) in omega (arith, zero-word, nothing);
        some = λ who may. omega arith;
        marks = λ who may.
            All-cons (IsMarkOf (newcomer o who)) none_done [] (record { lines = omega arith; entries = omega arith; zones = omega arith; names = omega arith })
            (All-nil (IsMarkOf (newcomer o who)));
        within = λ who may. All-nil (IsWithin (newcomer o who));
        awaited = λ who other awaited may may' has. absurd (let inside = has.1 in omega (arith, inside));
      };
      segments = record {
        segs = segs;
        there = segs_at;
        told = λ who may. record {
          its = refl;
          own = free (ack_word who);
          noted = λ other low. let zero-word = free (ack_word other) in let nothing = same_either (eqb other who) in omega (arith, zero-word, nothing);
        };
        lagging = λ who may. record {
          log = (segs.log, refl);
          heard = (segs.asks, refl);
          behind = omega arith;
          within = omega arith;
          joined = sym (member who);
          joining = λ is. absurd (cc);
        };
        agreed = λ entry generation member among granted its. absurd (let inside = (subst (λ (l : List AskLog). Contains l entry) are-segs.asks among).1 in omega arith);
        roster = are-segs.roster;
      };
      owned = record {
        segs = segs;
        there = segs_at;
        owners = λ who may. record { armed = are-segs.armed who; known = λ heap. refl; asking = λ ask is. absurd (cc) };
        home = λ slot within _. every (IsOwnedIn segs) (λ slot pen below its. bare slot below) (λ slot is. tt) (λ slot is. tt) slot within;
        begun = every (HasBegun segs) (λ slot pen below its. begun_has segs slot (heap_at heaps slot) pen (bare slot below)) (λ slot is. tt) (λ slot is. tt);
        none = λ heap high. bare_standing segs sound-segs are-segs.log are-segs.asks heap;
        armed = bare_armed segs sound-segs are-segs.log are-segs.asks;
        pending = bare_pending segs sound-segs are-segs.log are-segs.asks;
        nobody = λ who strange. are-segs.armed who;
      };
      moved = record {
        first = kept;
        moves = [];
        opened = λ slot within. record {
          at = at_opening slot within;
          empty = none slot within;
          opens = every (λ slot v. OpensWith o v) (λ slot pen below its. tt) (λ slot is. sym same) (λ slot is. sym same-names) slot within;
        };
        replay = record { value = λ slot within. refl; word = λ slot within. free slot };
        own = λ who may. refl;
        strange = λ who strange. refl;
      };
    }
