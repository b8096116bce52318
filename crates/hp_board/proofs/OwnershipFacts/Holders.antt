-- Who holds a heap, by its view and by the lock words; and what its view knows of heaps.
use Rattle.std.proofs.Common.{◌≡◌, ◌∙◌, ℕ, ◌+◌, ◌<◌, ◌≤◌, Bool, true, false, cond, eqb, eqb-true, ltb, ◌&&◌, List, [], ◌∷◌, map, get_or, Option, Some, None, refl, sym, ap, arith}
use Rattle.std.specs.Option.{is_some, option_map}
use Rattle.std.proofs.lemmas.Bool.{and_from, and_parts, and_right, false≢true, le-ltb, lt-ltb, ltb-true}
use Rattle.std.proofs.lemmas.Option.{same_Some}
use mathlib.Core.Option as maybe
use Rattle.hp_base.specs.declared.limits.TheConstants.{MAX_HEAPS}
use Rattle.hp_segs.specs.SegsView.{SegsView}
use Rattle.hp_segs.specs.Standing.{Holding, standing_of}
use Rattle.hp_hall.specs.declared.kept.Kept.{Kept}
use Rattle.hp_board.specs.Knowing.{holds_heap}
use Rattle.hp_board.specs.Locks.{AreLocked}
use Rattle.hp_board.specs.Ownership.{holding_by}
use Rattle.hp_board.specs.Views.{value_of}
use Rattle.hp_board.specs.declared.view.Mine.{Mine}
use Rattle.hp_board.proofs.StepsOfSeats.LockSteps.{held_means}

-- it holds the heap whose slot's value it has in hand
pub holds_yes : (heap : ℕ) (mine : Mine) (kept : Kept) → heap < MAX_HEAPS → value_of heap mine.held ≡ Some kept → holds_heap heap mine ≡ true
holds_yes heap mine kept below is = and_from (is_some (value_of heap mine.held)) (ltb heap MAX_HEAPS) (ap is_some is) (lt-ltb heap MAX_HEAPS below)

-- and no other
pub holds_no : (heap : ℕ) (mine : Mine) → value_of heap mine.held ≡ None → holds_heap heap mine ≡ false
holds_no heap mine is = ap (λ (o : Option Kept). is_some o && ltb heap MAX_HEAPS) is

pub holds_beyond : (heap : ℕ) (mine : Mine) → MAX_HEAPS ≤ heap → holds_heap heap mine ≡ false
holds_beyond heap mine high = and_right (is_some (value_of heap mine.held)) (ltb heap MAX_HEAPS) (le-ltb heap MAX_HEAPS high)

pub holds_alike : (heap : ℕ) (mine other : Mine) → value_of heap other.held ≡ value_of heap mine.held → holds_heap heap other ≡ holds_heap heap mine
holds_alike heap mine other same = ap (λ (o : Option Kept). is_some o && ltb heap MAX_HEAPS) same

some_is : (held : Option Kept) → is_some held ≡ true → (kept : Kept) × (held ≡ Some kept)
some_is None is = absurd (false≢true is)
some_is (Some kept) is = (kept, refl)

-- who holds a heap has that one's lock word
pub holds_word : (participants : ℕ) (words : List ℕ) (homes : List (maybe.Option (Option Kept))) (kept : ℕ → Kept) (mine : ℕ → Mine) → AreLocked participants words homes kept mine
    → (who heap : ℕ) → who < participants → holds_heap heap (mine who) ≡ true → (heap < MAX_HEAPS) × (get_or words heap 0 ≡ who + 1)
holds_word participants words homes kept mine locked who heap may is =
    let parts = and_parts (is_some (value_of heap (mine who).held)) (ltb heap MAX_HEAPS) is in
    let below = ltb-true heap MAX_HEAPS parts.1 in
    let its = some_is (value_of heap (mine who).held) parts.0 in
    (below, (held_means who (get_or words heap 0) (kept heap) its.0 (sym (locked.held who heap may (omega (arith, below))) ∙ its.1)).0)

-- what is known of a heap is what the segment value has for it, and the heap is held
pub known_if : (holds : Bool) (heap : ℕ) (segs : SegsView) (holding : Holding) → holding_by holds heap segs ≡ Some holding → (holds ≡ true) × (holding ≡ standing_of heap segs)
known_if true heap segs holding is = (refl, sym (same_Some (standing_of heap segs) holding is))
known_if false heap segs holding is = absurd (cc)

pub known_yes : (holds : Bool) (heap : ℕ) (segs : SegsView) → holds ≡ true → holding_by holds heap segs ≡ Some (standing_of heap segs)
known_yes holds heap segs is = ap (λ (b : Bool). holding_by b heap segs) is

pub known_no : (holds : Bool) (heap : ℕ) (segs : SegsView) → holds ≡ false → holding_by holds heap segs ≡ None
known_no holds heap segs is = ap (λ (b : Bool). holding_by b heap segs) is

-- what is known of a heap where a segment value has been given
told_of : (heap : ℕ) (segs : SegsView) (pair : ℕ × Holding) (told : Option Holding) (pairs : List (ℕ × Holding)) (same : Bool) → eqb pair.0 heap ≡ same
    → told ≡ option_map (λ holding. standing_of heap segs) (value_of heap pairs)
    → cond same (Some (standing_of pair.0 segs)) told ≡ option_map (λ holding. standing_of heap segs) (cond same (Some pair.1) (value_of heap pairs))
told_of heap segs pair told pairs true is rest = ap (λ (k : ℕ). Some (standing_of k segs)) (eqb-true pair.0 heap is)
told_of heap segs pair told pairs false is rest = rest

pub holdings_told : (heap : ℕ) (segs : SegsView) (holdings : List (ℕ × Holding))
    → value_of heap (map (λ pair. (pair.0, standing_of pair.0 segs)) holdings) ≡ option_map (λ holding. standing_of heap segs) (value_of heap holdings)
holdings_told heap segs [] = refl
holdings_told heap segs (pair ∷ holdings) =
    told_of heap segs pair (value_of heap (map (λ pair. (pair.0, standing_of pair.0 segs)) holdings)) holdings (eqb pair.0 heap) refl (holdings_told heap segs holdings)

pub holding_told : (holds : Bool) (heap : ℕ) (old new : SegsView) → option_map (λ holding. standing_of heap new) (holding_by holds heap old) ≡ holding_by holds heap new
holding_told true heap old new = refl
holding_told false heap old new = refl

-- what is known of a heap is the same by two values that have the same for it
pub holding_alike : (holds : Bool) (heap : ℕ) (old new : SegsView) → (holds ≡ true → standing_of heap new ≡ standing_of heap old) → holding_by holds heap old ≡ holding_by holds heap new
holding_alike true heap old new same = ap (λ (h : Holding). Some h) (sym (same refl))
holding_alike false heap old new same = refl
