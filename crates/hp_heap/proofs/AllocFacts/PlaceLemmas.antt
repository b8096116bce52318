-- Elements that a filter keeps rise, and what has a place for a request.
use Rattle.std.proofs.Common.{◌≡◌, ℕ, ◌-◌, ◌≤◌, Bool, true, false, cond, List, [], ◌∷◌, refl, arith, Option, Some, None, is_some, MatchOption}
use Rattle.std.proofs.lemmas.Bool.{false≢true}
use Rattle.std.specs.List.{filter}
use Rattle.hp_base.specs.Class.{class_number}
use Rattle.hp_base.specs.Place.{place_of, IsPlace, HasNoPlace}
use Rattle.hp_base.specs.declared.span.Span.{Span}
use Rattle.hp_base.specs.declared.request.Request.{Request}
use Rattle.hp_base.proofs.ClassLemmas.{class_monotone, class_number-is_class}
use Rattle.hp_base.proofs.Places.{place_of-is-place}
use Rattle.hp_heap.specs.PlainHeap.{end_of}
use Rattle.hp_heap.specs.Tiling.{IsRisingFrom}
use Rattle.hp_heap.specs.Lists.{range_class}
use Rattle.hp_heap.specs.FreeSearch.{has_place}
use Rattle.hp_heap.proofs.RangeLemmas.{rising_lower}

-- elements kept by a filter rise as all do
kept_rising : (p : Span → Bool) (from : ℕ) (x : Span) (xs : List Span) (b : Bool) → from ≤ x.addr → IsRisingFrom (end_of x) (filter p xs) → IsRisingFrom from (cond b (x ∷ filter p xs) (filter p xs))
kept_rising p from x xs true low rising = (low, rising)
kept_rising p from x xs false low rising = rising_lower from (end_of x) (filter p xs) (omega arith) rising

pub filter-rising : (p : Span → Bool) (from : ℕ) (xs : List Span) → IsRisingFrom from xs → IsRisingFrom from (filter p xs)
filter-rising p from [] rising = tt
filter-rising p from (x ∷ xs) rising = kept_rising p from x xs (p x) rising.0 (filter-rising p (end_of x) xs rising.1)

-- an element that is not larger than a request has no place for it
no_place_by : (range : Span) (request : Request) (o : Option ℕ) → range.whole ≤ request.size → MatchOption o (HasNoPlace range.addr (end_of range) request) (IsPlace range.addr (end_of range) request) → false ≡ is_some o
no_place_by range request None small law = refl
no_place_by range request (Some d) small law = absurd (omega (arith, law.room.behind, law.room.before))

pub no_place : (range : Span) (request : Request) → range.whole ≤ request.size → false ≡ has_place request range
no_place range request small = no_place_by range request (place_of range.addr (end_of range) request) small (place_of-is-place range.addr (end_of range) request)

-- one that has a place for it has its bytes behind the header
has_bytes_by : (range : Span) (request : Request) (o : Option ℕ) → is_some o ≡ true → MatchOption o (HasNoPlace range.addr (end_of range) request) (IsPlace range.addr (end_of range) request) → request.size ≤ range.whole - 128
has_bytes_by range request None some law = absurd (false≢true some)
has_bytes_by range request (Some d) some law = omega (arith, law.room.behind, law.room.before)

-- and is of no lower class
pub place_class : (range : Span) (request : Request) → has_place request range ≡ true → class_number request.size ≤ range_class range
place_class range request has =
    class_monotone request.size (class_number request.size) (range.whole - 128) (class_number (range.whole - 128)) (class_number-is_class request.size) (class_number-is_class (range.whole - 128))
    (has_bytes_by range request (place_of range.addr (end_of range) request) has (place_of-is-place range.addr (end_of range) request))
