-- Elements in a row: what holds of each, by rising address, and apart.
use Rattle.std.proofs.Common.{◌≡◌, ℕ, zero, suc, ◌+◌, ◌<◌, ◌≤◌, List, [], ◌∷◌, ◌++◌, length, get_or, take, drop, refl, sym, subst, arith, add-one}
use Rattle.std.proofs.lemmas.Bool.{ne_eqb, eq-eqb}
use Rattle.std.specs.List.{AllByRecursion}
use Rattle.hp_base.specs.declared.span.Span.{Span}
use Rattle.hp_heap.specs.PlainHeap.{end_of}
use Rattle.hp_heap.specs.Tiling.{IsRisingFrom, IsApart, IsApartFrom}
use Rattle.hp_heap.specs.Placing.{replaced}

module _ {X : Type 0} (P : X → Type 0) where
  pub AllByRecursion-append : (xs ys : List X) → AllByRecursion P xs → AllByRecursion P ys → AllByRecursion P (xs ++ ys)
  AllByRecursion-append [] ys all rest = rest
  AllByRecursion-append (x ∷ xs) ys all rest = (all.0, AllByRecursion-append xs ys all.1 rest)

  pub AllByRecursion-front : (xs ys : List X) → AllByRecursion P (xs ++ ys) → AllByRecursion P xs
  AllByRecursion-front [] ys all = tt
  AllByRecursion-front (x ∷ xs) ys all = (all.0, AllByRecursion-front xs ys all.1)

  pub AllByRecursion-back : (xs ys : List X) → AllByRecursion P (xs ++ ys) → AllByRecursion P ys
  AllByRecursion-back [] ys all = all
  AllByRecursion-back (x ∷ xs) ys all = AllByRecursion-back xs ys all.1

pub AllByRecursion-weaker : {X : Type 0} (P Q : X → Type 0) → ((x : X) → P x → Q x) → (xs : List X) → AllByRecursion P xs → AllByRecursion Q xs
AllByRecursion-weaker P Q weaker [] all = tt
AllByRecursion-weaker P Q weaker (x ∷ xs) all = (weaker x all.0, AllByRecursion-weaker P Q weaker xs all.1)

-- the end of the last of elements, or an address where there is none
abbrev pub last_end : ℕ → List Span → ℕ
last_end from [] = from
last_end from (x ∷ xs) = last_end (end_of x) xs

pub rising-append : (from : ℕ) (xs ys : List Span) → IsRisingFrom from xs → IsRisingFrom (last_end from xs) ys → IsRisingFrom from (xs ++ ys)
rising-append from [] ys front back = back
rising-append from (x ∷ xs) ys front back = (front.0, rising-append (end_of x) xs ys front.1 back)

pub rising-front : (from : ℕ) (xs ys : List Span) → IsRisingFrom from (xs ++ ys) → IsRisingFrom from xs
rising-front from [] ys rising = tt
rising-front from (x ∷ xs) ys rising = (rising.0, rising-front (end_of x) xs ys rising.1)

pub rising-back : (from : ℕ) (xs ys : List Span) → IsRisingFrom from (xs ++ ys) → IsRisingFrom (last_end from xs) ys
rising-back from [] ys rising = rising
rising-back from (x ∷ xs) ys rising = rising-back (end_of x) xs ys rising.1

pub rising_lower : (low from : ℕ) (xs : List Span) → low ≤ from → IsRisingFrom from xs → IsRisingFrom low xs
rising_lower low from [] below rising = tt
rising_lower low from (x ∷ xs) below rising = (omega (arith, rising.0), rising.1)

-- elements that rise up to an address lie before it
pub rising_before : (from at : ℕ) (xs : List Span) → IsRisingFrom from xs → last_end from xs ≤ at → (from ≤ at) × AllByRecursion (λ x. end_of x ≤ at) xs
rising_before from at [] rising last = (last, tt)
rising_before from at (x ∷ xs) rising last =
    let rest = rising_before (end_of x) at xs rising.1 last in
    (omega (arith, rising.0, rest.0), (rest.0, rest.1))

-- elements that rise from an address lie behind it
pub rising_behind : (from : ℕ) (xs : List Span) → IsRisingFrom from xs → AllByRecursion (λ x. from ≤ x.addr) xs
rising_behind from [] rising = tt
rising_behind from (x ∷ xs) rising =
    (rising.0, AllByRecursion-weaker (λ y. end_of x ≤ y.addr) (λ y. from ≤ y.addr) (λ y behind. omega (arith, rising.0, behind)) xs (rising_behind (end_of x) xs rising.1))

pub last_end-append : (from : ℕ) (xs ys : List Span) → last_end from (xs ++ ys) ≡ last_end (last_end from xs) ys
last_end-append from [] ys = refl
last_end-append from (x ∷ xs) ys = last_end-append (end_of x) xs ys

-- pieces in the place of an element behind others
pub replaced-at : (start : ℕ) (pieces xs : List Span) (r : Span) (ys : List Span) → AllByRecursion (λ x. x.addr < start) xs → r.addr ≡ start
    → replaced start pieces (xs ++ (r ∷ ys)) ≡ xs ++ (pieces ++ ys)
replaced-at start pieces [] r ys before is = rw (eq-eqb r.addr start is) refl
replaced-at start pieces (x ∷ xs) r ys before is =
    rw (ne_eqb x.addr start (λ same. omega (arith, before.0, same))) (rw (replaced-at start pieces xs r ys before.1 is) refl)

pub IsApartFrom-back : (x : Span) (xs ys : List Span) → IsApartFrom x (xs ++ ys) → IsApart ys
IsApartFrom-back x [] [] apart = tt
IsApartFrom-back x [] (y ∷ ys) apart = apart.1
IsApartFrom-back x (z ∷ xs) ys apart = IsApartFrom-back z xs ys apart.1

pub IsApart-back : (xs ys : List Span) → IsApart (xs ++ ys) → IsApart ys
IsApart-back [] ys apart = apart
IsApart-back (x ∷ xs) ys apart = IsApartFrom-back x xs ys apart

IsApartFrom-front : (x : Span) (xs ys : List Span) → IsApartFrom x (xs ++ ys) → IsApartFrom x xs
IsApartFrom-front x [] ys apart = tt
IsApartFrom-front x (z ∷ xs) ys apart = (apart.0, IsApartFrom-front z xs ys apart.1)

pub IsApart-front : (xs ys : List Span) → IsApart (xs ++ ys) → IsApart xs
IsApart-front [] ys apart = tt
IsApart-front (x ∷ xs) ys apart = IsApartFrom-front x xs ys apart

pub rising_higher : (from i : ℕ) (xs : List Span) (d : Span) → IsRisingFrom from xs → i < length xs → from ≤ (get_or xs i d).addr
rising_higher from i [] d rising within = absurd (omega arith)
rising_higher from zero (x ∷ xs) d rising within = rising.0
rising_higher from (suc i) (x ∷ xs) d rising within = omega (arith, rising.0, rising_higher (end_of x) i xs d rising.1 (omega arith))

-- of elements that rise, those up to one that begins below an address do, and those from one that begins above it on
rising_taken : (from at i : ℕ) (xs : List Span) (d : Span) → IsRisingFrom from xs → i < length xs → (get_or xs i d).addr < at → AllByRecursion (λ x. x.addr < at) (take (suc i) xs)
rising_taken from at i [] d rising within below = absurd (omega arith)
rising_taken from at zero (x ∷ xs) d rising within below = (below, tt)
rising_taken from at (suc i) (x ∷ xs) d rising within below =
    (omega (arith, rising_higher (end_of x) i xs d rising.1 (omega arith)), rising_taken (end_of x) at i xs d rising.1 (omega arith) below)

pub rising_take : (from at i : ℕ) (xs : List Span) (d : Span) → IsRisingFrom from xs → i < length xs → (get_or xs i d).addr < at → AllByRecursion (λ x. x.addr < at) (take (i + 1) xs)
rising_take from at i xs d rising within below = subst (λ (n : ℕ). AllByRecursion (λ x. x.addr < at) (take n xs)) (sym (add-one i)) (rising_taken from at i xs d rising within below)

pub rising_drop : (from at i : ℕ) (xs : List Span) (d : Span) → IsRisingFrom from xs → i < length xs → at ≤ (get_or xs i d).addr → AllByRecursion (λ x. at ≤ x.addr) (drop i xs)
rising_drop from at i [] d rising within above = absurd (omega arith)
rising_drop from at zero (x ∷ xs) d rising within above = (above, AllByRecursion-weaker (λ (y : Span). end_of x ≤ y.addr) (λ y. at ≤ y.addr) (λ y behind. omega arith) xs (rising_behind (end_of x) xs rising.1))
rising_drop from at (suc i) (x ∷ xs) d rising within above = rising_drop (end_of x) at i xs d rising.1 (omega arith) above
