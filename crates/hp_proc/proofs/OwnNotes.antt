-- What a participant notes to be attached, chunk by chunk: each stands before those after it, so that those of the first one's heap stand first.
use Rattle.std.proofs.Common.{◌≡◌, ◌≢◌, ◌∙◌, ℕ, ◌<◌, ◌≤◌, Bool, true, false, ◌&&◌, ◌||◌, not, List, [], ◌∷◌, ◌++◌, Contains, Some, None, filter, refl, sym, ap, subst, arith, eqb, eq-eqb, inl, inr}
use Rattle.std.specs.Prelude.{nat_lt}
use Rattle.std.specs.List.{AllByRecursion}
use Rattle.std.proofs.lemmas.Bool.{cases_lt, cond-false, cond-true, eqb-true, false≢true, le-ltb, lt-ltb, ne_eqb, or_left, or_right}
use Rattle.hp_base.specs.declared.limits.TheConstants.{MAX_HEAPS}
use Rattle.hp_external.proofs.ListLemmas.{filter_none}
use Rattle.hp_heap.proofs.AllocFacts.ChoiceLaw.{AllByRecursion-contains, Contains-cases, Contains-filter, Contains-here, Contains-there}
use Rattle.hp_heap.proofs.Members.{AllByRecursion-each, filter_whole}
use Rattle.hp_proc.specs.OwnChunks.{AreFirstOf, AreOwnChunks, AreRising, chunks_beside, chunks_of, first_of, is_before, with_own_chunk, without_own_chunk}
use Rattle.hp_proc.specs.declared.own_chunk.OwnChunk.{OwnChunk}

-- WHICH STANDS BEFORE WHICH

-- none stands before itself
pub before_self : (chunk : OwnChunk) → is_before chunk chunk ≡ false
before_self chunk =
    ap (λ (b : Bool). b || (eqb chunk.heap chunk.heap && nat_lt chunk.addr chunk.addr)) (le-ltb chunk.heap chunk.heap (omega arith))
    ∙ (ap (λ (b : Bool). b && nat_lt chunk.addr chunk.addr) (eq-eqb chunk.heap chunk.heap refl) ∙ le-ltb chunk.addr chunk.addr (omega arith))

-- one in a heap of a higher index does not
not_above : (first second : OwnChunk) → second.heap < first.heap → is_before first second ≡ false
not_above first second above =
    ap (λ (b : Bool). b || (eqb first.heap second.heap && nat_lt first.addr second.addr)) (le-ltb first.heap second.heap (omega (arith, above)))
    ∙ ap (λ (b : Bool). b && nat_lt first.addr second.addr) (ne_eqb first.heap second.heap (λ same. omega (arith, same, above)))

pub before_heap : (first second : OwnChunk) → is_before first second ≡ true → first.heap ≤ second.heap
before_heap first second is = elim (cases_lt second.heap first.heap) [
  | inl above ↦ absurd (false≢true (sym (not_above first second above) ∙ is))
  | inr within ↦ within
]

-- one that stands before a chunk stands before those after it
pub before_then : (first second third : OwnChunk) → is_before first second ≡ true → is_before second third ≡ true → is_before first third ≡ true
before_then first second third one two =
    let here = before_heap first second one in
    let there = before_heap second third two in
    elim (cases_lt first.heap third.heap) [
      | inl lower ↦ or_left (nat_lt first.heap third.heap) (eqb first.heap third.heap && nat_lt first.addr third.addr)
          (lt-ltb first.heap third.heap lower)
      | inr above ↦ in_one first second third (omega (arith, here, there, above)) (omega (arith, here, there, above)) one two
    ]
  where
    by_address : (first second : OwnChunk) → first.heap ≡ second.heap → is_before first second ≡ nat_lt first.addr second.addr
    by_address first second same =
        ap (λ (b : Bool). b || (eqb first.heap second.heap && nat_lt first.addr second.addr))
        (le-ltb first.heap second.heap (omega (arith, same)))
        ∙ ap (λ (b : Bool). b && nat_lt first.addr second.addr) (eq-eqb first.heap second.heap same)

    lower_address : (a b : ℕ) → nat_lt a b ≡ true → a < b
    lower_address a b is = elim (cases_lt a b) [
      | inl lower ↦ lower
      | inr above ↦ absurd (false≢true (sym (le-ltb a b above) ∙ is))
    ]

    in_one : (first second third : OwnChunk) → first.heap ≡ second.heap → second.heap ≡ third.heap → is_before first second ≡ true
        → is_before second third ≡ true → is_before first third ≡ true
    in_one first second third here there one two =
        let lower = lower_address first.addr second.addr (sym (by_address first second here) ∙ one) in
        let next = lower_address second.addr third.addr (sym (by_address second third there) ∙ two) in
        by_address first third (here ∙ there) ∙ lt-ltb first.addr third.addr (omega (arith, lower, next))

-- LISTS OF THEM

-- with the first one gone the others stay
pub first_gone : (chunk : OwnChunk) (chunks : List OwnChunk) → AreRising (chunk ∷ chunks) → without_own_chunk chunk (chunk ∷ chunks) ≡ chunks
first_gone chunk chunks rising =
    let stays : OwnChunk → Bool = λ other. is_before other chunk || is_before chunk other in
    let none : stays chunk ≡ false = ap (λ (b : Bool). b || is_before chunk chunk) (before_self chunk) ∙ before_self chunk in
    cond-false (stays chunk) (chunk ∷ filter stays chunks) (filter stays chunks) none
    ∙ filter_whole stays chunks
    (AllByRecursion-each (λ (other : OwnChunk). stays other ≡ true) chunks
    (λ other among.
    or_right (is_before other chunk) (is_before chunk other)
    (AllByRecursion-contains (λ (one : OwnChunk). is_before chunk one ≡ true) chunks other rising.0 among)))

-- what a filter keeps of them rises
pub rising_kept : (keep : OwnChunk → Bool) (chunks : List OwnChunk) → AreRising chunks → AreRising (filter keep chunks)
rising_kept keep [] rising = tt
rising_kept keep (chunk ∷ chunks) rising = by_test (keep chunk) refl (rising_kept keep chunks rising.1)
  where
    kept : AllByRecursion (λ (one : OwnChunk). is_before chunk one ≡ true) (filter keep chunks)
    kept =
        AllByRecursion-each (λ (one : OwnChunk). is_before chunk one ≡ true) (filter keep chunks)
        (λ one among.
        AllByRecursion-contains (λ (one : OwnChunk). is_before chunk one ≡ true) chunks one rising.0 (Contains-filter keep chunks one among).1)

    by_test : (b : Bool) → keep chunk ≡ b → AreRising (filter keep chunks) → AreRising (filter keep (chunk ∷ chunks))
    by_test true is rest = rw is (kept, rest)
    by_test false is rest = rw is rest

-- all that is so of two lists is so of both together
all_both : (P : OwnChunk → Type 0) (first second : List OwnChunk) → AllByRecursion P first → AllByRecursion P second
    → AllByRecursion P (first ++ second)
all_both P [] second here there = there
all_both P (chunk ∷ first) second here there = (here.0, all_both P first second here.1 there)

rising_both : (first second : List OwnChunk) → AreRising first → AreRising second
    → ((one other : OwnChunk) → Contains first one → Contains second other → is_before one other ≡ true) → AreRising (first ++ second)
rising_both [] second here there apart = there
rising_both (chunk ∷ first) second here there apart = (
  all_both (λ (other : OwnChunk). is_before chunk other ≡ true) first second here.0
      (AllByRecursion-each (λ (other : OwnChunk). is_before chunk other ≡ true) second (λ other among. apart chunk other (Contains-here chunk first) among)),
  rising_both first second here.1 there (λ one other low high. apart one other (Contains-there chunk one first low) high),
)

-- with one chunk more they are so still, and without one
pub own_with : (chunk : OwnChunk) (chunks : List OwnChunk) → chunk.heap < MAX_HEAPS → AreOwnChunks chunks → AreOwnChunks (with_own_chunk chunk chunks)
own_with chunk chunks few own = record {
  few = all_both within low (chunk ∷ high) (kept (λ other. is_before other chunk)) (few, kept (λ other. is_before chunk other));
  rising = rising_both low (chunk ∷ high) (rising_kept (λ other. is_before other chunk) chunks own.rising)
      (AllByRecursion-each (λ (other : OwnChunk). is_before chunk other ≡ true) high after, rising_kept (λ other. is_before chunk other) chunks own.rising)
      (λ one other here there.
      let before : is_before one chunk ≡ true = (Contains-filter (λ (o : OwnChunk). is_before o chunk) chunks one here).0 in
      elim (Contains-cases chunk other high there) [
        | inl is ↦ subst (λ (o : OwnChunk). is_before one o ≡ true) is before
        | inr rest ↦ before_then one chunk other before (after other rest)
      ]);
}
  where
    low : List OwnChunk
    low = filter (λ (other : OwnChunk). is_before other chunk) chunks

    high : List OwnChunk
    high = filter (λ (other : OwnChunk). is_before chunk other) chunks

    within : OwnChunk → Type 0
    within other = other.heap < MAX_HEAPS

    kept : (keep : OwnChunk → Bool) → AllByRecursion within (filter keep chunks)
    kept keep =
        AllByRecursion-each within (filter keep chunks)
        (λ other among. AllByRecursion-contains within chunks other own.few (Contains-filter keep chunks other among).1)

    after : (other : OwnChunk) → Contains high other → is_before chunk other ≡ true
    after other among = (Contains-filter (λ (o : OwnChunk). is_before chunk o) chunks other among).0

pub own_kept : (chunk : OwnChunk) (chunks : List OwnChunk) → AreOwnChunks chunks → AreOwnChunks (without_own_chunk chunk chunks)
own_kept chunk chunks own = record {
  few = AllByRecursion-each (λ (other : OwnChunk). other.heap < MAX_HEAPS) (without_own_chunk chunk chunks)
      (λ other among.
      AllByRecursion-contains (λ (one : OwnChunk). one.heap < MAX_HEAPS) chunks other own.few
      (Contains-filter (λ (one : OwnChunk). is_before one chunk || is_before chunk one) chunks other among).1);
  rising = rising_kept (λ other. is_before other chunk || is_before chunk other) chunks own.rising;
}

-- those of one heap, and those of others
module _ (heap : ℕ) where
  abbrev its : OwnChunk → Bool
  its chunk = eqb chunk.heap heap

  abbrev else : OwnChunk → Bool
  else chunk = not (eqb chunk.heap heap)

  pub of_here : (chunk : OwnChunk) (chunks : List OwnChunk) → chunk.heap ≡ heap → chunks_of heap (chunk ∷ chunks) ≡ chunk ∷ chunks_of heap chunks
  of_here chunk chunks here = cond-true (its chunk) (chunk ∷ filter its chunks) (filter its chunks) (eq-eqb chunk.heap heap here)

  pub beside_here : (chunk : OwnChunk) (chunks : List OwnChunk) → chunk.heap ≡ heap → chunks_beside heap (chunk ∷ chunks) ≡ chunks_beside heap chunks
  beside_here chunk chunks here =
      cond-false (else chunk) (chunk ∷ filter else chunks) (filter else chunks) (ap not (eq-eqb chunk.heap heap here))

  pub of_else : (chunk : OwnChunk) (chunks : List OwnChunk) → chunk.heap ≢ heap → chunks_of heap (chunk ∷ chunks) ≡ chunks_of heap chunks
  of_else chunk chunks away = cond-false (its chunk) (chunk ∷ filter its chunks) (filter its chunks) (ne_eqb chunk.heap heap away)

  pub beside_else : (chunk : OwnChunk) (chunks : List OwnChunk) → chunk.heap ≢ heap
      → chunks_beside heap (chunk ∷ chunks) ≡ chunk ∷ chunks_beside heap chunks
  beside_else chunk chunks away =
      cond-true (else chunk) (chunk ∷ filter else chunks) (filter else chunks) (ap not (ne_eqb chunk.heap heap away))

  -- where each lies in a heap of a higher index, none is of that one
  none_of : (chunks : List OwnChunk) → AllByRecursion (λ (chunk : OwnChunk). heap < chunk.heap) chunks → chunks_of heap chunks ≡ []
  none_of chunks above =
      filter_none its chunks
      (AllByRecursion-each (λ (chunk : OwnChunk). its chunk ≡ false) chunks
      (λ chunk among.
      let higher : heap < chunk.heap = AllByRecursion-contains (λ (one : OwnChunk). heap < one.heap) chunks chunk above among in
      ne_eqb chunk.heap heap (λ same. omega (arith, same, higher))))

  all_beside : (chunks : List OwnChunk) → AllByRecursion (λ (chunk : OwnChunk). heap < chunk.heap) chunks → chunks_beside heap chunks ≡ chunks
  all_beside chunks above =
      filter_whole else chunks
      (AllByRecursion-each (λ (chunk : OwnChunk). else chunk ≡ true) chunks
      (λ chunk among.
      let higher : heap < chunk.heap = AllByRecursion-contains (λ (one : OwnChunk). heap < one.heap) chunks chunk above among in
      ap not (ne_eqb chunk.heap heap (λ same. omega (arith, same, higher)))))

  -- where no heap has a lower index, its chunks stand first
  pub stand_first : (chunks : List OwnChunk) → AreRising chunks → AllByRecursion (λ (chunk : OwnChunk). heap ≤ chunk.heap) chunks
      → AreFirstOf heap chunks
  stand_first [] rising least = refl
  stand_first (chunk ∷ chunks) rising least = elim (cases_lt heap chunk.heap) [
    | inl higher ↦
        let above : AllByRecursion (λ (one : OwnChunk). heap < one.heap) (chunk ∷ chunks) = (
          higher,
          AllByRecursion-each (λ (one : OwnChunk). heap < one.heap) chunks
              (λ one among.
              let after =
              before_heap chunk one (AllByRecursion-contains (λ (o : OwnChunk). is_before chunk o ≡ true) chunks one rising.0 among) in
              omega (arith, higher, after)),
        ) in
        sym
        (ap (λ (l : List OwnChunk). l ++ chunks_beside heap (chunk ∷ chunks)) (none_of (chunk ∷ chunks) above)
        ∙ all_beside (chunk ∷ chunks) above)
    | inr within ↦
        let low = least.0 in
        let here : chunk.heap ≡ heap = omega (arith, within, low) in
        ap (λ (l : List OwnChunk). chunk ∷ l) (stand_first chunks rising.1 least.1)
        ∙ sym
        (ap (λ (l : List OwnChunk). l ++ chunks_beside heap (chunk ∷ chunks)) (of_here chunk chunks here)
        ∙ ap (λ (l : List OwnChunk). chunk ∷ (chunks_of heap chunks ++ l)) (beside_here chunk chunks here))
  ]

  -- with the first one gone the others of its heap stand first still
  pub stand_then : (chunk : OwnChunk) (chunks : List OwnChunk) → chunk.heap ≡ heap → AreRising (chunk ∷ chunks) → AreFirstOf heap chunks
  stand_then chunk chunks here rising =
      stand_first chunks rising.1
      (AllByRecursion-each (λ (one : OwnChunk). heap ≤ one.heap) chunks
      (λ one among.
      let after = before_heap chunk one (AllByRecursion-contains (λ (o : OwnChunk). is_before chunk o ≡ true) chunks one rising.0 among) in
      omega (arith, here, after)))

  -- where the first one is of another heap, none is of that one
  pub stand_none : (chunk : OwnChunk) (chunks : List OwnChunk) → chunk.heap ≢ heap → AreFirstOf heap (chunk ∷ chunks)
      → chunks_of heap (chunk ∷ chunks) ≡ []
  stand_none chunk chunks away first = by_list (chunks_of heap (chunk ∷ chunks)) refl
    where
      by_list : (own : List OwnChunk) → chunks_of heap (chunk ∷ chunks) ≡ own → chunks_of heap (chunk ∷ chunks) ≡ []
      by_list [] is = is
      by_list (other ∷ own) is =
          let all : chunk ∷ chunks ≡ other ∷ (own ++ chunks_beside heap (chunk ∷ chunks)) =
          first ∙ ap (λ (l : List OwnChunk). l ++ chunks_beside heap (chunk ∷ chunks)) is in
          let same : chunk ≡ other = cc in
          let among : Contains (chunks_of heap (chunk ∷ chunks)) other = subst (λ (l : List OwnChunk). Contains l other) (sym is) (Contains-here other own) in
          absurd
          (away
          (ap (λ (one : OwnChunk). one.heap) same
          ∙ eqb-true other.heap heap (Contains-filter its (chunk ∷ chunks) other among).0))

-- those of the first one's heap stand first
pub first_ones : (chunk : OwnChunk) (chunks : List OwnChunk) → AreRising (chunk ∷ chunks) → AreFirstOf chunk.heap (chunk ∷ chunks)
first_ones chunk chunks rising =
    stand_first chunk.heap (chunk ∷ chunks) rising (
      omega arith,
      AllByRecursion-each (λ (one : OwnChunk). chunk.heap ≤ one.heap) chunks
          (λ one among. before_heap chunk one (AllByRecursion-contains (λ (o : OwnChunk). is_before chunk o ≡ true) chunks one rising.0 among)),
    )

-- the first of them
pub none_first : (chunks : List OwnChunk) → first_of chunks ≡ None → chunks ≡ []
none_first [] is = refl
none_first (chunk ∷ chunks) is = absurd cc

pub record HasFirst (chunk : OwnChunk) (chunks : List OwnChunk) : Type 0 where
  pub rest : List OwnChunk
  pub are : chunks ≡ chunk ∷ rest

pub some_first : (chunk : OwnChunk) (chunks : List OwnChunk) → first_of chunks ≡ Some chunk → HasFirst chunk chunks
some_first chunk [] is = absurd cc
some_first chunk (other ∷ chunks) is = record { rest = chunks; are = ap (λ (one : OwnChunk). one ∷ chunks) first }
  where
    first : other ≡ chunk
    first = cc
