-- Lists of chunks, where one comes, goes or gets other marks.
use Rattle.std.proofs.Common.{◌≡◌, ◌≢◌, ℕ, suc, ◌+◌, ◌<◌, ◌≤◌, Bool, true, false, cond, not, List, [], ◌∷◌, map, length, get_or, set, slice_get, Result, Ok, Err, position, unwrap_or, refl, sym, ap, subst, ◌∙◌, inl, inr, arith, Option, Some, None, IsSome, Contains, count_by, ltb, eqb}
use Rattle.std.proofs.lemmas.Bool.{cases_lt, and_parts, and_from, eqb-true, eqb-false, eq-eqb, lt-ltb, le-ltb, false≢true}
use Rattle.std.proofs.lemmas.List.Folds.{find_at}
use Rattle.std.proofs.lemmas.List.Sums.{prefix_len-le-length}
use Rattle.std.proofs.lemmas.Option.{slice_get-get_or, slice_get_past, none-some, same_Some}
use Rattle.std.specs.Result.{is_ok, OnErr}
use Rattle.std.specs.List.{AllByRecursion, filter, find, insert, remove, position_or_len}
use Rattle.hp_base.specs.declared.chunk.Chunk.{Chunk}
use Rattle.hp_heap.specs.Chunks.{with_chunk, is_chunk_at}
use Rattle.hp_heap.specs.ChunkOrder.{AreRisingFrom}
use Rattle.hp_heap.proofs.HistoryFacts.Counting.{count_by-cons}
use Rattle.hp_heap.proofs.AllocFacts.ChoiceLaw.{Contains-none, Contains-cases}
use Rattle.hp_heap.proofs.Members.{AllByRecursion-each, counted_once}

one_more : (n : ℕ) → 1 + n ≡ suc n
one_more n = omega arith

-- chunks that rise from above an address
pub rise_over : (at from : ℕ) (cs : List Chunk) → at < from → AreRisingFrom from cs → AllByRecursion (λ (c : Chunk). at < c.addr) cs
rise_over at from [] below rising = tt
rise_over at from (c ∷ cs) below rising = (omega (arith, below, rising.0), rise_over at (c.addr + 1) cs (omega (arith, below, rising.0)) rising.1)

all_over : (at : ℕ) (cs : List Chunk) → AllByRecursion (λ (c : Chunk). at < c.addr) cs → filter (λ (c : Chunk). ltb at c.addr) cs ≡ cs
all_over at [] over = refl
all_over at (c ∷ cs) over = rw (lt-ltb at c.addr over.0) (ap (λ (zs : List Chunk). c ∷ zs) (all_over at cs over.1))

none_under : (at : ℕ) (cs : List Chunk) → AllByRecursion (λ (c : Chunk). at < c.addr) cs → filter (λ (c : Chunk). ltb c.addr at) cs ≡ []
none_under at [] over = refl
none_under at (c ∷ cs) over = rw (le-ltb c.addr at (omega (arith, over.0))) (none_under at cs over.1)

-- a chunk comes before the first one above it
pub put_is : (chunk : Chunk) (from : ℕ) (cs : List Chunk) → AreRisingFrom from cs → AllByRecursion (λ (o : Chunk). o.addr ≢ chunk.addr) cs
    → insert cs (position_or_len (λ (o : Chunk). ltb chunk.addr o.addr) cs) chunk ≡ with_chunk chunk cs
put_is chunk from [] rising elsewhere = refl
put_is chunk from (c ∷ cs) rising elsewhere = elim (cases_lt chunk.addr c.addr) [
  | inl above ↦
      let over = rise_over chunk.addr (c.addr + 1) cs (omega (arith, above)) rising.1 in
      rw (lt-ltb chunk.addr c.addr above, le-ltb c.addr chunk.addr (omega (arith, above)), none_under chunk.addr cs over, all_over chunk.addr cs over) refl
  | inr level ↦ elim (cases_lt c.addr chunk.addr) [
    | inl below ↦
        rw (le-ltb chunk.addr c.addr (omega (arith, below)), lt-ltb c.addr chunk.addr below)
        (ap (λ (i : ℕ). insert (c ∷ cs) i chunk) (one_more (position_or_len (λ (o : Chunk). ltb chunk.addr o.addr) cs))
        ∙ ap (λ (zs : List Chunk). c ∷ zs) (put_is chunk (c.addr + 1) cs rising.1 elsewhere.1))
    | inr more ↦ absurd (elsewhere.0 (omega (arith, level, more)))
  ]
]

-- a test that at most one chunk passes
module _ (p : Chunk → Bool) where
  none_gone : (cs : List Chunk) → count_by p cs ≡ 0 → filter (λ (c : Chunk). not (p c)) cs ≡ cs
  none_gone [] none = refl
  none_gone (c ∷ cs) none = by_test (p c) refl (λ fewer. none_gone cs fewer)
    where
      by_test : (b : Bool) → p c ≡ b → (count_by p cs ≡ 0 → filter (λ (d : Chunk). not (p d)) cs ≡ cs) → filter (λ (d : Chunk). not (p d)) (c ∷ cs) ≡ c ∷ cs
      by_test true is rest = let weight : cond {A = ℕ} (p c) 1 0 ≡ 1 = rw is refl in absurd (omega (arith, none, count_by-cons p c cs, weight))
      by_test false is rest = rw is (ap (λ (zs : List Chunk). c ∷ zs) (rest (omega (arith, none, count_by-cons p c cs))))

  none_changed : (f : Chunk → Chunk) (cs : List Chunk) → count_by p cs ≡ 0 → map (λ (c : Chunk). cond (p c) (f c) c) cs ≡ cs
  none_changed f [] none = refl
  none_changed f (c ∷ cs) none = by_test (p c) refl (λ fewer. none_changed f cs fewer)
    where
      by_test : (b : Bool) → p c ≡ b → (count_by p cs ≡ 0 → map (λ (d : Chunk). cond (p d) (f d) d) cs ≡ cs) → map (λ (d : Chunk). cond (p d) (f d) d) (c ∷ cs) ≡ c ∷ cs
      by_test true is rest = let weight : cond {A = ℕ} (p c) 1 0 ≡ 1 = rw is refl in absurd (omega (arith, none, count_by-cons p c cs, weight))
      by_test false is rest = rw is (ap (λ (zs : List Chunk). c ∷ zs) (rest (omega (arith, none, count_by-cons p c cs))))

  pub remove_is : (cs : List Chunk) → count_by p cs ≤ 1 → remove cs (position_or_len p cs) ≡ filter (λ (c : Chunk). not (p c)) cs
  remove_is [] few = refl
  remove_is (c ∷ cs) few = by_test (p c) refl (λ fewer. remove_is cs fewer)
    where
      by_test : (b : Bool) → p c ≡ b → (count_by p cs ≤ 1 → remove cs (position_or_len p cs) ≡ filter (λ (d : Chunk). not (p d)) cs) → remove (c ∷ cs) (position_or_len p (c ∷ cs)) ≡ filter (λ (d : Chunk). not (p d)) (c ∷ cs)
      by_test true is rest = let weight : cond {A = ℕ} (p c) 1 0 ≡ 1 = rw is refl in rw is (sym (none_gone cs (omega (arith, few, count_by-cons p c cs, weight))))
      by_test false is rest = rw is (ap (λ (i : ℕ). remove (c ∷ cs) i) (one_more (position_or_len p cs)) ∙ ap (λ (zs : List Chunk). c ∷ zs) (rest (omega (arith, few, count_by-cons p c cs))))

  pub set_is : (f : Chunk → Chunk) (x : Chunk) (cs : List Chunk) → count_by p cs ≤ 1 → find p cs ≡ Some x → set cs (position_or_len p cs) (f x) ≡ map (λ (c : Chunk). cond (p c) (f c) c) cs
  set_is f x [] few found = refl
  set_is f x (c ∷ cs) few found = by_test (p c) refl (λ fewer there. set_is f x cs fewer there)
    where
      by_test : (b : Bool) → p c ≡ b → (count_by p cs ≤ 1 → find p cs ≡ Some x → set cs (position_or_len p cs) (f x) ≡ map (λ (d : Chunk). cond (p d) (f d) d) cs) → set (c ∷ cs) (position_or_len p (c ∷ cs)) (f x) ≡ map (λ (d : Chunk). cond (p d) (f d) d) (c ∷ cs)
      by_test true is more =
          let weight : cond {A = ℕ} (p c) 1 0 ≡ 1 = rw is refl in
          let same : c ≡ x = same_Some c x (sym (rw is refl) ∙ found) in
          rw is (ap (λ (y : Chunk). f y ∷ cs) (sym same) ∙ ap (λ (zs : List Chunk). f c ∷ zs) (sym (none_changed f cs (omega (arith, few, count_by-cons p c cs, weight)))))
      by_test false is more =
          let rest : find p cs ≡ Some x = sym (rw is refl) ∙ found in
          rw is (ap (λ (i : ℕ). set (c ∷ cs) i (f x)) (one_more (position_or_len p cs)) ∙ ap (λ (zs : List Chunk). c ∷ zs) (more (omega (arith, few, count_by-cons p c cs)) rest))

  -- where one is found there is a place, and it stands there
  pub place_here : (cs : List Chunk) (x : Chunk) → find p cs ≡ Some x → slice_get cs (position_or_len p cs) ≡ Some x
  place_here cs x found = sym (find_at p cs) ∙ found

  pub place_inside : (cs : List Chunk) (x : Chunk) → find p cs ≡ Some x → position_or_len p cs < length cs
  place_inside cs x found = elim (cases_lt (position_or_len p cs) (length cs)) [
    | inl within ↦ within
    | inr past ↦ absurd (none-some x (sym (slice_get_past cs (position_or_len p cs) past) ∙ place_here cs x found))
  ]

  -- a test that says the same
  pub find_alike : (q : Chunk → Bool) (cs : List Chunk) → AllByRecursion (λ (c : Chunk). q c ≡ p c) cs → find q cs ≡ find p cs
  find_alike q [] all = refl
  find_alike q (c ∷ cs) all = ap (λ (b : Bool). cond b (Some c) (find q cs)) all.0 ∙ ap (λ (o : Option Chunk). cond (p c) (Some c) o) (find_alike q cs all.1)

  pub map_alike : (q : Chunk → Bool) (f : Chunk → Chunk) (cs : List Chunk) → AllByRecursion (λ (c : Chunk). q c ≡ p c) cs
      → map (λ (c : Chunk). cond (q c) (f c) c) cs ≡ map (λ (c : Chunk). cond (p c) (f c) c) cs
  map_alike q f [] all = refl
  map_alike q f (c ∷ cs) all = ap (λ (b : Bool). cond b (f c) c ∷ map (λ (d : Chunk). cond (q d) (f d) d) cs) all.0 ∙ ap (λ (zs : List Chunk). cond (p c) (f c) c ∷ zs) (map_alike q f cs all.1)

-- no two chunks begin at one address
above_first : (from : ℕ) (cs : List Chunk) (x : Chunk) → AreRisingFrom from cs → Contains cs x → from ≤ x.addr
above_first from [] x rising has = absurd (Contains-none x has)
above_first from (c ∷ cs) x rising has = elim (Contains-cases c x cs has) [
  | inl is ↦ subst (λ (y : Chunk). from ≤ y.addr) is rising.0
  | inr rest ↦ omega (arith, rising.0, above_first (c.addr + 1) cs x rising.1 rest)
]

one_address : (from : ℕ) (cs : List Chunk) (x y : Chunk) → AreRisingFrom from cs → Contains cs x → Contains cs y → x.addr ≡ y.addr → x ≡ y
one_address from [] x y rising first second same = absurd (Contains-none x first)
one_address from (c ∷ cs) x y rising first second same = elim (Contains-cases c x cs first) [
  | inl here ↦ elim (Contains-cases c y cs second) [
    | inl there ↦ sym here ∙ there
    | inr behind ↦ absurd (omega (arith, same, ap (λ (d : Chunk). d.addr) here, above_first (c.addr + 1) cs y rising.1 behind))
  ]
  | inr later ↦ elim (Contains-cases c y cs second) [
    | inl there ↦ absurd (omega (arith, same, ap (λ (d : Chunk). d.addr) there, above_first (c.addr + 1) cs x rising.1 later))
    | inr behind ↦ one_address (c.addr + 1) cs x y rising.1 later behind same
  ]
]

-- the chunk of a list is the one at its address and of its length
module _ (cs : List Chunk) (x : Chunk) (rising : AreRisingFrom 0 cs) (few : (list : ℕ) → count_by (λ (c : Chunk). eqb c.list list) cs ≤ 1) (has : Contains cs x) where
  same_test : (c : Chunk) → Contains cs c → is_chunk_at x.addr x.len c ≡ eqb c.list x.list
  same_test c among = by_list (eqb c.list x.list) refl (is_chunk_at x.addr x.len c) refl
    where
      by_list : (b : Bool) → eqb c.list x.list ≡ b → (a : Bool) → is_chunk_at x.addr x.len c ≡ a → is_chunk_at x.addr x.len c ≡ eqb c.list x.list
      by_list true own a at =
          let one : c ≡ x = counted_once (λ (d : Chunk). eqb d.list x.list) cs c x (few x.list) (own, among) (eq-eqb x.list x.list refl, has) in
          and_from _ _ (eq-eqb c.addr x.addr (ap (λ (d : Chunk). d.addr) one)) (eq-eqb c.len x.len (ap (λ (d : Chunk). d.len) one)) ∙ sym own
      by_list false other true at =
          let one : c ≡ x = one_address 0 cs c x rising among has (eqb-true c.addr x.addr (and_parts _ _ at).0) in
          absurd (eqb-false c.list x.list other (ap (λ (d : Chunk). d.list) one))
      by_list false other false at = at ∙ sym other

  pub same_tests : AllByRecursion (λ (c : Chunk). is_chunk_at x.addr x.len c ≡ eqb c.list x.list) cs
  same_tests = AllByRecursion-each (λ (c : Chunk). is_chunk_at x.addr x.len c ≡ eqb c.list x.list) cs same_test

-- the place that a search gives, or that after all
pub place_or_end : (p : Chunk → Bool) (cs : List Chunk) → unwrap_or (position p cs) (length cs) ≡ position_or_len p cs
place_or_end p cs = elim (cases_lt (position_or_len p cs) (length cs)) [
  | inl within ↦ rw (lt-ltb (position_or_len p cs) (length cs) within) refl
  | inr past ↦ rw (le-ltb (position_or_len p cs) (length cs) past) (omega (arith, past, prefix_len-le-length (λ (c : Chunk). not (p c)) cs))
]

pub place_within : (p : Chunk → Bool) (cs : List Chunk) → position_or_len p cs ≤ length cs
place_within p cs = prefix_len-le-length (λ (c : Chunk). not (p c)) cs

-- an insertion that would have been refused only without room is done
pub inserted : {A E : Type 0} (P : Type 0) (r : Result A E) → OnErr r P → (P → ⊥) → is_ok r ≡ true
inserted P (Ok x) full room = refl
inserted P (Err e) full room = absurd (room full)

pub put_done : (chunk : Chunk) (items now slice : List Chunk) (place : ℕ) (b : Bool) → slice ≡ items → place ≡ position_or_len (λ (o : Chunk). ltb chunk.addr o.addr) slice → b ≡ true
    → now ≡ cond b (insert items place chunk) items → AreRisingFrom 0 items → AllByRecursion (λ (o : Chunk). o.addr ≢ chunk.addr) items → now ≡ with_chunk chunk items
put_done chunk items now slice place b same at done is rising elsewhere =
    is ∙ ap (λ (d : Bool). cond d (insert items place chunk) items) done
    ∙ ap (λ (i : ℕ). insert items i chunk) (at ∙ ap (position_or_len (λ (o : Chunk). ltb chunk.addr o.addr)) same)
    ∙ put_is chunk 0 items rising elsewhere

pub place_some : (p : Chunk → Bool) (cs : List Chunk) → IsSome (find p cs) → position_or_len p cs < length cs
place_some p cs some = by_search (find p cs) refl some
  where
    by_search : (o : Option Chunk) → find p cs ≡ o → IsSome o → position_or_len p cs < length cs
    by_search None is some = absurd (false≢true some)
    by_search (Some x) is some = place_inside p cs x is

-- what is read at the first place that passes is found
pub read_is : (p : Chunk → Bool) (cs : List Chunk) (place : ℕ) (x : Chunk) → place ≡ position_or_len p cs → place < length cs → x ≡ get_or cs place x → find p cs ≡ Some x
read_is p cs place x at within read = find_at p cs ∙ ap (slice_get cs) (sym at) ∙ slice_get-get_or cs place x within ∙ ap Some (sym read)
