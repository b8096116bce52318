-- The runs that a participant's calls cut: from all heaps, and in the calls' own order.
use Rattle.std.proofs.Common.{◌≡◌, ◌∙◌, ◌==◌, ℕ, zero, suc, ◌+◌, ◌<◌, ◌≤◌, Bool, true, false, List, [], ◌∷◌, ◌++◌, length, Some, inl, inr, refl, ap, sym, subst, arith, append_assoc, append-nil, eq-eqb, if◌then◌else◌}
use Rattle.std.specs.List.{All, flat_map, range_with_len, slice_get}
use Rattle.std.specs.List.Sorted.{IsPermutation}
use Rattle.std.proofs.lemmas.Bool.{cases_lt, eqb-true, ne_eqb}
use Rattle.std.proofs.lemmas.Grind.{flat_map-append}
use Rattle.std.proofs.lemmas.Bool.Decides.{nat_tests}
use Rattle.std.proofs.lemmas.List.Elements.{All-cons, All-head, All-nil, All-tail}
use Rattle.std.proofs.lemmas.List.Sorted.{IsPermutation-append_comm, IsPermutation-append_left, IsPermutation-append_right, IsPermutation-refl, IsPermutation-trans}
use Rattle.hp_base.specs.declared.row.Run.{Run}
use Rattle.hp_heap.specs.declared.entry.Entry.{Entry}
use Rattle.hp_proc.specs.Courses.{OwnCall, calls_in}
use Rattle.hp_proc.specs.Doing.{Done}
use Rattle.hp_heap.specs.HistoryLaws.{run_cut, runs_cut}
use Rattle.hp_proc.specs.Histories.{entries_for, entry_for}
use Rattle.hp_proc.proofs.Joining.{calls_on}

-- the runs that calls cut, one after another
abbrev pub cuts_of : List OwnCall → List Run
cuts_of calls = flat_map (λ own. run_cut own.answer) calls

-- the runs that the calls of a trace cut
abbrev pub cuts_in : List Done → List Run
cuts_in trace = cuts_of (calls_in trace)

-- a trace goes on
pub cuts_append : (trace more : List Done) → cuts_in (trace ++ more) ≡ cuts_in trace ++ cuts_in more
cuts_append trace more =
    ap cuts_of (calls_on trace more) ∙ flat_map-append (λ (own : OwnCall). run_cut own.answer) (calls_in trace) (calls_in more)

module _ {A : Type 0} where
  regroup : (a b c d : List A) → a ++ ((b ++ c) ++ d) ≡ (a ++ b) ++ (c ++ d)
  regroup a b c d = ap (λ rest. a ++ rest) (append_assoc b c d) ∙ sym (append_assoc a b (c ++ d))

  swap_middle : (a b c d : List A) → IsPermutation ((a ++ b) ++ (c ++ d)) ((a ++ c) ++ (b ++ d))
  swap_middle a b c d =
      subst (λ left. IsPermutation left ((a ++ c) ++ (b ++ d))) (regroup a b c d)
      (subst (IsPermutation (a ++ ((b ++ c) ++ d))) (regroup a c b d)
      (IsPermutation-append_right a ((b ++ c) ++ d) ((c ++ b) ++ d)
      (IsPermutation-append_left d (b ++ c) (c ++ b) (IsPermutation-append_comm b c))))

module _ {X A : Type 0} where
  -- pieces of two parts each are all first parts and all second ones
  pub flat_map_parts : (first second : X → List A) (xs : List X)
      → IsPermutation (flat_map (λ x. first x ++ second x) xs) (flat_map first xs ++ flat_map second xs)
  flat_map_parts first second [] = IsPermutation-refl []
  flat_map_parts first second (x ∷ xs) =
      let front = first x ++ second x in
      IsPermutation-trans (front ++ flat_map (λ x. first x ++ second x) xs) (front ++ (flat_map first xs ++ flat_map second xs))
      ((first x ++ flat_map first xs) ++ (second x ++ flat_map second xs))
      (IsPermutation-append_right front (flat_map (λ x. first x ++ second x) xs) (flat_map first xs ++ flat_map second xs)
      (flat_map_parts first second xs))
      (swap_middle (first x) (second x) (flat_map first xs) (flat_map second xs))

  -- pieces that are alike
  pub flat_map_alike : (one other : X → List A) (xs : List X) → ((x : X) → one x ≡ other x) → flat_map one xs ≡ flat_map other xs
  flat_map_alike one other [] alike = refl
  flat_map_alike one other (x ∷ xs) alike =
      ap (λ front. front ++ flat_map one xs) (alike x) ∙ ap (λ back. other x ++ back) (flat_map_alike one other xs alike)

  -- pieces by index, where the indices run on from a number
  pub flat_map_indexed : (piece : X → List A) (at : ℕ → List A) (xs : List X) (start : ℕ)
      → ((index number : ℕ) (x : X) → start + index ≡ number → slice_get xs index ≡ Some x → piece x ≡ at number)
      → flat_map piece xs ≡ flat_map at (range_with_len start (length xs))
  flat_map_indexed piece at [] start same = refl
  flat_map_indexed piece at (x ∷ xs) start same =
      ap (λ front. front ++ flat_map piece xs) (same 0 start x (omega arith) refl)
      ∙ ap (λ back. at start ++ back)
      (flat_map_indexed piece at xs (start + 1) (λ index number x is here. same (suc index) number x (omega (arith, is)) here))

further : (heap start : ℕ) → (heap == start) ≡ false → start ≤ heap → start + 1 ≤ heap
further heap start other above = grind (arith, nat_tests)

module _ {A : Type 0} (heap : ℕ) (runs : List A) where
  -- the runs at the index of a heap
  abbrev pub at_heap : ℕ → List A
  at_heap index = if heap == index then runs else []

  picked_none : (start n : ℕ) → heap < start → flat_map at_heap (range_with_len start n) ≡ []
  picked_none start zero below = refl
  picked_none start (suc n) below =
      ap (λ own. (if own then runs else []) ++ flat_map at_heap (range_with_len (start + 1) n))
      (ne_eqb heap start (λ same. omega (arith, same, below)))
      ∙ picked_none (start + 1) n (omega (arith, below))

  picked_by : (start n : ℕ) (own : Bool) → (own ≡ false → flat_map at_heap (range_with_len (start + 1) n) ≡ runs)
      → (own ≡ true → flat_map at_heap (range_with_len (start + 1) n) ≡ [])
      → (if own then runs else []) ++ flat_map at_heap (range_with_len (start + 1) n) ≡ runs
  picked_by start n true later none = ap (λ back. runs ++ back) (none refl) ∙ append-nil runs
  picked_by start n false later none = later refl

  -- in a range of indices a heap's is there once
  pub picked_once : (start n : ℕ) → start ≤ heap → heap < start + n → flat_map at_heap (range_with_len start n) ≡ runs
  picked_once start zero above below = absurd (omega (arith, above, below))
  picked_once start (suc n) above below =
      picked_by start n (heap == start)
      (λ other. picked_once (start + 1) n (further heap start other above) (omega (arith, below)))
      (λ own. picked_none (start + 1) n (omega (arith, eqb-true heap start own)))

pub cuts_by : (own : Bool) (entry : Entry) (entries : List Entry)
    → runs_cut (if own then entry ∷ entries else entries) ≡ (if own then run_cut entry.answer else []) ++ runs_cut entries
unfolding runs_cut
cuts_by true entry entries = refl
cuts_by false entry entries = refl

module _ (who : ℕ) where
  -- the runs that a participant's calls cut from the heap of an index
  abbrev pub cuts_at : ℕ → List OwnCall → ℕ → List Run
  cuts_at number calls index = runs_cut (entries_for who index number calls)

  -- those of the first call, and then of the others
  cuts_first : (own : OwnCall) (calls : List OwnCall) (number index : ℕ)
      → cuts_at number (own ∷ calls) index ≡ at_heap own.heap (run_cut own.answer) index ++ cuts_at (number + 1) calls index
  cuts_first own calls number index = cuts_by (own.heap == index) (entry_for who number own) (entries_for who index (number + 1) calls)

  -- no call cuts nothing
  no_cuts : (indices : List ℕ) (number : ℕ) → flat_map (cuts_at number []) indices ≡ []
  unfolding runs_cut
  no_cuts [] number = refl
  no_cuts (index ∷ indices) number = no_cuts indices number

  -- over all indices they are the runs of the calls
  pub cuts_by_heap : (n number : ℕ) (calls : List OwnCall) → All (λ own. own.heap < n) calls
      → IsPermutation (flat_map (cuts_at number calls) (range_with_len 0 n)) (cuts_of calls)
  cuts_by_heap n number [] within =
      subst (λ left. IsPermutation left []) (sym (no_cuts (range_with_len 0 n) number)) (IsPermutation-refl [])
  cuts_by_heap n number (own ∷ calls) within =
      let runs = run_cut own.answer in
      let here = at_heap own.heap runs in
      let rest = cuts_at (number + 1) calls in
      let indices = range_with_len 0 n in
      let whole : flat_map (cuts_at number (own ∷ calls)) indices ≡ flat_map (λ index. here index ++ rest index) indices =
      flat_map_alike (cuts_at number (own ∷ calls)) (λ index. here index ++ rest index) indices (cuts_first own calls number) in
      let first : flat_map here indices ≡ runs =
      picked_once own.heap runs 0 n (omega arith) (omega (arith, All-head (λ own. own.heap < n) own calls within)) in
      let joined : IsPermutation (flat_map (λ index. here index ++ rest index) indices) (runs ++ flat_map rest indices) =
      subst (λ front. IsPermutation (flat_map (λ index. here index ++ rest index) indices) (front ++ flat_map rest indices)) first
      (flat_map_parts here rest indices) in
      let later : IsPermutation (flat_map rest indices) (cuts_of calls) =
      cuts_by_heap n (number + 1) calls (All-tail (λ own. own.heap < n) own calls within) in
      subst (λ left. IsPermutation left (cuts_of (own ∷ calls))) (sym whole)
      (IsPermutation-trans (flat_map (λ index. here index ++ rest index) indices) (runs ++ flat_map rest indices)
      (runs ++ cuts_of calls) joined
      (IsPermutation-append_right runs (flat_map rest indices) (cuts_of calls) later))

  -- calls that leave no entry at an index: the first is of another heap
  entry_within : (heap number : ℕ) (own : OwnCall) (calls : List OwnCall) (same : Bool) → (own.heap == heap) ≡ same
      → (if same then entry_for who number own ∷ entries_for who heap (number + 1) calls else entries_for who heap (number + 1) calls) ≡ []
      → (own.heap ≡ heap → ⊥) × (entries_for who heap (number + 1) calls ≡ [])
  entry_within heap number own calls true is none = cc
  entry_within heap number own calls false is none =
      ((λ same. true_false (sym (eq-eqb own.heap heap same) ∙ is)), none)
    where
      true_false : true ≡ false → ⊥
      true_false same = cc

  -- calls that leave no entry at an index from a number on are of heaps below it
  pub calls_within : (n number : ℕ) (calls : List OwnCall) → ((index : ℕ) → n ≤ index → entries_for who index number calls ≡ [])
      → All (λ own. own.heap < n) calls
  calls_within n number [] none = All-nil (λ own. own.heap < n)
  calls_within n number (own ∷ calls) none =
      let parts : (index : ℕ) → n ≤ index → (own.heap ≡ index → ⊥) × (entries_for who index (number + 1) calls ≡ []) =
      λ index above. entry_within index number own calls (own.heap == index) refl (none index above) in
      All-cons (λ own. own.heap < n) own calls
      (below own.heap n (λ above. (parts own.heap above).0 refl))
      (calls_within n (number + 1) calls (λ index above. (parts index above).1))
    where
      below : (heap n : ℕ) → (n ≤ heap → ⊥) → heap < n
      below heap n never = elim (cases_lt heap n) [
        | inl less ↦ less
        | inr above ↦ absurd (never (omega (arith, above)))
      ]
