-- Names that agree with all that is known of heaps but the one in hand agree so still, once that heap, they, or the claimed memory have changed.
use Rattle.std.proofs.Common.{◌&&◌, ◌++◌, ◌+◌, ◌<◌, ◌∙◌, ◌∷◌, ◌≡◌, ◌≢◌, Bool, List, None, Option, Some, [], ap, cond, count_by, eq-eqb, eqb, false, filter, map, ne_eqb, refl, subst, sym, true, ℕ, arith}
use Rattle.std.proofs.lemmas.Bool.{cond-false, cond-true}
use Rattle.std.proofs.lemmas.List.Sorted.{sum_by-IsPermutation}
use Rattle.std.proofs.lemmas.List.{append_assoc}
use Rattle.std.specs.Option.{option_map}
use mathlib.Core.Logic.{dite}
use native.Mathlib.Decide.{ℕ_discrete}
use Rattle.hp_base.specs.declared.limits.TheConstants.{MAX_HEAPS}
use Rattle.hp_external.specs.Tie.{AreListed, is_memory}
use Rattle.hp_hall.proofs.AgreedAlike.{agree_alike}
use Rattle.hp_hall.specs.AgreedNames.{AreAgreedNames, directory_range}
use Rattle.hp_hall.specs.Holding.{AgreeWith, HeapPart}
use Rattle.hp_hall.specs.Named.{GivesNames, IsAllocated}
use Rattle.hp_hall.specs.Naming.{Naming, naming_of, unmarked}
use Rattle.hp_heap.proofs.HistoryFacts.Counting.{count_by-cons}
use Rattle.hp_heap.proofs.Members.{count_map}
use Rattle.hp_heap.specs.History.{HeapView}
use Rattle.hp_heap.specs.PlainHeap.{PlainHeap}
use Rattle.hp_heap.specs.declared.entry.Entry.{Entry}
use Rattle.hp_proc.proofs.AgreedLater.{renamed, renamed_else, renamed_here}
use Rattle.hp_proc.specs.NamesInHand.{with_naming}
use Rattle.hp_segs.specs.declared.external_range.ExternalRange.{ExternalRange}
use Rattle.hp_zone.specs.declared.heap_name.HeapRange.{HeapRange}
use Rattle.hp_zone.specs.declared.name_change.NameChange.{NameChange}
use Rattle.hp_zone.specs.declared.names.Names.{Names as NamesView}

mapped_is : (known : Option Naming) (one other : Naming) → option_map (λ (n : Naming). one) known ≡ Some other → one ≡ other
mapped_is None one other is = absurd (cc)
mapped_is (Some n) one other is = cc

mapped_some : (known : Option Naming) (one other given : Naming) → option_map (λ (n : Naming). one) known ≡ Some other
    → option_map (λ (n : Naming). given) known ≡ Some given
mapped_some None one other given is = absurd (cc)
mapped_some (Some n) one other given is = refl

-- what passes two tests passes one among what passes the other
count_both : {X : Type 0} (p q : X → Bool) (xs : List X) → count_by (λ x. p x && q x) xs ≡ count_by q (filter p xs)
count_both p q [] = refl
count_both {X} p q (x ∷ xs) =
    count_by-cons (λ (y : X). p y && q y) x xs ∙ (ap (λ (n : ℕ). cond (p x && q x) 1 0 + n) (count_both p q xs) ∙ by_first (p x))
  where
    by_first : (b : Bool) → cond {A = ℕ} (b && q x) 1 0 + count_by q (filter p xs) ≡ count_by q (cond b (x ∷ filter p xs) (filter p xs))
    by_first true = sym (count_by-cons q x (filter p xs))
    by_first false = omega arith

its_chunks : (addr len page : ℕ) (h : PlainHeap) → count_by (is_memory addr len page) (naming_of h).chunks ≡ count_by (is_memory addr len page) h.chunks
unfolding naming_of
its_chunks addr len page h = count_map unmarked (is_memory addr len page) h.chunks

module _ (heap : HeapView) (parts : ℕ → HeapPart) (names : NamesView) (agree : AgreeWith (with_naming heap parts) names)
    (few : heap.plain.index < MAX_HEAPS) where
  abbrev at : ℕ
  at = heap.plain.index

  -- what is known with a heap in hand, at its index and at others
  naming_at : (h : HeapView) (p : ℕ → HeapPart) (index : ℕ) → index ≡ h.plain.index
      → (with_naming h p index).naming ≡ option_map (λ (n : Naming). naming_of h.plain) (p index).naming
  naming_at h p index same =
      ap (λ (part : HeapPart). part.naming)
      (cond-true (eqb index h.plain.index) (record (p index) { naming = option_map (λ (n : Naming). naming_of h.plain) (p index).naming }) (p index)
      (eq-eqb index h.plain.index same))

  naming_else : (h : HeapView) (p : ℕ → HeapPart) (index : ℕ) → index ≢ h.plain.index → (with_naming h p index).naming ≡ (p index).naming
  naming_else h p index apart =
      ap (λ (part : HeapPart). part.naming)
      (cond-false (eqb index h.plain.index) (record (p index) { naming = option_map (λ (n : Naming). naming_of h.plain) (p index).naming }) (p index)
      (ne_eqb index h.plain.index apart))

  claims_by : (b : Bool) (naming : Option Naming) (part : HeapPart) → (cond b (record part { naming = naming }) part).claims ≡ part.claims
  claims_by true naming part = refl
  claims_by false naming part = refl

  claims_at : (h : HeapView) (p : ℕ → HeapPart) (index : ℕ) → (with_naming h p index).claims ≡ (p index).claims
  claims_at h p index = claims_by (eqb index h.plain.index) (option_map (λ (n : Naming). naming_of h.plain) (p index).naming) (p index)

  mapped : option_map (λ (n : Naming). naming_of heap.plain) (parts at).naming ≡ Some (agree.namings at)
  mapped = sym (naming_at heap parts at refl) ∙ agree.known at few

  pub known_here : naming_of heap.plain ≡ agree.namings at
  known_here = mapped_is (parts at).naming (naming_of heap.plain) (agree.namings at) mapped

  pub known_else : (index : ℕ) → index < MAX_HEAPS → index ≢ at → (parts index).naming ≡ Some (agree.namings index)
  known_else index below apart = sym (naming_else heap parts index apart) ∙ agree.known index below

  pub known_claims : (index : ℕ) → (parts index).claims ≡ Some agree.claims
  known_claims index = sym (claims_at heap parts index) ∙ agree.claimed index

  module _ (next : HeapView) (later : ℕ → HeapPart) (given : NamesView) (claims : List ExternalRange) (index_is : next.plain.index ≡ at)
      (same : (index : ℕ) → (later index).naming ≡ (parts index).naming) (claimed : (index : ℕ) → (later index).claims ≡ Some claims)
      (goes : AreAgreedNames given (renamed at (naming_of next.plain) agree.namings) claims) where
    then_here : (index : ℕ) → index ≡ at → (with_naming next later index).naming ≡ Some (renamed at (naming_of next.plain) agree.namings index)
    then_here index here =
        naming_at next later index (here ∙ sym index_is)
        ∙ (ap (option_map (λ (n : Naming). naming_of next.plain)) (same index ∙ ap (λ (k : ℕ). (parts k).naming) here)
        ∙ (mapped_some (parts at).naming (naming_of heap.plain) (agree.namings at) (naming_of next.plain) mapped
        ∙ ap Some (sym (ap (renamed at (naming_of next.plain) agree.namings) here ∙ renamed_here at (naming_of next.plain) agree.namings))))

    then_else : (index : ℕ) → index < MAX_HEAPS → index ≢ at
        → (with_naming next later index).naming ≡ Some (renamed at (naming_of next.plain) agree.namings index)
    then_else index below apart =
        naming_else next later index (λ here. apart (here ∙ index_is))
        ∙ (same index ∙ (known_else index below apart ∙ ap Some (sym (renamed_else at (naming_of next.plain) agree.namings index apart))))

    pub agrees_then : AgreeWith (with_naming next later) given
    agrees_then = record {
      namings = renamed at (naming_of next.plain) agree.namings;
      claims = claims;
      known = λ index below. dite (ℕ_discrete index at) (λ here. then_here index here) (λ apart. then_else index below apart);
      claimed = λ index. claims_at next later index ∙ claimed index;
      agreed = goes;
    }

  -- where they say of it what they said
  pub still_agreed : (next : HeapView) → naming_of next.plain ≡ naming_of heap.plain
      → AreAgreedNames names (renamed at (naming_of next.plain) agree.namings) agree.claims
  still_agreed next same =
      agree_alike names agree.namings (renamed at (naming_of next.plain) agree.namings) agree.claims
      (λ index below.
      dite (ℕ_discrete index at)
      (λ here.
      ap (renamed at (naming_of next.plain) agree.namings) here
      ∙ (renamed_here at (naming_of next.plain) agree.namings
      ∙ (same ∙ (known_here ∙ ap agree.namings (sym here)))))
      (λ apart. renamed_else at (naming_of next.plain) agree.namings index apart))
      agree.agreed

  -- the directory has exactly the heap's chunks at its index
  pub listed_here : AreListed names.heaps.plain.ranges heap.plain
  listed_here addr len page =
      let tests : HeapRange → Bool = λ (r : HeapRange). (eqb r.addr addr) && ((eqb r.len len) && (eqb r.page page)) in
      let ranges = filter (λ (r : HeapRange). eqb r.index at) names.heaps.plain.ranges in
      let named = (agree.agreed.each at few).ranges in
      let moved : count_by tests (map (directory_range at) (agree.namings at).chunks) ≡ count_by tests ranges =
      sum_by-IsPermutation (λ (r : HeapRange). cond (tests r) 1 0) ranges (map (directory_range at) (agree.namings at).chunks) named in
      count_both (λ (r : HeapRange). eqb r.index at) tests names.heaps.plain.ranges
      ∙ (sym moved
      ∙ (count_map (directory_range at) tests (agree.namings at).chunks
      ∙ (ap (λ (n : Naming). count_by (is_memory addr len page) n.chunks) (sym known_here) ∙ its_chunks addr len page heap.plain)))

-- names of which the directory has changed go on from the taken ones as before
pub names_go : (entries : ℕ → List Entry) (was names given : NamesView) (more : List NameChange) → GivesNames entries was names
    → given.zones ≡ names.zones → given.heaps.sockets ≡ names.heaps.sockets → given.heaps.log ≡ names.heaps.log ++ more → GivesNames entries was given
names_go entries was names given more gives zones sockets heaps = record {
  goes_on = record {
    sockets = sockets ∙ gives.goes_on.sockets;
    more_zones = gives.goes_on.more_zones;
    zones = ap (λ z. z.log) zones ∙ gives.goes_on.zones;
    more_heaps = gives.goes_on.more_heaps ++ more;
    heaps = heaps ∙ (ap (λ (l : List NameChange). l ++ more) gives.goes_on.heaps ∙ append_assoc was.heaps.log gives.goes_on.more_heaps more);
  };
  allocated = gives.allocated;
}

-- and as the entries say that are home
pub names_entries : (entries later : ℕ → List Entry) (was names : NamesView) → ((index : ℕ) → later index ≡ entries index)
    → GivesNames entries was names → GivesNames later was names
names_entries entries later was names same gives = record {
  goes_on = gives.goes_on;
  allocated = λ zone has. subst (IsAllocated zone.addr) (sym (same zone.heap)) (gives.allocated zone has);
}
