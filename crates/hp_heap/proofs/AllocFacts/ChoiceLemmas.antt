-- The search for a request, with its flags and its chunks.
use Rattle.std.proofs.Common.{◌≡◌, ℕ, suc, ◌<◌, ◌≤◌, ◌^◌, Bool, true, false, ◌&&◌, ◌||◌, List, [], ◌∷◌, ◌++◌, length, get_or, drop, drop-cons, eqb, refl, sym, ap, subst, arith, Option, Some, None, Contains}
use Rattle.std.proofs.lemmas.Bool.{and_parts, false_from_ne_true, both_ways}
use Rattle.std.proofs.lemmas.Nat.Bits.{bit_at_above}
use Rattle.std.specs.List.{list_any}
use Rattle.hp_base.specs.Class.{class_number}
use Rattle.hp_base.specs.declared.span.Span.{Span}
use Rattle.hp_base.specs.declared.chunk.Chunk.{Chunk}
use Rattle.hp_chain.specs.Chain.{Keyed, AreApart}
use Rattle.hp_elem.specs.Items.{Items, IsAt}
use Rattle.hp_heap.specs.declared.choice.Need.{Need}
use Rattle.hp_heap.specs.Lists.{range_class}
use Rattle.hp_base.specs.Flags.{has_bit, is_fitting_page}
use Rattle.hp_heap.specs.Headers.{FindsFirstFree}
use Rattle.hp_heap.specs.FreeSearch.{is_usable, is_suitable, FindsFirstBy}
use Rattle.hp_heap.proofs.AllocFacts.ChoiceLaw.{Contains-here, Contains-there, Contains-parts}
use Rattle.hp_heap.proofs.AllocFacts.PlaceLemmas.{no_place, place_class}
use Rattle.hp_heap.proofs.AllocFacts.SplitLemmas.{holds_of}

-- a number below 2^16 has no bit from the sixteenth on
pub no_bit : (bits bit : ℕ) → bits < 2 ^ 16 → 16 ≤ bit → has_bit bits bit ≡ false
no_bit bits bit low over = ap (λ (n : ℕ). eqb n 1) (bit_at_above bits 16 bit low over)

-- one more of a list, from its back
pub any_next : {X : Type 0} (p : X → Bool) (xs : List X) (i : ℕ) (d : X) → i < length xs → list_any p (drop i xs) ≡ (p (get_or xs i d) || list_any p (drop (suc i) xs))
any_next p xs i d within = ap (λ zs. list_any p zs) (drop-cons xs i d within)

-- an element with no more bytes than a request is not suitable
pub small_unsuitable : (chunks : List Chunk) (need : Need) (items : Items) (key : ℕ) → IsAt (λ span. span.whole ≤ need.request.size) key items
    → IsAt (λ span. false ≡ is_suitable chunks need span) key items
small_unsuitable chunks need items key at =
    record {
      front = at.front;
      found = at.found;
      back = at.back;
      is = at.is;
      same = at.same;
      holds = ap (λ (b : Bool). (b && (need.any_page || is_fitting_page need.request.flags at.found.value.page)) && is_usable chunks need at.found.value.list)
          (no_place at.found.value need.request at.holds);
    }

module _ (chunks : List Chunk) (need : Need) (items : Items) (apart : AreApart items) (test : ℕ → Bool → Type 0)
    (tells : (key : ℕ) (b : Bool) → test key b → IsAt (λ span. b ≡ is_suitable chunks need span) key items) where
  told : (o : Keyed Span) (b : Bool) → Contains items o → test o.key b → b ≡ is_suitable chunks need o.value
  told o b has called =
      let (front, back, is) = Contains-parts items o has in
      holds_of (λ span. b ≡ is_suitable chunks need span) o.key items front o back apart is refl (tells o.key b called)

  -- what is suitable is of the class of the request, or above
  suitable_class : (o : Keyed Span) → is_suitable chunks need o.value ≡ true → class_number need.request.size ≤ range_class o.value
  suitable_class o suits = place_class o.value need.request (and_parts _ _ (and_parts _ _ suits).0).0

  unsuitable : (o : Keyed Span) → Contains items o → (class_number need.request.size ≤ range_class o.value → test o.key false) → is_suitable chunks need o.value ≡ false
  unsuitable o has fails = false_from_ne_true (is_suitable chunks need o.value)
      (λ suits. both_ways (is_suitable chunks need o.value) (sym (told o false has (fails (suitable_class o suits)))) suits)

  pub finds_suitable : (class : ℕ) (found : Option ℕ) → class ≡ class_number need.request.size → FindsFirstFree test class items found → FindsFirstBy (is_suitable chunks need) items found
  finds_suitable class None own none = λ other has free. unsuitable other has (λ above. none other has free (omega (arith, own, above)))
  finds_suitable class (Some key) own first =
      let among : Contains items first.found = subst (λ (zs : Items). Contains zs first.found) (sym first.is) (between first.front first.found first.back) in
      record {
        found = first.found;
        among = among;
        same = first.same;
        free = first.free;
        passes = sym (told first.found true among (subst (λ (k : ℕ). test k true) (sym first.same) first.passes));
        before = λ other has free sooner. unsuitable other has (λ above. first.before other has free (omega (arith, own, above)) sooner);
      }
    where
      between : (xs : Items) (e : Keyed Span) (ys : Items) → Contains (xs ++ e ∷ ys) e
      between [] e ys = Contains-here e ys
      between (x ∷ xs) e ys = Contains-there x e (xs ++ e ∷ ys) (between xs e ys)
