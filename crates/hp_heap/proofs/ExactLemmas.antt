-- Where each linked list has the free elements of its class, the lists are exact.
use Rattle.std.proofs.Common.{◌≡◌, ℕ, suc, ◌+◌, ◌<◌, Bool, false, cond, List, [], ◌∷◌, Some, map, nat_eq, length, refl, sym, ap, ◌∙◌, arith}
use Rattle.std.proofs.lemmas.Bool.{cond_both, or_parts, eq-eqb, ne_eqb, eqb-false}
use Rattle.std.specs.List.{AllByRecursion, filter, range_with_len}
use Rattle.hp_base.specs.declared.span.Span.{Span}
use Rattle.hp_chain.specs.Chain.{Keyed, has_key, AreApart}
use Rattle.hp_elem.specs.Items.{Items, at_key}
use Rattle.hp_elem.specs.View.{ElemsView}
use Rattle.hp_freelist.specs.Lists.{FreeLists, list_at}
use Rattle.hp_heap.specs.Lists.{is_of_class, newest_first, free_list}
use Rattle.hp_heap.specs.Headers.{spans_of, exact_lists}
use Rattle.hp_heap.specs.Tie.{is_on, newest, link_of, links_of, start_of, starts_of, AreTied}
use Rattle.hp_heap.proofs.Members.{AllByRecursion-kept}
use Rattle.hp_heap.proofs.FreeFacts.NewestLemmas.{newest_all, newest_spans}

-- an element stands under its key
abbrev StandsIn : Items → Keyed Span → Type 0
StandsIn items e = at_key e.key items ≡ Some e.value

own_key : (key : ℕ) (es : Items) → has_key key es ≡ false → (items : Items) → AllByRecursion (StandsIn items) es → AllByRecursion (λ (e : Keyed Span). nat_eq key e.key ≡ false) es
own_key key [] lacks items all = tt
own_key key (e ∷ es) lacks items all =
    let parts = or_parts (nat_eq e.key key) (has_key key es) lacks in
    (ne_eqb key e.key (λ same. eqb-false e.key key parts.0 (sym same)), own_key key es parts.1 items all.1)

behind : (first : Keyed Span) (es items : Items) → AllByRecursion (λ (e : Keyed Span). nat_eq first.key e.key ≡ false) es → AllByRecursion (StandsIn items) es
    → AllByRecursion (StandsIn (first ∷ items)) es
behind first [] items other all = tt
behind first (e ∷ es) items other all = (ap (λ (b : Bool). cond b (Some first.value) (at_key e.key items)) other.0 ∙ all.0, behind first es items other.1 all.1)

-- each element stands under its key
each_stands : (items : Items) → AreApart items → AllByRecursion (StandsIn items) items
each_stands [] apart = tt
each_stands (e ∷ es) apart = (
  ap (λ (b : Bool). cond b (Some e.value) (at_key e.key es)) (eq-eqb e.key e.key refl),
  behind e es es (own_key e.key es apart.0 es (each_stands es apart.1)) (each_stands es apart.1),
)

-- the starts of elements, by their keys
starts_by_key : (items es : Items) → AllByRecursion (StandsIn items) es
    → map (λ (e : Keyed ℕ). start_of (at_key e.key items)) (map link_of es) ≡ map (λ (span : Span). span.addr) (spans_of es)
starts_by_key items [] all = refl
starts_by_key items (e ∷ es) all = rw (all.0, starts_by_key items es all.1) refl

-- the elements of a class, without their keys
class_spans : (class : ℕ) (items : Items) → spans_of (filter (is_on class) items) ≡ filter (is_of_class class) (spans_of items)
class_spans class [] = refl
class_spans class (e ∷ es) = cond_both (is_on class e) (e ∷ filter (is_on class) es) (filter (is_on class) es)
    (λ (zs : Items). spans_of zs ≡ cond (is_of_class class e.value) (e.value ∷ filter (is_of_class class) (spans_of es)) (filter (is_of_class class) (spans_of es)))
    (λ on. rw (on, class_spans class es) refl) (λ off. rw (off, class_spans class es) refl)

-- the starts that the list of a class has
class_starts : (items : Items) (class : ℕ) → AreApart items → map (λ (e : Keyed ℕ). start_of (at_key e.key items)) (links_of items class) ≡ free_list (spans_of items) class
class_starts items class apart =
    starts_by_key items (newest (filter (is_on class) items)) (newest_all (StandsIn items) (filter (is_on class) items) (AllByRecursion-kept (StandsIn items) (is_on class) items (each_stands items apart)))
    ∙ ap (map (λ (span : Span). span.addr)) (newest_spans (filter (is_on class) items) ∙ ap newest_first (class_spans class items))

-- lists that are known by their number
numbered : (f : List (Keyed ℕ) → List ℕ) (g : ℕ → List ℕ) (from : ℕ) (lists : List (List (Keyed ℕ)))
    → ((class : ℕ) → class < length lists → f (list_at lists class) ≡ g (from + class)) → map f lists ≡ map g (range_with_len from (length lists))
numbered f g from [] each = refl
numbered f g from (list ∷ lists) each =
    let first : f list ≡ g from = each 0 (omega arith) ∙ ap g (let same : from + 0 ≡ from = omega arith in same) in
    let rest = numbered f g (from + 1) lists (λ class within. each (suc class) (omega (arith, within)) ∙ ap g (let same : from + suc class ≡ from + 1 + class = omega arith in same)) in
    rw (first, rest) refl

pub tied_exact : (elems : ElemsView) (lists : FreeLists) → AreTied elems lists → starts_of elems.items lists.lists ≡ exact_lists (spans_of elems.items)
tied_exact elems lists tied =
    numbered (map (λ (e : Keyed ℕ). start_of (at_key e.key elems.items))) (free_list (spans_of elems.items)) 0 lists.lists
    (λ class within. ap (map (λ (e : Keyed ℕ). start_of (at_key e.key elems.items))) (tied.tied class (omega (arith, within, tied.count)))
    ∙ class_starts elems.items class tied.apart ∙ ap (free_list (spans_of elems.items)) (let same : class ≡ 0 + class = omega arith in same))
    ∙ ap (λ (n : ℕ). map (free_list (spans_of elems.items)) (range_with_len 0 n)) tied.count
