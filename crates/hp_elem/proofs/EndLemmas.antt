-- The ends of lists of elements, and where a list is cut.
use Rattle.std.proofs.Common.{◌≡◌, ℕ, ◌≤◌, [], ◌∷◌, ◌++◌, true, Option, Some, None, refl, sym, ap, ◌∙◌, subst, append_assoc, append-nil}
use Rattle.std.proofs.lemmas.Option.{same_Some, none-some}
use Rattle.hp_base.specs.declared.span.Span.{Span}
use Rattle.hp_chain.specs.Chain.{Keyed, AreApart, first_key, last_key, has_key}
use Rattle.hp_chain.specs.Edits.{edited}
use Rattle.hp_chain.proofs.EditLemmas.{edited-at}
use Rattle.hp_elem.specs.declared.node.Node.{Node}
use Rattle.hp_elem.specs.Items.{Items, IsAt, Stands, IsBetween, end_of}
use Rattle.hp_elem.specs.Order.{IsRising, greatest_end}
use Rattle.hp_elem.specs.Index.{reach}
use Rattle.hp_elem.proofs.OrderLemmas.{rising_back, rising_bound, reach-append}
use Rattle.hp_elem.proofs.IndexLemmas.{stands_value}

-- a list with keys apart has one front before a key
pub same_front : (front back other_front other_back : Items) → front ++ back ≡ other_front ++ other_back → first_key back None ≡ first_key other_back None → AreApart (front ++ back)
    → front ≡ other_front
same_front front [] other_front [] is first apart = sym (append-nil front) ∙ is ∙ append-nil other_front
same_front front [] other_front (o ∷ os) is first apart = absurd (none-some o.key first)
same_front front (b ∷ bs) other_front [] is first apart = absurd (none-some b.key (sym first))
same_front front (b ∷ bs) other_front (o ∷ os) is first apart =
    let cut : Keyed Span → Items → Items = λ e es. [] in
    let same : b.key ≡ o.key = same_Some b.key o.key first in
    let other_apart : AreApart (other_front ++ o ∷ os) = subst (λ (zs : Items). AreApart zs) is apart in
    sym (append-nil front) ∙ sym (edited-at cut front b bs apart) ∙ ap (λ (zs : Items). edited b.key cut zs) is
    ∙ ap (λ (k : ℕ). edited k cut (other_front ++ o ∷ os)) same ∙ edited-at cut other_front o os other_apart ∙ append-nil other_front

-- the last element of a list
pub record HasLast (xs : Items) (key : ℕ) : Type 0 where
  pub front : Items
  pub last : Keyed Span
  pub is : xs ≡ front ++ last ∷ []
  pub same : last.key ≡ key

pub last_of : (xs : Items) (key : ℕ) → last_key None xs ≡ Some key → HasLast xs key
last_of [] key is = absurd (none-some key is)
last_of (x ∷ []) key is = record { front = []; last = x; is = refl; same = same_Some x.key key is }
last_of (x ∷ y ∷ ys) key is =
    let rest = last_of (y ∷ ys) key is in
    record { front = x ∷ rest.front; last = rest.last; is = ap (λ (zs : Items). x ∷ zs) rest.is; same = rest.same }

last_is_some : (key : ℕ) (xs : Items) → last_key (Some key) xs ≡ None → ⊥
last_is_some key [] is = none-some key (sym is)
last_is_some key (x ∷ xs) is = last_is_some x.key xs is

pub none_last : (xs : Items) → last_key None xs ≡ None → xs ≡ []
none_last [] is = refl
none_last (x ∷ xs) is = absurd (last_is_some x.key xs is)

-- the end of an element
pub rising_end : (from : ℕ) (xs : Items) (e : Keyed Span) (ys : Items) → IsRising from (xs ++ e ∷ ys) → end_of e.value ≤ greatest_end
rising_end from xs e ys rising = rising_bound (end_of e.value) ys (rising_back from xs (e ∷ ys) rising).2

pub stands_end : (key : ℕ) (items : Items) (node : Node) → IsRising 0 items → Stands items key node → end_of node.span ≤ greatest_end
stands_end key items node rising stands =
    rising_end 0 stands.front (record { key = key; value = node.span }) stands.back (subst (λ (zs : Items). IsRising 0 zs) stands.is rising)

-- where the elements before a key end
pub reach_none : (items : Items) (prev next : Option ℕ) → IsBetween items prev next → prev ≡ None → AreApart items
    → (front back : Items) → items ≡ front ++ back → next ≡ first_key back None → 0 ≡ reach 0 front
reach_none items prev next between none apart front back is first =
    let same : front ≡ between.front = same_front front back between.front between.back (sym is ∙ between.is) (sym first ∙ between.first) (subst (λ (zs : Items). AreApart zs) is apart) in
    let empty : front ≡ [] = same ∙ none_last between.front (sym between.last ∙ none) in
    sym (ap (λ (zs : Items). reach 0 zs) empty)

pub reach_some : (items : Items) (prev next : Option ℕ) (key : ℕ) (node : Node) → IsBetween items prev next → prev ≡ Some key → AreApart items → Stands items key node
    → (front back : Items) → items ≡ front ++ back → next ≡ first_key back None → end_of node.span ≡ reach 0 front
reach_some items prev next key node between some apart stands front back is first =
    let same : front ≡ between.front = same_front front back between.front between.back (sym is ∙ between.is) (sym first ∙ between.first) (subst (λ (zs : Items). AreApart zs) is apart) in
    let last = last_of front key (ap (λ (zs : Items). last_key None zs) same ∙ sym between.last ∙ some) in
    let at : IsAt (λ _. Unit {0}) key items = record {
      front = last.front;
      found = last.last;
      back = back;
      is = is ∙ ap (λ (zs : Items). zs ++ back) last.is ∙ append_assoc last.front (last.last ∷ []) back;
      same = last.same;
      holds = tt;
    } in
    let value = stands_value (λ _. Unit {0}) key items node at apart stands in
    ap (λ (s : Span). end_of s) value ∙ sym (ap (λ (zs : Items). reach 0 zs) last.is ∙ reach-append 0 last.front (last.last ∷ []))

pub between_last_key : (items : Items) (prev next : Option ℕ) (key : ℕ) → IsBetween items prev next → prev ≡ Some key → has_key key items ≡ true
between_last_key items prev next key between some =
    subst (λ (zs : Items). has_key key zs ≡ true) (sym between.is)
    (Rattle.hp_chain.proofs.Keys.has_key_front key between.front between.back (Rattle.hp_chain.proofs.Keys.last_key_among between.front key (sym between.last ∙ some)))
