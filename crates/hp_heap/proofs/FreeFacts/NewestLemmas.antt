-- Elements under keys by falling stamp: one that goes, one that comes with the greatest stamp, and busy ones.
use Rattle.std.proofs.Common.{◌≡◌, ℕ, ◌<◌, ◌≤◌, Bool, true, false, cond, not, ◌||◌, List, [], ◌∷◌, ◌++◌, map, nat_eq, refl, sym, ap, subst, ◌∙◌, arith, inl, inr, ltb}
use Rattle.std.proofs.lemmas.Bool.{cond_both, cases_Bool, lt-ltb, le-ltb, ltb-false, or_parts, or_from, false≢true}
use Rattle.std.proofs.lemmas.List.Elements.{filter-append}
use Rattle.std.specs.List.{AllByRecursion, filter}
use Rattle.hp_base.specs.declared.span.Span.{Span}
use Rattle.hp_base.specs.declared.span.SpanState.{SpanState}
use Rattle.hp_base.specs.declared.span.SpanState.TheVariants.{Free, Busy}
use Rattle.hp_chain.specs.Chain.{Keyed, has_key, AreApart}
use Rattle.hp_chain.specs.Edits.{without_key}
use Rattle.hp_chain.proofs.EditLemmas.{without_key-at}
use Rattle.hp_elem.specs.Items.{Items}
use Rattle.hp_heap.specs.PlainHeap.{is_free, is_free_state, stamp_of, stamp_of_state}
use Rattle.hp_heap.specs.Lists.{newest_first, by_falling_stamp, range_class}
use Rattle.hp_heap.specs.Laws.{IsFalling}
use Rattle.hp_heap.specs.Headers.{spans_of}
use Rattle.hp_heap.specs.Tie.{is_on, put_by_stamp, newest, link_of, links_of}
use Rattle.hp_heap.proofs.FreeFacts.ListLaw.{sorted_falls}
use Rattle.hp_heap.proofs.Members.{AllByRecursion-kept, filter_swapped}

-- a busy element has no stamp
pub busy_stamp : (span : Span) → is_free span ≡ false → stamp_of span ≡ 0
busy_stamp span busy = by_state span.state busy
  where
    by_state : (state : SpanState) → is_free_state state ≡ false → stamp_of_state state ≡ 0
    by_state (Free stamp) busy = absurd (false≢true (sym busy))
    by_state (Busy pad size tag) busy = refl

-- without their keys they are the definition's
put_spans : (e : Keyed Span) (es : Items) → spans_of (put_by_stamp e es) ≡ by_falling_stamp e.value (spans_of es)
put_spans e [] = refl
put_spans e (o ∷ os) = cond_both (ltb (stamp_of e.value) (stamp_of o.value)) (o ∷ put_by_stamp e os) (e ∷ o ∷ os)
    (λ zs. spans_of zs ≡ cond (ltb (stamp_of e.value) (stamp_of o.value)) (o.value ∷ by_falling_stamp e.value (spans_of os)) (e.value ∷ o.value ∷ spans_of os))
    (λ later. rw later (ap (λ zs. o.value ∷ zs) (put_spans e os))) (λ first. rw first refl)

pub newest_spans : (es : Items) → spans_of (newest es) ≡ newest_first (spans_of es)
newest_spans [] = refl
newest_spans (e ∷ es) = put_spans e (newest es) ∙ ap (λ zs. by_falling_stamp e.value zs) (newest_spans es)

-- their stamps fall
abbrev pub AreFalling : Items → Type 0
AreFalling items = IsFalling (spans_of items)

pub newest_falls : (es : Items) → AreFalling (newest es)
newest_falls es = subst IsFalling (sym (newest_spans es)) (sorted_falls (spans_of es))

-- one that is not below any stands first
put_first : (e : Keyed Span) (es : Items) → AllByRecursion (λ span. stamp_of span ≤ stamp_of e.value) (spans_of es) → put_by_stamp e es ≡ e ∷ es
put_first e [] below = refl
put_first e (o ∷ os) below = rw (le-ltb (stamp_of e.value) (stamp_of o.value) below.0) refl

below_without : (bound key : ℕ) (es : Items) → AllByRecursion (λ span. stamp_of span ≤ bound) (spans_of es) → AllByRecursion (λ span. stamp_of span ≤ bound) (spans_of (without_key key es))
below_without bound key [] below = tt
below_without bound key (e ∷ es) below = cond_both (not (nat_eq e.key key)) (e ∷ without_key key es) (without_key key es)
    (λ (zs : Items). AllByRecursion (λ span. stamp_of span ≤ bound) (spans_of zs))
    (λ kept. (below.0, below_without bound key es below.1)) (λ gone. below_without bound key es below.1)

below_further : (low high : ℕ) (spans : List Span) → low ≤ high → AllByRecursion (λ span. stamp_of span ≤ low) spans → AllByRecursion (λ span. stamp_of span ≤ high) spans
below_further low high [] within below = tt
below_further low high (s ∷ ss) within below = (omega (arith, within, below.0), below_further low high ss within below.1)

-- one of another key comes to its place whether a key goes or not
put_without : (key : ℕ) (e : Keyed Span) (es : Items) → nat_eq e.key key ≡ false → AreFalling es
    → without_key key (put_by_stamp e es) ≡ put_by_stamp e (without_key key es)
put_without key e [] other falls = rw other refl
put_without key e (o ∷ os) other falls = elim (cases_Bool (ltb (stamp_of e.value) (stamp_of o.value))) [
  | inl later ↦ rw later (elim (cases_Bool (nat_eq o.key key)) [
    | inl same ↦ rw same (put_without key e os other falls.1)
    | inr differs ↦ rw differs (rw later (ap (λ (zs : Items). o ∷ zs) (put_without key e os other falls.1)))
  ])
  | inr first ↦
      let lower : stamp_of o.value ≤ stamp_of e.value = ltb-false (stamp_of e.value) (stamp_of o.value) first in
      let all = below_without (stamp_of e.value) key (o ∷ os) (lower, below_further (stamp_of o.value) (stamp_of e.value) (spans_of os) lower falls.0) in
      rw first (rw other (sym (put_first e (without_key key (o ∷ os)) all)))
]

-- one of the key comes, and goes
put_gone : (key : ℕ) (e : Keyed Span) (es : Items) → nat_eq e.key key ≡ true → without_key key (put_by_stamp e es) ≡ without_key key es
put_gone key e [] same = rw same refl
put_gone key e (o ∷ os) same = elim (cases_Bool (ltb (stamp_of e.value) (stamp_of o.value))) [
  | inl later ↦ rw later (ap (λ (zs : Items). cond (not (nat_eq o.key key)) (o ∷ zs) zs) (put_gone key e os same))
  | inr first ↦ rw first (rw same refl)
]

-- an element that goes leaves its list
pub newest-without : (key : ℕ) (es : Items) → newest (without_key key es) ≡ without_key key (newest es)
newest-without key [] = refl
newest-without key (e ∷ es) = elim (cases_Bool (nat_eq e.key key)) [
  | inl same ↦ rw same (newest-without key es ∙ sym (put_gone key e (newest es) same))
  | inr differs ↦ rw differs (ap (λ (zs : Items). put_by_stamp e zs) (newest-without key es) ∙ sym (put_without key e (newest es) differs (newest_falls es)))
]

-- what holds of elements holds of them by falling stamp
put_all : (P : Keyed Span → Type 0) (e : Keyed Span) (es : Items) → P e → AllByRecursion P es → AllByRecursion P (put_by_stamp e es)
put_all P e [] here all = (here, tt)
put_all P e (o ∷ os) here all = cond_both (ltb (stamp_of e.value) (stamp_of o.value)) (o ∷ put_by_stamp e os) (e ∷ o ∷ os) (AllByRecursion P)
    (λ later. (all.0, put_all P e os here all.1)) (λ first. (here, all))

pub newest_all : (P : Keyed Span → Type 0) (es : Items) → AllByRecursion P es → AllByRecursion P (newest es)
newest_all P [] all = tt
newest_all P (e ∷ es) all = put_all P e (newest es) all.0 (newest_all P es all.1)

put_above : (e : Keyed Span) (es : Items) → AllByRecursion (λ (o : Keyed Span). stamp_of o.value < stamp_of e.value) es → put_by_stamp e es ≡ e ∷ es
put_above e [] below = refl
put_above e (o ∷ os) below = rw (le-ltb (stamp_of e.value) (stamp_of o.value) (omega (arith, below.0))) refl

-- the element with the greatest stamp stands first
pub newest-greatest : (xs : Items) (e : Keyed Span) (ys : Items) → AllByRecursion (λ (o : Keyed Span). stamp_of o.value < stamp_of e.value) (xs ++ ys)
    → newest (xs ++ e ∷ ys) ≡ e ∷ newest (xs ++ ys)
newest-greatest [] e ys below = put_above e (newest ys) (newest_all (λ (o : Keyed Span). stamp_of o.value < stamp_of e.value) ys below)
newest-greatest (x ∷ xs) e ys below = rw (newest-greatest xs e ys below.1) (rw (lt-ltb (stamp_of x.value) (stamp_of e.value) below.0) refl)

-- which keys they have
put_keys : (key : ℕ) (e : Keyed Span) (es : Items) → has_key key (put_by_stamp e es) ≡ has_key key (e ∷ es)
put_keys key e [] = refl
put_keys key e (o ∷ os) = elim (cases_Bool (ltb (stamp_of e.value) (stamp_of o.value))) [
  | inl later ↦ rw later (ap (λ (b : Bool). nat_eq o.key key || b) (put_keys key e os) ∙ swapped (nat_eq o.key key) (nat_eq e.key key) (has_key key os))
  | inr first ↦ rw first refl
]
  where
    swapped : (a b c : Bool) → (a || (b || c)) ≡ (b || (a || c))
    swapped true true c = refl
    swapped true false c = refl
    swapped false true c = refl
    swapped false false c = refl

pub newest_keys : (key : ℕ) (es : Items) → has_key key (newest es) ≡ has_key key es
newest_keys key [] = refl
newest_keys key (e ∷ es) = put_keys key e (newest es) ∙ ap (λ (b : Bool). nat_eq e.key key || b) (newest_keys key es)

pub link_keys : (key : ℕ) (es : Items) → has_key key (map link_of es) ≡ has_key key es
link_keys key [] = refl
link_keys key (e ∷ es) = ap (λ (b : Bool). nat_eq e.key key || b) (link_keys key es)

pub link_without : (key : ℕ) (es : Items) → map link_of (without_key key es) ≡ without_key key (map link_of es)
link_without key [] = refl
link_without key (e ∷ es) = elim (cases_Bool (nat_eq e.key key)) [
  | inl same ↦ rw same (link_without key es)
  | inr differs ↦ rw differs (ap (λ (zs : List (Keyed ℕ)). link_of e ∷ zs) (link_without key es))
]

-- a key that elements lack, those that a filter keeps lack
pub lacks_kept : (p : Keyed Span → Bool) (key : ℕ) (es : Items) → has_key key es ≡ false → has_key key (filter p es) ≡ false
lacks_kept p key [] lacks = refl
lacks_kept p key (e ∷ es) lacks =
    let parts = or_parts (nat_eq e.key key) (has_key key es) lacks in
    cond_both (p e) (e ∷ filter p es) (filter p es) (λ (zs : Items). has_key key zs ≡ false)
    (λ kept. or_from (nat_eq e.key key) (has_key key (filter p es)) parts.0 (lacks_kept p key es parts.1)) (λ gone. lacks_kept p key es parts.1)

-- busy elements
abbrev pub AreBusy : Items → Type 0
AreBusy items = AllByRecursion (λ (e : Keyed Span). is_free e.value ≡ false) items

pub busy_kept : (class : ℕ) (es : Items) → AreBusy es → filter (is_on class) es ≡ []
busy_kept class [] busy = refl
busy_kept class (e ∷ es) busy = rw busy.0 (busy_kept class es busy.1)

-- they are on no list
pub links_past : (class : ℕ) (xs es ys : Items) → AreBusy es → links_of (xs ++ (es ++ ys)) class ≡ links_of (xs ++ ys) class
links_past class xs es ys busy =
    ap (λ (zs : Items). map link_of (newest zs))
    (filter-append (is_on class) xs (es ++ ys) ∙ ap (λ (zs : Items). filter (is_on class) xs ++ zs) (filter-append (is_on class) es ys ∙ ap (λ (zs : Items). zs ++ filter (is_on class) ys) (busy_kept class es busy))
    ∙ sym (filter-append (is_on class) xs ys))

-- an element that goes leaves its list, and no other list has it
pub links-without : (class : ℕ) (xs : Items) (e : Keyed Span) (ys : Items) → AreApart (xs ++ e ∷ ys)
    → links_of (xs ++ ys) class ≡ without_key e.key (links_of (xs ++ e ∷ ys) class)
links-without class xs e ys apart =
    ap (λ (zs : Items). map link_of (newest (filter (is_on class) zs))) (sym (without_key-at xs e ys apart))
    ∙ ap (λ (zs : Items). map link_of (newest zs)) (filter_swapped (is_on class) (λ (o : Keyed Span). not (nat_eq o.key e.key)) (xs ++ e ∷ ys))
    ∙ ap (λ (zs : Items). map link_of zs) (newest-without e.key (filter (is_on class) (xs ++ e ∷ ys)))
    ∙ link_without e.key (newest (filter (is_on class) (xs ++ e ∷ ys)))

-- an element that comes with the greatest stamp stands at the head of its list, and changes no other
pub links-head : (class : ℕ) (xs : Items) (e : Keyed Span) (ys : Items) → is_free e.value ≡ true
    → AllByRecursion (λ (o : Keyed Span). stamp_of o.value < stamp_of e.value) (xs ++ ys)
    → links_of (xs ++ e ∷ ys) class ≡ cond (nat_eq (range_class e.value) class) (link_of e ∷ links_of (xs ++ ys) class) (links_of (xs ++ ys) class)
links-head class xs e ys free below = by_class (nat_eq (range_class e.value) class) refl
  where
    on : Keyed Span → Bool
    on = is_on class

    by_class : (b : Bool) → nat_eq (range_class e.value) class ≡ b → links_of (xs ++ e ∷ ys) class ≡ cond b (link_of e ∷ links_of (xs ++ ys) class) (links_of (xs ++ ys) class)
    by_class true its =
        let parts = filter-append (is_on class) xs ys in
        let kept : filter (is_on class) (xs ++ e ∷ ys) ≡ filter (is_on class) xs ++ (e ∷ filter (is_on class) ys) = filter-append (is_on class) xs (e ∷ ys) ∙ rw (free, its) refl in
        let under = subst (λ (zs : Items). AllByRecursion (λ (o : Keyed Span). stamp_of o.value < stamp_of e.value) zs) parts (AllByRecursion-kept (λ (o : Keyed Span). stamp_of o.value < stamp_of e.value) (is_on class) (xs ++ ys) below) in
        ap (λ (zs : Items). map link_of (newest zs)) kept
        ∙ ap (λ (zs : Items). map link_of zs) (newest-greatest (filter (is_on class) xs) e (filter (is_on class) ys) under)
        ∙ ap (λ (zs : Items). link_of e ∷ map link_of (newest zs)) (sym parts)
    by_class false other =
        let same : filter (is_on class) (xs ++ e ∷ ys) ≡ filter (is_on class) (xs ++ ys) = filter-append (is_on class) xs (e ∷ ys) ∙ rw (free, other) (sym (filter-append (is_on class) xs ys)) in
        ap (λ (zs : Items). map link_of (newest zs)) same
