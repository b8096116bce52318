-- A split and a join of its parts.
use Rattle.std.proofs.Common.{◌≡◌, ℕ, ◌+◌, ◌-◌, ◌++◌, ◌∷◌, false, sym, ap, ◌∙◌, subst, arith}
use Rattle.hp_base.specs.declared.span.Span.{Span}
use Rattle.hp_chain.specs.Chain.{Keyed, AreApart, has_key}
use Rattle.hp_chain.proofs.Keys.{apart_middle}
use Rattle.hp_chain.proofs.EditLemmas.{edited-other}
use Rattle.std.proofs.lemmas.Bool.{cond-true}
use Rattle.std.proofs.Common.{nat_eq, eq-eqb}
use Rattle.hp_elem.specs.Items.{Items, IsInside, end_of, lower_part, upper_part, joined, cut_at, with_next_joined, after_join}
use Rattle.hp_elem.specs.Laws.{JoinUndoesSplit}
use Rattle.hp_elem.proofs.IndexLemmas.{edit_is}
use Rattle.hp_chain.specs.Edits.{edited}

-- the two parts of an element as one
whole_again : (at : ℕ) (span : Span) → IsInside at span → joined (lower_part at span) (upper_part at span) ≡ span
whole_again at span inside =
    let same : (at - span.addr) + (end_of span - at) ≡ span.whole = omega (arith, inside.above, inside.below) in
    ap (λ (w : ℕ). record span { whole = w }) same

pub join_undoes_split : JoinUndoesSplit
join_undoes_split items key at new apart inside lacks =
    let xs : Items = inside.front in
    let e : Keyed Span = inside.found in
    let ys : Items = inside.back in
    let low : Keyed Span = record { key = e.key; value = lower_part at e.value } in
    let high : Keyed Span = record { key = new; value = upper_part at e.value } in
    let own = apart_middle xs e ys (subst (λ (zs : Items). AreApart zs) inside.is apart) in
    let front_lacks : has_key key xs ≡ false = subst (λ (k : ℕ). has_key k xs ≡ false) inside.same own.0 in
    ap (λ (zs : Items). after_join key zs) (edit_is (cut_at at new) (IsInside at) key items inside apart)
    ∙ edited-other key with_next_joined xs (low ∷ high ∷ ys) front_lacks
    ∙ ap (λ (zs : Items). xs ++ zs)
    (cond-true (nat_eq low.key key) (with_next_joined low (high ∷ ys)) (low ∷ edited key with_next_joined (high ∷ ys)) (eq-eqb low.key key inside.same))
    ∙ ap (λ (s : Span). xs ++ (record { key = e.key; value = s }) ∷ ys) (whole_again at e.value inside.holds)
    ∙ sym inside.is
