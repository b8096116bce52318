-- A key comes to the head of the list of its class.
use Rattle.std.proofs.Common.{◌≡◌, ℕ, ◌+◌, ◌-◌, ◌<◌, ◌≤◌, List, ◌∷◌, false, Option, Some, None, set, refl, sym, ap, ◌∙◌, subst, arith}
use Rattle.hp_base.specs.declared.round.TheConstants.{HEADER, LINE}
use Rattle.hp_base.proofs.ClassLemmas.{class_number-is_class}
use Rattle.hp_chain.specs.Chain.{Keyed, Place, Places, Spells}
use Rattle.hp_chain.specs.Writes.{with_prev, with_place}
use Rattle.hp_chain.proofs.Keys.{first_key_among}
use Rattle.hp_chain.proofs.Links.{prev_beside, place_beside}
use Rattle.hp_chain.proofs.Changes.{spells-headed}
use Rattle.hp_freelist.specs.declared.link.Link.{Link}
use Rattle.hp_freelist.specs.Lists.{list_class, list_at, is_listed, with_head}
use Rattle.hp_freelist.specs.Heads.{head_at}
use Rattle.hp_freelist.specs.Links.{place_at, IsLinked, IsListLinked}
use Rattle.hp_freelist.proofs.LinkedLemmas.{beside_others, step, unlisted_at}

-- a class is one of thirteen
pub class_below : (whole : ℕ) → list_class whole < 13
class_below whole = omega (arith, (class_number-is_class (whole - HEADER)).last)

module _ (old new : List Link) (firsts : List (Option ℕ)) (lists : List (List (Keyed ℕ))) (key whole : ℕ) where
  pub headed : IsLinked old firsts lists → is_listed key lists ≡ false → HEADER + LINE ≤ whole
      → place_at new ≡ with_place key (Some (record { prev = None; next = head_at firsts (list_class whole); value = whole })) (with_prev (head_at firsts (list_class whole)) (Some key) (place_at old))
      → IsLinked new (set firsts (list_class whole) (Some key)) (with_head key whole lists)
  headed linked unlisted least written =
      let class : ℕ = list_class whole in
      let list : List (Keyed ℕ) = list_at lists class in
      let first : Option ℕ = head_at firsts class in
      let e : Keyed ℕ = record { key = key; value = whole } in
      let below : class < 13 = class_below whole in
      let was = linked.linked class below in
      let lacks = unlisted_at key lists class unlisted in
      let here : Option ℕ → Places ℕ = λ next. with_place key (Some (record { prev = None; next = next; value = whole })) (with_prev next (Some key) (place_at old)) in
      let spelled : Spells (place_at new) None (e ∷ list) None =
      subst (λ (at : Places ℕ). Spells at None (e ∷ list) None) (sym written)
      (subst (λ (next : Option ℕ). Spells (here next) None (e ∷ list) None) (sym was.head) (spells-headed (place_at old) e list was.apart lacks was.spelled)) in
      let changed : IsListLinked new class (Some key) (e ∷ list) =
      record { head = refl; spelled = spelled; apart = (lacks, was.apart); classed = (record { least = least; is = refl }, was.classed) } in
      step old new firsts lists class (Some key) (e ∷ list) below linked changed
      (λ other within differs.
      subst (λ (at : Places ℕ). Spells at None (list_at lists other) None) (sym written)
      (place_beside (with_prev first (Some key) (place_at old)) None (list_at lists other) None key (Some (record { prev = None; next = first; value = whole })) (unlisted_at key lists other unlisted)
      (prev_beside (place_at old) None (list_at lists other) None first (Some key)
      (beside_others old firsts lists linked class other first below within differs (λ k is. first_key_among list k (sym was.head ∙ is)))
      (linked.linked other within).spelled)))

-- the same, step by step
pub inserted : (old middle new : List Link) (firsts new_firsts : List (Option ℕ)) (lists : List (List (Keyed ℕ))) (key whole class : ℕ) (first : Option ℕ)
    → IsLinked old firsts lists → is_listed key lists ≡ false → HEADER + LINE ≤ whole → class ≡ list_class whole
    → first ≡ head_at firsts class
    → place_at middle ≡ with_prev first (Some key) (place_at old)
    → place_at new ≡ with_place key (Some (record { prev = None; next = first; value = whole })) (place_at middle)
    → new_firsts ≡ set firsts class (Some key) → IsLinked new new_firsts (with_head key whole lists)
inserted old middle new firsts new_firsts lists key whole class first linked unlisted least class_is first_is middle_is new_is heads_are =
    let head_is : first ≡ head_at firsts (list_class whole) = first_is ∙ ap (λ (k : ℕ). head_at firsts k) class_is in
    let slot : Option ℕ → Option (Place ℕ) = λ next. Some (record { prev = None; next = next; value = whole }) in
    let written : place_at new ≡ with_place key (slot (head_at firsts (list_class whole))) (with_prev (head_at firsts (list_class whole)) (Some key) (place_at old)) =
    new_is ∙ ap (λ (at : Places ℕ). with_place key (slot first) at) middle_is
    ∙ ap (λ (next : Option ℕ). with_place key (slot next) (with_prev next (Some key) (place_at old))) head_is in
    subst (λ (heads : List (Option ℕ)). IsLinked new heads (with_head key whole lists)) (sym (heads_are ∙ ap (λ (k : ℕ). set firsts k (Some key)) class_is))
    (headed old new firsts lists key whole linked unlisted least written)
