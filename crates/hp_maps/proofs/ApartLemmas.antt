-- Rows that come with addresses of their own.
use Rattle.std.proofs.Common.{◌≡◌, ℕ, Bool, true, false, ◌||◌, cond, List, [], ◌∷◌, ◌++◌, filter, refl, ap, ◌∙◌, sym, subst, arith, inl, inr, count_by}
use Rattle.std.specs.List.{list_any}
use Rattle.std.proofs.lemmas.Bool.{cases_Bool, eqb-true, eq-eqb}
use Rattle.std.proofs.lemmas.List.Elements.{All-cons, All-head, All-nil, All-tail}
use Rattle.hp_base.specs.Mapping.{AreApart, has_addr}
use Rattle.hp_base.specs.declared.row.Row.{Row}
use Rattle.hp_log.proofs.Counts.{count_append, count_cons, count_split, none_counts}
use Rattle.hp_maps.specs.MapsView.{AreClearOf}
use Rattle.hp_maps.proofs.ListFacts.{uncounted}

abbrev one_if : Bool → ℕ
one_if b = cond b 1 0

-- an address of one of those that come is none of the others
none_has : (rows fresh : List Row) (addr : ℕ) → AreClearOf rows fresh → list_any (has_addr addr) fresh ≡ true → count_by (has_addr addr) rows ≡ 0
none_has rows [] addr clear some = cc
none_has rows (row ∷ fresh) addr clear some =
    elim (cases_Bool (has_addr addr row)) [
      | inl is ↦
          let same : row.addr ≡ addr = eqb-true row.addr addr is in
          none_counts (has_addr addr) rows
          (subst (λ (a : ℕ). list_any (has_addr a) rows ≡ false) same (All-head (λ row. list_any (has_addr row.addr) rows ≡ false) row fresh clear))
      | inr other ↦
          let rest : list_any (has_addr addr) fresh ≡ true = sym (ap (λ b. b || list_any (has_addr addr) fresh) other) ∙ some in
          none_has rows fresh addr (All-tail (λ row. list_any (has_addr row.addr) rows ≡ false) row fresh clear) rest
    ]

-- with those that come the rows still have addresses of their own
pub apart_both : (rows fresh : List Row) → AreApart rows → AreApart fresh → AreClearOf rows fresh → AreApart (rows ++ fresh)
apart_both rows fresh apart own clear addr =
    let both = count_append (has_addr addr) rows fresh in
    let before = apart addr in
    let behind = own addr in
    elim (cases_Bool (list_any (has_addr addr) fresh)) [
      | inl some ↦ omega (arith, both, behind, none_has rows fresh addr clear some)
      | inr none ↦ omega (arith, both, before, none_counts (has_addr addr) fresh none)
    ]

-- and where they have, no row has the address of one after it
pub clear_of : (rows fresh : List Row) → AreApart (rows ++ fresh) → AreClearOf rows fresh
clear_of rows [] apart = All-nil (λ row. list_any (has_addr row.addr) rows ≡ false)
clear_of rows (row ∷ fresh) apart =
    let itself : one_if (has_addr row.addr row) ≡ 1 = ap one_if (eq-eqb row.addr row.addr refl) in
    let here = apart row.addr in
    let none : count_by (has_addr row.addr) rows ≡ 0 =
    omega (arith, here, count_append (has_addr row.addr) rows (row ∷ fresh), count_cons (has_addr row.addr) row fresh, itself) in
    All-cons (λ row. list_any (has_addr row.addr) rows ≡ false) row fresh (uncounted (has_addr row.addr) rows none)
    (clear_of rows fresh (λ addr.
    let once = apart addr in
    omega (arith, once, count_append (has_addr addr) rows (row ∷ fresh), count_append (has_addr addr) rows fresh, count_cons (has_addr addr) row fresh)))

-- those after have addresses of their own
pub apart_behind : (rows fresh : List Row) → AreApart (rows ++ fresh) → AreApart fresh
apart_behind rows fresh apart addr =
    let once = apart addr in
    omega (arith, once, count_append (has_addr addr) rows fresh)

-- so do rows of which some are taken out
pub apart_filter : (p : Row → Bool) (rows : List Row) → AreApart rows → AreApart (filter p rows)
apart_filter p rows apart addr =
    let once = apart addr in
    omega (arith, once, count_split (has_addr addr) p rows)
