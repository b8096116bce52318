-- Each participant keeps one seat when a view changes, when a part goes to a seat of its own, and when a seat takes in the parts of another.
use Rattle.std.proofs.Common.{◌≡◌, ◌≢◌, ℕ, zero, suc, ◌<◌, ◌⊎◌, inl, inr, ⊎_elim, cond, eqb, eq-eqb, ne_eqb, List, [], ◌∷◌, ◌++◌, length, set, refl, sym, ap, subst, ◌∙◌, arith}
use Rattle.std.specs.List.{Contains}
use Rattle.std.proofs.lemmas.Bool.{cond-true, cond-false}
use Rattle.std.proofs.lemmas.List.Elements.{Contains-append_cases}
use mathlib.Core.Option.{some, some-injective, some-ne-none}
use lib.ListN.{get_elem?}
use Rattle.atomic_table.proofs.Lists.{at_set, set_else}
use Rattle.hp_board.specs.declared.view.Mine.{Mine}
use Rattle.hp_board.specs.declared.view.View.{View}
use Rattle.hp_board.specs.Seated.{IsSeatedAt, AreSeated}
use Rattle.hp_board.specs.Parts.{one_part, both_parts, spent_view}
use Rattle.hp_board.proofs.Updates.{with_at, with_at-here, with_at-else}

-- an element that was put after a list stands where the list ended
at_last : {A : Type 0} (l : List A) (a b : A) (j : ℕ) → get_elem? (l ++ a ∷ []) j ≡ some b → (get_elem? l j ≡ some b) ⊎ ((j ≡ length l) × (a ≡ b))
at_last [] a b zero is = inr (refl, some-injective a b is)
at_last [] a b (suc j) is = absurd (some-ne-none b (sym is))
at_last (x ∷ xs) a b zero is = inl is
at_last (x ∷ xs) a b (suc j) is = ⊎_elim (λ e. inl e) (λ e. inr (ap suc e.0, e.1)) (at_last xs a b j is)

pub Contains-head : {A : Type 0} (x : A) (xs : List A) → Contains (x ∷ xs) x
Contains-head x xs = (0, omega arith, refl)

only_one : {A : Type 0} (x y : A) → Contains (x ∷ []) y → x ≡ y
only_one x y (zero, inside, is) = is
only_one x y (suc k, inside, is) = absurd (omega arith)

none_of : {A : Type 0} (y : A) → Contains [] y → ⊥
none_of y has = let inside = has.1 in omega arith

in_tail : {A : Type 0} (x : A) (xs : List A) (y : A) → Contains xs y → Contains (x ∷ xs) y
in_tail x xs y has = let inside = has.1 in (suc has.0, omega arith, has.2)

module _ (participants : ℕ) (views : List View) (seat_of : ℕ → ℕ) (mine : ℕ → Mine) (seated : AreSeated participants views seat_of mine) where
  -- what is known of the one part of a view
  pub seated_one : (id : ℕ) (part : Mine) → get_elem? views id ≡ some (one_part part) → IsSeatedAt participants seat_of mine id part
  seated_one id part at = seated.part id (one_part part) part at (Contains-head part [])

  -- a participant learns or makes something
  pub seated_step : (id : ℕ) (part new : Mine) → get_elem? views id ≡ some (one_part part) → new.who ≡ part.who
      → AreSeated participants (set views id (one_part new)) seat_of (with_at part.who new mine)
  seated_step id part new at same =
      let old = seated_one id part at in
      record {
        part = λ seat view p there has.
            elim (at_set views id seat (one_part new) view there) [
              | inl here ↦
                  let its : new ≡ p = only_one new p (subst (λ (v : View). Contains v.parts p) (sym here.1) has) in
                  subst (IsSeatedAt participants seat_of (with_at part.who new mine) seat) its (record {
                    declared = subst (λ (w : ℕ). w < participants) (sym same) old.declared;
                    known = sym (ap (with_at part.who new mine) same ∙ with_at-here part.who new mine);
                    there = ap seat_of same ∙ old.there ∙ sym here.0;
                  })
              | inr else ↦
                  let other = seated.part seat view p else.1 has in
                  record {
                    declared = other.declared;
                    known = other.known ∙ sym (with_at-else part.who new mine p.who (λ one. else.0 (sym other.there ∙ ap seat_of one ∙ old.there)));
                    there = other.there;
                  }
            ];
      }

  -- the first part of a view goes to a new seat, where no other part of it is of the same participant
  pub seated_split : (id : ℕ) (part : Mine) (parts : List Mine) → get_elem? views id ≡ some (record { parts = part ∷ parts }) → ((p : Mine) → Contains parts p → p.who ≢ part.who)
      → AreSeated participants (set views id (record { parts = parts }) ++ record { parts = part ∷ [] } ∷ []) (with_at part.who (length (set views id (record { parts = parts }))) seat_of) mine
  seated_split id part parts at apart =
      let left : List View = set views id (record { parts = parts }) in
      let whole : View = record { parts = part ∷ parts } in
      let first = seated.part id whole part at (Contains-head part parts) in
      record {
        part = λ seat view p there has.
            elim (at_last left (record { parts = part ∷ [] }) view seat there) [
              | inl before ↦ elim (at_set views id seat (record { parts = parts }) view before) [
                | inl here ↦
                    let among : Contains parts p = subst (λ (v : View). Contains v.parts p) (sym here.1) has in
                    let other = seated.part id whole p at (in_tail part parts p among) in
                    record {
                      declared = other.declared;
                      known = other.known;
                      there = with_at-else part.who (length left) seat_of p.who (apart p among) ∙ other.there ∙ sym here.0;
                    }
                | inr else ↦
                    let other = seated.part seat view p else.1 has in
                    record {
                      declared = other.declared;
                      known = other.known;
                      there = with_at-else part.who (length left) seat_of p.who (λ one. else.0 (sym other.there ∙ ap seat_of one ∙ first.there)) ∙ other.there;
                    }
              ]
              | inr last ↦
                  let its : part ≡ p = only_one part p (subst (λ (v : View). Contains v.parts p) (sym last.1) has) in
                  subst (IsSeatedAt participants (with_at part.who (length left) seat_of) mine seat) its (record {
                    declared = first.declared;
                    known = first.known;
                    there = with_at-here part.who (length left) seat_of ∙ sym last.0;
                  })
            ];
      }

  -- whose parts were with one seat, has them with another
  abbrev pub moved_to : ℕ → ℕ → ℕ → ℕ
  moved_to id other who = cond (eqb (seat_of who) other) id (seat_of who)

  moved : (id other who : ℕ) → seat_of who ≡ other → moved_to id other who ≡ id
  moved id other who is = cond-true (eqb (seat_of who) other) id (seat_of who) (eq-eqb (seat_of who) other is)

  stayed : (id other who seat : ℕ) → seat_of who ≡ seat → seat ≢ other → moved_to id other who ≡ seat
  stayed id other who seat is apart = cond-false (eqb (seat_of who) other) id (seat_of who) (ne_eqb (seat_of who) other (λ same. apart (sym is ∙ same))) ∙ is

  -- a seat takes in the parts of another
  pub seated_join : (id : ℕ) (view : View) (other : ℕ) (their : View) → get_elem? views id ≡ some view → ¬ (other ≡ id) → get_elem? (set views id (both_parts view their)) other ≡ some their
      → AreSeated participants (set (set views id (both_parts view their)) other spent_view) (moved_to id other) mine
  seated_join id view other their at apart at_other =
      let there_too : get_elem? views other ≡ some their = sym (set_else views id other (both_parts view their) apart) ∙ at_other in
      record {
        part = λ seat v p there has.
            elim (at_set (set views id (both_parts view their)) other seat spent_view v there) [
              | inl spent ↦ absurd (none_of p (subst (λ (u : View). Contains u.parts p) (sym spent.1) has))
              | inr running ↦ elim (at_set views id seat (both_parts view their) v running.1) [
                | inl here ↦ elim (Contains-append_cases view.parts their.parts p (subst (λ (u : View). Contains u.parts p) (sym here.1) has)) [
                  | inl own ↦
                      let old = seated.part id view p at own in
                      record { declared = old.declared; known = old.known; there = stayed id other p.who id old.there (λ same. apart (sym same)) ∙ sym here.0 }
                  | inr new ↦
                      let old = seated.part other their p there_too new in
                      record { declared = old.declared; known = old.known; there = moved id other p.who old.there ∙ sym here.0 }
                ]
                | inr else ↦
                    let old = seated.part seat v p else.1 has in
                    record { declared = old.declared; known = old.known; there = stayed id other p.who seat old.there running.0 }
              ]
            ];
      }
