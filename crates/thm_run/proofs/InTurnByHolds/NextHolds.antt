-- One hold of a participant after another, among the holds of all: each later than the ones before it.
use Rattle.std.proofs.Common.{◌≡◌, ◌∙◌, ℕ, cond, List, [], ◌∷◌, ◌++◌, length, inl, inr, ap, sym, subst, arith, eq-eqb}
use Rattle.std.specs.List.{All}
use Rattle.std.proofs.lemmas.Bool.{cases_eq}
use Rattle.std.proofs.lemmas.List.Elements.{All-head, All-tail}
use Rattle.hp_segs.specs.SegsView.{SegsView}
use Rattle.hp_weave.proofs.Interleaving.{holds_of-other}
use Rattle.hp_weave.specs.Holds.{Chain, Hold, holds_of}
use Rattle.thm_run.proofs.AfterLemmas.{behind_then, none_behind}
use Rattle.thm_run.specs.OwnHolds.{GoesOn, HasLater}

-- a participant's next hold, from a value on, and what comes after it
pub record IsNext (who : ℕ) (from last : SegsView) (hold : Hold SegsView) (holds : List (Hold SegsView)) : Type 0 where
  pub before : HasLater from hold.taken
  pub goes : GoesOn hold
  pub rest : List (Hold SegsView)
  pub chain : Chain hold.given rest last
  pub each : All GoesOn rest
  pub own : holds_of who rest ≡ holds

module _ (who : ℕ) (last : SegsView) where
  -- the first hold is its own, or another's
  next_here : (from : SegsView) (first : Hold SegsView) (all : List (Hold SegsView)) (hold : Hold SegsView) (holds : List (Hold SegsView))
      → first.taken ≡ from → Chain first.given all last → GoesOn first → All GoesOn all
      → first ∷ holds_of who all ≡ hold ∷ holds → IsNext who from last hold holds
  next_here from first all hold holds is chain goes each own =
      let its : first ≡ hold = cc in
      let rest : holds_of who all ≡ holds = cc in
      subst (λ (hold : Hold SegsView). IsNext who from last hold holds) its (record {
        before = subst (HasLater from) (sym is) (none_behind from);
        goes = goes;
        rest = all;
        chain = chain;
        each = each;
        own = rest;
      })

  next_further : (from : SegsView) (first : Hold SegsView) (hold : Hold SegsView) (holds : List (Hold SegsView)) → first.taken ≡ from
      → GoesOn first → IsNext who first.given last hold holds → IsNext who from last hold holds
  next_further from first hold holds is goes next = record {
    before = behind_then from first.given hold.taken (subst (λ value. HasLater value first.given) is goes.later) next.before;
    goes = next.goes;
    rest = next.rest;
    chain = next.chain;
    each = next.each;
    own = next.own;
  }

  pub next_hold : (all : List (Hold SegsView)) (from : SegsView) (hold : Hold SegsView) (holds : List (Hold SegsView)) → Chain from all last
      → All GoesOn all → holds_of who all ≡ hold ∷ holds → IsNext who from last hold holds
  next_hold [] from hold holds chain each own = absurd (omega (arith, ap length own))
  next_hold (first ∷ all) from hold holds chain each own =
      let goes = All-head GoesOn first all each in
      let rest = All-tail GoesOn first all each in
      elim (cases_eq first.who who) [
        | inl mine ↦
            next_here from first all hold holds chain.0 chain.1 goes rest
            (sym (ap (λ is. cond is (first ∷ holds_of who all) (holds_of who all)) (eq-eqb first.who who mine)) ∙ own)
        | inr other ↦
            next_further from first hold holds chain.0 goes
            (next_hold all first.given hold holds chain.1 rest (sym (holds_of-other first all who (λ same. other (sym same))) ∙ own))
      ]

  -- after some of its holds
  pub hold_after : (from : SegsView) (all between : List (Hold SegsView)) (hold : Hold SegsView) (holds : List (Hold SegsView))
      → Chain from all last → All GoesOn all → holds_of who all ≡ between ++ hold ∷ holds → IsNext who from last hold holds
  hold_after from all [] hold holds chain each own = next_hold all from hold holds chain each own
  hold_after from all (first ∷ between) hold holds chain each own =
      let next = next_hold all from first (between ++ hold ∷ holds) chain each own in
      let behind = hold_after first.given next.rest between hold holds next.chain next.each next.own in
      record {
        before = behind_then from first.taken hold.taken next.before
            (behind_then first.taken first.given hold.taken next.goes.later behind.before);
        goes = behind.goes;
        rest = behind.rest;
        chain = behind.chain;
        each = behind.each;
        own = behind.own;
      }

  -- the last value is later than each of them
  pub to_last : (from : SegsView) (all : List (Hold SegsView)) → Chain from all last → All GoesOn all → HasLater from last
  to_last from [] chain each = subst (HasLater from) (sym chain) (none_behind from)
  to_last from (first ∷ all) chain each =
      behind_then from first.given last (subst (λ value. HasLater value first.given) chain.0 (All-head GoesOn first all each).later)
      (to_last first.given all chain.1 (All-tail GoesOn first all each))
