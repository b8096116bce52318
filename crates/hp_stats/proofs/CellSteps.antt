-- Each step of a cell keeps its rule.
use Rattle.std.proofs.Common.{◌≡◌, ◌≢◌, ℕ, zero, suc, inl, inr, ◌≤◌, true, false, true≢false, List, [], ◌∷◌, ◌++◌, set, refl, sym, ap, subst, ◌∙◌, arith}
use mathlib.Core.Option.{some, some-ne-none}
use lib.ListN.{get_elem?}
use Rattle.atomic_table.proofs.Lists.{at_set, at_snoc, set_again, set_else}
use Rattle.crossbeam_utils.specs.Register.{Forks, Merges, Turns}
use Rattle.hp_stats.specs.declared.stat_pair.StatPair.{StatPair}
use Rattle.hp_stats.specs.declared.view.View.{View}
use Rattle.hp_stats.specs.CellRule.{IsKnown, IsNewest}
use Rattle.hp_stats.specs.Pairs.{AreAmong, IsNotBelow, newest_of, no_pair}
use Rattle.hp_stats.specs.Views.{after_publish, after_see, both_seen, first_view, new_reader, new_reader_view, seeing, seen_view, told_view, without_seen}
use Rattle.hp_stats.proofs.PairLemmas.{among_both, among_more, among_none, among_not_below, among_one, newest_among, newest_of-push, none_in, rises-push}

-- one that is no pen knows what it has seen
known_reader : (pen : ℕ) (published : List StatPair) (seat : ℕ) (seen : List StatPair) → AreAmong published seen → IsKnown pen published seat (seeing seen)
known_reader pen published seat seen among = record { pen_is = λ is. absurd (true≢false (sym is)); seen = among }

-- the rule before the first step
pub begins : IsNewest no_pair (first_view ∷ [])
begins = record {
  pen = 0;
  published = [];
  newest_is = refl;
  rises = λ p has. absurd (none_in p has);
  known = first_known;
}
  where
    first_known : (seat : ℕ) (v : View) → get_elem? (first_view ∷ []) seat ≡ some v → IsKnown 0 [] seat v
    first_known zero v at = subst (IsKnown 0 [] 0) (mathlib.Core.Option.some-injective first_view v at) (record { pen_is = λ _. (refl, refl); seen = among_none [] })
    first_known (suc seat) v at = absurd (some-ne-none v (sym at))

module _ (id : ℕ) (v : View) (newest : StatPair) (views : List View) (rule : IsNewest newest views) (at : get_elem? views id ≡ some v) where
  mine : IsKnown rule.pen rule.published id v
  mine = rule.known id v at

  -- a view changes, and what it knows is so
  changes : (now : View) → IsKnown rule.pen rule.published id now → IsNewest newest (set views id now)
  changes now is = record {
    pen = rule.pen;
    published = rule.published;
    newest_is = rule.newest_is;
    rises = rule.rises;
    known = λ seat w there. elim (at_set views id seat now w there) [
      | inl here ↦ subst (λ (k : ℕ). IsKnown rule.pen rule.published k w) (sym here.0) (subst (IsKnown rule.pen rule.published id) here.1 is)
      | inr else ↦ rule.known seat w else.1
    ];
  }

  -- a pair is published
  module _ (pen : v.pen ≡ true) (p : StatPair) (more : (newest_of v.published).entries ≤ p.entries) where
    published_now : (v.published ++ p ∷ []) ≡ (rule.published ++ p ∷ [])
    published_now = ap (λ l. l ++ p ∷ []) (mine.pen_is pen).1

    counted : newest.entries ≤ p.entries
    counted = subst (λ (q : StatPair). q.entries ≤ p.entries) (ap newest_of (mine.pen_is pen).1 ∙ sym rule.newest_is) more

    pub publishes : IsNewest p (set views id (after_publish p v))
    publishes = record {
      pen = rule.pen;
      published = rule.published ++ p ∷ [];
      newest_is = sym (newest_of-push rule.published p);
      rises = rises-push rule.published p newest.entries rule.rises counted;
      known = λ seat w there. elim (at_set views id seat (after_publish p v) w there) [
        | inl here ↦ subst (λ (k : ℕ). IsKnown rule.pen (rule.published ++ p ∷ []) k w) (sym here.0) (subst (IsKnown rule.pen (rule.published ++ p ∷ []) id) here.1 (record {
          pen_is = λ _. ((mine.pen_is pen).0, published_now);
          seen = among_more rule.published p v.seen mine.seen;
        }))
        | inr else ↦ let other = rule.known seat w else.1 in record {
          pen_is = λ is. absurd (else.0 (sym (other.pen_is is).0 ∙ (mine.pen_is pen).0));
          seen = among_more rule.published p w.seen other.seen;
        }
      ];
    }

  pub not_below : IsNotBelow v.seen newest.entries
  not_below = among_not_below rule.published v.seen newest.entries rule.rises mine.seen

  newest_one : AreAmong rule.published (newest ∷ [])
  newest_one = among_one rule.published newest (subst (λ (q : StatPair). Rattle.hp_stats.specs.Pairs.IsOneOf rule.published q) (sym rule.newest_is) (newest_among rule.published))

  -- the newest pair is seen
  pub reads : IsNewest newest (set views id (after_see newest v))
  reads = changes (after_see newest v) (record {
    pen_is = mine.pen_is;
    seen = among_both rule.published v.seen (newest ∷ []) mine.seen newest_one;
  })

  -- the pen finds what it has seen among what it has published
  pub checks : IsNewest newest (set views id (without_seen v))
  checks = changes (without_seen v) (record { pen_is = mine.pen_is; seen = among_none rule.published })

  pub found : v.pen ≡ true → AreAmong v.published v.seen
  found pen = subst (λ (l : List StatPair). AreAmong l v.seen) (sym (mine.pen_is pen).1) mine.seen

  -- a new pass has seen some pairs
  pub forks : (seen : List StatPair) → AreAmong rule.published seen → IsNewest newest (set views id v ++ seeing seen ∷ [])
  forks seen among = record {
    pen = rule.pen;
    published = rule.published;
    newest_is = rule.newest_is;
    rises = rule.rises;
    known = λ seat w there. elim (at_snoc (set views id v) (seeing seen) w seat there) [
      | inl before ↦ rule.known seat w (subst (λ (l : List View). get_elem? l seat ≡ some w) (set_again views id v at) before)
      | inr new ↦ subst (IsKnown rule.pen rule.published seat) new (known_reader rule.pen rule.published seat seen among)
    ];
  }

  -- what the pen tells is among the published
  pub told : v.pen ≡ true → AreAmong rule.published (newest_of v.published ∷ [])
  told pen = subst (λ (l : List StatPair). AreAmong rule.published (newest_of l ∷ [])) (sym (mine.pen_is pen).1) (among_one rule.published (newest_of rule.published) (newest_among rule.published))

  -- a pass takes in what another has seen
  pub joins : (other : ℕ) (their : View) → ¬ (other ≡ id) → get_elem? (set views id (both_seen v their)) other ≡ some their
      → IsNewest newest (set (set views id (both_seen v their)) other new_reader)
  joins other their apart at_other =
      let theirs = rule.known other their (sym (set_else views id other (both_seen v their) apart) ∙ at_other) in
      record {
        pen = rule.pen;
        published = rule.published;
        newest_is = rule.newest_is;
        rises = rule.rises;
        known = λ seat w there. elim (at_set (set views id (both_seen v their)) other seat new_reader w there) [
          | inl spent ↦ subst (IsKnown rule.pen rule.published seat) spent.1 (known_reader rule.pen rule.published seat [] (among_none rule.published))
          | inr running ↦ elim (at_set views id seat (both_seen v their) w running.1) [
            | inl here ↦ subst (λ (k : ℕ). IsKnown rule.pen rule.published k w) (sym here.0) (subst (IsKnown rule.pen rule.published id) here.1 (record {
              pen_is = mine.pen_is;
              seen = among_both rule.published v.seen their.seen mine.seen theirs.seen;
            }))
            | inr else ↦ rule.known seat w else.1
          ]
        ];
      }

-- the steps as the cell asks for them
pub may_publish : (id : ℕ) (v : View) (p : StatPair) → v.pen ≡ true → (newest_of v.published).entries ≤ p.entries → Turns IsNewest id v (λ _. p) (λ v x y w. w ≡ after_publish y v)
may_publish id v p pen more newest views rule at = (after_publish p v, publishes id v newest views rule at pen p more, refl)

pub may_read : (id : ℕ) (v : View) → Turns IsNewest id v (λ x. x) (λ v x y w. (w ≡ after_see y v) × IsNotBelow v.seen y.entries)
may_read id v newest views rule at = (after_see newest v, reads id v newest views rule at, (refl, not_below id v newest views rule at))

pub may_check : (id : ℕ) (v : View) → Turns IsNewest id v (λ x. x) (λ v x y w. (w ≡ without_seen v) × (v.pen ≡ true → AreAmong v.published v.seen))
may_check id v newest views rule at = (without_seen v, checks id v newest views rule at, (refl, found id v newest views rule at))

pub may_deal : (id : ℕ) (v : View) → Forks IsNewest id v v (new_reader_view v)
may_deal id v newest views rule at = forks id v newest views rule at [] (among_none rule.published)

pub may_tell : (id : ℕ) (v : View) → v.pen ≡ true → Forks IsNewest id v v (told_view v)
may_tell id v pen newest views rule at = forks id v newest views rule at (newest_of v.published ∷ []) (told id v newest views rule at pen)

pub may_report : (id : ℕ) (v : View) → Forks IsNewest id v v (seen_view v)
may_report id v newest views rule at = forks id v newest views rule at v.seen (rule.known id v at).seen

pub may_hear : (id : ℕ) (v : View) (other : ℕ) (their : View) → Merges IsNewest id v other their (both_seen v their) new_reader
may_hear id v other their newest views rule at apart at_other = joins id v newest views rule at other their apart at_other
