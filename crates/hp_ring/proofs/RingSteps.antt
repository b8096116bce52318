-- Each step of a ring keeps its rule.
use Rattle.std.proofs.Common.{◌≡◌, ◌≢◌, ℕ, zero, suc, ◌+◌, ◌≤◌, true, false, true≢false, inl, inr, List, [], ◌∷◌, ◌++◌, cond, eqb, eq-eqb, ne_eqb, length, set, refl, sym, ap, subst, ◌∙◌, arith}
use Rattle.std.specs.List.{Contains}
use Rattle.std.proofs.lemmas.List.{append_assoc, append-nil}
use Rattle.std.proofs.lemmas.List.Elements.{Contains-append_cases}
use Rattle.std.proofs.lemmas.Bool.{cond-true, cond-false}
use mathlib.Core.Option.{some}
use lib.ListN.{get_elem?}
use Rattle.crossbeam_queue.specs.Fifo.{Pushes, Pops, Forks, Merges, Learns}
use Rattle.crossbeam_queue.proofs.Lists.{at_set, set_else}
use Rattle.hp_ring.specs.Bulks.{BulkView, bulks_of}
use Rattle.hp_ring.specs.declared.view.Sender.{Sender}
use Rattle.hp_ring.specs.declared.view.View.{View}
use Rattle.hp_ring.specs.RingRule.{Hidden, IsSenderAt, IsKnown, AreInOrder}
use Rattle.hp_ring.specs.Views.{sender, sender_of, whole_view, empty_view, only_sender, after_deal, dealt_view, first_sender, other_senders, both_senders, after_put, after_take, Shows}
use Rattle.hp_ring.proofs.OfSender.{bulks_of-append, bulks_of-own, bulks_of-other}
use Rattle.hp_ring.proofs.Updates.{with_at, with_at-here, with_at-else, each, at_last}

only_one : {A : Type 0} (x y : A) → Contains (x ∷ []) y → x ≡ y
only_one x y (zero, inside, is) = is
only_one x y (suc k, inside, is) = absurd (omega arith)

none_of : {A : Type 0} (y : A) → Contains [] y → ⊥
none_of y has = let inside = has.1 in omega arith

first_in : {A : Type 0} (x : A) (xs : List A) → Contains (x ∷ xs) x
first_in x xs = (0, omega arith, refl)

in_tail : {A : Type 0} (x : A) (xs : List A) (y : A) → Contains xs y → Contains (x ∷ xs) y
in_tail x xs y has = let inside = has.1 in (suc has.0, omega arith, has.2)

-- where there is no sender, nothing is to be shown of senders
no_senders : (x : Hidden) (seat : ℕ) (senders : List Sender) → senders ≡ [] → (h : Sender) → Contains senders h → IsSenderAt x seat h
no_senders x seat senders is h has = absurd (none_of h (subst (λ (l : List Sender). Contains l h) is has))

-- the rule before the first step
pub begins : AreInOrder [] (whole_view ∷ [])
begins = record {
  hidden = record { pass_of = λ _. 0; taker = 0; dealer = 0; dealt = 0; sent = λ _. []; taken = [] };
  in_order = λ who. refl;
  undealt = λ who more. refl;
  known = λ seat v at. first_known seat v at;
}
  where
    first_known : (seat : ℕ) (v : View) → get_elem? (whole_view ∷ []) seat ≡ some v → IsKnown (record { pass_of = λ _. 0; taker = 0; dealer = 0; dealt = 0; sent = λ _. []; taken = [] }) seat v
    first_known seat v at = elim (at_last [] whole_view v seat at) [
      | inl before ↦ absurd (mathlib.Core.Option.some-ne-none v (sym before))
      | inr here ↦ subst (IsKnown (record { pass_of = λ _. 0; taker = 0; dealer = 0; dealt = 0; sent = λ _. []; taken = [] }) seat) here.1 (record {
        senders = λ h has. absurd (none_of h has);
        takes = λ _. (sym here.0, refl);
        deals = λ _. (sym here.0, refl);
      })
    ]

module _ (id : ℕ) (v : View) (bulks : List BulkView) (views : List View) (rule : AreInOrder bulks views) (at : get_elem? views id ≡ some v) where
  abbrev pub x : Hidden
  x = rule.hidden

  mine : IsKnown x id v
  mine = rule.known id v at

  -- whatever a pass learns
  pub shown : Shows v bulks
  shown = record {
    before = x.taken;
    taken = λ takes. sym (mine.takes takes).1;
    in_order = λ h has. rule.in_order h.who ∙ sym (mine.senders h has).known;
  }

  -- a bulk comes after all others
  module _ (h : Sender) (one : v.senders ≡ h ∷ []) (l : BulkView) (its : l.sender ≡ h.who) where
    mine_at : IsSenderAt x id h
    mine_at = mine.senders h (subst (λ (hs : List Sender). Contains hs h) (sym one) (first_in h []))

    abbrev pub put_now : ℕ → List BulkView
    put_now = with_at h.who (h.sent ++ l ∷ []) x.sent

    abbrev pub put_hidden : Hidden
    put_hidden = record { pass_of = x.pass_of; taker = x.taker; dealer = x.dealer; dealt = x.dealt; sent = put_now; taken = x.taken }

    abbrev pub now : View
    now = record v { senders = sender h.who (h.sent ++ l ∷ []) ∷ [] }

    longer : (who : ℕ) → bulks_of who (x.taken ++ (bulks ++ l ∷ [])) ≡ bulks_of who (x.taken ++ bulks) ++ bulks_of who (l ∷ [])
    longer who = ap (bulks_of who) (sym (append_assoc x.taken bulks (l ∷ []))) ∙ bulks_of-append who (x.taken ++ bulks) (l ∷ [])

    now_mine : IsKnown put_hidden id now
    now_mine = record {
      senders = λ k has. subst (IsSenderAt put_hidden id) (only_one _ k has) (record {
        dealt = mine_at.dealt;
        there = mine_at.there;
        known = sym (with_at-here h.who (h.sent ++ l ∷ []) x.sent);
      });
      takes = mine.takes;
      deals = mine.deals;
    }

    pub puts : AreInOrder (bulks ++ l ∷ []) (set views id now)
    puts = record {
      hidden = put_hidden;
      in_order = each (λ who its_bulks. bulks_of who (x.taken ++ (bulks ++ l ∷ [])) ≡ its_bulks) h.who (h.sent ++ l ∷ []) x.sent
          (longer h.who ∙ ap (λ f. bulks_of h.who (x.taken ++ bulks) ++ f) (bulks_of-own h.who l its) ∙ ap (λ f. f ++ l ∷ []) (rule.in_order h.who ∙ sym mine_at.known))
          (λ who apart. longer who ∙ ap (λ f. bulks_of who (x.taken ++ bulks) ++ f) (bulks_of-other who l (λ same. apart (sym same ∙ its))) ∙ append-nil (bulks_of who (x.taken ++ bulks)) ∙ rule.in_order who);
      undealt = each (λ who its_bulks. x.dealt ≤ who → its_bulks ≡ []) h.who (h.sent ++ l ∷ []) x.sent
          (λ more. let few = mine_at.dealt in absurd (omega arith)) (λ who apart. rule.undealt who);
      known = λ seat w there. elim (at_set views id seat now w there) [
        | inl here ↦ subst (λ (k : ℕ). IsKnown put_hidden k w) (sym here.0) (subst (IsKnown put_hidden id) here.1 now_mine)
        | inr else ↦ let other = rule.known seat w else.1 in record {
          senders = λ k has. let it = other.senders k has in record {
            dealt = it.dealt;
            there = it.there;
            known = it.known ∙ sym (with_at-else h.who (h.sent ++ l ∷ []) x.sent k.who (λ same. else.0 (sym it.there ∙ ap x.pass_of same ∙ mine_at.there)));
          };
          takes = other.takes;
          deals = other.deals;
        }
      ];
    }

  -- the next participant gets a pass: the pass that deals keeps the left view, and the new one has the right one
  module _ (may : v.deals ≡ true) (left right : View) (taker : ℕ)
      (left_senders : left.senders ≡ []) (left_dealt : left.dealt ≡ v.dealt + 1) (left_takes : left.takes ≡ true → (taker ≡ id) × (left.taken ≡ x.taken))
      (right_senders : right.senders ≡ sender v.dealt [] ∷ []) (right_deals : right.deals ≡ false) (right_takes : right.takes ≡ true → (taker ≡ length (set views id left)) × (right.taken ≡ x.taken))
      (else_takes : (seat : ℕ) (w : View) → seat ≢ id → get_elem? views seat ≡ some w → w.takes ≡ true → taker ≡ seat) where
    dealer_is : (x.dealer ≡ id) × (v.dealt ≡ x.dealt)
    dealer_is = mine.deals may

    abbrev pub dealt_hidden : Hidden
    dealt_hidden = record { pass_of = with_at v.dealt (length (set views id left)) x.pass_of; taker = taker; dealer = x.dealer; dealt = x.dealt + 1; sent = x.sent; taken = x.taken }

    dealt_sender : (seat : ℕ) (h : Sender) → IsSenderAt x seat h → IsSenderAt dealt_hidden seat h
    dealt_sender seat h it = let less = it.dealt in let c = dealer_is.1 in record {
      dealt = omega arith;
      there = with_at-else v.dealt (length (set views id left)) x.pass_of h.who (λ same. let d = dealer_is.1 in omega arith) ∙ it.there;
      known = it.known;
    }

    dealt_left : IsKnown dealt_hidden id left
    dealt_left = record {
      senders = no_senders dealt_hidden id left.senders left_senders;
      takes = left_takes;
      deals = λ _. (dealer_is.0, left_dealt ∙ ap (λ n. n + 1) dealer_is.1);
    }

    dealt_right : IsKnown dealt_hidden (length (set views id left)) right
    dealt_right = record {
      senders = λ h has. subst (IsSenderAt dealt_hidden (length (set views id left))) (only_one (sender v.dealt []) h (subst (λ (hs : List Sender). Contains hs h) right_senders has)) (let c = dealer_is.1 in record {
        dealt = omega arith;
        there = with_at-here v.dealt (length (set views id left)) x.pass_of;
        known = sym (rule.undealt v.dealt (omega arith));
      });
      takes = right_takes;
      deals = λ deals. absurd (true≢false (sym deals ∙ right_deals));
    }

    pub deals : AreInOrder bulks (set views id left ++ right ∷ [])
    deals = record {
      hidden = dealt_hidden;
      in_order = rule.in_order;
      undealt = λ who more. rule.undealt who (omega arith);
      known = λ seat w there. elim (at_last (set views id left) right w seat there) [
        | inr last ↦ subst (λ (k : ℕ). IsKnown dealt_hidden k w) (sym last.0) (subst (IsKnown dealt_hidden (length (set views id left))) last.1 dealt_right)
        | inl before ↦ elim (at_set views id seat left w before) [
          | inl here ↦ subst (λ (k : ℕ). IsKnown dealt_hidden k w) (sym here.0) (subst (IsKnown dealt_hidden id) here.1 dealt_left)
          | inr else ↦ let other = rule.known seat w else.1 in record {
            senders = λ h has. dealt_sender seat h (other.senders h has);
            takes = λ takes. (else_takes seat w else.0 else.1 takes, (other.takes takes).1);
            deals = λ deals. absurd (else.0 (sym (other.deals deals).0 ∙ dealer_is.0));
          }
        ]
      ];
    }

  -- the first sender goes to a new pass
  module _ (h : Sender) (senders : List Sender) (are : v.senders ≡ h ∷ senders) (apart : (k : Sender) → Contains senders k → k.who ≢ h.who) where
    abbrev pub left : View
    left = record v { senders = senders }

    abbrev pub lent_hidden : Hidden
    lent_hidden = record { pass_of = with_at h.who (length (set views id left)) x.pass_of; taker = x.taker; dealer = x.dealer; dealt = x.dealt; sent = x.sent; taken = x.taken }

    lent_at : IsSenderAt x id h
    lent_at = mine.senders h (subst (λ (hs : List Sender). Contains hs h) (sym are) (first_in h senders))

    lent_left : IsKnown lent_hidden id left
    lent_left = record {
      senders = λ k has. let it = mine.senders k (subst (λ (hs : List Sender). Contains hs k) (sym are) (in_tail h senders k has)) in record {
        dealt = it.dealt;
        there = with_at-else h.who (length (set views id left)) x.pass_of k.who (apart k has) ∙ it.there;
        known = it.known;
      };
      takes = mine.takes;
      deals = mine.deals;
    }

    lent_right : IsKnown lent_hidden (length (set views id left)) (only_sender h)
    lent_right = record {
      senders = λ k has. subst (IsSenderAt lent_hidden (length (set views id left))) (only_one h k has) (record {
        dealt = lent_at.dealt;
        there = with_at-here h.who (length (set views id left)) x.pass_of;
        known = lent_at.known;
      });
      takes = λ takes. absurd (true≢false (sym takes));
      deals = λ deals. absurd (true≢false (sym deals));
    }

    pub lends : AreInOrder bulks (set views id left ++ only_sender h ∷ [])
    lends = record {
      hidden = lent_hidden;
      in_order = rule.in_order;
      undealt = rule.undealt;
      known = λ seat w there. elim (at_last (set views id left) (only_sender h) w seat there) [
        | inr last ↦ subst (λ (k : ℕ). IsKnown lent_hidden k w) (sym last.0) (subst (IsKnown lent_hidden (length (set views id left))) last.1 lent_right)
        | inl before ↦ elim (at_set views id seat left w before) [
          | inl here ↦ subst (λ (k : ℕ). IsKnown lent_hidden k w) (sym here.0) (subst (IsKnown lent_hidden id) here.1 lent_left)
          | inr else ↦ let other = rule.known seat w else.1 in record {
            senders = λ k has. let it = other.senders k has in record {
              dealt = it.dealt;
              there = with_at-else h.who (length (set views id left)) x.pass_of k.who (λ same. else.0 (sym it.there ∙ ap x.pass_of same ∙ lent_at.there)) ∙ it.there;
              known = it.known;
            };
            takes = other.takes;
            deals = other.deals;
          }
        ]
      ];
    }

  -- a pass takes in the senders of another
  module _ (other : ℕ) (their : View) (apart : ¬ (other ≡ id)) (at_other : get_elem? (set views id (both_senders v their)) other ≡ some their) where
    there_too : get_elem? views other ≡ some their
    there_too = sym (set_else views id other (both_senders v their) apart) ∙ at_other

    abbrev pub moved_to : ℕ → ℕ
    moved_to who = cond (eqb (x.pass_of who) other) id (x.pass_of who)

    moved : (who : ℕ) → x.pass_of who ≡ other → moved_to who ≡ id
    moved who is = cond-true (eqb (x.pass_of who) other) id (x.pass_of who) (eq-eqb (x.pass_of who) other is)

    stayed : (who seat : ℕ) → x.pass_of who ≡ seat → seat ≢ other → moved_to who ≡ seat
    stayed who seat is away = cond-false (eqb (x.pass_of who) other) id (x.pass_of who) (ne_eqb (x.pass_of who) other (λ same. away (sym is ∙ same))) ∙ is

    abbrev pub joined_hidden : Hidden
    joined_hidden = record { pass_of = moved_to; taker = x.taker; dealer = x.dealer; dealt = x.dealt; sent = x.sent; taken = x.taken }

    joined_mine : IsKnown joined_hidden id (both_senders v their)
    joined_mine = record {
      senders = λ h has. elim (Contains-append_cases their.senders v.senders h has) [
        | inl new ↦ let it = (rule.known other their there_too).senders h new in record { dealt = it.dealt; there = moved h.who it.there; known = it.known }
        | inr own ↦ let it = mine.senders h own in record { dealt = it.dealt; there = stayed h.who id it.there (λ same. apart (sym same)); known = it.known }
      ];
      takes = mine.takes;
      deals = mine.deals;
    }

    pub joins : AreInOrder bulks (set (set views id (both_senders v their)) other empty_view)
    joins = record {
      hidden = joined_hidden;
      in_order = rule.in_order;
      undealt = rule.undealt;
      known = λ seat w there. elim (at_set (set views id (both_senders v their)) other seat empty_view w there) [
        | inl spent ↦ subst (IsKnown joined_hidden seat) spent.1 (record {
          senders = λ h has. absurd (none_of h has);
          takes = λ takes. absurd (true≢false (sym takes));
          deals = λ deals. absurd (true≢false (sym deals));
        })
        | inr running ↦ elim (at_set views id seat (both_senders v their) w running.1) [
          | inl here ↦ subst (λ (k : ℕ). IsKnown joined_hidden k w) (sym here.0) (subst (IsKnown joined_hidden id) here.1 joined_mine)
          | inr else ↦ let it = rule.known seat w else.1 in record {
            senders = λ h has. let sent = it.senders h has in record { dealt = sent.dealt; there = stayed h.who seat sent.there running.0; known = sent.known };
            takes = it.takes;
            deals = it.deals;
          }
        ]
      ];
    }

-- the first bulk goes out
module _ (id : ℕ) (v : View) (l : BulkView) (bulks : List BulkView) (views : List View) (rule : AreInOrder (l ∷ bulks) views) (at : get_elem? views id ≡ some v) (may : v.takes ≡ true) where
  abbrev pub old : Hidden
  old = rule.hidden

  abbrev pub got_hidden : Hidden
  got_hidden = record { pass_of = old.pass_of; taker = old.taker; dealer = old.dealer; dealt = old.dealt; sent = old.sent; taken = old.taken ++ l ∷ [] }

  own : IsKnown old id v
  own = rule.known id v at

  sender_as_before : (seat : ℕ) (h : Sender) → IsSenderAt old seat h → IsSenderAt got_hidden seat h
  sender_as_before seat h it = record { dealt = it.dealt; there = it.there; known = it.known }

  got_mine : IsKnown got_hidden id (after_take l v)
  got_mine = record {
    senders = λ h has. sender_as_before id h (own.senders h has);
    takes = λ _. ((own.takes may).0, ap (λ g. g ++ l ∷ []) (own.takes may).1);
    deals = own.deals;
  }

  pub gets : AreInOrder bulks (set views id (after_take l v))
  gets = record {
    hidden = got_hidden;
    in_order = λ who. ap (bulks_of who) (append_assoc old.taken (l ∷ []) bulks) ∙ rule.in_order who;
    undealt = rule.undealt;
    known = λ seat w there. elim (at_set views id seat (after_take l v) w there) [
      | inl here ↦ subst (λ (k : ℕ). IsKnown got_hidden k w) (sym here.0) (subst (IsKnown got_hidden id) here.1 got_mine)
      | inr else ↦ let other = rule.known seat w else.1 in record {
        senders = λ h has. sender_as_before seat h (other.senders h has);
        takes = λ takes. absurd (else.0 (sym (other.takes takes).0 ∙ (own.takes may).0));
        deals = other.deals;
      }
    ];
  }

-- the steps as the queue asks for them
pub may_put : (n id : ℕ) (v : View) (l : BulkView) → v.senders ≡ sender_of v ∷ [] → l.sender ≡ (sender_of v).who → Pushes AreInOrder n id v l (λ w. w ≡ after_put l v)
may_put n id v l one its bulks views room rule at = (after_put l v, puts id v bulks views rule at (sender_of v) one l its, refl)

pub may_take : (id : ℕ) (v : View) → v.takes ≡ true → Pops AreInOrder id v (λ l w. w ≡ after_take l v)
may_take id v may l bulks views rule at = (after_take l v, gets id v l bulks views rule at may, refl)

pub may_learn : (id : ℕ) (v : View) → Learns AreInOrder id v (Shows v)
may_learn id v bulks views rule at = shown id v bulks views rule at

pub may_deal : (id : ℕ) (v : View) → v.senders ≡ [] → v.deals ≡ true → Forks AreInOrder id v (after_deal v) (dealt_view v)
may_deal id v none may bulks views rule at =
    let mine = rule.known id v at in
    deals id v bulks views rule at may (after_deal v) (dealt_view v) rule.hidden.taker none refl mine.takes refl refl (λ takes. absurd (true≢false (sym takes)))
    (λ seat w apart there takes. ((rule.known seat w there).takes takes).0)

pub may_lend : (id : ℕ) (v : View) (h : Sender) (senders : List Sender) → v.senders ≡ h ∷ senders → ((k : Sender) → Contains senders k → k.who ≢ h.who) → Forks AreInOrder id v (other_senders v) (first_sender v)
may_lend id v h senders are apart bulks views rule at =
    subst (λ (hs : List Sender). AreInOrder bulks (set views id (record v { senders = Rattle.hp_ring.specs.Views.rest_of hs }) ++ only_sender (Rattle.hp_ring.specs.Views.first_of hs) ∷ [])) (sym are)
    (lends id v bulks views rule at h senders are apart)

pub may_join : (id : ℕ) (v : View) (other : ℕ) (their : View) → Merges AreInOrder id v other their (both_senders v their) empty_view
may_join id v other their bulks views rule at apart at_other = joins id v bulks views rule at other their apart at_other
