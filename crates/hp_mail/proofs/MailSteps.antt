-- Each step of a mailbox keeps its rule.
use Rattle.std.proofs.Common.{◌≡◌, ◌≢◌, ℕ, zero, suc, ◌+◌, ◌<◌, ◌≤◌, true, false, true≢false, inl, inr, List, [], ◌∷◌, ◌++◌, cond, eqb, eq-eqb, ne_eqb, length, set, refl, sym, ap, subst, ◌∙◌, arith}
use Rattle.std.specs.List.{Contains}
use Rattle.std.proofs.lemmas.List.{append_assoc, append-nil}
use Rattle.std.proofs.lemmas.List.Elements.{Contains-append_cases}
use Rattle.std.proofs.lemmas.Bool.{cond-true, cond-false}
use mathlib.Core.Option.{some}
use lib.ListN.{get_elem?}
use Rattle.crossbeam_queue.specs.Fifo.{Pushes, Pops, Forks, Merges, Learns}
use Rattle.crossbeam_queue.proofs.Lists.{at_set, at_snoc, set_else}
use Rattle.hp_frame.specs.declared.frame.Frame.{Frame}
use Rattle.hp_mail.specs.declared.letter.Letter.{Letter}
use Rattle.hp_mail.specs.declared.view.Sender.{Sender}
use Rattle.hp_mail.specs.declared.view.View.{View}
use Rattle.hp_mail.specs.MailRule.{Hidden, IsSenderAt, IsKnown, Delivers}
use Rattle.hp_mail.specs.Views.{frames_of, sender, sender_of, whole_view, empty_view, only_sender, after_deal, dealt_view, after_deal_owner, owner_view, IsLeft, first_sender, other_senders, both_senders, with_dealing, after_put, after_get, Shows}
use Rattle.hp_mail.proofs.Letters.{frames_of-append, frames_of-own, frames_of-other}
use Rattle.hp_mail.proofs.Updates.{with_at, with_at-here, with_at-else, each, at_last}

only_one : {A : Type 0} (x y : A) → Contains (x ∷ []) y → x ≡ y
only_one x y (zero, inside, is) = is
only_one x y (suc k, inside, is) = absurd (omega arith)

none_of : {A : Type 0} (y : A) → Contains [] y → ⊥
none_of y has = let inside = has.1 in omega arith

first_in : {A : Type 0} (x : A) (xs : List A) → Contains (x ∷ xs) x
first_in x xs = (0, omega arith, refl)

in_tail : {A : Type 0} (x : A) (xs : List A) (y : A) → Contains xs y → Contains (x ∷ xs) y
in_tail x xs y has = let inside = has.1 in (suc has.0, omega arith, has.2)

-- where there is no sender, nothing is to be shown of senders
no_senders : (x : Hidden) (seat : ℕ) (senders : List Sender) → senders ≡ [] → (h : Sender) → Contains senders h → IsSenderAt x seat h
no_senders x seat senders is h has = absurd (none_of h (subst (λ (l : List Sender). Contains l h) is has))

-- the rule before the first step
pub begins : Delivers [] (whole_view ∷ [])
begins = record {
  hidden = record { pass_of = λ _. 0; fetcher = 0; dealer = 0; dealt = 0; posted = λ _. []; fetched = [] };
  in_order = λ who. refl;
  undealt = λ who more. refl;
  known = λ seat v at. first_known seat v at;
}
  where
    first_known : (seat : ℕ) (v : View) → get_elem? (whole_view ∷ []) seat ≡ some v → IsKnown (record { pass_of = λ _. 0; fetcher = 0; dealer = 0; dealt = 0; posted = λ _. []; fetched = [] }) seat v
    first_known seat v at = elim (at_last [] whole_view v seat at) [
      | inl before ↦ absurd (mathlib.Core.Option.some-ne-none v (sym before))
      | inr here ↦ subst (IsKnown (record { pass_of = λ _. 0; fetcher = 0; dealer = 0; dealt = 0; posted = λ _. []; fetched = [] }) seat) here.1 (record {
        senders = λ h has. absurd (none_of h has);
        fetches = λ _. (sym here.0, refl);
        deals = λ _. (sym here.0, refl);
      })
    ]

module _ (id : ℕ) (v : View) (letters : List Letter) (views : List View) (rule : Delivers letters views) (at : get_elem? views id ≡ some v) where
  abbrev pub x : Hidden
  x = rule.hidden

  mine : IsKnown x id v
  mine = rule.known id v at

  -- whatever a pass learns
  pub shown : Shows v letters
  shown = record {
    before = x.fetched;
    fetched = λ fetches. sym (mine.fetches fetches).1;
    in_order = λ h has. rule.in_order h.who ∙ sym (mine.senders h has).known;
    strangers = λ deals who past. rule.in_order who ∙ rule.undealt who (omega (arith, (mine.deals deals).1, past));
  }

  -- a letter comes after all others
  module _ (h : Sender) (one : v.senders ≡ h ∷ []) (l : Letter) (its : l.from ≡ h.who) where
    mine_at : IsSenderAt x id h
    mine_at = mine.senders h (subst (λ (hs : List Sender). Contains hs h) (sym one) (first_in h []))

    abbrev pub put_now : ℕ → List Frame
    put_now = with_at h.who (h.posted ++ l.frame ∷ []) x.posted

    abbrev pub put_hidden : Hidden
    put_hidden = record { pass_of = x.pass_of; fetcher = x.fetcher; dealer = x.dealer; dealt = x.dealt; posted = put_now; fetched = x.fetched }

    abbrev pub now : View
    now = record v { senders = sender h.who (h.posted ++ l.frame ∷ []) ∷ [] }

    longer : (who : ℕ) → frames_of who (x.fetched ++ (letters ++ l ∷ [])) ≡ frames_of who (x.fetched ++ letters) ++ frames_of who (l ∷ [])
    longer who = ap (frames_of who) (sym (append_assoc x.fetched letters (l ∷ []))) ∙ frames_of-append who (x.fetched ++ letters) (l ∷ [])

    now_mine : IsKnown put_hidden id now
    now_mine = record {
      senders = λ k has. subst (IsSenderAt put_hidden id) (only_one _ k has) (record {
        dealt = mine_at.dealt;
        there = mine_at.there;
        known = sym (with_at-here h.who (h.posted ++ l.frame ∷ []) x.posted);
      });
      fetches = mine.fetches;
      deals = mine.deals;
    }

    pub puts : Delivers (letters ++ l ∷ []) (set views id now)
    puts = record {
      hidden = put_hidden;
      in_order = each (λ who frames. frames_of who (x.fetched ++ (letters ++ l ∷ [])) ≡ frames) h.who (h.posted ++ l.frame ∷ []) x.posted
          (longer h.who ∙ ap (λ f. frames_of h.who (x.fetched ++ letters) ++ f) (frames_of-own h.who l its) ∙ ap (λ f. f ++ l.frame ∷ []) (rule.in_order h.who ∙ sym mine_at.known))
          (λ who apart. longer who ∙ ap (λ f. frames_of who (x.fetched ++ letters) ++ f) (frames_of-other who l (λ same. apart (sym same ∙ its))) ∙ append-nil (frames_of who (x.fetched ++ letters)) ∙ rule.in_order who);
      undealt = each (λ who frames. x.dealt ≤ who → frames ≡ []) h.who (h.posted ++ l.frame ∷ []) x.posted
          (λ more. let few = mine_at.dealt in absurd (omega arith)) (λ who apart. rule.undealt who);
      known = λ seat w there. elim (at_set views id seat now w there) [
        | inl here ↦ subst (λ (k : ℕ). IsKnown put_hidden k w) (sym here.0) (subst (IsKnown put_hidden id) here.1 now_mine)
        | inr else ↦ let other = rule.known seat w else.1 in record {
          senders = λ k has. let it = other.senders k has in record {
            dealt = it.dealt;
            there = it.there;
            known = it.known ∙ sym (with_at-else h.who (h.posted ++ l.frame ∷ []) x.posted k.who (λ same. else.0 (sym it.there ∙ ap x.pass_of same ∙ mine_at.there)));
          };
          fetches = other.fetches;
          deals = other.deals;
        }
      ];
    }

  -- the next participant gets a pass: the pass that deals keeps the left view, and the new one has the right one
  module _ (may : v.deals ≡ true) (left right : View) (fetcher : ℕ)
      (left_senders : left.senders ≡ []) (left_dealt : left.dealt ≡ v.dealt + 1) (left_fetches : left.fetches ≡ true → (fetcher ≡ id) × (left.fetched ≡ x.fetched))
      (right_senders : right.senders ≡ sender v.dealt [] ∷ []) (right_deals : right.deals ≡ false) (right_fetches : right.fetches ≡ true → (fetcher ≡ length (set views id left)) × (right.fetched ≡ x.fetched))
      (else_fetches : (seat : ℕ) (w : View) → seat ≢ id → get_elem? views seat ≡ some w → w.fetches ≡ true → fetcher ≡ seat) where
    dealer_is : (x.dealer ≡ id) × (v.dealt ≡ x.dealt)
    dealer_is = mine.deals may

    abbrev pub dealt_hidden : Hidden
    dealt_hidden = record { pass_of = with_at v.dealt (length (set views id left)) x.pass_of; fetcher = fetcher; dealer = x.dealer; dealt = x.dealt + 1; posted = x.posted; fetched = x.fetched }

    dealt_sender : (seat : ℕ) (h : Sender) → IsSenderAt x seat h → IsSenderAt dealt_hidden seat h
    dealt_sender seat h it = let less = it.dealt in let c = dealer_is.1 in record {
      dealt = omega arith;
      there = with_at-else v.dealt (length (set views id left)) x.pass_of h.who (λ same. let d = dealer_is.1 in omega arith) ∙ it.there;
      known = it.known;
    }

    dealt_left : IsKnown dealt_hidden id left
    dealt_left = record {
      senders = no_senders dealt_hidden id left.senders left_senders;
      fetches = left_fetches;
      deals = λ _. (dealer_is.0, left_dealt ∙ ap (λ n. n + 1) dealer_is.1);
    }

    dealt_right : IsKnown dealt_hidden (length (set views id left)) right
    dealt_right = record {
      senders = λ h has. subst (IsSenderAt dealt_hidden (length (set views id left))) (only_one (sender v.dealt []) h (subst (λ (hs : List Sender). Contains hs h) right_senders has)) (let c = dealer_is.1 in record {
        dealt = omega arith;
        there = with_at-here v.dealt (length (set views id left)) x.pass_of;
        known = sym (rule.undealt v.dealt (omega arith));
      });
      fetches = right_fetches;
      deals = λ deals. absurd (true≢false (sym deals ∙ right_deals));
    }

    pub deals : Delivers letters (set views id left ++ right ∷ [])
    deals = record {
      hidden = dealt_hidden;
      in_order = rule.in_order;
      undealt = λ who more. rule.undealt who (omega arith);
      known = λ seat w there. elim (at_last (set views id left) right w seat there) [
        | inr last ↦ subst (λ (k : ℕ). IsKnown dealt_hidden k w) (sym last.0) (subst (IsKnown dealt_hidden (length (set views id left))) last.1 dealt_right)
        | inl before ↦ elim (at_set views id seat left w before) [
          | inl here ↦ subst (λ (k : ℕ). IsKnown dealt_hidden k w) (sym here.0) (subst (IsKnown dealt_hidden id) here.1 dealt_left)
          | inr else ↦ let other = rule.known seat w else.1 in record {
            senders = λ h has. dealt_sender seat h (other.senders h has);
            fetches = λ fetches. (else_fetches seat w else.0 else.1 fetches, (other.fetches fetches).1);
            deals = λ deals. absurd (else.0 (sym (other.deals deals).0 ∙ dealer_is.0));
          }
        ]
      ];
    }

  -- the first sender goes to a new pass
  module _ (h : Sender) (senders : List Sender) (are : v.senders ≡ h ∷ senders) (apart : (k : Sender) → Contains senders k → k.who ≢ h.who) where
    abbrev pub left : View
    left = record v { senders = senders }

    abbrev pub lent_hidden : Hidden
    lent_hidden = record { pass_of = with_at h.who (length (set views id left)) x.pass_of; fetcher = x.fetcher; dealer = x.dealer; dealt = x.dealt; posted = x.posted; fetched = x.fetched }

    lent_at : IsSenderAt x id h
    lent_at = mine.senders h (subst (λ (hs : List Sender). Contains hs h) (sym are) (first_in h senders))

    lent_left : IsKnown lent_hidden id left
    lent_left = record {
      senders = λ k has. let it = mine.senders k (subst (λ (hs : List Sender). Contains hs k) (sym are) (in_tail h senders k has)) in record {
        dealt = it.dealt;
        there = with_at-else h.who (length (set views id left)) x.pass_of k.who (apart k has) ∙ it.there;
        known = it.known;
      };
      fetches = mine.fetches;
      deals = mine.deals;
    }

    lent_right : IsKnown lent_hidden (length (set views id left)) (only_sender h)
    lent_right = record {
      senders = λ k has. subst (IsSenderAt lent_hidden (length (set views id left))) (only_one h k has) (record {
        dealt = lent_at.dealt;
        there = with_at-here h.who (length (set views id left)) x.pass_of;
        known = lent_at.known;
      });
      fetches = λ fetches. absurd (true≢false (sym fetches));
      deals = λ deals. absurd (true≢false (sym deals));
    }

    pub lends : Delivers letters (set views id left ++ only_sender h ∷ [])
    lends = record {
      hidden = lent_hidden;
      in_order = rule.in_order;
      undealt = rule.undealt;
      known = λ seat w there. elim (at_last (set views id left) (only_sender h) w seat there) [
        | inr last ↦ subst (λ (k : ℕ). IsKnown lent_hidden k w) (sym last.0) (subst (IsKnown lent_hidden (length (set views id left))) last.1 lent_right)
        | inl before ↦ elim (at_set views id seat left w before) [
          | inl here ↦ subst (λ (k : ℕ). IsKnown lent_hidden k w) (sym here.0) (subst (IsKnown lent_hidden id) here.1 lent_left)
          | inr else ↦ let other = rule.known seat w else.1 in record {
            senders = λ k has. let it = other.senders k has in record {
              dealt = it.dealt;
              there = with_at-else h.who (length (set views id left)) x.pass_of k.who (λ same. else.0 (sym it.there ∙ ap x.pass_of same ∙ lent_at.there)) ∙ it.there;
              known = it.known;
            };
            fetches = other.fetches;
            deals = other.deals;
          }
        ]
      ];
    }

  -- a pass takes in the senders of another
  module _ (other : ℕ) (their : View) (apart : ¬ (other ≡ id)) (at_other : get_elem? (set views id (both_senders v their)) other ≡ some their) where
    there_too : get_elem? views other ≡ some their
    there_too = sym (set_else views id other (both_senders v their) apart) ∙ at_other

    abbrev pub moved_to : ℕ → ℕ
    moved_to who = cond (eqb (x.pass_of who) other) id (x.pass_of who)

    moved : (who : ℕ) → x.pass_of who ≡ other → moved_to who ≡ id
    moved who is = cond-true (eqb (x.pass_of who) other) id (x.pass_of who) (eq-eqb (x.pass_of who) other is)

    stayed : (who seat : ℕ) → x.pass_of who ≡ seat → seat ≢ other → moved_to who ≡ seat
    stayed who seat is away = cond-false (eqb (x.pass_of who) other) id (x.pass_of who) (ne_eqb (x.pass_of who) other (λ same. away (sym is ∙ same))) ∙ is

    abbrev pub joined_hidden : Hidden
    joined_hidden = record { pass_of = moved_to; fetcher = x.fetcher; dealer = x.dealer; dealt = x.dealt; posted = x.posted; fetched = x.fetched }

    joined_mine : IsKnown joined_hidden id (both_senders v their)
    joined_mine = record {
      senders = λ h has. elim (Contains-append_cases their.senders v.senders h has) [
        | inl new ↦ let it = (rule.known other their there_too).senders h new in record { dealt = it.dealt; there = moved h.who it.there; known = it.known }
        | inr own ↦ let it = mine.senders h own in record { dealt = it.dealt; there = stayed h.who id it.there (λ same. apart (sym same)); known = it.known }
      ];
      fetches = mine.fetches;
      deals = mine.deals;
    }

    pub joins : Delivers letters (set (set views id (both_senders v their)) other empty_view)
    joins = record {
      hidden = joined_hidden;
      in_order = rule.in_order;
      undealt = rule.undealt;
      known = λ seat w there. elim (at_set (set views id (both_senders v their)) other seat empty_view w there) [
        | inl spent ↦ subst (IsKnown joined_hidden seat) spent.1 (record {
          senders = λ h has. absurd (none_of h has);
          fetches = λ fetches. absurd (true≢false (sym fetches));
          deals = λ deals. absurd (true≢false (sym deals));
        })
        | inr running ↦ elim (at_set views id seat (both_senders v their) w running.1) [
          | inl here ↦ subst (λ (k : ℕ). IsKnown joined_hidden k w) (sym here.0) (subst (IsKnown joined_hidden id) here.1 joined_mine)
          | inr else ↦ let it = rule.known seat w else.1 in record {
            senders = λ h has. let sent = it.senders h has in record { dealt = sent.dealt; there = stayed h.who seat sent.there running.0; known = sent.known };
            fetches = it.fetches;
            deals = it.deals;
          }
        ]
      ];
    }

  -- a pass takes over the dealing from another
  module _ (other : ℕ) (their : View) (apart : ¬ (other ≡ id)) (at_other : get_elem? (set views id (with_dealing v their)) other ≡ some their)
      (dealing : their.deals ≡ true) where
    there_before : get_elem? views other ≡ some their
    there_before = sym (set_else views id other (with_dealing v their) apart) ∙ at_other

    dealer_there : (x.dealer ≡ other) × (their.dealt ≡ x.dealt)
    dealer_there = (rule.known other their there_before).deals dealing

    abbrev pub over_hidden : Hidden
    over_hidden = record { pass_of = x.pass_of; fetcher = x.fetcher; dealer = id; dealt = x.dealt; posted = x.posted; fetched = x.fetched }

    sender_over : (seat : ℕ) (h : Sender) → IsSenderAt x seat h → IsSenderAt over_hidden seat h
    sender_over seat h it = record { dealt = it.dealt; there = it.there; known = it.known }

    over_mine : IsKnown over_hidden id (with_dealing v their)
    over_mine = record {
      senders = λ h has. sender_over id h (mine.senders h has);
      fetches = mine.fetches;
      deals = λ _. (refl, dealer_there.1);
    }

    pub takes_over : Delivers letters (set (set views id (with_dealing v their)) other empty_view)
    takes_over = record {
      hidden = over_hidden;
      in_order = rule.in_order;
      undealt = rule.undealt;
      known = λ seat w there. elim (at_set (set views id (with_dealing v their)) other seat empty_view w there) [
        | inl spent ↦ subst (IsKnown over_hidden seat) spent.1 (record {
          senders = λ h has. absurd (none_of h has);
          fetches = λ fetches. absurd (true≢false (sym fetches));
          deals = λ deals. absurd (true≢false (sym deals));
        })
        | inr running ↦ elim (at_set views id seat (with_dealing v their) w running.1) [
          | inl here ↦ subst (λ (k : ℕ). IsKnown over_hidden k w) (sym here.0) (subst (IsKnown over_hidden id) here.1 over_mine)
          | inr else ↦ let it = rule.known seat w else.1 in record {
            senders = λ h has. sender_over seat h (it.senders h has);
            fetches = it.fetches;
            deals = λ deals. absurd (running.0 (sym (it.deals deals).0 ∙ dealer_there.0));
          }
        ]
      ];
    }

-- the first letter goes out
module _ (id : ℕ) (v : View) (l : Letter) (letters : List Letter) (views : List View) (rule : Delivers (l ∷ letters) views) (at : get_elem? views id ≡ some v) (may : v.fetches ≡ true) where
  abbrev pub old : Hidden
  old = rule.hidden

  abbrev pub got_hidden : Hidden
  got_hidden = record { pass_of = old.pass_of; fetcher = old.fetcher; dealer = old.dealer; dealt = old.dealt; posted = old.posted; fetched = old.fetched ++ l ∷ [] }

  own : IsKnown old id v
  own = rule.known id v at

  sender_as_before : (seat : ℕ) (h : Sender) → IsSenderAt old seat h → IsSenderAt got_hidden seat h
  sender_as_before seat h it = record { dealt = it.dealt; there = it.there; known = it.known }

  got_mine : IsKnown got_hidden id (after_get l v)
  got_mine = record {
    senders = λ h has. sender_as_before id h (own.senders h has);
    fetches = λ _. ((own.fetches may).0, ap (λ g. g ++ l ∷ []) (own.fetches may).1);
    deals = own.deals;
  }

  pub gets : Delivers letters (set views id (after_get l v))
  gets = record {
    hidden = got_hidden;
    in_order = λ who. ap (frames_of who) (append_assoc old.fetched (l ∷ []) letters) ∙ rule.in_order who;
    undealt = rule.undealt;
    known = λ seat w there. elim (at_set views id seat (after_get l v) w there) [
      | inl here ↦ subst (λ (k : ℕ). IsKnown got_hidden k w) (sym here.0) (subst (IsKnown got_hidden id) here.1 got_mine)
      | inr else ↦ let other = rule.known seat w else.1 in record {
        senders = λ h has. sender_as_before seat h (other.senders h has);
        fetches = λ fetches. absurd (else.0 (sym (other.fetches fetches).0 ∙ (own.fetches may).0));
        deals = other.deals;
      }
    ];
  }

-- the steps as the queue asks for them
pub may_put : (n id : ℕ) (v : View) (l : Letter) → v.senders ≡ sender_of v ∷ [] → l.from ≡ (sender_of v).who → Pushes Delivers n id v l (λ w. w ≡ after_put l.frame v)
may_put n id v l one its letters views room rule at = (after_put l.frame v, puts id v letters views rule at (sender_of v) one l its, refl)

pub may_get : (id : ℕ) (v : View) → v.fetches ≡ true → Pops Delivers id v (λ l w. w ≡ after_get l v)
may_get id v may l letters views rule at = (after_get l v, gets id v l letters views rule at may, refl)

pub may_learn : (id : ℕ) (v : View) → Learns Delivers id v (Shows v)
may_learn id v letters views rule at = shown id v letters views rule at

pub may_deal : (id : ℕ) (v : View) → v.senders ≡ [] → v.deals ≡ true → Forks Delivers id v (after_deal v) (dealt_view v)
may_deal id v none may letters views rule at =
    let mine = rule.known id v at in
    deals id v letters views rule at may (after_deal v) (dealt_view v) rule.hidden.fetcher none refl mine.fetches refl refl (λ fetches. absurd (true≢false (sym fetches)))
    (λ seat w apart there fetches. ((rule.known seat w there).fetches fetches).0)

pub may_deal_owner : (id : ℕ) (v : View) → v.senders ≡ [] → v.deals ≡ true → v.fetches ≡ true → Forks Delivers id v (after_deal_owner v) (owner_view v)
may_deal_owner id v none may fetching letters views rule at =
    let mine = rule.known id v at in
    deals id v letters views rule at may (after_deal_owner v) (owner_view v) (length (set views id (after_deal_owner v))) none refl (λ fetches. absurd (true≢false (sym fetches))) refl refl
    (λ _. (refl, (mine.fetches fetching).1))
    (λ seat w apart there fetches. absurd (apart (sym ((rule.known seat w there).fetches fetches).0 ∙ (mine.fetches fetching).0)))

pub may_lend : (id : ℕ) (v : View) (h : Sender) (senders : List Sender) → v.senders ≡ h ∷ senders → ((k : Sender) → Contains senders k → k.who ≢ h.who) → Forks Delivers id v (other_senders v) (first_sender v)
may_lend id v h senders are apart letters views rule at =
    subst (λ (hs : List Sender). Delivers letters (set views id (record v { senders = Rattle.hp_mail.specs.Views.rest_of hs }) ++ only_sender (Rattle.hp_mail.specs.Views.first_of hs) ∷ [])) (sym are)
    (lends id v letters views rule at h senders are apart)

pub may_join : (id : ℕ) (v : View) (other : ℕ) (their : View) → Merges Delivers id v other their (both_senders v their) empty_view
may_join id v other their letters views rule at apart at_other = joins id v letters views rule at other their apart at_other

pub may_take_over : (id : ℕ) (v : View) (other : ℕ) (their : View) → their.deals ≡ true → Merges Delivers id v other their (with_dealing v their) empty_view
may_take_over id v other their dealing letters views rule at apart at_other =
    takes_over id v letters views rule at other their apart at_other dealing
