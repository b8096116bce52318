-- The heaps stay sound, and have the calls that the views say, when a slot is given back; a step that makes no entry leaves them.
use Rattle.std.proofs.Common.{◌≡◌, ◌≢◌, ℕ, ◌+◌, ◌<◌, ◌≤◌, [], ◌++◌, map, length, Some, sym, ap, subst, ◌∙◌, arith}
use Rattle.std.specs.List.{All}
use Rattle.std.proofs.lemmas.List.{append-nil, map-append, length-map}
use Rattle.std.proofs.lemmas.List.Elements.{All-append, All-map}
use Rattle.hp_heap.specs.declared.entry.Entry.{Entry}
use Rattle.hp_heap.specs.History.{entries_of}
use Rattle.hp_hall.specs.declared.kept.Kept.{Kept}
use Rattle.hp_board.specs.declared.opening.Opening.{Opening}
use Rattle.hp_board.specs.declared.words.TheConstants.{SLOTS}
use Rattle.hp_board.specs.declared.view.Mine.{Mine}
use Rattle.hp_board.specs.HeapsKept.{AreKept}
use Rattle.hp_board.specs.KeptValues.{IsKeptAt, entries_added}
use Rattle.hp_hall.specs.Giving.{IsNumbered}
use Rattle.hp_hall.specs.Values.{history_of, IsSoundKept}
use Rattle.hp_board.specs.Views.{value_of, values_of, under, made_in, all_made, after_give}
use Rattle.hp_board.proofs.Pairs.{values_of-append, values_of-under, values_of-under_else, map-under}
use Rattle.hp_board.proofs.Updates.{with_at, each}
use Rattle.hp_board.proofs.Histories.{entries_of-append, entries_of-own, entries_of-other, IsNumbered-append, GivesCalls, IsAdded, added, given_at}

module _ (opening : Opening) (kept : ℕ → Kept) (mine : ℕ → Mine) (heaps : AreKept opening kept mine)
    (part : Mine) (known : part ≡ mine part.who) where
  -- a step that makes no entry
  pub kept_same : (new : Mine) → new.made ≡ part.made → AreKept opening kept (with_at part.who new mine)
  kept_same new same =
      let made : new.made ≡ (mine part.who).made = same ∙ ap (λ (m : Mine). m.made) known in
      record {
        at = heaps.at;
        own = λ who slot. each (λ w m. w < opening.participants → slot < SLOTS → entries_of w (history_of (kept slot)) ≡ made_in slot m) part.who new mine
            (λ may within. heaps.own part.who slot may within ∙ ap (values_of slot) (sym made)) (λ w apart. heaps.own w slot) who;
        strange = heaps.strange;
        numbered = each (λ w m. w < opening.participants → IsNumbered w 0 (all_made m)) part.who new mine
            (λ may. subst (λ l. IsNumbered part.who 0 (map (λ (pair : ℕ × Entry). pair.1) l)) (sym made) (heaps.numbered part.who may)) (λ w apart. heaps.numbered w);
        placed = each (λ w m. w < opening.participants → All (λ (pair : ℕ × Entry). pair.0 < SLOTS) m.made) part.who new mine
            (λ may. subst (All (λ (pair : ℕ × Entry). pair.0 < SLOTS)) (sym made) (heaps.placed part.who may)) (λ w apart. heaps.placed w);
      }

  module _ (slot : ℕ) (inside : slot < SLOTS) (declared : part.who < opening.participants) (taken given : Kept) (holds : value_of slot part.held ≡ Some taken)
      (taken_is : kept slot ≡ taken) (gives : GivesCalls part.who (length part.made) taken given) (sound : IsSoundKept given) where
    new : IsAdded part.who (length part.made) taken given
    new = added part.who (length part.made) taken given gives

    more : entries_added (value_of slot part.held) given ≡ new.own
    more = ap (λ o. entries_added o given) holds ∙ new.added

    -- the entries of the giver, and those of all others, after the give
    pub own_here : entries_of part.who (history_of given) ≡ values_of slot (part.made ++ under slot (entries_added (value_of slot part.held) given))
    own_here =
        ap (entries_of part.who) new.history
        ∙ entries_of-append part.who (history_of taken) new.own
        ∙ ap (λ rest. entries_of part.who (history_of taken) ++ rest) (entries_of-own part.who (length part.made) new.own new.numbered)
        ∙ ap (λ front. front ++ new.own) (ap (λ k. entries_of part.who (history_of k)) (sym taken_is) ∙ heaps.own part.who slot declared inside ∙ ap (λ (m : Mine). values_of slot m.made) (sym known))
        ∙ sym (values_of-append slot part.made (under slot (entries_added (value_of slot part.held) given))
        ∙ ap (λ rest. values_of slot part.made ++ rest) (values_of-under slot (entries_added (value_of slot part.held) given) ∙ more))

    own_else : (k : ℕ) → k ≢ slot → values_of k (part.made ++ under slot (entries_added (value_of slot part.held) given)) ≡ values_of k part.made
    own_else k apart =
        values_of-append k part.made (under slot (entries_added (value_of slot part.held) given))
        ∙ ap (λ rest. values_of k part.made ++ rest) (values_of-under_else slot k (entries_added (value_of slot part.held) given) apart)
        ∙ append-nil (values_of k part.made)

    others_here : (who : ℕ) → who ≢ part.who → entries_of who (history_of given) ≡ entries_of who (history_of (kept slot))
    others_here who apart =
        ap (entries_of who) new.history
        ∙ entries_of-append who (history_of taken) new.own
        ∙ ap (λ rest. entries_of who (history_of taken) ++ rest) (entries_of-other part.who who (length part.made) new.own apart new.numbered)
        ∙ append-nil (entries_of who (history_of taken))
        ∙ ap (λ k. entries_of who (history_of k)) (sym taken_is)

    numbered_on : IsNumbered part.who 0 (map (λ (pair : ℕ × Entry). pair.1) (part.made ++ under slot (entries_added (value_of slot part.held) given)))
    numbered_on =
        let whole : map (λ (pair : ℕ × Entry). pair.1) (part.made ++ under slot (entries_added (value_of slot part.held) given)) ≡ all_made part ++ new.own =
        map-append (λ (pair : ℕ × Entry). pair.1) part.made (under slot (entries_added (value_of slot part.held) given))
        ∙ ap (λ rest. all_made part ++ rest) (map-under slot (entries_added (value_of slot part.held) given) ∙ more) in
        let long : length part.made ≡ 0 + length (all_made part) = omega (arith, length-map part.made (λ (pair : ℕ × Entry). pair.1)) in
        let front : IsNumbered part.who 0 (all_made part) = subst (λ (m : Mine). IsNumbered part.who 0 (all_made m)) (sym known) (heaps.numbered part.who declared) in
        subst (IsNumbered part.who 0) (sym whole)
        (IsNumbered-append part.who 0 (all_made part) new.own front (subst (λ (n : ℕ). IsNumbered part.who n new.own) long new.numbered))

    -- a value is given
    pub kept_give : AreKept opening (with_at slot given kept) (with_at part.who (after_give slot given part) mine)
    kept_give = record {
      at = each (λ k x. k < SLOTS → IsKeptAt opening k x) slot given kept
          (λ within. given_at opening slot part.who (length part.made) taken given gives sound (subst (IsKeptAt opening slot) taken_is (heaps.at slot within))) (λ k apart. heaps.at k);
      own = λ who k. each (λ w m. w < opening.participants → k < SLOTS → entries_of w (history_of (with_at slot given kept k)) ≡ made_in k m) part.who (after_give slot given part) mine (own k) (others k) who;
      strange = λ who k. each (λ j x. opening.participants ≤ who → j < SLOTS → entries_of who (history_of x) ≡ []) slot given kept
          (λ strange within. others_here who (λ same. omega arith) ∙ heaps.strange who slot strange within) (λ j apart strange within. heaps.strange who j strange within) k;
      numbered = each (λ w m. w < opening.participants → IsNumbered w 0 (all_made m)) part.who (after_give slot given part) mine (λ _. numbered_on) (λ w apart. heaps.numbered w);
      placed = each (λ w m. w < opening.participants → All (λ (pair : ℕ × Entry). pair.0 < SLOTS) m.made) part.who (after_give slot given part) mine
          (λ may. All-append (λ (pair : ℕ × Entry). pair.0 < SLOTS) part.made (under slot (entries_added (value_of slot part.held) given))
          (subst (λ (m : Mine). All (λ (pair : ℕ × Entry). pair.0 < SLOTS) m.made) (sym known) (heaps.placed part.who may))
          (All-map (λ (pair : ℕ × Entry). pair.0 < SLOTS) (λ (entry : Entry). (slot, entry)) (entries_added (value_of slot part.held) given) (λ k d within. inside)))
          (λ w apart. heaps.placed w);
    }
      where
        own : (k : ℕ) → part.who < opening.participants → k < SLOTS → entries_of part.who (history_of (with_at slot given kept k)) ≡ made_in k (after_give slot given part)
        own = each (λ k x. part.who < opening.participants → k < SLOTS → entries_of part.who (history_of x) ≡ made_in k (after_give slot given part)) slot given kept
            (λ _ _. own_here)
            (λ k apart may within. heaps.own part.who k may within ∙ ap (λ (m : Mine). values_of k m.made) (sym known) ∙ sym (own_else k apart))

        others : (k who : ℕ) → who ≢ part.who → who < opening.participants → k < SLOTS → entries_of who (history_of (with_at slot given kept k)) ≡ made_in k (mine who)
        others k who apart = each (λ j x. who < opening.participants → j < SLOTS → entries_of who (history_of x) ≡ made_in j (mine who)) slot given kept
            (λ may within. others_here who apart ∙ heaps.own who slot may within)
            (λ j _ may within. heaps.own who j may within) k
