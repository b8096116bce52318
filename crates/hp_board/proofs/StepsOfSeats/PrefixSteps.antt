-- What views have seen stays a front of the histories when a slot is taken and when it is given back.
use Rattle.std.proofs.Common.{◌≡◌, ◌≢◌, ℕ, ◌<◌, List, [], ◌∷◌, length, unwrap_or, refl, sym, ap, subst, ◌∙◌}
use mathlib.Core.Logic.{dite}
use native.Mathlib.Decide.{ℕ_discrete}
use Rattle.hp_heap.specs.declared.entry.Entry.{Entry}
use Rattle.hp_hall.specs.declared.kept.Kept.{Kept}
use Rattle.hp_board.specs.declared.opening.Opening.{Opening}
use Rattle.hp_board.specs.declared.words.TheConstants.{SLOTS}
use Rattle.hp_board.specs.declared.view.Mine.{Mine}
use Rattle.hp_hall.specs.Values.{history_of}
use Rattle.hp_board.specs.Prefixes.{AreSeen}
use Rattle.hp_board.specs.Views.{Learned, value_of, seen_of, BeginsWith, after_take, after_give, after_look}
use Rattle.hp_board.proofs.Pairs.{value_of-here, value_of-else}
use Rattle.hp_board.proofs.Updates.{with_at, with_at-else, each}
use Rattle.hp_board.proofs.Histories.{GivesCalls, added, begins, begins-on}

-- the history that was seen last is in front, and those of other slots stay
seen_each : (P : ℕ → List Entry → Type 0) (slot : ℕ) (history : List Entry) (seen : List (ℕ × List Entry)) → P slot history
    → ((k : ℕ) → k ≢ slot → P k (unwrap_or (value_of k seen) [])) → (k : ℕ) → P k (unwrap_or (value_of k ((slot, history) ∷ seen)) [])
seen_each P slot history seen here else k =
    dite (ℕ_discrete k slot)
    (λ same. subst (λ (j : ℕ). P j (unwrap_or (value_of j ((slot, history) ∷ seen)) [])) (sym same)
    (subst (λ o. P slot (unwrap_or o [])) (sym (value_of-here slot history seen)) here))
    (λ apart. subst (λ o. P k (unwrap_or o [])) (sym (value_of-else slot k history seen apart)) (else k apart))

module _ (opening : Opening) (kept : ℕ → Kept) (mine : ℕ → Mine) (prefixes : AreSeen opening kept mine)
    (part : Mine) (known : part ≡ mine part.who) where
  opened : (new : Mine) → new.opening ≡ part.opening → (who : ℕ) → who < opening.participants → (with_at part.who new mine who).opening ≡ opening
  opened new same = each (λ w m. w < opening.participants → m.opening ≡ opening) part.who new mine
      (λ may. same ∙ ap (λ (m : Mine). m.opening) known ∙ prefixes.opened part.who may) (λ w apart. prefixes.opened w)

  old : (k : ℕ) → part.who < opening.participants → k < SLOTS → BeginsWith (history_of (kept k)) (seen_of k part)
  old k may within = subst (λ m. BeginsWith (history_of (kept k)) (seen_of k m)) (sym known) (prefixes.seen part.who k may within)

  -- a held word was found
  pub seen_look : (slot word : ℕ) → AreSeen opening kept (with_at part.who (after_look slot word part) mine)
  seen_look slot word = record {
    opened = opened (after_look slot word part) refl;
    seen = λ who k. each (λ w m. w < opening.participants → k < SLOTS → BeginsWith (history_of (kept k)) (seen_of k m)) part.who (after_look slot word part) mine
        (old k) (λ w apart. prefixes.seen w k) who;
  }

  -- nothing of what was seen of histories changed
  pub seen_same : (new : Mine) → new.opening ≡ part.opening → new.seen ≡ part.seen → AreSeen opening kept (with_at part.who new mine)
  seen_same new same seen = record {
    opened = opened new same;
    seen = λ who k. each (λ w m. w < opening.participants → k < SLOTS → BeginsWith (history_of (kept k)) (seen_of k m)) part.who new mine
        (λ may within. subst (λ l. BeginsWith (history_of (kept k)) (unwrap_or (value_of k l) [])) (sym seen) (old k may within)) (λ w apart. prefixes.seen w k) who;
  }

  -- the value of a slot was taken
  pub seen_take : (slot : ℕ) (learned : Learned) → AreSeen opening kept (with_at part.who (after_take slot (kept slot) learned part) mine)
  seen_take slot learned = record {
    opened = opened (after_take slot (kept slot) learned part) refl;
    seen = λ who k. each (λ w m. w < opening.participants → k < SLOTS → BeginsWith (history_of (kept k)) (seen_of k m)) part.who (after_take slot (kept slot) learned part) mine
        (λ may. seen_each (λ j h. j < SLOTS → BeginsWith (history_of (kept j)) h) slot (history_of (kept slot)) part.seen
        (λ _. begins (history_of (kept slot))) (λ j apart. old j may) k)
        (λ w apart. prefixes.seen w k) who;
  }

  -- a value was given
  pub seen_give : (slot : ℕ) (taken given : Kept) → kept slot ≡ taken → GivesCalls part.who (length part.made) taken given
      → AreSeen opening (with_at slot given kept) (with_at part.who (after_give slot given part) mine)
  seen_give slot taken given taken_is gives = record {
    opened = opened (after_give slot given part) refl;
    seen = λ who k. each (λ w m. w < opening.participants → k < SLOTS → BeginsWith (history_of (with_at slot given kept k)) (seen_of k m)) part.who (after_give slot given part) mine (own k) (others k) who;
  }
    where
      grown : (front : List Entry) → BeginsWith (history_of (kept slot)) front → BeginsWith (history_of given) front
      grown front is =
          let new = added part.who (length part.made) taken given gives in
          subst (λ h. BeginsWith h front) (sym new.history) (begins-on (history_of taken) new.own front (subst (λ k. BeginsWith (history_of k) front) taken_is is))

      own : (k : ℕ) → part.who < opening.participants → k < SLOTS → BeginsWith (history_of (with_at slot given kept k)) (seen_of k (after_give slot given part))
      own k may = seen_each (λ j h. j < SLOTS → BeginsWith (history_of (with_at slot given kept j)) h) slot (history_of given) part.seen
          (λ _. subst (λ x. BeginsWith (history_of x) (history_of given)) (sym (Rattle.hp_board.proofs.Updates.with_at-here slot given kept)) (begins (history_of given)))
          (λ j apart within. subst (λ x. BeginsWith (history_of x) (seen_of j part)) (sym (with_at-else slot given kept j apart)) (old j may within)) k

      others : (k who : ℕ) → who ≢ part.who → who < opening.participants → k < SLOTS → BeginsWith (history_of (with_at slot given kept k)) (seen_of k (mine who))
      others k who apart = each (λ j x. who < opening.participants → j < SLOTS → BeginsWith (history_of x) (seen_of j (mine who))) slot given kept
          (λ may within. grown (seen_of slot (mine who)) (prefixes.seen who slot may within))
          (λ j _ may within. prefixes.seen who j may within) k
