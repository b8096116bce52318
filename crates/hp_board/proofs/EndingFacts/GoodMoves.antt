-- What is taken and given is good when it is, by the parts of the rule on locks and on ownership.
use Rattle.std.proofs.Common.{◌≡◌, ◌∙◌, inl, inr, ⊎_elim, ℕ, ◌+◌, ◌<◌, ◌≤◌, List, ◌++◌, get_or, set, Option, Some, None, sym, ap, subst, arith, get_or-set_other}
use Rattle.std.proofs.lemmas.Bool.{cases_lt}
use mathlib.Core.Option as maybe
use Rattle.hp_base.specs.declared.limits.TheConstants.{MAX_HEAPS}
use Rattle.hp_segs.specs.SettledAsks.{IsSettled}
use Rattle.hp_segs.specs.Sound.{IsSound}
use Rattle.hp_segs.specs.declared.ask.Ask.{Ask}
use Rattle.hp_hall.specs.Giving.{Knows}
use Rattle.hp_hall.specs.Later.{IsLaterKept}
use Rattle.hp_hall.specs.Values.{history_of}
use Rattle.hp_hall.specs.declared.kept.Kept.{Kept}
use Rattle.hp_hall.specs.declared.kept.Kept.TheVariants.{Heap, Names, Segments}
use Rattle.hp_hall.proofs.LaterKept.{heap_given, segs_given}
use Rattle.hp_board.specs.Giving.{GivesAt}
use Rattle.hp_board.specs.KeptValues.{IsKeptAt}
use Rattle.hp_board.specs.Locks.{AreLocked}
use Rattle.hp_board.specs.MovesKept.{AreAlike, HasAdded, IsGoodThen, Slotted, StandsThen, slots_by}
use Rattle.hp_board.specs.Ownership.{AreOwned}
use Rattle.hp_board.specs.declared.opening.Opening.{Opening}
use Rattle.hp_board.specs.declared.view.Mine.{Mine}
use Rattle.hp_board.proofs.OwnershipFacts.GivenTaken.{by_gives}
use Rattle.hp_board.proofs.Histories.{GivesCalls, added}
use Rattle.hp_board.proofs.OwnershipFacts.Holders.{holds_word}

-- a value stays good over slots that are alike
pub good_alike : (slots other : Slotted) → AreAlike slots other → (slot : ℕ) (kept : Kept) → IsGoodThen other.word slot kept → IsGoodThen slots.word slot kept
good_alike slots other alike slot (Heap heap pen) good = good
good_alike slots other alike slot (Names names) good = good
good_alike slots other alike slot (Segments segs) good = (
  good.0,
  record {
    sound = good.1.sound;
    armed = good.1.armed;
    asking = λ who ask is.
        ⊎_elim (λ (settled : IsSettled ask.from ask.number segs). inl settled)
        (λ (holds : (ask.heap < MAX_HEAPS) × (other.word ask.heap ≡ who + 1)).
        let below = holds.0 in inr (holds.0, sym (alike.word ask.heap (omega (arith, below))) ∙ holds.1)) (good.1.asking who ask is);
  },
)

module _ (opening : Opening) (words : List ℕ) (homes : List (maybe.Option (Option Kept))) (kept : ℕ → Kept) (mine : ℕ → Mine)
    (locked : AreLocked opening.participants words homes kept mine) (owned : AreOwned opening.participants words kept mine) where
  stands : IsSound owned.segs → StandsThen (slots_by kept words).word owned.segs
  stands sound = record {
    sound = sound;
    armed = owned.armed;
    asking = λ who ask is.
        ⊎_elim
        (λ (below : who < opening.participants).
        ⊎_elim (λ (settled : IsSettled ask.from ask.number owned.segs). inl settled)
        (λ holds. inr (holds_word opening.participants words homes kept mine locked who ask.heap below holds))
        ((owned.owners who below).asking ask (sym (owned.owners who below).armed ∙ is)))
        (λ (beyond : opening.participants ≤ who).
        let wrong : ◌≡◌ {A = Option Ask} None (Some ask) = sym (owned.nobody who beyond) ∙ is in absurd (cc))
        (cases_lt who opening.participants);
  }

  -- the value of a slot is good
  pub good_kept : (slot : ℕ) (value : Kept) → kept slot ≡ value → IsKeptAt opening slot value → IsGoodThen (slots_by kept words).word slot value
  good_kept slot (Heap heap pen) is at = (at.heap.below, at.heap.index, at.heap.sound)
  good_kept slot (Names names) is at = (at.last, at.zones, at.heaps)
  good_kept slot (Segments segs) is at =
      let both : Segments segs ≡ Segments owned.segs = sym is ∙ (ap kept at.last ∙ owned.there) in
      let same : segs ≡ owned.segs = cc in
      (at.last, subst (StandsThen (slots_by kept words).word) (sym same) (stands (subst IsSound same at.sound)))

-- what is good once it was given is good before, since the lock words of heaps are the same
pub good_before : (opening : Opening) (words : List ℕ) (kept kept' : ℕ → Kept) (slot : ℕ) (given : Kept) → IsKeptAt opening slot given
    → IsGoodThen (slots_by kept' (set words slot 0)).word slot given → IsGoodThen (slots_by kept words).word slot given
good_before opening words kept kept' slot (Heap heap pen) at good = good
good_before opening words kept kept' slot (Names names) at good = good
good_before opening words kept kept' slot (Segments segs) at good = (
  good.0,
  record {
    sound = good.1.sound;
    armed = good.1.armed;
    asking = λ who ask is.
        ⊎_elim (λ (settled : IsSettled ask.from ask.number segs). inl settled)
        (λ (holds : (ask.heap < MAX_HEAPS) × (get_or (set words slot 0) ask.heap 0 ≡ who + 1)).
        let below = holds.0 in
        let last = at.last in
        inr (holds.0, sym (get_or-set_other words slot ask.heap 0 0 (λ same. omega (arith, same, below, last))) ∙ holds.1)) (good.1.asking who ask is);
  },
)

-- entries of the giver alone came in
pub has_added : (who count : ℕ) (was taken given : Kept) → was ≡ taken → GivesCalls who count taken given → HasAdded who was given
has_added who count was taken given is gives =
    let more = added who count taken given gives in
    record {
      own = more.own;
      history = more.history ∙ ap (λ (v : Kept). history_of v ++ more.own) (sym is);
      count = count;
      numbered = more.numbered;
    }

-- and the value is the taken one later on
pub later_at : (knows : Knows) (was taken given : Kept) → was ≡ taken → GivesAt knows taken given → IsLaterKept was given
later_at knows was taken given is gives =
    subst (λ (v : Kept). IsLaterKept v given) (sym is)
    (by_gives knows IsLaterKept (λ taken given gives. heap_given knows taken.heap given.heap gives.heap) (segs_given knows)
    (λ taken given gives. gives.names.goes_on) taken given gives)
