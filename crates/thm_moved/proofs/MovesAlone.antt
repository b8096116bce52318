-- While by the moves of a board one has a heap in hand, no growth of others is open for that.
use Rattle.std.proofs.Common.{◌≡◌, ◌≢◌, ◌∙◌, ◌⊎◌, ℕ, ◌+◌, ◌<◌, Bool, true, cond, eqb, eq-eqb, ne_eqb, List, [], ◌∷◌, Option, Some, None, inl, inr, ⊎_elim, refl, sym, ap, subst, arith}
use Rattle.std.specs.Prelude.{⊤}
use Rattle.std.proofs.lemmas.Bool.{cases_eq, cond-false, cond-true, eqb-true}
use Rattle.hp_base.specs.declared.limits.TheConstants.{MAX_HEAPS}
use Rattle.hp_board.specs.MovesKept.{IsMove, Replays, Slotted, StandsThen, slots_after}
use Rattle.hp_board.specs.Views.{values_of}
use Rattle.hp_board.specs.declared.view.Move.{Move}
use Rattle.hp_board.specs.declared.view.Move.TheVariants.{Gave, Took}
use Rattle.hp_chair.specs.Steps.{moves_in}
use Rattle.hp_hall.specs.Mail.{Fetches, Gives, MailStep, Notes, Posts, Takes}
use Rattle.hp_hall.specs.declared.kept.Kept.{Kept}
use Rattle.hp_hall.specs.declared.kept.Kept.TheVariants.{Heap, Names, Segments}
use Rattle.hp_segs.specs.LaterSteps.{armed_ask}
use Rattle.hp_segs.specs.SegsView.{SegsView}
use Rattle.hp_segs.specs.SettledAsks.{IsSettled}
use Rattle.hp_segs.specs.declared.ask.Ask.{Ask}
use Rattle.thm_run.proofs.GrownHeaps.GrowthsAlone.{none_else_for_held}
use Rattle.thm_run.specs.OwnLines.{NoneElseGrowsAlong, NoneElseGrowsFor}
use Rattle.thm_moved.proofs.MovesHeld.{good_given, good_taken, other_first, own_first}

-- the heap that a participant has in hand is held by it
abbrev HasHand : ℕ → Option ℕ → Slotted → Type 0
HasHand who None slots = ⊤
HasHand who (Some heap) slots = (heap < MAX_HEAPS) × (slots.word heap ≡ who + 1)

-- whether a participant has a heap in hand, by the lock words
abbrev holds_by : Slotted → ℕ → ℕ → Bool
holds_by slots who heap = eqb (slots.word heap) (who + 1)

-- in a value that is taken or given, nobody else's growth is open for a heap in hand
none_for : (who : ℕ) (hand : Option ℕ) (slots : Slotted) (segs : SegsView) → HasHand who hand slots → StandsThen slots.word segs
    → NoneElseGrowsFor who hand segs
none_for who None slots segs has stands = tt
none_for who (Some heap) slots segs has stands =
    none_else_for_held segs (holds_by slots) who heap stands.armed.growth asking once (eq-eqb (slots.word heap) (who + 1) has.1)
  where
    asking : (other : ℕ) (ask : Ask) → armed_ask segs other ≡ Some ask
        → IsSettled ask.from ask.number segs ⊎ (holds_by slots other ask.heap ≡ true)
    asking other ask is =
        ⊎_elim (λ (settled : IsSettled ask.from ask.number segs). inl settled)
        (λ (held : (ask.heap < MAX_HEAPS) × (slots.word ask.heap ≡ other + 1)). inr (eq-eqb (slots.word ask.heap) (other + 1) held.1))
        (stands.asking other ask is)

    once : (one other heap : ℕ) → holds_by slots one heap ≡ true → holds_by slots other heap ≡ true → one ≡ other
    once one other heap first second =
        let its = eqb-true (slots.word heap) (one + 1) first in
        let same = eqb-true (slots.word heap) (other + 1) second in
        omega (arith, its, same)

-- the hand is held still where another slot is taken or given
still : (who w slot : ℕ) (word : ℕ) (hand : Option ℕ) (slots next : Slotted) → HasHand who hand slots
    → ((k : ℕ) → next.word k ≡ cond (eqb k slot) word (slots.word k)) → ((heap : ℕ) → hand ≡ Some heap → heap ≢ slot) → HasHand who hand next
still who w slot word None slots next has after apart = tt
still who w slot word (Some heap) slots next has after apart = (
  has.0,
  after heap ∙ (cond-false (eqb heap slot) word (slots.word heap) (ne_eqb heap slot (apart heap refl)) ∙ has.1),
)

-- what is in hand of a participant is below all other slots
in_hand_below : (who : ℕ) (hand : Option ℕ) (slots : Slotted) (heap : ℕ) → HasHand who hand slots → hand ≡ Some heap
    → (heap < MAX_HEAPS) × (slots.word heap ≡ who + 1)
in_hand_below who hand slots heap has is = subst (λ hand. HasHand who hand slots) is has

module _ (who : ℕ) where
  -- what is said of steps that go on with these moves from such slots
  abbrev GoesOnAlone : Slotted → List Move → Type 0
  GoesOnAlone slots rest = (hand : Option ℕ) → HasHand who hand slots → (steps : List MailStep) → rest ≡ moves_in steps
      → NoneElseGrowsAlong who hand steps

  -- no move is left
  none_left : (slots : Slotted) → GoesOnAlone slots []
  none_left slots hand has [] is = tt
  none_left slots hand has (Posts to frame action posted ∷ steps) is = none_left slots hand has steps is
  none_left slots hand has (Fetches frame ∷ steps) is = none_left slots hand has steps is
  none_left slots hand has (Notes note ∷ steps) is = none_left slots hand has steps is
  none_left slots hand has (Takes slot kept ∷ steps) is =
      let wrong : [] ≡ Took slot kept ∷ moves_in steps = is in absurd (cc)
  none_left slots hand has (Gives slot kept ∷ steps) is =
      let wrong : [] ≡ Gave slot kept ∷ moves_in steps = is in absurd (cc)

  module _ (slots : Slotted) (hand : Option ℕ) (has : HasHand who hand slots) (steps : List MailStep) where
    took_alone : (slot : ℕ) (kept : Kept) → IsMove who (Took slot kept) slots
        → GoesOnAlone (slots_after who (Took slot kept) slots) (moves_in steps) → NoneElseGrowsAlong who hand (Takes slot kept ∷ steps)
    took_alone slot (Heap heap pen) is on =
        let good = good_taken who slot (Heap heap pen) slots is in
        let below = good.0 in
        let its : heap.plain.index ≡ slot = good.1 in
        on (Some heap.plain.index) (
          omega (arith, below, its),
          cond-true (eqb heap.plain.index slot) (who + 1) (slots.word heap.plain.index) (eq-eqb heap.plain.index slot its),
        ) steps refl
    took_alone slot (Names names) is on =
        let last = (good_taken who slot (Names names) slots is).0 in
        on hand
        (still who who slot (who + 1) hand slots (slots_after who (Took slot (Names names)) slots) has (λ k. refl)
        (λ heap in_hand. let below = (in_hand_below who hand slots heap has in_hand).0 in λ same. omega (arith, same, below, last))) steps refl
    took_alone slot (Segments segs) is on =
        let good = good_taken who slot (Segments segs) slots is in
        let last : slot ≡ MAX_HEAPS = good.0 in (
          none_for who hand slots segs has good.1,
          on hand
              (still who who slot (who + 1) hand slots (slots_after who (Took slot (Segments segs)) slots) has (λ k. refl)
              (λ heap in_hand. let below = (in_hand_below who hand slots heap has in_hand).0 in λ same. omega (arith, same, below, last))) steps refl,
        )

    gave_alone : (slot : ℕ) (kept : Kept) → IsMove who (Gave slot kept) slots
        → GoesOnAlone (slots_after who (Gave slot kept) slots) (moves_in steps) → NoneElseGrowsAlong who hand (Gives slot kept ∷ steps)
    gave_alone slot (Heap heap pen) is on = on None tt steps refl
    gave_alone slot (Names names) is on =
        let last = (good_given who slot (Names names) slots is).0 in
        on hand
        (still who who slot 0 hand slots (slots_after who (Gave slot (Names names)) slots) has (λ k. refl)
        (λ heap in_hand. let below = (in_hand_below who hand slots heap has in_hand).0 in λ same. omega (arith, same, below, last))) steps refl
    gave_alone slot (Segments segs) is on =
        let good = good_given who slot (Segments segs) slots is in
        let last : slot ≡ MAX_HEAPS = good.0 in (
          none_for who hand slots segs has good.1,
          on hand
              (still who who slot 0 hand slots (slots_after who (Gave slot (Segments segs)) slots) has (λ k. refl)
              (λ heap in_hand. let below = (in_hand_below who hand slots heap has in_hand).0 in λ same. omega (arith, same, below, last))) steps refl,
        )

  -- it makes the next move itself
  moves_itself : (slots : Slotted) (move : Move) (rest : List Move) → IsMove who move slots → GoesOnAlone (slots_after who move slots) rest
      → GoesOnAlone slots (move ∷ rest)
  moves_itself slots move rest is on hand has [] same = absurd (let wrong : move ∷ rest ≡ [] = same in cc)
  moves_itself slots move rest is on hand has (Posts to frame action posted ∷ steps) same = moves_itself slots move rest is on hand has steps same
  moves_itself slots move rest is on hand has (Fetches frame ∷ steps) same = moves_itself slots move rest is on hand has steps same
  moves_itself slots move rest is on hand has (Notes note ∷ steps) same = moves_itself slots move rest is on hand has steps same
  moves_itself slots move rest is on hand has (Takes slot kept ∷ steps) same =
      let both : move ∷ rest ≡ Took slot kept ∷ moves_in steps = same in
      let its : move ≡ Took slot kept = cc in
      let others : rest ≡ moves_in steps = cc in
      took_alone slots hand has steps slot kept (subst (λ move. IsMove who move slots) its is)
      (subst (λ rest. GoesOnAlone (slots_after who (Took slot kept) slots) rest) others
      (subst (λ move. GoesOnAlone (slots_after who move slots) rest) its on))
  moves_itself slots move rest is on hand has (Gives slot kept ∷ steps) same =
      let both : move ∷ rest ≡ Gave slot kept ∷ moves_in steps = same in
      let its : move ≡ Gave slot kept = cc in
      let others : rest ≡ moves_in steps = cc in
      gave_alone slots hand has steps slot kept (subst (λ move. IsMove who move slots) its is)
      (subst (λ rest. GoesOnAlone (slots_after who (Gave slot kept) slots) rest) others
      (subst (λ move. GoesOnAlone (slots_after who move slots) rest) its on))

  -- another one makes the next move
  other_moves : (slots : Slotted) (w : ℕ) (move : Move) (rest : List Move) → w ≢ who → IsMove w move slots
      → GoesOnAlone (slots_after w move slots) rest → GoesOnAlone slots rest
  other_moves slots w (Took slot kept) rest apart is on hand has steps same =
      on hand
      (still who w slot (w + 1) hand slots (slots_after w (Took slot kept) slots) has (λ k. refl)
      (λ heap in_hand.
      let its = (in_hand_below who hand slots heap has in_hand).1 in
      let free = is.1 in
      λ same. let words = ap slots.word same in omega (arith, words, its, free))) steps same
  other_moves slots w (Gave slot kept) rest apart is on hand has steps same =
      on hand
      (still who w slot 0 hand slots (slots_after w (Gave slot kept) slots) has (λ k. refl)
      (λ heap in_hand.
      let its = (in_hand_below who hand slots heap has in_hand).1 in
      let held = is.1 in
      λ same. let words = ap slots.word same in apart (omega (arith, words, its, held)))) steps same

  pub alone_on : (moves : List (ℕ × Move)) (slots end : Slotted) → Replays slots moves end → GoesOnAlone slots (values_of who moves)
  alone_on [] slots end replay = none_left slots
  alone_on ((w, move) ∷ moves) slots end replay =
      let on = alone_on moves (slots_after w move slots) end replay.1 in
      ⊎_elim
      (λ (same : w ≡ who).
      subst (GoesOnAlone slots) (sym (ap (λ w. values_of who ((w, move) ∷ moves)) same ∙ own_first who move moves))
      (moves_itself slots move (values_of who moves) (subst (λ w. IsMove w move slots) same replay.0)
      (subst (λ w. GoesOnAlone (slots_after w move slots) (values_of who moves)) same on)))
      (λ (apart : w ≢ who).
      subst (GoesOnAlone slots) (sym (other_first w who move moves (λ same. apart (sym same))))
      (other_moves slots w move (values_of who moves) apart replay.0 on))
      (cases_eq w who)
