-- The passes of a ring, and which of them are of its senders. Callers that hold several cite it.
use Rattle.std.proofs.Common.{◌≡◌, ℕ, zero, suc, ◌<◌, List, [], ◌∷◌, ◌++◌, length, get_or, refl, sym, ap, ◌∙◌, inl, inr, arith}
use Rattle.std.proofs.lemmas.Bool.{cases_lt}
use Rattle.std.proofs.lemmas.List.{get_or_append_left, get_or_push, length_push}
use Rattle.std.proofs.lemmas.List.FromFn.{get_or-map-range_with_len, length-map-range_with_len}
use Rattle.hp_ring.specs.PassViews.{AreSenders, RingView, SendView, new_sender, new_senders}

-- those of a new ring are
pub new_are : (ring : RingView) → AreSenders ring (new_senders ring)
new_are ring = record {
  count = length-map-range_with_len (new_sender ring.id) 0 ring.senders;
  ring_is = λ k d below. ap (λ (p : SendView). p.ring) (at k d below);
  who_is = λ k d below. ap (λ (p : SendView). p.who) (at k d below);
}
  where
    at : (k : ℕ) (d : SendView) → k < length (new_senders ring) → get_or (new_senders ring) k d ≡ new_sender ring.id k
    at k d below =
        let all = length-map-range_with_len (new_sender ring.id) 0 ring.senders in
        get_or-map-range_with_len (new_sender ring.id) 0 ring.senders k k d (omega (arith, below, all)) (omega arith)

-- the last of them is a pass of the ring
pub last_ring : (ring : RingView) (all rest : List SendView) (pass : SendView) → AreSenders ring all → all ≡ rest ++ pass ∷ [] → pass.ring ≡ ring.id
last_ring ring all rest pass are is =
    ap (λ (p : SendView). p.ring) (sym (ap (λ (l : List SendView). get_or l (length rest) pass) is ∙ get_or_push rest pass pass (length rest) refl))
    ∙ are.ring_is (length rest) pass (let long = ap length is in let push = length_push rest pass in omega (arith, long, push))

-- a pass that has put more takes the place of the last of them
pub still_are : (ring : RingView) (rest : List SendView) (old new : SendView) → AreSenders ring (rest ++ old ∷ []) → new.ring ≡ old.ring → new.who ≡ old.who
    → AreSenders ring (rest ++ new ∷ [])
still_are ring rest old new are same_ring same_who = record {
  count = let short = length_push rest old in let long = length_push rest new in let count = are.count in omega (arith, short, long, count);
  ring_is = λ k d below. elim (cases_lt k (length rest)) [
    | inl front ↦
        ap (λ (p : SendView). p.ring) (get_or_append_left rest (new ∷ []) d k front ∙ sym (get_or_append_left rest (old ∷ []) d k front))
        ∙ are.ring_is k d (let all = length_push rest old in omega (arith, all, front))
    | inr past ↦
        let last : length rest ≡ k = let all = length_push rest new in omega (arith, all, below, past) in
        ap (λ (p : SendView). p.ring) (get_or_push rest new d k last) ∙ (same_ring
        ∙ (ap (λ (p : SendView). p.ring) (sym (get_or_push rest old d k last)) ∙ are.ring_is k d (let all = length_push rest old in omega (arith, all, last))))
  ];
  who_is = λ k d below. elim (cases_lt k (length rest)) [
    | inl front ↦
        ap (λ (p : SendView). p.who) (get_or_append_left rest (new ∷ []) d k front ∙ sym (get_or_append_left rest (old ∷ []) d k front))
        ∙ are.who_is k d (let all = length_push rest old in omega (arith, all, front))
    | inr past ↦
        let last : length rest ≡ k = let all = length_push rest new in omega (arith, all, below, past) in
        ap (λ (p : SendView). p.who) (get_or_push rest new d k last) ∙ (same_who
        ∙ (ap (λ (p : SendView). p.who) (sym (get_or_push rest old d k last)) ∙ are.who_is k d (let all = length_push rest old in omega (arith, all, last))))
  ];
}

-- two passes of a ring with two senders
pub two_are : (ring : RingView) (first second : SendView) → ring.senders ≡ 2 → first.ring ≡ ring.id → second.ring ≡ ring.id → first.who ≡ 0 → second.who ≡ 1
    → AreSenders ring (first ∷ second ∷ [])
two_are ring first second two first_ring second_ring first_is second_is = record {
  count = sym two;
  ring_is = λ k d below. ring_at k d below;
  who_is = λ k d below. who_at k d below;
}
  where
    ring_at : (k : ℕ) (d : SendView) → k < 2 → (get_or (first ∷ second ∷ []) k d).ring ≡ ring.id
    ring_at zero d below = first_ring
    ring_at (suc zero) d below = second_ring
    ring_at (suc (suc k)) d below = absurd (omega (arith, below))

    who_at : (k : ℕ) (d : SendView) → k < 2 → (get_or (first ∷ second ∷ []) k d).who ≡ k
    who_at zero d below = first_is
    who_at (suc zero) d below = second_is
    who_at (suc (suc k)) d below = absurd (omega (arith, below))
