-- Turns of a token's slots: after as many as stand before a slot, it is in front; after as many again as stood after it, the others
-- are in their order.
use Rattle.std.proofs.Common.{◌≡◌, ℕ, zero, suc, ◌+◌, ◌<◌, List, [], ◌∷◌, ◌++◌, map, length, take, drop, get_or, None, refl, sym, ap, ◌∙◌, arith}
use Rattle.std.proofs.lemmas.List.{append_assoc, append-nil, map-append, length-map, length-take, length-drop, take-append-drop}
use Rattle.std.proofs.Math.Seq.{drop-cons}
use Rattle.atomic_table.specs.Table.{turned}
use Rattle.hp_board.specs.Turns.{turned_by}
use Rattle.hp_board.specs.SeatInside.{emptied}

module _ {S : Type 0} where
  pub turned_by-more : (times : ℕ) (pairs : List (ℕ × S)) → turned_by (times + 1) pairs ≡ turned (turned_by times pairs)
  turned_by-more zero pairs = refl
  turned_by-more (suc times) pairs =
      let one : suc times + 1 ≡ suc (times + 1) = omega arith in
      ap (λ (n : ℕ). turned_by n pairs) one ∙ turned_by-more times (turned pairs)

  pub turned_by-append : (xs ys : List (ℕ × S)) → turned_by (length xs) (xs ++ ys) ≡ ys ++ xs
  turned_by-append [] ys = sym (append-nil ys)
  turned_by-append (x ∷ xs) ys =
      ap (turned_by (length xs)) (append_assoc xs ys (x ∷ [])) ∙ turned_by-append xs (ys ++ x ∷ []) ∙ append_assoc ys (x ∷ []) xs

-- the order, cut at a place
cut : (order : List ℕ) (place number : ℕ) → place < length order → get_or order place 0 ≡ number → order ≡ take place order ++ (number ∷ drop (suc place) order)
cut order place number inside here =
    sym (take-append-drop place order)
    ∙ ap (λ (rest : List ℕ). take place order ++ rest) (drop-cons order place 0 inside ∙ ap (λ (n : ℕ). n ∷ drop (suc place) order) here)

pub front_after_turns : (order : List ℕ) (place number : ℕ) → place < length order → get_or order place 0 ≡ number
    → turned_by place (map emptied order) ≡ (number, None) ∷ (map emptied (drop (suc place) order) ++ map emptied (take place order))
front_after_turns order place number inside here =
    let long : length (map emptied (take place order)) ≡ place = omega (arith, length-map (take place order) emptied, length-take place order) in
    ap (λ l. turned_by place (map emptied l)) (cut order place number inside here)
    ∙ ap (turned_by place) (map-append emptied (take place order) (number ∷ drop (suc place) order))
    ∙ ap (λ (n : ℕ). turned_by n (map emptied (take place order) ++ map emptied (number ∷ drop (suc place) order))) (sym long)
    ∙ turned_by-append (map emptied (take place order)) (map emptied (number ∷ drop (suc place) order))

pub order_after_turns : (order : List ℕ) (place times : ℕ) → place < length order → times + place + 1 ≡ length order
    → turned_by times (map emptied (drop (suc place) order) ++ map emptied (take place order)) ≡ map emptied (take place order ++ drop (suc place) order)
order_after_turns order place times inside all =
    let long : length (map emptied (drop (suc place) order)) ≡ times = omega (arith, length-map (drop (suc place) order) emptied, length-drop (suc place) order) in
    ap (λ (n : ℕ). turned_by n (map emptied (drop (suc place) order) ++ map emptied (take place order))) (sym long)
    ∙ turned_by-append (map emptied (drop (suc place) order)) (map emptied (take place order))
    ∙ sym (map-append emptied (take place order) (drop (suc place) order))
