-- Facts of lists of which each element is changed in turn.
use Rattle.std.proofs.Common.{◌≡◌, ℕ, ◌+◌, ◌<◌, Bool, ◌||◌, cond, List, [], ◌∷◌, ◌++◌, map, filter, take, drop, set, get_or, length, refl, ap, ◌∙◌, sym, arith, inl, inr}
use Rattle.std.specs.List.{list_any}
use Rattle.std.proofs.lemmas.Bool.{cases_Bool}
use Rattle.std.proofs.lemmas.List.{append_assoc, drop-set-lt, drop_more, map-set, set-get_or, take_more_set}

-- an element is changed by f: what all come to be is the same
pub changed_more : {X : Type 0} (f : X → X) (now : List X) (i : ℕ) (d y : X) → i < length now → y ≡ f (get_or now i d)
    → take (i + 1) (set now i y) ++ map f (drop (i + 1) (set now i y)) ≡ take i now ++ map f (drop i now)
changed_more f now i d y within is =
    ap (λ l. l ++ map f (drop (i + 1) (set now i y))) (take_more_set now i y within)
    ∙ (append_assoc (take i now) (y ∷ []) (map f (drop (i + 1) (set now i y)))
    ∙ (ap (λ l. take i now ++ (y ∷ map f l)) (drop-set-lt (i + 1) now i y (omega arith))
    ∙ (ap (λ x. take i now ++ (x ∷ map f (drop (i + 1) now))) is
    ∙ ap (λ l. take i now ++ map f l) (sym (drop_more now i d within)))))

-- an element is replaced by one with the same part
pub same_part : {X Y : Type 0} (f : X → Y) (now : List X) (i : ℕ) (d y : X) → f y ≡ f (get_or now i d) → map f (set now i y) ≡ map f now
same_part f now i d y same =
    map-set f now i y ∙ (ap (set (map f now) i) same ∙ (sym (map-set f now i (get_or now i d)) ∙ ap (map f) (set-get_or now i d)))

pub any_map : {X Y : Type 0} (f : X → Y) (p : Y → Bool) (xs : List X) → list_any p (map f xs) ≡ list_any (λ x. p (f x)) xs
any_map f p [] = refl
any_map f p (x ∷ xs) = ap (λ b. p (f x) || b) (any_map f p xs)

pub map_filter : {X Y : Type 0} (f : X → Y) (p : Y → Bool) (xs : List X) → map f (filter (λ x. p (f x)) xs) ≡ filter p (map f xs)
map_filter f p [] = refl
map_filter f p (x ∷ xs) =
    elim (cases_Bool (p (f x))) [
      | inl is ↦
          ap (λ b. map f (cond b (x ∷ filter (λ x. p (f x)) xs) (filter (λ x. p (f x)) xs))) is
          ∙ (ap (λ l. f x ∷ l) (map_filter f p xs) ∙ sym (ap (λ b. cond b (f x ∷ filter p (map f xs)) (filter p (map f xs))) is))
      | inr not_is ↦
          ap (λ b. map f (cond b (x ∷ filter (λ x. p (f x)) xs) (filter (λ x. p (f x)) xs))) not_is
          ∙ (map_filter f p xs ∙ sym (ap (λ b. cond b (f x ∷ filter p (map f xs)) (filter p (map f xs))) not_is))
    ]
