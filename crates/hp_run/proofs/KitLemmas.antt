-- Kits go one by one, from the front, and leave their mappers; what holds of kits holds of their mappers.
use Rattle.std.proofs.Common.{◌≡◌, ◌∙◌, ◌<◌, List, [], ◌∷◌, ◌++◌, map, length, get_or, ap, arith}
use Rattle.std.specs.List.{remove}
use Rattle.std.proofs.lemmas.List.{append_assoc}

module _ {A B : Type 0} (part : A → B) where
  -- those that have gone over, and the parts of those that are left
  pub one_over : (gone whole : List B) (left rest : List A) (x : A) → 0 < length left → x ≡ get_or left 0 x → rest ≡ remove left 0
      → gone ++ map part left ≡ whole → (gone ++ part x ∷ []) ++ map part rest ≡ whole
  one_over gone whole [] rest x some first others before = absurd (omega (arith, some))
  one_over gone whole (z ∷ left) rest x some first others before =
      append_assoc gone (part x ∷ []) (map part rest)
      ∙ ap (λ (one : A). gone ++ (part one ∷ map part rest)) first
      ∙ ap (λ (all : List A). gone ++ (part z ∷ map part all)) others
      ∙ before
