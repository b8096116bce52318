-- Worked values: a chain of the keys 4, 7 and 2, walked, edited and relinked.
use Rattle.std.proofs.Common.{◌≡◌, ℕ, List, [], ◌∷◌, false, Some, None, refl}
use Rattle.hp_chain.specs.Chain.{Keyed, Places, Spells, AreApart, first_key, has_key, last_key, walk, walk_back}
use Rattle.hp_chain.specs.Writes.{with_next, with_prev, with_value, with_place}
use Rattle.hp_chain.specs.Edits.{edited, without_key}

abbrev keyed : ℕ → ℕ → Keyed ℕ
keyed key value = record { key = key; value = value }

abbrev three : List (Keyed ℕ)
three = keyed 4 10 ∷ keyed 7 20 ∷ keyed 2 30 ∷ []

abbrev memory : Places ℕ
memory =
    with_place 4 (Some (record { prev = None; next = Some 7; value = 10 }))
    (with_place 7 (Some (record { prev = Some 4; next = Some 2; value = 20 }))
    (with_place 2 (Some (record { prev = Some 7; next = None; value = 30 })) (λ _. None)))

memory_has_it : Spells memory None three None
memory_has_it = (refl, (refl, (refl, tt)))

keys_differ : AreApart three
keys_differ = (refl, (refl, (refl, tt)))

forwards : walk memory 3 (first_key three None) ≡ three
forwards = refl

-- a walk ends after its steps
two_steps : walk memory 2 (Some 4) ≡ keyed 4 10 ∷ keyed 7 20 ∷ []
two_steps = refl

backwards : walk_back memory 3 (last_key None three) ≡ keyed 2 30 ∷ keyed 7 20 ∷ keyed 4 10 ∷ []
backwards = refl

-- without the key in the middle, in the list and in the memory
bridged : walk (with_prev (Some 2) (Some 4) (with_next (Some 4) (Some 2) memory)) 9 (Some 4) ≡ without_key 7 three
bridged = refl

revalued : walk (with_value 7 21 memory) 9 (Some 4) ≡ edited 7 (λ e es. keyed e.key 21 ∷ es) three
revalued = refl

gone : has_key 7 (without_key 7 three) ≡ false
gone = refl
