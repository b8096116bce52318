-- With more room, what is kept under each key stays the greatest of the list from it on.
use Rattle.std.proofs.Common.{◌≡◌, ℕ, ◌≤◌, List, [], ◌∷◌, Option, Some, None, IsSomeAnd, length, slice_get, refl, sym, subst}
use Rattle.hp_chain.specs.Chain.{Keyed}
use Rattle.hp_freelist.specs.declared.link.Link.{Link}
use Rattle.hp_freelist.specs.Greatest.{IsGreatest}
use Rattle.hp_freelist.specs.Links.{lists_of, IsLinked}
use Rattle.hp_freelist.specs.Kept.{KeepsGreatest, IsKept, IsKeptOf}
use Rattle.hp_freelist.proofs.LinkedLemmas.{lists_are}
use Rattle.hp_freelist.proofs.GreatestLemmas.{AllByRecursion-weaker}

held_still : (old new : Option ℕ) (P : ℕ → Type 0) → ((greatest : ℕ) → old ≡ Some greatest → new ≡ Some greatest) → IsSomeAnd old P → IsSomeAnd new P
held_still None new P same holds = absurd holds
held_still (Some greatest) new P same holds = subst (λ (slot : Option ℕ). IsSomeAnd slot P) (sym (same greatest refl)) holds

module _ (old new : List ℕ) (same : IsKeptOf old new) where
  keeps_still : (list : List (Keyed ℕ)) → KeepsGreatest old list → KeepsGreatest new list
  keeps_still [] keeps = tt
  keeps_still (e ∷ es) keeps =
      (held_still (slice_get old e.key) (slice_get new e.key) (IsGreatest (e ∷ es)) (same e.key) keeps.0, keeps_still es keeps.1)

  -- so the lists keep theirs, where there is room for each link
  pub kept_still : (links more : List Link) (lists : List (List (Keyed ℕ))) → IsKept links old lists → length more ≤ length new → IsKept more new lists
  kept_still links more lists kept room =
      record { room = room; greatest = AllByRecursion-weaker (KeepsGreatest old) (KeepsGreatest new) keeps_still lists kept.greatest }

-- and it is kept of the lists that the walks have
pub kept_walks : (links : List Link) (firsts : List (Option ℕ)) (lists : List (List (Keyed ℕ))) → IsLinked links firsts lists → (kept : List ℕ) → IsKept links kept lists
    → IsKept links kept (lists_of links firsts)
kept_walks links firsts lists linked kept holds = subst (λ (all : List (List (Keyed ℕ))). IsKept links kept all) (sym (lists_are links firsts lists linked)) holds
