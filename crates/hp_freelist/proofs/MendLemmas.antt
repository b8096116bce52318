-- The greatest of each key of a list, kept again after a key left the list.
use Rattle.std.proofs.Common.{◌≡◌, ◌≢◌, ℕ, zero, suc, ◌<◌, List, [], ◌∷◌, ◌++◌, Option, Some, None, true, nat_eq, IsSomeAnd}
use Rattle.std.proofs.Common.{length, set, slice_get, refl, sym, ap, ◌∙◌, subst, arith, append_assoc, inl, inr}
use Rattle.std.proofs.lemmas.Bool.{or_right}
use Rattle.hp_chain.specs.Chain.{Keyed, has_key}
use Rattle.hp_chain.proofs.Keys.{has_key-own}
use Rattle.hp_freelist.specs.Greatest.{IsGreatest}
use Rattle.hp_freelist.specs.Kept.{HasGreatest, KeepsGreatest}
use Rattle.hp_freelist.proofs.KeptLemmas.{cases, one_greatest, greatest_left}

-- what is kept of a list is kept by whatever has the same under its keys
pub keeps_same : (old new : List ℕ) (list : List (Keyed ℕ)) → ((key : ℕ) → has_key key list ≡ true → slice_get new key ≡ slice_get old key)
    → KeepsGreatest old list → KeepsGreatest new list
keeps_same old new [] same keeps = tt
keeps_same old new (e ∷ es) same keeps = (
  subst (λ (slot : Option ℕ). IsSomeAnd slot (IsGreatest (e ∷ es))) (sym (same e.key (has_key-own e es))) keeps.0,
  keeps_same old new es (λ key has. same key (or_right (nat_eq e.key key) (has_key key es) has)) keeps.1,
)

-- one key has another, and the others what they had
pub set_there : (kept : List ℕ) (key greatest : ℕ) → key < length kept → slice_get (set kept key greatest) key ≡ Some greatest
set_there [] key greatest within = absurd (omega (arith, within))
set_there (first ∷ kept) zero greatest within = refl
set_there (first ∷ kept) (suc key) greatest within = set_there kept key greatest (omega (arith, within))

pub set_elsewhere : (kept : List ℕ) (key greatest other : ℕ) → other ≢ key → slice_get (set kept key greatest) other ≡ slice_get kept other
set_elsewhere [] key greatest other differs = refl
set_elsewhere (first ∷ kept) zero greatest zero differs = absurd (differs refl)
set_elsewhere (first ∷ kept) zero greatest (suc other) differs = refl
set_elsewhere (first ∷ kept) (suc key) greatest zero differs = refl
set_elsewhere (first ∷ kept) (suc key) greatest (suc other) differs = set_elsewhere kept key greatest other (λ same. differs (ap suc same))

-- the front of a list keeps its greatest, whatever is kept of the rest
abbrev pub KeepsFront : List ℕ → List (Keyed ℕ) → List (Keyed ℕ) → Type 0
KeepsFront kept [] rest = Unit {0}
KeepsFront kept (e ∷ es) rest = HasGreatest kept e.key (e ∷ (es ++ rest)) × KeepsFront kept es rest

pub front_kept : (kept : List ℕ) (front rest : List (Keyed ℕ)) → KeepsGreatest kept (front ++ rest) → KeepsFront kept front rest
front_kept kept [] rest keeps = tt
front_kept kept (e ∷ es) rest keeps = (keeps.0, front_kept kept es rest keeps.1)

pub both_kept : (kept : List ℕ) (front rest : List (Keyed ℕ)) → KeepsFront kept front rest → KeepsGreatest kept rest
    → KeepsGreatest kept (front ++ rest)
both_kept kept [] rest before after = after
both_kept kept (e ∷ es) rest before after = (before.0, both_kept kept es rest before.1 after)

-- the greatest of a list is another than a key that goes
pub record IsOther (gone : ℕ) (list : List (Keyed ℕ)) : Type 0 where
  pub greatest : ℕ
  pub is : IsGreatest list greatest
  pub differs : gone ≢ greatest

some_held : (slot : Option ℕ) (P : ℕ → Type 0) → IsSomeAnd slot P → (key : ℕ) × (slot ≡ Some key) × P key
some_held None P holds = absurd holds
some_held (Some key) P holds = (key, refl, holds)

-- then so is that of one element more
other_earlier : (gone greatest : ℕ) (x : Keyed ℕ) (list : List (Keyed ℕ)) → x.key ≢ gone → IsOther gone list → IsGreatest (x ∷ list) greatest
    → gone ≢ greatest
other_earlier gone greatest x list apart other is same = elim (cases x list greatest is) [
  | inl first ↦ apart (first.same ∙ sym same)
  | inr after ↦ other.differs (same ∙ one_greatest list greatest other.greatest after.greatest other.is)
]

module _ (kept : List ℕ) (gone : Keyed ℕ) (back : List (Keyed ℕ)) where
  -- what was kept is still the greatest of the list without the key
  pub still : (key greatest : ℕ) (front : List (Keyed ℕ)) → slice_get kept key ≡ Some greatest → IsGreatest (front ++ gone ∷ back) greatest
      → gone.key ≢ greatest → HasGreatest kept key (front ++ back)
  still key greatest front held is differs =
      subst (λ (slot : Option ℕ). IsSomeAnd slot (IsGreatest (front ++ back))) (sym held) (greatest_left front gone back greatest is differs).greatest

  -- so from a place on where the greatest is another one, all before it keep theirs
  module _ (rest : List (Keyed ℕ)) (other : IsOther gone.key (rest ++ gone ∷ back)) where
    pub stopped : (front : List (Keyed ℕ)) → ((key : ℕ) → has_key key front ≡ true → key ≢ gone.key) → KeepsFront kept front (rest ++ gone ∷ back)
        → KeepsFront kept front (rest ++ back) × IsOther gone.key (front ++ (rest ++ gone ∷ back))
    stopped [] apart keeps = (tt, other)
    stopped (x ∷ front) apart keeps =
        let later = stopped front (λ key has. apart key (or_right (nat_eq x.key key) (has_key key front) has)) keeps.1 in
        let list : List (Keyed ℕ) = front ++ (rest ++ gone ∷ back) in
        let here = some_held (slice_get kept x.key) (IsGreatest (x ∷ list)) keeps.0 in
        let differs : gone.key ≢ here.0 = other_earlier gone.key here.0 x list (apart x.key (has_key-own x front)) later.1 here.2 in
        let whole : IsGreatest ((x ∷ (front ++ rest)) ++ gone ∷ back) here.0 =
        subst (λ (zs : List (Keyed ℕ)). IsGreatest (x ∷ zs) here.0) (sym (append_assoc front rest (gone ∷ back))) here.2 in
        let held : HasGreatest kept x.key (x ∷ (front ++ (rest ++ back))) =
        subst (λ (zs : List (Keyed ℕ)). HasGreatest kept x.key (x ∷ zs)) (append_assoc front rest back) (still x.key here.0 (x ∷ (front ++ rest)) here.1 whole differs) in
        ((held, later.0), record { greatest = here.0; is = here.2; differs = differs })
