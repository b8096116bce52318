-- The mend ends at a key that has another one for its greatest.
use Rattle.std.proofs.Common.{◌≡◌, ◌≢◌, ℕ, ◌<◌, List, [], ◌∷◌, ◌++◌, Option, Some, None, true, false, nat_eq, IsSomeAnd, length, get_or, slice_get, refl, sym, ap, ◌∙◌, subst, append_assoc}
use Rattle.std.proofs.lemmas.Bool.{or_right, both_ways, false_from_ne_true}
use Rattle.std.proofs.lemmas.Option.{none-some, same_Some, slice_get_read}
use Rattle.hp_chain.specs.Chain.{Keyed, has_key, last_key, AreApart}
use Rattle.hp_chain.proofs.Keys.{has_key-own, has_key_back, lacks_parts, apart_back, apart_across}
use Rattle.hp_freelist.specs.declared.link.Link.{Link}
use Rattle.hp_freelist.specs.Greatest.{IsGreatest}
use Rattle.hp_freelist.specs.Kept.{HasGreatest, KeepsGreatest, StoodIn, IsMended}
use Rattle.hp_freelist.proofs.KeptReads.{kept_read}
use Rattle.hp_freelist.proofs.MendLemmas.{KeepsFront, front_kept, both_kept, IsOther, still, stopped}
use Rattle.hp_freelist.proofs.MendSteps.{back_kept}
use Rattle.hp_freelist.proofs.Mending.{IsMending}

-- the last element of a list
pub record HasLast (list : List (Keyed ℕ)) (key : ℕ) : Type 0 where
  pub front : List (Keyed ℕ)
  pub found : Keyed ℕ
  pub is : list ≡ front ++ found ∷ []
  pub same : found.key ≡ key

last_of : (x : Keyed ℕ) (xs : List (Keyed ℕ)) (key : ℕ) → last_key (Some x.key) xs ≡ Some key → HasLast (x ∷ xs) key
last_of x [] key is = record { front = []; found = x; is = refl; same = same_Some x.key key is }
last_of x (y ∷ ys) key is =
    let rest = last_of y ys key is in
    record { front = x ∷ rest.front; found = rest.found; is = ap (λ (zs : List (Keyed ℕ)). x ∷ zs) rest.is; same = rest.same }

pub has_last : (list : List (Keyed ℕ)) (key : ℕ) → last_key None list ≡ Some key → HasLast list key
has_last [] key is = absurd (none-some key is)
has_last (x ∷ xs) key is = last_of x xs key is

pub front_same : (old new : List ℕ) (front rest : List (Keyed ℕ)) → ((key : ℕ) → has_key key front ≡ true → slice_get new key ≡ slice_get old key)
    → KeepsFront old front rest → KeepsFront new front rest
front_same old new [] rest same keeps = tt
front_same old new (e ∷ es) rest same keeps = (
  subst (λ (slot : Option ℕ). IsSomeAnd slot (IsGreatest (e ∷ (es ++ rest)))) (sym (same e.key (has_key-own e es))) keeps.0,
  front_same old new es rest (λ key has. same key (or_right (nat_eq e.key key) (has_key key es) has)) keeps.1,
)

-- of what is mended, the part that keeps what it had goes on to keep it
module _ (old new : List ℕ) (gone : Keyed ℕ) (f : List (Keyed ℕ)) (e : Keyed ℕ) (m back : List (Keyed ℕ))
    (held : KeepsGreatest old (f ++ (e ∷ (m ++ gone ∷ back)))) (apart : AreApart (f ++ (e ∷ (m ++ gone ∷ back))))
    (same : (other : ℕ) → has_key other m ≡ false → slice_get new other ≡ slice_get old other) where
  beside : (key : ℕ) → has_key key f ≡ true → has_key key (e ∷ (m ++ gone ∷ back)) ≡ false
  beside key has =
      false_from_ne_true (has_key key (e ∷ (m ++ gone ∷ back))) (λ too. both_ways (has_key key f) (apart_across key f (e ∷ (m ++ gone ∷ back)) apart too) has)

  before_gone : (key : ℕ) → has_key key f ≡ true → key ≢ gone.key
  before_gone key has is =
      both_ways (has_key gone.key (e ∷ (m ++ gone ∷ back))) (subst (λ (k : ℕ). has_key k (e ∷ (m ++ gone ∷ back)) ≡ false) is (beside key has))
      (has_key_back gone.key (e ∷ m) (gone ∷ back) (has_key-own gone back))

  front_new : KeepsFront new f (e ∷ (m ++ gone ∷ back))
  front_new =
      front_same old new f (e ∷ (m ++ gone ∷ back)) (λ key has. same key (lacks_parts key (e ∷ []) m (lacks_parts key (e ∷ m) (gone ∷ back) (beside key has)).0).1)
      (front_kept old f (e ∷ (m ++ gone ∷ back)) held)

  last_new : HasGreatest new e.key (e ∷ (m ++ gone ∷ back))
  last_new =
      subst (λ (slot : Option ℕ). IsSomeAnd slot (IsGreatest (e ∷ (m ++ gone ∷ back))))
      (sym (same e.key (lacks_parts e.key m (gone ∷ back) (apart_back f (e ∷ (m ++ gone ∷ back)) apart).0).0))
      (back_kept old f (e ∷ (m ++ gone ∷ back)) held).0

  module _ (greatest : ℕ) (within : e.key < length new) (read : greatest ≡ get_or new e.key greatest) (differs : greatest ≢ gone.key)
      (keeps : KeepsGreatest new (m ++ back)) where
    last_is : IsGreatest (e ∷ (m ++ gone ∷ back)) greatest
    last_is = kept_read (IsGreatest (e ∷ (m ++ gone ∷ back))) new e.key greatest within read last_new

    pub kept_again : KeepsGreatest new (f ++ (e ∷ (m ++ back)))
    kept_again =
        let other : IsOther gone.key ((e ∷ m) ++ gone ∷ back) = record { greatest = greatest; is = last_is; differs = λ is. differs (sym is) } in
        both_kept new f (e ∷ (m ++ back)) (stopped new gone back (e ∷ m) other f before_gone front_new).0
        (still new gone back e.key greatest (e ∷ m) (slice_get_read new (length new) e.key greatest refl within read) last_is (λ is. differs (sym is)), keeps)

-- so the whole list keeps its greatest again
pub halted : (links : List Link) (old new : List ℕ) (key : ℕ) (prev before : Option ℕ) (left at greatest : ℕ) → before ≡ Some at
    → ((front : List (Keyed ℕ)) (whole : ℕ) (back : List (Keyed ℕ)) → StoodIn links old key prev front whole back → IsMending old new front back before left)
    → at < length new → greatest ≡ get_or new at greatest → greatest ≢ key → IsMended links old new key prev
halted links old new key prev before left at greatest some mending within read differs = record {
  again = λ front whole back stood.
      let now = mending front whole back stood in
      let last = has_last now.first at (sym now.at ∙ some) in
      let m : List (Keyed ℕ) = now.mended in
      let gone : Keyed ℕ = record { key = key; value = whole } in
      let shape : front ≡ last.front ++ (last.found ∷ m) =
      now.is ∙ ap (λ (zs : List (Keyed ℕ)). zs ++ m) last.is ∙ append_assoc last.front (last.found ∷ []) m in
      let old_shape : front ++ gone ∷ back ≡ last.front ++ (last.found ∷ (m ++ gone ∷ back)) =
      ap (λ (zs : List (Keyed ℕ)). zs ++ gone ∷ back) shape ∙ append_assoc last.front (last.found ∷ m) (gone ∷ back) in
      subst (λ (zs : List (Keyed ℕ)). KeepsGreatest new zs) (sym (ap (λ (zs : List (Keyed ℕ)). zs ++ back) shape ∙ append_assoc last.front (last.found ∷ m) back))
      (kept_again old new gone last.front last.found m back (subst (λ (zs : List (Keyed ℕ)). KeepsGreatest old zs) old_shape stood.held)
      (subst (λ (zs : List (Keyed ℕ)). AreApart zs) old_shape stood.apart) now.rest greatest
      (subst (λ (k : ℕ). k < length new) (sym last.same) within) (subst (λ (k : ℕ). greatest ≡ get_or new k greatest) (sym last.same) read) differs now.keeps);
  others = λ front whole back stood other lacks.
      let now = mending front whole back stood in
      now.rest other (lacks_parts other now.first now.mended (subst (λ (zs : List (Keyed ℕ)). has_key other zs ≡ false) now.is lacks)).1;
}
