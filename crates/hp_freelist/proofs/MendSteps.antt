-- The mend of a list, step by step.
use Rattle.std.proofs.Common.{◌≡◌, ℕ, ◌≤◌, List, [], ◌∷◌, ◌++◌, Option, Some, None, false, length, refl, sym, ap, ◌∙◌, subst, arith, append-nil}
use Rattle.std.proofs.lemmas.Option.{none-some}
use Rattle.std.proofs.lemmas.List.{length-append}
use Rattle.hp_chain.specs.Chain.{Keyed, has_key, last_key}
use Rattle.hp_chain.proofs.Keys.{apart_without}
use Rattle.hp_chain.proofs.Walks.{length_spelled}
use Rattle.hp_freelist.specs.declared.link.Link.{Link}
use Rattle.hp_freelist.specs.Links.{place_at}
use Rattle.hp_freelist.specs.Kept.{KeepsGreatest, StoodIn, IsMended}
use Rattle.hp_freelist.proofs.LinkedLemmas.{place_within}
use Rattle.hp_freelist.proofs.Mending.{IsMending}

pub back_kept : (kept : List ℕ) (front back : List (Keyed ℕ)) → KeepsGreatest kept (front ++ back) → KeepsGreatest kept back
back_kept kept [] back keeps = keeps
back_kept kept (e ∷ es) back keeps = back_kept kept es back keeps.1

no_last : (before : ℕ) (list : List (Keyed ℕ)) → last_key (Some before) list ≡ None → ⊥
no_last before [] is = none-some before (sym is)
no_last before (e ∷ es) is = no_last e.key es is

none_last : (list : List (Keyed ℕ)) → None ≡ last_key None list → list ≡ []
none_last [] is = refl
none_last (e ∷ es) is = absurd (no_last e.key es (sym is))

module _ (links : List Link) (old : List ℕ) (key : ℕ) (prev : Option ℕ) where
  module _ (front : List (Keyed ℕ)) (whole : ℕ) (back : List (Keyed ℕ)) (stood : StoodIn links old key prev front whole back) where
    gone : Keyed ℕ
    gone = record { key = key; value = whole }

    -- such a list has a link for each key
    pub long_links : length (front ++ back) ≤ length links
    long_links =
        length_spelled (place_at links) (length links) None (front ++ back) None (place_within links) (apart_without front (record { key = key; value = whole }) back stood.apart) stood.spelled

    -- at first nothing is mended
    pub begun : IsMending old old front back prev (length links)
    begun = record {
      first = front;
      mended = [];
      is = sym (append-nil front);
      at = stood.after;
      short = omega (arith, long_links, length-append front back);
      keeps = (back_kept old front ((record { key = key; value = whole }) ∷ back) stood.held).1;
      rest = λ other lacks. refl;
    }

  -- at last all of it is, where no key is before
  module _ (new : List ℕ) (before : Option ℕ) (left : ℕ) (none : before ≡ None)
      (mending : (front : List (Keyed ℕ)) (whole : ℕ) (back : List (Keyed ℕ)) → StoodIn links old key prev front whole back → IsMending old new front back before left) where
    all_mended : (front : List (Keyed ℕ)) (whole : ℕ) (back : List (Keyed ℕ)) (stood : StoodIn links old key prev front whole back)
        → front ≡ (mending front whole back stood).mended
    all_mended front whole back stood =
        let now = mending front whole back stood in
        now.is ∙ ap (λ (zs : List (Keyed ℕ)). zs ++ now.mended) (none_last now.first (sym none ∙ now.at))

    pub ended : IsMended links old new key prev
    ended = record {
      again = λ front whole back stood.
          subst (λ (zs : List (Keyed ℕ)). KeepsGreatest new (zs ++ back)) (sym (all_mended front whole back stood)) (mending front whole back stood).keeps;
      others = λ front whole back stood other lacks.
          (mending front whole back stood).rest other (subst (λ (zs : List (Keyed ℕ)). has_key other zs ≡ false) (all_mended front whole back stood) lacks);
    }
