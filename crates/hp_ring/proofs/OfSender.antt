-- The bulks of a sender among bulks that come one after another.
use Rattle.std.proofs.Common.{◌≡◌, ◌≢◌, ℕ, eqb, eq-eqb, ne_eqb, List, [], ◌∷◌, ◌++◌}
use Rattle.std.proofs.lemmas.Bool.{cond-true, cond-false}
use Rattle.std.proofs.lemmas.List.Elements.{filter-append}
use Rattle.hp_ring.specs.Bulks.{BulkView, bulks_of}

pub bulks_of-append : (who : ℕ) (xs ys : List BulkView) → bulks_of who (xs ++ ys) ≡ bulks_of who xs ++ bulks_of who ys
bulks_of-append who xs ys = filter-append (λ (b : BulkView). eqb b.sender who) xs ys

pub bulks_of-own : (who : ℕ) (x : BulkView) → x.sender ≡ who → bulks_of who (x ∷ []) ≡ x ∷ []
bulks_of-own who x is = cond-true (eqb x.sender who) (x ∷ []) [] (eq-eqb x.sender who is)

pub bulks_of-other : (who : ℕ) (x : BulkView) → x.sender ≢ who → bulks_of who (x ∷ []) ≡ []
bulks_of-other who x apart = cond-false (eqb x.sender who) (x ∷ []) [] (ne_eqb x.sender who apart)
