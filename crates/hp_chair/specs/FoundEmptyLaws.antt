-- What is known of an empty mailbox lasts from state to state of a hall with one seat.
use Rattle.std.proofs.Common.{◌≡◌, ◌⊎◌, inl, inr, ⊎_elim, ℕ, Bool, true, false, true≢false, List, [], ◌∷◌, ◌++◌, None, refl, sym, ap, ap₂, subst, ◌∙◌}
use Rattle.std.proofs.lemmas.List.{append-nil, append_assoc}
use Rattle.hp_mail.specs.declared.letter.Letter.{Letter}
use Rattle.hp_hall.specs.Mail.{Fetches, MailStep}
use Rattle.hp_board.specs.Views.{BeginsWith}
use Rattle.hp_board.proofs.Fronts.{front_on}
use Rattle.hp_chair.specs.FoundEmpty.{FoundEmpty, FoundItsMailboxEmpty}

module _ {X : Type 0} where
  abbrev head_or : X → List X → X
  head_or x [] = x
  head_or x (y ∷ ys) = y

  abbrev pub tail_of : List X → List X
  tail_of [] = []
  tail_of (y ∷ ys) = ys

  pub nothing_among : (first rest : List X) (x : X) → [] ≡ first ++ x ∷ rest → ⊥
  nothing_among [] rest x is = cc
  nothing_among (y ∷ first) rest x is = cc

  -- what stands after a list is known by what stands with it
  pub same_rest : (xs ys zs : List X) → xs ++ ys ≡ xs ++ zs → ys ≡ zs
  same_rest [] ys zs is = is
  same_rest (x ∷ xs) ys zs is = same_rest xs ys zs (ap tail_of is)

  -- what stands among two lists is in the first or in the second
  pub split_at : (xs ys first rest : List X) (x : X) → xs ++ ys ≡ first ++ x ∷ rest
      → ((more : List X) × (xs ≡ first ++ x ∷ more)) ⊎ ((more : List X) × (first ≡ xs ++ more) × (ys ≡ more ++ x ∷ rest))
  split_at [] ys first rest x is = inr (first, refl, is)
  split_at (y ∷ xs) ys [] rest x is = inl (xs, ap (λ (z : X). z ∷ xs) (ap (head_or y) is))
  split_at (y ∷ xs) ys (z ∷ first) rest x is =
      ⊎_elim
      (λ (here : (more : List X) × (xs ≡ first ++ x ∷ more)).
      inl (here.0, ap₂ (λ (a : X) (l : List X). a ∷ l) (ap (head_or y) is) here.1))
      (λ (next : (more : List X) × (first ≡ xs ++ more) × (ys ≡ more ++ x ∷ rest)).
      inr (next.0, ap₂ (λ (a : X) (l : List X). a ∷ l) (sym (ap (head_or y) is)) next.1, next.2))
      (split_at xs ys first rest x (ap tail_of is))

  -- and what stands in a list of one is that
  pub alone_at : (one x : X) (first rest : List X) → one ∷ [] ≡ first ++ x ∷ rest → (first ≡ []) × (one ≡ x)
  alone_at one x [] rest is = (refl, ap (head_or one) is)
  alone_at one x (y ∷ first) rest is = absurd (nothing_among first rest x (ap tail_of is))

-- a step that fetched nothing
abbrev pub is_vain : MailStep → Bool
is_vain (Fetches None) = true
is_vain _ = false

-- no step among none, and none where the one step is not such a one
pub no_vain : (who : ℕ) (letters : List Letter) (before : List MailStep) → FoundItsMailboxEmpty who letters before []
no_vain who letters before first rest is = absurd (nothing_among first rest (Fetches None) is)

pub not_vain : (who : ℕ) (letters : List Letter) (before : List MailStep) (step : MailStep) → is_vain step ≡ false
    → FoundItsMailboxEmpty who letters before (step ∷ [])
not_vain who letters before step other first rest is =
    absurd (true≢false (sym (ap is_vain (alone_at step (Fetches None) first rest is).1) ∙ other))

pub one_vain : (who : ℕ) (letters : List Letter) (before : List MailStep) → FoundEmpty who letters before
    → FoundItsMailboxEmpty who letters before (Fetches None ∷ [])
one_vain who letters before found first rest is =
    subst (FoundEmpty who letters)
    (sym (append-nil before) ∙ ap (λ (l : List MailStep). before ++ l) (sym (alone_at (Fetches None) (Fetches None) first rest is).0)) found

-- steps that go on after others, with more letters
module _ (who : ℕ) (letters more : List Letter) (before : List MailStep) (grows : BeginsWith more letters) where
  found_later : (steps : List MailStep) → FoundEmpty who letters steps → FoundEmpty who more steps
  found_later steps found = record {
    pass = found.pass;
    its = found.its;
    first = front_on letters more found.pass.fetched grows found.first;
    empty = found.empty;
  }

  pub vain_then : (here next : List MailStep) → FoundItsMailboxEmpty who letters before here → FoundItsMailboxEmpty who more (before ++ here) next
      → FoundItsMailboxEmpty who more before (here ++ next)
  vain_then here next was after first rest is =
      ⊎_elim
      (λ (among : (l : List MailStep) × (here ≡ first ++ Fetches None ∷ l)). found_later (before ++ first) (was first among.0 among.1))
      (λ (later : (l : List MailStep) × (first ≡ here ++ l) × (next ≡ l ++ Fetches None ∷ rest)).
      subst (FoundEmpty who more) (append_assoc before here later.0 ∙ ap (λ (l : List MailStep). before ++ l) (sym later.1)) (after later.0 rest later.2))
      (split_at here next first rest (Fetches None) is)
