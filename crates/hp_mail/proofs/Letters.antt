-- The frames of a sender among letters that come one after another.
use Rattle.std.proofs.Common.{◌≡◌, ◌≢◌, ◌⊎◌, inl, inr, ⊎_elim, ℕ, zero, suc, ◌<◌, ◌≤◌, arith, refl, subst, eqb, eq-eqb, ne_eqb, List, [], ◌∷◌, ◌++◌, map, sym, ap, ◌∙◌}
use Rattle.std.specs.List.{Contains, filter}
use Rattle.std.proofs.lemmas.Bool.{cond-true, cond-false}
use Rattle.std.proofs.lemmas.List.{append-nil, map-append}
use Rattle.std.proofs.lemmas.List.Elements.{Contains-append_left, Contains-append_right, filter-append}
use Rattle.hp_frame.specs.declared.frame.Frame.{Frame}
use Rattle.hp_mail.specs.declared.letter.Letter.{Letter}
use Rattle.hp_mail.specs.Views.{frames_of}

pub frames_of-append : (who : ℕ) (xs ys : List Letter) → frames_of who (xs ++ ys) ≡ frames_of who xs ++ frames_of who ys
frames_of-append who xs ys =
    ap (map (λ (l : Letter). l.frame)) (filter-append (λ (l : Letter). eqb l.from who) xs ys)
    ∙ map-append (λ (l : Letter). l.frame) (filter (λ (l : Letter). eqb l.from who) xs) (filter (λ (l : Letter). eqb l.from who) ys)

pub frames_of-own : (who : ℕ) (x : Letter) → x.from ≡ who → frames_of who (x ∷ []) ≡ x.frame ∷ []
frames_of-own who x is = ap (map (λ (l : Letter). l.frame)) (cond-true (eqb x.from who) (x ∷ []) [] (eq-eqb x.from who is))

pub frames_of-other : (who : ℕ) (x : Letter) → x.from ≢ who → frames_of who (x ∷ []) ≡ []
frames_of-other who x apart = ap (map (λ (l : Letter). l.frame)) (cond-false (eqb x.from who) (x ∷ []) [] (ne_eqb x.from who apart))

-- a letter is among those of its sender
pub frames_of-has : (letters : List Letter) (x : Letter) → Contains letters x → Contains (frames_of x.from letters) x.frame
frames_of-has [] x (k, inside, is) = absurd (omega (arith, inside))
frames_of-has (y ∷ letters) x (zero, inside, is) =
    subst (λ (l : List Frame). Contains l x.frame) (sym (frames_of-append x.from (y ∷ []) letters))
    (Contains-append_left (frames_of x.from (y ∷ [])) (frames_of x.from letters) x.frame
    (subst (λ (l : List Frame). Contains l x.frame) (sym (frames_of-own x.from y (ap (λ (l : Letter). l.from) is) ∙ ap (λ (l : Letter). l.frame ∷ []) is))
    (0, omega arith, refl)))
frames_of-has (y ∷ letters) x (suc k, inside, is) =
    subst (λ (l : List Frame). Contains l x.frame) (sym (frames_of-append x.from (y ∷ []) letters))
    (Contains-append_right (frames_of x.from (y ∷ [])) (frames_of x.from letters) x.frame (frames_of-has letters x (k, omega (arith, inside), is)))

-- the letter of a frame
pub letter_of : (letters : List Letter) (frame : Frame) → Contains (map (λ (l : Letter). l.frame) letters) frame
    → (x : Letter) × Contains letters x × (x.frame ≡ frame)
letter_of [] frame (k, inside, is) = absurd (omega (arith, inside))
letter_of (y ∷ letters) frame (zero, inside, is) = (y, (0, omega arith, refl), is)
letter_of (y ∷ letters) frame (suc k, inside, is) =
    let next = letter_of letters frame (k, omega (arith, inside), is) in
    let among = next.1 in
    let within = among.1 in
    (next.0, (suc among.0, omega (arith, within), among.2), next.2)

-- a number is below another, or is not
pub below_or_not : (n count : ℕ) → (n < count) ⊎ (count ≤ n)
below_or_not zero zero = inr (omega arith)
below_or_not zero (suc count) = inl (omega arith)
below_or_not (suc n) zero = inr (omega arith)
below_or_not (suc n) (suc count) =
    ⊎_elim (λ (below : n < count). inl (omega (arith, below))) (λ (past : count ≤ n). inr (omega (arith, past))) (below_or_not n count)
