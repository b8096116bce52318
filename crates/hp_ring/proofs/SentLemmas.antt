-- What a sender has put, and a front of it in which its end is.
use Rattle.std.proofs.Common.{◌≡◌, ◌≢◌, ℕ, zero, suc, ◌+◌, ◌<◌, ◌≤◌, List, [], ◌∷◌, ◌++◌, length, min, get_or, take, drop, length-append, append-nil, refl, sym, ap, subst, ◌∙◌, arith}
use Rattle.std.specs.List.{All, Contains}
use Rattle.std.proofs.Math.Nat.{le-min, min-le_left}
use Rattle.std.proofs.Math.Seq.{take-add}
use Rattle.std.proofs.lemmas.List.{nil_from_length, take_all}
use Rattle.std.proofs.lemmas.List.Concat.{flat_map-append}
use Rattle.std.proofs.lemmas.List.Elements.{All-append, All-cons, All-head, All-nil, All-tail}
use Rattle.hp_ring.specs.Bulks.{BulkView, bulk}
use Rattle.hp_ring.specs.Weave.{AreSent, words_of}

-- a list of one element more than none
no_cons : {A : Type 0} (x : A) (xs : List A) → x ∷ xs ≡ [] → ⊥
no_cons x xs is = let long = ap length is in omega (arith, long)

first_same : {A : Type 0} (x y : A) (xs ys : List A) → x ∷ xs ≡ y ∷ ys → x ≡ y
first_same {A} x y xs ys is = ap (λ (l : List A). get_or l 0 x) is

rest_same : {A : Type 0} (x y : A) (xs ys : List A) → x ∷ xs ≡ y ∷ ys → xs ≡ ys
rest_same {A} x y xs ys is = ap (λ (l : List A). drop 1 l) is

-- nothing comes after a front in which the end is
pub nothing_after : (front after full : List BulkView) (end e : BulkView) → front ++ after ≡ full ++ end ∷ [] → All (λ b. b.words ≢ []) full
    → Contains front e → e.words ≡ [] → after ≡ []
nothing_after [] after full end e is some has none = absurd (let inside = has.1 in omega (arith, inside))
nothing_after (b ∷ front) [] full end e is some has none = refl
nothing_after (b ∷ front) (a ∷ after) [] end e is some has none =
    let rest : front ++ a ∷ after ≡ [] = rest_same b end (front ++ a ∷ after) [] is in
    absurd (let long = ap length rest in let both = length-append front (a ∷ after) in omega (arith, long, both))
nothing_after (b ∷ front) (a ∷ after) (f ∷ full) end e is some (zero, inside, here) none =
    absurd (All-head (λ (x : BulkView). x.words ≢ []) f full some
    (ap (λ (x : BulkView). x.words) (sym (first_same b f (front ++ a ∷ after) (full ++ end ∷ []) is) ∙ here) ∙ none))
nothing_after (b ∷ front) (a ∷ after) (f ∷ full) end e is some (suc k, inside, here) none =
    nothing_after front (a ∷ after) full end e (rest_same b f (front ++ a ∷ after) (full ++ end ∷ []) is)
    (All-tail (λ (x : BulkView). x.words ≢ []) f full some) (k, omega (arith, inside), here) none

-- so what was taken of a sender, with its end, is all that it has put
pub all_taken : (who : ℕ) (words : List ℕ) (sent taken after : List BulkView) (e : BulkView) → AreSent who words sent → taken ++ after ≡ sent
    → Contains taken e → length e.words ≡ 0 → taken ≡ sent
all_taken who words sent taken after e are is has none =
    let rest = nothing_after taken after are.full (bulk who []) e (is ∙ are.are) are.some has (nil_from_length e.words none) in
    sym (append-nil taken) ∙ (ap (λ (l : List BulkView). taken ++ l) (sym rest) ∙ is)

-- the words of what a sender has put are those that it was to put
pub words_sent : (who : ℕ) (words : List ℕ) (sent : List BulkView) → AreSent who words sent → words_of sent ≡ words
words_sent who words sent are =
    ap words_of are.are
    ∙ (flat_map-append (λ (b : BulkView). b.words) are.full (bulk who [] ∷ [])
    ∙ (append-nil (words_of are.full) ∙ are.joined))

-- the words so far, in bulks that have some
pub record AreSentSoFar (words : List ℕ) (bulks : List BulkView) : Type 0 where
  pub some : All (λ b. b.words ≢ []) bulks
  pub joined : words_of bulks ≡ words

pub sent_none : (words : List ℕ) → AreSentSoFar (take 0 words) []
sent_none words = record { some = All-nil (λ (b : BulkView). b.words ≢ []); joined = refl }

-- how many words the next bulk has: all that are left, and 32 at most
pub next_some : (n left : ℕ) → n ≡ min left 32 → 0 < left → 0 < n
next_some n left is some = let one = le-min {k = 1} {a = left} {b = 32} (omega (arith, some)) (omega arith) in omega (arith, is, one)

pub next_within : (n left : ℕ) → n ≡ min left 32 → n ≤ left
next_within n left is = let within = min-le_left left 32 in omega (arith, is, within)

-- the next words are so many of those that are left
pub next_is : (n at : ℕ) (words rest next : List ℕ) → rest ≡ drop at words → next ≡ take n rest → length next ≡ n → next ≡ take (length next) (drop at words)
next_is n at words rest next rest_is is long = is ∙ (λ i. take (sym long i) (rest_is i))

-- a bulk of the next words
pub sent_more : (who at n : ℕ) (words next : List ℕ) (bulks more : List BulkView) → next ≡ take n (drop at words) → 0 < length next
    → more ≡ bulks ++ bulk who next ∷ [] → AreSentSoFar (take at words) bulks → AreSentSoFar (take (at + n) words) more
sent_more who at n words next bulks more next_is some is sent =
    subst (AreSentSoFar (take (at + n) words)) (sym is) (record {
      some = All-append (λ (b : BulkView). b.words ≢ []) bulks (bulk who next ∷ []) sent.some
          (All-cons (λ (b : BulkView). b.words ≢ []) (bulk who next) [] (λ none. (let long = ap length none in omega (arith, long, some))) (All-nil (λ (b : BulkView). b.words ≢ [])));
      joined =
          flat_map-append (λ (b : BulkView). b.words) bulks (bulk who next ∷ [])
          ∙ (ap (λ (l : List ℕ). words_of bulks ++ l) (append-nil next)
          ∙ ((λ i. sent.joined i ++ next_is i) ∙ sym (take-add at n words)));
    })

-- and then an end
pub sent_all : (who at : ℕ) (words : List ℕ) (bulks all : List BulkView) → length words ≤ at → AreSentSoFar (take at words) bulks
    → all ≡ bulks ++ bulk who [] ∷ [] → AreSent who words all
sent_all who at words bulks all past sent is = record {
  full = bulks;
  are = is;
  some = sent.some;
  joined = sent.joined ∙ take_all at words past;
}
