-- Closed numbers and set-aside places, as outcomes are logged.
use Rattle.std.proofs.Common.{◌≡◌, ◌≢◌, ◌==◌, ℕ, zero, suc, ◌+◌, ◌<◌, ◌≤◌, max, Bool, true, false, not, ◌&&◌, ◌||◌, cond, if◌then◌else◌, List, [], ◌∷◌, ◌++◌, length, get_or, set, Option, Some, None, refl, ap, ◌∙◌, sym, arith, inl, inr, count_by, get_or-set_same, get_or-set_other, slice_index, eq-eqb}
use Rattle.std.proofs.Math.ListN.{length-set}
use Rattle.std.specs.List.{list_any, slice_get}
use Rattle.std.proofs.lemmas.Bool.{cases_eq, and_left, ne_eqb}
use Rattle.std.proofs.lemmas.List.Folds.{list_any-append}
use Rattle.std.proofs.lemmas.List.FromFn.{fill_by_all, get_or-map-range_with_len}
use Rattle.std.proofs.lemmas.List.Sums.{fold_push}
use Rattle.hp_segs.specs.AsksView.{AreClosed, closed_after}
use Rattle.hp_segs.specs.SegsView.{closed_number, is_stale, is_unanswered, grants_or_refuses}
use Rattle.hp_segs.specs.declared.ask.Ask.{Ask}
use Rattle.hp_segs.specs.declared.outcome.AskLog.{AskLog}
use Rattle.hp_log.proofs.Counts.{count_cons}

pub and_false : (b : Bool) → (b && false) ≡ false
and_false true = refl
and_false false = refl

pub closed_push : (asks : List AskLog) (entry : AskLog) (from : ℕ)
    → closed_number (asks ++ entry ∷ []) from
    ≡ (if (entry.from == from) && not (is_stale entry.outcome) then max (closed_number asks from) entry.number else closed_number asks from)
closed_push asks entry from =
    fold_push (λ done entry. if (entry.from == from) && not (is_stale entry.outcome) then max done entry.number else done) 0 asks entry

pub closed_at : (asks : List AskLog) (closed : List ℕ) (k : ℕ) → AreClosed asks closed → k < 16 → get_or closed k 0 ≡ closed_number asks k
closed_at asks closed k are within =
    ap (λ l. get_or l k 0) are ∙ get_or-map-range_with_len (closed_number asks) 0 16 k k 0 within (omega arith)

pub long_closed : (asks : List AskLog) (closed : List ℕ) → AreClosed asks closed → length closed ≡ 16
long_closed asks closed are = ap length are

after_by : (asks : List AskLog) (closed : List ℕ) (entry : AskLog) (k : ℕ) (stale : Bool) → AreClosed asks closed → entry.from < 16 → k < 16
    → is_stale entry.outcome ≡ stale
    → get_or (if stale then closed else set closed entry.from (max (slice_index closed entry.from) entry.number)) k 0
    ≡ closed_number (asks ++ entry ∷ []) k
after_by asks closed entry k true are participant within stale =
    let none : ((entry.from == k) && not (is_stale entry.outcome)) ≡ false =
    ap (λ b. (entry.from == k) && not b) stale ∙ and_false (entry.from == k) in
    closed_at asks closed k are within ∙ (sym (ap (λ b. if b then max (closed_number asks k) entry.number else closed_number asks k) none) ∙ sym (closed_push asks entry k))
after_by asks closed entry k false are participant within fresh =
    elim (cases_eq entry.from k) [
      | inl same ↦
          let one : ((entry.from == k) && not (is_stale entry.outcome)) ≡ true =
          ap (λ b. (entry.from == k) && not b) fresh ∙ ap (λ b. b && true) (eq-eqb entry.from k same) in
          let inside : entry.from < length closed = omega (arith, long_closed asks closed are) in
          ap (λ i. get_or (set closed entry.from (max (slice_index closed entry.from) entry.number)) i 0) (sym same)
          ∙ (get_or-set_same closed entry.from (max (slice_index closed entry.from) entry.number) 0 inside
          ∙ (ap (λ n. max n entry.number) (closed_at asks closed entry.from are participant ∙ ap (closed_number asks) same)
          ∙ (sym (ap (λ b. if b then max (closed_number asks k) entry.number else closed_number asks k) one) ∙ sym (closed_push asks entry k))))
      | inr other ↦
          let none : ((entry.from == k) && not (is_stale entry.outcome)) ≡ false =
          and_left (entry.from == k) (not (is_stale entry.outcome)) (ne_eqb entry.from k other) in
          let apart : k ≢ entry.from = λ same. other (sym same) in
          get_or-set_other closed entry.from k (max (slice_index closed entry.from) entry.number) 0 apart
          ∙ (closed_at asks closed k are within
          ∙ (sym (ap (λ b. if b then max (closed_number asks k) entry.number else closed_number asks k) none) ∙ sym (closed_push asks entry k)))
    ]

long_after : (closed : List ℕ) (entry : AskLog) (stale : Bool) → is_stale entry.outcome ≡ stale
    → length (if stale then closed else set closed entry.from (max (slice_index closed entry.from) entry.number)) ≡ length closed
long_after closed entry true is = refl
long_after closed entry false is = length-set closed entry.from (max (slice_index closed entry.from) entry.number)

-- the closed numbers after one outcome more
pub closed_is_after : (asks : List AskLog) (closed : List ℕ) (entry : AskLog) → AreClosed asks closed → entry.from < 16
    → AreClosed (asks ++ entry ∷ []) (closed_after closed entry)
closed_is_after asks closed entry are participant =
    fill_by_all
    (closed_number (asks ++ entry ∷ []))
    (closed_after closed entry)
    16
    0
    (long_after closed entry (is_stale entry.outcome) refl ∙ long_closed asks closed are)
    (λ k within. after_by asks closed entry k (is_stale entry.outcome) are participant within refl)

fewer_by : (any more : Bool) → cond (not (any || more)) 1 0 ≤ cond (not any) 1 0
fewer_by true more = omega arith
fewer_by false true = omega arith
fewer_by false false = omega arith

unanswered_fewer : (asks : List AskLog) (entry : AskLog) (armed : Option Ask)
    → cond (is_unanswered (asks ++ entry ∷ []) armed) 1 0 ≤ cond (is_unanswered asks armed) 1 0
unanswered_fewer asks entry None = omega arith
unanswered_fewer asks entry (Some ask) =
    rw (list_any-append (grants_or_refuses ask.from ask.number) asks (entry ∷ []))
    (fewer_by (list_any (grants_or_refuses ask.from ask.number) asks) (list_any (grants_or_refuses ask.from ask.number) (entry ∷ [])))

-- an outcome more sets no more places aside
pub aside_push : (asks : List AskLog) (entry : AskLog) (armed : List (Option Ask))
    → count_by (is_unanswered (asks ++ entry ∷ [])) armed ≤ count_by (is_unanswered asks) armed
aside_push asks entry [] = omega arith
aside_push asks entry (one ∷ armed) =
    omega (
      arith,
      unanswered_fewer asks entry one,
      aside_push asks entry armed,
      count_cons (is_unanswered (asks ++ entry ∷ [])) one armed,
      count_cons (is_unanswered asks) one armed,
    )

or_last : (a b : Bool) → b ≡ true → (a || (b || false)) ≡ true
or_last true b is = refl
or_last false true is = refl
or_last false false is = cc

-- an outcome that answers an armed ask sets two places fewer aside
pub aside_falls : (asks : List AskLog) (entry : AskLog) (armed : List (Option Ask)) (place : ℕ) (ask : Ask) → slice_get armed place ≡ Some (Some ask)
    → grants_or_refuses ask.from ask.number entry ≡ true → is_unanswered asks (Some ask) ≡ true
    → count_by (is_unanswered (asks ++ entry ∷ [])) armed + 1 ≤ count_by (is_unanswered asks) armed
aside_falls asks entry [] place ask here answers unanswered = cc
aside_falls asks entry (one ∷ armed) zero ask here answers unanswered =
    let same : one ≡ Some ask = cc in
    let now : is_unanswered (asks ++ entry ∷ []) (Some ask) ≡ false =
    ap not (list_any-append (grants_or_refuses ask.from ask.number) asks (entry ∷ [])
    ∙ or_last (list_any (grants_or_refuses ask.from ask.number) asks) (grants_or_refuses ask.from ask.number entry) answers) in
    let none : ◌≡◌ {A = ℕ} (cond (is_unanswered (asks ++ entry ∷ []) one) 1 0) 0 =
    ap (λ o. cond (is_unanswered (asks ++ entry ∷ []) o) 1 0) same ∙ ap (λ b. cond b 1 0) now in
    let some : ◌≡◌ {A = ℕ} (cond (is_unanswered asks one) 1 0) 1 =
    ap (λ o. cond (is_unanswered asks o) 1 0) same ∙ ap (λ b. cond b 1 0) unanswered in
    omega (
      arith,
      none,
      some,
      aside_push asks entry armed,
      count_cons (is_unanswered (asks ++ entry ∷ [])) one armed,
      count_cons (is_unanswered asks) one armed,
    )
aside_falls asks entry (one ∷ armed) (suc place) ask here answers unanswered =
    omega (
      arith,
      unanswered_fewer asks entry one,
      aside_falls asks entry armed place ask here answers unanswered,
      count_cons (is_unanswered (asks ++ entry ∷ [])) one armed,
      count_cons (is_unanswered asks) one armed,
    )
