-- Where the outcomes of an ask can stand: not before its number was above the closed one.
use Rattle.std.proofs.Common.{◌≡◌, ◌==◌, ℕ, ◌-◌, ◌<◌, nat_lt, max, Bool, true, false, not, ◌&&◌, if◌then◌else◌, List, [], ◌∷◌, ◌++◌, length, get_or, take, drop, Option, Some, None, IfSome, refl, ap, ◌∙◌, sym, arith, slice_index, length-append, inl, inr}
use Rattle.std.specs.List.{find, fold}
use Rattle.std.specs.Option.{option_map, option_or}
use Rattle.std.proofs.lemmas.Bool.{and_from, and_parts, cases_lt, eqb-true, false_from_ne_true}
use Rattle.std.proofs.lemmas.List.{get_or_append_left, get_or_push, length-drop, take-append-drop, take-append-le}
use Rattle.std.proofs.lemmas.List.Folds.{find-append}
use Rattle.hp_segs.specs.AsksView.{AreKeptAsks, closed_after, failed_after, failure_of, is_above}
use Rattle.hp_segs.specs.SegsView.{closed_number, grant_or_refusal_of, grants_or_refuses, is_outcome_for, is_stale, outcome_of}
use Rattle.hp_segs.specs.declared.outcome.AskLog.{AskLog}
use Rattle.hp_segs.proofs.AskFacts.ClosedLemmas.{closed_at, closed_is_after}
use Rattle.hp_segs.proofs.GrowthSteps.FailedLemmas.{failed_is_after}
use Rattle.hp_segs.proofs.GrowthSteps.GrantLemmas.{closing, closing_grows, fresh_by}
use Rattle.hp_segs.proofs.NewLemmas.{take_all}

none_from : (from number done : ℕ) (asks : List AskLog) → fold (closing from) done asks < number → find (is_outcome_for from number) asks ≡ None
none_from from number done [] below = refl
none_from from number done (entry ∷ asks) below =
    let fails : is_outcome_for from number entry ≡ false =
    false_from_ne_true (is_outcome_for from number entry) (λ passes.
    let parts = and_parts (entry.from == from) _ passes in
    let more = and_parts (entry.number == number) _ parts.1 in
    let counts : ((entry.from == from) && not (is_stale entry.outcome)) ≡ true = and_from (entry.from == from) _ parts.0 more.1 in
    let now : closing from done entry ≡ max done entry.number = ap (λ b. if b then max done entry.number else done) counts in
    absurd (omega (arith, now, closing_grows from (closing from done entry) asks, eqb-true entry.number number more.0, below))) in
    rw (fails, none_from from number (closing from done entry) asks below) refl

-- an ask above the closed number has no outcome other than Stale
pub none_above : (asks : List AskLog) (from number : ℕ) → closed_number asks from < number → find (is_outcome_for from number) asks ≡ None
none_above asks from number above = none_from from number 0 asks above

weaker_by : {X : Type 0} (p q : X → Bool) (x : X) (xs : List X) (passes : Bool) → p x ≡ passes → (q x ≡ true → p x ≡ true)
    → (if passes then Some x else find p xs) ≡ None → (find p xs ≡ None → find q xs ≡ None) → find q (x ∷ xs) ≡ None
weaker_by p q x xs true here implies none rest = cc
weaker_by p q x xs false here implies none rest =
    let fails : q x ≡ false =
    false_from_ne_true (q x) (λ passes.
    let wrong : true ≡ false = sym (implies passes) ∙ here in
    cc) in
    ap (λ b. if b then Some x else find q xs) fails ∙ rest none

-- nor is anything found that passes a stronger test
find_weaker : {X : Type 0} (p q : X → Bool) → ((x : X) → q x ≡ true → p x ≡ true) → (xs : List X) → find p xs ≡ None → find q xs ≡ None
find_weaker p q implies [] none = refl
find_weaker p q implies (x ∷ xs) none = weaker_by p q x xs (p x) refl (implies x) none (find_weaker p q implies xs)

answers_close : (from number : ℕ) (entry : AskLog) → grants_or_refuses from number entry ≡ true → is_outcome_for from number entry ≡ true
answers_close from number entry passes =
    let parts = and_parts (entry.from == from) _ passes in
    let more = and_parts (entry.number == number) _ parts.1 in
    and_from (entry.from == from) _ parts.0 (and_from (entry.number == number) _ more.0 (fresh_by entry.outcome more.1))

find_since : {X : Type 0} (p : X → Bool) (xs : List X) (since : ℕ) → find p (take since xs) ≡ None → find p (drop since xs) ≡ find p xs
find_since p xs since none =
    let whole = ap (find p) (sym (take-append-drop since xs)) ∙ find-append p (take since xs) (drop since xs) in
    sym (whole ∙ ap (λ o. option_or o (find p (drop since xs))) none)

whole_rest : {X : Type 0} (xs : List X) (n : ℕ) → take (length xs - n) (drop n xs) ≡ drop n xs
whole_rest xs n = take_all (drop n xs) (length xs - n) (omega (arith, length-drop n xs))

-- so the first outcome is among those from such a place on
pub outcome_since : (asks : List AskLog) (from number since : ℕ) → find (is_outcome_for from number) (take since asks) ≡ None
    → outcome_of (take (length asks - since) (drop since asks)) from number ≡ outcome_of asks from number
outcome_since asks from number since none =
    ap (λ l. outcome_of l from number) (whole_rest asks since)
    ∙ ap (option_map (λ entry. entry.outcome)) (find_since (is_outcome_for from number) asks since none)

-- and so is the first grant or refusal
pub answer_since : (asks : List AskLog) (from number since : ℕ) → find (is_outcome_for from number) (take since asks) ≡ None
    → grant_or_refusal_of (take (length asks - since) (drop since asks)) from number ≡ grant_or_refusal_of asks from number
answer_since asks from number since none =
    ap (λ l. grant_or_refusal_of l from number) (whole_rest asks since)
    ∙ ap (option_map (λ entry. entry.outcome))
    (find_since (grants_or_refuses from number) asks since
    (find_weaker (is_outcome_for from number) (grants_or_refuses from number) (answers_close from number) (take since asks) none))

-- what is kept beside one outcome more
pub kept_push : (asks : List AskLog) (above : List Bool) (closed : List ℕ) (failed : List (Option ℕ)) (entry : AskLog) → AreKeptAsks asks above closed failed
    → entry.from < 16 → IfSome (failure_of entry.outcome) (λ failure. failure.0 < 256)
    → AreKeptAsks (asks ++ entry ∷ []) (above ++ nat_lt (slice_index closed entry.from) entry.number ∷ []) (closed_after closed entry)
    (failed_after failed (failure_of entry.outcome))
kept_push asks above closed failed entry kept participant small =
    let fresh : Bool = nat_lt (slice_index closed entry.from) entry.number in
    record {
      now = closed_is_after asks closed entry kept.now participant;
      long = omega (arith, kept.long, length-append above (fresh ∷ []), length-append asks (entry ∷ []));
      each = λ place d within.
          elim (cases_lt place (length asks)) [
            | inl earlier ↦
                get_or_append_left above (fresh ∷ []) false place (omega (arith, kept.long, earlier))
                ∙ (kept.each place d earlier
                ∙ (ap (λ l. is_above l (get_or asks place d)) (sym (take-append-le place asks (entry ∷ []) (omega (arith, earlier))))
                ∙ ap (is_above (take place (asks ++ entry ∷ []))) (sym (get_or_append_left asks (entry ∷ []) d place earlier))))
            | inr last ↦
                let long = length-append asks (entry ∷ []) in
                let here : length asks ≡ place = omega (arith, long, last, within) in
                get_or_push above fresh false place (kept.long ∙ here)
                ∙ (ap (λ done. nat_lt done entry.number) (closed_at asks closed entry.from kept.now participant)
                ∙ (ap (λ l. is_above l entry)
                (sym (take-append-le place asks (entry ∷ []) (omega (arith, here)) ∙ take_all asks place (omega (arith, here))))
                ∙ ap (is_above (take place (asks ++ entry ∷ []))) (sym (get_or_push asks entry d place here))))
          ];
      failures = failed_is_after asks failed entry kept.failures small;
    }
