-- Each ask is granted or refused at most once: outcomes that come to the log keep it.
use Rattle.std.proofs.Common.{◌≡◌, ◌==◌, ◌∙◌, ℕ, ◌<◌, ◌≤◌, Bool, true, false, not, cond, List, [], ◌∷◌, ◌++◌, Option, Some, None, IsTrue, refl, ap, sym, arith, count_by}
use Rattle.std.specs.List.{list_any}
use Rattle.std.proofs.lemmas.Bool.{and_parts, eqb-true, false_from_ne_true, not-true}
use Rattle.std.proofs.lemmas.List.Folds.{list_any-append}
use Rattle.std.proofs.lemmas.List.Sums.{sum_by_push}
use Rattle.hp_segs.specs.SegsView.{closed_number, grants_or_refuses, is_grant_or_refusal, is_unanswered}
use Rattle.hp_segs.specs.SoundAsks.{AreAnsweredOnce, HasUnansweredAsk}
use Rattle.hp_segs.specs.declared.ask.Ask.{Ask}
use Rattle.hp_segs.specs.declared.growth.Growth.{Growth}
use Rattle.hp_segs.specs.declared.outcome.AskLog.{AskLog}
use Rattle.hp_log.proofs.Counts.{none_counts}
use Rattle.hp_segs.proofs.Finds.{any_found}
use Rattle.hp_segs.proofs.GrowthSteps.GrantLemmas.{unanswered_above}

-- an outcome that neither grants nor refuses answers no ask
answers_none : (from number : ℕ) (entry : AskLog) → is_grant_or_refusal entry.outcome ≡ false → grants_or_refuses from number entry ≡ false
answers_none from number entry neither =
    false_from_ne_true (grants_or_refuses from number entry) (λ passes.
    let parts = and_parts (entry.from == from) _ passes in
    let more = and_parts (entry.number == number) _ parts.1 in
    let wrong : true ≡ false = sym more.1 ∙ neither in
    cc)

-- such an outcome keeps each ask answered once
pub once_beside : (asks : List AskLog) (entry : AskLog) → is_grant_or_refusal entry.outcome ≡ false → AreAnsweredOnce asks
    → AreAnsweredOnce (asks ++ entry ∷ [])
once_beside asks entry neither once from number =
    let none : ◌≡◌ {A = ℕ} (cond (grants_or_refuses from number entry) 1 0) 0 =
    ap (λ b. cond b 1 0) (answers_none from number entry neither) in
    omega (arith, once from number, none, sum_by_push (λ (a : AskLog). cond (grants_or_refuses from number a) 1 0) asks entry)

-- nor does it answer the ask of the open growth
pub unanswered_beside : (asks : List AskLog) (entry : AskLog) (growth : Option Growth) → is_grant_or_refusal entry.outcome ≡ false
    → HasUnansweredAsk asks growth → HasUnansweredAsk (asks ++ entry ∷ []) growth
unanswered_beside asks entry None neither old = tt
unanswered_beside asks entry (Some growth) neither old =
    let none = answers_none growth.ask.from growth.ask.number entry neither in
    let before = not-true (list_any (grants_or_refuses growth.ask.from growth.ask.number) asks) old in
    rw (list_any-append (grants_or_refuses growth.ask.from growth.ask.number) asks (entry ∷ []), before, none) refl

once_by : (asks : List AskLog) (entry : AskLog) (from number : ℕ) (answers : Bool) → grants_or_refuses from number entry ≡ answers
    → AreAnsweredOnce asks → list_any (grants_or_refuses entry.from entry.number) asks ≡ false
    → count_by (grants_or_refuses from number) (asks ++ entry ∷ []) ≤ 1
once_by asks entry from number true is once unanswered =
    let parts = and_parts (entry.from == from) _ is in
    let more = and_parts (entry.number == number) _ parts.1 in
    let who : entry.from ≡ from = eqb-true entry.from from parts.0 in
    let which : entry.number ≡ number = eqb-true entry.number number more.0 in
    let none : count_by (grants_or_refuses from number) asks ≡ 0 =
    none_counts (grants_or_refuses from number) asks (rw (← who, ← which) unanswered) in
    let one : ◌≡◌ {A = ℕ} (cond (grants_or_refuses from number entry) 1 0) 1 = ap (λ b. cond b 1 0) is in
    omega (arith, none, one, sum_by_push (λ (a : AskLog). cond (grants_or_refuses from number a) 1 0) asks entry)
once_by asks entry from number false is once unanswered =
    let none : ◌≡◌ {A = ℕ} (cond (grants_or_refuses from number entry) 1 0) 0 = ap (λ b. cond b 1 0) is in
    omega (arith, once from number, none, sum_by_push (λ (a : AskLog). cond (grants_or_refuses from number a) 1 0) asks entry)

-- an outcome of an ask that has neither a grant nor a refusal keeps each ask answered once
pub once_more : (asks : List AskLog) (entry : AskLog) (ask : Ask) → entry.from ≡ ask.from → entry.number ≡ ask.number
    → IsTrue (is_unanswered asks (Some ask)) → AreAnsweredOnce asks → AreAnsweredOnce (asks ++ entry ∷ [])
once_more asks entry ask who which unanswered once from number =
    once_by asks entry from number (grants_or_refuses from number entry) refl once
    (rw (who, which) (not-true (list_any (grants_or_refuses ask.from ask.number) asks) unanswered))

-- an ask above the closed number has neither a grant nor a refusal
pub above_unanswered : (asks : List AskLog) (ask : Ask) → closed_number asks ask.from < ask.number → IsTrue (is_unanswered asks (Some ask))
above_unanswered asks ask above =
    ap not (any_found (grants_or_refuses ask.from ask.number) asks (unanswered_above asks ask.from ask.number above))
