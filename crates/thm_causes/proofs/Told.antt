-- Asks and notices without an outcome, as outcomes are logged: those of all participants stay no more than were lost.
use Rattle.std.proofs.Common.{◌≡◌, ◌≢◌, ◌∙◌, ◌⊎◌, ℕ, zero, suc, ◌+◌, ◌-◌, ◌<◌, ◌≤◌, Bool, true, false, not, ◌&&◌, ◌||◌, ◌==◌, max, cond, List, [], ◌∷◌, ◌++◌, inl, inr, refl, sym, ap, subst, arith, eq-eqb, true≢false, if◌then◌else◌}
use Rattle.std.specs.List.{fold, list_any}
use Rattle.std.proofs.lemmas.Bool.{and_from, and_parts, cases_eq, cases_lt, eqb-true, ne_eqb, not-true, or_right}
use Rattle.std.proofs.lemmas.List.Folds.{list_any-append}
use Rattle.hp_base.specs.declared.plan_entry.MsgKind.TheVariants as message
use Rattle.hp_core.specs.Asks.{asker, number_of}
use Rattle.hp_core.specs.declared.asked.Asked.{Asked}
use Rattle.hp_segs.specs.SegsView.{closed_number, is_outcome_for, is_stale}
use Rattle.hp_segs.specs.declared.outcome.AskLog.{AskLog}
use Rattle.hp_serve.specs.Party.{Party}
use Rattle.thm_causes.specs.Counting.{lost_among}
use Rattle.thm_causes.specs.RoundTrip.{IsInTime, IsToldBefore, Setting, made_before, notices_lost}
use Rattle.thm_causes.specs.Outcomes.{unanswered_among, withdrawn_outcomes}

-- what has an outcome of a participant had one before, or is that ask, or that notice
abbrev pub ComesOf : Asked → ℕ → List AskLog → List AskLog → Type 0
ComesOf call who old new = (number : ℕ) → list_any (is_outcome_for who number) new ≡ true
    → (list_any (is_outcome_for who number) old ≡ true) ⊎ ((who ≡ asker call) × (number ≡ number_of call))

-- later outcomes, while that ask is under way: what had an outcome has one, no more was taken back, and what came is its own, or stale
pub record IsHeardOn (call : Asked) (who : ℕ) (old new : List AskLog) : Type 0 where
  pub keeps : (number : ℕ) → list_any (is_outcome_for who number) old ≡ true → list_any (is_outcome_for who number) new ≡ true
  pub withdrawn : withdrawn_outcomes who new ≡ withdrawn_outcomes who old
  pub comes : ComesOf call who old new

pub heard_same : (call : Asked) (who : ℕ) (old new : List AskLog) → new ≡ old → IsHeardOn call who old new
heard_same call who old new same = record {
  keeps = λ number is. ap (list_any (is_outcome_for who number)) same ∙ is;
  withdrawn = ap (withdrawn_outcomes who) same;
  comes = λ number is. inl (ap (list_any (is_outcome_for who number)) (sym same) ∙ is);
}

pub outcome_stays : (who number : ℕ) (old more : List AskLog) → list_any (is_outcome_for who number) old ≡ true
    → list_any (is_outcome_for who number) (old ++ more) ≡ true
outcome_stays who number old more is =
    list_any-append (is_outcome_for who number) old more
    ∙ ap (λ (any : Bool). any || list_any (is_outcome_for who number) more) is

-- an outcome is stale, or that ask's own
abbrev pub IsOwnOrStale : Asked → AskLog → Type 0
IsOwnOrStale call entry = (is_stale entry.outcome ≡ true) ⊎ ((entry.from ≡ asker call) × (entry.number ≡ number_of call))

pub comes_one : (call : Asked) (who : ℕ) (old new : List AskLog) (entry : AskLog) → new ≡ old ++ entry ∷ [] → IsOwnOrStale call entry
    → ComesOf call who old new
comes_one call who old new entry is own number there =
    by_old (list_any (is_outcome_for who number) old) (is_outcome_for who number entry) refl refl
    (sym (list_any-append (is_outcome_for who number) old (entry ∷ [])) ∙ sym (ap (list_any (is_outcome_for who number)) is) ∙ there)
  where
    its_own : is_outcome_for who number entry ≡ true → (who ≡ asker call) × (number ≡ number_of call)
    its_own its =
        let both = and_parts (entry.from == who) _ its in
        let rest = and_parts (entry.number == number) _ both.1 in
        elim own [
          | inl stale ↦ absurd (true≢false (sym stale ∙ not-true (is_stale entry.outcome) rest.1))
          | inr same ↦ (
            sym (eqb-true entry.from who both.0) ∙ same.0,
            sym (eqb-true entry.number number rest.0) ∙ same.1,
          )
        ]

    by_old : (old_has has : Bool) → list_any (is_outcome_for who number) old ≡ old_has → is_outcome_for who number entry ≡ has
        → (old_has || (has || false)) ≡ true
        → (list_any (is_outcome_for who number) old ≡ true) ⊎ ((who ≡ asker call) × (number ≡ number_of call))
    by_old true has before its any = inl before
    by_old false true before its any = inr (its_own its)
    by_old false false before its any = cc

pub heard_more : (call : Asked) (who : ℕ) (old new : List AskLog) (entry : AskLog) → new ≡ old ++ entry ∷ []
    → withdrawn_outcomes who new ≡ withdrawn_outcomes who old → IsOwnOrStale call entry → IsHeardOn call who old new
heard_more call who old new entry is same own = record {
  keeps = λ number there. ap (list_any (is_outcome_for who number)) is ∙ outcome_stays who number old (entry ∷ []) there;
  withdrawn = same;
  comes = comes_one call who old new entry is own;
}

fewer_by : (old new : Bool) → (old ≡ true → new ≡ true) → cond new 0 1 ≤ cond old 0 1
fewer_by true new stays =
    let is : new ≡ true = stays refl in
    let none : ◌≡◌ {A = ℕ} (cond new 0 1) 0 = ap (λ (b : Bool). cond b 0 1) is in
    omega (arith, none)
fewer_by false true stays = omega arith
fewer_by false false stays = omega arith

pub unanswered_zero : (asks : List AskLog) (who : ℕ) → unanswered_among asks who 0 ≡ 0
unfolding unanswered_among
unanswered_zero asks who = refl

pub unanswered_next : (asks : List AskLog) (who n : ℕ)
    → unanswered_among asks who (suc n) ≡ unanswered_among asks who n + cond (list_any (is_outcome_for who (suc n)) asks) 0 1
unfolding unanswered_among
unanswered_next asks who n = refl

-- no more are without an outcome
pub unanswered_fewer : (call : Asked) (who : ℕ) (old new : List AskLog) → IsHeardOn call who old new → (n : ℕ)
    → unanswered_among new who n ≤ unanswered_among old who n
unanswered_fewer call who old new on zero = omega (arith, unanswered_zero new who)
unanswered_fewer call who old new on (suc n) =
    omega (
      arith,
      unanswered_fewer call who old new on n,
      fewer_by (list_any (is_outcome_for who (suc n)) old) (list_any (is_outcome_for who (suc n)) new) (on.keeps (suc n)),
      unanswered_next old who n,
      unanswered_next new who n,
    )

-- so it is whatever is logged
pub unanswered_more : (who : ℕ) (old more : List AskLog) (n : ℕ) → unanswered_among (old ++ more) who n ≤ unanswered_among old who n
unanswered_more who old more zero = omega (arith, unanswered_zero (old ++ more) who)
unanswered_more who old more (suc n) =
    omega (
      arith,
      unanswered_more who old more n,
      fewer_by (list_any (is_outcome_for who (suc n)) old) (list_any (is_outcome_for who (suc n)) (old ++ more))
          (outcome_stays who (suc n) old more),
      unanswered_next old who n,
      unanswered_next (old ++ more) who n,
    )

-- one more, whether it has an outcome or not
one_at_most : (b : Bool) → cond b 0 1 ≤ 1
one_at_most true = omega arith
one_at_most false = omega arith

pub unanswered_last : (asks : List AskLog) (who n : ℕ) → unanswered_among asks who n ≤ unanswered_among asks who (n - 1) + 1
unanswered_last asks who zero = omega (arith, unanswered_zero asks who)
unanswered_last asks who (suc n) =
    let same : unanswered_among asks who n ≡ unanswered_among asks who (suc n - 1) = ap (unanswered_among asks who) (before n) in
    omega (arith, unanswered_next asks who n, one_at_most (list_any (is_outcome_for who (suc n)) asks), same)
  where
    before : (n : ℕ) → n ≡ suc n - 1
    before n = omega arith

-- one more that has an outcome
pub unanswered_heard : (asks : List AskLog) (who n : ℕ) → list_any (is_outcome_for who n) asks ≡ true
    → unanswered_among asks who n ≤ unanswered_among asks who (n - 1)
unanswered_heard asks who zero is = omega (arith, unanswered_zero asks who)
unanswered_heard asks who (suc n) is =
    let same : unanswered_among asks who n ≡ unanswered_among asks who (suc n - 1) = ap (unanswered_among asks who) (before n) in
    let none : ◌≡◌ {A = ℕ} (cond (list_any (is_outcome_for who (suc n)) asks) 0 1) 0 = ap (λ (b : Bool). cond b 0 1) is in
    omega (arith, unanswered_next asks who n, none, same)
  where
    before : (n : ℕ) → n ≡ suc n - 1
    before n = omega arith

-- THE CLOSED NUMBER

abbrev counts_for : ℕ → AskLog → Bool
counts_for who entry = (entry.from == who) && not (is_stale entry.outcome)

-- the greatest number of an outcome so far
abbrev greatest : ℕ → ℕ → AskLog → ℕ
greatest who done entry = if counts_for who entry then max done entry.number else done

its_number : (who done m : ℕ) (entry : AskLog) (counts : Bool) → counts_for who entry ≡ counts
    → m ≡ (if counts then max done entry.number else done) → (m ≡ done) ⊎ (is_outcome_for who m entry ≡ true)
its_number who done m entry false is same = inl same
its_number who done m entry true is same =
    let both = and_parts (entry.from == who) (not (is_stale entry.outcome)) is in
    elim (cases_lt done entry.number) [
      | inl below ↦
          let its : entry.number ≡ m = omega (arith, same, below) in
          inr
          (and_from (entry.from == who) _ both.0 (and_from (entry.number == m) _ (eq-eqb entry.number m its) both.1))
      | inr above ↦ inl (omega (arith, same, above))
    ]

closed_from : (who : ℕ) (asks : List AskLog) (done m : ℕ) → m ≡ fold (greatest who) done asks
    → (m ≡ done) ⊎ (list_any (is_outcome_for who m) asks ≡ true)
closed_from who [] done m is = inl is
closed_from who (entry ∷ asks) done m is =
    elim (closed_from who asks (greatest who done entry) m is) [
      | inr among ↦ inr (or_right (is_outcome_for who m entry) _ among)
      | inl same ↦ elim (its_number who done m entry (counts_for who entry) refl same) [
        | inl done_is ↦ inl done_is
        | inr first ↦ inr (ap (λ (b : Bool). b || list_any (is_outcome_for who m) asks) first)
      ]
    ]

-- the closed number is that of an outcome, or 0
pub closed_heard : (asks : List AskLog) (who n : ℕ) → closed_number asks who ≡ n → (n ≡ 0) ⊎ (list_any (is_outcome_for who n) asks ≡ true)
closed_heard asks who n is = closed_from who asks 0 n (sym is)

pub unanswered_closed : (asks : List AskLog) (who n : ℕ) → closed_number asks who ≡ n
    → unanswered_among asks who n ≤ unanswered_among asks who (n - 1)
unanswered_closed asks who n is =
    elim (closed_heard asks who n is) [
      | inl none ↦
          let zero_is : unanswered_among asks who n ≡ 0 = ap (unanswered_among asks who) none ∙ unanswered_zero asks who in
          omega (arith, zero_is)
      | inr heard ↦ unanswered_heard asks who n heard
    ]

-- WHAT IS SAID OF PARTICIPANTS

pub notices_lost_same : (set : Setting) (who : ℕ) (old new : Party) → new.sent.frees ≡ old.sent.frees
    → notices_lost set who new ≡ notices_lost set who old
notices_lost_same set who old new frees = ap (lost_among set.plan message.Free who) frees

made_same : (call : Asked) (who : ℕ) (old new : Party) → new.asked ≡ old.asked → made_before call who new ≡ made_before call who old
made_same call who old new same = ap (λ (n : ℕ). if asker call == who then number_of call - 1 else n) same

-- while an ask of the line is under way, what had no outcome when the line began has none
pub in_time_on : (set : Setting) (old new : List AskLog) (call : Asked) (who asked : ℕ) → ComesOf call who old new
    → (who ≡ asker call → set.made who < number_of call) → IsInTime set old who asked → IsInTime set new who asked
in_time_on set old new call who asked comes fresh was = record {
  before = was.before;
  still = λ number some within there.
      elim (comes number there) [
        | inl before ↦ was.still number some within before
        | inr own ↦ absurd (omega (arith, within, own.1, fresh own.0))
      ];
}

-- a participant that sent no more has what it had where later outcomes are heard
pub told_on : (set : Setting) (old new : List AskLog) (call : Asked) (who : ℕ) (party after : Party) → IsHeardOn call who old new
    → after.asked ≡ party.asked → after.sent.frees ≡ party.sent.frees → IsToldBefore set old call who party
    → IsToldBefore set new call who after
told_on set old new call who party after on asked frees told = record {
  answered =
      let fewer = unanswered_fewer call who old new on (made_before call who party) in
      let made : unanswered_among new who (made_before call who after) ≡ unanswered_among new who (made_before call who party) =
      ap (unanswered_among new who) (made_same call who party after asked) in
      omega (arith, told.answered, fewer, made, notices_lost_same set who party after frees);
  last = λ own. asked ∙ told.last own;
  fresh = told.fresh;
  in_time = subst (IsInTime set new who) (sym asked) (in_time_on set old new call who party.asked on.comes told.fresh told.in_time);
}

pub made_own : (call : Asked) (who : ℕ) (party : Party) → who ≡ asker call → made_before call who party ≡ number_of call - 1
made_own call who party own =
    ap (λ (b : Bool). if b then number_of call - 1 else party.asked) (eq-eqb (asker call) who (sym own))

pub made_other : (call : Asked) (who : ℕ) (party : Party) → who ≢ asker call → made_before call who party ≡ party.asked
made_other call who party other =
    ap (λ (b : Bool). if b then number_of call - 1 else party.asked) (ne_eqb (asker call) who (λ same. other (sym same)))

-- who is told of all but this one, and this one is closed, or there is room for one more without an outcome
pub told_then : (set : Setting) (asks : List AskLog) (call : Asked) (who : ℕ) (party : Party) → IsToldBefore set asks call who party
    → closed_number asks who ≤ party.asked
    → (who ≡ asker call → (number_of call ≤ closed_number asks who) ⊎ (unanswered_among asks who (number_of call - 1) < notices_lost set who party))
    → unanswered_among asks who party.asked ≤ notices_lost set who party
told_then set asks call who party told closed ends =
    elim (cases_eq who (asker call)) [
      | inr other ↦
          let made : unanswered_among asks who (made_before call who party) ≡ unanswered_among asks who party.asked =
          ap (unanswered_among asks who) (made_other call who party other) in
          omega (arith, told.answered, made)
      | inl own ↦
          let asked : party.asked ≡ number_of call = told.last own in
          let made : unanswered_among asks who (made_before call who party) ≡ unanswered_among asks who (party.asked - 1) =
          ap (unanswered_among asks who) (made_own call who party own ∙ ap (λ (n : ℕ). n - 1) (sym asked)) in
          elim (ends own) [
            | inl done ↦
                let is : closed_number asks who ≡ party.asked = omega (arith, done, asked, closed) in
                omega (arith, told.answered, made, unanswered_closed asks who party.asked is)
            | inr room ↦
                let before : unanswered_among asks who (number_of call - 1) ≡ unanswered_among asks who (party.asked - 1) =
                ap (λ (n : ℕ). unanswered_among asks who (n - 1)) (sym asked) in
                omega (arith, unanswered_last asks who party.asked, room, before)
          ]
    ]
