-- A growth that opens and is granted: its ask can be claimed, and its heap then owns the run.
use Rattle.std.proofs.Common.{◌≡◌, ◌==◌, ℕ, zero, suc, ◌+◌, ◌*◌, ◌<◌, ◌≤◌, max, Bool, true, false, not, ◌&&◌, ◌||◌, List, [], ◌∷◌, ◌++◌, map, length, find, Option, Some, None, if◌then◌else◌, IsSomeAnd, IsTrue, refl, ap, ◌∙◌, sym, subst, arith, inl, inr, eq-eqb}
use Rattle.std.specs.List.{fold, list_any}
use Rattle.std.specs.Option.{option_and_then, option_map}
use Rattle.std.proofs.lemmas.Bool.{and_from, and_parts, cases_lt, eqb-true, false_from_ne_true}
use Rattle.std.proofs.lemmas.List.Folds.{find-append, list_any-append}
use Rattle.hp_base.specs.declared.row.Row.{Row}
use Rattle.hp_base.specs.declared.row.Run.{Run}
use Rattle.hp_segs.specs.Calls.{IsUnclaimedGrant, OwnsRun, is_owned_at}
use Rattle.hp_log.specs.Rows.{row_of, rows_below, rows_of}
use Rattle.hp_segs.specs.SegsView.{SegsView, closed_number, grant_of, granted_by, grants_or_refuses, is_agreed, is_grant_or_refusal, is_stale, is_unclaimed}
use Rattle.hp_segs.specs.Steps.{after_agree, after_claim, after_grant, after_open, agreed_segment, claimed_grant, claimed_segment, granted_unless, lowest_below, segment_of}
use Rattle.hp_segs.specs.declared.ask.Ask.{Ask}
use Rattle.hp_segs.specs.declared.growth.Growth.{Growth}
use Rattle.hp_log.specs.declared.log_record.LogRecord.TheVariants.{Add}
use Rattle.hp_segs.specs.declared.outcome.AskLog.{AskLog}
use Rattle.hp_segs.specs.declared.outcome.Outcome.{Outcome}
use Rattle.hp_segs.specs.declared.outcome.Outcome.TheVariants.{Granted, Refused, Stale, Freed}
use Rattle.hp_segs.specs.declared.row_state.RowState.TheVariants.{Opened, Agreed, Owned}
use Rattle.hp_segs.specs.declared.row_state.Segment.{Segment}
use Rattle.hp_segs.proofs.SlotFacts.PlannedLemmas.{IsOpenPlan}

-- the closed number after one outcome more
abbrev pub closing : ℕ → ℕ → AskLog → ℕ
closing from done entry = if (entry.from == from) && not (is_stale entry.outcome) then max done entry.number else done

grows_by : (counts : Bool) (done number : ℕ) → done ≤ (if counts then max done number else done)
grows_by true done number = omega arith
grows_by false done number = omega arith

pub closing_grows : (from done : ℕ) (asks : List AskLog) → done ≤ fold (closing from) done asks
closing_grows from done [] = omega arith
closing_grows from done (entry ∷ asks) =
    omega (
      arith,
      grows_by ((entry.from == from) && not (is_stale entry.outcome)) done entry.number,
      closing_grows from (closing from done entry) asks,
    )

pub fresh_by : (outcome : Outcome) → is_grant_or_refusal outcome ≡ true → not (is_stale outcome) ≡ true
fresh_by (Granted generation) is = refl
fresh_by (Refused cause) is = refl
fresh_by (Stale done) is = is
fresh_by (Freed generation) is = refl

unanswered_from : (from number done : ℕ) (asks : List AskLog) → fold (closing from) done asks < number
    → find (grants_or_refuses from number) asks ≡ None
unanswered_from from number done [] below = refl
unanswered_from from number done (entry ∷ asks) below =
    let fails : grants_or_refuses from number entry ≡ false =
    false_from_ne_true (grants_or_refuses from number entry) (λ passes.
    let parts = and_parts (entry.from == from) _ passes in
    let more = and_parts (entry.number == number) _ parts.1 in
    let counts : ((entry.from == from) && not (is_stale entry.outcome)) ≡ true =
    and_from (entry.from == from) _ parts.0 (fresh_by entry.outcome more.1) in
    let now : closing from done entry ≡ max done entry.number = ap (λ b. if b then max done entry.number else done) counts in
    absurd (omega (arith, now, closing_grows from (closing from done entry) asks, eqb-true entry.number number more.0, below))) in
    rw (fails, unanswered_from from number (closing from done entry) asks below) refl

-- an ask above the closed number has neither a grant nor a refusal
pub unanswered_above : (asks : List AskLog) (from number : ℕ) → closed_number asks from < number
    → find (grants_or_refuses from number) asks ≡ None
unanswered_above asks from number above = unanswered_from from number 0 asks above

or_last : (b : Bool) → (b || true) ≡ true
or_last true = refl
or_last false = refl

pub any_mapped : {X Y : Type 0} (p : Y → Bool) (f : X → Y) (xs : List X) → list_any p (map f xs) ≡ list_any (λ x. p (f x)) xs
any_mapped p f [] = refl
any_mapped p f (x ∷ xs) = ap (λ b. p (f x) || b) (any_mapped p f xs)

any_row : (p : Row → Bool) (run : Run) (generation n k : ℕ) → k < n → p (row_of run generation k) ≡ true
    → list_any p (rows_below run generation n) ≡ true
any_row p run generation zero k below passes = absurd (omega (arith, below))
any_row p run generation (suc n) k below passes =
    list_any-append p (rows_below run generation n) (row_of run generation n ∷ [])
    ∙ elim (cases_lt k n) [
      | inl less ↦ rw (any_row p run generation n k less passes) refl
      | inr last ↦
          let same : k ≡ n = omega (arith, below, last) in
          let here : p (row_of run generation n) ≡ true = subst (λ m. p (row_of run generation m) ≡ true) same passes in
          rw here (or_last (list_any p (rows_below run generation n)))
    ]

-- what a change of states makes of a row of a growth is among the segments
any_made : (p : Segment → Bool) (f : Segment → Segment) (before : List Segment) (run : Run) (generation n : ℕ) → n < run.count
    → p (f (segment_of Opened (row_of run generation n))) ≡ true
    → list_any p (map f (before ++ map (segment_of Opened) (rows_of run generation))) ≡ true
any_made p f before run generation n below passes =
    let fresh : List Segment = map (segment_of Opened) (rows_of run generation) in
    let among : list_any (λ segment. p (f segment)) fresh ≡ true =
    any_mapped (λ segment. p (f segment)) (segment_of Opened) (rows_of run generation)
    ∙ any_row (λ row. p (f (segment_of Opened row))) run generation run.count n below passes in
    any_mapped p f (before ++ fresh)
    ∙ (list_any-append (λ segment. p (f segment)) before fresh ∙ rw among (or_last (list_any (λ segment. p (f segment)) before)))

agreed_own : (heap : ℕ) (row : Row) → agreed_segment row.generation heap (segment_of Opened row) ≡ segment_of (Agreed heap) row
agreed_own heap row =
    ap (λ b. if b then segment_of (Agreed heap) row else segment_of Opened row) (eq-eqb row.generation row.generation refl)

claimed_own : (heap : ℕ) (row : Row) → claimed_segment row.generation (segment_of (Agreed heap) row) ≡ segment_of (Owned heap) row
claimed_own heap row =
    ap (λ b. if b then segment_of (Owned heap) row else segment_of (Agreed heap) row) (eq-eqb row.generation row.generation refl)

owned_own : (heap generation n : ℕ) (run : Run) → is_owned_at heap run n (segment_of (Owned heap) (row_of run generation n)) ≡ true
owned_own heap generation n run =
    and_from (heap == heap) _ (eq-eqb heap heap refl)
    (and_from (run.list == run.list) _ (eq-eqb run.list run.list refl)
    (and_from (run.first + n == run.first + n) _ (eq-eqb (run.first + n) (run.first + n) refl)
    (and_from (run.addr + n * run.page == run.addr + n * run.page) _ (eq-eqb (run.addr + n * run.page) (run.addr + n * run.page) refl)
    (and_from (run.page == run.page) _ (eq-eqb run.page run.page refl) (eq-eqb run.socket run.socket refl)))))

-- the growth that opens for an ask
abbrev pub opened_growth : SegsView → Ask → Run → Growth
opened_growth segs ask run = record { generation = length segs.log + 1; ask = ask; run = run; noted = None }

-- what its grant leaves
abbrev pub after_granted : SegsView → Ask → Run → SegsView
after_granted segs ask run = after_grant (opened_growth segs ask run) (after_open ask run segs)

-- a growth that no member keeps from it is granted
pub granted_is : (segs : SegsView) (ask : Ask) (run : Run) (acks : List ℕ) → lowest_below (after_open ask run segs) acks ≡ None
    → after_agree acks (after_open ask run segs) ≡ after_granted segs ask run
granted_is segs ask run acks none = ap (granted_unless (opened_growth segs ask run) (after_open ask run segs)) none

module _ (segs : SegsView) (ask : Ask) (run : Run) (plan : IsOpenPlan segs ask run) where
  -- the grant of its ask is its record
  pub grant_is : grant_of (after_granted segs ask run).asks ask.from ask.number ≡ Some (length segs.log + 1)
  grant_is =
      let entry : AskLog = record {
        from = ask.from;
        number = ask.number;
        outcome = Granted (length segs.log + 1);
        at = length (segs.log ++ Add run ask.heap ∷ []);
        ask = Some ask;
      } in
      let own : grants_or_refuses ask.from ask.number entry ≡ true =
      and_from (ask.from == ask.from) _ (eq-eqb ask.from ask.from refl)
      (and_from (ask.number == ask.number) true (eq-eqb ask.number ask.number refl) refl) in
      let found : find (grants_or_refuses ask.from ask.number) (segs.asks ++ entry ∷ []) ≡ Some entry =
      find-append (grants_or_refuses ask.from ask.number) segs.asks (entry ∷ [])
      ∙ rw (unanswered_above segs.asks ask.from ask.number plan.above, own) refl in
      ap (λ (found : Option AskLog). option_and_then granted_by (option_map (λ entry. entry.outcome) found)) found

  -- it can be claimed
  pub grant_unclaimed : IsUnclaimedGrant ask.from ask.number (after_granted segs ask run)
  grant_unclaimed =
      let generation : ℕ = length segs.log + 1 in
      let test : Segment → Bool = λ segment. (segment.row.generation == generation) && is_agreed segment.state in
      subst (λ grant. IsSomeAnd grant (λ g. IsTrue (is_unclaimed (after_granted segs ask run).segments g))) (sym grant_is)
      (any_made test (agreed_segment generation ask.heap) segs.segments run generation 0 plan.planned.listed.some
      (ap test (agreed_own ask.heap (row_of run generation 0))
      ∙ and_from (generation == generation) true (eq-eqb generation generation refl) refl))

  -- and then its heap owns the run
  pub grant_owned : OwnsRun ask.heap run (after_claim ask.from ask.number (after_granted segs ask run))
  grant_owned =
      let generation : ℕ = length segs.log + 1 in
      subst (λ grant. OwnsRun ask.heap run (claimed_grant (after_granted segs ask run) grant)) (sym grant_is)
      (record {
        some = plan.planned.listed.some;
        owned = λ n below.
            any_mapped (is_owned_at ask.heap run n) (claimed_segment generation)
            (map (agreed_segment generation ask.heap) (segs.segments ++ map (segment_of Opened) (rows_of run generation)))
            ∙ any_made (λ segment. is_owned_at ask.heap run n (claimed_segment generation segment)) (agreed_segment generation ask.heap)
            segs.segments run generation n below
            (ap (λ segment. is_owned_at ask.heap run n (claimed_segment generation segment)) (agreed_own ask.heap (row_of run generation n))
            ∙ (ap (is_owned_at ask.heap run n) (claimed_own ask.heap (row_of run generation n)) ∙ owned_own ask.heap generation n run));
      })

-- a claim opens and ends no growth
pub claimed_growth : (segs : SegsView) (grant : Option ℕ) → (claimed_grant segs grant).growth ≡ segs.growth
claimed_growth segs None = refl
claimed_growth segs (Some generation) = refl
