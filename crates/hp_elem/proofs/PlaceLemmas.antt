-- Where elements stand by address, and the gaps around them.
use Rattle.std.proofs.Common.{◌≡◌, ℕ, ◌<◌, ◌≤◌, List, [], ◌∷◌, ◌++◌, true, false, Bool, Option, Some, None, nat_eq, nat_lt, refl, sym, ap, ◌∙◌, cond, arith, inl, inr, eq-eqb}
use Rattle.std.proofs.lemmas.Bool.{cases_Bool, cond-true, cond-false, eqb-true, eqb-false, lt-ltb, le-ltb}
use Rattle.std.specs.List.{AllByRecursion}
use Rattle.hp_base.specs.declared.span.Span.{Span}
use Rattle.hp_chain.specs.Chain.{Keyed, first_key}
use Rattle.hp_elem.specs.Items.{Items, end_of, after_add}
use Rattle.hp_elem.specs.Order.{IsRising, AreDisjoint, greatest_end}
use Rattle.hp_elem.specs.Index.{start_key, gap, gap_starts, reach}
use Rattle.hp_elem.specs.Gaps.{SplitsAt, IsCutAt, without_first, at_first}
use Rattle.hp_elem.proofs.OrderLemmas.{reach_above}
use Rattle.hp_elem.proofs.StartLemmas.{starts-added}
use Rattle.hp_elem.proofs.GapLemmas.{gaps-append, gap-none, gap-some}

-- the elements below a new one, and those above it
pub record IsCutBy (span : Span) (from : ℕ) (items : Items) : Type 0 where
  pub low : Items
  pub high : Items
  pub is : items ≡ low ++ high
  pub reached : reach from low ≤ span.addr
  pub above : IsRising (end_of span) high

pub cut_by : (span : Span) (from : ℕ) (items : Items) → from ≤ span.addr → end_of span ≤ greatest_end → AllByRecursion (λ e. AreDisjoint span e.value) items → IsRising from items
    → IsCutBy span from items
cut_by span from [] begins ends beside rising = record { low = []; high = []; is = refl; reached = begins; above = ends }
cut_by span from (x ∷ xs) begins ends beside rising = elim beside.0 [
  | inl below ↦ record { low = []; high = x ∷ xs; is = refl; reached = begins; above = (below, rising.1, rising.2) }
  | inr above ↦
      let rest = cut_by span (end_of x.value) xs above ends beside.1 rising.2 in
      record { low = x ∷ rest.low; high = rest.high; is = ap (λ (zs : Items). x ∷ zs) rest.is; reached = rest.reached; above = rest.above }
]

-- a new element stands between the two
pub after_add-is : (from : ℕ) (low : Items) (new : Keyed Span) (high : Items) → IsRising from low → reach from low ≤ new.value.addr → 1 ≤ new.value.whole → IsRising (end_of new.value) high
    → after_add new (low ++ high) ≡ low ++ new ∷ high
after_add-is from [] new [] rising reached whole above = refl
after_add-is from [] new (h ∷ hs) rising reached whole above =
    cond-true (nat_lt new.value.addr h.value.addr) (new ∷ h ∷ hs) (h ∷ after_add new hs) (lt-ltb new.value.addr h.value.addr (omega (arith, whole, above.0)))
after_add-is from (x ∷ xs) new high rising reached whole above =
    let below : x.value.addr ≤ new.value.addr = omega (arith, reached, rising.1, reach_above (end_of x.value) xs rising.2) in
    cond-false (nat_lt new.value.addr x.value.addr) (new ∷ x ∷ (xs ++ high)) (x ∷ after_add new (xs ++ high)) (le-ltb new.value.addr x.value.addr below)
    ∙ ap (λ (zs : Items). x ∷ zs) (after_add-is (end_of x.value) xs new high rising.2 reached whole above)

-- starts of elements below an address, and at or above it
all_append : (P : ℕ → Type 0) (xs ys : List ℕ) → AllByRecursion P xs → AllByRecursion P ys → AllByRecursion P (xs ++ ys)
all_append P [] ys front back = back
all_append P (x ∷ xs) ys front back = (front.0, all_append P xs ys front.1 back)

gap_all : (P : ℕ → Type 0) (before addr : ℕ) → P addr → AllByRecursion P (gap before addr)
gap_all P before addr holds = elim (nat_lt before addr) as (λ b. AllByRecursion P (cond b (addr ∷ []) [])) [ true ↦ (holds, tt) | false ↦ tt ]

pub gaps_below : (from : ℕ) (xs : Items) (addr : ℕ) → IsRising from xs → reach from xs ≤ addr → AllByRecursion (λ start. start < addr) (gap_starts from xs)
gaps_below from [] addr rising reached = tt
gaps_below from (x ∷ xs) addr rising reached =
    let below : x.value.addr < addr = omega (arith, reached, rising.1, reach_above (end_of x.value) xs rising.2) in
    all_append (λ start. start < addr) (gap from x.value.addr) (gap_starts (end_of x.value) xs) (gap_all (λ start. start < addr) from x.value.addr below)
    (gaps_below (end_of x.value) xs addr rising.2 reached)

pub gaps_above : (from least : ℕ) (xs : Items) (addr : ℕ) → IsRising least xs → addr ≤ least → AllByRecursion (λ start. addr ≤ start) (gap_starts from xs)
gaps_above from least [] addr rising above = tt
gaps_above from least (x ∷ xs) addr rising above =
    let here : addr ≤ x.value.addr = omega (arith, above, rising.0) in
    let later : addr ≤ end_of x.value = omega (arith, here) in
    all_append (λ start. addr ≤ start) (gap from x.value.addr) (gap_starts (end_of x.value) xs) (gap_all (λ start. addr ≤ start) from x.value.addr here)
    (gaps_above (end_of x.value) (end_of x.value) xs addr rising.2 later)

-- so their gaps are cut where the address belongs
pub place_is : (gaps : List ℕ) (low high : Items) (addr least place : ℕ) → gaps ≡ gap_starts 0 (low ++ high) → IsRising 0 low → reach 0 low ≤ addr → IsRising least high → addr ≤ least
    → SplitsAt gaps addr place → IsCutAt gaps (gap_starts 0 low) (gap_starts (reach 0 low) high) place
place_is gaps low high addr least place is rising reached above within splits =
    let cut = is ∙ gaps-append 0 low high in
    record { is = cut; at = splits (gap_starts 0 low) (gap_starts (reach 0 low) high) cut (gaps_below 0 low addr rising reached) (gaps_above (reach 0 low) least high addr above within) }

-- an element that a gap lies in front of has the first of the starts
pub gaps_first : (from : ℕ) (h : Keyed Span) (hs : Items) → from < h.value.addr → gap_starts from (h ∷ hs) ≡ h.value.addr ∷ gap_starts (end_of h.value) hs
gaps_first from h hs below = ap (λ (zs : List ℕ). zs ++ gap_starts (end_of h.value) hs) (gap-some from h.value.addr below)

pub first_is : (low high : Items) (before : ℕ) → IsRising 0 (low ++ high) → IsRising before high → reach 0 low < before
    → at_first (start_key (low ++ high)) (gap_starts (reach 0 low) high) ≡ first_key high None
first_is low [] before rising above below = refl
first_is low (h ∷ hs) before rising above below =
    ap (λ (gs : List ℕ). at_first (start_key (low ++ h ∷ hs)) gs) (gaps_first (reach 0 low) h hs (omega (arith, above.0, below)))
    ∙ ap (λ (table : ℕ → Option ℕ). table h.value.addr) (starts-added low h hs rising)
    ∙ cond-true (nat_eq h.value.addr h.value.addr) (Some h.key) (start_key (low ++ hs) h.value.addr) (eq-eqb h.value.addr h.value.addr refl)

-- a gap closes where an element comes in front of the first that touches it
pub closed : (before end : ℕ) (high : Items) → before < end → IsRising end high → without_first end (gap_starts before high) ≡ gap_starts end high
closed before end [] below rising = refl
closed before end (h ∷ hs) below rising =
    let later : List ℕ = gap_starts (end_of h.value) hs in
    ap (λ (gs : List ℕ). without_first end gs) (gaps_first before h hs (omega (arith, below, rising.0)))
    ∙ elim (cases_Bool (nat_eq h.value.addr end)) [
      | inl same ↦
          let is : h.value.addr ≡ end = eqb-true h.value.addr end same in
          cond-true (nat_eq h.value.addr end) later (h.value.addr ∷ later) same
          ∙ sym (ap (λ (zs : List ℕ). zs ++ later) (gap-none end h.value.addr (omega (arith, is))))
      | inr differs ↦
          let apart : h.value.addr ≡ end → ⊥ = eqb-false h.value.addr end differs in
          let above : end < h.value.addr = omega (arith, rising.0, apart) in
          cond-false (nat_eq h.value.addr end) later (h.value.addr ∷ later) differs
          ∙ sym (gaps_first end h hs above)
    ]

-- a start below all is not among them
kept : (addr end : ℕ) (xs : Items) → addr < end → IsRising end xs → without_first addr (gap_starts end xs) ≡ gap_starts end xs
kept addr end [] below rising = refl
kept addr end (x ∷ xs) below rising = elim (cases_Bool (nat_lt end x.value.addr)) [
  | inl gapped ↦
      let differs : nat_eq x.value.addr addr ≡ false = Rattle.std.proofs.lemmas.Bool.ne_eqb x.value.addr addr (λ same. omega (arith, same, below, rising.0)) in
      let whole = gaps_first end x xs (Rattle.std.proofs.lemmas.Bool.ltb-true end x.value.addr gapped) in
      ap (λ (gs : List ℕ). without_first addr gs) whole
      ∙ cond-false (nat_eq x.value.addr addr) (gap_starts (end_of x.value) xs) (x.value.addr ∷ gap_starts (end_of x.value) xs) differs ∙ sym whole
  | inr within ↦
      let none : gap end x.value.addr ≡ [] = ap (λ (b : Bool). cond b (x.value.addr ∷ []) []) within in
      let whole : gap_starts end (x ∷ xs) ≡ gap_starts (end_of x.value) xs = ap (λ (zs : List ℕ). zs ++ gap_starts (end_of x.value) xs) none in
      ap (λ (gs : List ℕ). without_first addr gs) whole ∙ kept addr (end_of x.value) xs (omega (arith, below, rising.0)) rising.2 ∙ sym whole
]

-- and where an element goes that had a gap in front of it, that start is out
pub dropped : (before : ℕ) (e : Keyed Span) (ys : Items) → before ≤ e.value.addr → 1 ≤ e.value.whole → IsRising (end_of e.value) ys
    → without_first e.value.addr (gap_starts before (e ∷ ys)) ≡ gap_starts (end_of e.value) ys
dropped before e [] begins whole rising = elim (cases_Bool (nat_lt before e.value.addr)) [
  | inl below ↦
      ap (λ (b : Bool). without_first e.value.addr (cond b (e.value.addr ∷ []) [] ++ [])) below
      ∙ cond-true (nat_eq e.value.addr e.value.addr) [] (e.value.addr ∷ []) (eq-eqb e.value.addr e.value.addr refl)
  | inr within ↦ ap (λ (b : Bool). without_first e.value.addr (cond b (e.value.addr ∷ []) [] ++ [])) within
]
dropped before e (y ∷ ys) begins whole rising =
    let rest : List ℕ = gap_starts (end_of e.value) (y ∷ ys) in
    let above : e.value.addr < y.value.addr = omega (arith, whole, rising.0) in
    elim (cases_Bool (nat_lt before e.value.addr)) [
      | inl below ↦
          ap (λ (b : Bool). without_first e.value.addr (cond b (e.value.addr ∷ []) [] ++ rest)) below
          ∙ cond-true (nat_eq e.value.addr e.value.addr) rest (e.value.addr ∷ rest) (eq-eqb e.value.addr e.value.addr refl)
      | inr within ↦
          ap (λ (b : Bool). without_first e.value.addr (cond b (e.value.addr ∷ []) [] ++ rest)) within
          ∙ kept e.value.addr (end_of e.value) (y ∷ ys) (omega (arith, whole)) rising
    ]
