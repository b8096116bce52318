-- Outcomes beside the same number of records: where the last of these is the Add of a growth that fails or is granted, one alone is
-- logged there. What one outcome or record more leaves of that.
use Rattle.std.proofs.Common.{◌≡◌, ◌∙◌, ◌⊎◌, ℕ, zero, suc, ◌+◌, ◌-◌, ◌<◌, ◌≤◌, true, false, List, [], ◌∷◌, ◌++◌, length, Option, Some, None, IfSome, inl, inr, refl, ap, sym, subst, arith}
use Rattle.std.specs.List.{slice_get}
use Rattle.std.proofs.lemmas.Option.{same_Some, slice_get_within}
use Rattle.hp_base.specs.declared.pool_line.PoolLine.{PoolLine}
use Rattle.hp_base.specs.declared.row.Run.{Run}
use Rattle.hp_log.specs.declared.log_record.LogRecord.{LogRecord}
use Rattle.hp_log.specs.declared.log_record.LogRecord.TheVariants.{Add, Drop}
use Rattle.hp_segs.specs.Causes.{AllCaused, IsCaused}
use Rattle.hp_segs.specs.SegsView.{granted_by, is_grant_or_refusal}
use Rattle.hp_segs.specs.SoundAsks.{AreSettled, grants, is_granted}
use Rattle.hp_segs.specs.declared.growth.Growth.{Growth}
use Rattle.hp_segs.specs.declared.outcome.AskLog.{AskLog}
use Rattle.hp_segs.proofs.AskFacts.Settled.{get_before, granted_before, granted_beside}

-- the record of that generation is an Add that is not granted
pub record IsUngrantedAdd (log : List LogRecord) (asks : List AskLog) (generation : ℕ) : Type 0 where
  pub some : 0 < generation
  pub run : Run
  pub heap : ℕ
  pub added : slice_get log (generation - 1) ≡ Some (Add run heap)
  pub ungranted : is_granted asks generation ≡ false

-- so many records end with no such Add, and the outcome grants nothing
pub record IsLevel (log : List LogRecord) (asks : List AskLog) (at : ℕ) (later : AskLog) : Type 0 where
  pub kept : IsUngrantedAdd log asks at → ⊥
  pub ungranted : granted_by later.outcome ≡ None

-- where a grant or a refusal stands beside as many records as an earlier one, from a place of the outcomes on, it is so
abbrev pub AreApart : ℕ → List LogRecord → List AskLog → Type 0
AreApart base log asks =
    (first later : ℕ) (x y : AskLog) → base ≤ first → slice_get asks first ≡ Some x → slice_get asks later ≡ Some y → first < later
    → is_grant_or_refusal x.outcome ≡ true → is_grant_or_refusal y.outcome ≡ true → x.at ≡ y.at → IsLevel log asks x.at y

-- no grant and no refusal stands beside so many records
abbrev pub AreElsewhere : List AskLog → ℕ → Type 0
AreElsewhere asks generation =
    (place : ℕ) (x : AskLog) → slice_get asks place ≡ Some x → is_grant_or_refusal x.outcome ≡ true → x.at ≡ generation → ⊥

-- what stands at a place with one more after the others
pub pushed_at : {X : Type 0} (xs : List X) (x y : X) (place : ℕ) → slice_get (xs ++ x ∷ []) place ≡ Some y
    → (slice_get xs place ≡ Some y) ⊎ ((place ≡ length xs) × (x ≡ y))
pushed_at [] x y zero here = inr (refl, same_Some x y here)
pushed_at [] x y (suc place) here = cc
pushed_at (first ∷ xs) x y zero here = inl here
pushed_at (first ∷ xs) x y (suc place) here = elim (pushed_at xs x y place here) [
  | inl before ↦ inl before
  | inr last ↦ inr (ap suc last.0, last.1)
]

-- an outcome has its cause after some others
pub record HasItsCause (pools : List PoolLine) (log : List LogRecord) (entry : AskLog) : Type 0 where
  pub before : List AskLog
  pub is : IsCaused pools log before entry

pub caused_at : (pools : List PoolLine) (log : List LogRecord) (before asks : List AskLog) (place : ℕ) (entry : AskLog)
    → AllCaused pools log before asks → slice_get asks place ≡ Some entry → HasItsCause pools log entry
caused_at pools log before [] place entry caused here = cc
caused_at pools log before (first ∷ asks) zero entry caused here =
    record { before = before; is = subst (IsCaused pools log before) (same_Some first entry here) caused.0 }
caused_at pools log before (first ∷ asks) (suc place) entry caused here =
    caused_at pools log (before ++ first ∷ []) asks place entry caused.1 here

-- with one outcome more
pub ungranted_fewer : (log : List LogRecord) (asks : List AskLog) (entry : AskLog) (generation : ℕ)
    → IsUngrantedAdd log (asks ++ entry ∷ []) generation → IsUngrantedAdd log asks generation
ungranted_fewer log asks entry generation is = record {
  some = is.some;
  run = is.run;
  heap = is.heap;
  added = is.added;
  ungranted = (granted_before asks entry generation is.ungranted).0;
}

-- with records after
pub ungranted_before : (log more : List LogRecord) (asks : List AskLog) (generation : ℕ) → generation ≤ length log
    → IsUngrantedAdd (log ++ more) asks generation → IsUngrantedAdd log asks generation
ungranted_before log more asks generation within is = record {
  some = is.some;
  run = is.run;
  heap = is.heap;
  added = sym (get_before log more (generation - 1) (omega (arith, within, is.some))) ∙ is.added;
  ungranted = is.ungranted;
}

-- while no growth is open the last record is no such Add, where an outcome more that grants nothing leaves each Add settled
pub last_granted : (log : List LogRecord) (asks : List AskLog) (entry : AskLog) (generation : ℕ) → AreSettled log (asks ++ entry ∷ []) None
    → grants generation entry ≡ false → generation ≡ length log → IsUngrantedAdd log asks generation → ⊥
last_granted log asks entry generation settled none last is =
    let next : generation - 1 + 1 ≡ generation = omega (arith, is.some) in
    let off : is_granted (asks ++ entry ∷ []) (generation - 1 + 1) ≡ false =
    ap (is_granted (asks ++ entry ∷ [])) next ∙ granted_beside asks entry generation is.ungranted none in
    let dropped = settled (generation - 1) is.run is.heap is.added refl off in
    omega (arith, slice_get_within log (generation - 1 + 1) (Drop is.run) dropped, next, last)

-- records come after
pub apart_before : (base : ℕ) (log more : List LogRecord) (asks : List AskLog)
    → ((place : ℕ) (x : AskLog) → slice_get asks place ≡ Some x → x.at ≤ length log) → AreApart base log asks
    → AreApart base (log ++ more) asks
apart_before base log more asks within old first later x y from here there before shown shows same =
    let was = old first later x y from here there before shown shows same in
    record { kept = λ is. was.kept (ungranted_before log more asks x.at (within first x here) is); ungranted = was.ungranted }

level_more : (log : List LogRecord) (asks : List AskLog) (entry : AskLog) (at : ℕ) (later : AskLog) → IsLevel log asks at later
    → IsLevel log (asks ++ entry ∷ []) at later
level_more log asks entry at later was =
    record { kept = λ is. was.kept (ungranted_fewer log asks entry at is); ungranted = was.ungranted }

-- one outcome comes
module _ (base : ℕ) (log : List LogRecord) (asks : List AskLog) (entry : AskLog) (old : AreApart base log asks)
    (new : is_grant_or_refusal entry.outcome ≡ true → (place : ℕ) (x : AskLog) → slice_get asks place ≡ Some x
    → is_grant_or_refusal x.outcome ≡ true → x.at ≡ entry.at → IsLevel log asks x.at entry) where
  pub apart_push : AreApart base log (asks ++ entry ∷ [])
  apart_push first later x y from here there before shown shows same =
      elim (pushed_at asks entry y later there) [
        | inl early ↦ elim (pushed_at asks entry x first here) [
          | inl earlier ↦ level_more log asks entry x.at y (old first later x y from earlier early before shown shows same)
          | inr last ↦ absurd (omega (arith, last.0, before, slice_get_within asks later y early))
        ]
        | inr last ↦ elim (pushed_at asks entry x first here) [
          | inl earlier ↦
              subst (IsLevel log (asks ++ entry ∷ []) x.at) last.1
              (level_more log asks entry x.at entry
              (new (ap (λ (entry : AskLog). is_grant_or_refusal entry.outcome) last.1 ∙ shows) first x earlier shown
              (same ∙ ap (λ (entry : AskLog). entry.at) (sym last.1))))
          | inr own ↦ absurd (omega (arith, own.0, last.0, before))
        ]
      ]

pub elsewhere_push : (asks : List AskLog) (entry : AskLog) (generation : ℕ) → is_grant_or_refusal entry.outcome ≡ false
    → AreElsewhere asks generation
    → AreElsewhere (asks ++ entry ∷ []) generation
elsewhere_push asks entry generation none old place x here shown same =
    elim (pushed_at asks entry x place here) [
      | inl early ↦ old place x early shown same
      | inr last ↦
          let wrong : true ≡ false = sym shown ∙ (ap (λ (entry : AskLog). is_grant_or_refusal entry.outcome) (sym last.1) ∙ none) in
          cc
    ]

-- an outcome comes that is neither a grant nor a refusal
pub growth_elsewhere : (growth : Option Growth) (asks : List AskLog) (entry : AskLog) → is_grant_or_refusal entry.outcome ≡ false
    → IfSome growth (λ growth. AreElsewhere asks growth.generation)
    → IfSome growth (λ growth. AreElsewhere (asks ++ entry ∷ []) growth.generation)
growth_elsewhere None asks entry none old = tt
growth_elsewhere (Some growth) asks entry none old = elsewhere_push asks entry growth.generation none old
