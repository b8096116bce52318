-- Where a run stands among others by rising address.
use Rattle.std.proofs.Common.{◌≡◌, ◌∙◌, ℕ, zero, suc, ◌<◌, ◌≤◌, List, [], ◌∷◌, length, refl, ap, arith, if◌then◌else◌}
use Rattle.std.specs.List.{insert}
use Rattle.std.specs.List.Sorted.{IsPartitionPoint}
use Rattle.std.proofs.lemmas.Bool.{le-ltb, lt-ltb}
use Rattle.hp_base.specs.declared.row.Run.{Run}
use Rattle.hp_segs.specs.Steps.{insert_by_address}

-- after those that are not higher, and before those that are
pub insert_at : (run : Run) (addr : ℕ) → run.addr ≡ addr → (runs : List Run) (place : ℕ) → place ≤ length runs
    → IsPartitionPoint (λ other. other.addr ≤ addr) (λ other. addr < other.addr) runs place
    → insert_by_address run runs ≡ insert runs place run
insert_at run addr same [] zero within point = refl
insert_at run addr same [] (suc place) within point = absurd (omega (arith, within))
insert_at run addr same (other ∷ runs) zero within point =
    let higher : addr < other.addr = point.1 0 other (omega arith) (omega arith) in
    ap (λ lower. if lower then run ∷ other ∷ runs else other ∷ insert_by_address run runs)
    (lt-ltb run.addr other.addr (omega (arith, higher, same)))
insert_at run addr same (other ∷ runs) (suc place) within point =
    let not_higher : other.addr ≤ addr = point.0 0 other (omega arith) (omega arith) in
    ap (λ lower. if lower then run ∷ other ∷ runs else other ∷ insert_by_address run runs)
    (le-ltb run.addr other.addr (omega (arith, not_higher, same)))
    ∙ ap (λ rest. other ∷ rest)
    (insert_at run addr same runs place (omega (arith, within)) (
      λ k d from below. point.0 (suc k) d (omega arith) (omega (arith, below)),
      λ k d from below. point.1 (suc k) d (omega (arith, from)) (omega (arith, below)),
    ))
