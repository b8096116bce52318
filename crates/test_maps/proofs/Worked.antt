-- Worked values: the logs of two pages, in a list of two pages of 2 MiB from the address 2^32 on.
use Rattle.std.proofs.Common.{◌≤◌, ◌<◌, ◌≡◌, ◌+◌, ℕ, zero, suc, List, [], ◌∷◌, length, refl, sym, subst, arith}
use Rattle.std.specs.List.{All}
use Rattle.std.proofs.lemmas.List.Elements.{All-cons, All-nil}
use Rattle.hp_base.specs.declared.row.Row.{Row}
use Rattle.hp_base.specs.declared.row.Run.{Run}
use Rattle.hp_log.specs.Log.{run_in, table_at}
use Rattle.hp_log.specs.Places.{ArePlacesApart, IsLogOf, IsRunOf, IsSmallPlace, slots_in}
use Rattle.hp_log.specs.Rows.{IsUnusedRun, IsUsedRun, rows_at}
use Rattle.hp_log.specs.declared.log_record.LogRecord.{LogRecord}
use Rattle.hp_log.specs.declared.log_record.LogRecord.TheVariants.{Add, Drop}
use Rattle.test_maps.specs.Known.{worked_lists, worked_place}

abbrev pub first_run : Run
first_run = record { list = 0; first = 0; count = 1; addr = 4294967296; page = 2097152; socket = 0 }

abbrev pub second_run : Run
second_run = record { list = 0; first = 1; count = 1; addr = 4297064448; page = 2097152; socket = 0 }

abbrev pub one_at_a_time : List LogRecord
one_at_a_time = Add first_run 0 ∷ (Drop first_run ∷ (Add second_run 0 ∷ []))

abbrev pub both : List LogRecord
both = Add first_run 0 ∷ (Add second_run 0 ∷ (Drop first_run ∷ []))

abbrev pub falling : List LogRecord
falling = Add second_run 0 ∷ (Add first_run 0 ∷ (Drop first_run ∷ []))

only_list : ArePlacesApart worked_lists
only_list zero zero place place' different here there = absurd (different refl)
only_list zero (suc other) place place' different here there = cc
only_list (suc list) other place place' different here there = cc

small : All IsSmallPlace worked_lists
small = All-cons IsSmallPlace worked_place [] (record { paged = omega arith; few = omega arith; beyond = omega arith }) (All-nil IsSmallPlace)

first_at : IsRunOf worked_lists first_run
first_at = record { place = worked_place; its_list = refl; within = omega arith; addr = refl; size = refl }

second_at : IsRunOf worked_lists second_run
second_at = record { place = worked_place; its_list = refl; within = omega arith; addr = refl; size = refl }

abbrev IsAt : LogRecord → Type 0
IsAt entry = IsRunOf worked_lists (run_in entry)

three_at : (a b c : LogRecord) → IsAt a → IsAt b → IsAt c → All IsAt (a ∷ (b ∷ (c ∷ [])))
three_at a b c at_a at_b at_c =
    All-cons IsAt a (b ∷ (c ∷ [])) at_a (All-cons IsAt b (c ∷ []) at_b (All-cons IsAt c [] at_c (All-nil IsAt)))

only_slot : (n : ℕ) → n < 1 → n ≡ 0
only_slot n below = omega (arith, below)

-- a run of one slot is unused, or used, as that slot is
unused_one : (rows : List Row) (run : Run) → run.count ≡ 1 → rows_at rows run.list (run.first + 0) ≡ 0 → IsUnusedRun rows run
unused_one rows run one none = record {
  unused = λ n below. subst (λ k. rows_at rows run.list (run.first + k) ≡ 0) (sym (only_slot n (subst (λ count. n < count) one below))) none;
}

used_one : (rows : List Row) (run : Run) → run.count ≡ 1 → rows_at rows run.list (run.first + 0) ≡ 1 → IsUsedRun rows run
used_one rows run one here = record {
  used = λ n below. subst (λ k. rows_at rows run.list (run.first + k) ≡ 1) (sym (only_slot n (subst (λ count. n < count) one below))) here;
}

few_one : (n : ℕ) → length (table_at one_at_a_time n) ≤ slots_in worked_lists
few_one zero = omega arith
few_one (suc zero) = omega arith
few_one (suc (suc zero)) = omega arith
few_one (suc (suc (suc zero))) = omega arith
few_one (suc (suc (suc (suc n)))) = omega arith

few_both : (n : ℕ) → length (table_at both n) ≤ slots_in worked_lists
few_both zero = omega arith
few_both (suc zero) = omega arith
few_both (suc (suc zero)) = omega arith
few_both (suc (suc (suc zero))) = omega arith
few_both (suc (suc (suc (suc n)))) = omega arith

few_falling : (n : ℕ) → length (table_at falling n) ≤ slots_in worked_lists
few_falling zero = omega arith
few_falling (suc zero) = omega arith
few_falling (suc (suc zero)) = omega arith
few_falling (suc (suc (suc zero))) = omega arith
few_falling (suc (suc (suc (suc n)))) = omega arith

pub log_one_at_a_time : IsLogOf worked_lists one_at_a_time
log_one_at_a_time = record {
  formed = (
    unused_one (table_at one_at_a_time 0) first_run refl refl,
    (
      used_one (table_at one_at_a_time 1) first_run refl refl,
      (unused_one (table_at one_at_a_time 2) second_run refl refl, tt),
    ),
  );
  runs = three_at (Add first_run 0) (Drop first_run) (Add second_run 0) first_at first_at second_at;
  small = small;
  apart = only_list;
  fits = few_one;
}

pub log_both : IsLogOf worked_lists both
log_both = record {
  formed = (
    unused_one (table_at both 0) first_run refl refl,
    (
      unused_one (table_at both 1) second_run refl refl,
      (used_one (table_at both 2) first_run refl refl, tt),
    ),
  );
  runs = three_at (Add first_run 0) (Add second_run 0) (Drop first_run) first_at second_at first_at;
  small = small;
  apart = only_list;
  fits = few_both;
}

pub log_falling : IsLogOf worked_lists falling
log_falling = record {
  formed = (
    unused_one (table_at falling 0) second_run refl refl,
    (
      unused_one (table_at falling 1) first_run refl refl,
      (used_one (table_at falling 2) first_run refl refl, tt),
    ),
  );
  runs = three_at (Add second_run 0) (Add first_run 0) (Drop first_run) second_at first_at first_at;
  small = small;
  apart = only_list;
  fits = few_falling;
}
