-- What words ask for, by what each of them writes.
use Rattle.std.proofs.Common.{◌≡◌, ◌≢◌, ℕ, eqb, eq-eqb, ne_eqb, List, [], length, get_or, sym, ◌∙◌}
use Rattle.std.specs.Prelude.{Option, None}
use Rattle.std.proofs.lemmas.Bool.{cond-true, cond-false}
use Rattle.hp_command.specs.Words.{number_within, values_of}
use Rattle.hp_mempool.specs.declared.judging.TheConstants.{MAX_CACHE, MAX_OBJECTS}
use Rattle.hp_mempool.specs.declared.load.TheConstants.{MAX_ROUNDS, MAX_WORKERS}
use Rattle.hp_mempool.specs.Program.{load_from, load_of}

-- other than four values ask for nothing
pub wrong_count : (words : List (List ℕ)) (n : ℕ) → n ≡ length (values_of words) → n ≢ 4 → None ≡ load_of words
unfolding load_of
wrong_count words n is other =
    sym (cond-false (eqb (length (values_of words)) 4)
    (load_from (number_within 1 MAX_WORKERS (get_or (values_of words) 0 [])) (number_within 1 MAX_ROUNDS (get_or (values_of words) 1 []))
    (number_within 1 MAX_OBJECTS (get_or (values_of words) 2 [])) (number_within 0 MAX_CACHE (get_or (values_of words) 3 []))) None
    (ne_eqb (length (values_of words)) 4 (λ same. other (is ∙ same))))

-- four values ask for what they write
pub load_is : (words : List (List ℕ)) (n : ℕ) → n ≡ length (values_of words) → n ≡ 4
    → load_from (number_within 1 MAX_WORKERS (get_or (values_of words) 0 [])) (number_within 1 MAX_ROUNDS (get_or (values_of words) 1 []))
    (number_within 1 MAX_OBJECTS (get_or (values_of words) 2 [])) (number_within 0 MAX_CACHE (get_or (values_of words) 3 [])) ≡ load_of words
unfolding load_of
load_is words n is four =
    sym (cond-true (eqb (length (values_of words)) 4)
    (load_from (number_within 1 MAX_WORKERS (get_or (values_of words) 0 [])) (number_within 1 MAX_ROUNDS (get_or (values_of words) 1 []))
    (number_within 1 MAX_OBJECTS (get_or (values_of words) 2 [])) (number_within 0 MAX_CACHE (get_or (values_of words) 3 []))) None
    (eq-eqb (length (values_of words)) 4 (sym is ∙ four)))

pub load_by : (words : List (List ℕ)) (n : ℕ) (a b c d : Option ℕ) → n ≡ length (values_of words) → n ≡ 4 → a ≡ number_within 1 MAX_WORKERS (get_or (values_of words) 0 [])
    → b ≡ number_within 1 MAX_ROUNDS (get_or (values_of words) 1 []) → c ≡ number_within 1 MAX_OBJECTS (get_or (values_of words) 2 [])
    → d ≡ number_within 0 MAX_CACHE (get_or (values_of words) 3 []) → load_from a b c d ≡ load_of words
load_by words n a b c d is four first second third fourth = (λ i. load_from (first i) (second i) (third i) (fourth i)) ∙ load_is words n is four
