-- The options of an accepted line: the socket is below 32, numbers have 64 bits, flags have 32, and a heap excludes a socket.
use Rattle.std.proofs.Common.{◌≡◌, ℕ, ◌<◌, ◌≤◌, ◌-◌, ◌^◌, Bool, true, false, ◌||◌, List, [], ◌∷◌, refl, cond, arith}
use Rattle.std.specs.Prelude.{Option, Some, None, IfSome, codes, is_some, nat_le, unwrap_or, nat_lt, length}
use Rattle.std.specs.Option.{option_map, option_and_then}
use Rattle.std.proofs.lemmas.Bool.Decides.{nat_tests}
use Rattle.hp_script.specs.Part.{Part, behind, is_word, has_front}
use Rattle.hp_script.specs.Numbers.{number}
use Rattle.hp_script.specs.ShapeWords.Options.{nothing_given, socket_of, socket_choice, number_given, with_socket, with_heap, with_align, with_bound, with_flags, with_option, given_by, settled, options_of}
use Rattle.hp_script.specs.Facts.{IsSocketChoice, AreOptions}
use Rattle.hp_script.specs.declared.given.Given.{Given}
use Rattle.hp_script.specs.declared.options.Options.{Options}
use Rattle.hp_script.specs.declared.options.SocketChoice.{SocketChoice}
use Rattle.hp_script.specs.declared.options.SocketChoice.TheVariants.{Any, Number}

-- the options given so far
record IsValidGiven (given : Given) : Type 0 where
  socket : IfSome given.socket IsSocketChoice
  apart : IfSome given.heap (λ heap. given.socket ≡ None)
  align : IfSome given.align (λ n. n < 2 ^ 64)
  bound : IfSome given.bound (λ n. n < 2 ^ 64)
  flags : IfSome given.flags (λ n. n < 2 ^ 32)

mapped : {A B : Type 0} (f : A → B) (o : Option A) (P : A → Type 0) (Q : B → Type 0) → IfSome o P → ((x : A) → P x → Q (f x)) → IfSome (option_map f o) Q
mapped f None P Q holds then = tt
mapped f (Some x) P Q holds then = then x holds

neither : (first second : Bool) → (first || second) ≡ false → (first ≡ false) × (second ≡ false)
neither true second is = absurd cc
neither false second is = (refl, is)

absent : {A : Type 0} (o : Option A) → is_some o ≡ false → o ≡ None
absent None is = refl
absent (Some x) is = absurd cc

none_given : {A : Type 0} (o : Option A) (P : A → Type 0) → o ≡ None → IfSome o P
none_given o P none = rw none tt

socket_within : (n : Option ℕ) → IfSome (socket_of n) IsSocketChoice
socket_within None = tt
socket_within (Some n) = chosen (nat_le n 31) refl
  where
    chosen : (test : Bool) → nat_le n 31 ≡ test → IfSome (cond test (Some (Number n)) None) IsSocketChoice
    chosen true is = grind (arith, nat_tests, is)
    chosen false is = tt

choice_within : (value : Part) → IfSome (socket_choice value) IsSocketChoice
choice_within value = chosen (is_word (codes "any") value)
  where
    chosen : (test : Bool) → IfSome (cond test (Some Any) (socket_of (number value.text))) IsSocketChoice
    chosen true = tt
    chosen false = socket_within (number value.text)

number_within : (before : Bool) (most : ℕ) (value : Part) → IfSome (number_given before most value) (λ n. n ≤ most)
number_within true most value = tt
number_within false most value = found (number value.text)
  where
    chosen : (n : ℕ) (test : Bool) → nat_le n most ≡ test → IfSome (cond test (Some n) None) (λ some. some ≤ most)
    chosen n true is = grind (arith, nat_tests, is)
    chosen n false is = tt

    found : (o : Option ℕ) → IfSome (option_and_then (λ n. cond (nat_le n most) (Some n) None) o) (λ n. n ≤ most)
    found None = tt
    found (Some n) = chosen n (nat_le n most) refl

module _ (given : Given) (value : Part) (valid : IsValidGiven given) where
  with_socket_valid : IfSome (with_socket given value) IsValidGiven
  unfolding with_socket
  with_socket_valid = chosen (is_some given.socket || is_some given.heap) refl
    where
      chosen : (test : Bool) → (is_some given.socket || is_some given.heap) ≡ test
          → IfSome (cond test None (option_map (λ socket. record given { socket = Some socket }) (socket_choice value))) IsValidGiven
      chosen true is = tt
      chosen false is =
          let none = absent given.heap (neither (is_some given.socket) (is_some given.heap) is).1 in
          mapped (λ socket. record given { socket = Some socket }) (socket_choice value) IsSocketChoice IsValidGiven (choice_within value) (λ socket within.
          record { socket = within; apart = none_given given.heap _ none; align = valid.align; bound = valid.bound; flags = valid.flags })

  with_heap_valid : IfSome (with_heap given value) IsValidGiven
  unfolding with_heap
  with_heap_valid = chosen (is_some given.socket || (is_some given.heap || nat_lt (length value.text) 1)) refl
    where
      chosen : (test : Bool) → (is_some given.socket || (is_some given.heap || nat_lt (length value.text) 1)) ≡ test
          → IfSome (cond test None (Some (record given { heap = Some value }))) IsValidGiven
      chosen true is = tt
      chosen false is =
          let none = absent given.socket (neither (is_some given.socket) (is_some given.heap || nat_lt (length value.text) 1) is).0 in
          record { socket = valid.socket; apart = none; align = valid.align; bound = valid.bound; flags = valid.flags }

  with_align_valid : IfSome (with_align given value) IsValidGiven
  unfolding with_align
  with_align_valid =
      mapped (λ n. record given { align = Some n }) (number_given (is_some given.align) (2 ^ 64 - 1) value) (λ n. n ≤ 2 ^ 64 - 1) IsValidGiven (number_within (is_some given.align) (2 ^ 64 - 1) value)
      (λ n low. record { socket = valid.socket; apart = valid.apart; align = omega (arith, low); bound = valid.bound; flags = valid.flags })

  with_bound_valid : IfSome (with_bound given value) IsValidGiven
  unfolding with_bound
  with_bound_valid =
      mapped (λ n. record given { bound = Some n }) (number_given (is_some given.bound) (2 ^ 64 - 1) value) (λ n. n ≤ 2 ^ 64 - 1) IsValidGiven (number_within (is_some given.bound) (2 ^ 64 - 1) value)
      (λ n low. record { socket = valid.socket; apart = valid.apart; align = valid.align; bound = omega (arith, low); flags = valid.flags })

  with_flags_valid : IfSome (with_flags given value) IsValidGiven
  unfolding with_flags
  with_flags_valid =
      mapped (λ n. record given { flags = Some n }) (number_given (is_some given.flags) (2 ^ 32 - 1) value) (λ n. n ≤ 2 ^ 32 - 1) IsValidGiven (number_within (is_some given.flags) (2 ^ 32 - 1) value)
      (λ n low. record { socket = valid.socket; apart = valid.apart; align = valid.align; bound = valid.bound; flags = omega (arith, low) })

either : (test : Bool) (some other : Option Given) → IfSome some IsValidGiven → IfSome other IsValidGiven → IfSome (cond test some other) IsValidGiven
either true some other first second = first
either false some other first second = second

with_option_valid : (given : Given) (word : Part) → IsValidGiven given → IfSome (with_option given word) IsValidGiven
unfolding with_option
with_option_valid given word valid =
    either (has_front (codes "socket=") word) _ _ (with_socket_valid given (behind 7 word) valid)
    (either (has_front (codes "heap=") word) _ _ (with_heap_valid given (behind 5 word) valid)
    (either (has_front (codes "align=") word) _ _ (with_align_valid given (behind 6 word) valid)
    (either (has_front (codes "bound=") word) _ _ (with_bound_valid given (behind 6 word) valid)
    (either (has_front (codes "flags=") word) _ _ (with_flags_valid given (behind 6 word) valid) tt))))

given_valid : (words : List Part) (given : Given) → IsValidGiven given → IfSome (given_by given words) IsValidGiven
given_valid [] given valid = valid
given_valid (word ∷ words) given valid = further (with_option given word) (with_option_valid given word valid) (λ more holds. given_valid words more holds)
  where
    further : (step : Option Given) → IfSome step IsValidGiven → ((more : Given) → IsValidGiven more → IfSome (given_by more words) IsValidGiven)
        → IfSome (option_and_then (λ more. given_by more words) step) IsValidGiven
    further None holds rest = tt
    further (Some more) holds rest = rest more holds

or_zero : (o : Option ℕ) (bits : ℕ) → IfSome o (λ n. n < 2 ^ bits) → 0 < 2 ^ bits → unwrap_or o 0 < 2 ^ bits
or_zero None bits within some = some
or_zero (Some n) bits within some = within

or_any : (o : Option SocketChoice) → IfSome o IsSocketChoice → IsSocketChoice (unwrap_or o Any)
or_any None within = tt
or_any (Some choice) within = within

still_any : (heap : Option Part) (socket : Option SocketChoice) → IfSome heap (λ _. socket ≡ None) → IfSome heap (λ _. unwrap_or socket Any ≡ Any)
still_any None socket apart = tt
still_any (Some heap) socket apart = rw apart refl

-- the options of an accepted line
pub options_valid : (words : List Part) (options : Options) → options_of words ≡ Some options → AreOptions options
unfolding options_of
options_valid words options same =
    chosen (given_by nothing_given words) (given_valid words nothing_given (record { socket = tt; apart = tt; align = tt; bound = tt; flags = tt })) same
  where
    chosen : (o : Option Given) → IfSome o IsValidGiven → option_map settled o ≡ Some options → AreOptions options
    chosen None valid same = absurd cc
    chosen (Some given) valid same =
        let is : settled given ≡ options = cc in
        rw (← is) (record {
          socket = or_any given.socket valid.socket;
          apart = still_any given.heap given.socket valid.apart;
          align = or_zero given.align 64 valid.align (omega arith);
          bound = or_zero given.bound 64 valid.bound (omega arith);
          flags = or_zero given.flags 32 valid.flags (omega arith);
        })
