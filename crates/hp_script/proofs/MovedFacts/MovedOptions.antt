-- The options of a line are read alike wherever it stands.
use Rattle.std.proofs.Common.{◌≡◌, ℕ, ◌-◌, ◌^◌, Bool, true, false, ◌||◌, List, [], ◌∷◌, length, map, refl, cond}
use Rattle.std.specs.Prelude.{Option, Some, None, is_some, nat_lt, codes}
use Rattle.std.specs.Option.{option_map, option_and_then, ok_or}
use Rattle.hp_script.specs.Part.{Part, behind, has_front}
use Rattle.hp_script.specs.ShapeWords.Options.{socket_choice, number_given, with_socket, with_heap, with_align, with_bound, with_flags, with_option, given_by, nothing_given, settled, options_of}
use Rattle.hp_script.specs.declared.bad_kind.BadKind.TheVariants as bad
use Rattle.hp_script.specs.declared.given.Given.{Given}
use Rattle.hp_script.specs.declared.options.Options.{Options}
use Rattle.hp_script.proofs.AlikeLemmas.{Alike, Both, AlikeOptions, SameGiven, choose, moved}

module _ (base : ℕ × ℕ) where
  socket_moved : (given other : Given) (value : Part) → SameGiven given other → Both SameGiven (with_socket given value) (with_socket other (moved base value))
  unfolding with_socket
  socket_moved given other value same = rw (same.socket, same.heap) (chosen (is_some given.socket || is_some given.heap) (socket_choice value))
    where
      chosen : (test : Bool) (choice : Option _) → Both SameGiven (cond test None (option_map (λ socket. record given { socket = Some socket }) choice)) (cond test None (option_map (λ socket. record other { socket = Some socket }) choice))
      chosen true choice = tt
      chosen false None = tt
      chosen false (Some socket) = record { socket = refl; heap = same.heap; align = same.align; bound = same.bound; flags = same.flags }

  heap_moved : (given other : Given) (value : Part) → SameGiven given other → Both SameGiven (with_heap given value) (with_heap other (moved base value))
  unfolding with_heap
  heap_moved given other value same = rw (same.socket, same.heap) (chosen (is_some given.socket || (is_some given.heap || nat_lt (length value.text) 1)))
    where
      chosen : (test : Bool) → Both SameGiven (cond test None (Some (record given { heap = Some value }))) (cond test None (Some (record other { socket = given.socket; heap = Some (moved base value) })))
      chosen true = tt
      chosen false = record { socket = refl; heap = refl; align = same.align; bound = same.bound; flags = same.flags }

  number_moved : (before : Bool) (most : ℕ) (value : Part) → number_given before most (moved base value) ≡ number_given before most value
  number_moved true most value = refl
  number_moved false most value = refl

  align_moved : (given other : Given) (value : Part) → SameGiven given other → Both SameGiven (with_align given value) (with_align other (moved base value))
  unfolding with_align
  align_moved given other value same = rw (same.align, number_moved (is_some given.align) (2 ^ 64 - 1) value) (chosen (number_given (is_some given.align) (2 ^ 64 - 1) value))
    where
      chosen : (n : Option ℕ) → Both SameGiven (option_map (λ n. record given { align = Some n }) n) (option_map (λ n. record other { align = Some n }) n)
      chosen None = tt
      chosen (Some n) = record { socket = same.socket; heap = same.heap; align = refl; bound = same.bound; flags = same.flags }

  bound_moved : (given other : Given) (value : Part) → SameGiven given other → Both SameGiven (with_bound given value) (with_bound other (moved base value))
  unfolding with_bound
  bound_moved given other value same = rw (same.bound, number_moved (is_some given.bound) (2 ^ 64 - 1) value) (chosen (number_given (is_some given.bound) (2 ^ 64 - 1) value))
    where
      chosen : (n : Option ℕ) → Both SameGiven (option_map (λ n. record given { bound = Some n }) n) (option_map (λ n. record other { bound = Some n }) n)
      chosen None = tt
      chosen (Some n) = record { socket = same.socket; heap = same.heap; align = same.align; bound = refl; flags = same.flags }

  flags_moved : (given other : Given) (value : Part) → SameGiven given other → Both SameGiven (with_flags given value) (with_flags other (moved base value))
  unfolding with_flags
  flags_moved given other value same = rw (same.flags, number_moved (is_some given.flags) (2 ^ 32 - 1) value) (chosen (number_given (is_some given.flags) (2 ^ 32 - 1) value))
    where
      chosen : (n : Option ℕ) → Both SameGiven (option_map (λ n. record given { flags = Some n }) n) (option_map (λ n. record other { flags = Some n }) n)
      chosen None = tt
      chosen (Some n) = record { socket = same.socket; heap = same.heap; align = same.align; bound = same.bound; flags = refl }

  option_moved : (given other : Given) (word : Part) → SameGiven given other → Both SameGiven (with_option given word) (with_option other (moved base word))
  unfolding with_option
  option_moved given other word same =
      choose SameGiven (has_front (codes "socket=") word) _ _ _ _ (socket_moved given other (behind 7 word) same)
      (choose SameGiven (has_front (codes "heap=") word) _ _ _ _ (heap_moved given other (behind 5 word) same)
      (choose SameGiven (has_front (codes "align=") word) _ _ _ _ (align_moved given other (behind 6 word) same)
      (choose SameGiven (has_front (codes "bound=") word) _ _ _ _ (bound_moved given other (behind 6 word) same)
      (choose SameGiven (has_front (codes "flags=") word) _ _ _ _ (flags_moved given other (behind 6 word) same) tt))))

  given_moved : (words : List Part) (given other : Given) → SameGiven given other → Both SameGiven (given_by given words) (given_by other (map (moved base) words))
  given_moved [] given other same = same
  given_moved (word ∷ words) given other same = further (with_option given word) (with_option other (moved base word)) (option_moved given other word same) (λ more again alike. given_moved words more again alike)
    where
      further : (one two : Option Given) → Both SameGiven one two → ((more again : Given) → SameGiven more again → Both SameGiven (given_by more words) (given_by again (map (moved base) words)))
          → Both SameGiven (option_and_then (λ more. given_by more words) one) (option_and_then (λ more. given_by more (map (moved base) words)) two)
      further None None alike rest = tt
      further None (Some y) alike rest = absurd alike
      further (Some x) None alike rest = absurd alike
      further (Some x) (Some y) alike rest = rest x y alike

  options_moved : (words : List Part) → Both AlikeOptions (options_of words) (options_of (map (moved base) words))
  unfolding options_of
  options_moved words = settle (given_by nothing_given words) (given_by nothing_given (map (moved base) words)) (given_moved words nothing_given nothing_given (record { socket = refl; heap = refl; align = refl; bound = refl; flags = refl }))
    where
      settle : (one two : Option Given) → Both SameGiven one two → Both AlikeOptions (option_map settled one) (option_map settled two)
      settle None None alike = tt
      settle None (Some y) alike = absurd alike
      settle (Some x) None alike = absurd alike
      settle (Some x) (Some y) alike = alike.heap

  pub given_options : (words : List Part)
      → Alike AlikeOptions (ok_or (options_of words) bad.Option) (ok_or (options_of (map (moved base) words)) bad.Option)
  given_options words = chosen (options_of words) (options_of (map (moved base) words)) (options_moved words)
    where
      chosen : (one two : Option Options) → Both AlikeOptions one two → Alike AlikeOptions (ok_or one bad.Option) (ok_or two bad.Option)
      chosen None None alike = refl
      chosen None (Some y) alike = absurd alike
      chosen (Some x) None alike = absurd alike
      chosen (Some x) (Some y) alike = alike
