-- The external heap that options name stands in one of their words.
use Rattle.std.proofs.Common.{◌≡◌, ℕ, ◌+◌, ◌-◌, ◌^◌, ◌≤◌, Bool, true, false, ◌&&◌, ◌||◌, List, [], ◌∷◌, length, drop, refl, ◌⊎◌, inl, inr, arith}
use Rattle.std.specs.Prelude.{Option, Some, None, IfSome, codes, nat_eq, nat_lt, is_some}
use Rattle.std.specs.Option.{option_map}
use Rattle.std.specs.List.{starts_with}
use Rattle.std.proofs.lemmas.List.{length-drop}
use denote.Ref.{Bor}
use Rattle.hp_script.specs.Part.{Part, behind, has_front}
use Rattle.hp_script.specs.ShapeWords.Options.{with_socket, with_heap, with_align, with_bound, with_flags, with_option, given_by, nothing_given, settled, options_of, socket_choice, number_given}
use Rattle.hp_script.specs.Spans.{AreSlices, heap_tokens}
use Rattle.hp_script.specs.declared.options.Options.{Options}
use Rattle.hp_script.specs.declared.given.Given.{Given}
use Rattle.hp_script.proofs.TokenFacts.SliceLemmas.{raise, bounds, behind_slice}

-- a text with a front is as long as the front
front_long : (front text : List ℕ) → starts_with nat_eq text front ≡ true → length front ≤ length text
front_long [] text begins = omega arith
front_long (x ∷ front) [] begins = absurd cc
front_long (x ∷ front) (y ∷ text) begins =
    let rest = front_long front text (second (nat_eq x y) (starts_with nat_eq text front) begins) in omega (arith, rest)
  where
    second : (some other : Bool) → (some && other) ≡ true → other ≡ true
    second true other both = both
    second false other both = absurd cc

-- an option leaves the heap, or gives it: what stands after `heap=`
abbrev pub KeepsOrGives : Given → Part → Given → Type 0
KeepsOrGives given word more = (more.heap ≡ given.heap) ⊎ ((5 ≤ length word.text) × (more.heap ≡ Some (behind 5 word)))

decide : (test : Bool) → (test ≡ true) ⊎ (test ≡ false)
decide true = inl refl
decide false = inr refl

present : {A : Type 0} (o : Option A) → ((x : A) × (o ≡ Some x)) ⊎ (o ≡ None)
present None = inr refl
present (Some x) = inl (x, refl)

socket_keeps : (given : Given) (word value : Part) → IfSome (with_socket given value) (KeepsOrGives given word)
unfolding with_socket
socket_keeps given word value =
    elim (decide (is_some given.socket || is_some given.heap)) [
      | inl placed ↦ rw placed tt
      | inr free ↦ rw free (
          elim (present (socket_choice value)) [ inr none ↦ rw none tt | inl socket ↦ rw socket.1 (inl refl) ])
    ]

heap_gives : (given : Given) (word : Part) → 5 ≤ length word.text → IfSome (with_heap given (behind 5 word)) (KeepsOrGives given word)
unfolding with_heap
heap_gives given word long =
    elim (decide (is_some given.socket || (is_some given.heap || nat_lt (length (drop 5 word.text)) 1)))
    [ inl placed ↦ rw placed tt | inr free ↦ rw free (inr (long, refl)) ]

align_keeps : (given : Given) (word value : Part) → IfSome (with_align given value) (KeepsOrGives given word)
unfolding with_align
align_keeps given word value =
    elim (present (number_given (is_some given.align) (2 ^ 64 - 1) value)) [ inr none ↦ rw none tt | inl n ↦ rw n.1 (inl refl) ]

bound_keeps : (given : Given) (word value : Part) → IfSome (with_bound given value) (KeepsOrGives given word)
unfolding with_bound
bound_keeps given word value =
    elim (present (number_given (is_some given.bound) (2 ^ 64 - 1) value)) [ inr none ↦ rw none tt | inl n ↦ rw n.1 (inl refl) ]

flags_keeps : (given : Given) (word value : Part) → IfSome (with_flags given value) (KeepsOrGives given word)
unfolding with_flags
flags_keeps given word value =
    elim (present (number_given (is_some given.flags) (2 ^ 32 - 1) value)) [ inr none ↦ rw none tt | inl n ↦ rw n.1 (inl refl) ]

option_keeps : (given : Given) (word : Part) → IfSome (with_option given word) (KeepsOrGives given word)
unfolding with_option
option_keeps given word =
    elim (decide (has_front (codes "socket=") word)) [
      | inl begins ↦ rw begins (socket_keeps given word (behind 7 word))
      | inr differs ↦ rw differs (
          elim (decide (has_front (codes "heap=") word)) [
            | inl begins ↦ rw begins (heap_gives given word (front_long (codes "heap=") word.text begins))
            | inr differs ↦ rw differs (
                elim (decide (has_front (codes "align=") word)) [
                  | inl begins ↦ rw begins (align_keeps given word (behind 6 word))
                  | inr differs ↦ rw differs (
                      elim (decide (has_front (codes "bound=") word)) [
                        | inl begins ↦ rw begins (bound_keeps given word (behind 6 word))
                        | inr differs ↦ rw differs (
                            elim (decide (has_front (codes "flags=") word)) [ inl begins ↦ rw begins (flags_keeps given word (behind 6 word)) | inr differs ↦ rw differs tt ])
                      ])
                ])
          ])
    ]

module _ (bytes : Bor (List ℕ)) (a : ℕ) where
  -- one word more
  word_slices : (at b : ℕ) (given more : Given) (word : Part) (words : List Part) → KeepsOrGives given word more → AreSlices bytes a at (heap_tokens given.heap)
      → AreSlices bytes at b (word ∷ words) → AreSlices bytes a (word.start + length word.text) (heap_tokens more.heap)
  word_slices at b given more word words (inl same) before slices =
      rw same (raise bytes a at (word.start + length word.text) (heap_tokens given.heap) (omega (arith, slices.0)) before)
  word_slices at b given more word words (inr gives) before slices =
      let start = bounds bytes a at (heap_tokens given.heap) before in
      let len : length (drop 5 word.text) ≡ length word.text - 5 = length-drop 5 word.text in
      rw gives.1 (omega (arith, start, slices.0), behind_slice bytes 5 word gives.0 slices.1, omega (arith, len, gives.0))

  given_slices : (words : List Part) (at b : ℕ) (given : Given) → AreSlices bytes a at (heap_tokens given.heap) → AreSlices bytes at b words
      → IfSome (given_by given words) (λ more. AreSlices bytes a b (heap_tokens more.heap))
  given_slices [] at b given before slices = raise bytes a at b (heap_tokens given.heap) slices before
  given_slices (word ∷ words) at b given before slices =
      elim (present (with_option given word)) [
        | inr none ↦ rw none tt
        | inl more ↦ rw more.1 (
            let keeps = rw more.1 at (option_keeps given word) in
            given_slices words (word.start + length word.text) b more.0 (word_slices at b given more.0 word words keeps before slices) slices.2)
      ]

  settled_heap : (o : Option Given) (options : Options) (b : ℕ) → option_map settled o ≡ Some options
      → IfSome o (λ more. AreSlices bytes a b (heap_tokens more.heap)) → AreSlices bytes a b (heap_tokens options.heap)
  settled_heap None options b same slices = absurd cc
  settled_heap (Some given) options b same slices =
      let is : settled given ≡ options = cc in rw (← is) slices

  -- the heap that options name stands in one of their words
  pub heap_slices : (b : ℕ) (words : List Part) (options : Options) → options_of words ≡ Some options → AreSlices bytes a b words → AreSlices bytes a b (heap_tokens options.heap)
  unfolding options_of
  heap_slices b words options same slices =
      settled_heap (given_by nothing_given words) options b same (given_slices words a b nothing_given (omega arith) slices)
