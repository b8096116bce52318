-- What words ask for, and which statuses a text that was read can end with.
use Rattle.std.proofs.Common.{◌≡◌, ◌≢◌, ℕ, false, eqb, eq-eqb, ne_eqb, List, [], length, get_or, refl, sym, ◌∙◌}
use Rattle.std.specs.Prelude.{Option, None}
use Rattle.std.proofs.lemmas.Bool.{cond-true, cond-false}
use Rattle.hp_base.specs.declared.status.Status.{Status}
use Rattle.hp_base.specs.declared.status.Status.TheVariants as status
use Rattle.hp_command.specs.Words.{number_within, values_of}
use Rattle.hp_ring.specs.declared.judging.TheConstants.{MAX_SLOTS}
use Rattle.hp_ring.specs.PassViews.{SendView, TakeView}
use Rattle.hp_ring.specs.Program.{EndsThrough, is_read_fault, slots_of}

-- other than one value asks for nothing
pub wrong_count : (words : List (List ℕ)) (n : ℕ) → n ≡ length (values_of words) → n ≢ 1 → None ≡ slots_of words
unfolding slots_of
wrong_count words n is other =
    sym (cond-false (eqb (length (values_of words)) 1) (number_within 1 MAX_SLOTS (get_or (values_of words) 0 [])) None
    (ne_eqb (length (values_of words)) 1 (λ same. other (is ∙ same))))

-- one value asks for what it writes
pub slots_by : (words : List (List ℕ)) (n : ℕ) (slots : Option ℕ) → n ≡ length (values_of words) → n ≡ 1
    → slots ≡ number_within 1 MAX_SLOTS (get_or (values_of words) 0 []) → slots ≡ slots_of words
unfolding slots_of
slots_by words n slots is one first =
    first
    ∙ sym (cond-true (eqb (length (values_of words)) 1) (number_within 1 MAX_SLOTS (get_or (values_of words) 0 [])) None
    (eq-eqb (length (values_of words)) 1 (sym is ∙ one)))

-- a text that was read does not end with the status of a failed read
pub was_read : (text : List ℕ) (held held' : Option (List ℕ)) (failed : Type 0) (senders : List SendView) (taker : TakeView) (result : Status)
    → EndsThrough text held held' failed result senders taker → is_read_fault result ≡ false
was_read text held held' failed senders taker status.Ok ends = refl
was_read text held held' failed senders taker status.Usage ends = absurd ends
was_read text held held' failed senders taker status.BadWorkload ends = absurd ends
was_read text held held' failed senders taker status.ReadFault ends = absurd ends
was_read text held held' failed senders taker status.WriteFault ends = refl
was_read text held held' failed senders taker status.OutOfMemory ends = refl
was_read text held held' failed senders taker status.TooLong ends = absurd ends
