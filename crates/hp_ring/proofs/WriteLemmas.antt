-- Two texts that are written one after the other.
use Rattle.std.proofs.Common.{◌+◌, ℕ, List, ◌++◌, length, take, append_assoc, sym, ap, subst, ◌∙◌, inl, inr, arith}
use Rattle.std.specs.Prelude.{Option, Some, None, Result, Ok, Err, OnErr}
use Rattle.std.specs.Option.{option_map}
use Rattle.std.proofs.Math.Seq.{take-append-add, take-append_seam}
use Rattle.std.proofs.lemmas.Bool.{cases_lt}
use Rattle.std.proofs.lemmas.List.{take-append-le, take_all}
use Rattle.hp_command.specs.Writing.{Holds, HoldsFront}

holds_both : (old mid new : Option (List ℕ)) (a b : List ℕ) → Holds old mid a → Holds mid new b → Holds old new (a ++ b)
holds_both None mid new a b first second = second ∙ ap (option_map (λ (held : List ℕ). held ++ b)) first
holds_both (Some held) mid new a b first second =
    second ∙ (ap (option_map (λ (held : List ℕ). held ++ b)) first ∙ ap Some (append_assoc held a b))

-- a front of the first is a front of both
pub front_of_first : (old new : Option (List ℕ)) (a b : List ℕ) → HoldsFront old new a → HoldsFront old new (a ++ b)
front_of_first old new a b front = elim (cases_lt front.len (length a)) [
  | inl less ↦ record { len = front.len; front = subst (Holds old new) (sym (take-append-le front.len a b (omega (arith, less)))) front.front }
  | inr all ↦ record {
    len = length a;
    front = subst (Holds old new) (take_all front.len a (omega (arith, all)) ∙ sym (take-append_seam a b)) front.front;
  }
]

-- and so is the first with a front of the second
pub front_of_both : (old mid new : Option (List ℕ)) (a b : List ℕ) → Holds old mid a → HoldsFront mid new b → HoldsFront old new (a ++ b)
front_of_both old mid new a b first front = record {
  len = length a + front.len;
  front = subst (Holds old new) (sym (take-append-add a b front.len)) (holds_both old mid new a (take front.len b) first front.front);
}

-- what holds at any rate holds where there is an error, too
pub at_error : {T E : Type 0} (r : Result T E) (P : Type 0) → P → OnErr r P
at_error (Ok x) P is = tt
at_error (Err e) P is = is

pub error_then : {T E : Type 0} (r : Result T E) (P Q : Type 0) → (P → Q) → OnErr r P → OnErr r Q
error_then (Ok x) P Q so is = tt
error_then (Err e) P Q so is = so is
