-- Lists that begin with others.
use Rattle.std.proofs.Common.{◌≡◌, ◌∙◌, ◌≤◌, List, [], ◌++◌, length, sym, ap, arith}
use Rattle.std.proofs.lemmas.List.{append_assoc, append-nil, length-append}
use Rattle.hp_board.specs.Views.{BeginsWith}

module _ {A : Type 0} where
  pub front_itself : (xs : List A) → BeginsWith xs xs
  front_itself xs = ([], sym (append-nil xs))

  pub front_same : (xs ys : List A) → ys ≡ xs → BeginsWith ys xs
  front_same xs ys same = ([], same ∙ sym (append-nil xs))

  pub front_on : (whole later front : List A) → BeginsWith later whole → BeginsWith whole front → BeginsWith later front
  front_on whole later front more is = (is.0 ++ more.0, more.1 ∙ ap (λ l. l ++ more.0) is.1 ∙ append_assoc front is.0 more.0)

  pub front_length : (whole front : List A) → BeginsWith whole front → length front ≤ length whole
  front_length whole front is = let long = ap length is.1 in omega (arith, length-append front is.0)
