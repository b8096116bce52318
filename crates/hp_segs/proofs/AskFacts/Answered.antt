-- What is looked up of grants and refusals is one.
use Rattle.std.proofs.Common.{◌≡◌, ◌==◌, ◌∙◌, ℕ, true, List, Option, Some, None, IfSome, refl, ap, sym}
use Rattle.std.specs.List.{find}
use Rattle.std.specs.Option.{option_map}
use Rattle.std.proofs.lemmas.Bool.{and_parts}
use Rattle.hp_segs.specs.SegsView.{grant_or_refusal_of, grants_or_refuses, is_grant_or_refusal}
use Rattle.hp_segs.specs.declared.outcome.AskLog.{AskLog}
use Rattle.hp_segs.specs.declared.outcome.Outcome.{Outcome}
use Rattle.hp_segs.proofs.SlotFacts.RangeLemmas.{find_passes}

settles_by : (asks : List AskLog) (from number : ℕ) (outcome : Outcome) (found : Option AskLog) → find (grants_or_refuses from number) asks ≡ found
    → option_map (λ (entry : AskLog). entry.outcome) found ≡ Some outcome → is_grant_or_refusal outcome ≡ true
settles_by asks from number outcome None found is = cc
settles_by asks from number outcome (Some entry) found is =
    let its : entry.outcome ≡ outcome = cc in
    let who = and_parts (entry.from == from) _ (find_passes (grants_or_refuses from number) asks entry found) in
    let which = and_parts (entry.number == number) _ who.1 in
    ap is_grant_or_refusal (sym its) ∙ which.1

pub answer_settles : (asks : List AskLog) (from number : ℕ) (answer : Option Outcome) → answer ≡ grant_or_refusal_of asks from number
    → IfSome answer (λ outcome. is_grant_or_refusal outcome ≡ true)
answer_settles asks from number None is = tt
answer_settles asks from number (Some outcome) is =
    settles_by asks from number outcome (find (grants_or_refuses from number) asks) refl (sym is)
