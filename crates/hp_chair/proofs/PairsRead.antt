-- What one step more makes of the pairs that were published and read.
use Rattle.std.proofs.Common.{◌≡◌, ◌∙◌, ℕ, ⊎_elim, eqb, eq-eqb, cond, List, [], ◌∷◌, ◌++◌, append-nil, refl, sym, ap, subst}
use Rattle.std.proofs.lemmas.Bool.{cond-true}
use Rattle.hp_stats.specs.Pairs.{IsNotBelow}
use Rattle.hp_stats.specs.StatViews as stats
use Rattle.hp_stats.specs.StatViews.{seen_of}
use Rattle.hp_stats.specs.declared.stat_pair.StatPair.{StatPair}
use Rattle.hp_hall.specs.Mail.{MailStep, Notes}
use Rattle.hp_hall.specs.declared.note.Note.TheVariants.{ReadStats}
use Rattle.hp_chair.specs.FoundEmptyLaws.{alone_at, split_at}
use Rattle.hp_chair.specs.Publishing.{CountsRise, HasReadBy}
use Rattle.hp_chair.specs.Steps.{pairs_at, pairs_in}
use Rattle.hp_chair.proofs.StepsOn.{flat_push, flat_still}

-- a step that neither publishes nor reads
abbrev pub ShowsNothing : MailStep → Type 0
ShowsNothing step = (heap : ℕ) → pairs_at heap step ≡ []

-- that of a heap among what is shown
here_at : (heap : ℕ) (pair : StatPair) → pairs_at heap (Notes (ReadStats heap pair)) ≡ pair ∷ []
here_at heap pair = cond-true (eqb heap heap) (pair ∷ []) [] (eq-eqb heap heap refl)

no_read : (step : MailStep) (heap : ℕ) (pair : StatPair) → ShowsNothing step → step ≡ Notes (ReadStats heap pair) → ⊥
no_read step heap pair none is =
    let empty : [] ≡ pair ∷ [] = sym (none heap) ∙ ap (pairs_at heap) is ∙ here_at heap pair in
    cc

-- no count that was read is too small after one step more, where that is none of a reading, or one of no smaller count
pub rise_step : (steps : List MailStep) (step : MailStep) → CountsRise steps
    → ((heap : ℕ) (pair : StatPair) → step ≡ Notes (ReadStats heap pair) → IsNotBelow (pairs_in heap steps) pair.entries)
    → CountsRise (steps ++ step ∷ [])
rise_step steps step was now first rest heap pair is =
    ⊎_elim
    (λ (among : (more : List MailStep) × (steps ≡ first ++ Notes (ReadStats heap pair) ∷ more)). was first among.0 heap pair among.1)
    (λ (last : (more : List MailStep) × (first ≡ steps ++ more) × (step ∷ [] ≡ more ++ Notes (ReadStats heap pair) ∷ rest)).
    let alone = alone_at step (Notes (ReadStats heap pair)) last.0 rest last.2 in
    subst (λ (l : List MailStep). IsNotBelow (pairs_in heap l) pair.entries)
    (sym (last.1 ∙ ap (λ (l : List MailStep). steps ++ l) alone.0 ∙ append-nil steps)) (now heap pair alone.1))
    (split_at steps (step ∷ []) first rest (Notes (ReadStats heap pair)) is)

-- after a step that neither publishes nor reads
pub read_still : (steps : List MailStep) (step : MailStep) (pass : stats.PassView) → ShowsNothing step → HasReadBy steps pass
    → HasReadBy (steps ++ step ∷ []) pass
read_still steps step pass none was = record {
  seen = λ heap. was.seen heap ∙ sym (flat_still (pairs_at heap) steps step (none heap));
  rising = rise_step steps step was.rising (λ heap pair is. absurd (no_read step heap pair none is));
}
