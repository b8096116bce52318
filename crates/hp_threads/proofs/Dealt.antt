-- Passes are handed out mailbox by mailbox, and each participant has one to each in the end.
use Rattle.std.proofs.Common.{◌≡◌, ◌∙◌, ℕ, zero, suc, ◌+◌, List, [], ◌∷◌, ◌++◌, map, length, replicate, Option, Some, None, refl, sym, ap, subst, arith}
use Rattle.std.specs.Prelude.{zip}
use Rattle.std.specs.List.{slice_get, range_with_len}
use Rattle.std.specs.Option.{option_map}
use Rattle.std.proofs.lemmas.List.{length-map}
use Rattle.std.proofs.lemmas.List.FromFn.{length-range_with_len}
use Rattle.std.proofs.lemmas.Option.{none-some, same_Some, slice_get-map}
use Rattle.hp_chair.specs.Places.{ArePlaces}
use Rattle.hp_chair.proofs.ChairOpens.{places_new}
use Rattle.hp_mail.specs.PassView.{MailboxView, PassView, new_pass}
use Rattle.hp_threads.specs.Dealing.{ArePlaced, longer, passes_from, all_passes_for}

-- no mailbox, no pass
none_dealt : (participants from count : ℕ) → map (passes_from participants 0 []) (range_with_len from count) ≡ replicate count []
none_dealt participants from zero = refl
none_dealt participants from (suc count) = ap (λ (all_passes : List (List PassView)). [] ∷ all_passes) (none_dealt participants (from + 1) count)

pub no_passes_yet : (participants : ℕ) → all_passes_for participants [] ≡ replicate participants []
no_passes_yet participants = none_dealt participants 0 participants

-- one mailbox more
passes_more : (participants owner : ℕ) (boxes : List MailboxView) (mailbox : MailboxView) (who : ℕ)
    → passes_from participants owner boxes who ++ new_pass mailbox.id participants (owner + length boxes) who ∷ [] ≡ passes_from participants owner (boxes ++ mailbox ∷ []) who
passes_more participants owner [] mailbox who =
    let same : owner + 0 ≡ owner = omega arith in
    ap (λ (n : ℕ). new_pass mailbox.id participants n who ∷ []) same
passes_more participants owner (one ∷ boxes) mailbox who =
    let same : owner + length (one ∷ boxes) ≡ (owner + 1) + length boxes = omega arith in
    ap (λ (n : ℕ). new_pass one.id participants owner who ∷ (passes_from participants (owner + 1) boxes who ++ new_pass mailbox.id participants n who ∷ [])) same
    ∙ ap (λ (passes : List PassView). new_pass one.id participants owner who ∷ passes) (passes_more participants (owner + 1) boxes mailbox who)

all_longer : (participants : ℕ) (boxes : List MailboxView) (mailbox : MailboxView) (from count : ℕ)
    → map longer (zip (map (passes_from participants 0 boxes) (range_with_len from count)) (map (new_pass mailbox.id participants (length boxes)) (range_with_len from count)))
    ≡ map (passes_from participants 0 (boxes ++ mailbox ∷ [])) (range_with_len from count)
all_longer participants boxes mailbox from zero = refl
all_longer participants boxes mailbox from (suc count) =
    let same : 0 + length boxes ≡ length boxes = omega arith in
    ap
    (λ (passes : List PassView). passes ∷ map longer
    (zip (map (passes_from participants 0 boxes) (range_with_len (from + 1) count)) (map (new_pass mailbox.id participants (length boxes)) (range_with_len (from + 1) count))))
    (ap (λ (n : ℕ). passes_from participants 0 boxes from ++ new_pass mailbox.id participants n from ∷ []) (sym same) ∙ passes_more participants 0 boxes mailbox from)
    ∙ ap (λ (all_passes : List (List PassView)). passes_from participants 0 (boxes ++ mailbox ∷ []) from ∷ all_passes) (all_longer participants boxes mailbox (from + 1) count)

pub all_passes_more : (participants owner : ℕ) (boxes : List MailboxView) (mailbox : MailboxView) (passes : List PassView)
    (all_passes after : List (List PassView)) → length boxes ≡ owner → all_passes ≡ all_passes_for participants boxes
    → passes ≡ map (new_pass mailbox.id participants owner) (range_with_len 0 participants) → after ≡ map longer (zip all_passes passes)
    → after ≡ all_passes_for participants (boxes ++ mailbox ∷ [])
all_passes_more participants owner boxes mailbox passes all_passes after long are dealt handed =
    handed
    ∙ ap (λ (all : List (List PassView)). map longer (zip all passes)) are
    ∙ ap (λ (all : List PassView). map longer (zip (all_passes_for participants boxes) all))
    (dealt ∙ ap (λ (n : ℕ). map (new_pass mailbox.id participants n) (range_with_len 0 participants)) (sym long))
    ∙ all_longer participants boxes mailbox 0 participants

-- each one's passes are to the mailboxes at their places
pass_at : (participants owner : ℕ) (boxes : List MailboxView) (who place : ℕ) (mailbox : MailboxView) (pass : PassView)
    → slice_get boxes place ≡ Some mailbox → slice_get (passes_from participants owner boxes who) place ≡ Some pass
    → pass ≡ new_pass mailbox.id participants (owner + place) who
pass_at participants owner [] who place mailbox pass box there = absurd (none-some mailbox box)
pass_at participants owner (one ∷ boxes) who zero mailbox pass box there =
    let same : owner ≡ owner + 0 = omega arith in
    sym (same_Some _ pass there) ∙ ap (λ (m : MailboxView). new_pass m.id participants owner who) (same_Some one mailbox box)
    ∙ ap (λ (n : ℕ). new_pass mailbox.id participants n who) same
pass_at participants owner (one ∷ boxes) who (suc place) mailbox pass box there =
    let same : (owner + 1) + place ≡ owner + suc place = omega arith in
    pass_at participants (owner + 1) boxes who place mailbox pass box there ∙ ap (λ (n : ℕ). new_pass mailbox.id participants n who) same

passes_long : (participants owner : ℕ) (boxes : List MailboxView) (who : ℕ) → length (passes_from participants owner boxes who) ≡ length boxes
passes_long participants owner [] who = refl
passes_long participants owner (one ∷ boxes) who = ap suc (passes_long participants (owner + 1) boxes who)

pub number_at : (from count who : ℕ) (number : ℕ) → slice_get (range_with_len from count) who ≡ Some number → number ≡ from + who
number_at from zero who number at = absurd (none-some number at)
number_at from (suc count) zero number at = let same : from ≡ from + 0 = omega arith in sym (same_Some from number at) ∙ same
number_at from (suc count) (suc who) number at =
    let same : (from + 1) + who ≡ from + suc who = omega arith in number_at (from + 1) count who number at ∙ same

its_passes : (participants : ℕ) (boxes : List MailboxView) (count who : ℕ) (passes : List PassView) (number : Option ℕ)
    → slice_get (range_with_len 0 count) who ≡ number → option_map (passes_from participants 0 boxes) number ≡ Some passes → passes ≡ passes_from participants 0 boxes who
its_passes participants boxes count who passes None at is = absurd (none-some passes is)
its_passes participants boxes count who passes (Some number) at is =
    let same : 0 + who ≡ who = omega arith in
    sym (same_Some _ passes is) ∙ ap (passes_from participants 0 boxes) (number_at 0 count who number at ∙ same)

pub placed_by : (participants : ℕ) (boxes : List MailboxView) (all_passes : List (List PassView)) → all_passes ≡ all_passes_for participants boxes
    → length boxes ≡ participants → ArePlaced participants boxes all_passes
placed_by participants boxes all_passes are long = record {
  count =
      ap (λ (all : List (List PassView)). length all) are
      ∙ length-map (range_with_len 0 participants) (passes_from participants 0 boxes) ∙ length-range_with_len 0 participants;
  each = λ who passes at.
      let is : passes ≡ passes_from participants 0 boxes who =
      its_passes participants boxes participants who passes (slice_get (range_with_len 0 participants) who) refl
      (sym (slice_get-map (passes_from participants 0 boxes) (range_with_len 0 participants) who)
      ∙ ap (λ (all : List (List PassView)). slice_get all who) (sym are) ∙ at) in
      subst (ArePlaces who [] boxes) (sym is)
      (places_new who boxes (passes_from participants 0 boxes who) (passes_long participants 0 boxes who)
      (λ place mailbox pass box there.
      let same : 0 + place ≡ place = omega arith in
      pass_at participants 0 boxes who place mailbox pass box there ∙ ap (λ (n : ℕ). new_pass mailbox.id participants n who) same
      ∙ ap (λ (n : ℕ). new_pass mailbox.id n place who) (sym long)));
}
