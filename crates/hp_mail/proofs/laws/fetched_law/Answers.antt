use Rattle.std.proofs.Common.{◌≤◌, ⊎_elim, ℕ, ◌<◌, sym, ap, subst, ◌∙◌, List, [], length, take, arith}
use Rattle.std.specs.List.{Contains}
use Rattle.std.proofs.lemmas.List.Elements.{Contains-append_left}
use Rattle.std.proofs.Math.Seq.{take-append_seam}
use Rattle.hp_frame.specs.declared.frame.Frame.{Frame}
use Rattle.hp_mail.specs.MailLaws.{AllWerePosted, FetchedWerePosted}
use Rattle.hp_mail.specs.Views.{frames_of}
use Rattle.hp_mail.proofs.Letters.{below_or_not, frames_of-has}
use Rattle.hp_mail.proofs.laws.fetched_law.Goals as goal

none_has : (frame : Frame) → Contains [] frame → ⊥
none_has frame has = let inside = has.1 in omega arith

were_posted : FetchedWerePosted
were_posted owner sender order frame has =
    subst (λ (l : List Frame). Contains l frame) order.1
    (Contains-append_left (frames_of sender.who owner.fetched) (frames_of sender.who order.0) frame has)

all_posted : AllWerePosted
all_posted owner participants pass_of knows strangers whose met letter among =
    let has = frames_of-has owner.fetched letter among in
    ⊎_elim
    (λ (below : letter.from < participants). (
      below,
      were_posted owner (pass_of letter.from) (met letter.from below) letter.frame
          (subst (λ (n : ℕ). Contains (frames_of n owner.fetched) letter.frame) (sym (whose letter.from below)) has),
    ))
    (λ (past : participants ≤ letter.from).
    absurd (none_has letter.frame
    (subst (λ (l : List Frame). Contains l letter.frame) (strangers participants knows letter.from past) has)))
    (below_or_not letter.from participants)

pub returns : goal.returns
returns c = record {
  posted = were_posted;
  first = λ owner sender order.
      let came = frames_of sender.who owner.fetched in
      sym (take-append_seam came (frames_of sender.who order.0)) ∙ ap (take (length came)) order.1;
  all = all_posted;
}
