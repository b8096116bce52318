-- Each ask that a participant made in its own holds has its outcome at the end, as it had when it was heard.
use Rattle.std.proofs.Common.{◌≡◌, ◌∙◌, ℕ, ◌+◌, Option, refl, ap, sym, subst, arith}
use Rattle.std.specs.List.{find}
use Rattle.hp_base.specs.declared.row.Run.{Run}
use Rattle.hp_segs.specs.SegsView.{SegsView, is_outcome_for}
use Rattle.hp_serve.specs.Asking.{Gives}
use Rattle.hp_serve.specs.declared.pages_asked.PagesAsked.{PagesAsked}
use Rattle.hp_proc.proofs.LawLemmas.{find_stays, gives_stays}
use Rattle.hp_proc.specs.Courses.{numbered_in}
use Rattle.hp_proc.specs.Outcomes.{IsAnsweredSo}
use Rattle.hp_weave.specs.Holds.{holds_of}
use Rattle.thm_run.proofs.InTurnByHolds.AskedInHolds.{IsAskAt, one_on}
use Rattle.thm_run.specs.OwnHolds.{AnswersByHolds, HasLater}

answered_later : (old new : SegsView) (who number : ℕ) (asked : PagesAsked) (run : Option Run) → HasLater old new
    → IsAnsweredSo old.log old.asks who number asked run → IsAnsweredSo new.log new.asks who number asked run
answered_later old new who number asked run later is = record {
  entry = is.entry;
  logged = ap (find (is_outcome_for who number)) later.asks
      ∙ find_stays (is_outcome_for who number) old.asks later.others is.entry is.logged;
  kept = is.kept;
  given = subst (λ log. Gives log is.entry.outcome run) (sym later.log) (gives_stays old.log later.more is.entry.outcome run is.given);
}

pub answers_by_holds : AnswersByHolds
answers_by_holds did first last holds all who place asked run there =
    let at : IsAskAt (numbered_in (did who)) place = record { asked = asked; run = run; there = there } in
    let is = one_on who last 1 (did who) (holds_of who holds) (all.does who) first holds all.chain all.each refl place at in
    let number : 1 + place ≡ place + 1 = omega arith in
    subst (λ number. IsAnsweredSo last.log last.asks who number asked run) number
    (answered_later is.heard last who (1 + place) asked run is.after is.is.answer)
