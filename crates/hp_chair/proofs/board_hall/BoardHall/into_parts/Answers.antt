use Rattle.std.proofs.Common.{ℕ, ap, subst, ◌∙◌}
use Rattle.hp_chair.specs.ChairView.{ChairView}
use Rattle.hp_chair.specs.Places.{HasPasses}
use Rattle.hp_chair.specs.Publishing.{HasReadBy}
use Rattle.hp_chair.specs.Steps.{moves_in}
use Rattle.hp_chair.proofs.MailFetched.{passes_placed}
use Rattle.hp_chair.proofs.board_hall.BoardHall.into_parts.Goals as goal

pub returns-clause-moves : goal.returns-clause-moves
returns-clause-moves g c = c.self.invariant.tied.moves ∙ ap (λ (chair : ChairView). moves_in chair.steps) c.self.view_is

pub returns-clause-mail : goal.returns-clause-mail
returns-clause-mail g c =
    let inside = c.self.inside in
    let who : ℕ = inside.seat.mine.who in
    subst (λ (chair : ChairView). HasPasses chair.seat.mine.who chair.seat.mine.opening.participants chair.steps inside.passes.items) c.self.view_is
    (subst (λ (n : ℕ). HasPasses who n inside.log inside.passes.items) c.self.invariant.count
    (passes_placed who inside.log inside.boxes.now inside.passes.items c.self.invariant.places))

pub returns-clause-read : goal.returns-clause-read
returns-clause-read g c = subst (λ (chair : ChairView). HasReadBy chair.steps c.self.inside.stats) c.self.view_is c.self.invariant.reads.read
