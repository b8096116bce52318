-- How often a line tries to attach: once at most, and only where its participant is out; and what it shows where it is refused.
use Rattle.std.proofs.Common.{◌≡◌, ◌∙◌, ℕ, ◌<◌, ◌≤◌, Bool, true, false, List, [], ◌∷◌, ◌++◌, refl, ap, sym, subst, arith}
use Rattle.std.specs.List.{All}
use Rattle.std.proofs.lemmas.List.Elements.{All-head, All-tail}
use Rattle.hp_base.specs.declared.caught.Caught.{Caught}
use Rattle.hp_base.specs.declared.caught.Caught.TheVariants as caught
use Rattle.hp_script.specs.declared.answer.Answer.{Answer}
use Rattle.hp_script.specs.declared.answer.Answer.TheVariants as answer
use Rattle.hp_script.specs.declared.line.Act.{Act}
use Rattle.hp_script.specs.declared.line.Act.TheVariants as act
use Rattle.hp_script.specs.declared.line.Line.{Line}
use Rattle.hp_proc.specs.LineTrees.{doing_of}
use Rattle.hp_proc.specs.Courses.{call_refused}
use Rattle.hp_proc.specs.Doing.{Doing, Done, Goes, Leads}
use Rattle.hp_proc.specs.Doing.Deed.{CatchUp}
use Rattle.hp_proc.specs.Doing.Doing.{Ended, Then}
use Rattle.hp_proc.specs.Doing.Done.{CaughtUp, Looked}
use Rattle.hp_proc.specs.Lines.{Facts, attached_with, attaching}
use Rattle.hp_proc.specs.Progress.{MayComeAndGo}
use Rattle.hp_proc.specs.Handed.{calls_failed}
use Rattle.thm_run.proofs.SeenAndShown.NoLooks.{IsLookless, IsNoLook, lookless, none_looked}
use Rattle.thm_run.proofs.SeatFacts.RosterMoves.{tries_in}

-- a line tries to attach once at most, and only where its participant is out
pub record TriesAtMostOnce (attached : Bool) (trace : List Done) : Type 0 where
  pub once : tries_in trace ≤ 1
  pub out : 0 < tries_in trace → attached ≡ false

-- without a look there is no try
no_tries : (trace : List Done) → All IsNoLook trace → tries_in trace ≡ 0
no_tries [] all = refl
no_tries (Looked records ∷ trace) all = absurd (All-head IsNoLook (Looked records) trace all)
no_tries (CaughtUp to caught ∷ trace) all = absurd (All-head IsNoLook (CaughtUp to caught) trace all)
no_tries (done ∷ trace) all = no_tries trace (All-tail IsNoLook done trace all)

-- what was done of a line that attaches: nothing, or it looked and caught up, or failed to
pub data IsAttachTrace (attached : Bool) (given : Answer) (trace : List Done) : Type 0 where
  already : trace ≡ [] → given ≡ answer.Already → IsAttachTrace attached given trace
  tried : (records : ℕ) (ended : Caught) → attached ≡ false → trace ≡ Looked records ∷ CaughtUp records ended ∷ []
      → Ended given ≡ attached_with records ended → IsAttachTrace attached given trace

caught_ends : (records : ℕ) (ended : Caught) (done : Done) (p : Doing → Type 0) → Goes (attached_with records ended) done p → ⊥
unfolding Goes
caught_ends records caught.Done done p goes = goes
caught_ends records (caught.Refused row call) done p goes = goes
caught_ends records (caught.Elsewhere row call got) done p goes = goes

pub attach_trace : (attached : Bool) (given : Answer) (trace : List Done) → Leads (attaching attached) trace (Ended given)
    → IsAttachTrace attached given trace
unfolding Leads Goes
attach_trace true given [] leads = already refl (let same : Ended given ≡ Ended answer.Already = leads in cc)
attach_trace true given (done ∷ trace) leads = absurd leads
attach_trace false given [] leads = let wrong : Ended given ≡ attaching false = leads in cc
attach_trace false given (done ∷ []) (records, is, leads) =
    let wrong : Ended given ≡ Then (CatchUp records) (attached_with records) = leads in
    cc
attach_trace false given (done ∷ (next ∷ [])) (records, is, (ended, its, leads)) =
    tried records ended refl
    (ap (λ done. done ∷ next ∷ []) is ∙ ap (λ next. Looked records ∷ next ∷ []) its) leads
attach_trace false given (done ∷ (next ∷ (more ∷ trace))) (records, is, (ended, its, leads)) =
    absurd (caught_ends records ended more (λ left. Leads left trace (Ended given)) leads)

attach_tries : (attached : Bool) (given : Answer) (trace : List Done) → IsAttachTrace attached given trace → TriesAtMostOnce attached trace
attach_tries attached given trace (already is was) = record {
  once = omega (arith, ap tries_in is);
  out = λ some. absurd (omega (arith, ap tries_in is, some));
}
attach_tries attached given trace (tried records ended out is ends) = record {
  once = omega (arith, ap tries_in is);
  out = λ some. out;
}

none_tried : (line : Line) (does : Act) (facts : Facts) (given : Answer) (trace : List Done) → IsLookless does
    → Leads (doing_of line does facts) trace (Ended given) → TriesAtMostOnce facts.attached trace
none_tried line does facts given trace is leads =
    let none = no_tries trace (none_looked line does facts trace given (lookless does facts.attached is) leads) in
    record { once = omega (arith, none); out = λ some. absurd (omega (arith, none, some)) }

line_tries_by : (who : ℕ) (line : Line) (does : Act) (facts : Facts) (given : Answer) (trace : List Done) → MayComeAndGo who does
    → Leads (doing_of line does facts) trace (Ended given) → TriesAtMostOnce facts.attached trace
unfolding doing_of
line_tries_by who line act.Attach facts given trace built leads =
    attach_tries facts.attached given trace (attach_trace facts.attached given trace leads)
line_tries_by who line does facts given trace built leads = none_tried line does facts given trace tt leads

-- each line tries so
pub line_tries : (who : ℕ) (line : Line) (facts : Facts) (given : Answer) (trace : List Done) → MayComeAndGo who line.act
    → Leads (doing_of line line.act facts) trace (Ended given) → TriesAtMostOnce facts.attached trace
line_tries who line facts given trace built leads = line_tries_by who line line.act facts given trace built leads

-- a line that attaches and is refused shows that call alone
refused_by : (call records : ℕ) (ended : Caught) → Ended (answer.Refused call) ≡ attached_with records ended
    → call_refused ended ≡ call ∷ []
refused_by call records caught.Done is = cc
refused_by call records (caught.Refused row number) is =
    let same : answer.Refused call ≡ answer.Refused number = cc in
    let own : call ≡ number = cc in
    ap (λ call. call ∷ []) (sym own)
refused_by call records (caught.Elsewhere row number got) is =
    let same : answer.Refused call ≡ answer.Refused number = cc in
    let own : call ≡ number = cc in
    ap (λ call. call ∷ []) (sym own)

pub line_refused : (attached : Bool) (call : ℕ) (trace : List Done) → Leads (attaching attached) trace (Ended (answer.Refused call))
    → calls_failed trace ≡ call ∷ []
line_refused attached call trace leads = by_trace (attach_trace attached (answer.Refused call) trace leads)
  where
    by_trace : IsAttachTrace attached (answer.Refused call) trace → calls_failed trace ≡ call ∷ []
    by_trace (already is was) = cc
    by_trace (tried records ended out is ends) =
        ap calls_failed is ∙ ap (λ calls. calls ++ []) (refused_by call records ended ends)
