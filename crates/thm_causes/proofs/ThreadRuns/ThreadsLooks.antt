-- Who is attached doesn't look at the segment value to attach, and another one looks once at most.
use Rattle.std.proofs.Common.{◌≡◌, ◌∙◌, ◌≤◌, Bool, true, false, List, [], ◌∷◌, refl, sym, arith}
use Rattle.std.specs.List.{All, count_by}
use Rattle.std.proofs.lemmas.List.Elements.{All-head, All-tail, All-weaker}
use Rattle.std.proofs.lemmas.List.Folds.{list_any_none}
use Rattle.hp_script.specs.declared.answer.Answer.{Answer}
use Rattle.hp_script.specs.declared.line.Act.{Act}
use Rattle.hp_script.specs.declared.line.Act.TheVariants as act
use Rattle.hp_script.specs.declared.line.Line.{Line}
use Rattle.hp_proc.specs.LineTrees.{doing_of}
use Rattle.hp_proc.specs.Doing.{Doing, Done, Leads}
use Rattle.hp_proc.specs.Doing.Done.{CaughtUp, Looked}
use Rattle.hp_proc.specs.Lines.{Facts}
use Rattle.hp_serve.specs.Party.{Party}
use Rattle.thm_run.proofs.SeenAndShown.Looks.{LineLooks, at_log, attach_looks, nowhere}
use Rattle.thm_run.proofs.SeenAndShown.NoLooks.{IsNoLook, LooksNowhere, none_looked}
use Rattle.thm_causes.specs.Lines.{AttachesOnce, is_looked}

-- no line of one that is attached looks
attached_may : (does : Act) (attached : Bool) → attached ≡ true → LooksNowhere does attached
attached_may act.Attach attached is = λ out. (let wrong : true ≡ false = sym is ∙ out in cc)
attached_may _ attached is = tt

not_looked : (done : Done) → IsNoLook done → is_looked done ≡ false
not_looked (Looked records) no_look = absurd no_look
not_looked _ no_look = refl

-- what no element passes is counted 0 times
pub count_none : {X : Type 0} (test : X → Bool) (xs : List X) → All (λ (x : X). test x ≡ false) xs → count_by test xs ≡ 0
count_none test [] none = refl
count_none test (x ∷ xs) none =
    let first = All-head (λ (x : _). test x ≡ false) x xs none in
    let rest = count_none test xs (All-tail (λ (x : _). test x ≡ false) x xs none) in
    rw (first, rest) refl

all_not : (trace : List Done) → All IsNoLook trace → All (λ (done : Done). is_looked done ≡ false) trace
all_not trace none = All-weaker IsNoLook (λ (done : Done). is_looked done ≡ false) not_looked trace none

none_counted : (trace : List Done) → All IsNoLook trace → count_by is_looked trace ≡ 0
none_counted trace none = count_none is_looked trace (all_not trace none)

-- a line's trace looks once at most
looks_once : (trace : List Done) → LineLooks trace → count_by is_looked trace ≤ 1
looks_once _ (nowhere trace none) = omega (arith, none_counted trace none)
looks_once _ (at_log records ended) =
    let one : count_by is_looked (Looked records ∷ CaughtUp records ended ∷ []) ≡ 1 = refl in
    omega (arith, one)

line_counted : (line : Line) (does : Act) (facts : Facts) (trace : List Done) (given : Answer)
    → Leads (doing_of line does facts) trace (Doing.Ended given) → count_by is_looked trace ≤ 1
unfolding doing_of
line_counted line act.Attach facts trace given leads = looks_once trace (attach_looks facts.attached trace given leads)
line_counted line does facts trace given leads = omega (arith, none_counted trace (none_looked line does facts trace given tt leads))

-- of a line's participant that has a table where it is attached nothing is a look, and of another one thing at most
pub attaches_once : (line : Line) (facts : Facts) (trace : List Done) (given : Answer) (party : Party)
    → (party.joined ≡ true → facts.attached ≡ true) → Leads (doing_of line line.act facts) trace (Doing.Ended given)
    → AttachesOnce party trace
attaches_once line facts trace given party attached leads = record {
  out = λ joined.
      list_any_none is_looked trace
      (all_not trace (none_looked line line.act facts trace given (attached_may line.act facts.attached (attached joined)) leads));
  once = line_counted line line.act facts trace given leads;
}
