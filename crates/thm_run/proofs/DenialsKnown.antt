-- What the judges of a run may deny: what validators deny that lines registered which have ended, and these are lines of the workload.
use Rattle.std.proofs.Common.{◌≡◌, ◌∙◌, ◌==◌, ℕ, Bool, true, false, not, ◌&&◌, ◌||◌, List, [], ◌∷◌, ◌++◌, Option, Some, None, refl, ap, sym, subst, eq-eqb, get_or}
use Rattle.std.specs.List.{All, list_any}
use Rattle.std.specs.Prelude.{IsTrue, ⊤}
use Rattle.std.specs.Str.{bytes_eq}
use Rattle.std.proofs.lemmas.List.Elements.{All-contains, All-filter, All-push}
use Rattle.std.proofs.lemmas.List.Folds.{list_any-append}
use Rattle.std.proofs.lemmas.Slice.Eq.{bytes_eq-Decides}
use Rattle.hp_base.specs.declared.caught.Caught.{Caught}
use Rattle.hp_base.specs.declared.caught.Caught.TheVariants as caught
use Rattle.hp_core.specs.Judging.{MayAnswer}
use Rattle.hp_events.specs.Validators.{is_its}
use Rattle.hp_events.specs.declared.validator.Validator.{Validator}
use Rattle.hp_hall.proofs.StandingFacts.StandingLists.{any_contained, found_in}
use Rattle.hp_script.specs.declared.answer.Answer.{Answer}
use Rattle.hp_script.specs.declared.answer.Answer.TheVariants as answer
use Rattle.hp_script.specs.declared.line.Act.{Act}
use Rattle.hp_script.specs.declared.line.Act.TheVariants as act
use Rattle.hp_script.specs.declared.line.Line.{Line}
use Rattle.hp_script.specs.declared.workload.Workload.{Workload}
use Rattle.hp_proc.specs.Courses.{Standing, standing_tried}
use Rattle.hp_proc.specs.Outcomes.{registers}
use Rattle.hp_proc.specs.Registering.{validators_after}
use Rattle.hp_serve.specs.Denials.{Denials, denials_by}
use Rattle.thm_run.proofs.GrownHeaps.GrantTurns.{read_among}
use Rattle.thm_run.specs.ByRuns.{AreLinesIn, IsDeedIn}
use Rattle.thm_run.specs.Seats.{EndedLine, Seat, ending_line, line_ended}

-- one judge gives only answers that the other may give
abbrev pub IsWithin : Denials → Denials → Type 0
IsWithin one other = (socket total : ℕ) (answer : Option (List ℕ × ℕ)) → one socket total answer → other socket total answer

-- so it is at each step
pub may_within : (one other : Denials) → IsWithin one other → (asked : Option (ℕ × ℕ)) (answer : Option (List ℕ × ℕ))
    → MayAnswer one asked answer → MayAnswer other asked answer
may_within one other within None answer may = may
may_within one other within (Some asked) answer may = within asked.0 asked.1 answer may

pub within_then : (one mid other : Denials) → IsWithin one mid → IsWithin mid other → IsWithin one other
within_then one mid other first last socket total answer may = last socket total answer (first socket total answer may)

-- whatever a judge answers
abbrev pub anything : Denials
anything socket total answer = ⊤

-- one of these lines, which have ended, registers the validator that denies
abbrev pub denies_by_lines : List EndedLine → Denials
denies_by_lines lines socket total None = ⊤
denies_by_lines lines socket total (Some (name, limit)) = IsTrue (list_any (λ line. registers name socket limit line.deed) lines)

-- a line of the workload does
abbrev pub denies_in : Workload → Denials
denies_in workload socket total None = ⊤
denies_in workload socket total (Some (name, limit)) =
    IsTrue (list_any (λ line. registers name socket limit line.act) workload.lines.items)

-- WHO DENIES WAS REGISTERED

-- a validator that denies is one that one of these lines registers
abbrev pub IsOfLines : List EndedLine → Validator Bool → Type 0
IsOfLines lines own =
    own.allows ≡ false → IsTrue (list_any (λ (line : EndedLine). registers own.name own.socket own.limit line.deed) lines)

abbrev pub AreOfLines : List EndedLine → List (Validator Bool) → Type 0
AreOfLines lines validators = All (IsOfLines lines) validators

-- so a denial is one of theirs
pub lines_deny : (lines : List EndedLine) (validators : List (Validator Bool)) → AreOfLines lines validators
    → IsWithin (denials_by validators) (denies_by_lines lines)
lines_deny lines validators are socket total None may = tt
lines_deny lines validators are socket total (Some (name, limit)) may =
    let own : Validator Bool = may.own in
    let its : IsOfLines lines own =
    All-contains (IsOfLines lines) validators own are (read_among validators may.place own may.its_place) in
    let denies = its (sym may.denies.answered) in
    subst (λ (name : List ℕ). IsTrue (list_any (λ (line : EndedLine). registers name socket limit line.deed) lines)) (sym may.its_name)
    (subst (λ (limit : ℕ). IsTrue (list_any (λ (line : EndedLine). registers own.name socket limit line.deed) lines)) (sym may.its_limit)
    (subst (λ (socket : ℕ). IsTrue (list_any (λ (line : EndedLine). registers own.name socket own.limit line.deed) lines))
    may.denies.asked.its_socket denies))

or_more : (here there : Bool) → here ≡ true → (here || there) ≡ true
or_more true there is = refl
or_more false there is = cc

or_last : (here there : Bool) → there ≡ true → (here || there) ≡ true
or_last true there is = refl
or_last false there is = is

-- of more lines too
any_longer : {X : Type 0} (test : X → Bool) (xs more : List X) → list_any test xs ≡ true → list_any test (xs ++ more) ≡ true
any_longer test xs more is = list_any-append test xs more ∙ or_more (list_any test xs) (list_any test more) is

pub denies_longer : (lines more : List EndedLine) → IsWithin (denies_by_lines lines) (denies_by_lines (lines ++ more))
denies_longer lines more socket total None may = tt
denies_longer lines more socket total (Some (name, limit)) may =
    any_longer (λ (line : EndedLine). registers name socket limit line.deed) lines more may

of_longer : (lines more : List EndedLine) (validators : List (Validator Bool)) → AreOfLines lines validators
    → AreOfLines (lines ++ more) validators
of_longer lines more validators are place own within =
    let its : Validator Bool = get_or validators place own in
    λ denies. any_longer (λ (line : EndedLine). registers its.name its.socket its.limit line.deed) lines more (are place own within denies)

-- a line that registers one is the last of those that have ended
registers_itself : (text : List ℕ) (socket bytes : ℕ) (allow : Bool) → allow ≡ false
    → (bytes_eq text text && ((socket == socket) && ((bytes == bytes) && not allow))) ≡ true
registers_itself text socket bytes allow denies =
    ap (λ (same : Bool). same && ((socket == socket) && ((bytes == bytes) && not allow))) ((bytes_eq-Decides text text).1 refl)
    ∙ (ap (λ (same : Bool). same && ((bytes == bytes) && not allow)) (eq-eqb socket socket refl)
    ∙ (ap (λ (same : Bool). same && not allow) (eq-eqb bytes bytes refl) ∙ ap not denies))

last_any : {X : Type 0} (test : X → Bool) (xs : List X) (last : X) → test last ≡ true → list_any test (xs ++ last ∷ []) ≡ true
last_any test xs last is =
    list_any-append test xs (last ∷ []) ∙ or_last (list_any test xs) (list_any test (last ∷ [])) (or_more (test last) false is)

module _ (lines : List EndedLine) (validators : List (Validator Bool)) (are : AreOfLines lines validators) where
  still_of : (one : EndedLine) → AreOfLines (lines ++ one ∷ []) validators
  still_of one = of_longer lines (one ∷ []) validators are

  by_deed : (deed : Act) (given : Answer) (one : EndedLine) → one.deed ≡ deed
      → AreOfLines (lines ++ one ∷ []) (validators_after deed given validators)
  by_deed (act.Limit name socket bytes allow) answer.Done one is =
      let own : Validator Bool = record { name = name.text; socket = socket; limit = bytes; allows = allow } in
      All-push (IsOfLines (lines ++ one ∷ [])) validators own (still_of one)
      (λ denies.
      last_any (λ (line : EndedLine). registers name.text socket bytes line.deed) lines one
      (ap (registers name.text socket bytes) is ∙ registers_itself name.text socket bytes allow denies))
  by_deed (act.Unlimit name socket) answer.Done one is =
      All-filter (λ own. not (is_its name.text socket own)) (IsOfLines (lines ++ one ∷ [])) validators (still_of one)
  by_deed _ given one is = still_of one

-- and so it is once a line has ended
pub of_ended : (seat : Seat) (deed : Act) (given : Answer) → AreOfLines seat.lines seat.standing.validators
    → AreOfLines (ending_line deed given seat).lines (ending_line deed given seat).standing.validators
of_ended seat deed given are =
    by_deed seat.lines seat.standing.validators are deed given (line_ended deed given seat) refl

-- who tries to attach registers no validator by that
pub tried_validators : (records : ℕ) (caught : Caught) (standing : Standing)
    → (standing_tried records caught standing).validators ≡ standing.validators
tried_validators records caught.Done standing = refl
tried_validators records (caught.Refused row call) standing = refl
tried_validators records (caught.Elsewhere row call got) standing = refl

-- OF THE WORKLOAD

-- so their validators are the workload's
pub lines_in : (workload : Workload) (lines : List EndedLine) → AreLinesIn workload lines → IsWithin (denies_by_lines lines) (denies_in workload)
lines_in workload lines are socket total None may = tt
lines_in workload lines are socket total (Some (name, limit)) may =
    let found = found_in (λ (line : EndedLine). registers name socket limit line.deed) lines may in
    let its = All-contains (λ (line : EndedLine). IsDeedIn workload line.deed) lines found.element are found.among in
    any_contained (λ (line : Line). registers name socket limit line.act) workload.lines.items its.line its.among
    (ap (registers name socket limit) its.its ∙ found.passes)
