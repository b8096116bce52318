-- What an accepted line adds to what was read, and what is kept along the lines of a text.
use Rattle.std.proofs.Common.{◌≡◌, ℕ, suc, ◌+◌, ◌<◌, Bool, true, false, List, [], ◌∷◌, ◌++◌, length, get_or, refl, subst, cond, ◌⊎◌, inl, inr, arith}
use Rattle.std.specs.Prelude.{Option, Some, None, Result, Ok, Err, IfOk, nat_le, nat_lt}
use Rattle.std.specs.Option.{ok_or}
use Rattle.std.specs.List.{AllByRecursion}
use Rattle.hp_script.specs.Part.{Part}
use Rattle.hp_script.specs.Text.{fields_of, is_skipped}
use Rattle.hp_script.specs.Words.{IsWord, tokens_in}
use Rattle.hp_script.specs.Judge.{◌>>=◌, refuse}
use Rattle.hp_script.specs.Counts.{lines_by}
use Rattle.hp_script.specs.Makers.{Makers}
use Rattle.hp_script.specs.Setups.{is_strange, setup_step, set_up}
use Rattle.hp_script.specs.ShapeWords.Acts.{is_duplicate, is_unknown, add_line, add_act, add_await}
use Rattle.hp_script.specs.ShapeWords.Shapes.{shape_of}
use Rattle.hp_script.specs.Reading.{said_step, judged, read_line}
use Rattle.hp_script.specs.Workloads.{Refusal, go_on, read_from}
use Rattle.hp_script.specs.declared.bad_kind.BadKind.{BadKind}
use Rattle.hp_script.specs.declared.bad_kind.BadKind.TheVariants as bad
use Rattle.hp_script.specs.declared.line.Act.{Act}
use Rattle.hp_script.specs.declared.line.Act.TheVariants as act
use Rattle.hp_script.specs.declared.line.Line.{Line}
use Rattle.hp_script.specs.declared.shape.Shape.{Shape}
use Rattle.hp_script.specs.declared.shape.Shape.TheVariants.{Setup, Does, Awaits}
use Rattle.hp_script.specs.declared.reader.Reader.{Reader}
use Rattle.hp_script.proofs.TokenFacts.TokensLemmas.{tokens_fields}

-- what holds after a step that goes on
pub through : {A B : Type 0} (step : Result A BadKind) (next : A → Result B BadKind) (P : B → Type 0)
    → ((x : A) → step ≡ Ok x → IfOk (next x) P) → IfOk (step >>= next) P
through (Ok x) next P holds = holds x refl
through (Err kind) next P holds = tt

-- what holds after a refusal that is passed: its test fails
pub passed : {B : Type 0} (test : Bool) (kind : BadKind) (next : Unit {0} → Result B BadKind) (P : B → Type 0)
    → (test ≡ false → IfOk (next tt) P) → IfOk (refuse test kind >>= next) P
passed true kind next P holds = tt
passed false kind next P holds = holds refl

-- what holds after a step that asks for what is there
pub present : {A B : Type 0} (o : Option A) (kind : BadKind) (next : A → Result B BadKind) (P : B → Type 0)
    → ((x : A) → o ≡ Some x → IfOk (next x) P) → IfOk (ok_or o kind >>= next) P
present (Some x) kind next P holds = holds x refl
present None kind next P holds = tt

-- what holds of an answer holds of what is answered
pub answered : {A K : Type 0} (P : A → Type 0) (answer : Result A K) (x : A) → answer ≡ Ok x → IfOk answer P → P x
answered P (Ok y) x same holds = let is : y ≡ x = cc in subst P is holds
answered P (Err kind) x same holds = absurd cc

-- the reader with one participant line more
abbrev pub with_line : Reader → ℕ → ℕ → Act → Reader
with_line read number party deed = record read { lines = read.lines ++ record { line = number; participant = party; act = deed } ∷ [] }

-- a participant line is added: there was room for it, and its participant is declared
pub record AddsLine (read : Reader) (number party : ℕ) (deed : Act) (more : Reader) : Type 0 where
  pub room : length read.lines < 20000
  pub declared : is_strange read party ≡ false
  pub added : more ≡ with_line read number party deed

-- a line that awaits is added: the other participant is declared, and has that many lines before it
pub record AddsAwait (read : Reader) (number party other k : ℕ) (more : Reader) : Type 0 where
  pub known : is_strange read other ≡ false
  pub behind : nat_lt (lines_by other read.lines) k ≡ false
  pub adds : AddsLine read number party (act.Await other k) more

-- what a line that says something adds
abbrev pub Adds : Makers → Reader → ℕ → Shape → Reader → Type 0
Adds makers read number (Setup setup) more = (read.lines ≡ []) × (setup_step read number setup ≡ Ok more)
Adds makers read number (Does party deed) more = (is_duplicate makers number deed ≡ false) × AddsLine read number party deed more × (is_unknown makers deed ≡ false)
Adds makers read number (Awaits party other k) more = AddsAwait read number party other k more

no_lines : (lines : List Line) → nat_lt 0 (length lines) ≡ false → lines ≡ []
no_lines [] none = refl
no_lines (line ∷ lines) none = absurd (grind (arith, none))

itself : {A : Type 0} (answer : Result A BadKind) → IfOk answer (λ x. answer ≡ Ok x)
itself (Ok x) = refl
itself (Err kind) = tt

with_fact : {A : Type 0} (fact : Type 0) (answer : Result A BadKind) (P : A → Type 0) → fact → IfOk answer P → IfOk answer (λ x. fact × P x)
with_fact fact (Ok x) P is holds = (is, holds)
with_fact fact (Err kind) P is holds = tt

add_line_adds : (read : Reader) (number party : ℕ) (deed : Act) → is_strange read party ≡ false → IfOk (add_line read number party deed) (AddsLine read number party deed)
unfolding add_line
add_line_adds read number party deed declared =
    passed (nat_le 20000 (length read.lines)) bad.Limit _ _ (λ few.
    record { room = grind (arith, few); declared = declared; added = refl })

said_step_adds : (makers : Makers) (read : Reader) (number : ℕ) (said : Shape) → IfOk (said_step makers read number said) (Adds makers read number said)
unfolding said_step set_up add_act add_await
said_step_adds makers read number (Setup setup) =
    passed (nat_lt 0 (length read.lines)) bad.Order _ _ (λ none.
    with_fact (read.lines ≡ []) (setup_step read number setup) (λ more. setup_step read number setup ≡ Ok more) (no_lines read.lines none) (itself (setup_step read number setup)))
said_step_adds makers read number (Does party deed) =
    passed (is_duplicate makers number deed) bad.Duplicate _ _ (λ once.
    passed (is_strange read party) bad.Unknown _ _ (λ declared.
    passed (is_unknown makers deed) bad.Unknown _ _ (λ made.
    does_adds (add_line read number party deed) once made (add_line_adds read number party deed declared))))
  where
    does_adds : (answer : Result Reader BadKind) → is_duplicate makers number deed ≡ false → is_unknown makers deed ≡ false → IfOk answer (AddsLine read number party deed)
        → IfOk answer (Adds makers read number (Does party deed))
    does_adds (Ok more) once made adds = (once, adds, made)
    does_adds (Err kind) once made adds = tt
said_step_adds makers read number (Awaits party other k) =
    passed (is_strange read party) bad.Unknown _ _ (λ declared.
    passed (is_strange read other) bad.Unknown _ _ (λ other_declared.
    passed (nat_lt (lines_by other read.lines) k) bad.Ahead _ _ (λ stands.
    await_adds (add_line read number party (act.Await other k)) other_declared stands (add_line_adds read number party (act.Await other k) declared))))
  where
    await_adds : (answer : Result Reader BadKind) → is_strange read other ≡ false → nat_lt (lines_by other read.lines) k ≡ false → IfOk answer (AddsLine read number party (act.Await other k))
        → IfOk answer (AddsAwait read number party other k)
    await_adds (Ok more) known behind adds = record { known = known; behind = behind; adds = adds }
    await_adds (Err kind) known behind adds = tt

-- an accepted line that is not skipped says something by its fields, which is added
pub record Says (makers : Makers) (read : Reader) (number : ℕ) (fields : List Part) (more : Reader) : Type 0 where
  pub words : AllByRecursion (λ field. IsWord field.text) fields
  pub said : Shape
  pub shape : shape_of fields ≡ Ok said
  pub adds : Adds makers read number said more

judged_says : (makers : Makers) (read : Reader) (number : ℕ) (line : Part) → IfOk (judged makers read number line) (Says makers read number (fields_of line))
unfolding judged
judged_says makers read number line =
    through (tokens_in line) _ _ (λ tokens are.
    let tokens_are = tokens_fields line tokens are in
    through (shape_of tokens) _ _ (λ said shape.
    says tokens_are.1 said (rw tokens_are.0 at shape) (said_step makers read number said)
    (said_step_adds makers read number said)))
  where
    says : AllByRecursion (λ field. IsWord field.text) (fields_of line) → (said : Shape) → shape_of (fields_of line) ≡ Ok said
        → (step : Result Reader BadKind) → IfOk step (Adds makers read number said) → IfOk step (Says makers read number (fields_of line))
    says words said shape (Ok more) adds = record { words = words; said = said; shape = shape; adds = adds }
    says words said shape (Err kind) adds = tt

-- an accepted line is skipped, or says something
pub read_line_says : (makers : Makers) (read : Reader) (number : ℕ) (line : Part) (more : Reader) → read_line makers read number line ≡ Ok more
    → ((is_skipped (fields_of line) ≡ true) × (more ≡ read)) ⊎ ((is_skipped (fields_of line) ≡ false) × Says makers read number (fields_of line) more)
unfolding read_line
read_line_says makers read number line more same = chosen (is_skipped (fields_of line)) refl same
  where
    chosen : (test : Bool) → is_skipped (fields_of line) ≡ test → cond test (Ok read) (judged makers read number line) ≡ Ok more
        → ((is_skipped (fields_of line) ≡ true) × (more ≡ read)) ⊎ ((is_skipped (fields_of line) ≡ false) × Says makers read number (fields_of line) more)
    chosen true is step = inl (is, cc)
    chosen false is step = inr (is, answered (Says makers read number (fields_of line)) (judged makers read number line) more step (judged_says makers read number line))

-- a step that goes on
pub going : (step : Result Reader BadKind) (number : ℕ) (rest : Reader → Result Reader Refusal) (whole : Reader) → go_on step number rest ≡ Ok whole
    → (more : Reader) × (step ≡ Ok more) × (rest more ≡ Ok whole)
going (Ok more) number rest whole same = (more, refl, same)
going (Err kind) number rest whole same = absurd cc

-- what each accepted line keeps, where something else holds of the line, is kept along a text
module _ (makers : Makers) (P : ℕ → Reader → Type 0) (Q : ℕ → Part → Type 0)
    (step : (read more : Reader) (number : ℕ) (line : Part) → P number read → Q number line → read_line makers read number line ≡ Ok more → P (number + 1) more) where
  pub along : (lines : List Part) (read whole : Reader) (number : ℕ) → ((i : ℕ) (d : Part) → i < length lines → Q (number + i) (get_or lines i d)) → P number read
      → read_from makers read number lines ≡ Ok whole → P (number + length lines) whole
  along [] read whole number each before same =
      let count : number + 0 ≡ number = omega arith in
      let is : read ≡ whole = cc in
      rw (count, ← is) before
  along (line ∷ lines) read whole number each before same =
      let first : Q number line = subst (λ (n : ℕ). Q n line) (let is : number + 0 ≡ number = omega arith in is) (each 0 line (omega arith)) in
      let went = going (read_line makers read number line) number (λ more. read_from makers more (number + 1) lines) whole same in
      subst (λ (n : ℕ). P n whole) (let is : number + 1 + length lines ≡ number + length (line ∷ lines) = omega arith in is)
      (along lines went.0 whole (number + 1) (λ i d within. subst (λ (n : ℕ). Q n (get_or lines i d)) (let is : number + suc i ≡ number + 1 + i = omega arith in is) (each (suc i) d (omega (arith, within))))
      (step read went.0 number line before first went.1) went.2)
