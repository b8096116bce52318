-- The numbers of an accepted setup line are within their ranges.
use Rattle.std.proofs.Common.{◌≡◌, ℕ, ◌<◌, ◌≤◌, Bool, true, false, List, [], ◌∷◌, length, refl, arith}
use Rattle.std.specs.Prelude.{Some, Ok, IfOk, IsTrue, nat_lt, not}
use Rattle.std.proofs.lemmas.Bool.Decides.{nat_tests}
use Rattle.hp_base.specs.Pages.{is_page_size}
use Rattle.hp_base.specs.PoolLines.{IsPoolLine}
use Rattle.hp_script.specs.Part.{Part}
use Rattle.hp_script.specs.Numbers.{numeral}
use Rattle.hp_script.specs.Judge.{is_within, number_field, party_field}
use Rattle.hp_script.specs.ShapeWords.ShapesSetup.{slots_field, pool_line, participants_line, absent_line, socket_line, deadline_line, message_line, counted_line, mapping_line}
use Rattle.hp_script.specs.ShapeWords.Shapes.{setup_act, setup_line}
use Rattle.hp_script.specs.ShapeWords.Verbs.{setup_named, kind_named}
use Rattle.hp_script.specs.declared.bad_kind.BadKind.TheVariants as bad
use Rattle.hp_script.specs.declared.verb.SetupVerb.{SetupVerb}
use Rattle.hp_script.specs.declared.verb.SetupVerb.TheVariants as setup_verb
use Rattle.hp_script.specs.declared.shape.Setup.{Setup as SetupLine}
use Rattle.hp_script.specs.declared.shape.Setup.TheVariants.{Participants, Absent, Socket, Deadline, Pool, Message, Mapping}
use Rattle.hp_script.specs.declared.shape.Shape.{Shape}
use Rattle.hp_script.specs.declared.shape.Shape.TheVariants.{Setup}
use Rattle.hp_script.proofs.StepLemmas.{through, passed, present, answered}

-- the socket of a participant that fields name
pub record IsSocketOf (arguments : List Part) (party socket : ℕ) : Type 0 where
  pub field : Part
  pub others : List Part
  pub arguments_are : arguments ≡ field ∷ others
  pub party_is : numeral 10 field.text ≡ Some party
  pub low : socket < 32

-- a setup comes of its verb, and its numbers are within their ranges where a run asks for them
abbrev pub IsSetupBy : SetupVerb → List Part → SetupLine → Type 0
IsSetupBy verb arguments (Participants count) = (verb ≡ setup_verb.Participants) × (1 ≤ count) × (count ≤ 16)
IsSetupBy verb arguments (Absent party) = (verb ≡ setup_verb.Absent) × (1 ≤ party)
IsSetupBy verb arguments (Socket party socket) = (verb ≡ setup_verb.Socket) × IsSocketOf arguments party socket
IsSetupBy verb arguments (Deadline ms) = verb ≡ setup_verb.Deadline
IsSetupBy verb arguments (Pool pool) = (verb ≡ setup_verb.Pool) × IsPoolLine pool
IsSetupBy verb arguments (Message kind party k twice) = (verb ≡ setup_verb.Message twice) × (1 ≤ k) × (k ≤ 1000000)
IsSetupBy verb arguments (Mapping party call elsewhere) = (verb ≡ setup_verb.Mapping elsewhere) × (1 ≤ call) × (call ≤ 1000000)

of_not : (test : Bool) → not test ≡ false → IsTrue test
of_not true is = refl
of_not false is = absurd cc

pool_ranges : (arguments : List Part) → IfOk (pool_line arguments) (IsSetupBy setup_verb.Pool arguments)
unfolding pool_line
pool_ranges [] = tt
pool_ranges (s ∷ []) = tt
pool_ranges (s ∷ size ∷ []) = tt
pool_ranges (s ∷ size ∷ n ∷ words) =
    passed (nat_lt 1 (length words)) bad.Fields _ _ (λ few.
    through (number_field s) _ _ (λ socket _.
    through (number_field size) _ _ (λ page _.
    through (number_field n) _ _ (λ pages _.
    through (slots_field words pages) _ _ (λ slots _.
    passed (nat_lt 31 socket) bad.Range _ _ (λ low_socket.
    passed (not (is_page_size page)) bad.Range _ _ (λ sized.
    passed (nat_lt 8192 pages) bad.Range _ _ (λ few_pages.
    passed (not (is_within 1 8192 slots)) bad.Range _ _ (λ few_slots. (
      refl,
      record {
        socket = grind (arith, nat_tests, low_socket);
        page = of_not (is_page_size page) sized;
        pages = grind (arith, nat_tests, few_pages);
        some = grind (arith, nat_tests, few_slots);
        slots = grind (arith, nat_tests, few_slots);
      },
    ))))))))))

socket_ranges : (arguments : List Part) → IfOk (socket_line arguments) (IsSetupBy setup_verb.Socket arguments)
unfolding socket_line
socket_ranges [] = tt
socket_ranges (p ∷ []) = tt
socket_ranges (p ∷ s ∷ []) =
    present (numeral 10 p.text) bad.Number _ _ (λ party party_is.
    through (number_field s) _ _ (λ socket _.
    passed (nat_lt 31 socket) bad.Range _ _ (λ low.
    (refl, record { field = p; others = s ∷ []; arguments_are = refl; party_is = party_is; low = grind (arith, nat_tests, low) }))))
socket_ranges (p ∷ s ∷ other ∷ others) = tt

participants_ranges : (arguments : List Part) → IfOk (participants_line arguments) (IsSetupBy setup_verb.Participants arguments)
unfolding participants_line
participants_ranges [] = tt
participants_ranges (n ∷ []) = through (number_field n) _ _ (λ count _. passed (not (is_within 1 16 count)) bad.Range _ _ (λ within. (refl, grind (arith, nat_tests, within), grind (arith, nat_tests, within))))
participants_ranges (n ∷ other ∷ others) = tt

absent_ranges : (arguments : List Part) → IfOk (absent_line arguments) (IsSetupBy setup_verb.Absent arguments)
unfolding absent_line
absent_ranges [] = tt
absent_ranges (p ∷ []) = through (party_field p) _ _ (λ party _. passed (not (is_within 1 15 party)) bad.Range _ _ (λ within. (refl, grind (arith, nat_tests, within))))
absent_ranges (p ∷ other ∷ others) = tt

deadline_ranges : (arguments : List Part) → IfOk (deadline_line arguments) (IsSetupBy setup_verb.Deadline arguments)
unfolding deadline_line
deadline_ranges [] = tt
deadline_ranges (n ∷ []) = through (number_field n) _ _ (λ ms _. passed (not (is_within 1 3600000 ms)) bad.Range _ _ (λ within. refl))
deadline_ranges (n ∷ other ∷ others) = tt

counted_ranges : (arguments : List Part) → IfOk (counted_line arguments) (λ counted. (1 ≤ counted.1) × (counted.1 ≤ 1000000))
unfolding counted_line
counted_ranges [] = tt
counted_ranges (p ∷ []) = tt
counted_ranges (p ∷ n ∷ []) =
    through (party_field p) _ _ (λ party _.
    through (number_field n) _ _ (λ k _.
    passed (not (is_within 1 1000000 k)) bad.Range _ _ (λ within. (grind (arith, nat_tests, within), grind (arith, nat_tests, within)))))
counted_ranges (p ∷ n ∷ other ∷ others) = tt

counted_is : (arguments : List Part) (counted : ℕ × ℕ) → counted_line arguments ≡ Ok counted → (1 ≤ counted.1) × (counted.1 ≤ 1000000)
counted_is arguments counted same = answered (λ (some : ℕ × ℕ). (1 ≤ some.1) × (some.1 ≤ 1000000)) (counted_line arguments) counted same (counted_ranges arguments)

message_ranges : (twice : Bool) (arguments : List Part) → IfOk (message_line twice arguments) (IsSetupBy (setup_verb.Message twice) arguments)
unfolding message_line
message_ranges twice [] = tt
message_ranges twice (word ∷ others) = present (kind_named word) bad.Verb _ _ (λ kind _. through (counted_line others) _ _ (λ counted is. let within = counted_is others counted is in (refl, within.0, within.1)))

mapping_ranges : (elsewhere : Bool) (arguments : List Part) → IfOk (mapping_line elsewhere arguments) (IsSetupBy (setup_verb.Mapping elsewhere) arguments)
unfolding mapping_line
mapping_ranges elsewhere arguments = through (counted_line arguments) _ _ (λ counted is. let within = counted_is arguments counted is in (refl, within.0, within.1))

setup_act_ranges : (verb : SetupVerb) (arguments : List Part) → IfOk (setup_act verb arguments) (IsSetupBy verb arguments)
setup_act_ranges setup_verb.Participants arguments = participants_ranges arguments
setup_act_ranges setup_verb.Absent arguments = absent_ranges arguments
setup_act_ranges setup_verb.Socket arguments = socket_ranges arguments
setup_act_ranges setup_verb.Deadline arguments = deadline_ranges arguments
setup_act_ranges setup_verb.Pool arguments = pool_ranges arguments
setup_act_ranges (setup_verb.Message twice) arguments = message_ranges twice arguments
setup_act_ranges (setup_verb.Mapping elsewhere) arguments = mapping_ranges elsewhere arguments

-- what a setup line says, by the verb of its word
pub record IsSetupOf (word : Part) (arguments : List Part) (setup : SetupLine) : Type 0 where
  pub verb : SetupVerb
  pub named : setup_named word ≡ Some verb
  pub act : setup_act verb arguments ≡ Ok setup
  pub ranges : IsSetupBy verb arguments setup

-- a line says such a setup
abbrev pub SaysSetup : Part → List Part → Shape → Type 0
SaysSetup word arguments (Setup setup) = IsSetupOf word arguments setup
SaysSetup word arguments _ = ⊥

pub setup_line_says : (word : Part) (arguments : List Part) → IfOk (setup_line word arguments) (SaysSetup word arguments)
unfolding setup_line
setup_line_says word arguments =
    present (setup_named word) bad.Verb _ _ (λ verb named.
    through (setup_act verb arguments) _ _ (λ setup acts.
    record { verb = verb; named = named; act = acts; ranges = answered (IsSetupBy verb arguments) (setup_act verb arguments) setup acts (setup_act_ranges verb arguments) }))
