-- What an accepted participant line says: an allocation comes of the verb `alloc` alone, with the label, the size and the options that stand in its fields.
use Rattle.std.proofs.Common.{◌≡◌, ℕ, ◌<◌, ◌≤◌, ◌^◌, arith, Bool, true, false, List, [], ◌∷◌, length, refl, sym, cond, ◌⊎◌, inl, inr}
use Rattle.std.specs.Prelude.{Some, Result, Ok, Err, IfOk, nat_lt, not, ⊤}
use Rattle.std.proofs.lemmas.Bool.Decides.{nat_tests}
use Rattle.hp_script.specs.Part.{Part}
use Rattle.hp_script.specs.Numbers.{numeral, number}
use Rattle.hp_script.specs.Judge.{is_within, number_field, party_field}
use Rattle.hp_script.specs.ShapeWords.Options.{options_of}
use Rattle.hp_script.specs.Facts.{IsActOf, IsRange}
use Rattle.hp_base.specs.declared.limits.TheConstants.{MAX_PARTICIPANTS}
use Rattle.hp_script.specs.ShapeWords.ActVerbs.{verb_of}
use Rattle.hp_script.specs.ShapeWords.Verbs.{verb_named}
use Rattle.hp_script.specs.ShapeWords.ShapesMemory.{alloc_line, zone_line, resize_line}
use Rattle.hp_script.specs.ShapeWords.ShapesHeaps.{name_act, name_line, range_act, range_line, add_line}
use Rattle.hp_script.specs.ShapeWords.ShapesMembers.{member_act, member_line, is_allow, limit_line, unlimit_line, await_line}
use Rattle.hp_script.specs.ShapeWords.Shapes.{is_participant_line, act_line, participant_line, setup_line, shape_of}
use Rattle.hp_script.specs.declared.bad_kind.BadKind.{BadKind}
use Rattle.hp_script.specs.declared.bad_kind.BadKind.TheVariants as bad
use Rattle.hp_script.specs.declared.line.Act.{Act}
use Rattle.hp_script.specs.declared.line.Act.TheVariants as act
use Rattle.hp_script.specs.declared.options.Options.{Options}
use Rattle.hp_script.specs.declared.verb.Verb.{Verb}
use Rattle.hp_script.specs.declared.verb.Verb.TheVariants as verb
use Rattle.hp_script.specs.declared.verb.NameCall.{NameCall}
use Rattle.hp_script.specs.declared.verb.NameCall.TheVariants as name_call
use Rattle.hp_script.specs.declared.verb.RangeCall.{RangeCall}
use Rattle.hp_script.specs.declared.verb.RangeCall.TheVariants as range_call
use Rattle.hp_script.specs.declared.verb.MemberCall.{MemberCall}
use Rattle.hp_script.specs.declared.verb.MemberCall.TheVariants as member_call
use Rattle.hp_script.specs.declared.shape.Shape.{Shape}
use Rattle.hp_script.specs.declared.shape.Shape.TheVariants.{Setup, Does, Awaits}
use Rattle.hp_script.proofs.NumberLemmas.{number_fits}
use Rattle.hp_script.proofs.TokenFacts.OptionFacts.{options_valid}
use Rattle.hp_script.proofs.StepLemmas.{through, passed, present, answered}
use Rattle.hp_script.proofs.SetupRanges.{SaysSetup, setup_line_says}

-- the allocation that fields after a participant say
pub record IsAllocOf (p : Part) (v : Verb) (arguments : List Part) (party : ℕ) (label : Part) (size : ℕ) (options : Options) : Type 0 where
  pub verb_is : v ≡ verb.Alloc
  pub size_field : Part
  pub words : List Part
  pub arguments_are : arguments ≡ label ∷ size_field ∷ words
  pub party_is : numeral 10 p.text ≡ Some party
  pub fits : size < 2 ^ 64
  pub given : options_of words ≡ Some options

-- an act comes of its verb, and an allocation of such fields
abbrev pub IsMadeBy : Part → Verb → List Part → ℕ → Act → Type 0
IsMadeBy p v arguments party (act.Alloc label size options) = IsAllocOf p v arguments party label size options
IsMadeBy p v arguments party deed = verb_of deed ≡ v

-- an act awaits nothing
abbrev pub DoesNotAwait : Act → Type 0
DoesNotAwait (act.Await other k) = ⊥
DoesNotAwait _ = ⊤

-- a line says such an act, or awaits
abbrev pub SaysAct : Part → Verb → List Part → Shape → Type 0
SaysAct p v arguments (Setup setup) = ⊥
SaysAct p v arguments (Does party deed) = IsMadeBy p v arguments party deed × IsActOf party deed × DoesNotAwait deed
SaysAct p v arguments (Awaits party other k) = (v ≡ verb.Await) × (1 ≤ k)

module _ (p : Part) where
  alloc_says : (arguments : List Part) → IfOk (alloc_line p arguments) (SaysAct p verb.Alloc arguments)
  unfolding alloc_line
  alloc_says [] = tt
  alloc_says (label ∷ []) = tt
  alloc_says (label ∷ n ∷ words) =
      present (numeral 10 p.text) bad.Number _ _ (λ party party_is.
      present (number n.text) bad.Number _ _ (λ size size_is.
      present (options_of words) bad.Option _ _ (λ options given. (
        record {
          verb_is = refl;
          size_field = n;
          words = words;
          arguments_are = refl;
          party_is = party_is;
          fits = rw size_is at (number_fits n.text);
          given = given;
        },
        (rw size_is at (number_fits n.text), options_valid words options given),
        tt,
      ))))

  zone_says : (arguments : List Part) → IfOk (zone_line p arguments) (SaysAct p verb.Zone arguments)
  unfolding zone_line
  zone_says [] = tt
  zone_says (name ∷ []) = tt
  zone_says (name ∷ n ∷ words) =
      through (party_field p) _ _ (λ party _.
      present (number n.text) bad.Number _ _ (λ len len_is.
      passed (nat_lt len 1) bad.Range _ _ (λ some.
      present (options_of words) bad.Option _ _ (λ options given.
      (refl, (grind (arith, nat_tests, some), rw len_is at (number_fits n.text), options_valid words options given), tt)))))

  resize_says : (arguments : List Part) → IfOk (resize_line p arguments) (SaysAct p verb.Resize arguments)
  unfolding resize_line
  resize_says [] = tt
  resize_says (label ∷ []) = tt
  resize_says (label ∷ n ∷ []) =
      through (party_field p) _ _ (λ party _.
      present (number n.text) bad.Number _ _ (λ size size_is. (refl, rw size_is at (number_fits n.text), tt)))
  resize_says (label ∷ n ∷ other ∷ others) = tt

  name_act_is : (call : NameCall) (arguments : List Part) (party : ℕ) (name : Part) → IsMadeBy p (verb.Name call) arguments party (name_act call name) × IsActOf party (name_act call name) × DoesNotAwait (name_act call name)
  name_act_is name_call.Free arguments party name = (refl, tt, tt)
  name_act_is name_call.Lookup arguments party name = (refl, tt, tt)
  name_act_is name_call.Unzone arguments party name = (refl, tt, tt)
  name_act_is name_call.Heap arguments party name = (refl, tt, tt)
  name_act_is name_call.Unheap arguments party name = (refl, tt, tt)
  name_act_is name_call.Watch arguments party name = (refl, tt, tt)
  name_act_is name_call.Unwatch arguments party name = (refl, tt, tt)
  name_act_is name_call.Dump arguments party name = (refl, tt, tt)
  name_act_is name_call.Stats arguments party name = (refl, tt, tt)

  name_says : (call : NameCall) (arguments : List Part) → IfOk (name_line call p arguments) (SaysAct p (verb.Name call) arguments)
  unfolding name_line
  name_says call [] = tt
  name_says call (name ∷ []) = through (party_field p) _ _ (λ party _. name_act_is call (name ∷ []) party name)
  name_says call (name ∷ other ∷ others) = tt

  range_act_is : (call : RangeCall) (arguments : List Part) (party : ℕ) (heap : Part) (addr len : ℕ) → IsRange addr len → IsMadeBy p (verb.Range call) arguments party (range_act call heap addr len) × IsActOf party (range_act call heap addr len) × DoesNotAwait (range_act call heap addr len)
  range_act_is range_call.Remove arguments party heap addr len fits = (refl, fits, tt)
  range_act_is range_call.Map arguments party heap addr len fits = (refl, fits, tt)
  range_act_is range_call.Unmap arguments party heap addr len fits = (refl, fits, tt)

  range_says : (call : RangeCall) (arguments : List Part) → IfOk (range_line call p arguments) (SaysAct p (verb.Range call) arguments)
  unfolding range_line
  range_says call [] = tt
  range_says call (heap ∷ []) = tt
  range_says call (heap ∷ a ∷ []) = tt
  range_says call (heap ∷ a ∷ n ∷ []) =
      through (party_field p) _ _ (λ party _.
      present (number a.text) bad.Number _ _ (λ addr addr_is.
      present (number n.text) bad.Number _ _ (λ len len_is. range_act_is call (heap ∷ a ∷ n ∷ []) party heap addr len (rw addr_is at (number_fits a.text), rw len_is at (number_fits n.text)))))
  range_says call (heap ∷ a ∷ n ∷ other ∷ others) = tt

  add_says : (arguments : List Part) → IfOk (add_line p arguments) (SaysAct p verb.Add arguments)
  unfolding add_line
  add_says [] = tt
  add_says (heap ∷ []) = tt
  add_says (heap ∷ a ∷ []) = tt
  add_says (heap ∷ a ∷ n ∷ []) = tt
  add_says (heap ∷ a ∷ n ∷ size ∷ []) =
      through (party_field p) _ _ (λ party _.
      present (number a.text) bad.Number _ _ (λ addr addr_is.
      present (number n.text) bad.Number _ _ (λ len len_is.
      present (number size.text) bad.Number _ _ (λ page page_is.
      (refl, ((rw addr_is at (number_fits a.text), rw len_is at (number_fits n.text)), rw page_is at (number_fits size.text)), tt)))))
  add_says (heap ∷ a ∷ n ∷ size ∷ other ∷ others) = tt

  member_act_is : (call : MemberCall) (party : ℕ) → (1 ≤ party) × (party < MAX_PARTICIPANTS) → IsMadeBy p (verb.Member call) [] party (member_act call) × IsActOf party (member_act call) × DoesNotAwait (member_act call)
  member_act_is member_call.Attach party within = (refl, within, tt)
  member_act_is member_call.Detach party within = (refl, within, tt)

  member_says : (call : MemberCall) (arguments : List Part) → IfOk (member_line call p arguments) (SaysAct p (verb.Member call) arguments)
  unfolding member_line
  member_says call [] =
      through (party_field p) _ _ (λ party _.
      passed (not (is_within 1 15 party)) bad.Range _ _ (λ within. member_act_is call party (grind (arith, nat_tests, within), grind (arith, nat_tests, within))))
  member_says call (other ∷ others) = tt

  limit_says : (arguments : List Part) → IfOk (limit_line p arguments) (SaysAct p verb.Limit arguments)
  unfolding limit_line
  limit_says [] = tt
  limit_says (name ∷ []) = tt
  limit_says (name ∷ s ∷ []) = tt
  limit_says (name ∷ s ∷ n ∷ words) =
      passed (nat_lt 1 (length words)) bad.Fields _ _ (λ few.
      through (party_field p) _ _ (λ party _.
      through (number_field s) _ _ (λ socket _.
      present (number n.text) bad.Number _ _ (λ bytes bytes_is.
      passed (nat_lt 0 party) bad.Range _ _ (λ primary.
      passed (nat_lt 31 socket) bad.Range _ _ (λ within.
      through (is_allow words) _ _ (λ allow _.
      (refl, (grind (arith, nat_tests, primary), grind (arith, nat_tests, within), rw bytes_is at (number_fits n.text)), tt))))))))

  unlimit_says : (arguments : List Part) → IfOk (unlimit_line p arguments) (SaysAct p verb.Unlimit arguments)
  unfolding unlimit_line
  unlimit_says [] = tt
  unlimit_says (name ∷ []) = tt
  unlimit_says (name ∷ s ∷ []) =
      through (party_field p) _ _ (λ party _.
      through (number_field s) _ _ (λ socket _.
      passed (nat_lt 0 party) bad.Range _ _ (λ primary.
      passed (nat_lt 31 socket) bad.Range _ _ (λ within. (refl, (grind (arith, nat_tests, primary), grind (arith, nat_tests, within)), tt)))))
  unlimit_says (name ∷ s ∷ other ∷ others) = tt

  await_says : (arguments : List Part) → IfOk (await_line p arguments) (SaysAct p verb.Await arguments)
  unfolding await_line
  await_says [] = tt
  await_says (q ∷ []) = tt
  await_says (q ∷ k ∷ []) =
      through (party_field p) _ _ (λ party _.
      through (party_field q) _ _ (λ other _.
      through (number_field k) _ _ (λ lines _.
      passed (nat_lt lines 1) bad.Range _ _ (λ some. (refl, grind (arith, nat_tests, some))))))
  await_says (q ∷ k ∷ other ∷ others) = tt

  act_line_says : (v : Verb) (arguments : List Part) → IfOk (act_line v p arguments) (SaysAct p v arguments)
  act_line_says verb.Alloc arguments = alloc_says arguments
  act_line_says verb.Zone arguments = zone_says arguments
  act_line_says verb.Resize arguments = resize_says arguments
  act_line_says (verb.Name call) arguments = name_says call arguments
  act_line_says (verb.Member call) arguments = member_says call arguments
  act_line_says verb.Add arguments = add_says arguments
  act_line_says (verb.Range call) arguments = range_says call arguments
  act_line_says verb.Limit arguments = limit_says arguments
  act_line_says verb.Unlimit arguments = unlimit_says arguments
  act_line_says verb.Await arguments = await_says arguments

-- what a participant line says, by its word and the fields after
pub record IsCall (p : Part) (others : List Part) (said : Shape) : Type 0 where
  pub word : Part
  pub arguments : List Part
  pub others_are : others ≡ word ∷ arguments
  pub verb : Verb
  pub named : verb_named word ≡ Some verb
  pub says : SaysAct p verb arguments said

participant_line_says : (p : Part) (others : List Part) → IfOk (participant_line p others) (IsCall p others)
unfolding participant_line
participant_line_says p [] = tt
participant_line_says p (word ∷ arguments) =
    present (verb_named word) bad.Verb _ _ (λ v named.
    says v named (act_line v p arguments) (act_line_says p v arguments))
  where
    says : (v : Verb) → verb_named word ≡ Some v → (shape : Result Shape BadKind) → IfOk shape (SaysAct p v arguments) → IfOk shape (IsCall p (word ∷ arguments))
    says v named (Ok said) holds = record { word = word; arguments = arguments; others_are = refl; verb = v; named = named; says = holds }
    says v named (Err kind) holds = tt

-- fields say a call of a participant, or a setup
abbrev pub SaysBy : Part → List Part → Shape → Type 0
SaysBy first others said =
    ((is_participant_line first ≡ true) × IsCall first others said) ⊎ ((is_participant_line first ≡ false) × SaysSetup first others said)

pub shape_says : (first : Part) (others : List Part) (said : Shape) → shape_of (first ∷ others) ≡ Ok said → SaysBy first others said
shape_says first others said same = chosen (is_participant_line first) refl same
  where
    chosen : (test : Bool) → is_participant_line first ≡ test → cond test (participant_line first others) (setup_line first others) ≡ Ok said → SaysBy first others said
    chosen true is shape = inl (is, answered (IsCall first others) (participant_line first others) said shape (participant_line_says first others))
    chosen false is shape = inr (is, answered (SaysSetup first others) (setup_line first others) said shape (setup_line_says first others))

-- an act comes of its verb
pub verb_made : (p : Part) (v : Verb) (arguments : List Part) (party : ℕ) (deed : Act) → IsMadeBy p v arguments party deed → verb_of deed ≡ v
verb_made p v arguments party (act.Alloc label size options) is = sym is.verb_is
verb_made p v arguments party (act.Free label) is = is
verb_made p v arguments party (act.Resize label size) is = is
verb_made p v arguments party (act.Zone name len options) is = is
verb_made p v arguments party (act.Lookup name) is = is
verb_made p v arguments party (act.Unzone name) is = is
verb_made p v arguments party act.Attach is = is
verb_made p v arguments party act.Detach is = is
verb_made p v arguments party (act.Heap name) is = is
verb_made p v arguments party (act.Unheap name) is = is
verb_made p v arguments party (act.Add heap addr len page) is = is
verb_made p v arguments party (act.Remove heap addr len) is = is
verb_made p v arguments party (act.Map heap addr len) is = is
verb_made p v arguments party (act.Unmap heap addr len) is = is
verb_made p v arguments party (act.Watch name) is = is
verb_made p v arguments party (act.Unwatch name) is = is
verb_made p v arguments party (act.Limit name socket bytes allow) is = is
verb_made p v arguments party (act.Unlimit name socket) is = is
verb_made p v arguments party (act.Await other lines) is = is
verb_made p v arguments party (act.Dump heap) is = is
verb_made p v arguments party (act.Stats heap) is = is
