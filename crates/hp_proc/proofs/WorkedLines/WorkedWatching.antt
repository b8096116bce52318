-- Worked values: watchers, with what they are told by the end, and validators.
use Rattle.std.proofs.Common.{◌≡◌, refl, ap, arith, ℕ, ◌^◌, Bool, true, false, not, ◌&&◌, ◌||◌, List, [], ◌∷◌, None}
use Rattle.std.specs.Prelude.{codes}
use Rattle.std.proofs.lemmas.List.Elements.{All-cons, All-head, All-nil}
use Rattle.hp_base.specs.declared.event.Event.{Event}
use Rattle.hp_base.specs.declared.event.EventKind.{EventKind}
use Rattle.hp_base.specs.declared.event.EventKind.TheVariants.{Alloc, Free}
use Rattle.hp_base.specs.declared.row.Row.{Row}
use Rattle.hp_events.specs.Validators.{Allows, AreAnswered, IsAsked}
use Rattle.hp_events.specs.declared.validator.Validator.{Validator}
use Rattle.hp_maps.specs.Bytes.{AreTold, bytes_after, has_byte, in_event}
use Rattle.hp_script.specs.Part.{Part}
use Rattle.hp_script.specs.declared.answer.Answer.TheVariants as answer
use Rattle.hp_script.specs.declared.line.Act.TheVariants as act
use Rattle.hp_serve.specs.Denials.{AnswersSo}
use Rattle.hp_proc.specs.Registering.{limiting, unlimiting, unwatching, validators_after, watchers_after, watching}

abbrev pub part : List ℕ → Part
part text = record { base = (0, 0); start = 0; text = text }

-- four watchers; a fifth is none; and one of a name that is there
abbrev pub four : List (List ℕ)
four = codes "a" ∷ codes "b" ∷ codes "c" ∷ codes "d" ∷ []

a_watcher : watching [] (codes "w") ≡ answer.Done
a_watcher = refl

a_fifth : watching four (codes "w") ≡ answer.Full
a_fifth = refl

one_again : watching four (codes "c") ≡ answer.Exists
one_again = refl

one_gone : unwatching four (codes "c") ≡ answer.Done
one_gone = refl

none_there : unwatching four (codes "w") ≡ answer.NotFound
none_there = refl

others_left : watchers_after (act.Unwatch (part (codes "c"))) answer.Done four ≡ codes "a" ∷ codes "b" ∷ codes "d" ∷ []
others_left = refl

-- a page of 2M comes, and goes
abbrev pub event : EventKind → Event
event kind = record { kind = kind; addr = 2 ^ 32; len = 2 ^ 21 }

abbrev row : Row
row = record { addr = 2 ^ 32; page = 2 ^ 21; socket = 0; list = 0; slot = 0; generation = 1 }

-- the bytes of the page are told to come and to go; each event fits what was there before it
lies_there : (byte : ℕ) → in_event byte (event Free) ≡ true → bytes_after (event Alloc) (has_byte []) byte ≡ true
lies_there byte inside = ap (λ told. told || false) inside

gone_again : (inside : Bool) → ((inside || false) && not inside) ≡ false
gone_again true = refl
gone_again false = refl

told_of_a_page : AreTold (event Alloc ∷ []) [] (row ∷ [])
told_of_a_page = record { fit = ((λ byte inside. refl), tt); leave = λ byte. refl }

pub told_that_it_went : AreTold (event Alloc ∷ event Free ∷ []) [] []
told_that_it_went = record {
  fit = ((λ byte inside. refl), (lies_there, tt));
  leave = λ byte. gone_again (in_event byte (event Free));
}

-- one that was not told that it went was told too little, and so was one that was told nothing of a page that came
untold_that_it_went : AreTold (event Alloc ∷ []) [] [] → ⊥
untold_that_it_went told = let wrong : true ≡ false = told.leave (2 ^ 32) in cc

untold_of_a_page : AreTold [] [] (row ∷ []) → ⊥
untold_of_a_page told = let wrong : false ≡ true = told.leave (2 ^ 32) in cc

-- a validator that denies more than 2M on socket 0, and one that allows it
abbrev pub cap : Bool → Validator Bool
cap allows = record { name = codes "cap"; socket = 0; limit = 2 ^ 21; allows = allows }

a_limit : limiting [] (codes "cap") 0 ≡ answer.Done
a_limit = refl

a_limit_again : limiting (cap false ∷ []) (codes "cap") 0 ≡ answer.Exists
a_limit_again = refl

on_another_socket : limiting (cap false ∷ []) (codes "cap") 1 ≡ answer.Done
on_another_socket = refl

no_such_limit : unlimiting (cap false ∷ []) (codes "cap") 1 ≡ answer.NotFound
no_such_limit = refl

registered : validators_after (act.Limit (part (codes "cap")) 0 (2 ^ 21) false) answer.Done [] ≡ cap false ∷ []
registered = refl

unregistered : validators_after (act.Unlimit (part (codes "cap")) 0) answer.Done (cap false ∷ []) ≡ []
unregistered = refl

-- at its limit it is not asked; above it it denies
pub at_the_limit : AreAnswered AnswersSo 0 (2 ^ 21) (cap false ∷ []) None
at_the_limit =
    All-cons (Allows AnswersSo 0 (2 ^ 21)) (cap false) [] (λ asked. absurd (omega (arith, asked.above))) (All-nil (Allows AnswersSo 0 (2 ^ 21)))

above_the_limit : AreAnswered AnswersSo 0 (2 ^ 22) (cap false ∷ []) None → ⊥
above_the_limit allow =
    let asked : IsAsked 0 (2 ^ 22) (cap false) = record { its_socket = refl; above = omega arith } in
    let allowed : true ≡ false = All-head (Allows AnswersSo 0 (2 ^ 22)) (cap false) [] allow asked in
    cc

allowed_above_it : AreAnswered AnswersSo 0 (2 ^ 22) (cap true ∷ []) None
allowed_above_it =
    All-cons (Allows AnswersSo 0 (2 ^ 22)) (cap true) [] (λ asked. refl) (All-nil (Allows AnswersSo 0 (2 ^ 22)))
