-- The fields of the lines that join and leave, limit a socket and wait, and their first refusal.
use Rattle.std.specs.Prelude.{Bool, true, false, not, nat_lt, List, [], ◌∷◌, length, Result, Ok, Err, if◌then◌else◌, codes}
use Rattle.hp_script.specs.Part.{Part, is_word}
use Rattle.hp_script.specs.Judge.{◌>>=◌, refuse, is_within, number_field, party_field}
use Rattle.hp_script.specs.declared.bad_kind.BadKind.{BadKind}
use Rattle.hp_script.specs.declared.bad_kind.BadKind.TheVariants as bad
use Rattle.hp_script.specs.declared.line.Act.{Act}
use Rattle.hp_script.specs.declared.line.Act.TheVariants as act
use Rattle.hp_script.specs.declared.verb.MemberCall.{MemberCall}
use Rattle.hp_script.specs.declared.verb.MemberCall.TheVariants as member_call
use Rattle.hp_script.specs.declared.shape.Shape.{Shape}
use Rattle.hp_script.specs.declared.shape.Shape.TheVariants.{Does, Awaits}

abbrev pub member_act : MemberCall → Act
member_act member_call.Attach = act.Attach
member_act member_call.Detach = act.Detach

-- `<p> attach` and `<p> detach`, of participants 1 to 15
unfoldable pub member_line : MemberCall → Part → List Part → Result Shape BadKind
member_line call p [] = do
  party ← party_field p
  within ← refuse (not (is_within 1 15 party)) bad.Range
  Ok (Does party (member_act call))
member_line call p _ = Err bad.Fields

-- after a limit stands nothing, or `allow`
abbrev pub is_allow : List Part → Result Bool BadKind
is_allow [] = Ok false
is_allow (word ∷ others) = if is_word (codes "allow") word then Ok true else Err bad.Option

-- `0 limit <name> <s> <bytes> [allow]`
unfoldable pub limit_line : Part → List Part → Result Shape BadKind
limit_line p (name ∷ s ∷ n ∷ words) = do
  few ← refuse (nat_lt 1 (length words)) bad.Fields
  party ← party_field p
  socket ← number_field s
  bytes ← number_field n
  primary ← refuse (nat_lt 0 party) bad.Range
  within ← refuse (nat_lt 31 socket) bad.Range
  allow ← is_allow words
  Ok (Does party (act.Limit name socket bytes allow))
limit_line p _ = Err bad.Fields

-- `0 unlimit <name> <s>`
unfoldable pub unlimit_line : Part → List Part → Result Shape BadKind
unlimit_line p (name ∷ s ∷ []) = do
  party ← party_field p
  socket ← number_field s
  primary ← refuse (nat_lt 0 party) bad.Range
  within ← refuse (nat_lt 31 socket) bad.Range
  Ok (Does party (act.Unlimit name socket))
unlimit_line p _ = Err bad.Fields

-- `<p> await <q> <k>`, of at least one line
unfoldable pub await_line : Part → List Part → Result Shape BadKind
await_line p (q ∷ k ∷ []) = do
  party ← party_field p
  other ← party_field q
  lines ← number_field k
  some ← refuse (nat_lt lines 1) bad.Range
  Ok (Awaits party other lines)
await_line p _ = Err bad.Fields
