-- What is read so far, and then a line, is read alike where only tokens stand elsewhere.
use Rattle.std.proofs.Common.{◌≡◌, ℕ, ◌+◌, Bool, false, List, [], ◌∷◌, ◌++◌, length, refl, sym, ap, ◌∙◌, cond, arith}
use Rattle.std.specs.Prelude.{Option, Some, None, ⊤, is_some, nat_le, nat_lt, ◌==◌}
use Rattle.std.specs.List.{list_any}
use Rattle.std.specs.Option.{option_map, option_map_or}
use Rattle.std.proofs.lemmas.List.Sums.{sum_by-cons}
use Rattle.hp_script.specs.Part.{Part}
use Rattle.hp_script.specs.Judge.{refuse}
use Rattle.hp_script.specs.Marks.{is_marked}
use Rattle.hp_script.specs.Counts.{segments_of, is_same_pool, message_event, mapping_event, is_planned, lines_by}
use Rattle.hp_script.specs.Makers.{Makers, is_taken, is_unmade}
use Rattle.hp_script.specs.ShapeWords.Acts.{label_made, label_used, is_duplicate, is_unknown, add_line, add_act, add_await}
use Rattle.hp_script.specs.Setups.{is_strange, set_participants, set_absent, set_socket, set_deadline, add_pool, add_message, add_mapping, setup_step, set_up}
use Rattle.hp_script.specs.Reading.{said_step}
use Rattle.hp_script.specs.declared.bad_kind.BadKind.TheVariants as bad
use Rattle.hp_script.specs.declared.line.Act.{Act}
use Rattle.hp_script.specs.declared.line.Act.TheVariants as act
use Rattle.hp_script.specs.declared.line.Line.{Line}
use Rattle.hp_script.specs.declared.shape.Setup.{Setup as SetupLine}
use Rattle.hp_script.specs.declared.shape.Setup.TheVariants.{Participants, Absent, Socket, Deadline, Pool, Message, Mapping}
use Rattle.hp_script.specs.declared.shape.Shape.{Shape}
use Rattle.hp_script.specs.declared.shape.Shape.TheVariants.{Setup, Does, Awaits}
use Rattle.hp_script.specs.declared.reader.Reader.{Reader}
use Rattle.hp_script.proofs.AlikeLemmas.{Alike, after, SameAct, SameShape}

-- lines that differ in their tokens' addresses alone
abbrev pub SameLine : Line → Line → Type 0
SameLine line other = (other.line ≡ line.line) × (other.participant ≡ line.participant) × SameAct line.act other.act

abbrev pub SameLines : List Line → List Line → Type 0
SameLines [] [] = ⊤
SameLines (line ∷ lines) (other ∷ others) = SameLine line other × SameLines lines others
SameLines _ _ = ⊥

-- what was read differs in the tokens' addresses alone
pub record SameRead (read other : Reader) : Type 0 where
  pub lines : List Line
  pub is : other ≡ record read { lines = lines }
  pub same : SameLines read.lines lines

same_count : (lines others : List Line) → SameLines lines others → length others ≡ length lines
same_count [] [] same = refl
same_count [] (other ∷ others) same = absurd same
same_count (line ∷ lines) [] same = absurd same
same_count (line ∷ lines) (other ∷ others) same = let rest = same_count lines others same.1 in omega (arith, rest)

same_by : (party : ℕ) (lines others : List Line) → SameLines lines others → lines_by party others ≡ lines_by party lines
same_by party [] [] same = refl
same_by party [] (other ∷ others) same = absurd same
same_by party (line ∷ lines) [] same = absurd same
same_by party (line ∷ lines) (other ∷ others) same =
    let here : (other.participant == party) ≡ (line.participant == party) = ap (λ (n : ℕ). n == party) same.0.1 in
    let rest : lines_by party others ≡ lines_by party lines = same_by party lines others same.1 in
    let counted : Line → ℕ = λ some. cond (some.participant == party) 1 0 in
    sum_by-cons counted other others
    ∙ ap (λ (test : Bool). cond test 1 0 + lines_by party others) here
    ∙ ap (λ (n : ℕ). cond (line.participant == party) 1 0 + n) rest
    ∙ sym (sum_by-cons counted line lines)

same_push : (lines others : List Line) (line other : Line) → SameLines lines others → SameLine line other → SameLines (lines ++ line ∷ []) (others ++ other ∷ [])
same_push [] [] line other same last = (last, tt)
same_push [] (first ∷ others) line other same last = absurd same
same_push (first ∷ lines) [] line other same last = absurd same
same_push (first ∷ lines) (one ∷ others) line other same last = (same.0, same_push lines others line other same.1 last)

by_text : (f : List ℕ → Bool) (one two : Option Part) → option_map (λ label. label.text) two ≡ option_map (λ label. label.text) one
    → option_map_or (λ label. f label.text) two false ≡ option_map_or (λ label. f label.text) one false
by_text f None None same = refl
by_text f None (Some y) same = absurd cc
by_text f (Some x) None same = absurd cc
by_text f (Some x) (Some y) same = let is : y.text ≡ x.text = cc in ap f is

module _ (read : Reader) (lines : List Line) (same : SameLines read.lines lines) where
  kept : (more : Reader) → more.lines ≡ read.lines → SameRead more (record more { lines = lines })
  kept more is = record { lines = lines; is = refl; same = rw is same }

  setup_same : (number : ℕ) (setup : SetupLine) → Alike SameRead (setup_step read number setup) (setup_step (record read { lines = lines }) number setup)
  unfolding set_participants set_absent set_socket set_deadline add_pool add_message add_mapping
  setup_same number (Participants count) = after SameRead (refuse (is_some read.participants) bad.Duplicate) _ _ (λ once. kept _ refl)
  setup_same number (Absent party) = after SameRead (refuse (is_marked read.absent party) bad.Duplicate) _ _ (λ once. after SameRead (refuse (is_strange read party) bad.Unknown) _ _ (λ known. kept _ refl))
  setup_same number (Socket party socket) = after SameRead (refuse (is_marked read.placed party) bad.Duplicate) _ _ (λ once. after SameRead (refuse (is_strange read party) bad.Unknown) _ _ (λ known. kept _ refl))
  setup_same number (Deadline ms) = after SameRead (refuse (is_some read.deadline) bad.Duplicate) _ _ (λ once. kept _ refl)
  setup_same number (Pool pool) =
      after SameRead (refuse (list_any (is_same_pool pool) read.pools) bad.Duplicate) _ _ (λ once.
      after SameRead (refuse (nat_le 128 (length read.pools)) bad.Limit) _ _ (λ few.
      after SameRead (refuse (nat_lt 16384 (segments_of read.pools + pool.slots)) bad.Limit) _ _ (λ slots. kept _ refl)))
  setup_same number (Message kind party k twice) =
      after SameRead (refuse (is_planned read.plan (message_event kind party k)) bad.Duplicate) _ _ (λ once. after SameRead (refuse (is_strange read party) bad.Unknown) _ _ (λ known. kept _ refl))
  setup_same number (Mapping party call elsewhere) =
      after SameRead (refuse (is_planned read.plan (mapping_event party call)) bad.Duplicate) _ _ (λ once. after SameRead (refuse (is_strange read party) bad.Unknown) _ _ (λ known. kept _ refl))

  line_same : (number party : ℕ) (deed other : Act) → SameAct deed other → Alike SameRead (add_line read number party deed) (add_line (record read { lines = lines }) number party other)
  unfolding add_line
  line_same number party deed other alike =
      rw (same_count read.lines lines same) (after SameRead (refuse (nat_le 20000 (length read.lines)) bad.Limit) _ _ (λ room.
      record { lines = _; is = refl; same = same_push read.lines lines (record { line = number; participant = party; act = deed }) (record { line = number; participant = party; act = other }) same (refl, refl, alike) }))

  act_same : (makers : Makers) (number party : ℕ) (deed other : Act) → SameAct deed other → Alike SameRead (add_act makers read number party deed) (add_act makers (record read { lines = lines }) number party other)
  unfolding add_act
  act_same makers number party deed other alike =
      rw (by_text (is_taken makers number) (label_made deed) (label_made other) alike.made, by_text (is_unmade makers) (label_used deed) (label_used other) alike.used) (
      after SameRead (refuse (is_duplicate makers number deed) bad.Duplicate) _ _ (λ once.
      after SameRead (refuse (is_strange read party) bad.Unknown) _ _ (λ known.
      after SameRead (refuse (is_unknown makers deed) bad.Unknown) _ _ (λ made. line_same number party deed other alike))))

  await_same : (number party other k : ℕ) → Alike SameRead (add_await read number party other k) (add_await (record read { lines = lines }) number party other k)
  unfolding add_await
  await_same number party other k =
      rw (same_by other read.lines lines same) (
      after SameRead (refuse (is_strange read party) bad.Unknown) _ _ (λ known.
      after SameRead (refuse (is_strange read other) bad.Unknown) _ _ (λ other_known.
      after SameRead (refuse (nat_lt (lines_by other read.lines) k) bad.Ahead) _ _ (λ behind.
      line_same number party (act.Await other k) (act.Await other k) (record { made = refl; used = refl })))))

set_up_same : (read : Reader) (lines : List Line) (same : SameLines read.lines lines) (number : ℕ) (setup : SetupLine) → Alike SameRead (set_up read number setup) (set_up (record read { lines = lines }) number setup)
unfolding set_up
set_up_same read lines same number setup =
    rw (same_count read.lines lines same) (after SameRead (refuse (nat_lt 0 (length read.lines)) bad.Order) _ _ (λ order. setup_same read lines same number setup))

pub said_same : (makers : Makers) (read : Reader) (lines : List Line) (same : SameLines read.lines lines) (number : ℕ) (said other : Shape) → SameShape said other
    → Alike SameRead (said_step makers read number said) (said_step makers (record read { lines = lines }) number other)
unfolding said_step
said_same makers read lines same number (Setup setup) (Setup again) alike = rw alike (set_up_same read lines same number setup)
said_same makers read lines same number (Setup setup) (Does who deed) alike = absurd alike
said_same makers read lines same number (Setup setup) (Awaits who other k) alike = absurd alike
said_same makers read lines same number (Does party deed) (Setup again) alike = absurd alike
said_same makers read lines same number (Does party deed) (Does who again) alike = rw alike.0 (act_same read lines same makers number party deed again alike.1)
said_same makers read lines same number (Does party deed) (Awaits who other k) alike = absurd alike
said_same makers read lines same number (Awaits party other k) (Setup again) alike = absurd alike
said_same makers read lines same number (Awaits party other k) (Does who again) alike = absurd alike
said_same makers read lines same number (Awaits party other k) (Awaits who another n) alike = rw (alike.0, alike.1, alike.2) (await_same read lines same number party other k)
