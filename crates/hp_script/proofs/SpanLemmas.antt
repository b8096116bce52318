-- The tokens of a workload are slices of its text that rise.
use Rattle.std.proofs.Common.{◌≡◌, ℕ, ◌+◌, ◌≤◌, Bool, true, false, List, [], ◌∷◌, ◌++◌, length, refl, ap, ◌∙◌, cond, inl, inr, arith}
use Rattle.std.proofs.lemmas.List.Elements.{All-nil, All-cons}
use Rattle.std.specs.Prelude.{All, Result, Ok, Err, IfOk, nat_le, nat_lt, is_some}
use Rattle.std.specs.List.{list_any}
use Rattle.std.proofs.lemmas.Grind.{flat_map-append}
use Rattle.std.proofs.lemmas.List.{append-nil}
use denote.Ref.{Bor}
use Rattle.hp_script.specs.Part.{Part}
use Rattle.hp_script.specs.Text.{lines_of, fields_of, is_skipped}
use Rattle.hp_script.specs.Words.{tokens_in}
use Rattle.hp_script.specs.Judge.{refuse}
use Rattle.hp_script.specs.Marks.{is_marked}
use Rattle.hp_script.specs.Counts.{segments_of, is_same_pool, message_event, mapping_event, is_planned, lines_by}
use Rattle.hp_script.specs.Makers.{Makers, makers_of}
use Rattle.hp_script.specs.Setups.{nothing, is_strange, set_participants, set_absent, set_socket, set_deadline, add_pool, add_message, add_mapping, setup_step, set_up}
use Rattle.hp_script.specs.ShapeWords.Acts.{is_duplicate, is_unknown, add_line, add_act, add_await}
use Rattle.hp_script.specs.ShapeWords.Shapes.{shape_of}
use Rattle.hp_script.specs.Reading.{said_step, judged, read_line}
use Rattle.hp_script.specs.Workloads.{Refusal, go_on, read_from, reading_at}
use Rattle.hp_script.specs.Spans.{IsSlice, AreSlices, IsLentFrom, bytes_behind, tokens_of, all_tokens}
use Rattle.hp_script.specs.declared.bad_kind.BadKind.{BadKind}
use Rattle.hp_script.specs.declared.bad_kind.BadKind.TheVariants as bad
use Rattle.hp_script.specs.declared.line.Act.{Act}
use Rattle.hp_script.specs.declared.line.Act.TheVariants as act
use Rattle.hp_script.specs.declared.line.Line.{Line}
use Rattle.hp_script.specs.declared.shape.Setup.{Setup as SetupLine}
use Rattle.hp_script.specs.declared.shape.Setup.TheVariants.{Participants, Absent, Socket, Deadline, Pool, Message, Mapping}
use Rattle.hp_script.specs.declared.shape.Shape.{Shape}
use Rattle.hp_script.specs.declared.shape.Shape.TheVariants.{Setup, Does, Awaits}
use Rattle.hp_script.specs.declared.reader.Reader.{Reader}
use Rattle.hp_script.proofs.TokenFacts.SliceLemmas.{raise, lower, join, lines_slices, fields_slices}
use Rattle.hp_script.proofs.TokenFacts.CallTokens.{outcome, SaysSlices}
use Rattle.hp_script.proofs.TokenFacts.TokenLemmas.{said_slices}
use Rattle.hp_script.proofs.TokenFacts.TokensLemmas.{tokens_fields}

-- a setup line adds no participant line
abbrev pub KeepsLines : Reader → Reader → Type 0
KeepsLines read more = more.lines ≡ read.lines

pub setup_keeps : (read : Reader) (number : ℕ) (setup : SetupLine) → IfOk (setup_step read number setup) (KeepsLines read)
unfolding set_participants set_absent set_socket set_deadline add_pool add_message add_mapping
setup_keeps read number (Participants count) =
    elim (outcome (refuse (is_some read.participants) bad.Duplicate)) [ inr refused ↦ rw refused.1 tt | inl once ↦ rw once.1 refl ]
setup_keeps read number (Absent party) =
    elim (outcome (refuse (is_marked read.absent party) bad.Duplicate)) [
      | inr refused ↦ rw refused.1 tt
      | inl once ↦ rw once.1 (
          elim (outcome (refuse (is_strange read party) bad.Unknown)) [ inr refused ↦ rw refused.1 tt | inl declared ↦ rw declared.1 refl ])
    ]
setup_keeps read number (Socket party socket) =
    elim (outcome (refuse (is_marked read.placed party) bad.Duplicate)) [
      | inr refused ↦ rw refused.1 tt
      | inl once ↦ rw once.1 (
          elim (outcome (refuse (is_strange read party) bad.Unknown)) [ inr refused ↦ rw refused.1 tt | inl declared ↦ rw declared.1 refl ])
    ]
setup_keeps read number (Deadline ms) =
    elim (outcome (refuse (is_some read.deadline) bad.Duplicate)) [ inr refused ↦ rw refused.1 tt | inl once ↦ rw once.1 refl ]
setup_keeps read number (Pool pool) =
    elim (outcome (refuse (list_any (is_same_pool pool) read.pools) bad.Duplicate)) [
      | inr refused ↦ rw refused.1 tt
      | inl once ↦ rw once.1 (
          elim (outcome (refuse (nat_le 128 (length read.pools)) bad.Limit)) [
            | inr refused ↦ rw refused.1 tt
            | inl lists ↦ rw lists.1 (
                elim (outcome (refuse (nat_lt 16384 (segments_of read.pools + pool.slots)) bad.Limit)) [ inr refused ↦ rw refused.1 tt | inl segments ↦ rw segments.1 refl ])
          ])
    ]
setup_keeps read number (Message kind party k twice) =
    elim (outcome (refuse (is_planned read.plan (message_event kind party k)) bad.Duplicate)) [
      | inr refused ↦ rw refused.1 tt
      | inl once ↦ rw once.1 (
          elim (outcome (refuse (is_strange read party) bad.Unknown)) [ inr refused ↦ rw refused.1 tt | inl declared ↦ rw declared.1 refl ])
    ]
setup_keeps read number (Mapping party call elsewhere) =
    elim (outcome (refuse (is_planned read.plan (mapping_event party call)) bad.Duplicate)) [
      | inr refused ↦ rw refused.1 tt
      | inl once ↦ rw once.1 (
          elim (outcome (refuse (is_strange read party) bad.Unknown)) [ inr refused ↦ rw refused.1 tt | inl declared ↦ rw declared.1 refl ])
    ]

module _ (bytes : Bor (List ℕ)) where
  -- the tokens of what was read are slices before a place
  abbrev pub HasSlices : ℕ → Reader → Type 0
  HasSlices to read = AreSlices bytes 0 to (all_tokens read.lines)

  add_line_slices : (read : Reader) (number party : ℕ) (deed : Act) (a b : ℕ) → HasSlices a read → AreSlices bytes a b (tokens_of deed) → IfOk (add_line read number party deed) (HasSlices b)
  unfolding add_line
  add_line_slices read number party deed a b before slices =
      elim (outcome (refuse (nat_le 20000 (length read.lines)) bad.Limit)) [
        | inr refused ↦ rw refused.1 tt
        | inl room ↦ rw room.1 (
            let line : Line = record { line = number; participant = party; act = deed } in
            let tokens : all_tokens (read.lines ++ line ∷ []) ≡ all_tokens read.lines ++ tokens_of deed =
            flat_map-append (λ (some : Line). tokens_of some.act) read.lines (line ∷ []) ∙ ap (λ (last : List Part). all_tokens read.lines ++ last) (append-nil (tokens_of deed)) in
            rw tokens (join bytes 0 a b (all_tokens read.lines) (tokens_of deed) before slices))
      ]

  kept_slices : (read : Reader) (step : Result Reader BadKind) (b : ℕ) → HasSlices b read → IfOk step (KeepsLines read) → IfOk step (HasSlices b)
  kept_slices read (Ok more) b slices same = rw same slices
  kept_slices read (Err kind) b slices same = tt

  said_step_slices : (makers : Makers) (read : Reader) (number a b : ℕ) (said : Shape) → HasSlices a read → SaysSlices bytes a b said → IfOk (said_step makers read number said) (HasSlices b)
  unfolding said_step set_up add_act add_await
  said_step_slices makers read number a b (Setup setup) before slices =
      elim (outcome (refuse (nat_lt 0 (length read.lines)) bad.Order)) [
        | inr refused ↦ rw refused.1 tt
        | inl order ↦ rw order.1 (
            kept_slices read (setup_step read number setup) b (raise bytes 0 a b (all_tokens read.lines) slices before) (setup_keeps read number setup))
      ]
  said_step_slices makers read number a b (Does party deed) before slices =
      elim (outcome (refuse (is_duplicate makers number deed) bad.Duplicate)) [
        | inr refused ↦ rw refused.1 tt
        | inl once ↦ rw once.1 (
            elim (outcome (refuse (is_strange read party) bad.Unknown)) [
              | inr refused ↦ rw refused.1 tt
              | inl declared ↦ rw declared.1 (
                  elim (outcome (refuse (is_unknown makers deed) bad.Unknown)) [
                    | inr refused ↦ rw refused.1 tt
                    | inl made ↦ rw made.1 (
                        add_line_slices read number party deed a b before slices)
                  ])
            ])
      ]
  said_step_slices makers read number a b (Awaits party other k) before slices =
      elim (outcome (refuse (is_strange read party) bad.Unknown)) [
        | inr refused ↦ rw refused.1 tt
        | inl declared ↦ rw declared.1 (
            elim (outcome (refuse (is_strange read other) bad.Unknown)) [
              | inr refused ↦ rw refused.1 tt
              | inl other_declared ↦ rw other_declared.1 (
                  elim (outcome (refuse (nat_lt (lines_by other read.lines) k) bad.Ahead)) [
                    | inr refused ↦ rw refused.1 tt
                    | inl stands ↦ rw stands.1 (
                        add_line_slices read number party (act.Await other k) a b before slices)
                  ])
            ])
      ]

  judged_slices : (makers : Makers) (read : Reader) (number a b : ℕ) (line : Part) → HasSlices a read → AreSlices bytes a b (fields_of line)
      → IfOk (judged makers read number line) (HasSlices b)
  unfolding judged
  judged_slices makers read number a b line before slices =
      elim (outcome (tokens_in line)) [
        | inr refused ↦ rw refused.1 tt
        | inl tokens ↦ rw tokens.1 (
            let tokens_are = tokens_fields line tokens.0 tokens.1 in
            rw tokens_are.0 (
            elim (outcome (shape_of (fields_of line))) [
              | inr refused ↦ rw refused.1 tt
              | inl said ↦ rw said.1 (
                  said_step_slices makers read number a b said.0 before (rw said.1 at (said_slices bytes a b (fields_of line) slices)))
            ]))
      ]

  either : (test : Bool) (some other : Result Reader BadKind) (P : Reader → Type 0) → IfOk some P → IfOk other P → IfOk (cond test some other) P
  either true some other P first second = first
  either false some other P first second = second

  read_line_slices : (makers : Makers) (read : Reader) (number a : ℕ) (line : Part) → HasSlices a read → a ≤ line.start → IsSlice bytes line
      → IfOk (read_line makers read number line) (HasSlices (line.start + length line.text))
  unfolding read_line
  read_line_slices makers read number a line before le slice =
      let fields = lower bytes a line.start (line.start + length line.text) (fields_of line) le (fields_slices bytes line slice) in
      let kept : HasSlices (line.start + length line.text) read = raise bytes 0 a (line.start + length line.text) (all_tokens read.lines) (omega (arith, le)) before in
      either (is_skipped (fields_of line)) (Ok read) (judged makers read number line) (HasSlices (line.start + length line.text))
      kept (judged_slices makers read number a (line.start + length line.text) line before fields)

  going_on : (step : Result Reader BadKind) (number : ℕ) (rest : Reader → Result Reader Refusal) (some P : Reader → Type 0)
      → IfOk step some → ((more : Reader) → some more → IfOk (rest more) P) → IfOk (go_on step number rest) P
  going_on (Ok more) number rest some P holds then = then more holds
  going_on (Err kind) number rest some P holds then = tt

  read_from_slices : (makers : Makers) (lines : List Part) (read : Reader) (number a b : ℕ) → HasSlices a read → AreSlices bytes a b lines
      → IfOk (read_from makers read number lines) (HasSlices b)
  read_from_slices makers [] read number a b before slices = raise bytes 0 a b (all_tokens read.lines) slices before
  read_from_slices makers (line ∷ lines) read number a b before slices =
      going_on (read_line makers read number line) number (λ more. read_from makers more (number + 1) lines)
      (HasSlices (line.start + length line.text)) (HasSlices b)
      (read_line_slices makers read number a line before slices.0 slices.1)
      (λ more holds. read_from_slices makers lines more (number + 1) (line.start + length line.text) b holds slices.2)

-- what is read of a text has its slices as tokens
pub reading_slices : (bytes : Bor (List ℕ)) (read : Reader) → reading_at bytes ≡ Ok read → AreSlices bytes 0 (length bytes.now) (all_tokens read.lines)
unfolding reading_at
reading_slices bytes read same =
    let slices = read_from_slices bytes (makers_of (lines_of bytes)) (lines_of bytes) nothing 1 0 (length bytes.now) (omega arith) (lines_slices bytes) in
    rw same at slices

-- slices are lent
pub slices_lent : (bytes : Bor (List ℕ)) (a b : ℕ) (parts : List Part) → AreSlices bytes a b parts → All (IsLentFrom bytes) parts
slices_lent bytes a b [] slices = All-nil (IsLentFrom bytes)
slices_lent bytes a b (part ∷ parts) slices =
    All-cons (IsLentFrom bytes) part parts (ap (λ (base : ℕ × ℕ). bytes_behind base part.start) slices.1.lent) (slices_lent bytes (part.start + length part.text) b parts slices.2)
