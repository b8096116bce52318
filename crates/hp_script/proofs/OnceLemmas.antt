-- A participant is marked as absent, or as one with a socket, exactly where an accepted line says so.
use Rattle.std.proofs.Common.{◌≡◌, ℕ, ◌+◌, ◌*◌, ◌^◌, ◌<◌, Bool, true, false, ◌||◌, List, [], ◌∷◌, length, refl, sym, ap, ◌∙◌, inl, inr, arith}
use Rattle.std.specs.Prelude.{Some, Ok, IfOk, is_some, nat_le, nat_lt, not, max, ◌==◌}
use Rattle.std.specs.Int.{bit_at}
use Rattle.std.specs.List.{list_any}
use Rattle.std.proofs.Math.Nat.{mul-pos}
use Rattle.std.proofs.lemmas.Bool.Decides.{nat_tests}
use Rattle.std.proofs.lemmas.Nat.{pow_pos}
use Rattle.std.proofs.lemmas.Nat.Bits.{and_pow, bit_at_or, bit_at-zero, bit_at-pow_same, bit_at-pow_other}
use Rattle.hp_script.specs.Part.{Part}
use Rattle.hp_script.specs.Marks.{is_marked, with_mark}
use Rattle.hp_script.specs.Counts.{segments_of, is_same_pool, message_event, mapping_event, is_planned}
use Rattle.hp_script.specs.Makers.{Makers}
use Rattle.hp_script.specs.Setups.{nothing, is_strange, set_participants, set_absent, set_socket, set_deadline, add_pool, add_message, add_mapping, setup_step}
use Rattle.hp_script.specs.Reading.{read_line}
use Rattle.hp_script.specs.Said.{said_in, says, is_absence, is_placement, says_absent, says_socket}
use Rattle.hp_script.specs.Workloads.{read_from}
use Rattle.hp_script.specs.declared.bad_kind.BadKind.TheVariants as bad
use Rattle.hp_script.specs.declared.line.Line.{Line}
use Rattle.hp_script.specs.declared.shape.Setup.{Setup as SetupLine}
use Rattle.hp_script.specs.declared.shape.Setup.TheVariants.{Participants, Absent, Socket, Deadline, Pool, Message, Mapping}
use Rattle.hp_script.specs.declared.shape.Shape.{Shape}
use Rattle.hp_script.specs.declared.shape.Shape.TheVariants.{Setup, Does, Awaits}
use Rattle.hp_script.specs.declared.reader.Reader.{Reader}
use Rattle.hp_script.proofs.StepLemmas.{passed, answered, Adds, read_line_says, going}

or_false : (test : Bool) → test ≡ (test || false)
or_false true = refl
or_false false = refl

or_true : (test : Bool) → true ≡ (test || true)
or_true true = refl
or_true false = refl

or_assoc : (first second third : Bool) → ((first || second) || third) ≡ (first || (second || third))
or_assoc true second third = refl
or_assoc false second third = refl

-- a product with a power is zero where its other factor is
zero_product : (n power : ℕ) → 0 < power → (n * power == 0) ≡ (n == 0)
zero_product n power some = chosen (n == 0) refl
  where
    chosen : (test : Bool) → (n == 0) ≡ test → (n * power == 0) ≡ test
    chosen true is =
        let none : n ≡ 0 = grind (arith, nat_tests, is) in
        let product : 0 * power ≡ 0 = omega arith in
        rw (none, product) refl
    chosen false is =
        let above : 0 < n = grind (arith, nat_tests, is) in
        let product : 0 < n * power = mul-pos above some in
        grind (arith, nat_tests, product)

-- who is marked has their bit set
marked_bit : (mask party : ℕ) → party < 16 → is_marked mask party ≡ not (bit_at mask party == 0)
marked_bit mask party low =
    let below : nat_lt party 16 ≡ true = grind (arith, nat_tests, low) in
    rw (below, and_pow mask party) (ap not (zero_product (bit_at mask party) (2 ^ party) (pow_pos party)))

-- one participant more is marked
marked_more : (mask other party : ℕ) → party < 16 → is_marked (with_mark mask other) party ≡ (is_marked mask party || (other == party))
marked_more mask other party low = chosen (other == party) refl
  where
    bits : is_marked (with_mark mask other) party ≡ not (max (bit_at mask party) (bit_at (2 ^ other) party) == 0)
    bits = marked_bit (with_mark mask other) party low ∙ ap (λ (n : ℕ). not (n == 0)) (bit_at_or mask (2 ^ other) party)

    chosen : (test : Bool) → (other == party) ≡ test → is_marked (with_mark mask other) party ≡ (is_marked mask party || test)
    chosen true is =
        let same : other ≡ party = grind (arith, nat_tests, is) in
        let one : bit_at (2 ^ other) party ≡ 1 = rw same (bit_at-pow_same party) in
        let set : not (max (bit_at mask party) 1 == 0) ≡ true = grind (arith, nat_tests) in
        bits ∙ rw one set ∙ or_true (is_marked mask party)
    chosen false is =
        let none : bit_at (2 ^ other) party ≡ 0 = bit_at-pow_other other party (λ same. absurd (grind (arith, nat_tests, is, same))) in
        let least : max (bit_at mask party) 0 ≡ bit_at mask party = omega arith in
        bits ∙ rw (none, least) (sym (marked_bit mask party low)) ∙ or_false (is_marked mask party)

-- at first nobody is marked
none_marked : (party : ℕ) → party < 16 → is_marked 0 party ≡ false
none_marked party low = marked_bit 0 party low ∙ rw (bit_at-zero party) refl

-- what a step leaves of a mask
abbrev Marks : (Reader → ℕ) → ℕ → Reader → Bool → Reader → Type 0
Marks mask party read test more = is_marked (mask more) party ≡ (is_marked (mask read) party || test)

module _ (party : ℕ) (low : party < 16) where
  absent_marks : (read : Reader) (number : ℕ) (setup : SetupLine) → IfOk (setup_step read number setup) (Marks (λ some. some.absent) party read (is_absence party setup))
  unfolding set_participants set_absent set_socket set_deadline add_pool add_message add_mapping
  absent_marks read number (Participants count) = passed (is_some read.participants) bad.Duplicate _ _ (λ once. or_false (is_marked read.absent party))
  absent_marks read number (Absent other) =
      passed (is_marked read.absent other) bad.Duplicate _ _ (λ once.
      passed (is_strange read other) bad.Unknown _ _ (λ declared. marked_more read.absent other party low))
  absent_marks read number (Socket other socket) =
      passed (is_marked read.placed other) bad.Duplicate _ _ (λ once.
      passed (is_strange read other) bad.Unknown _ _ (λ declared. or_false (is_marked read.absent party)))
  absent_marks read number (Deadline ms) = passed (is_some read.deadline) bad.Duplicate _ _ (λ once. or_false (is_marked read.absent party))
  absent_marks read number (Pool pool) =
      passed (list_any (is_same_pool pool) read.pools) bad.Duplicate _ _ (λ once.
      passed (nat_le 128 (length read.pools)) bad.Limit _ _ (λ lists.
      passed (nat_lt 16384 (segments_of read.pools + pool.slots)) bad.Limit _ _ (λ segments. or_false (is_marked read.absent party))))
  absent_marks read number (Message kind other k twice) =
      passed (is_planned read.plan (message_event kind other k)) bad.Duplicate _ _ (λ once.
      passed (is_strange read other) bad.Unknown _ _ (λ declared. or_false (is_marked read.absent party)))
  absent_marks read number (Mapping other call elsewhere) =
      passed (is_planned read.plan (mapping_event other call)) bad.Duplicate _ _ (λ once.
      passed (is_strange read other) bad.Unknown _ _ (λ declared. or_false (is_marked read.absent party)))

  placed_marks : (read : Reader) (number : ℕ) (setup : SetupLine) → IfOk (setup_step read number setup) (Marks (λ some. some.placed) party read (is_placement party setup))
  unfolding set_participants set_absent set_socket set_deadline add_pool add_message add_mapping
  placed_marks read number (Participants count) = passed (is_some read.participants) bad.Duplicate _ _ (λ once. or_false (is_marked read.placed party))
  placed_marks read number (Absent other) =
      passed (is_marked read.absent other) bad.Duplicate _ _ (λ once.
      passed (is_strange read other) bad.Unknown _ _ (λ declared. or_false (is_marked read.placed party)))
  placed_marks read number (Socket other socket) =
      passed (is_marked read.placed other) bad.Duplicate _ _ (λ once.
      passed (is_strange read other) bad.Unknown _ _ (λ declared. marked_more read.placed other party low))
  placed_marks read number (Deadline ms) = passed (is_some read.deadline) bad.Duplicate _ _ (λ once. or_false (is_marked read.placed party))
  placed_marks read number (Pool pool) =
      passed (list_any (is_same_pool pool) read.pools) bad.Duplicate _ _ (λ once.
      passed (nat_le 128 (length read.pools)) bad.Limit _ _ (λ lists.
      passed (nat_lt 16384 (segments_of read.pools + pool.slots)) bad.Limit _ _ (λ segments. or_false (is_marked read.placed party))))
  placed_marks read number (Message kind other k twice) =
      passed (is_planned read.plan (message_event kind other k)) bad.Duplicate _ _ (λ once.
      passed (is_strange read other) bad.Unknown _ _ (λ declared. or_false (is_marked read.placed party)))
  placed_marks read number (Mapping other call elsewhere) =
      passed (is_planned read.plan (mapping_event other call)) bad.Duplicate _ _ (λ once.
      passed (is_strange read other) bad.Unknown _ _ (λ declared. or_false (is_marked read.placed party)))

-- a mask that only setups of one kind change, along the lines
module _ (makers : Makers) (mask : Reader → ℕ) (party : ℕ) (test : SetupLine → Bool)
    (setup_marks : (read : Reader) (number : ℕ) (setup : SetupLine) → IfOk (setup_step read number setup) (Marks mask party read (test setup)))
    (line_keeps : (read : Reader) (lines : List Line) → mask (record read { lines = lines }) ≡ mask read) where
  said_marks : (read more : Reader) (number : ℕ) (said : Shape) → Adds makers read number said more → Marks mask party read (says test (Some said)) more
  said_marks read more number (Setup setup) adds =
      answered (Marks mask party read (test setup)) (setup_step read number setup) more adds.1 (setup_marks read number setup)
  said_marks read more number (Does who deed) adds = rw adds.1.added (ap (λ (n : ℕ). is_marked n party) (line_keeps read _) ∙ or_false (is_marked (mask read) party))
  said_marks read more number (Awaits who other k) adds = rw adds.adds.added (ap (λ (n : ℕ). is_marked n party) (line_keeps read _) ∙ or_false (is_marked (mask read) party))

  line_marks : (read more : Reader) (number : ℕ) (line : Part) → read_line makers read number line ≡ Ok more → Marks mask party read (says test (said_in line)) more
  line_marks read more number line same =
      elim (read_line_says makers read number line more same) [
        | inl skipped ↦ rw (skipped.1, skipped.0) (or_false (is_marked (mask read) party))
        | inr said ↦ rw (said.0, said.1.shape) (said_marks read more number said.1.said said.1.adds)
      ]

  lines_mark : (lines : List Part) (read whole : Reader) (number : ℕ) → read_from makers read number lines ≡ Ok whole → Marks mask party read (list_any (λ line. says test (said_in line)) lines) whole
  lines_mark [] read whole number same = let is : read ≡ whole = cc in rw (← is) (or_false (is_marked (mask read) party))
  lines_mark (line ∷ lines) read whole number same =
      let went = going (read_line makers read number line) number (λ more. read_from makers more (number + 1) lines) whole same in
      let rest = list_any (λ some. says test (said_in some)) lines in
      lines_mark lines went.0 whole (number + 1) went.2
      ∙ ap (λ (marked : Bool). marked || rest) (line_marks read went.0 number line went.1)
      ∙ or_assoc (is_marked (mask read) party) (says test (said_in line)) rest

pub absent_said : (makers : Makers) (lines : List Part) (read : Reader) (party : ℕ) → party < 16 → read_from makers nothing 1 lines ≡ Ok read
    → is_marked read.absent party ≡ list_any (says_absent party) lines
absent_said makers lines read party low same =
    lines_mark makers (λ some. some.absent) party (is_absence party) (absent_marks party low)
    (λ some lines. refl) lines nothing read 1 same
    ∙ rw (none_marked party low) refl

pub placed_said : (makers : Makers) (lines : List Part) (read : Reader) (party : ℕ) → party < 16 → read_from makers nothing 1 lines ≡ Ok read
    → is_marked read.placed party ≡ list_any (says_socket party) lines
placed_said makers lines read party low same =
    lines_mark makers (λ some. some.placed) party (is_placement party) (placed_marks party low)
    (λ some lines. refl) lines nothing read 1 same
    ∙ rw (none_marked party low) refl
