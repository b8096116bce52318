-- What the setup lines of an accepted text leave: the plan, the sockets, and who is absent.
use Rattle.std.proofs.Common.{◌≡◌, ℕ, ◌+◌, ◌++◌, ◌*◌, ◌/◌, ◌%◌, ◌<◌, ◌≤◌, ◌^◌, Bool, true, false, ◌&&◌, List, [], ◌∷◌, length, get_or, refl, sym, ◌∙◌, inl, inr, arith}
use Rattle.std.specs.Prelude.{Option, Some, None, Ok, IfOk, ⊤, is_some, nat_le, nat_lt, unwrap_or, bit_or, ◌==◌}
use Rattle.std.specs.List.{list_any}
use Rattle.std.proofs.Math.Nat.{div-eq_of_lt, div-lt_iff_lt-mul}
use Rattle.std.proofs.Math.Pow.{pow_mono, pow-lt}
use Rattle.std.proofs.lemmas.Nat.{or_shr}
use Rattle.std.proofs.lemmas.Nat.Bits.{bit_at_or, bit_at_lowest, bit_at-pow_other}
use Rattle.std.proofs.lemmas.List.Elements.{All-push, All-set}
use Rattle.std.proofs.lemmas.List.Quantifiers.{all_pairs_push}
use Rattle.std.proofs.lemmas.Grind.{common_steps}
use Rattle.std.proofs.lemmas.Bool.Decides.{nat_tests}
use Rattle.hp_base.specs.Plans.{kind_place, IsOtherEntry, IsPlanEntry, ArePlanEntries}
use Rattle.hp_base.specs.Participants.{AreSockets, IsAbsent}
use Rattle.hp_base.specs.declared.limits.TheConstants.{MAX_SOCKETS}
use Rattle.hp_base.specs.declared.plan_entry.PlanEntry.{PlanEntry}
use Rattle.hp_base.specs.declared.plan_entry.PlanEntry.TheVariants as plan
use denote.Ref.{Bor}
use Rattle.hp_script.specs.Part.{Part}
use Rattle.hp_script.specs.Text.{lines_of, fields_of}
use Rattle.hp_script.specs.Marks.{is_marked, with_mark}
use Rattle.hp_script.specs.Counts.{segments_of, is_same_pool, message_event, mapping_event, event_of, is_event, is_planned}
use Rattle.hp_script.specs.declared.event.Event.{Event}
use Rattle.hp_script.specs.Makers.{Makers, makers_of}
use Rattle.hp_script.specs.Setups.{nothing, is_strange, set_participants, set_absent, set_socket, set_deadline, add_pool, add_message, add_mapping, setup_step}
use Rattle.hp_script.specs.ShapeWords.Shapes.{shape_of}
use Rattle.hp_script.specs.Reading.{read_line}
use Rattle.hp_script.specs.Workloads.{reading_at}
use Rattle.hp_script.specs.declared.bad_kind.BadKind.TheVariants as bad
use Rattle.hp_script.specs.declared.verb.SetupVerb.{SetupVerb}
use Rattle.hp_script.specs.declared.shape.Setup.{Setup as SetupLine}
use Rattle.hp_script.specs.declared.shape.Setup.TheVariants.{Participants, Absent, Socket, Deadline, Pool, Message, Mapping}
use Rattle.hp_script.specs.declared.shape.Shape.{Shape}
use Rattle.hp_script.specs.declared.shape.Shape.TheVariants.{Setup, Does, Awaits}
use Rattle.hp_script.specs.declared.reader.Reader.{Reader}
use Rattle.hp_script.proofs.SetupRanges.{IsSetupBy}
use Rattle.hp_script.proofs.ActLemmas.{shape_says}
use Rattle.hp_script.proofs.StepLemmas.{passed, answered, Adds, read_line_says, along}

-- the declared participants so far
abbrev declared : Reader → ℕ
declared read = unwrap_or read.participants 1

-- what the setup lines so far leave
pub record HasSetup (read : Reader) : Type 0 where
  pub plan : ArePlanEntries (unwrap_or read.participants 1) read.plan
  pub many : length read.sockets ≡ 16
  pub sockets : AreSockets read.sockets
  pub absent : IsAbsent (unwrap_or read.participants 1) read.absent

-- more participants than so far
plan_more : (few many : ℕ) (entries : List PlanEntry) → few ≤ many → ArePlanEntries few entries → ArePlanEntries many entries
plan_more few many entries le is = record {
  distinct = is.distinct;
  entries = λ k d within.
      let entry = is.entries k d within in
      record { declared = omega (arith, entry.declared, le); from_1 = entry.from_1; few = entry.few };
}

absent_more : (few many absent : ℕ) → few ≤ many → many ≤ 16 → IsAbsent few absent → IsAbsent many absent
absent_more few many absent le most is = record {
  some = omega (arith, is.some, le);
  few = omega (arith, most);
  primary = is.primary;
  declared = let grows : 2 ^ few ≤ 2 ^ many = pow_mono le in omega (arith, is.declared, grows);
}

-- numbers of so many bits have so many in common
or_below : (a b n : ℕ) → a < 2 ^ n → b < 2 ^ n → bit_or a b < 2 ^ n
or_below a b n low high =
    let none : bit_or a b / 2 ^ n ≡ 0 = or_shr a b n ∙ rw (div-eq_of_lt low, div-eq_of_lt high) refl in
    let some : 0 < 2 ^ n = omega (arith, low) in
    let below : bit_or a b / 2 ^ n < 1 = omega (arith, none) in
    let product : bit_or a b < 1 * 2 ^ n = (div-lt_iff_lt-mul some).0 below in
    omega (arith, product)

even_or : (a party : ℕ) → a % 2 ≡ 0 → 1 ≤ party → bit_or a (2 ^ party) % 2 ≡ 0
even_or a party even some =
    let other : 2 ^ party % 2 ≡ 0 = sym (bit_at_lowest (2 ^ party)) ∙ bit_at-pow_other party 0 (λ same. absurd (omega (arith, same, some))) in
    sym (bit_at_lowest (bit_or a (2 ^ party))) ∙ bit_at_or a (2 ^ party) 0 ∙ rw (bit_at_lowest a, bit_at_lowest (2 ^ party), even, other) refl

absent_marked : (participants absent party : ℕ) → 1 ≤ party → party < participants → IsAbsent participants absent → IsAbsent participants (with_mark absent party)
absent_marked participants absent party some below is = record {
  some = is.some;
  few = is.few;
  primary = even_or absent party is.primary some;
  declared = or_below absent (2 ^ party) participants is.declared (pow-lt below);
}

flip : (a b : ℕ) → (b == a) ≡ (a == b)
flip a b = chosen (a == b) (b == a) refl refl
  where
    chosen : (one other : Bool) → (a == b) ≡ one → (b == a) ≡ other → other ≡ one
    chosen true true same back = refl
    chosen true false same back = absurd (grind (arith, nat_tests, same, back))
    chosen false true same back = absurd (grind (arith, nat_tests, same, back))
    chosen false false same back = refl

flipped : (a b c d e f : ℕ) → ((a == b) && ((c == d) && (e == f))) ≡ false → ((b == a) && ((d == c) && (f == e))) ≡ false
flipped a b c d e f differs = rw (flip a b, flip c d, flip e f) differs

flipped_two : (c d e f : ℕ) → ((c == d) && (e == f)) ≡ false → ((d == c) && (f == e)) ≡ false
flipped_two c d e f differs = rw (flip c d, flip e f) differs

-- an entry that is not planned differs from those that are
other_entry : (old new : PlanEntry) → is_event (event_of new) (event_of old) ≡ false → IsOtherEntry old new
other_entry (plan.Message kind party k twice line) (plan.Message other their m again number) differs = flipped (kind_place other) (kind_place kind) their party m k differs
other_entry (plan.Message kind party k twice line) (plan.Mapping their m again number) differs = refl
other_entry (plan.Mapping party call elsewhere line) (plan.Message other their m again number) differs = refl
other_entry (plan.Mapping party call elsewhere line) (plan.Mapping their m again number) differs = flipped_two their party m call differs

none_planned : (entries : List PlanEntry) (event : Event) → is_planned entries event ≡ false → (k : ℕ) (d : PlanEntry) → k < length entries → is_event event (event_of (get_or entries k d)) ≡ false
none_planned entries event none k d within = grind (arith, common_steps, none)

plan_push : (participants : ℕ) (entries : List PlanEntry) (entry : PlanEntry) → ArePlanEntries participants entries → IsPlanEntry participants entry → is_planned entries (event_of entry) ≡ false
    → ArePlanEntries participants (entries ++ entry ∷ [])
plan_push participants entries entry is next once = record {
  distinct = all_pairs_push IsOtherEntry entries entry is.distinct (λ k d within. other_entry (get_or entries k d) entry (none_planned entries (event_of entry) once k d within));
  entries = All-push (IsPlanEntry participants) entries entry is.entries next;
}

absent_count : (o : Option ℕ) → is_some o ≡ false → unwrap_or o 1 ≡ 1
absent_count None none = refl
absent_count (Some n) none = absurd cc

setup_has : (read : Reader) (number : ℕ) (verb : SetupVerb) (arguments : List Part) (setup : SetupLine) → IsSetupBy verb arguments setup → HasSetup read
    → IfOk (setup_step read number setup) HasSetup
unfolding set_participants set_absent set_socket set_deadline add_pool add_message add_mapping
setup_has read number verb arguments (Participants count) ranges before =
    passed (is_some read.participants) bad.Duplicate _ _ (λ once.
    let one = absent_count read.participants once in
    let le : unwrap_or read.participants 1 ≤ count = omega (arith, one, ranges.1) in
    record {
      plan = plan_more (unwrap_or read.participants 1) count read.plan le before.plan;
      many = before.many;
      sockets = before.sockets;
      absent = absent_more (unwrap_or read.participants 1) count read.absent le ranges.2 before.absent;
    })
setup_has read number verb arguments (Absent party) ranges before =
    passed (is_marked read.absent party) bad.Duplicate _ _ (λ once.
    passed (is_strange read party) bad.Unknown _ _ (λ known.
    let below : party < unwrap_or read.participants 1 = grind (arith, nat_tests, known) in
    record {
      plan = before.plan;
      many = before.many;
      sockets = before.sockets;
      absent = absent_marked (unwrap_or read.participants 1) read.absent party ranges.1 below before.absent;
    }))
setup_has read number verb arguments (Socket party socket) ranges before =
    passed (is_marked read.placed party) bad.Duplicate _ _ (λ once.
    passed (is_strange read party) bad.Unknown _ _ (λ known.
    record {
      plan = before.plan;
      many = grind (arith, common_steps, before.many);
      sockets = record { below = All-set (λ some. some < MAX_SOCKETS) read.sockets party socket ranges.1.low before.sockets.below };
      absent = before.absent;
    }))
setup_has read number verb arguments (Deadline ms) ranges before =
    passed (is_some read.deadline) bad.Duplicate _ _ (λ once.
    record { plan = before.plan; many = before.many; sockets = before.sockets; absent = before.absent })
setup_has read number verb arguments (Pool pool) ranges before =
    passed (list_any (is_same_pool pool) read.pools) bad.Duplicate _ _ (λ once.
    passed (nat_le 128 (length read.pools)) bad.Limit _ _ (λ lists.
    passed (nat_lt 16384 (segments_of read.pools + pool.slots)) bad.Limit _ _ (λ segments.
    record { plan = before.plan; many = before.many; sockets = before.sockets; absent = before.absent })))
setup_has read number verb arguments (Message kind party k twice) ranges before =
    passed (is_planned read.plan (message_event kind party k)) bad.Duplicate _ _ (λ once.
    passed (is_strange read party) bad.Unknown _ _ (λ known.
    let below : party < unwrap_or read.participants 1 = grind (arith, nat_tests, known) in
    record {
      plan = plan_push (unwrap_or read.participants 1) read.plan (plan.Message kind party k twice number) before.plan (record { declared = below; from_1 = ranges.1; few = ranges.2 }) once;
      many = before.many;
      sockets = before.sockets;
      absent = before.absent;
    }))
setup_has read number verb arguments (Mapping party call elsewhere) ranges before =
    passed (is_planned read.plan (mapping_event party call)) bad.Duplicate _ _ (λ once.
    passed (is_strange read party) bad.Unknown _ _ (λ known.
    let below : party < unwrap_or read.participants 1 = grind (arith, nat_tests, known) in
    record {
      plan = plan_push (unwrap_or read.participants 1) read.plan (plan.Mapping party call elsewhere number) before.plan (record { declared = below; from_1 = ranges.1; few = ranges.2 }) once;
      many = before.many;
      sockets = before.sockets;
      absent = before.absent;
    }))

module _ (makers : Makers) where
  with_lines : (read more : Reader) → HasSetup read → more.participants ≡ read.participants → more.plan ≡ read.plan → more.sockets ≡ read.sockets → more.absent ≡ read.absent
      → HasSetup more
  with_lines read more before participants plan sockets absent = record {
    plan = rw (participants, plan) before.plan;
    many = rw sockets before.many;
    sockets = rw sockets before.sockets;
    absent = rw (participants, absent) before.absent;
  }

  said_setup : (read more : Reader) (number : ℕ) (fields : List Part) (said : Shape) → HasSetup read → shape_of fields ≡ Ok said → Adds makers read number said more → HasSetup more
  said_setup read more number [] (Setup setup) before shape adds = absurd cc
  said_setup read more number (first ∷ others) (Setup setup) before shape adds =
      elim (shape_says first others (Setup setup) shape) [
        | inl call ↦ absurd call.1.says
        | inr said ↦ answered HasSetup (setup_step read number setup) more adds.1 (setup_has read number said.1.verb others setup said.1.ranges before)
      ]
  said_setup read more number fields (Does party deed) before shape adds = rw adds.1.added (with_lines read _ before refl refl refl refl)
  said_setup read more number fields (Awaits party other k) before shape adds = rw adds.adds.added (with_lines read _ before refl refl refl refl)

  line_setup : (read more : Reader) (number : ℕ) (line : Part) → HasSetup read → ⊤ → read_line makers read number line ≡ Ok more → HasSetup more
  line_setup read more number line before _ same =
      elim (read_line_says makers read number line more same) [
        | inl skipped ↦ rw skipped.1 before
        | inr says ↦ said_setup read more number (fields_of line) says.1.said before says.1.shape says.1.adds
      ]

-- what the setup lines of an accepted text leave
pub reading_setup : (bytes : Bor (List ℕ)) (read : Reader) → reading_at bytes ≡ Ok read → HasSetup read
unfolding reading_at
reading_setup bytes read same =
    along (makers_of (lines_of bytes)) (λ _ some. HasSetup some) (λ _ _. ⊤) (line_setup (makers_of (lines_of bytes))) (lines_of bytes) nothing read 1 (λ i d within. tt) none same
  where
    none : HasSetup nothing
    none = record {
      plan = record { distinct = λ i j d before within. absurd (omega (arith, within)); entries = λ k d within. absurd (omega (arith, within)) };
      many = refl;
      sockets = record { below = λ k d within. grind (arith, common_steps, within) };
      absent = record { some = omega arith; few = omega arith; primary = refl; declared = omega arith };
    }
