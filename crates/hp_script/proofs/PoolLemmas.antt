-- The pools of an accepted text are within their limits, and no two are of one socket and page size.
use Rattle.std.proofs.Common.{◌≡◌, ℕ, ◌+◌, ◌<◌, false, List, [], ◌∷◌, length, get_or, inl, inr, arith}
use Rattle.std.specs.Prelude.{Ok, IfOk, ⊤, nat_le, nat_lt, is_some}
use Rattle.std.specs.List.{list_any}
use Rattle.std.proofs.lemmas.List.Elements.{All-push}
use Rattle.std.proofs.lemmas.List.Quantifiers.{all_pairs_push}
use Rattle.std.proofs.lemmas.Grind.{common_steps}
use Rattle.std.proofs.lemmas.Bool.Decides.{nat_tests}
use Rattle.hp_base.specs.PoolLines.{IsPoolLine, IsOtherPool, ArePoolLines}
use Rattle.hp_base.specs.declared.pool_line.PoolLine.{PoolLine}
use denote.Ref.{Bor}
use Rattle.hp_script.specs.Part.{Part}
use Rattle.hp_script.specs.Text.{lines_of, fields_of}
use Rattle.hp_script.specs.Marks.{is_marked}
use Rattle.hp_script.specs.Counts.{segments_of, is_same_pool, message_event, mapping_event, is_planned}
use Rattle.hp_script.specs.Makers.{Makers, makers_of}
use Rattle.hp_script.specs.Setups.{nothing, is_strange, set_participants, set_absent, set_socket, set_deadline, add_pool, add_message, add_mapping, setup_step}
use Rattle.hp_script.specs.ShapeWords.Shapes.{shape_of}
use Rattle.hp_script.specs.Reading.{read_line}
use Rattle.hp_script.specs.Workloads.{reading_at}
use Rattle.hp_script.specs.declared.bad_kind.BadKind.TheVariants as bad
use Rattle.hp_script.specs.declared.verb.SetupVerb.{SetupVerb}
use Rattle.hp_script.specs.declared.shape.Setup.{Setup as SetupLine}
use Rattle.hp_script.specs.declared.shape.Setup.TheVariants.{Participants, Absent, Socket, Deadline, Pool, Message, Mapping}
use Rattle.hp_script.specs.declared.shape.Shape.{Shape}
use Rattle.hp_script.specs.declared.shape.Shape.TheVariants.{Setup, Does, Awaits}
use Rattle.hp_script.specs.declared.reader.Reader.{Reader}
use Rattle.hp_script.proofs.SetupRanges.{IsSetupBy}
use Rattle.hp_script.proofs.ActLemmas.{shape_says}
use Rattle.hp_script.proofs.StepLemmas.{passed, answered, Adds, read_line_says, along}

-- the pools that were read keep their limits
abbrev HasPools : Reader → Type 0
HasPools read = ArePoolLines read.pools

is_other : (pool other : PoolLine) → is_same_pool pool other ≡ false → IsOtherPool other pool
is_other pool other differs = λ same. absurd (grind (arith, nat_tests, differs, same.0, same.1))

none_same : (pools : List PoolLine) (pool : PoolLine) → list_any (is_same_pool pool) pools ≡ false → (k : ℕ) (d : PoolLine) → k < length pools → is_same_pool pool (get_or pools k d) ≡ false
none_same pools pool none k d within = grind (arith, common_steps, none)

setup_pools : (read : Reader) (number : ℕ) (verb : SetupVerb) (arguments : List Part) (setup : SetupLine) → IsSetupBy verb arguments setup → HasPools read → IfOk (setup_step read number setup) HasPools
unfolding set_participants set_absent set_socket set_deadline add_pool add_message add_mapping
setup_pools read number verb arguments (Participants count) ranges before = passed (is_some read.participants) bad.Duplicate _ _ (λ once. before)
setup_pools read number verb arguments (Absent party) ranges before =
    passed (is_marked read.absent party) bad.Duplicate _ _ (λ once. passed (is_strange read party) bad.Unknown _ _ (λ declared. before))
setup_pools read number verb arguments (Socket party socket) ranges before =
    passed (is_marked read.placed party) bad.Duplicate _ _ (λ once. passed (is_strange read party) bad.Unknown _ _ (λ declared. before))
setup_pools read number verb arguments (Deadline ms) ranges before = passed (is_some read.deadline) bad.Duplicate _ _ (λ once. before)
setup_pools read number verb arguments (Pool pool) ranges before =
    passed (list_any (is_same_pool pool) read.pools) bad.Duplicate _ _ (λ once.
    passed (nat_le 128 (length read.pools)) bad.Limit _ _ (λ lists.
    passed (nat_lt 16384 (segments_of read.pools + pool.slots)) bad.Limit _ _ (λ segments.
    record {
      few = grind (arith, common_steps, lists);
      lines = All-push IsPoolLine read.pools pool before.lines ranges.1;
      distinct = all_pairs_push IsOtherPool read.pools pool before.distinct (λ k d within. is_other pool (get_or read.pools k d) (none_same read.pools pool once k d within));
      slots = grind (arith, common_steps, segments);
    })))
setup_pools read number verb arguments (Message kind party k twice) ranges before =
    passed (is_planned read.plan (message_event kind party k)) bad.Duplicate _ _ (λ once. passed (is_strange read party) bad.Unknown _ _ (λ declared. before))
setup_pools read number verb arguments (Mapping party call elsewhere) ranges before =
    passed (is_planned read.plan (mapping_event party call)) bad.Duplicate _ _ (λ once. passed (is_strange read party) bad.Unknown _ _ (λ declared. before))

module _ (makers : Makers) where
  said_pools : (read more : Reader) (number : ℕ) (fields : List Part) (said : Shape) → HasPools read → shape_of fields ≡ Ok said → Adds makers read number said more → HasPools more
  said_pools read more number [] (Setup setup) before shape adds = absurd cc
  said_pools read more number (first ∷ others) (Setup setup) before shape adds =
      elim (shape_says first others (Setup setup) shape) [
        | inl call ↦ absurd call.1.says
        | inr said ↦ answered HasPools (setup_step read number setup) more adds.1 (setup_pools read number said.1.verb others setup said.1.ranges before)
      ]
  said_pools read more number fields (Does party deed) before shape adds = rw adds.1.added before
  said_pools read more number fields (Awaits party other k) before shape adds = rw adds.adds.added before

  line_pools : (read more : Reader) (number : ℕ) (line : Part) → HasPools read → ⊤ → read_line makers read number line ≡ Ok more → HasPools more
  line_pools read more number line before _ same =
      elim (read_line_says makers read number line more same) [
        | inl skipped ↦ rw skipped.1 before
        | inr says ↦ said_pools read more number (fields_of line) says.1.said before says.1.shape says.1.adds
      ]

-- the pools of an accepted text
pub reading_pools : (bytes : Bor (List ℕ)) (read : Reader) → reading_at bytes ≡ Ok read → ArePoolLines read.pools
unfolding reading_at
reading_pools bytes read same =
    along (makers_of (lines_of bytes)) (λ _ some. HasPools some) (λ _ _. ⊤) (line_pools (makers_of (lines_of bytes))) (lines_of bytes) nothing read 1 (λ i d within. tt) none same
  where
    none : HasPools nothing
    none = record { few = omega arith; lines = λ k d within. absurd (omega (arith, within)); distinct = λ i j d before within. absurd (omega (arith, within)); slots = omega arith }
