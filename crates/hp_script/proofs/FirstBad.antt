-- A text that is not read has a first bad line.
use Rattle.std.proofs.Common.{◌≡◌, ℕ, ◌+◌, List, [], ◌∷◌, refl, ap, inl, inr, arith}
use Rattle.std.specs.Prelude.{Result, Ok, Err}
use denote.Ref.{Bor}
use Rattle.hp_script.specs.Part.{Part}
use Rattle.hp_script.specs.Text.{lines_of}
use Rattle.hp_script.specs.Makers.{Makers, makers_of}
use Rattle.hp_script.specs.Setups.{nothing}
use Rattle.hp_script.specs.Reading.{read_line}
use Rattle.hp_script.specs.Workloads.{Refusal, IsFirstBad, NamesFirstBad, IsRefusalOf, read_from, reading_at}
use Rattle.hp_script.specs.declared.bad_kind.BadKind.{BadKind}
use Rattle.hp_script.specs.declared.parse_fault.ParseFault.{ParseFault}
use Rattle.hp_script.specs.declared.parse_fault.ParseFault.TheVariants as parse_fault
use Rattle.hp_script.specs.declared.reader.Reader.{Reader}
use Rattle.hp_script.proofs.TokenFacts.CallTokens.{outcome}

same_refusal : (some other : Refusal) → (let named : Result Reader Refusal = Err some in named ≡ Err other) → some ≡ other
same_refusal some other same = cc

module _ (makers : Makers) (number : ℕ) (kind : BadKind) where
  first_bad : (lines : List Part) (read : Reader) (start : ℕ) → read_from makers read start lines ≡ Err (record { line = number; kind = kind }) → IsFirstBad makers read start lines number kind
  first_bad [] read start same = absurd cc
  first_bad (line ∷ lines) read start same =
      elim (outcome (read_line makers read start line)) [ inr refused ↦ here refused.0 refused.1 (rw refused.1 at same) | inl more ↦ later more.0 more.1 (first_bad lines more.0 (start + 1) (rw more.1 at same)) ]
    where
      here : (found : BadKind) → read_line makers read start line ≡ Err found → (let named : Result Reader Refusal = Err (record { line = start; kind = found }) in named ≡ Err (record { line = number; kind = kind })) → IsFirstBad makers read start (line ∷ lines) number kind
      here found refused named =
          let same : (let some : Refusal = record { line = start; kind = found } in some ≡ record { line = number; kind = kind }) = same_refusal _ _ named in
          let start_is : start ≡ number = ap (λ (refusal : Refusal). refusal.line) same in
          let found_is : found ≡ kind = ap (λ (refusal : Refusal). refusal.kind) same in
          record {
            before = [];
            line = line;
            after = lines;
            so_far = read;
            lines_are = refl;
            accepted = refl;
            number_is = omega (arith, start_is);
            refused = rw (← start_is) (rw (← found_is) refused);
          }

      later : (more : Reader) → read_line makers read start line ≡ Ok more → IsFirstBad makers more (start + 1) lines number kind → IsFirstBad makers read start (line ∷ lines) number kind
      later more accepted rest = record {
        before = line ∷ rest.before;
        line = rest.line;
        after = rest.after;
        so_far = rest.so_far;
        lines_are = ap (λ (others : List Part). line ∷ others) rest.lines_are;
        accepted = rw accepted rest.accepted;
        number_is = omega (arith, rest.number_is);
        refused = rest.refused;
      }

-- the first refusal of a text is that of its first bad line
pub names_first_bad : (bytes : Bor (List ℕ)) (fault : ParseFault) → IsRefusalOf (reading_at bytes) fault → NamesFirstBad bytes fault
unfolding reading_at
names_first_bad bytes (parse_fault.Bad line kind) same = first_bad (makers_of (lines_of bytes)) line kind (lines_of bytes) nothing 1 same
names_first_bad bytes parse_fault.OutOfMemory same = tt
