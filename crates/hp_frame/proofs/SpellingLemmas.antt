-- No two messages have one spelling.
use Rattle.std.proofs.Common.{◌≡◌, ℕ, ◌<◌, ◌^◌, List, ◌++◌, length, get_or, take, drop, refl, sym, ap, ◌∙◌, arith}
use Rattle.std.specs.Int.{w32, w64, to_le_bytes, from_le_bytes}
use Rattle.std.proofs.lemmas.List.{take_at, drop_at}
use Rattle.std.proofs.lemmas.Nat.{from_le_bytes-to_le_bytes_4, from_le_bytes-to_le_bytes_8}
use Rattle.hp_frame.specs.declared.kind.Kind.{Kind}
use Rattle.hp_frame.specs.declared.kind.Kind.TheVariants as kinds
use Rattle.hp_frame.specs.declared.message.Body.{Body}
use Rattle.hp_frame.specs.declared.message.Body.TheVariants.{Alloc, Free, Sync, Answer}
use Rattle.hp_frame.specs.declared.message.Message.{Message}
use Rattle.hp_frame.specs.Spelling.{kind_of, byte_of, param_of, spelling, FitsWidths, Spells}

same_u32 : (m n : ℕ) → m < 2 ^ 32 → n < 2 ^ 32 → to_le_bytes w32 m ≡ to_le_bytes w32 n → m ≡ n
same_u32 m n h k e = sym (from_le_bytes-to_le_bytes_4 m h) ∙ ap (λ (l : List ℕ). from_le_bytes w32 l) e ∙ from_le_bytes-to_le_bytes_4 n k

same_u64 : (m n : ℕ) → m < 2 ^ 64 → n < 2 ^ 64 → to_le_bytes w64 m ≡ to_le_bytes w64 n → m ≡ n
same_u64 m n h k e = sym (from_le_bytes-to_le_bytes_8 m h) ∙ ap (λ (l : List ℕ). from_le_bytes w64 l) e ∙ from_le_bytes-to_le_bytes_8 n k

same_kind : (k l : Kind) → byte_of k ≡ byte_of l → k ≡ l
same_kind kinds.Alloc kinds.Alloc e = refl
same_kind kinds.Free kinds.Free e = refl
same_kind kinds.Sync kinds.Sync e = refl
same_kind kinds.Answer kinds.Answer e = refl
same_kind k l e = absurd (omega arith)

-- the numbers in so many bytes after a place
abbrev part : ℕ → ℕ → List ℕ → List ℕ
part at len text = take len (drop at text)

-- bodies of one kind with one parameter are one
same_body : (b c : Body) → kind_of b ≡ kind_of c → FitsWidths b → FitsWidths c → param_of b ≡ param_of c → b ≡ c
same_body (Alloc from number heap socket page size align bound flags) (Alloc from' number' heap' socket' page' size' align' bound' flags') k f g e =
    let from_is : from ≡ from' = ap (λ (l : List ℕ). get_or l 0 0) e in
    let number_is : number ≡ number' = same_u64 number number' f.1 g.1 (ap (part 1 8) e) in
    let heap_is : heap ≡ heap' = same_u32 heap heap' f.2 g.2 (ap (part 9 4) e) in
    let socket_is : socket ≡ socket' = same_u32 socket socket' f.3 g.3 (ap (part 13 4) e) in
    let page_is : page ≡ page' = same_u64 page page' f.4 g.4 (ap (part 17 8) e) in
    let size_is : size ≡ size' = same_u64 size size' f.5 g.5 (ap (part 25 8) e) in
    let align_is : align ≡ align' = same_u64 align align' f.6 g.6 (ap (part 33 8) e) in
    let bound_is : bound ≡ bound' = same_u64 bound bound' f.7 g.7 (ap (part 41 8) e) in
    let flags_is : flags ≡ flags' = same_u32 flags flags' f.8 g.8 (ap (part 49 4) e) in
    cc
same_body (Free from number heap address len) (Free from' number' heap' address' len') k f g e =
    let from_is : from ≡ from' = ap (λ (l : List ℕ). get_or l 0 0) e in
    let number_is : number ≡ number' = same_u64 number number' f.1 g.1 (ap (part 1 8) e) in
    let heap_is : heap ≡ heap' = same_u32 heap heap' f.2 g.2 (ap (part 9 4) e) in
    let address_is : address ≡ address' = same_u64 address address' f.3 g.3 (ap (part 13 8) e) in
    let len_is : len ≡ len' = same_u64 len len' f.4 g.4 (ap (part 21 8) e) in
    cc
same_body (Sync generation round) (Sync generation' round') k f g e =
    let generation_is : generation ≡ generation' = same_u64 generation generation' f.0 g.0 (ap (part 0 8) e) in
    let round_is : round ≡ round' = ap (λ (l : List ℕ). get_or l 8 0) e in
    cc
same_body (Answer from number what code) (Answer from' number' what' code') k f g e =
    let from_is : from ≡ from' = ap (λ (l : List ℕ). get_or l 0 0) e in
    let number_is : number ≡ number' = same_u64 number number' f.1 g.1 (ap (part 1 8) e) in
    let what_is : what ≡ what' = ap (λ (l : List ℕ). get_or l 9 0) e in
    let code_is : code ≡ code' = ap (λ (l : List ℕ). get_or l 10 0) e in
    cc
same_body b c k f g e = absurd cc

message_with : List ℕ → Body → Message
message_with name body = record { name = name; body = body }

same_message_parts : (m n : Message) → m.name ≡ n.name → m.body ≡ n.body → m ≡ n
unfolding message_with
same_message_parts m n a b = ap (λ (x : List ℕ). message_with x m.body) a ∙ ap (λ (x : Body). message_with n.name x) b

-- a text is the frame of one message at most
pub same_message : (text : List ℕ) (m n : Message) → Spells text m → Spells text n → m ≡ n
same_message text m n s t =
    let e : spelling m ≡ spelling n = sym s.is_spelling ∙ t.is_spelling in
    let kinds_are : kind_of m.body ≡ kind_of n.body = same_kind (kind_of m.body) (kind_of n.body) (ap (λ (l : List ℕ). get_or l 0 0) e) in
    let lens_are : length m.name ≡ length n.name = ap (λ (l : List ℕ). get_or l 1 0) e in
    let tails : m.name ++ param_of m.body ≡ n.name ++ param_of n.body = ap (λ (l : List ℕ). drop 4 l) e in
    let names : m.name ≡ n.name = sym (take_at m.name (param_of m.body) (length m.name) refl) ∙ ap (λ (l : List ℕ). take (length m.name) l) tails ∙ take_at n.name (param_of n.body) (length m.name) (sym lens_are) in
    let params : param_of m.body ≡ param_of n.body = sym (drop_at m.name (param_of m.body) (length m.name) refl) ∙ ap (λ (l : List ℕ). drop (length m.name) l) tails ∙ drop_at n.name (param_of n.body) (length m.name) (sym lens_are) in
    same_message_parts m n names (same_body m.body n.body kinds_are s.has_spelling.widths t.has_spelling.widths params)
