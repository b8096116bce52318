-- Each arm has the sizes between two limits.
use Rattle.std.proofs.Common.{ℕ, ◌≡◌, arith}
use Rattle.hp_base.specs.Class.{IsClassOf, class_number}
use Rattle.hp_base.proofs.ClassLemmas.{is_class, is_last_class, class_number_of}
use Rattle.hp_base.proofs.class.class_of.Goals as goal

both : (size found : ℕ) → IsClassOf size found → record { class : IsClassOf size found; number : found ≡ class_number size }
both size found is = record { class = is; number = class_number_of size found is }

pub returns-in-0-to-256 : goal.returns-in-0-to-256
returns-in-0-to-256 c = both c.args.size 0 (record { last = omega arith; within = λ _. omega arith; least = λ lower under. absurd (omega arith) })

pub returns-in-257-to-1024 : goal.returns-in-257-to-1024
returns-in-257-to-1024 c = both c.args.size 1 (is_class c.args.size 1 (omega arith) (omega arith) (omega arith))

pub returns-in-1025-to-4096 : goal.returns-in-1025-to-4096
returns-in-1025-to-4096 c = both c.args.size 2 (is_class c.args.size 2 (omega arith) (omega arith) (omega arith))

pub returns-in-4097-to-16384 : goal.returns-in-4097-to-16384
returns-in-4097-to-16384 c = both c.args.size 3 (is_class c.args.size 3 (omega arith) (omega arith) (omega arith))

pub returns-in-16385-to-65536 : goal.returns-in-16385-to-65536
returns-in-16385-to-65536 c = both c.args.size 4 (is_class c.args.size 4 (omega arith) (omega arith) (omega arith))

pub returns-in-65537-to-262144 : goal.returns-in-65537-to-262144
returns-in-65537-to-262144 c = both c.args.size 5 (is_class c.args.size 5 (omega arith) (omega arith) (omega arith))

pub returns-in-262145-to-1048576 : goal.returns-in-262145-to-1048576
returns-in-262145-to-1048576 c = both c.args.size 6 (is_class c.args.size 6 (omega arith) (omega arith) (omega arith))

pub returns-in-1048577-to-4194304 : goal.returns-in-1048577-to-4194304
returns-in-1048577-to-4194304 c = both c.args.size 7 (is_class c.args.size 7 (omega arith) (omega arith) (omega arith))

pub returns-in-4194305-to-16777216 : goal.returns-in-4194305-to-16777216
returns-in-4194305-to-16777216 c = both c.args.size 8 (is_class c.args.size 8 (omega arith) (omega arith) (omega arith))

pub returns-in-16777217-to-67108864 : goal.returns-in-16777217-to-67108864
returns-in-16777217-to-67108864 c = both c.args.size 9 (is_class c.args.size 9 (omega arith) (omega arith) (omega arith))

pub returns-in-67108865-to-268435456 : goal.returns-in-67108865-to-268435456
returns-in-67108865-to-268435456 c = both c.args.size 10 (is_class c.args.size 10 (omega arith) (omega arith) (omega arith))

pub returns-in-268435457-to-1073741824 : goal.returns-in-268435457-to-1073741824
returns-in-268435457-to-1073741824 c = both c.args.size 11 (is_class c.args.size 11 (omega arith) (omega arith) (omega arith))

pub returns-in_default : goal.returns-in_default
returns-in_default c = both c.args.size 12 (is_last_class c.args.size (omega arith))
