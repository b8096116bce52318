-- What the judge of participant 0 denies, by what its lines left: the rule "Lines" of docs/PARTICIPANTS.md.
use Rattle.hp_serve.specs.Denials.{Denials, denials_by}
use Rattle.hp_proc.specs.Courses.{Standing}

-- what a participant's lines left denies: the first of the validators that they left, in the order of their registration, that does
abbrev pub denials_of : Standing → Denials
denials_of standing = denials_by standing.validators
