-- `host::object::object_at` meets its contract: the verdict first.
use mathlib.Core.Path.{refl}
use Rattle.guarantees.specs.Accepted.{says_accepted}
use Rattle.host.specs.Reading.{object_refused}
use Rattle.host.proofs.object.object_at.Goals as goal

pub object_accepted-requires : goal.object_accepted-requires
object_accepted-requires c = says_accepted _ c.in-Ok.ensures refl

pub returns-in-Err-clause-answer : goal.returns-in-Err-clause-answer
returns-in-Err-clause-answer c = object_refused _ _ _ _ c.in-Err.ensures refl
