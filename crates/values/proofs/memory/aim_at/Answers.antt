-- `values::memory::aim_at` meets its contract: the last aim, or a new one of which nothing is remembered. Assumes nothing.
use mathlib.Core.Path.{subst}
use Rattle.values.specs.Memory.{LastHolds, aim_same}
use Rattle.values.proofs.memory.aim_at.Goals as goal

pub returns-then-same_places : goal.returns-then-same_places
returns-then-same_places c =
    aim_same
    (subst (λ a. LastHolds c.args.typed.now.state.file.now c.args.typed.now.state.bytes.now c.args.n a c.args.memo.now) c.in-Some.is c.requires.last)
    c.args.typed.now.table.counted.terms c.place_of-there.ensures.0 c.place_of-here.ensures.0 c.same_places.ensures c.if-same_places.true
