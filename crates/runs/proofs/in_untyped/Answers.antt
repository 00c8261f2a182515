-- `runs::in_untyped` meets its contract: page, owner, type, then the bytes to the end of the page.
use Rattle.runs.specs.Runs.{untyped_far, untyped_other, untyped_typed, untyped_in}
use Rattle.std.proofs.Common.{arith, rules}
use Rattle.runs.proofs.in_untyped.Goals.{then-a-ge-MEMORY_BYTES-via-then-a-ge-MEMORY_BYTES, then-a-ge-MEMORY_BYTES-via-else-a-ge-MEMORY_BYTES+then-not-owned, then-a-ge-MEMORY_BYTES-via-else-a-ge-MEMORY_BYTES+else-not-owned+then-u-ne-UNTYPED}
use Rattle.runs.proofs.in_untyped.Goals as goal

pub returns-then-a-ge-MEMORY_BYTES : goal.returns-then-a-ge-MEMORY_BYTES
returns-then-a-ge-MEMORY_BYTES c =
    elim c.then-a-ge-MEMORY_BYTES.branch [
      | then-a-ge-MEMORY_BYTES-via-then-a-ge-MEMORY_BYTES w ↦ untyped_far c.args.r.0 c.args.owner c.args.u c.args.a c.args.size w.if-a-ge-MEMORY_BYTES.true
      | then-a-ge-MEMORY_BYTES-via-else-a-ge-MEMORY_BYTES+then-not-owned w ↦ untyped_other c.args.r.0 c.args.owner c.args.u c.args.a c.args.size (search (rules, w.if-not-owned.true, w.owned.ensures))
      | then-a-ge-MEMORY_BYTES-via-else-a-ge-MEMORY_BYTES+else-not-owned+then-u-ne-UNTYPED w ↦ untyped_typed c.args.r.0 c.args.owner c.args.u c.args.a c.args.size w.if-u-ne-UNTYPED.true
    ]

pub returns : goal.returns
returns c = untyped_in c.args.r.0 c.args.owner c.args.u c.args.a c.args.size (let h = c.if-a-ge-MEMORY_BYTES.false in omega arith) (search (rules, c.if-not-owned.false, c.owned.ensures)) c.if-u-ne-UNTYPED.false
