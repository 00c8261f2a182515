-- `walk::file::byte_at` meets its contract: the read; past the file all is zero. Assumes nothing.
use mathlib.Core.Path.{sym, ◌∙◌}
use native.Mathlib.Omega.{arith}
use Rattle.walk.specs.Record.{byte_in, byte_none, record_past}
use Rattle.walk.proofs.file.byte_at.Goals as goal

pub returns-then-r-f : goal.returns-then-r-f
returns-then-r-f c = rw c.record_start.ensures.place at c.byte.ensures ∙ byte_in c.args.f.now (λ i. omega (arith, c.type_inv.f i)) c.args.r c.args.j c.requires

pub returns-else-r-f : goal.returns-else-r-f
returns-else-r-f c = sym (rw (record_past _ _ c.if-r-f.false) (byte_none c.args.j))
