-- `walk::file::last_record` meets its contract: the reads, field by field; past the file all is zero. Assumes nothing.
use mathlib.Core.Path.{sym, ◌∙◌}
use Rattle.rules.specs.File.{record_of}
use Rattle.walk.specs.Record.{record_past}
use Rattle.walk.proofs.file.last_record.Goals as goal

pub returns-then-r-f : goal.returns-then-r-f
unfolding record_of
returns-then-r-f c = rw (c.word.ensures, c.byte-then-r-f-3.ensures, c.byte-then-r-f-2.ensures, c.byte-then-r-f.ensures, c.byte.ensures, c.record_start-o.ensures.place)

pub returns-else-r-f : goal.returns-else-r-f
returns-else-r-f c = let e = c.default.ensures in (λ i. record { kind = e.0 i; a = e.1.0 i; b = e.1.1.0 i; c = e.1.1.1.0 i; d = e.1.1.1.1 i }) ∙ sym (record_past _ _ c.if-r-f.false)
