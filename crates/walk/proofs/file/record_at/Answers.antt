-- `walk::file::record_at` meets its contract: the reads, field by field, of a record whose block is in the file. Assumes nothing.
use Rattle.rules.specs.File.{record_of}
use Rattle.walk.proofs.file.record_at.Goals as goal

pub returns-then-r-f : goal.returns-then-r-f
unfolding record_of
returns-then-r-f c = rw (c.word_at.ensures, c.record_start-o.ensures.place)
