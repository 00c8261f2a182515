-- `walk::file::entry_of` meets its contract: the entries are seven. Assumes nothing.
use mathlib.Core.Path.{◌∙◌}
use borrow.Author.Rules.{rules}
use Rattle.walk.specs.Record.{entry_at}
use Rattle.walk.proofs.file.entry_of.Goals as goal

pub returns : goal.returns
returns c = (rw (c.min.ensures, c.entries.ensures) at c.from.ensures ∙ entry_at c.args.x c.args.i, search rules)
