-- `not_local` meets its contract: its local entries. Assumes nothing.
use Rattle.stack.specs.Facts.{local_by}
use Rattle.stack.proofs.untested.UntestedState.not_local.Goals as goal

pub returns : goal.returns
returns c = local_by _ c.head-h.ensures c.from.ensures c.from-2.ensures c.none_leads.ensures
