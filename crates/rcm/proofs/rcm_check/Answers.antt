-- The counts of every verdict are small.
use Rattle.rcm.specs.Answer.{small_counts}
use Rattle.rcm.proofs.rcm_check.Goals as goal

pub check_numbers-requires : goal.check_numbers-requires
check_numbers-requires c = small_counts _ _ c.verdict-v.ensures
