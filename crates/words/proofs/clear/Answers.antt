-- `words::clear` meets its contract: the part of n bytes holds zeros now. Assumes nothing.
use Rattle.words.specs.ByteLaws.{fill_part}
use Rattle.words.proofs.clear.Goals as goal

pub returns : goal.returns
returns c = fill_part _ _ _ 0 _ (c.fill.ensures.after (λ y e. e)) c.requires
