-- `frames::begin` meets its contract: what each part reads lies below the frame that is written.
use Rattle.frames.specs.Entered.{begun_is}
use Rattle.frames.proofs.begin.Goals as goal

pub returns : goal.returns
returns c = begun_is _ _ _ _ _ _ _ _ _ _ _ c.requires.1 c.new_frame.ensures c.put_arguments.ensures c.put_parameters.ensures
