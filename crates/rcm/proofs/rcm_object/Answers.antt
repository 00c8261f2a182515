-- The numbers of the part follow from its length.
use Rattle.std.proofs.Common.{◌∙◌}
use Rattle.host.specs.Reading.{object_numbers}
use Rattle.rcm.proofs.rcm_object.Goals as goal

pub returns : goal.returns
returns c = c.part_numbers.ensures ∙ object_numbers _ _ c.inspect-part.ensures
