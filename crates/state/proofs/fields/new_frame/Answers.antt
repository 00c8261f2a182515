-- `state::fields::new_frame` meets its contract: zeros over the frame, then its function. Assumes nothing.
use Rattle.state.specs.NewFrame.{frame_made}
use mathlib.Core.Path.{◌∙◌}
use native.Mathlib.Omega.{arith}
use Rattle.state.proofs.fields.new_frame.Goals as goal

pub returns : goal.returns
returns c = c.put_byte.ensures ∙ frame_made _ _ _ _ _ c.clear_frame.ensures c.function_place.ensures (omega arith)
