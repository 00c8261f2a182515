-- `state::fields::function` meets its contract: the byte at its place. Assumes nothing.
use Rattle.state.specs.Reads.{function_is}
use Rattle.words.specs.Bytes.{byte_at}
use mathlib.Core.Path.{sym, ap, ◌∙◌}
use Rattle.state.proofs.fields.function.Goals as goal

pub returns : goal.returns
returns c = ap (byte_at c.args.s.now) c.function_place-i.ensures ∙ sym (function_is _ c.requires.1)
