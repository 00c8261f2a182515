-- `state::fields::owner` meets its contract: the byte at its place. Assumes nothing.
use Rattle.state.specs.Reads.{owner_is}
use Rattle.words.specs.Bytes.{byte_at}
use mathlib.Core.Path.{sym, ap, ◌∙◌}
use Rattle.state.proofs.fields.owner.Goals as goal

pub returns : goal.returns
returns c = ap (byte_at c.args.s.now) c.owner_place-i.ensures ∙ sym (owner_is _ c.requires.1)
