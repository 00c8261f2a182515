-- `state::fields::region_of` meets its contract: the byte at its place. Assumes nothing.
use Rattle.state.specs.Reads.{map_is}
use Rattle.words.specs.Bytes.{byte_at}
use mathlib.Core.Path.{sym, ap, ◌∙◌}
use Rattle.state.proofs.fields.region_of.Goals as goal

pub returns : goal.returns
returns c = ap (byte_at c.args.s.now) c.map_place-i.ensures ∙ sym (map_is _ c.requires.1.0 c.requires.1.1)
