-- `state::fields::register` meets its contract: the bytes at its place. Assumes nothing.
use Rattle.state.specs.Reads.{register_is}
use Rattle.words.specs.Bytes.{number}
use mathlib.Core.Path.{sym, ap, ◌∙◌}
use Rattle.state.proofs.fields.register.Goals as goal

pub returns : goal.returns
returns c = c.word_at.ensures ∙ ap (number 4 _) c.register_place.ensures ∙ sym (register_is _ c.requires.1.0 c.requires.1.1)
