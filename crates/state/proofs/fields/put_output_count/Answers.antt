-- `state::fields::put_output_count` meets its contract: a put at its place. Assumes nothing.
use Rattle.words.specs.Bytes.{put}
use borrow.Author.Rules.{rules}
use Rattle.state.proofs.fields.put_output_count.Goals as goal

pub returns : goal.returns
unfolding put
returns c = search rules
