-- `terms::head_term` meets its contract: the head at the term's place.
use Rattle.terms.specs.Readers.{head_reads}
use Rattle.terms.proofs.head_term.Goals as goal

pub returns : goal.returns
returns c = let a = c.args in head_reads a.f.now a.n c.requires a.t c.place_of.result c.place_of.ensures.0 c.head_of.result c.head_of.ensures.0 c.head_of.ensures.1
