-- `positions::extent_at` meets its contract: the entry of the term's place.
use Rattle.positions.specs.TableLaws.{entry_term}
use Rattle.positions.proofs.extent_at.Goals as goal

pub returns : goal.returns
returns c = let a = c.args in entry_term a.f.now a.n a.k a.tab.now c.requires a.t c.place_of.result c.place_of.ensures.0 c.extent_in.result c.extent_in.ensures
