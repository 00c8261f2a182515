-- `terms::inner` meets its contract: the place inside as a term number.
use Rattle.terms.specs.Readers.{inner_reads, place_back, place_nothing}
use Rattle.terms.proofs.inner.Goals as goal

pub returns-then-p-gt0 : goal.returns-then-p-gt0
returns-then-p-gt0 c = let a = c.args in
    inner_reads a.f.now a.n _ c.head_term.result c.head_term.ensures c.requires _ (place_back a.f.now a.n _ c.head_term.result c.head_term.ensures c.inner_no-p.result c.inner_no-p.ensures c.if-p-gt0.true)

pub returns-else-p-gt0 : goal.returns-else-p-gt0
returns-else-p-gt0 c = let a = c.args in
    inner_reads a.f.now a.n _ c.head_term.result c.head_term.ensures c.requires _ (place_nothing a.f.now a.n _ c.head_term.result c.head_term.ensures c.inner_no-p.result c.inner_no-p.ensures c.if-p-gt0.false)
