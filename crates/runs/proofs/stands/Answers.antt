-- `runs::stands` meets its contract: page, owner, then the place in the page.
use Rattle.runs.specs.Runs.{stands_in}
use Rattle.std.proofs.Common.{arith, rules}
use Rattle.runs.proofs.stands.Goals as goal

pub returns : goal.returns
returns c = let a = c.args in stands_in a.f.now a.r.0 a.owner a.u a.p.now a.a a.t a.q.now (let h = c.if-a-ge-MEMORY_BYTES.false in omega arith) (search (rules, c.if-not-owned.false, c.owned.ensures)) c.in_page.result c.in_page.ensures
