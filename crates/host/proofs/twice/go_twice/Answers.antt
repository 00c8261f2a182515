-- `host::twice::go_twice` meets its contract: that of `go` twice, the second time for the state that the first left.
use Rattle.host.specs.Calls.{went_twice}
use Rattle.host.proofs.twice.go_twice.Goals as goal

pub returns : goal.returns
returns c = went_twice c.go-first.ensures c.go-second.ensures
