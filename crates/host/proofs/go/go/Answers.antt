-- `host::go::go` meets its contract: that of `go_at` with all pages.
use Rattle.host.proofs.go.go.Goals as goal

pub returns : goal.returns
returns c = rw c.all_pages.ensures at c.go_at.ensures
