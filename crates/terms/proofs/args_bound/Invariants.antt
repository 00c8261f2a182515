use Rattle.std.proofs.Common.{◌≡◌, max}
use Rattle.terms.specs.Bounds.{bound_of, args_bound}
use Rattle.terms.specs.Heads.{args_of}
use Rattle.terms.proofs.args_bound.Given as goal

abbrev pub invariant-loop-i : goal.invariant-loop-i
invariant-loop-i l = max l.best (args_bound l.d l.i l.n) ≡ bound_of (args_of l.d l.n)
