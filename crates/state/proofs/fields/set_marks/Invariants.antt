use mathlib.Core.Path.{◌≡◌}
use lib.ListN.{length}
use Rattle.rules.specs.Limits.{state_bytes}
use Rattle.rules.specs.State.{written, put_marks}
use Rattle.state.specs.Fields.{marks_from}
use Rattle.state.proofs.fields.set_marks.Given as goal

abbrev pub invariant-loop-i : goal.invariant-loop-i
invariant-loop-i l = (length l.s ≡ state_bytes) × (marks_from l.s l.p l.j l.c l.i ≡ written (put_marks l.initial.s l.p l.j l.c) l.initial.s)
