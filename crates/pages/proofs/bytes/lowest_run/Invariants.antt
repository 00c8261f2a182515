use Prim.Native.Nat.{◌-◌, ◌<◌, ◌≤◌}
use Rattle.rules.specs.State.{page_mark}
use Rattle.state.specs.Runs.{Scanned}
use Rattle.pages.proofs.bytes.lowest_run.Given as goal

abbrev pub invariant-loop-k : goal.invariant-loop-k
invariant-loop-k l = record {
  above : l.start ≤ l.k;
  short : l.k - l.start < l.c;
  scanned : Scanned (page_mark l.s) l.c l.p l.start (l.k - l.start);
}
