-- `pages::bytes::run_in` meets its contract: the places below the lowest unused one are used, and the table gets their number.
use mathlib.Core.Path.{◌∙◌}
use native.Mathlib.Omega.{arith}
use Rattle.rules.specs.Limits.{page_bytes}
use Rattle.pages.specs.Known.{used_lowest, used_set}
use Rattle.pages.specs.Untyped.{run_known}
use Rattle.pages.proofs.bytes.run_in.Goals as goal

pub lowest_run-requires : goal.lowest_run-requires
lowest_run-requires c = (c.requires.0, c.requires.1, omega arith, omega arith, c.requires.4.marked c.args.p c.requires.1)

pub lowest_run-requires-2 : goal.lowest_run-requires-2
lowest_run-requires-2 c =
    let e = c.unwrap_or-from.ensures ∙ run_known c.args.s.now c.args.p c.lowest_run.result c.lowest_run.ensures in
    (c.requires.0, c.requires.1, c.requires.2, c.requires.3, used_lowest c.args.s.now (λ k. (c.type_inv.s k).fits) c.args.p page_bytes c.unwrap_or-from.result e)

pub returns : goal.returns
returns c =
    let s = c.args.s.now in
    let from = c.unwrap_or-from.result in
    let e = c.unwrap_or-from.ensures ∙ run_known s c.args.p c.lowest_run.result c.lowest_run.ensures in
    (c.lowest_run-2.ensures, used_set c.args.known.now s c.args.p from c.requires.1 (used_lowest s (λ k. (c.type_inv.s k).fits) c.args.p page_bytes from e) c.requires.4)
