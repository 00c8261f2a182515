-- `positions::extents` meets its contract: the entries of the places up to t are filled.
use Prim.Native.Nat.{ℕ}
use Rattle.positions.specs.TableLaws.{few_args, core_fits, filled_none, filled_more, filled_table, sizes_none, sizes_more}
use lib.ListN.{length-replicate, length-set}
use mathlib.Core.Path.{◌∙◌}
use native.Mathlib.Omega.{arith}
use Rattle.positions.proofs.extents.Goals as goal

pub loop-t-init : goal.loop-t-init
loop-t-init c = let a = c.args in (length-replicate {A = ℕ} 128 0, filled_none a.f.now a.k _, sizes_none a.f.now a.k)

pub core_of-c-requires : goal.core_of-c-requires
core_of-c-requires c = let l = c.loop-t-test.true in (omega arith, c.requires.0.terms, few_args c.args.f.now c.args.n c.requires.1)

pub loop-t-preserved : goal.loop-t-preserved
loop-t-preserved c =
    let a = c.args in
    let l = c.loop-t in
    let core = c.core_of-c.ensures in (
      length-set l.tab l.t c.entry.result ∙ l.invariant.0,
      filled_more a.f.now a.k l.tab l.t c.term_extent-e.result c.core_of-c.result c.entry.result (omega (arith, c.requires.0.terms.few, l.invariant.0)) l.invariant.1 c.term_extent-e.ensures.0 c.term_extent-e.ensures.1 core
          (core_fits a.f.now _ c.core_of-c.result (omega (arith, c.requires.0.terms.few)) core) c.entry.ensures,
      sizes_more a.f.now a.k l.t c.term_extent-e.result l.invariant.2 c.term_extent-e.ensures.0 c.term_extent-e.ensures.1,
    )

pub returns : goal.returns
returns c = let a = c.args in
    filled_table a.f.now (λ i. let b = c.type_inv.f i in omega arith) a.n a.k c.requires.0 c.requires.1 c.loop-t.tab c.loop-t.t c.loop-t-test.false c.loop-t.invariant.1 (λ p l. c.loop-t.invariant.2 p (omega arith))
