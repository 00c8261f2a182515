-- `chain::place` meets its contract: the place after i instructions. Assumes nothing.
use native.Mathlib.Omega.{arith}
use Rattle.stack.specs.Facts.{start_few}
use Rattle.chain.specs.Chain.{place_few, place_is}
use Rattle.chain.proofs.place.Goals as goal

pub code_at-at-requires : goal.code_at-at-requires
code_at-at-requires c = omega (arith, c.start_of-h.ensures, start_few c.args.state.now.file.now c.args.g c.args.state.now.known.short)

pub skip-requires : goal.skip-requires
skip-requires c = (place_few c.args.state.now.file.now c.args.g c.args.state.now.known.short c.args.state.now.file_bytes c.start_of-h.ensures c.code_at-at.ensures, c.requires.1.0)

pub returns : goal.returns
returns c = place_is _ _ _ c.requires.1.1 c.start_of-h.ensures c.code_at-at.ensures c.skip.ensures
