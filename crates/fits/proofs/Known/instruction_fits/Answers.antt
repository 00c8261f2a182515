-- `fits::Known::instruction_fits` meets its contract: operand by operand. Assumes nothing.
use Rattle.operands.specs.Classes.{numbered}
use Rattle.rules.specs.Records.{instruction_fits}
use Rattle.fits.proofs.Known.instruction_fits.Goals as goal

pub returns : goal.returns
unfolding instruction_fits
returns c =
    let n = numbered c.classes.ensures in
    rw (
      c.operand_fits-d.ensures,
      c.operand_fits-c.ensures,
      c.operand_fits-b.ensures,
      c.operand_fits-a.ensures,
      c.from-3.ensures,
      c.from-2.ensures,
      c.from.ensures,
      c.region_bytes_fit-regions.ensures,
      c.callee_fits-callee.ensures,
      c.is_instruction.ensures,
      n.a,
      n.b,
      n.c,
      n.d,
    )
