-- `operands::operand_fits` meets its contract: class by class. Assumes nothing.
use Rattle.operands.specs.declared.Class.TheVariants.{Unused, Register, Function, Target, Operation, Any, Regions}
use Rattle.operands.specs.Classes.{by_number}
use Rattle.operands.proofs.operand_fits.Goals as goal

pub returns-in-Unused : goal.returns-in-Unused
returns-in-Unused c = rw c.in-Unused.is (by_number c.args.v c.args.w.registers c.args.w.instructions c.args.function_there c.args.regions_right Unused)

pub returns-in-Register : goal.returns-in-Register
returns-in-Register c = rw c.in-Register.is (by_number c.args.v c.args.w.registers c.args.w.instructions c.args.function_there c.args.regions_right Register)

pub returns-in-Function : goal.returns-in-Function
returns-in-Function c = rw c.in-Function.is (by_number c.args.v c.args.w.registers c.args.w.instructions c.args.function_there c.args.regions_right Function)

pub returns-in-Target : goal.returns-in-Target
returns-in-Target c = rw c.in-Target.is (by_number c.args.v c.args.w.registers c.args.w.instructions c.args.function_there c.args.regions_right Target)

pub returns-in-Operation : goal.returns-in-Operation
returns-in-Operation c = rw c.in-Operation.is (by_number c.args.v c.args.w.registers c.args.w.instructions c.args.function_there c.args.regions_right Operation)

pub returns-in-Any : goal.returns-in-Any
returns-in-Any c = rw c.in-Any.is (by_number c.args.v c.args.w.registers c.args.w.instructions c.args.function_there c.args.regions_right Any)

pub returns-in-Regions : goal.returns-in-Regions
returns-in-Regions c = rw c.in-Regions.is (by_number c.args.v c.args.w.registers c.args.w.instructions c.args.function_there c.args.regions_right Regions)
