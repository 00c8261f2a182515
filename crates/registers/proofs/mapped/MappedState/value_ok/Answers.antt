-- `value_ok` meets its contract: by the form of its term. Assumes nothing.
use Rattle.stack.specs.Tells.{tells_yes, tells_no}
use Rattle.registers.specs.Value.{number_few}
use Rattle.registers.specs.Registers.{pointing, typed, value_number, value_zero, value_pointer, value_untyped, value_other}
use Rattle.registers.proofs.mapped.MappedState.value_ok.Goals as goal

pub returns-then-kind-eq1 : goal.returns-then-kind-eq1
returns-then-kind-eq1 c = value_number c.form-kind.ensures c.if-kind-eq1.true c.number.ensures c.fits.ensures

pub returns-then-kind : goal.returns-then-kind
returns-then-kind c = tells_no (value_other c.form-kind.ensures c.if-kind-eq1.false c.if-kind.true)

pub returns-then-x-eq0 : goal.returns-then-x-eq0
returns-then-x-eq0 c = tells_yes (value_zero c.form-kind.ensures (pointing _ c.if-kind.false) c.if-x-eq0.true)

pub untyped_at-requires : goal.untyped_at-requires
untyped_at-requires c =
    number_few c.args.self.now.typed.state.file.now c.args.self.now.typed.terms c.args.t c.args.self.now.typed.state.file_bytes c.args.self.now.typed.table.counted.terms c.number-then-kind-eq11.ensures

pub returns-then-kind-eq11 : goal.returns-then-kind-eq11
returns-then-kind-eq11 c =
    value_untyped c.form-kind.ensures c.if-kind-eq11.true c.if-x-eq0.false c.target_region-variable.ensures (rw c.from.ensures at c.region_of-live.ensures) c.number-then-kind-eq11.ensures c.untyped_at.ensures

pub returns-else-kind-eq11 : goal.returns-else-kind-eq11
returns-else-kind-eq11 c =
    value_pointer c.form-kind.ensures (typed _ c.if-kind.false c.if-kind-eq11.false) c.if-x-eq0.false c.target_region-variable.ensures (rw c.from.ensures at c.region_of-live.ensures) c.inner.ensures c.stands_at.ensures
