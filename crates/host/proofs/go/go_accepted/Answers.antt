-- `host::go::go_accepted` meets its contract: rules' order of refusals.
use mathlib.Core.Path.{refl}
use native.Mathlib.Omega.{arith}
use Rattle.host.specs.Going.{lengths, go_form, go_length, went_refused}
use Rattle.host.proofs.go.go_accepted.Goals as goal

pub returns-then-form-gt-MOST_FORM : goal.returns-then-form-gt-MOST_FORM
returns-then-form-gt-MOST_FORM c = went_refused refl refl (go_form _ _ _ _ _ _ c.requires (omega (arith, c.if-form-gt-MOST_FORM.true)))

pub go_tested-requires : goal.go_tested-requires
go_tested-requires c = record { fact_1 = c.requires; fact_2 = (c.if-form-gt-MOST_FORM.false, (lengths c.args.s.now c.args.o.now c.if-s-o.true).0, (lengths c.args.s.now c.args.o.now c.if-s-o.true).1) }

pub returns-else-s-o : goal.returns-else-s-o
returns-else-s-o c = went_refused refl refl (go_length _ _ _ _ _ _ c.requires c.if-form-gt-MOST_FORM.false c.if-s-o.false)
