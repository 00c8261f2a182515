-- `opening::open_accepted` meets its contract: rules' order of refusals, and then the first state.
use mathlib.Core.Path.{refl}
use Rattle.opening.specs.Opening.{params_are, locals_are, params_few, locals_few, open_arguments, open_length, open_opened, opened_refused, opened_made}
use Rattle.opening.proofs.open_accepted.Goals as goal

pub returns-then-arguments-params : goal.returns-then-arguments-params
returns-then-arguments-params c = opened_refused refl (open_arguments _ _ _ _ c.requires (params_are _ c.head_of-h.ensures c.parameters_of-params.ensures) c.if-arguments-params.true)

pub returns-then-s-ne-STATE_BYTES : goal.returns-then-s-ne-STATE_BYTES
returns-then-s-ne-STATE_BYTES c = opened_refused refl (open_length _ _ _ _ c.requires (params_are _ c.head_of-h.ensures c.parameters_of-params.ensures) c.if-arguments-params.false c.if-s-ne-STATE_BYTES.true)

pub fresh-requires : goal.fresh-requires
fresh-requires c =
    let accepted = c.requires in
    let params = params_are _ c.head_of-h.ensures c.parameters_of-params.ensures in
    let locals = locals_are _ c.head_of-h.ensures c.from.ensures in
    (c.if-s-ne-STATE_BYTES.false, params_few _ accepted params, c.if-arguments-params.false, locals_few _ accepted locals)

pub returns : goal.returns
returns c =
    let params = params_are _ c.head_of-h.ensures c.parameters_of-params.ensures in
    let locals = locals_are _ c.head_of-h.ensures c.from.ensures in
    opened_made (c.fresh.ensures _ params locals)
    (open_opened _ _ _ _ c.requires params c.if-arguments-params.false c.if-s-ne-STATE_BYTES.false)
