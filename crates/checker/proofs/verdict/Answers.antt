-- `checker::verdict` meets its contract: refusals 1 to 4, and those of 5 to 8 behind them.
use mathlib.Core.Path.{sym, ◌∙◌}
use native.Mathlib.Omega.{arith}
use Rattle.std.proofs.lemmas.Result.{err_from_is_err_and}
use Rattle.records.specs.Checked.{checked_fits, checked_length}
use Rattle.checker.specs.Rules.{form_refused, form_passed, terms_refused, terms_passed, structs_refused, structs_passed, functions_refused, functions_passed, functions_hold, typed_refused, typed_passed}
use Rattle.checker.specs.Ranges.{known}
use Rattle.checker.proofs.verdict.Goals as goal

pub term_rules-requires : goal.term_rules-requires
term_rules-requires c = let f = c.args.file.now in let e = c.in_ok-t.ensures in (known f (checked_fits f (sym e.answer)) (checked_length f (sym e.answer)) _ e.tables).counted

pub struct_rules-requires : goal.struct_rules-requires
struct_rules-requires c = let f = c.args.file.now in let e = c.in_ok-t.ensures in (known f (checked_fits f (sym e.answer)) (checked_length f (sym e.answer)) _ e.tables).counted

pub function_rules-requires : goal.function_rules-requires
function_rules-requires c = let f = c.args.file.now in let e = c.in_ok-t.ensures in known f (checked_fits f (sym e.answer)) (checked_length f (sym e.answer)) _ e.tables

pub typed_rules-requires : goal.typed_rules-requires
typed_rules-requires c =
    let f = c.args.file.now in
    let e = c.in_ok-t.ensures in
    let k = known f (checked_fits f (sym e.answer)) (checked_length f (sym e.answer)) _ e.tables in
    record { fact_1 = k; fact_2 = checked_fits f (sym e.answer); fact_3 = λ g l. functions_hold f c.in_ok-function_rules.ensures g (omega (arith, k.functions, l)) }

pub last_rules-requires : goal.last_rules-requires
last_rules-requires c =
    let f = c.args.file.now in
    let e = c.in_ok-t.ensures in
    record { fact_1 = known f (checked_fits f (sym e.answer)) (checked_length f (sym e.answer)) _ e.tables; fact_2 = c.in_ok-runs_on.ensures.last }

pub returns-in_err-t : goal.returns-in_err-t
returns-in_err-t c =
    let p = err_from_is_err_and c.from_residual.result c.from_residual.ensures.1 in
    rw (p.1, p.2) (form_refused _ c.in_err-t.ensures.answer)

pub returns-in_err-term_rules : goal.returns-in_err-term_rules
returns-in_err-term_rules c =
    let f = c.args.file.now in
    let p = err_from_is_err_and c.from_residual-in_err-term_rules.result c.from_residual-in_err-term_rules.ensures.1 in
    rw (p.1, p.2) (terms_refused f c.in_err-term_rules.ensures ∙ form_passed f c.in_ok-t.ensures.answer)

pub returns-in_err-struct_rules : goal.returns-in_err-struct_rules
returns-in_err-struct_rules c =
    let f = c.args.file.now in
    let p = err_from_is_err_and c.from_residual-in_err-struct_rules.result c.from_residual-in_err-struct_rules.ensures.1 in
    rw (p.1, p.2) (structs_refused f c.in_err-struct_rules.ensures ∙ terms_passed f c.in_ok-term_rules.ensures ∙ form_passed f c.in_ok-t.ensures.answer)

pub returns-in_err-function_rules : goal.returns-in_err-function_rules
returns-in_err-function_rules c =
    let f = c.args.file.now in
    let p = err_from_is_err_and c.from_residual-in_err-function_rules.result c.from_residual-in_err-function_rules.ensures.1 in
    rw (p.1, p.2) (functions_refused f c.in_err-function_rules.ensures ∙ structs_passed f c.in_ok-struct_rules.ensures ∙ terms_passed f c.in_ok-term_rules.ensures ∙ form_passed f c.in_ok-t.ensures.answer)

pub returns-in_err-runs_on : goal.returns-in_err-runs_on
returns-in_err-runs_on c =
    let f = c.args.file.now in
    let e = c.in_ok-t.ensures in
    let k = known f (checked_fits f (sym e.answer)) (checked_length f (sym e.answer)) _ e.tables in
    let p = err_from_is_err_and c.from_residual-in_err-runs_on.result c.from_residual-in_err-runs_on.ensures.1 in
    rw (p.1, p.2)
    (typed_refused f k.functions c.in_err-runs_on.ensures.answer ∙ functions_passed f c.in_ok-function_rules.ensures ∙ structs_passed f c.in_ok-struct_rules.ensures ∙ terms_passed f c.in_ok-term_rules.ensures ∙ form_passed f e.answer)

pub returns : goal.returns
returns c =
    let f = c.args.file.now in
    let e = c.in_ok-t.ensures in
    let k = known f (checked_fits f (sym e.answer)) (checked_length f (sym e.answer)) _ e.tables in
    c.last_rules.ensures
    ∙ typed_passed f k.functions c.in_ok-runs_on.ensures.answer
    ∙ functions_passed f c.in_ok-function_rules.ensures
    ∙ structs_passed f c.in_ok-struct_rules.ensures
    ∙ terms_passed f c.in_ok-term_rules.ensures
    ∙ form_passed f e.answer
