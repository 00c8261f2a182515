-- `fits::term_fits` meets its contract: by the kind. Assumes nothing.
use native.Mathlib.Omega.{arith}
use Rattle.fits.specs.Terms.{term_integer, term_pointer, term_array, term_struct, term_none}
use Rattle.fits.proofs.term_fits.Goals as goal
use Rattle.fits.proofs.term_fits.Goals.{in-1, in-2, in-3, in-4, in_default}

pub returns : goal.returns
returns c =
    let t = c.args.end in
    let v = c.args.w in
    let x = c.args.x in
    elim c.match-x.branch [
      | in-1 w ↦ rw (w.result-is, w.integer_fits.ensures) (term_integer t v x w.in-1.is)
      | in-2 w ↦ rw (w.result-is, w.pointer_fits.ensures) (term_pointer t v x w.in-2.is)
      | in-3 w ↦ rw (w.result-is, w.array_fits.ensures) (term_array t v x w.in-3.is)
      | in-4 w ↦ rw (w.result-is, w.struct_fits.ensures) (term_struct t v x w.in-4.is)
      | in_default w ↦ rw w.result-is (term_none t v x (λ e. omega arith) (λ e. omega arith) (λ e. omega arith) (λ e. omega arith))
    ]
